-- What a call of a book answers and leaves, once the answer of its store was kept or all forgotten.
use Rattle.std.proofs.Common.{◌≡◌, true, false, Result, Ok, Err, IsErr, IfOk, MatchResult}
use Rattle.std.proofs.Common.{refl, sym, ap, subst, is_ok}
use Rattle.sqlite.specs.Store.{Ghosts}
use Rattle.sqlite.specs.Held.{Held, state}
use Rattle.acct_book.specs.declared.book.Unavailable.{Unavailable}
use Rattle.acct_book.specs.Content.{Content}
use Rattle.acct_sql.specs.declared.known.Known.{Known}
use Rattle.acct_sql.specs.declared.memory.Memory.{Memory}
use Rattle.acct_sql.specs.inner.Known.{Knows, KeepsOrForgets}
use Rattle.acct_sql.specs.inner.Remembered.{Remembers}
use Rattle.acct_sql.proofs.RememberLemmas.{remembers_read}
use Rattle.acct_sql.proofs.KnownLemmas.{knows_read}
use Rattle.acct_sql_tables.specs.Book.{IsResting, HasReadBook, Wrote, LeavesPlans}
use Rattle.acct_sql_tables.specs.inner.AtRest.{ReadsAtRest, WritesAtRest}
use Rattle.acct_sql_tables.proofs.ReadLemmas.{read_told, read_done, leaves_told}
use Rattle.acct_sql_tables.proofs.CommitLemmas.{wrote_told, wrote_done}

-- a call that failed is told of as another error
pub failed : {T E F : Type 0} {r : Result T E} {before after : Known} {e : F} {told : Result T F}
    → KeepsOrForgets r before after (Err e) → IsErr told
    → KeepsOrForgets r before after told
failed {r = Ok value} kept is = let no : false ≡ true = ap is_ok kept.answers in absurd cc
failed {r = Err e} kept is = record { answers = is; keeps = kept.keeps }

-- ---- a read

if_told : {T E F : Type 0} (r : Result T E) (told : Result T F) (P : T → Type 0)
    → MatchResult r (λ value. told ≡ Ok value) (λ _. IsErr told) → IfOk r P → IfOk told P
if_told {T = T} {F = F} (Ok x) told P is p = subst (λ (t : Result T F). IfOk t P) (sym is) p
if_told (Err e) (Ok x) P is p = let no : false ≡ true = is in absurd cc
if_told (Err e) (Err f) P is p = tt

-- what was found is told of the book that the connection is
pub found_in_answer : {S T E F Q : Type 0} {old inside : S} {r : Result T E} {before after : Known}
    {told : Result T F} (P : S → T → Type 0) → inside ≡ old → KeepsOrForgets r before after told
    → (Q → IfOk r (P inside)) → Q → IfOk told (P old)
found_in_answer {old = old} {r = r} {told = told} P same kept was_found q =
    if_told r told (P old) kept.answers
    (subst (λ k. IfOk r (P k)) same (was_found q))

read_by : {S T E : Type 0} (g : Ghosts S) (old inside new : Held S) (r : Result T E)
    (told : Result T Unavailable) → inside ≡ old
    → MatchResult r (λ value. told ≡ Ok value) (λ _. IsErr told) → HasReadBook g inside new r
    → HasReadBook g old new told
read_by {T = T} g old inside new (Ok x) told same is h =
    subst (λ (t : Result T Unavailable). HasReadBook g old new t) (sym is)
    (read_done g old inside new (Ok x) x x same refl h)
read_by g old inside new (Err e) (Ok x) same is h = let no : false ≡ true = is in absurd cc
read_by g old inside new (Err e) (Err f) same is h = read_told g old inside new (Err e) same h

pub read_in_answer : {S T E : Type 0} {g : Ghosts S} {old inside new : Held S} {r : Result T E}
    {before after : Known} {told : Result T Unavailable} → inside ≡ old
    → ReadsAtRest g inside new r → KeepsOrForgets r before after told → HasReadBook g old new told
read_in_answer {g = g} {old = old} {inside = inside} {new = new} {r = r} {told = told} same read
    kept = read_by g old inside new r told same kept.answers read.read

pub read_leaves : {S T E : Type 0} {g : Ghosts S} {old inside new : Held S} {r : Result T E}
    → inside ≡ old → ReadsAtRest g inside new r → LeavesPlans (state g old) (state g new)
read_leaves {g = g} {old = old} {inside = inside} {new = new} same read =
    leaves_told g old inside new same read.plans

-- what the book holds is true of it after a read
pub still_holds : {S T E F : Type 0} {g : Ghosts S} {old new : Held S} {r : Result T E}
    {memory : Memory} {before after : Known} {told : Result T F} → ReadsAtRest g old new r
    → KeepsOrForgets r before after told
    → IsResting (state g old) × Remembers (state g old) memory × Knows (state g old) before
    → IsResting (state g new) × Remembers (state g new) memory × Knows (state g new) after
still_holds read kept was =
    (read.resting, remembers_read read was.1, knows_read read kept was.2)

-- ---- a write

write_by : {S T E : Type 0} (g : Ghosts S) (old inside new : Held S) (change : Content → Content)
    (r : Result T E) (told : Result T Unavailable) → inside ≡ old
    → MatchResult r (λ value. told ≡ Ok value) (λ _. IsErr told) → Wrote g inside new change r
    → Wrote g old new change told
write_by {T = T} g old inside new change (Ok x) told same is w =
    subst (λ (t : Result T Unavailable). Wrote g old new change t) (sym is)
    (wrote_done g old inside new change (Ok x) x same refl w)
write_by g old inside new change (Err e) (Ok x) same is w =
    let no : false ≡ true = is in absurd cc
write_by g old inside new change (Err e) (Err f) same is w =
    wrote_told g old inside new change (Err e) e same refl w

pub written_in_answer : {S T E : Type 0} {g : Ghosts S} {old inside new : Held S}
    {change : Content → Content} {r : Result T E} {before after : Known}
    {told : Result T Unavailable} → inside ≡ old
    → WritesAtRest g inside new change r → KeepsOrForgets r before after told
    → Wrote g old new change told
written_in_answer {g = g} {old = old} {inside = inside} {new = new} {change = change} {r = r}
    {told = told} same write kept =
    write_by g old inside new change r told same kept.answers write.wrote

pub write_leaves : {S T E : Type 0} {g : Ghosts S} {old inside new : Held S}
    {change : Content → Content} {r : Result T E} → inside ≡ old
    → WritesAtRest g inside new change r → LeavesPlans (state g old) (state g new)
write_leaves {g = g} {old = old} {inside = inside} {new = new} same write =
    leaves_told g old inside new same write.plans
