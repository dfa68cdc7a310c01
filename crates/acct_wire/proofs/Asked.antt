-- Why a datagram requests one entry.
use Rattle.std.proofs.Common.{◌≡◌, ℕ, List, drop, sym}
use Rattle.std.proofs.Common.{◌∙◌, ap, subst, arith}
use Rattle.std.specs.Prelude.{Option, Some, IsTrue, slice_index}
use Rattle.std.proofs.lemmas.Bool.Decides.{nat_tests}
use Rattle.radius_codec.specs.Attributes.{spellings}
use Rattle.radius_codec.proofs.Spelling.{append_parts, Spells_one, Spells-framed}
use Rattle.acct_model.specs.declared.entry.Entry.{Entry}
use Rattle.acct_model.specs.declared.entry.Entry.TheVariants as entries
use Rattle.acct_model.specs.declared.report.ReportKind.{ReportKind}
use Rattle.acct_model.specs.Entries.{Attributes, status_of, kind_of, is_restart, report_of}
use Rattle.acct_model.specs.Entries.{IsEntryOf}
use Rattle.acct_wire.specs.declared.client.Client.{Client}
use Rattle.acct_wire.specs.Hearing.{heard, teller}
use Rattle.acct_wire.specs.Laws.{OneEntryIsAsked}

some_one : {X : Type 0} (o : Option X) (x y : X) → o ≡ Some x → o ≡ Some y → x ≡ y
some_one o x y p q = let same : Some x ≡ Some y = sym p ∙ q in cc

no_kind : (s : ℕ) (k : ReportKind) → kind_of s ≡ Some k → IsTrue (is_restart s) → ⊥
no_kind s k is restarts = grind (arith, nat_tests)

entry_one : (name : List ℕ) (ps : Attributes) (moment : ℕ) (x y : Entry)
    → IsEntryOf name ps moment x → IsEntryOf name ps moment y → x ≡ y
entry_one name ps moment (entries.Report r) (entries.Report s) (n, k, st, is, rep)
    (m, l, su, js, sep) =
    let nm : n ≡ m = some_one (status_of ps) n m st su in
    let kl : k ≡ l = some_one (kind_of n) k l is (ap kind_of nm ∙ js) in
    ap entries.Report (rep ∙ ap (report_of name ps moment) kl ∙ sym sep)
entry_one name ps moment (entries.Report r) (entries.Restart s) (n, k, st, is, rep) (m, su, re, at)
    =
    absurd (no_kind n k is (subst (λ x. IsTrue (is_restart x)) (some_one (status_of ps) m n su st)
    re))
entry_one name ps moment (entries.Restart r) (entries.Report s) (n, st, re, at) (m, l, su, js, sep)
    =
    absurd (no_kind m l js (subst (λ x. IsTrue (is_restart x)) (some_one (status_of ps) n m st su)
    re))
entry_one name ps moment (entries.Restart r) (entries.Restart s) (n, st, re, at) (m, su, se, bt) =
    ap (λ c. entries.Restart (record { client = c })) (at ∙ sym bt)
entry_one name ps moment (entries.TopUp r) y x_is y_is = absurd x_is
entry_one name ps moment (entries.Report r) (entries.TopUp s) x_is y_is = absurd y_is
entry_one name ps moment (entries.Restart r) (entries.TopUp s) x_is y_is = absurd y_is

pub one_entry : OneEntryIsAsked
one_entry clients source bytes moment c d i j a b ps qs one other x y =
    let cd : c ≡ d = some_one _ c d x.known y.known in
    let fronts = sym x.request.framed.front ∙ y.request.framed.front in
    let parts =
    append_parts a b (spellings ps) (spellings qs) (x.request.framed.sixteen
    ∙ sym y.request.framed.sixteen) (ap (λ xs. drop 4 xs) fronts) in
    let same =
    Spells_one _ ps qs (Spells-framed bytes 4 i a ps x.request.framed)
    (Spells-framed bytes 4 j b qs y.request.framed) in
    let told : Client → Attributes → Entry → Type 0 =
    λ k zs entry. IsEntryOf (teller clients.stamping k.name zs) (heard clients.stamping k.name zs)
    moment entry in
    let spelled : told d qs one =
    subst (λ k. told k qs one) cd (subst (λ zs. told c zs one) same x.spelled) in (
      cd,
      ap (λ xs. slice_index xs 1) fronts,
      parts.0,
      same,
      entry_one (teller clients.stamping d.name qs) (heard clients.stamping d.name qs) moment one
          other spelled y.spelled,
    )
