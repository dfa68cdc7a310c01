-- SQL's = on blobs and integers.
use Rattle.std.proofs.Common.{◌≡◌, ◌&&◌, ℕ, ℤ, List, true, false, Bool, cond, refl, sym, ap, ◌∙◌}
use Rattle.std.proofs.Common.{true≢false, Ordering, Less, Equal, Greater, nat_cmp, int_cmp}
use Rattle.std.specs.Ordering.{is_eq, is_ne}
use Rattle.std.proofs.lemmas.Cmp.{tied_itself}
use Rattle.std.proofs.lemmas.Map.Lookups.{exact_bytes, exact_signed}
use Rattle.sqlite.specs.Collation.TheVariants.{Binary}
use Rattle.sqlite.specs.declared.types.Value.{Value}
use Rattle.sqlite.specs.declared.types.Value.TheVariants.{Null, Int, Real, Text, Blob}
use Rattle.sqlite_sql.specs.Ops.{binary, is_true, from_truth}
use Rattle.sqlite_schema.specs.Rules.{equal, differ, is_of}
use Rattle.sqlite_value.proofs.OrderLemmas.{value_cmp_total, value_cmp-Blob, value_cmp-Int}
use Rattle.sqlite_value.proofs.OrderLemmas.{value_cmp-Text}
use Rattle.std.proofs.lemmas.Slice.Eq.{bytes_eq-Decides}
use Rattle.sqlite_sql.specs.Ops.{unary}
use Rattle.sqlite.specs.Kind.TheVariants as kind
use Rattle.sqlite.specs.Kind.TheVariants.{Integer}
use Rattle.sqlite.specs.Cast.{cast}
use Rattle.acct_sql_tables.specs.Columns.{is_blob, is_text}
use Rattle.sqlite_value.proofs.KeyLemmas.{class_tied}

pub is_equal : (o : Ordering) → is_eq o ≡ true → o ≡ Equal
is_equal Less h = absurd (true≢false (sym h))
is_equal Equal h = refl
is_equal Greater h = absurd (true≢false (sym h))

tested : (b : Bool) → is_true (from_truth (Rattle.std.proofs.Common.Some b)) ≡ true → b ≡ true
tested true h = refl
tested false h = absurd (true≢false (sym h))

pub equal_blob : (v : Value) (b : List ℕ) → equal Binary v (Blob b) ≡ true → v ≡ Blob b
unfolding binary
equal_blob Null b h = absurd (true≢false (sym h))
equal_blob (Int n) b h = absurd (let e = class_tied (Int n) (Blob b) (is_equal _ (tested _ h)) in
    cc)
equal_blob (Real x) b h = absurd (let e = class_tied (Real x) (Blob b) (is_equal _ (tested _ h)) in
    cc)
equal_blob (Text t) b h = absurd (let e = class_tied (Text t) (Blob b) (is_equal _ (tested _ h)) in
    cc)
equal_blob (Blob s) b h = ap Blob (exact_bytes s b (sym (value_cmp-Blob s b)
    ∙ is_equal _ (tested _ h)))

pub blob_equal : (b : List ℕ) → equal Binary (Blob b) (Blob b) ≡ true
unfolding binary
blob_equal b = ap (λ o. is_true (from_truth (Rattle.std.proofs.Common.Some (is_eq o))))
    (tied_itself value_cmp_total (Blob b))

pub equal_text : (v : Value) (t : List ℕ) → equal Binary v (Text t) ≡ true → v ≡ Text t
unfolding binary
equal_text Null t h = absurd (true≢false (sym h))
equal_text (Int n) t h = absurd (let e = class_tied (Int n) (Text t) (is_equal _ (tested _ h)) in
    cc)
equal_text (Real x) t h = absurd (let e = class_tied (Real x) (Text t) (is_equal _ (tested _ h)) in
    cc)
equal_text (Text s) t h = ap Text (exact_bytes s t (sym (value_cmp-Text s t)
    ∙ is_equal _ (tested _ h)))
equal_text (Blob b) t h = absurd (let e = class_tied (Blob b) (Text t) (is_equal _ (tested _ h)) in
    cc)

pub text_equal : (t : List ℕ) → equal Binary (Text t) (Text t) ≡ true
unfolding binary
text_equal t = ap (λ o. is_true (from_truth (Rattle.std.proofs.Common.Some (is_eq o))))
    (tied_itself value_cmp_total (Text t))

pub equal_int : (m n : ℤ) → equal Binary (Int m) (Int n) ≡ true → m ≡ n
unfolding binary
equal_int m n h = exact_signed m n (sym (value_cmp-Int m n) ∙ is_equal _ (tested _ h))

pub int_equal : (n : ℤ) → equal Binary (Int n) (Int n) ≡ true
unfolding binary
int_equal n = ap (λ o. is_true (from_truth (Rattle.std.proofs.Common.Some (is_eq o))))
    (tied_itself value_cmp_total (Int n))

pub blob_is : (name : List ℕ) (v : Value) → is_blob name v ≡ true → v ≡ Blob name
blob_is name Null h = absurd (true≢false (sym h))
blob_is name (Int n) h = absurd (true≢false (sym h))
blob_is name (Real x) h = absurd (true≢false (sym h))
blob_is name (Text t) h = absurd (true≢false (sym h))
blob_is name (Blob b) h = ap Blob ((bytes_eq-Decides b name).0 h)

pub is_its_blob : (name : List ℕ) → is_blob name (Blob name) ≡ true
is_its_blob name = (bytes_eq-Decides name name).1 refl

pub text_is : (name : List ℕ) (v : Value) → is_text name v ≡ true → v ≡ Text name
text_is name Null h = absurd (true≢false (sym h))
text_is name (Int n) h = absurd (true≢false (sym h))
text_is name (Real x) h = absurd (true≢false (sym h))
text_is name (Text t) h = ap Text ((bytes_eq-Decides t name).0 h)
text_is name (Blob b) h = absurd (true≢false (sym h))

pub is_its_text : (name : List ℕ) → is_text name (Text name) ≡ true
is_its_text name = (bytes_eq-Decides name name).1 refl

-- ---- what a column makes of a value that is of its type

either : (b : Bool) (x : Value) → cond b x x ≡ x
either true x = refl
either false x = refl

pub cast_int : (n : ℤ) → cast Integer (Int n) ≡ Int n
unfolding unary
cast_int n = either _ (Int n)

pub cast_null : cast Integer Null ≡ Null
unfolding unary
cast_null = either _ Null

-- NULL or an integer
pub cast_of_int : (v : Value) → is_of Integer v ≡ true → cast Integer v ≡ v
cast_of_int Null h = cast_null
cast_of_int (Int n) h = cast_int n
cast_of_int (Real x) h = absurd (true≢false (sym h))
cast_of_int (Text t) h = absurd (true≢false (sym h))
cast_of_int (Blob b) h = absurd (true≢false (sym h))

pub cast_of_text : (v : Value) → is_of kind.Text v ≡ true → cast kind.Text v ≡ v
cast_of_text Null h = refl
cast_of_text (Int n) h = absurd (true≢false (sym h))
cast_of_text (Real x) h = absurd (true≢false (sym h))
cast_of_text (Text t) h = refl
cast_of_text (Blob b) h = absurd (true≢false (sym h))

-- ---- rowids that differ

untied : (o : Ordering) → is_ne o ≡ false → o ≡ Equal
untied Less h = absurd (true≢false h)
untied Equal h = refl
untied Greater h = absurd (true≢false h)

truth_of : (b : Bool) → is_true (from_truth (Rattle.std.proofs.Common.Some b)) ≡ false → b ≡ false
truth_of true h = absurd (true≢false h)
truth_of false h = refl

pub not_differ : (m n : ℤ) → differ (Int m) (Int n) ≡ false → m ≡ n
unfolding binary
not_differ m n h = exact_signed m n (sym (value_cmp-Int m n) ∙ untied _ (truth_of _ h))

pub and_false : (a b : Bool) → a ≡ true → (a && b) ≡ false → b ≡ false
and_false true b h k = k
and_false false b h k = absurd (true≢false (sym h))
