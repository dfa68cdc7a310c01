-- The first record of a text.
use Rattle.std.proofs.Common.{◌≡◌, ℕ, true, false, List, [], ◌∷◌, Option, Some, None, refl, sym}
use Rattle.std.proofs.Common.{◌∙◌, ap}
use Rattle.std.specs.Prelude.{IfSome}
use Rattle.csv.specs.Reading.{ReadRecord, Reached, default_config, reader_config, reader_state}
use Rattle.csv.specs.Reading.{source_of}
use Rattle.csv.specs.declared.parser.State.{State}
use Rattle.csv.specs.declared.parser.State.TheVariants as st
use Rattle.csv.specs.declared.reader.Reader.{Reader}
use Rattle.csv.proofs.ReadFacts.{rows-end, rows-more}
use Rattle.acct_files.specs.Vouchers.{Fields, is_header}
use Rattle.acct_files.specs.Importing.{has_header}
use Rattle.acct_files.specs.inner.Reading.{HasRead}

known : {X : Type 0} (o : Option X) (P : X → Type 0) → ((x : X) → o ≡ Some x → P x) → IfSome o P
known None P h = tt
known (Some x) P h = h x refl

nothing_read : (text : List ℕ) → Reached default_config st.StartRecord text [] st.StartRecord text
unfolding Reached
nothing_read text = (refl, refl)

other_first : (text : List ℕ) (fields : Fields) (s : State) (rest : List ℕ)
    → Reached default_config st.StartRecord text (fields ∷ []) s rest → is_header fields ≡ false
    → has_header text ≡ false
unfolding Reached
other_first text fields s rest (p, is, same, after) other = rw is (ap is_header (sym same) ∙ other)

module _ {R : Type 0} (remaining : R → Option (List ℕ)) (a b : Reader R) (fields : Fields)
    (config : reader_config a ≡ default_config) (start : reader_state a ≡ st.StartRecord) where
  starts : (t : List ℕ) → Reached default_config st.StartRecord t [] (reader_state a) t
  starts t = rw start (nothing_read t)

  -- the first record was read
  pub first_read : ReadRecord remaining a b true fields
      → HasRead remaining (source_of remaining a) (fields ∷ []) b
  first_read took =
      known (source_of remaining a) _
      (λ t e. rows-more remaining a b fields default_config st.StartRecord t t [] config e
      (starts t) took)

  -- the first record is another
  pub first_other : ReadRecord remaining a b true fields → is_header fields ≡ false
      → IfSome (source_of remaining a) (λ t. has_header t ≡ false)
  first_other took other = known (source_of remaining a) _ (λ t e.
      let (rest, there, reached) = rows-more remaining a b fields default_config st.StartRecord t t
      [] config e (starts t) took in
      other_first t fields (reader_state b) rest reached other)

  -- there is no first record
  pub no_first : ReadRecord remaining a b false fields
      → IfSome (source_of remaining a) (λ t. has_header t ≡ false)
  no_first took = known (source_of remaining a) _ (λ t e.
      let none = rows-end remaining a b fields default_config t config e took in
      rw (rw start at none) refl)
