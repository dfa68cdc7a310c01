-- What the refusals of a packet's attributes say.
use Rattle.std.proofs.Common.{◌≡◌, ℕ, ◌+◌, ◌^◌, ◌<◌, inl, inr, eqb, Bool, true, false, cond, ◌||◌}
use Rattle.std.proofs.Common.{Option, None, Some, List, length, drop, get_or, refl, sym, ◌∙◌, ap}
use Rattle.std.proofs.Common.{subst}
use Rattle.std.proofs.lemmas.Bool.{leb-false}
use Rattle.std.proofs.lemmas.Bool.Decides.{eqb_tells}
use Rattle.std.proofs.lemmas.List.{drop_more}
use Rattle.std.specs.Prelude.{is_none, nat_le, option_and_then}
use Rattle.std.specs.List.{list_any}
use Rattle.radius_codec.specs.Attributes.{value_of, word}
use Rattle.acct_model.specs.declared.entry_reader.EntryError.{EntryError}
use Rattle.acct_model.specs.declared.entry_reader.EntryError.TheVariants.{NoStatus, UnknownStatus}
use Rattle.acct_model.specs.declared.entry_reader.EntryError.TheVariants.{NoSessionId, BadField}
use Rattle.acct_model.specs.declared.entry_reader.EntryError.TheVariants.{TotalTooLarge, Memory}
use Rattle.acct_model.specs.declared.report.ReportKind.{ReportKind}
use Rattle.acct_model.specs.Entries.{Attributes, report_fault, refusal_of, status_fault, is_restart}
use Rattle.acct_model.specs.Entries.{kind_of, has_bad_number, input_of, output_of, RefusesEntry}

-- a test of what is left of a list, one place on
pub list_any-drop_more : {X : Type 0} (p : X → Bool) (xs : List X) (i : ℕ) (d : X) (r : Bool)
    → i < length xs → p (get_or xs i d) ≡ false → list_any p (drop i xs) ≡ r
    → list_any p (drop (i + 1) xs) ≡ r
list_any-drop_more p xs i d r within not before =
    sym (ap (list_any p) (drop_more xs i d within)
    ∙ ap (λ b. b || list_any p (drop (i + 1) xs)) not) ∙ before

-- three tests in turn, and what they answer
chain : (a b c : Bool) → Option EntryError
chain a b c = cond a (Some NoSessionId) (cond b (Some BadField) (cond c (Some TotalTooLarge) None))

chain-none : (a b c : Bool) → chain a b c ≡ None → c ≡ false
unfolding chain
chain-none true b c e = cc
chain-none false true c e = cc
chain-none false false true e = cc
chain-none false false false e = refl

chain-some : (a b c : Bool) (fault : EntryError) → chain a b c ≡ Some fault
    → RefusesEntry (Some fault) fault
unfolding chain
chain-some true b c NoSessionId e = refl
chain-some false true c BadField e = refl
chain-some false false true TotalTooLarge e = refl
chain-some true b c Memory e = cc
chain-some false true c Memory e = cc
chain-some false false true Memory e = cc
chain-some false false false Memory e = cc
chain-some a b c NoStatus e = refl
chain-some a b c UnknownStatus e = refl
chain-some a b c NoSessionId e = refl
chain-some a b c BadField e = refl
chain-some a b c TotalTooLarge e = refl

pub total_fits : (attributes : Attributes) → report_fault attributes ≡ None
    → input_of attributes + output_of attributes < 2 ^ 63
unfolding chain
total_fits attributes faultless =
    leb-false (2 ^ 63) (input_of attributes + output_of attributes)
    (chain-none (is_none (value_of 44 attributes)) (has_bad_number attributes)
    (nat_le (2 ^ 63) (input_of attributes + output_of attributes)) faultless)

pub Refuses-report : (attributes : Attributes) (fault : EntryError)
    → report_fault attributes ≡ Some fault → RefusesEntry (report_fault attributes) fault
unfolding chain
Refuses-report attributes fault is =
    subst (λ r. RefusesEntry r fault) (sym is)
    (chain-some (is_none (value_of 44 attributes)) (has_bad_number attributes)
    (nat_le (2 ^ 63) (input_of attributes + output_of attributes)) fault is)

no_restart : (status : ℕ) → (status ≡ 7 → ⊥) → (status ≡ 8 → ⊥) → is_restart status ≡ false
no_restart status on off =
    elim (eqb_tells status 7) [
      | inl is ↦ absurd (on is.1)
      | inr seven ↦ (elim (eqb_tells status 8) [
        | inl is ↦ absurd (off is.1)
        | inr eight ↦
            ap (λ b. b || eqb status 8) seven.0 ∙ eight.0
      ])
    ]

-- of a known status that is no restart, the refusal is the report's
pub refusal_of-report : (attributes : Attributes) (value : List ℕ) (status : ℕ) (kind : ReportKind)
    → value_of 40 attributes ≡ Some value → word value ≡ Some status → (status ≡ 7 → ⊥)
    → (status ≡ 8 → ⊥) → kind_of status ≡ Some kind
    → refusal_of attributes ≡ report_fault attributes
refusal_of-report attributes value status kind found spelled on off known =
    ap (λ v. cond (is_none v) (Some NoStatus) (status_fault attributes (option_and_then word v)))
    found
    ∙ ap (status_fault attributes) spelled
    ∙ ap (λ b. cond b None
    (cond (is_none (kind_of status)) (Some UnknownStatus) (report_fault attributes)))
    (no_restart status on off)
    ∙ ap (λ k. cond (is_none k) (Some UnknownStatus) (report_fault attributes)) known
