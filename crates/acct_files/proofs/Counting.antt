-- What a report says of one record more.
use Rattle.std.proofs.Common.{◌≡◌, ◌+◌, ℕ, suc, cond, List, [], ◌∷◌, ◌++◌, length, refl, sym, ◌∙◌}
use Rattle.std.proofs.Common.{ap, arith, subst}
use Rattle.std.specs.Prelude.{count_by}
use Rattle.std.proofs.lemmas.List.Sums.{sum_by-append}
use Rattle.acct_model.specs.declared.plan.Plan.{Plan}
use Rattle.acct_model.specs.History.{History}
use Rattle.acct_book.specs.Effect.{Effect, after_effect, Holds}
use Rattle.acct_files.specs.declared.import_report.ImportReport.{ImportReport}
use Rattle.acct_files.specs.declared.import_report.Outcome.{Outcome}
use Rattle.acct_files.specs.declared.import_report.Outcome.TheVariants.{Added, Repeated}
use Rattle.acct_files.specs.declared.import_report.Outcome.TheVariants.{Refused as outcome_refused}
use Rattle.acct_files.specs.Vouchers.{Fields, asked_by}
use Rattle.acct_files.specs.Importing.{Becomes, Imported, CountsLines, is_added, is_repeated}
use Rattle.acct_files.specs.Importing.{refused_from}

refused_more : (n : ℕ) (outcomes : List Outcome) (m : ℕ) (last : List Outcome)
    → m ≡ n + length outcomes → refused_from n (outcomes ++ last) ≡ refused_from n outcomes
    ++ refused_from m last
refused_more n [] m last e = ap (λ k. refused_from k last) (omega arith)
refused_more n (Added ∷ outcomes) m last e = refused_more (n + 1) outcomes m last (omega arith)
refused_more n (Repeated ∷ outcomes) m last e = refused_more (n + 1) outcomes m last (omega arith)
refused_more n (outcome_refused c ∷ outcomes) m last e =
    ap (λ rs. record { number = n; cause = c } ∷ rs)
    (refused_more (n + 1) outcomes m last (omega arith))

-- the report counts one outcome more
pub counts_more : (outcomes : List Outcome) (outcome : Outcome) (n : ℕ) (old new : ImportReport)
    → CountsLines outcomes old → n ≡ length outcomes + 2
    → new.added ≡ old.added + count_by is_added (outcome ∷ [])
    → new.repeated ≡ old.repeated + count_by is_repeated (outcome ∷ [])
    → new.refused ≡ old.refused ++ refused_from n (outcome ∷ [])
    → CountsLines (outcomes ++ outcome ∷ []) new
counts_more outcomes outcome n old new counts number added repeated refused = record {
  added =
      omega (
        arith,
        counts.added,
        added,
        sum_by-append (λ x. cond (is_added x) 1 0) outcomes
            (outcome ∷ []),
      );
  repeated =
      omega (
        arith,
        counts.repeated,
        repeated,
        sum_by-append (λ x. cond (is_repeated x) 1 0)
            outcomes (outcome ∷ []),
      );
  refused =
      refused ∙ ap (λ rs. rs ++ refused_from n (outcome ∷ [])) counts.refused
      ∙ sym (refused_more 2 outcomes n (outcome ∷ []) (omega arith));
}

pub run_more : (plans : List Plan) (moment : ℕ) (old mid : History) (rows : List Fields)
    (outcomes : List Outcome) (fields : Fields) (outcome : Outcome) (effect : Effect)
    → Imported plans moment old rows outcomes mid
    → Becomes (asked_by moment fields) outcome effect → Holds plans mid effect
    → Imported plans moment old (rows ++ fields ∷ []) (outcomes ++ outcome ∷ [])
    (after_effect mid effect)
run_more plans moment old mid [] [] fields outcome effect r s holds =
    (effect, s, subst (λ h. Holds plans h effect) r holds, ap (λ h. after_effect h effect) r)
run_more plans moment old mid (x ∷ rows) (y ∷ outcomes) fields outcome effect r s holds = (
  r.0,
  r.1,
  r.2,
  run_more plans moment (after_effect old r.0) mid rows outcomes fields outcome effect r.3 s holds,
)
run_more plans moment old mid [] (y ∷ outcomes) fields outcome effect r s holds = absurd r
run_more plans moment old mid (x ∷ rows) [] fields outcome effect r s holds = absurd r

pub run_length : (plans : List Plan) (moment : ℕ) (old new : History) (rows : List Fields)
    (outcomes : List Outcome) → Imported plans moment old rows outcomes new
    → length outcomes ≡ length rows
run_length plans moment old new [] [] r = refl
run_length plans moment old new (x ∷ rows) (y ∷ outcomes) r =
    ap (λ n. suc n) (run_length plans moment (after_effect old r.0) new rows outcomes r.3)
run_length plans moment old new [] (y ∷ outcomes) r = absurd r
run_length plans moment old new (x ∷ rows) [] r = absurd r
