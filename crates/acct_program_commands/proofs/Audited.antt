-- What the end of an audit means.
use Rattle.std.proofs.Common.{◌≡◌, ◌++◌, ℕ, List, sym, ◌∙◌}
use Rattle.std.specs.Prelude.{◌↔◌, Option, Some, None, Result, Ok, Err, OnOk}
use Rattle.std.specs.Prelude.{flat_map}
use Rattle.std.specs.Io.KnownBytes.{Appends, Keeps}
use Rattle.std.proofs.KnownBytes.{Appends-nil, Appends-trans}
use Rattle.acct_book.specs.declared.book.Book.{Ghosts}
use Rattle.acct_book.specs.Step.{Looks}
use Rattle.acct_book_audit.specs.Audit.{IsAudit, IsClean}
use Rattle.acct_book_audit.specs.Finding.{Finding}
use Rattle.acct_book_audit.specs.declared.auditor.Audit.{Audit}
use Rattle.acct_program.specs.declared.status.Status.{Status}
use Rattle.acct_program.specs.declared.status.Status.TheVariants as status
use Rattle.acct_program_commands.specs.Auditing.{AllBalance, Audits, TellsAudit, balanced_line}
use Rattle.acct_program_commands.specs.Auditing.{finding_line, last_line}
use Rattle.acct_program_commands.specs.Checks.{sizes_line}
use Rattle.acct_site.specs.declared.config.Config.{Config}
use Rattle.acct_program_commands.specs.declared.fault.Fault.{Fault}
use Rattle.acct_program_commands.specs.declared.fault.Fault.TheVariants as fault

-- a call that only read, with another answer
pub looks_as : {B T U E F : Type 0} (b : Ghosts B) (old new : B) (result : Result T E)
    (ended : Result U F) → Looks b old new result
    → (b.is_sound new → OnOk ended (b.is_open new)) → Looks b old new ended
looks_as b old new result ended looks answers = record {
  was_sound = looks.was_sound;
  was_open = looks.was_open;
  keeps_steady = looks.keeps_steady;
  answers = answers;
  same = looks.same;
  adds_none = looks.adds_none;
}

-- what was written before a flush
pub appends_kept : (a b c : Option (List ℕ)) (text : List ℕ) → Appends a b text → Keeps b c
    → Appends a c text
appends_kept None b c text told same = tt
appends_kept (Some x) None c text told same = absurd told
appends_kept (Some x) (Some y) None text told same = absurd same
appends_kept (Some x) (Some y) (Some z) text told same = same ∙ told

no_fault : (s : Status) (told : Fault) → Ok s ≡ Err told → ⊥
no_fault s told is = cc

module _ {B : Type 0} (b : Ghosts B) (config : Config) (old new : B)
    (first second third : Option (List ℕ)) (audit : Audit) where
  abbrev pub IsTold : Type 0
  IsTold = (found : List Finding) × IsAudit config.plans (b.content old) audit found
      × Appends second third (flat_map finding_line found)

  -- the sizes, each finding, and this at the end
  all_told : (ended : Result Status Fault) (flushed fourth : Option (List ℕ))
      → Appends first second (sizes_line config) → IsTold → Keeps third flushed
      → Appends flushed fourth (last_line ended audit)
      → TellsAudit config (b.content old) ended first fourth
  all_told ended flushed fourth sizes (found, is_audit, told) same last = (
    audit,
    found,
    is_audit,
    Appends-trans first flushed fourth (sizes_line config ++ flat_map finding_line found)
        (last_line ended audit)
        (appends_kept first third flushed (sizes_line config ++ flat_map finding_line found)
        (Appends-trans first second third (sizes_line config) (flat_map finding_line found) sizes
        told) same) last,
  )

  module _ (looks : Looks {E = Fault} b old new (Ok audit))
      (clean : b.is_open new → IsClean audit ↔ AllBalance config.plans (b.content old))
      (sizes : Appends first second (sizes_line config)) (told : b.is_open new → IsTold)
      (flushed : Option (List ℕ)) (same : Keeps third flushed) where
    -- nothing was wrong
    pub audits_clean : (fourth : Option (List ℕ)) → IsClean audit
        → Appends flushed fourth (balanced_line audit)
        → Audits b config first fourth old new (Ok status.Done)
    audits_clean fourth is last = record {
      looks = looks_as b old new (Ok audit) (Ok status.Done) looks looks.answers;
      balanced = λ still done. (clean still).0 is;
      unbalanced = λ still told. absurd (no_fault status.Done fault.Unbalanced told);
      printed = λ still whole. all_told (Ok status.Done) flushed fourth sizes (told still) same
          last;
    }

    -- something was
    pub audits_wrong : ¬ IsClean audit
        → Audits b config first flushed old new (Err fault.Unbalanced)
    audits_wrong wrong = record {
      looks = looks_as b old new (Ok audit) (Err fault.Unbalanced) looks (λ sound. tt);
      balanced = λ still done. absurd (no_fault status.Done fault.Unbalanced (sym done));
      unbalanced = λ still is all. wrong ((clean still).1 all);
      printed = λ still whole. all_told (Err fault.Unbalanced) flushed flushed sizes (told still)
          same (Appends-nil flushed);
    }
