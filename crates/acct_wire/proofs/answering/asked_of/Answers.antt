use Rattle.std.proofs.Common.{◌≡◌, ℕ, List, IfOk, sym, ap, ◌∙◌, subst, Ok, Err, Result}
use Rattle.std.specs.Prelude.{Option, None}
use Rattle.acct_model.specs.declared.entry.Entry.{Entry}
use Rattle.acct_model.specs.Entries.{Attributes, refusal_of, IsEntryOf}
use Rattle.acct_wire.specs.declared.hearing.Stamping.{Stamping}
use Rattle.acct_wire.specs.declared.reason.Reason.{Reason}
use Rattle.acct_wire.specs.Hearing.{heard, teller}
use Rattle.acct_wire.specs.inner.Datagrams.{SpellsEntry}
use Rattle.acct_wire.specs.inner.Hearing.{entry_in}
use Rattle.acct_wire.proofs.Heard.{heard_so}
use Rattle.acct_wire.proofs.answering.asked_of.Goals as goal

-- what is heard of an entry that the attributes spell
spelled : (stamping : Option Stamping) (name copied : List ℕ) (attributes : Attributes)
    (moment : ℕ) (asked : Entry) (result : Result Entry Reason) → copied ≡ name
    → refusal_of attributes ≡ None → IsEntryOf copied attributes moment asked
    → IfOk result (λ told. told ≡ entry_in stamping copied attributes asked)
    → IfOk result (SpellsEntry stamping name attributes moment)
spelled stamping name copied attributes moment asked (Ok told) same none says is = (
  none,
  subst (IsEntryOf (teller stamping name attributes) (heard stamping name attributes) moment)
      (sym (is ∙ ap (λ n. entry_in stamping n attributes asked) same))
      (heard_so stamping name attributes moment asked none
      (subst (λ n. IsEntryOf n attributes moment asked) same says)),
)
spelled stamping name copied attributes moment asked (Err reason) same none says is = tt

pub returns-in-Ok-clause-asked : goal.returns-in-Ok-clause-asked
returns-in-Ok-clause-asked c =
    spelled c.args.clients.now.stamping c.args.client.now.name c.as_str-name.result.now
    c.args.packet.now.attributes c.args.moment c.in-Ok.entry c.heard.result c.as_str-name.ensures
    c.in-Ok.ensures.accepted c.in-Ok.ensures.entry c.heard.ensures.heard
