use Rattle.std.proofs.Common.{arith}
use Rattle.std.proofs.lemmas.Grind.{common_steps}
use Rattle.std.proofs.Common.{◌≡◌, ◌∙◌, rules, sym, ap}
use Rattle.std.specs.Option.{option_map}
use Rattle.acct_model.proofs.Refusals.{Refuses-report, refusal_of-report}
use Rattle.acct_model.proofs.entry_reader.entry_of.Goals as goal

pub returns-in-Some-report_fault-clause-refused : goal.returns-in-Some-report_fault-clause-refused
returns-in-Some-report_fault-clause-refused c =
    let found = sym c.first.ensures ∙ ap (option_map (λ value. value.now)) c.in-Some.is in
    let spelled = sym c.word_of.ensures ∙ c.in-Some-word_of.is in
    let on : c.in-Some-word_of.status ≡ 7 → ⊥ = search rules in
    let off : c.in-Some-word_of.status ≡ 8 → ⊥ = search rules in
    let known = sym c.kind_of.ensures ∙ c.in-Some-kind_of.is in
    let same = refusal_of-report c.of-attributes.result c.in-Some.value.now c.in-Some-word_of.status
    c.in-Some-kind_of.kind found spelled on off known in
    let fault = Refuses-report c.of-attributes.result c.in-Some-report_fault.fault
    (sym c.in-Some-report_fault.ensures) in
    rw (sym c.of-attributes.ensures) (rw same fault)

pub returns-in_err-report-clause-refused : goal.returns-in_err-report-clause-refused
returns-in_err-report-clause-refused c = grind (arith, common_steps)

pub returns-clause-accepted : goal.returns-clause-accepted
returns-clause-accepted c = grind (arith, common_steps)
