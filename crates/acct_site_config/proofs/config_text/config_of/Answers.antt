use Rattle.std.proofs.Common.{◌≡◌, Some, map, sym}
use Rattle.toml.specs.View.{view, table_view}
use Rattle.acct_site_config.specs.inner.StampTables.{stamp_view}
use Rattle.acct_site_config.specs.Config.{Arrays, arrays_in, IsConfigError}
use Rattle.acct_site_config.proofs.ConfigLemmas.{of_tables, of_clients, of_later, of_plans, of_last}
use Rattle.acct_site_config.proofs.ConfigLemmas.{of_keys, of_stamp, of_withdrawn}
use Rattle.acct_site_config.proofs.ConfigLemmas.{handed_on}
use Rattle.acct_site_config.proofs.config_text.config_of.Goals as goal

pub returns-in_err-clients-clause-refused : goal.returns-in_err-clients-clause-refused
returns-in_err-clients-clause-refused c =
    let text = c.args.text.now in
    let top = table_view c.in_ok-document.document in
    let arrays : Arrays = (
      map view c.in-Some.tables.now,
      map view c.in-Some.plans.now,
      map view c.in-Some.keys.now,
      stamp_view c.in-Some.stamp,
      map view c.in-Some.withdrawn.now,
    ) in
    let shaped : arrays_in top ≡ Some arrays = sym (rw c.in-Some.is at c.arrays_in.ensures) in
    let error = c.in_err-clients.field-0.0 in
    handed_on c.from_residual-in_err-clients.result error (IsConfigError text)
    c.from_residual-in_err-clients.ensures.1
    (of_tables text top arrays error c.in_ok-document.ensures.parsed shaped
    (of_clients arrays error c.in_err-clients.ensures.refused))

pub returns-in_err-plans-clause-refused : goal.returns-in_err-plans-clause-refused
returns-in_err-plans-clause-refused c =
    let text = c.args.text.now in
    let top = table_view c.in_ok-document.document in
    let arrays : Arrays = (
      map view c.in-Some.tables.now,
      map view c.in-Some.plans.now,
      map view c.in-Some.keys.now,
      stamp_view c.in-Some.stamp,
      map view c.in-Some.withdrawn.now,
    ) in
    let shaped : arrays_in top ≡ Some arrays = sym (rw c.in-Some.is at c.arrays_in.ensures) in
    let error = c.in_err-plans.field-0.0 in
    handed_on c.from_residual-in_err-plans.result error (IsConfigError text)
    c.from_residual-in_err-plans.ensures.1
    (of_tables text top arrays error c.in_ok-document.ensures.parsed shaped
    (of_later arrays c.in_ok-clients.clients error c.in_ok-clients.ensures.spelled
    (of_plans arrays error c.in_err-plans.ensures.refused)))

pub returns-in_err-keys-clause-refused : goal.returns-in_err-keys-clause-refused
returns-in_err-keys-clause-refused c =
    let text = c.args.text.now in
    let top = table_view c.in_ok-document.document in
    let arrays : Arrays = (
      map view c.in-Some.tables.now,
      map view c.in-Some.plans.now,
      map view c.in-Some.keys.now,
      stamp_view c.in-Some.stamp,
      map view c.in-Some.withdrawn.now,
    ) in
    let shaped : arrays_in top ≡ Some arrays = sym (rw c.in-Some.is at c.arrays_in.ensures) in
    let error = c.in_err-keys.field-0.0 in
    handed_on c.from_residual-in_err-keys.result error (IsConfigError text)
    c.from_residual-in_err-keys.ensures.1
    (of_tables text top arrays error c.in_ok-document.ensures.parsed shaped
    (of_later arrays c.in_ok-clients.clients error c.in_ok-clients.ensures.spelled
    (of_last arrays c.in_ok-plans.plans error c.in_ok-plans.ensures.spelled
    c.in_ok-plans.ensures.default (of_keys arrays error c.in_err-keys.ensures.refused))))

pub returns-in_err-stamping-clause-refused : goal.returns-in_err-stamping-clause-refused
returns-in_err-stamping-clause-refused c =
    let text = c.args.text.now in
    let top = table_view c.in_ok-document.document in
    let arrays : Arrays = (
      map view c.in-Some.tables.now,
      map view c.in-Some.plans.now,
      map view c.in-Some.keys.now,
      stamp_view c.in-Some.stamp,
      map view c.in-Some.withdrawn.now,
    ) in
    let shaped : arrays_in top ≡ Some arrays = sym (rw c.in-Some.is at c.arrays_in.ensures) in
    let error = c.in_err-stamping.field-0.0 in
    handed_on c.from_residual-in_err-stamping.result error (IsConfigError text)
    c.from_residual-in_err-stamping.ensures.1
    (of_tables text top arrays error c.in_ok-document.ensures.parsed shaped
    (of_later arrays c.in_ok-clients.clients error c.in_ok-clients.ensures.spelled
    (of_last arrays c.in_ok-plans.plans error c.in_ok-plans.ensures.spelled
    c.in_ok-plans.ensures.default (of_stamp arrays c.in_ok-keys.keys error
    c.in_ok-keys.ensures.spelled c.in_err-stamping.ensures.refused))))

pub returns-in_err-withdrawn-clause-refused : goal.returns-in_err-withdrawn-clause-refused
returns-in_err-withdrawn-clause-refused c =
    let text = c.args.text.now in
    let top = table_view c.in_ok-document.document in
    let arrays : Arrays = (
      map view c.in-Some.tables.now,
      map view c.in-Some.plans.now,
      map view c.in-Some.keys.now,
      stamp_view c.in-Some.stamp,
      map view c.in-Some.withdrawn.now,
    ) in
    let shaped : arrays_in top ≡ Some arrays = sym (rw c.in-Some.is at c.arrays_in.ensures) in
    let error = c.in_err-withdrawn.field-0.0 in
    handed_on c.from_residual-in_err-withdrawn.result error (IsConfigError text)
    c.from_residual-in_err-withdrawn.ensures.1
    (of_tables text top arrays error c.in_ok-document.ensures.parsed shaped
    (of_later arrays c.in_ok-clients.clients error c.in_ok-clients.ensures.spelled
    (of_last arrays c.in_ok-plans.plans error c.in_ok-plans.ensures.spelled
    c.in_ok-plans.ensures.default (of_withdrawn arrays c.in_ok-keys.keys
    c.in_ok-stamping.stamping error c.in_ok-keys.ensures.spelled c.in_ok-stamping.ensures.spelled
    c.in_err-withdrawn.ensures.refused))))

pub returns-in_err-signing-clause-refused : goal.returns-in_err-signing-clause-refused
returns-in_err-signing-clause-refused c =
    let text = c.args.text.now in
    let top = table_view c.in_ok-document.document in
    let arrays : Arrays = (
      map view c.in-Some.tables.now,
      map view c.in-Some.plans.now,
      map view c.in-Some.keys.now,
      stamp_view c.in-Some.stamp,
      map view c.in-Some.withdrawn.now,
    ) in
    let shaped : arrays_in top ≡ Some arrays = sym (rw c.in-Some.is at c.arrays_in.ensures) in
    let error = c.in_err-signing.field-0.0 in
    handed_on c.from_residual-in_err-signing.result error (IsConfigError text)
    c.from_residual-in_err-signing.ensures.1
    (of_tables text top arrays error c.in_ok-document.ensures.parsed shaped
    (of_later arrays c.in_ok-clients.clients error c.in_ok-clients.ensures.spelled
    (of_last arrays c.in_ok-plans.plans error c.in_ok-plans.ensures.spelled
    c.in_ok-plans.ensures.default (of_stamp arrays c.in_ok-keys.keys error
    c.in_ok-keys.ensures.spelled (c.in_err-signing.ensures.refused arrays.0)))))
