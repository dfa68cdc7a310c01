use Rattle.std.proofs.Common.{◌≡◌, length, arith, sym, ◌∙◌}
use Rattle.csv.proofs.RecordFacts.{field-there}
use Rattle.csv.specs.Records.{fields_of}
use Rattle.acct_files.proofs.Texts.{three_from}
use Rattle.acct_files.proofs.voucher_record.three_fields.Goals as goal

pub returns-in_err-get : goal.returns-in_err-get
returns-in_err-get c =
    let three : length (fields_of c.args.row.now) ≡ 3 = sym c.len.ensures ∙ c.if-len-ne3.false in
    absurd (field-there (fields_of c.args.row.now) 0 (omega (arith, three))
    (sym (rw c.in_err-get.was at c.get.ensures.value)))

pub returns-in_err-get-2 : goal.returns-in_err-get-2
returns-in_err-get-2 c =
    let three : length (fields_of c.args.row.now) ≡ 3 = sym c.len.ensures ∙ c.if-len-ne3.false in
    absurd (field-there (fields_of c.args.row.now) 1 (omega (arith, three))
    (sym (rw c.in_err-get-2.was at c.get-2.ensures.value)))

pub returns-in_err-get-3 : goal.returns-in_err-get-3
returns-in_err-get-3 c =
    let three : length (fields_of c.args.row.now) ≡ 3 = sym c.len.ensures ∙ c.if-len-ne3.false in
    absurd (field-there (fields_of c.args.row.now) 2 (omega (arith, three))
    (sym (rw c.in_err-get-3.was at c.get-3.ensures.value)))

pub returns : goal.returns
returns c =
    three_from (fields_of c.args.row.now) c.in_ok-get.field-0.now c.in_ok-get-2.field-0.now
    c.in_ok-get-3.field-0.now (sym c.len.ensures ∙ c.if-len-ne3.false)
    (rw c.in_ok-get.was at c.get.ensures.value) (rw c.in_ok-get-2.was at c.get-2.ensures.value)
    (rw c.in_ok-get-3.was at c.get-3.ensures.value)
