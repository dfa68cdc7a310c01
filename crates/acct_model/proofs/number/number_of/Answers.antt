use Rattle.std.proofs.Common.{◌≡◌, ◌≤◌, ◌<◌, length, true, false, arith, rules, ◌∙◌}
use Rattle.std.specs.Char.{is_ascii_digit}
use Rattle.std.specs.List.{list_all}
use Rattle.acct_model.proofs.Numbers.{digits_are_text, parsed, too_long, no_digits}
use Rattle.acct_model.proofs.number.number_of.Goals as goal

pub returns-then-text-most_digits : goal.returns-then-text-most_digits
returns-then-text-most_digits c =
    elim c.then-text-most_digits.branch [
      | goal.then-text-most_digits-via-then-text-most_digits w ↦ let long :
          c.args.most_digits < length c.args.text.now = omega arith in
          too_long c.args.most_digits c.args.text.now long
      | goal.then-text-most_digits-via-else-text-most_digits+then-not-are_digits w ↦ let none :
          list_all is_ascii_digit c.args.text.now ≡ false = search rules in
          no_digits c.args.most_digits c.args.text.now none
    ]

pub returns-in-Ok : goal.returns-in-Ok
returns-in-Ok c =
    let digits : list_all is_ascii_digit c.args.text.now ≡ true = search rules in
    let short : length c.args.text.now ≤ c.args.most_digits = omega arith in
    let same = c.in-Ok.ensures.cases.0 in
    c.ok.ensures.value ∙ parsed c.args.most_digits c.args.text.now c.parse.result
    (rw same at c.parse.ensures.value.0) digits short

pub returns-in-Err : goal.returns-in-Err
returns-in-Err c =
    let digits : list_all is_ascii_digit c.args.text.now ≡ true = search rules in
    absurd (c.in-Err.ensures.cases.0 (digits_are_text c.args.text.now digits))
