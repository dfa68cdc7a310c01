use Rattle.std.proofs.Common.{◌≡◌, ℕ, List, [], ◌∷◌, ap, subst, ◌∙◌, IfOk, string_bytes}
use Rattle.std.specs.Prelude.{codes}
use Rattle.std.specs.List.{concat}
use Rattle.acct_model.specs.declared.stamp.Stamp.{Stamp}
use Rattle.acct_model.specs.Stamps.{stamp_text, signature}
use Rattle.acct_desk.proofs.login.signed_text.Goals as goal

-- the parts of a stamp, if the text is the stamp's and the signature is the text's
parts_are : (text signed first second : List ℕ) (secret : List ℕ) → first ≡ text → signed ≡ text
    → second ≡ signature (codes "stamp;") secret signed
    → (first ∷ second ∷ []) ≡ (text ∷ signature (codes "stamp;") secret text ∷ [])
parts_are text signed first second secret same also is =
    ap (λ x. x ∷ second ∷ []) same
    ∙ ap (λ x. text ∷ x ∷ []) (is ∙ ap (signature (codes "stamp;") secret) also)

pub returns : goal.returns
returns c =
    let stamp : Stamp = record {
      plan = c.args.class.now;
      login = c.args.login.now;
      name = c.args.account.now;
    } in
    let plan = c.as_str.ensures.value ∙ c.in_ok-plan.ensures in
    let name = c.as_str-2.ensures.value ∙ c.in_ok-name.ensures in
    let text : string_bytes c.in_ok-text.text ≡ stamp_text stamp =
    rw (plan, name) at c.in_ok-text.ensures.ok in
    subst (λ parts. IfOk c.concat-2.result (λ value. string_bytes value ≡ concat parts))
    (parts_are (stamp_text stamp) c.as_bytes.result.now c.as_str-3.result.now
    c.as_str-4.result.now c.args.secret.now (c.as_str-3.ensures.value ∙ text)
    (c.as_bytes.ensures.value ∙ text) (c.as_str-4.ensures.value ∙ c.in_ok-signature.ensures))
    c.concat-2.ensures.ok
