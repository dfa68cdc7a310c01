use Rattle.std.proofs.Common.{◌≡◌, ℕ, List, [], ◌∷◌, ap, subst, ◌∙◌, codes, IfOk}
use Rattle.std.specs.List.{concat}
use Rattle.acct_model.specs.Stamps.{stamp_text, signature}
use Rattle.acct_model.proofs.stamp.Stamp.value.Goals as goal

-- the parts of a stamp, if the text is the stamp's and the signature is the text's
parts_are : (text signed first second : List ℕ) (secret : List ℕ) → first ≡ text → signed ≡ text
    → second ≡ signature (codes "stamp;") secret signed
    → (first ∷ second ∷ []) ≡ (text ∷ signature (codes "stamp;") secret text ∷ [])
parts_are text signed first second secret same also is =
    ap (λ x. x ∷ second ∷ []) same
    ∙ ap (λ x. text ∷ x ∷ []) (is ∙ ap (signature (codes "stamp;") secret) also)

pub returns : goal.returns
returns c =
    let text = stamp_text c.args.self.now in
    subst (λ parts. IfOk c.joined.result (λ value. value ≡ concat parts))
    (parts_are text c.as_slice.result.now c.as_slice-2.result.now c.as_bytes.result.now
    c.args.secret.now (c.as_slice-2.ensures ∙ c.in_ok-text.ensures)
    (c.as_slice.ensures ∙ c.in_ok-text.ensures)
    (c.as_bytes.ensures.value ∙ c.in_ok-signature.ensures)) c.joined.ensures
