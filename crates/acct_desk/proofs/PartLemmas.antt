-- What an account's page is made of.
use Rattle.std.proofs.Common.{◌≡◌, ◌≢◌, ℕ, List, [], sym, ap, ◌∙◌, subst, inl, inr, true}
use Rattle.serde_json.specs.Data.{Data}
use Rattle.acct_model.specs.declared.plan.Plan.{Plan}
use Rattle.acct_model.specs.History.{History}
use Rattle.acct_book.specs.Content.{key_of}
use Rattle.acct_book.specs.Effect.{Effect}
use Rattle.acct_book.specs.Maps.{octets_cmp, key_cmp}
use Rattle.acct_book.specs.Part.{Part, part_of}
use Rattle.acct_desk.specs.declared.asking.Page.{Page}
use Rattle.acct_desk.specs.declared.asking.Page.TheVariants.{Balance, Sessions, TopUps}
use Rattle.acct_desk.specs.Asks.{Ask, me}
use Rattle.acct_desk_pages.specs.Bodies.{sessions_body, topups_body}
use Rattle.acct_desk.specs.Handling.{IsPageBody, IsResponseOf, AnswersAsk, TellsAsk}
use Rattle.acct_desk.specs.Laws.{MeFromPart}
use Rattle.acct_desk_pages.specs.Responses.{response_of, unavailable_response}
use Rattle.acct_desk.proofs.AskLemmas.{one_ask}
use Rattle.acct_desk.proofs.MemberLemmas.{key_total, octets_total, members_same}

-- a part has one body for each page
one_body : (plans : List Plan) (part : Part) (account : List ℕ) (page : Page) (x y : Data)
    → IsPageBody plans part account page x → IsPageBody plans part account page y → x ≡ y
one_body plans part account Balance x y p q = p ∙ sym q
one_body plans part account Sessions x y p q =
    p.2 ∙ ap (sessions_body plans account)
    (members_same key_cmp key_total key_of part.rows (λ row. true) p.0 q.0 p.1 q.1) ∙ sym q.2
one_body plans part account TopUps x y p q =
    p.2 ∙ ap (topups_body account) (members_same octets_cmp octets_total (λ t. t.voucher)
    part.topups (λ t. true) p.0 q.0 p.1 q.1) ∙ sym q.2

-- what answers a request for a page
told_page : (plans : List Plan) (history : History) (ask : Ask) (page : Page)
    (account octets : List ℕ) (effect : Effect) → ask ≡ me page account
    → AnswersAsk ask octets effect × TellsAsk plans history ask octets effect
    → octets ≢ unavailable_response
    → IsResponseOf plans history (me page account) octets
told_page plans history ask page account octets effect is said answered =
    let of_page : AnswersAsk (me page account) octets effect
    × TellsAsk plans history (me page account) octets effect
    = subst (λ a. AnswersAsk a octets effect × TellsAsk plans history a octets effect) is said in
    elim of_page.0 [ inl told ↦ of_page.1 told | inr unavailable ↦ absurd (answered unavailable.0) ]

pub me-from-part : MeFromPart
me-from-part keys plans request moment page account one other effect later octets others asks same x
    y answered also =
    let first = told_page plans one x.0 page account octets effect
    (one_ask keys plans request moment x.0 (me page account) x.1 asks) (x.2, x.3) answered in
    let second = told_page plans other y.0 page account others later
    (one_ask keys plans request moment y.0 (me page account) y.1 asks) (y.2, y.3) also in
    let body = one_body plans (part_of plans other account) account page first.0.1 second.0.1
    (subst (λ p. IsPageBody plans p account page first.0.1) same first.1.1) second.1.1 in
    first.2 ∙ ap (λ (status : ℕ). response_of status [] first.0.1) (first.1.0 ∙ sym second.1.0)
    ∙ ap (response_of second.0.0 []) body ∙ sym second.2
