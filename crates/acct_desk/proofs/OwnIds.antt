-- Why the id of a stamped client's session is read from the session's name.
use Rattle.std.proofs.Common.{◌≡◌, ℕ, ◌-◌, Bool, true, cond, List, [], ◌∷◌, ◌++◌, length, take, drop}
use Rattle.std.proofs.Common.{refl, sym, ◌∙◌, ap, arith, append_assoc}
use Rattle.std.proofs.Math.Seq.{drop-append_seam, take-append_seam}
use Rattle.std.proofs.lemmas.Bool.{true≢false, ne_eqb}
use Rattle.std.proofs.lemmas.List.{length-append}
use Rattle.std.proofs.lemmas.List.Elements.{All-head, All-tail, All-weaker}
use Rattle.std.proofs.lemmas.List.Sums.{AllPass-from_list_all}
use Rattle.std.specs.Prelude.{Some, None, All, nat_le, bytes_eq}
use Rattle.std.specs.List.{list_all}
use Rattle.acct_model.proofs.Same.{and_both}
use Rattle.acct_model.specs.declared.stamp.Stamp.{Stamp}
use Rattle.acct_model.specs.Coded.{coded}
use Rattle.acct_model.specs.Stamps.{is_login, is_login_digit, stamped_session}
use Rattle.acct_book.proofs.Keys.{octets_refl}
use Rattle.acct_desk_pages.specs.Overdrawn.{cut_last, cut_last_by, without_end, before_login}
use Rattle.acct_desk_pages.specs.Overdrawn.{before_payer, own_id}
use Rattle.acct_desk.specs.LoginLaws.{IdsAreRead}

abbrev Lacks : List ℕ → Type 0
Lacks list = All (λ o. o ≡ 47 → ⊥) list

login_lacks : (login : List ℕ) → is_login login ≡ true → Lacks login
login_lacks login fits =
    All-weaker (λ o. is_login_digit o ≡ true) (λ o. o ≡ 47 → ⊥)
    (λ o digit is. true≢false (sym digit ∙ ap is_login_digit is)) login
    (AllPass-from_list_all is_login_digit login
    (and_both (nat_le (length login) 32) (list_all is_login_digit login) fits).1)

without_end_of : (front end : List ℕ) → without_end end (front ++ end) ≡ Some front
without_end_of front end =
    let both = length-append front end in
    let size : length (front ++ end) - length end ≡ length front = omega (arith, both) in
    ap (λ n. cond (bytes_eq (drop n (front ++ end)) end) (Some (take n (front ++ end))) None) size
    ∙ ap (λ d. cond (bytes_eq d end) (Some (take (length front) (front ++ end))) None)
    (drop-append_seam front end)
    ∙ ap (λ b. cond b (Some (take (length front) (front ++ end))) None) (octets_refl end)
    ∙ ap (λ f. Some f) (take-append_seam front end)

cut_none : (octets : List ℕ) → Lacks octets → cut_last octets ≡ None
cut_none [] lacks = refl
cut_none (o ∷ rest) lacks =
    ap (cut_last_by o rest) (cut_none rest (All-tail (λ k. k ≡ 47 → ⊥) o rest lacks))
    ∙ ap (λ b. cond b (Some ([], rest)) None)
    (ne_eqb o 47 (All-head (λ k. k ≡ 47 → ⊥) o rest lacks))

cut_at : (id login : List ℕ) → Lacks login → cut_last (id ++ 47 ∷ login) ≡ Some (id, login)
cut_at [] login lacks = ap (cut_last_by 47 login) (cut_none login lacks)
cut_at (o ∷ id) login lacks = ap (cut_last_by o (id ++ 47 ∷ login)) (cut_at id login lacks)

pub ids_are_read : IdsAreRead
ids_are_read id stamp fits =
    let session = stamped_session id stamp in
    let front = id ++ 47 ∷ stamp.login in
    let end = 47 ∷ (coded stamp.name ++ []) in
    ap (before_payer session)
    (ap (without_end end) (sym (append_assoc id (47 ∷ stamp.login) end))
    ∙ without_end_of front end)
    ∙ ap (before_login session) (cut_at id stamp.login (login_lacks stamp.login fits))
    ∙ ap (λ b. cond b id session) fits
