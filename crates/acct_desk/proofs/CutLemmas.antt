-- Where octets are cut: before their first slash.
use Rattle.std.proofs.Common.{◌≡◌, ℕ, zero, suc, ◌+◌, ◌<◌, cond, List, [], ◌∷◌, length, take, drop}
use Rattle.std.proofs.Common.{get_or, refl, ◌∙◌, ap, subst, arith, true, false, Bool, ◌==◌}
use Rattle.std.proofs.lemmas.Bool.{ne_eqb, eq-eqb}
use Rattle.std.specs.Prelude.{Option, None, Some}
use Rattle.std.specs.Option.{option_map}
use Rattle.acct_desk.specs.declared.asking.Page.{Page}
use Rattle.acct_desk.specs.Paths.{segments, in_front, login_segments, one_of, account_segments}
use Rattle.acct_desk.specs.Paths.{page_named}
use Rattle.acct_desk.specs.inner.Cut.{cut}

abbrev Parts : Type 0
Parts = List ℕ × List ℕ

-- an octet in front of the first part
abbrev with_octet : ℕ → Option Parts → Option Parts
with_octet octet found = option_map (λ (parts : Parts). (octet ∷ parts.0, parts.1)) found

goes_on : (octet : ℕ) (rest : List ℕ) → (octet ≡ 47 → ⊥)
    → cut (octet ∷ rest) ≡ with_octet octet (cut rest)
goes_on octet rest other =
    ap (λ b. cond b (Some ([], rest)) (with_octet octet (cut rest))) (ne_eqb octet 47 other)

-- octets without a slash are not cut
pub cut_none : (octets : List ℕ)
    → ((k : ℕ) → k < length octets → get_or octets k 0 ≡ 47 → ⊥) → cut octets ≡ None
cut_none [] none = refl
cut_none (octet ∷ rest) none =
    goes_on octet rest (none 0 (omega arith))
    ∙ ap (with_octet octet) (cut_none rest (λ k h. none (suc k) (omega (arith, h))))

-- octets are cut at the first slash
pub cut_at : (octets : List ℕ) (i : ℕ) → i < length octets → get_or octets i 0 ≡ 47
    → ((k : ℕ) → k < i → get_or octets k 0 ≡ 47 → ⊥)
    → cut octets ≡ Some (take i octets, drop (i + 1) octets)
cut_at [] i within is none = absurd (omega (arith, within))
cut_at (octet ∷ rest) zero within is none =
    ap (λ b. cond b (Some ([], rest)) (with_octet octet (cut rest))) (eq-eqb octet 47 is)
cut_at (octet ∷ rest) (suc i) within is none =
    let e : suc (i + 1) ≡ suc i + 1 = omega arith in
    subst (λ n. cut (octet ∷ rest) ≡ Some (octet ∷ take i rest, drop n (octet ∷ rest))) e
    (goes_on octet rest (none 0 (omega arith))
    ∙ ap (with_octet octet) (cut_at rest i (omega (arith, within)) is
    (λ k h. none (suc k) (omega (arith, h)))))

-- the segments, by where the octets are cut
abbrev segments_by : List ℕ → Option Parts → List (List ℕ)
segments_by octets None = octets ∷ []
segments_by octets (Some parts) = parts.0 ∷ segments parts.1

more : (octet : ℕ) (rest : List ℕ) (found : Option Parts)
    → in_front octet (segments_by rest found)
    ≡ segments_by (octet ∷ rest) (with_octet octet found)
more octet rest None = refl
more octet rest (Some parts) = refl

by_octet : (b : Bool) (octet : ℕ) (rest : List ℕ) (found : Option Parts)
    → cond b ([] ∷ segments rest) (in_front octet (segments_by rest found))
    ≡ segments_by (octet ∷ rest) (cond b (Some ([], rest)) (with_octet octet found))
by_octet true octet rest found = refl
by_octet false octet rest found = more octet rest found

pub segments-cut : (octets : List ℕ) → segments octets ≡ segments_by octets (cut octets)
segments-cut [] = refl
segments-cut (octet ∷ rest) =
    ap (λ s. cond (octet == 47) ([] ∷ segments rest) (in_front octet s)) (segments-cut rest)
    ∙ by_octet (octet == 47) octet rest (cut rest)

-- octets that are cut begin with the first part as a segment
pub cut_segments : (octets : List ℕ) (parts : Parts) → cut octets ≡ Some parts
    → segments octets ≡ parts.0 ∷ segments parts.1
cut_segments octets parts is = segments-cut octets ∙ ap (segments_by octets) is

-- octets that are not cut are one segment
pub uncut_segments : (octets : List ℕ) → cut octets ≡ None → segments octets ≡ octets ∷ []
uncut_segments octets is = segments-cut octets ∙ ap (segments_by octets) is

-- ---- the login that segments name, by where they are cut

-- some segments, and not none
pub a_segment : (octets : List ℕ) → (first : List ℕ) × (more : List (List ℕ))
    × (segments octets ≡ first ∷ more)
a_segment octets = by (cut octets) refl
  where
    by : (found : Option Parts) → cut octets ≡ found
        → (first : List ℕ) × (more : List (List ℕ)) × (segments octets ≡ first ∷ more)
    by None is = (octets, [], uncut_segments octets is)
    by (Some parts) is = (parts.0, segments parts.1, cut_segments octets parts is)

pub one_segment : (path : List ℕ) → cut path ≡ None → login_segments (segments path) ≡ None
one_segment path p = ap login_segments (uncut_segments path p)

pub two_segments : (path account class : List ℕ) → cut path ≡ Some (account, class)
    → cut class ≡ None
    → login_segments (segments path)
    ≡ Some (record { account = account; class = class; login = []; heard = None })
two_segments path account class p q =
    ap login_segments (cut_segments path (account, class) p
    ∙ ap (λ s. account ∷ s) (uncut_segments class q))

pub three_segments : (path account rest class login : List ℕ) → cut path ≡ Some (account, rest)
    → cut rest ≡ Some (class, login) → cut login ≡ None
    → login_segments (segments path)
    ≡ Some (record { account = account; class = class; login = login; heard = None })
three_segments path account rest class login p q r =
    ap login_segments (cut_segments path (account, rest) p
    ∙ ap (λ s. account ∷ s) (cut_segments rest (class, login) q
    ∙ ap (λ s. class ∷ s) (uncut_segments login r)))

-- four segments
four : (path account rest class more login station : List ℕ) → cut path ≡ Some (account, rest)
    → cut rest ≡ Some (class, more) → cut more ≡ Some (login, station)
    → segments path ≡ account ∷ class ∷ login ∷ segments station
four path account rest class more login station p q r =
    cut_segments path (account, rest) p
    ∙ ap (λ s. account ∷ s) (cut_segments rest (class, more) q
    ∙ ap (λ s. class ∷ s) (cut_segments more (login, station) r))

pub four_segments : (path account rest class more login station : List ℕ)
    → cut path ≡ Some (account, rest) → cut rest ≡ Some (class, more)
    → cut more ≡ Some (login, station) → cut station ≡ None
    → login_segments (segments path) ≡ None
four_segments path account rest class more login station p q r s =
    ap login_segments (four path account rest class more login station p q r
    ∙ ap (λ t. account ∷ class ∷ login ∷ t) (uncut_segments station s))

pub five_segments : (path account rest class more login last station seconds : List ℕ)
    → cut path ≡ Some (account, rest) → cut rest ≡ Some (class, more)
    → cut more ≡ Some (login, last) → cut last ≡ Some (station, seconds) → cut seconds ≡ None
    → login_segments (segments path)
    ≡ Some (record {
      account = account;
      class = class;
      login = login;
      heard = Some (station, seconds);
    })
five_segments path account rest class more login last station seconds p q r s t =
    ap login_segments (four path account rest class more login last p q r
    ∙ ap (λ u. account ∷ class ∷ login ∷ u) (cut_segments last (station, seconds) s
    ∙ ap (λ u. station ∷ u) (uncut_segments seconds t)))

pub six_segments : (path account rest class more login last station seconds : List ℕ)
    (parts : Parts)
    → cut path ≡ Some (account, rest) → cut rest ≡ Some (class, more)
    → cut more ≡ Some (login, last) → cut last ≡ Some (station, seconds)
    → cut seconds ≡ Some parts
    → login_segments (segments path) ≡ None
six_segments path account rest class more login last station seconds parts p q r s t =
    let one = a_segment parts.1 in
    ap login_segments (four path account rest class more login last p q r
    ∙ ap (λ u. account ∷ class ∷ login ∷ u) (cut_segments last (station, seconds) s
    ∙ ap (λ u. station ∷ u) (cut_segments seconds parts t
    ∙ ap (λ u. parts.0 ∷ u) one.2)))

-- octets that are cut are not one segment
pub two_or_more : (octets : List ℕ) (parts : Parts) → cut octets ≡ Some parts
    → one_of (segments octets) ≡ None
two_or_more octets parts is =
    let next = a_segment parts.1 in
    ap one_of (cut_segments octets parts is ∙ ap (λ s. parts.0 ∷ s) next.2)

-- ---- the page and the account that segments name, by where they are cut

pub no_account : (path : List ℕ) → cut path ≡ None → account_segments (segments path) ≡ None
no_account path p = ap account_segments (uncut_segments path p)

-- the page, if its name is not cut
abbrev pub page_if : List ℕ → Option Parts → Option Page → Option (Page × List ℕ)
page_if account None page = option_map (λ found. (found, account)) page
page_if account (Some parts) page = None

pub account_by : (path account name : List ℕ) (more : Option Parts) (page : Option Page)
    → cut path ≡ Some (account, name) → cut name ≡ more → page_named name ≡ page
    → account_segments (segments path) ≡ page_if account more page
account_by path account name None page p q r =
    ap account_segments (cut_segments path (account, name) p
    ∙ ap (λ s. account ∷ s) (uncut_segments name q))
    ∙ ap (option_map (λ (found : Page). (found, account))) r
account_by path account name (Some parts) page p q r =
    let next = a_segment parts.1 in
    ap account_segments (cut_segments path (account, name) p
    ∙ ap (λ s. account ∷ s) (cut_segments name parts q ∙ ap (λ s. parts.0 ∷ s) next.2))
