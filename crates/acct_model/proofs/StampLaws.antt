-- Why stamps are read as what they were made of, and differ, and why sessions of stamps differ.
use Rattle.std.proofs.Common.{◌≡◌, ◌⊎◌, inl, inr, ℕ, ◌≤◌, Bool, true, false, cond, ◌&&◌}
use Rattle.std.proofs.Common.{◌||◌, List, [], ◌∷◌, ◌++◌, length, refl, sym, ◌∙◌, ap, subst, arith}
use Rattle.std.proofs.Common.{append_assoc, codes}
use Rattle.std.proofs.lemmas.Bool.{true≢false, leb-true, le-leb}
use Rattle.std.proofs.lemmas.List.{append-nil}
use Rattle.std.proofs.lemmas.List.Elements.{All-head, All-tail, All-weaker}
use Rattle.std.proofs.lemmas.List.Sums.{AllPass-from_list_all}
use Rattle.std.specs.Prelude.{Option, None, Some, All, nat_le, option_and_then}
use Rattle.std.specs.Option.{option_map}
use Rattle.std.specs.List.{list_all}
use Rattle.percent_encoding.specs.Percent.{percent_decode}
use Rattle.percent_encoding.specs.AsciiSet.{should_percent_encode}
use Rattle.percent_encoding.proofs.PercentLemmas.{All-percent_encode, IsEscapeByte}
use Rattle.acct_model.specs.declared.stamp.Stamp.{Stamp}
use Rattle.acct_model.specs.declared.stamp.StampSecrets.{StampSecrets}
use Rattle.acct_model.specs.Coded.{coded}
use Rattle.acct_model.specs.Stamps.{is_login, is_login_digit, stamp_text, signature, stamp_of, is_made}
use Rattle.acct_model.specs.Stamps.{is_made_by, cut, fields, stamp_in, stamp_kept, stamp_read}
use Rattle.acct_model.specs.Stamps.{stamped_session}
use Rattle.acct_model.specs.StampLaws.{AreOctets, IsStamp, IsSecretOf, StampsAreRead, StampsDiffer}
use Rattle.acct_model.specs.StampLaws.{SessionsDiffer}
use Rattle.acct_model.proofs.CodedOctets.{set, percent_encode-coded, decoded-coded}
use Rattle.acct_model.proofs.Cuts.{cut_behind}
use Rattle.acct_model.proofs.Same.{Decides-bytes_eq, and_both, both_and}

-- ---- which octets the fields have

-- no octet is this one
abbrev Lacks : ℕ → List ℕ → Type 0
Lacks octet list = All (λ o. o ≡ octet → ⊥) list

digit_or_letter : (octet : ℕ) → IsEscapeByte octet → (octet ≡ 59) ⊎ (octet ≡ 47) → ⊥
digit_or_letter octet (inl is) (inl e) = omega (arith, is, e)
digit_or_letter octet (inl is) (inr e) = omega (arith, is, e)
digit_or_letter octet (inr (inl (a, b))) (inl e) = omega (arith, a, b, e)
digit_or_letter octet (inr (inl (a, b))) (inr e) = omega (arith, a, b, e)
digit_or_letter octet (inr (inr (a, b))) (inl e) = omega (arith, a, b, e)
digit_or_letter octet (inr (inr (a, b))) (inr e) = omega (arith, a, b, e)

kept_not : (mark octet : ℕ) → should_percent_encode set mark ≡ true
    → should_percent_encode set octet ≡ false → octet ≡ mark → ⊥
kept_not mark octet marked kept is =
    true≢false (sym marked ∙ sym (ap (should_percent_encode set) is) ∙ kept)

moved : (octet mark : ℕ) → octet ≡ mark → (mark ≡ 59) ⊎ (mark ≡ 47) → (octet ≡ 59) ⊎ (octet ≡ 47)
moved octet mark is (inl e) = inl (is ∙ e)
moved octet mark is (inr e) = inr (is ∙ e)

semicolon : should_percent_encode set 59 ≡ true
unfolding should_percent_encode
semicolon = refl

slash : should_percent_encode set 47 ≡ true
unfolding should_percent_encode
slash = refl

-- coded octets have no `;` and no `/`
coded_lacks : (mark : ℕ) → (mark ≡ 59) ⊎ (mark ≡ 47) → should_percent_encode set mark ≡ true
    → (octets : List ℕ) → Lacks mark (coded octets)
coded_lacks mark which marked octets =
    subst (Lacks mark) (percent_encode-coded octets)
    (All-percent_encode (λ o. o ≡ mark → ⊥) set octets (λ o kept. kept_not mark o marked kept)
    (λ o glyph is. digit_or_letter o glyph (moved o mark is which)))

-- nor has a login
login_lacks : (mark : ℕ) → is_login_digit mark ≡ false → (login : List ℕ) → is_login login ≡ true
    → Lacks mark login
login_lacks mark none login fits =
    All-weaker (λ o. is_login_digit o ≡ true) (λ o. o ≡ mark → ⊥)
    (λ o digit is. true≢false (sym digit ∙ ap is_login_digit is ∙ none)) login
    (AllPass-from_list_all is_login_digit login
    (and_both (nat_le (length login) 32) (list_all is_login_digit login) fits).1)

-- ---- the fields of a stamp

abbrev Fields : Type 0
Fields = List ℕ × List ℕ × List ℕ

abbrev fields_in : Stamp → Fields
fields_in stamp = (coded stamp.plan, stamp.login, coded stamp.name)

shape : (p l n s : List ℕ)
    → (p ++ 59 ∷ (l ++ 59 ∷ (n ++ 59 ∷ []))) ++ s ≡ p ++ 59 ∷ (l ++ 59 ∷ (n ++ 59 ∷ s))
shape p l n s =
    append_assoc p (59 ∷ (l ++ 59 ∷ (n ++ 59 ∷ []))) s
    ∙ ap (λ x. p ++ 59 ∷ x) (append_assoc l (59 ∷ (n ++ 59 ∷ [])) s
    ∙ ap (λ x. l ++ 59 ∷ x) (append_assoc n (59 ∷ []) s))

cuts : (p l n s : List ℕ) → Lacks 59 p → Lacks 59 l → Lacks 59 n
    → fields (p ++ 59 ∷ (l ++ 59 ∷ (n ++ 59 ∷ s))) ≡ Some (p, l, n)
cuts p l n s p_lacks l_lacks n_lacks =
    ap (option_and_then (λ one. option_and_then (λ two. option_map
    (λ three. (one.0, two.0, three.0)) (cut two.1)) (cut one.1)))
    (cut_behind p (l ++ 59 ∷ (n ++ 59 ∷ s)) p_lacks)
    ∙ ap (option_and_then (λ two. option_map (λ three. (p, two.0, three.0)) (cut two.1)))
    (cut_behind l (n ++ 59 ∷ s) l_lacks)
    ∙ ap (option_map (λ three. (p, l, three.0))) (cut_behind n s n_lacks)

fields_of : (secret : List ℕ) (stamp : Stamp) → IsStamp stamp
    → fields (stamp_of secret stamp) ≡ Some (fields_in stamp)
fields_of secret stamp is =
    let signed = signature (codes "stamp;") secret (stamp_text stamp) ++ [] in
    ap fields (shape (coded stamp.plan) stamp.login (coded stamp.name) signed)
    ∙ cuts (coded stamp.plan) stamp.login (coded stamp.name) signed
    (coded_lacks 59 (inl refl) semicolon stamp.plan) (login_lacks 59 refl stamp.login is.login)
    (coded_lacks 59 (inl refl) semicolon stamp.name)

-- the fields say what the stamp says
says : (stamp : Stamp) → IsStamp stamp → stamp_in (fields_in stamp) ≡ stamp
says stamp is = λ i. record {
  plan = decoded-coded stamp.plan is.plan i;
  login = stamp.login;
  name = decoded-coded stamp.name is.name i;
}

-- ---- what was made is read

or_true : (b : Bool) → (b || true) ≡ true
or_true true = refl
or_true false = refl

made_by : (secrets : StampSecrets) (secret : List ℕ) (stamp : Stamp) → IsSecretOf secrets secret
    → is_made secrets (stamp_of secret stamp) stamp ≡ true
made_by secrets secret stamp (inl same) =
    let value = stamp_of secret stamp in
    ap (λ b. b || is_made_by secrets.old value stamp)
    ((Decides-bytes_eq value (stamp_of secrets.secret stamp)).1
    (ap (λ k. stamp_of k stamp) same))
made_by secrets secret stamp (inr old) =
    let value = stamp_of secret stamp in
    ap (λ o. is_made_by (Some secrets.secret) value stamp || is_made_by o value stamp) old
    ∙ ap (λ b. is_made_by (Some secrets.secret) value stamp || b)
    ((Decides-bytes_eq value value).1 refl)
    ∙ or_true (is_made_by (Some secrets.secret) value stamp)

kept_so : (secrets : StampSecrets) (value : List ℕ) (stamp : Stamp) → IsStamp stamp
    → is_made secrets value stamp ≡ true
    → stamp_kept secrets value (Some (fields_in stamp)) ≡ Some stamp
kept_so secrets value stamp is made =
    ap (λ b. cond b (Some (stamp_in (fields_in stamp))) None)
    (both_and (is_login stamp.login) (is_made secrets value (stamp_in (fields_in stamp))) is.login
    (ap (is_made secrets value) (says stamp is) ∙ made))
    ∙ ap Some (says stamp is)

made_is_read : (secrets : StampSecrets) (secret : List ℕ) (stamp : Stamp)
    → IsSecretOf secrets secret → IsStamp stamp → length (stamp_of secret stamp) ≤ 253
    → stamp_read secrets (stamp_of secret stamp) ≡ Some stamp
made_is_read secrets secret stamp of_site is short =
    let value = stamp_of secret stamp in
    ap (λ b. cond b (stamp_kept secrets value (fields value)) None)
    (le-leb (length value) 253 short)
    ∙ ap (stamp_kept secrets value) (fields_of secret stamp is)
    ∙ kept_so secrets value stamp is (made_by secrets secret stamp of_site)

-- ---- what is read was made

cond_some : {X : Type 0} (b : Bool) (o : Option X) (x : X) → cond b o None ≡ Some x
    → (b ≡ true) × (o ≡ Some x)
cond_some true o x e = (refl, e)
cond_some false o x e = absurd (let clash : None ≡ Some x = e in cc)

either : (p q : Bool) → (p || q) ≡ true → (p ≡ true) ⊎ (q ≡ true)
either true q e = inl refl
either false q e = inr e

some_same : {X : Type 0} (x y : X) → Some x ≡ Some y → x ≡ y
some_same x y e = cc

kept_some : (secrets : StampSecrets) (value : List ℕ) (stamp : Stamp) (found : Option Fields)
    → stamp_kept secrets value found ≡ Some stamp
    → (is_login stamp.login ≡ true) × (is_made secrets value stamp ≡ true)
kept_some secrets value stamp None e = absurd (let clash : None ≡ Some stamp = e in cc)
kept_some secrets value stamp (Some parts) e =
    let found = cond_some (is_login parts.1 && is_made secrets value (stamp_in parts))
    (Some (stamp_in parts)) stamp e in
    subst (λ (s : Stamp). (is_login s.login ≡ true) × (is_made secrets value s ≡ true))
    (some_same (stamp_in parts) stamp found.1)
    (and_both (is_login parts.1) (is_made secrets value (stamp_in parts)) found.0)

old_made : (o : Option (List ℕ)) (value : List ℕ) (stamp : Stamp) → is_made_by o value stamp ≡ true
    → (secret : List ℕ) × (o ≡ Some secret) × (value ≡ stamp_of secret stamp)
old_made None value stamp e = absurd (true≢false (sym e))
old_made (Some secret) value stamp e =
    (secret, refl, (Decides-bytes_eq value (stamp_of secret stamp)).0 e)

read_is_made : (secrets : StampSecrets) (value : List ℕ) (stamp : Stamp)
    → stamp_read secrets value ≡ Some stamp
    → (secret : List ℕ) × IsSecretOf secrets secret × (value ≡ stamp_of secret stamp)
    × (is_login stamp.login ≡ true) × (length value ≤ 253)
read_is_made secrets value stamp e =
    let short = cond_some (nat_le (length value) 253) (stamp_kept secrets value (fields value)) stamp
    e in
    let kept = kept_some secrets value stamp (fields value) short.1 in
    let fits = leb-true (length value) 253 short.0 in
    elim (either (is_made_by (Some secrets.secret) value stamp) (is_made_by secrets.old value stamp)
    kept.1) [
      | inl by ↦ (
        secrets.secret,
        inl refl,
        (Decides-bytes_eq value (stamp_of secrets.secret stamp)).0 by,
        kept.0,
        fits,
      )
      | inr by ↦ let (secret, is, same) = old_made secrets.old value stamp by in
          (secret, inr is, same, kept.0, fits)
    ]

pub stamps_read : StampsAreRead
stamps_read = record { made = made_is_read; read = read_is_made }

-- ---- stamps differ

pub stamps_differ : StampsDiffer
stamps_differ one other stamp also is is_also e =
    let same : Some (fields_in stamp) ≡ Some (fields_in also) =
    sym (fields_of one stamp is) ∙ ap fields e ∙ fields_of other also is_also in
    sym (says stamp is) ∙ ap stamp_in (some_same (fields_in stamp) (fields_in also) same)
    ∙ says also is_also

-- ---- sessions differ

head_same : (o u : ℕ) (xs ys : List ℕ) → o ∷ xs ≡ u ∷ ys → o ≡ u
head_same o u xs ys e = cc

tail_same : (o u : ℕ) (xs ys : List ℕ) → o ∷ xs ≡ u ∷ ys → xs ≡ ys
tail_same o u xs ys e = cc

behind : (b xs : List ℕ) → Lacks 47 (b ++ xs) → Lacks 47 xs
behind [] xs lacks = lacks
behind (o ∷ b) xs lacks = behind b xs (All-tail (λ k. k ≡ 47 → ⊥) o (b ++ xs) lacks)

lacks_in : (x b y : List ℕ) → Lacks 47 x → x ≡ b ++ 47 ∷ y → ⊥
lacks_in x b y lacks e =
    All-head (λ o. o ≡ 47 → ⊥) 47 y
    (behind b (47 ∷ y) (subst (Lacks 47) e lacks)) refl

-- octets that a `/` ends, with none behind it, have one last `/`
last_mark : (a b x y : List ℕ) → Lacks 47 x → Lacks 47 y → a ++ 47 ∷ x ≡ b ++ 47 ∷ y
    → (a ≡ b) × (x ≡ y)
last_mark [] [] x y x_lacks y_lacks e = (refl, tail_same 47 47 x y e)
last_mark [] (o ∷ b) x y x_lacks y_lacks e =
    absurd (lacks_in x b y x_lacks (tail_same 47 o x (b ++ 47 ∷ y) e))
last_mark (o ∷ a) [] x y x_lacks y_lacks e =
    absurd (lacks_in y a x y_lacks (sym (tail_same o 47 (a ++ 47 ∷ x) y e)))
last_mark (o ∷ a) (u ∷ b) x y x_lacks y_lacks e =
    let rest = last_mark a b x y x_lacks y_lacks
    (tail_same o u (a ++ 47 ∷ x) (b ++ 47 ∷ y) e) in
    let first : o ≡ u = head_same o u (a ++ 47 ∷ x) (b ++ 47 ∷ y) e in
    (ap (λ k. k ∷ a) first ∙ ap (λ k. u ∷ k) rest.0, rest.1)

session_shape : (id : List ℕ) (stamp : Stamp)
    → stamped_session id stamp ≡ (id ++ 47 ∷ stamp.login) ++ 47 ∷ (coded stamp.name ++ [])
session_shape id stamp =
    sym (append_assoc id (47 ∷ stamp.login) (47 ∷ (coded stamp.name ++ [])))

decoded : (one other : List ℕ) → AreOctets one → AreOctets other
    → coded one ++ [] ≡ coded other ++ [] → one ≡ other
decoded one other are also e =
    sym (decoded-coded one are)
    ∙ ap percent_decode (sym (append-nil (coded one)) ∙ e ∙ append-nil (coded other))
    ∙ decoded-coded other also

pub sessions_differ : SessionsDiffer
sessions_differ one other stamp also is is_also e =
    let ends = last_mark (one ++ 47 ∷ stamp.login) (other ++ 47 ∷ also.login)
    (coded stamp.name ++ []) (coded also.name ++ [])
    (subst (Lacks 47) (sym (append-nil (coded stamp.name)))
    (coded_lacks 47 (inr refl) slash stamp.name))
    (subst (Lacks 47) (sym (append-nil (coded also.name)))
    (coded_lacks 47 (inr refl) slash also.name))
    (sym (session_shape one stamp) ∙ e ∙ session_shape other also) in
    let fronts = last_mark one other stamp.login also.login
    (login_lacks 47 refl stamp.login is.login) (login_lacks 47 refl also.login is_also.login)
    ends.0 in
    (fronts.0, fronts.1, decoded stamp.name also.name is.name is_also.name ends.1)
