-- Why signed keys are read as what they were made of, differ, and are no stamps.
use Rattle.std.proofs.Common.{◌≡◌, ◌⊎◌, inl, inr, ℕ, ◌/◌, ◌%◌, ◌<◌, ◌≤◌, ◌^◌, Bool, true}
use Rattle.std.proofs.Common.{false, cond, ◌&&◌, ◌||◌, List, [], ◌∷◌, ◌++◌, length, get_or}
use Rattle.std.proofs.Common.{refl, sym, ◌∙◌}
use Rattle.std.proofs.Common.{ap, subst, arith, rules, append_assoc, codes}
use Rattle.std.specs.Prelude.{◌≢◌, Option, None, Some, Ok, Err, Result, All, nat_le, nat_lt, not}
use Rattle.std.specs.Prelude.{decimal, bytes_eq, slice_index, ◌==◌}
use Rattle.std.specs.Char.{is_ascii_digit}
use Rattle.std.specs.List.{list_all, list_any, before_first, after_first}
use Rattle.std.specs.Result.{result_ok}
use Rattle.std.specs.Str.Parse.{digits_value}
use Rattle.std.proofs.lemmas.Bool.{true≢false, leb-true, leb-false, le-leb, cases_lt, eq-eqb}
use Rattle.std.proofs.lemmas.Bool.{ltb-true}
use Rattle.std.proofs.lemmas.Bool.Decides.{nat_tests}
use Rattle.std.proofs.lemmas.List.{get_or_default}
use Rattle.std.proofs.lemmas.Fmt.{digits_decimal, digits_value-decimal, decimal_is_IsNumeral}
use Rattle.std.proofs.lemmas.Fmt.{length-decimal-le}
use Rattle.std.proofs.lemmas.List.Elements.{All-nil, All-cons, All-head, All-tail, All-append}
use Rattle.std.proofs.lemmas.List.Elements.{All-weaker}
use Rattle.std.proofs.lemmas.List.Folds.{list_all-append, list_any_at, list_any_none}
use Rattle.std.proofs.lemmas.List.Sums.{AllPass-from_list_all}
use Rattle.std.proofs.lemmas.Str.Parse.{IsNumeralModel, numerals_by_value}
use Rattle.std.proofs.Math.ListN.{get_or-eq_default}
use Rattle.hex.specs.Hex.{encode_with, encode_lower, decode_of, lower_digits, IsBytes}
use Rattle.hex.specs.declared.error.FromHexError.{FromHexError}
use Rattle.hex.proofs.HexLemmas.{decode_of-encode_lower, decode_of-ok}
use Rattle.acct_model.specs.declared.stamp.Stamp.{Stamp}
use Rattle.acct_model.specs.declared.stamp.StampSecrets.{StampSecrets}
use Rattle.acct_model.specs.Coded.{coded}
use Rattle.acct_model.specs.Numbers.{is_numeral, number_of}
use Rattle.acct_model.specs.StampLaws.{AreOctets, IsSecretOf}
use Rattle.acct_model.specs.Stamps.{signature, stamp_text, stamp_of}
use Rattle.acct_model.proofs.Same.{Decides-bytes_eq, and_both, both_and}
use Rattle.acct_desk.specs.declared.keys.Signing.{Signing}
use Rattle.acct_desk.specs.declared.signed_key.SignedKey.{SignedKey}
use Rattle.acct_desk.specs.declared.signed_key.Withdrawn.{Withdrawn}
use Rattle.acct_desk.specs.Keys.{is_token_octet, is_token_text}
use Rattle.acct_desk.specs.SignedKeys.{key_text, key_of, is_made_by, is_made, is_dot, key_with}
use Rattle.acct_desk.specs.SignedKeys.{key_in}
use Rattle.acct_desk.specs.SignedKeys.{key_kept, key_read, is_ended_by, is_in_force}
use Rattle.acct_desk.specs.SignedKeys.{account_in_force, signed_account}
use Rattle.acct_desk.specs.SignedKeyLaws.{IsSignedKey, SignedKeysAreRead, SignedKeysDiffer}
use Rattle.acct_desk.specs.SignedKeyLaws.{IsInForce}
use Rattle.acct_desk.specs.SignedKeyLaws.{SignedKeysAreInForce, SignedKeysAreApart}
use Rattle.acct_desk.proofs.DotLemmas.{Lacks, before_behind, after_behind}

-- ---- which octets the parts have

-- no digit of the table is this mark
abbrev NoDigit : ℕ → Type 0
NoDigit mark = (k : ℕ) → slice_index lower_digits k ≡ mark → ⊥

not_true : (b : Bool) → b ≡ true → not b ≡ true → ⊥
not_true true is none = true≢false (sym none)
not_true false is none = true≢false (sym is)

no_digit : (mark : ℕ) → (0 ≡ mark → ⊥) → list_all (λ d. not (d == mark)) lower_digits ≡ true
    → NoDigit mark
no_digit mark zero_not all k is =
    elim (cases_lt k (length lower_digits)) [
      | inl within ↦ not_true (slice_index lower_digits k == mark)
          (eq-eqb (slice_index lower_digits k) mark is)
          (AllPass-from_list_all (λ d. not (d == mark)) lower_digits all k 0 within)
      | inr past ↦ zero_not (sym (get_or-eq_default lower_digits 0 past) ∙ is)
    ]

hex_lacks : (mark : ℕ) → NoDigit mark → (octets : List ℕ) → Lacks mark (encode_lower octets)
unfolding encode_with
hex_lacks mark none [] = All-nil (λ o. o ≡ mark → ⊥)
hex_lacks mark none (octet ∷ rest) =
    All-cons (λ o. o ≡ mark → ⊥) (slice_index lower_digits (octet / 16))
    (slice_index lower_digits (octet % 16) ∷ encode_lower rest) (none (octet / 16))
    (All-cons (λ o. o ≡ mark → ⊥) (slice_index lower_digits (octet % 16)) (encode_lower rest)
    (none (octet % 16)) (hex_lacks mark none rest))

no_dot : NoDigit 46
no_dot = no_digit 46 (λ e. absurd (cc)) refl

no_semicolon : NoDigit 59
no_semicolon = no_digit 59 (λ e. absurd (cc)) refl

own : IsNumeralModel (λ ds. list_all is_ascii_digit ds ≡ true) (digits_value 10)
own = numerals_by_value _ (search rules)

decimal_lacks : (mark n : ℕ) → is_ascii_digit mark ≡ false → n < 2 ^ 64 → Lacks mark (decimal n)
decimal_lacks mark n none fits =
    All-weaker (λ o. is_ascii_digit o ≡ true) (λ o. o ≡ mark → ⊥)
    (λ o digit is. true≢false (sym digit ∙ ap is_ascii_digit is ∙ none)) (decimal n)
    (AllPass-from_list_all is_ascii_digit (decimal n) (digits_decimal own n fits))

-- ---- the parts of a key

shape : (a u s : List ℕ) → (a ++ 46 ∷ (u ++ 46 ∷ [])) ++ s ≡ a ++ 46 ∷ (u ++ 46 ∷ s)
shape a u s =
    append_assoc a (46 ∷ (u ++ 46 ∷ [])) s
    ∙ ap (λ x. a ++ 46 ∷ x) (append_assoc u (46 ∷ []) s)

-- what stands behind the second `.`
abbrev mac : List ℕ → SignedKey → List ℕ
mac secret key = signature (codes "key;") secret (key_text key) ++ []

key_shape : (secret : List ℕ) (key : SignedKey)
    → key_of secret key
    ≡ encode_lower key.account ++ 46 ∷ (decimal key.until ++ 46 ∷ mac secret key)
key_shape secret key = shape (encode_lower key.account) (decimal key.until) (mac secret key)

bytes_of : (octets : List ℕ) → AreOctets octets → IsBytes octets
bytes_of octets are i =
    elim (cases_lt i (length octets)) [
      | inl within ↦ are i 0 within
      | inr past ↦ let out = get_or-eq_default octets 0 past in omega (arith, out)
    ]

octets_of : (octets : List ℕ) → IsBytes octets → AreOctets octets
octets_of octets are k d within =
    subst (λ n. n < 256) (sym (get_or_default octets k d 0 within)) (are k)

number_read : (n : ℕ) → n < 2 ^ 64 → number_of 20 (decimal n) ≡ Some n
number_read n fits =
    let digits : list_all is_ascii_digit (decimal n) ≡ true = digits_decimal own n fits in
    let short : length (decimal n) ≤ 20 = length-decimal-le 20 n (omega arith) (omega arith) fits in
    let some : 0 < length (decimal n) = (decimal_is_IsNumeral n fits).0.0 in
    let is : is_numeral 20 (decimal n) ≡ true = grind (arith, nat_tests) in
    let same = digits_value-decimal own n fits in
    let below : nat_lt n (2 ^ 64) ≡ true = grind (arith, nat_tests) in
    rw (is, same, below) refl

in_parts : (a r : List ℕ) (key : SignedKey) → Lacks 46 a
    → result_ok (decode_of a) ≡ Some key.account
    → number_of 20 (before_first is_dot r) ≡ Some key.until → key_in (a ++ 46 ∷ r) ≡ Some key
in_parts a r key none account until =
    ap (λ x. key_with (number_of 20 (before_first is_dot (after_first is_dot (a ++ 46 ∷ r))))
    (result_ok (decode_of x))) (before_behind a r none)
    ∙ ap (λ x. key_with (number_of 20 (before_first is_dot x)) (result_ok (decode_of a)))
    (after_behind a r none)
    ∙ ap (λ x. key_with x (result_ok (decode_of a))) until
    ∙ ap (key_with (Some key.until)) account

pub key_in_made : (secret : List ℕ) (key : SignedKey) → IsSignedKey key
    → key_in (key_of secret key) ≡ Some key
key_in_made secret key is =
    let a = encode_lower key.account in
    let r = decimal key.until ++ 46 ∷ mac secret key in
    ap key_in (key_shape secret key)
    ∙ in_parts a r key (hex_lacks 46 no_dot key.account)
    (ap result_ok (decode_of-encode_lower key.account (bytes_of key.account is.account)))
    (ap (number_of 20) (before_behind (decimal key.until) (mac secret key)
    (decimal_lacks 46 key.until refl is.until))
    ∙ number_read key.until is.until)

-- ---- what was made is read

or_true : (b : Bool) → (b || true) ≡ true
or_true true = refl
or_true false = refl

made_by : (secrets : StampSecrets) (secret : List ℕ) (key : SignedKey) → IsSecretOf secrets secret
    → is_made secrets (key_of secret key) key ≡ true
made_by secrets secret key (inl same) =
    let value = key_of secret key in
    ap (λ b. b || is_made_by secrets.old value key)
    ((Decides-bytes_eq value (key_of secrets.secret key)).1 (ap (λ k. key_of k key) same))
made_by secrets secret key (inr old) =
    let value = key_of secret key in
    ap (λ o. is_made_by (Some secrets.secret) value key || is_made_by o value key) old
    ∙ ap (λ b. is_made_by (Some secrets.secret) value key || b)
    ((Decides-bytes_eq value value).1 refl)
    ∙ or_true (is_made_by (Some secrets.secret) value key)

made_is_read : (secrets : StampSecrets) (secret : List ℕ) (key : SignedKey)
    → IsSecretOf secrets secret → IsSignedKey key → key_read secrets (key_of secret key) ≡ Some key
made_is_read secrets secret key of_site is =
    let value = key_of secret key in
    ap (key_kept secrets value) (key_in_made secret key is)
    ∙ ap (λ b. cond b (Some key) None) (made_by secrets secret key of_site)

-- ---- what is read was made

cond_some : {X : Type 0} (b : Bool) (o : Option X) (x : X) → cond b o None ≡ Some x
    → (b ≡ true) × (o ≡ Some x)
cond_some true o x e = (refl, e)
cond_some false o x e = absurd (let clash : None ≡ Some x = e in cc)

either : (p q : Bool) → (p || q) ≡ true → (p ≡ true) ⊎ (q ≡ true)
either true q e = inl refl
either false q e = inr e

some_same : {X : Type 0} (x y : X) → Some x ≡ Some y → x ≡ y
some_same x y e = cc

kept_some : (secrets : StampSecrets) (value : List ℕ) (key : SignedKey) (found : Option SignedKey)
    → key_kept secrets value found ≡ Some key
    → (found ≡ Some key) × (is_made secrets value key ≡ true)
kept_some secrets value key None e = absurd (let clash : None ≡ Some key = e in cc)
kept_some secrets value key (Some read) e =
    let found = cond_some (is_made secrets value read) (Some read) key e in (
      found.1,
      subst (λ (k : SignedKey). is_made secrets value k ≡ true)
          (some_same read key found.1) found.0,
    )

decoded_some : (decoded : Result (List ℕ) FromHexError) (account : List ℕ)
    → result_ok decoded ≡ Some account → decoded ≡ Ok account
decoded_some (Ok octets) account e = ap Ok (some_same octets account e)
decoded_some (Err error) account e = absurd (let clash : None ≡ Some account = e in cc)

with_some : (until : Option ℕ) (account : Option (List ℕ)) (key : SignedKey)
    → key_with until account ≡ Some key → (until ≡ Some key.until) × (account ≡ Some key.account)
with_some None account key e = absurd (let clash : None ≡ Some key = e in cc)
with_some (Some until) None key e = absurd (let clash : None ≡ Some key = e in cc)
with_some (Some until) (Some account) key e =
    let same = some_same (record { account = account; until = until }) key e in
    (ap (λ (k : SignedKey). Some k.until) same, ap (λ (k : SignedKey). Some k.account) same)

number_fits : (text : List ℕ) (n : ℕ) → number_of 20 text ≡ Some n → n < 2 ^ 64
number_fits text n e =
    let found = cond_some (is_numeral 20 text && nat_lt (digits_value 10 text) (2 ^ 64))
    (Some (digits_value 10 text)) n e in
    let both = and_both (is_numeral 20 text) (nat_lt (digits_value 10 text) (2 ^ 64)) found.0 in
    subst (λ m. m < 2 ^ 64) (some_same (digits_value 10 text) n found.1)
    (ltb-true (digits_value 10 text) (2 ^ 64) both.1)

in_is : (value : List ℕ) (key : SignedKey) → key_in value ≡ Some key → IsSignedKey key
in_is value key e =
    let digits = before_first is_dot value in
    let seconds = before_first is_dot (after_first is_dot value) in
    let parts = with_some (number_of 20 seconds) (result_ok (decode_of digits)) key e in
    let decoded = decoded_some (decode_of digits) key.account parts.1 in
    record {
      account = octets_of key.account (decode_of-ok digits key.account decoded).3;
      until = number_fits seconds key.until parts.0;
    }

old_made : (o : Option (List ℕ)) (value : List ℕ) (key : SignedKey) → is_made_by o value key ≡ true
    → (secret : List ℕ) × (o ≡ Some secret) × (value ≡ key_of secret key)
old_made None value key e = absurd (true≢false (sym e))
old_made (Some secret) value key e =
    (secret, refl, (Decides-bytes_eq value (key_of secret key)).0 e)

read_is_made : (secrets : StampSecrets) (value : List ℕ) (key : SignedKey)
    → key_read secrets value ≡ Some key
    → (secret : List ℕ) × IsSecretOf secrets secret × IsSignedKey key × (value ≡ key_of secret key)
read_is_made secrets value key e =
    let kept = kept_some secrets value key (key_in value) e in
    let is = in_is value key kept.0 in
    elim (either (is_made_by (Some secrets.secret) value key) (is_made_by secrets.old value key)
    kept.1) [
      | inl by ↦ (
        secrets.secret,
        inl refl,
        is,
        (Decides-bytes_eq value (key_of secrets.secret key)).0 by,
      )
      | inr by ↦ let (secret, old, same) = old_made secrets.old value key by in
          (secret, inr old, is, same)
    ]

pub signed_keys_read : SignedKeysAreRead
signed_keys_read = record { made = made_is_read; read = read_is_made }

-- ---- keys differ

pub signed_keys_differ : SignedKeysDiffer
signed_keys_differ one other key also is is_also e =
    some_same key also
    (sym (key_in_made one key is) ∙ ap key_in e ∙ key_in_made other also is_also)

-- ---- keys in force

-- no withdrawal of the key's account reaches its last second
abbrev IsKept : SignedKey → List Withdrawn → Type 0
IsKept key withdrawn = All (λ w. w.account ≡ key.account → w.until < key.until) withdrawn

not_both : (p q : Bool) → (p && q) ≡ false → p ≡ true → q ≡ false
not_both true q e is = e
not_both false q e is = absurd (true≢false (sym is))

none_both : (p q : Bool) → (p ≡ true → q ≡ false) → (p && q) ≡ false
none_both true q e = e refl
none_both false q e = refl

not_false : (b : Bool) → not b ≡ true → b ≡ false
not_false true e = absurd (true≢false (sym e))
not_false false e = refl

cases_of : (b : Bool) → (b ≡ true) ⊎ (b ≡ false)
cases_of true = inl refl
cases_of false = inr refl

kept_of : (key : SignedKey) (withdrawn : List Withdrawn)
    → list_any (is_ended_by key) withdrawn ≡ false → IsKept key withdrawn
kept_of key withdrawn none k d within same =
    let w = get_or withdrawn k d in
    elim (cases_of (is_ended_by key w)) [
      | inl ends ↦ absurd (true≢false (sym (list_any_at (is_ended_by key) withdrawn k d within ends)
          ∙ none))
      | inr not_ended ↦ leb-false key.until w.until
          (not_both (bytes_eq w.account key.account) (nat_le key.until w.until) not_ended
          ((Decides-bytes_eq w.account key.account).1 same))
    ]

above : (n m : ℕ) → m < n → nat_le n m ≡ false
above n m h = grind (arith, nat_tests)

none_of : (key : SignedKey) (withdrawn : List Withdrawn) → IsKept key withdrawn
    → list_any (is_ended_by key) withdrawn ≡ false
none_of key withdrawn kept =
    list_any_none (is_ended_by key) withdrawn
    (All-weaker (λ w. w.account ≡ key.account → w.until < key.until)
    (λ w. is_ended_by key w ≡ false)
    (λ w before. none_both (bytes_eq w.account key.account) (nat_le key.until w.until)
    (λ same. above key.until w.until
    (before ((Decides-bytes_eq w.account key.account).0 same)))) withdrawn kept)

in_force_some : (withdrawn : List Withdrawn) (moment : ℕ) (account : List ℕ)
    (found : Option SignedKey) → account_in_force withdrawn moment found ≡ Some account
    → (key : SignedKey) × (found ≡ Some key) × (key.account ≡ account)
    × (is_in_force withdrawn moment key ≡ true)
in_force_some withdrawn moment account None e =
    absurd (let clash : None ≡ Some account = e in cc)
in_force_some withdrawn moment account (Some key) e =
    let found = cond_some (is_in_force withdrawn moment key) (Some key.account) account e in
    (key, refl, some_same key.account account found.1, found.0)

is_of_force : (signing : Signing) (moment : ℕ) (value account : List ℕ)
    → signed_account (Some signing) moment value ≡ Some account
    → IsInForce signing moment value account
is_of_force signing moment value account e =
    let withdrawn = signing.withdrawn.items in
    let (key, found, of_account, force) = in_force_some withdrawn moment account
    (key_read signing.secrets value) e in
    let (secret, of_site, is, made) = read_is_made signing.secrets value key found in
    let both = and_both (nat_le moment key.until) (not (list_any (is_ended_by key) withdrawn))
    force in
    record {
      key = key;
      of_account = of_account;
      is = is;
      secret = secret;
      of_site = of_site;
      made = made;
      lasts = leb-true moment key.until both.0;
      kept = subst (λ a. All (λ w. w.account ≡ a → w.until < key.until) withdrawn) of_account
          (kept_of key withdrawn (not_false (list_any (is_ended_by key) withdrawn) both.1));
    }

force_of : (signing : Signing) (moment : ℕ) (value account : List ℕ)
    → IsInForce signing moment value account
    → signed_account (Some signing) moment value ≡ Some account
force_of signing moment value account is =
    let withdrawn = signing.withdrawn.items in
    let key = is.key in
    let kept = subst (λ a. All (λ w. w.account ≡ a → w.until < key.until) withdrawn)
    (sym is.of_account) is.kept in
    ap (λ v. account_in_force withdrawn moment (key_read signing.secrets v)) is.made
    ∙ ap (account_in_force withdrawn moment)
    (made_is_read signing.secrets is.secret key is.of_site is.is)
    ∙ ap (λ b. cond b (Some key.account) None)
    (both_and (nat_le moment key.until) (not (list_any (is_ended_by key) withdrawn))
    (le-leb moment key.until is.lasts) (ap not (none_of key withdrawn kept)))
    ∙ ap Some is.of_account

pub signed_keys_in_force : SignedKeysAreInForce
signed_keys_in_force signing moment value account =
    (is_of_force signing moment value account, force_of signing moment value account)

-- ---- stamps and tokens

first_same : (o u : ℕ) (xs ys : List ℕ) → o ∷ xs ≡ u ∷ ys → o ≡ u
first_same o u xs ys e = cc

texts_apart : (one other : List ℕ) → (codes "stamp;" ++ one) ≢ (codes "key;" ++ other)
texts_apart one other e =
    let same : 115 ≡ 107 = first_same 115 107 (116 ∷ 97 ∷ 109 ∷ 112 ∷ 59 ∷ one)
    (101 ∷ 121 ∷ 59 ∷ other) e in
    omega (arith, same)

key_lacks : (secret : List ℕ) (key : SignedKey) → IsSignedKey key → Lacks 59 (key_of secret key)
key_lacks secret key is =
    let P : ℕ → Type 0 = λ o. o ≡ 59 → ⊥ in
    let dot : 46 ≡ 59 → ⊥ = λ e. omega (arith, e) in
    let tail = mac secret key in
    let ends = decimal key.until ++ 46 ∷ tail in
    subst (Lacks 59) (sym (key_shape secret key))
    (All-append P (encode_lower key.account) (46 ∷ ends) (hex_lacks 59 no_semicolon key.account)
    (All-cons P 46 ends dot
    (All-append P (decimal key.until) (46 ∷ tail) (decimal_lacks 59 key.until refl is.until)
    (All-cons P 46 tail dot
    (All-append P (signature (codes "key;") secret (key_text key)) []
    (hex_lacks 59 no_semicolon _) (All-nil P))))))

behind : (front back : List ℕ) → Lacks 59 (front ++ back) → Lacks 59 back
behind [] back lacks = lacks
behind (o ∷ front) back lacks =
    behind front back (All-tail (λ k. k ≡ 59 → ⊥) o (front ++ back) lacks)

has_mark : (front back : List ℕ) → Lacks 59 (front ++ 59 ∷ back) → ⊥
has_mark front back lacks =
    All-head (λ o. o ≡ 59 → ⊥) 59 back (behind front (59 ∷ back) lacks) refl

stamps_apart : (one other : List ℕ) (stamp : Stamp) (key : SignedKey) → IsSignedKey key
    → stamp_of one stamp ≢ key_of other key
stamps_apart one other stamp key is e =
    let signed = signature (codes "stamp;") one (stamp_text stamp) ++ [] in
    let rest = stamp.login ++ 59 ∷ (coded stamp.name ++ 59 ∷ []) in
    has_mark (coded stamp.plan) (rest ++ signed)
    (subst (Lacks 59) (sym e ∙ append_assoc (coded stamp.plan) (59 ∷ rest) signed)
    (key_lacks other key is))

and_false : (a b c : Bool) → b ≡ false → (a && (b && c)) ≡ false
and_false true b c e = ap (λ x. x && c) e
and_false false b c e = refl

last_false : (a b : Bool) → b ≡ false → (a && b) ≡ false
last_false true b e = e
last_false false b e = refl

tokens_apart : (secret : List ℕ) (key : SignedKey) → is_token_text (key_of secret key) ≡ false
tokens_apart secret key =
    let value = key_of secret key in
    let account = encode_lower key.account in
    let ends = decimal key.until ++ 46 ∷ mac secret key in
    last_false (nat_le 16 (length value) && nat_le (length value) 64)
    (list_all is_token_octet value)
    (ap (list_all is_token_octet) (key_shape secret key)
    ∙ list_all-append is_token_octet account (46 ∷ ends)
    ∙ last_false (list_all is_token_octet account) (list_all is_token_octet (46 ∷ ends)) refl)

pub signed_keys_apart : SignedKeysAreApart
signed_keys_apart =
    record { signed = texts_apart; stamps = stamps_apart; tokens = tokens_apart }
