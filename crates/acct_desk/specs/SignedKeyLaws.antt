-- Laws of signed keys, in the subject's own words. Functions of the module `laws` have them as
-- their contracts.
use Rattle.std.specs.Prelude.{◌≡◌, ◌≢◌, ◌↔◌, ℕ, ◌<◌, ◌≤◌, ◌^◌, false, List, ◌++◌, All, Some, codes}
use Rattle.acct_model.specs.declared.stamp.Stamp.{Stamp}
use Rattle.acct_model.specs.declared.stamp.StampSecrets.{StampSecrets}
use Rattle.acct_model.specs.StampLaws.{AreOctets, IsSecretOf}
use Rattle.acct_model.specs.Stamps.{stamp_of}
use Rattle.acct_desk.specs.declared.keys.Signing.{Signing}
use Rattle.acct_desk.specs.declared.signed_key.SignedKey.{SignedKey}
use Rattle.acct_desk.specs.Keys.{is_token_text}
use Rattle.acct_desk.specs.SignedKeys.{key_of, key_read, signed_account}

-- what a signed key may say
pub record IsSignedKey (key : SignedKey) : Type 0 where
  pub account : AreOctets key.account
  pub until : key.until < 2 ^ 64

-- A value is read as a signed key if, and only if, a secret of the site made it of what is read.
pub record SignedKeysAreRead : Type 0 where
  -- what was made is read as what it was made of
  pub made : (secrets : StampSecrets) (secret : List ℕ) (key : SignedKey)
      → IsSecretOf secrets secret → IsSignedKey key
      → key_read secrets (key_of secret key) ≡ Some key
  -- what is read could be made
  pub read : (secrets : StampSecrets) (value : List ℕ) (key : SignedKey)
      → key_read secrets value ≡ Some key
      → (secret : List ℕ) × IsSecretOf secrets secret × IsSignedKey key
      × (value ≡ key_of secret key)

-- Signed keys of different accounts or ends differ, whoever made them.
abbrev pub SignedKeysDiffer : Type 0
SignedKeysDiffer = (one other : List ℕ) (key also : SignedKey) → IsSignedKey key
    → IsSignedKey also → key_of one key ≡ key_of other also → key ≡ also

-- A secret of the site made the value for this account, its last second is not past, and each
-- withdrawal of the account ended before that second.
pub record IsInForce (signing : Signing) (moment : ℕ) (value account : List ℕ) : Type 0 where
  pub key : SignedKey
  pub of_account : key.account ≡ account
  pub is : IsSignedKey key
  pub secret : List ℕ
  pub of_site : IsSecretOf signing.secrets secret
  pub made : value ≡ key_of secret key
  pub lasts : moment ≤ key.until
  pub kept : All (λ withdrawn. withdrawn.account ≡ account → withdrawn.until < key.until)
      signing.withdrawn.items

-- A value shows what an account's own key shows if, and only if, it is in force for the account.
abbrev pub SignedKeysAreInForce : Type 0
SignedKeysAreInForce = (signing : Signing) (moment : ℕ) (value account : List ℕ)
    → (signed_account (Some signing) moment value ≡ Some account)
    ↔ IsInForce signing moment value account

-- A signed key is no stamp and no token of the configuration, whoever made it.
pub record SignedKeysAreApart : Type 0 where
  -- no text is signed as both
  pub signed : (one other : List ℕ) → (codes "stamp;" ++ one) ≢ (codes "key;" ++ other)
  pub stamps : (one other : List ℕ) (stamp : Stamp) (key : SignedKey) → IsSignedKey key
      → stamp_of one stamp ≢ key_of other key
  pub tokens : (secret : List ℕ) (key : SignedKey) → is_token_text (key_of secret key) ≡ false
