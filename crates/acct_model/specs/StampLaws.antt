-- Laws of stamps, in the subject's own words. Functions of the module `laws` have them as their
-- contracts.
use Rattle.std.specs.Prelude.{◌≡◌, ◌⊎◌, ℕ, ◌<◌, ◌≤◌, true, List, All, length, Some}
use Rattle.acct_model.specs.declared.stamp.Stamp.{Stamp}
use Rattle.acct_model.specs.declared.stamp.StampSecrets.{StampSecrets}
use Rattle.acct_model.specs.Stamps.{is_login, stamp_of, stamp_read, stamped_session}

-- the octets are octets
abbrev pub AreOctets : List ℕ → Type 0
AreOctets list = All (λ octet. octet < 256) list

-- what a stamp may say
pub record IsStamp (stamp : Stamp) : Type 0 where
  pub plan : AreOctets stamp.plan
  pub login : is_login stamp.login ≡ true
  pub name : AreOctets stamp.name

-- one of the site's secrets, the present one or the old one
abbrev pub IsSecretOf : StampSecrets → List ℕ → Type 0
IsSecretOf secrets secret = (secret ≡ secrets.secret) ⊎ (secrets.old ≡ Some secret)

-- A value is read as a stamp if, and only if, a secret of the site made it of what is read.
pub record StampsAreRead : Type 0 where
  -- what was made is read as what it was made of
  pub made : (secrets : StampSecrets) (secret : List ℕ) (stamp : Stamp) → IsSecretOf secrets secret
      → IsStamp stamp → length (stamp_of secret stamp) ≤ 253
      → stamp_read secrets (stamp_of secret stamp) ≡ Some stamp
  -- what is read could be made
  pub read : (secrets : StampSecrets) (value : List ℕ) (stamp : Stamp)
      → stamp_read secrets value ≡ Some stamp
      → (secret : List ℕ) × IsSecretOf secrets secret × (value ≡ stamp_of secret stamp)
      × (is_login stamp.login ≡ true) × (length value ≤ 253)

-- Stamps that say different things differ, whoever made them.
abbrev pub StampsDiffer : Type 0
StampsDiffer = (one other : List ℕ) (stamp also : Stamp) → IsStamp stamp → IsStamp also
    → stamp_of one stamp ≡ stamp_of other also → stamp ≡ also

-- Two sessions of a stamped client have one name only if their own ids, their logins and who pays
-- for them are the same, whatever octets an id has.
abbrev pub SessionsDiffer : Type 0
SessionsDiffer = (one other : List ℕ) (stamp also : Stamp) → IsStamp stamp → IsStamp also
    → stamped_session one stamp ≡ stamped_session other also
    → (one ≡ other) × (stamp.login ≡ also.login) × (stamp.name ≡ also.name)
