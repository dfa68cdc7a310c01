-- Which names lead to one file, and when a file would overwrite another one.
use Rattle.std.specs.Prelude.{◌≡◌, ◌⊎◌, ⊤, List, Option, Some, None, Contains, IsTrue}
use Rattle.acct_program_commands.specs.declared.kept_names.Found.{Found}
use Rattle.acct_program_commands.specs.declared.kept_names.Place.{Place}
use Rattle.acct_program_commands.specs.declared.kept_names.Place.TheVariants as place

-- both lead to the same file, or to the same free name in a folder
abbrev pub LeadsToOne : Place → Place → Type 0
LeadsToOne (place.File device number) (place.File device₂ number₂) =
    (device ≡ device₂) × (number ≡ number₂)
LeadsToOne (place.File device number) (place.Free device₂ number₂ name₂) = ⊥
LeadsToOne (place.File device number) place.Unknown = ⊥
LeadsToOne (place.Free device number name) (place.File device₂ number₂) = ⊥
LeadsToOne (place.Free device number name) (place.Free device₂ number₂ name₂) =
    (device ≡ device₂) × (number ≡ number₂) × (name ≡ name₂)
LeadsToOne (place.Free device number name) place.Unknown = ⊥
LeadsToOne place.Unknown other = ⊥

-- the name leads to the file of one of these
abbrev pub LeadsToSome : List Place → Place → Type 0
LeadsToSome others one = (other : Place) × Contains others other × LeadsToOne one other

-- a name of the first list leads to the file of one of the second
abbrev pub SharesOne : List Place → List Place → Type 0
SharesOne places others = (one : Place) × Contains places one × LeadsToSome others one

-- One of the files to write would overwrite another one. Something that the program did not write
-- is at one of its names. Or one of its names leads to a file that is kept, or to the other file to
-- write.
abbrev pub Overwrites : Found → Type 0
Overwrites found =
    IsTrue found.status.is_foreign ⊎ IsTrue found.balances.is_foreign
    ⊎ SharesOne found.status.places found.kept ⊎ SharesOne found.balances.places found.kept
    ⊎ SharesOne found.status.places found.balances.places

-- one of the two is named
abbrev pub NamesSome : {A B : Type 0} → Option A → Option B → Type 0
NamesSome None None = ⊥
NamesSome None (Some other) = ⊤
NamesSome (Some one) other = ⊤
