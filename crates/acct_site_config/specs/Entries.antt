-- The entries that an array of tables spells, and the first table that is refused.
use Rattle.std.specs.Prelude.{◌≡◌, ◌⊎◌, ⊤, List, [], ◌∷◌, take, slice_get, Option, Some, None}
use Rattle.toml.specs.Data.{Data}
use Rattle.acct_model.specs.Faults.{first_fault}
use Rattle.acct_site_config.specs.declared.config_error.ConfigKind.{ConfigKind}
use Rattle.acct_site_config.specs.declared.config_error.ConfigKind.TheVariants.{BadShape, Memory}
use Rattle.acct_site_config.specs.declared.config_error.ConfigTable.{ConfigTable}
use Rattle.acct_site_config.specs.declared.config_error.ConfigError.{ConfigError}

-- For entries of one kind. `values_of` gives the values of an element that has their shape. `Says`
-- holds if values are those of an entry within its rules. `fault` is what is wrong with an entry
-- after earlier ones.
module _ {V X E : Type 0} (values_of : Data → Option V) (Says : V → X → Type 0)
    (fault : List X → X → Option E) where
  -- the element has the shape, and its values are those of the entry
  pub record SpellsTable (element : Data) (entry : X) : Type 0 where
    pub values : V
    pub shape : values_of element ≡ Some values
    pub says : Says values entry

  -- each table spells the entry at its place
  abbrev pub EachSpells : List Data → List X → Type 0
  EachSpells [] [] = ⊤
  EachSpells (element ∷ tables) (entry ∷ entries) =
      SpellsTable element entry × EachSpells tables entries
  EachSpells [] (entry ∷ entries) = ⊥
  EachSpells (element ∷ tables) [] = ⊥

  -- the tables spell these entries, and none has a fault after the earlier ones
  pub record AreEntries (tables : List Data) (entries : List X) : Type 0 where
    pub spelled : EachSpells tables entries
    pub faultless : first_fault fault entries ≡ None

  -- the element has the shape, but its values are those of no entry within its rules
  pub record SpellsNone (element : Data) : Type 0 where
    pub values : V
    pub shape : values_of element ≡ Some values
    pub none : (entry : X) → Says values entry → ⊥

  -- why an element spells no entry: its shape, its values, or out of memory
  abbrev pub IsUnspelled : ConfigKind → Data → ConfigKind → Type 0
  IsUnspelled bad element kind =
      (kind ≡ Memory)
      ⊎ ((kind ≡ BadShape) × (values_of element ≡ None))
      ⊎ ((kind ≡ bad) × SpellsNone element)

  -- the element spells an entry with a fault among the earlier ones, and the fault has this kind
  pub record SpellsFaulty (kind_of : E → ConfigKind) (earlier : List X) (element : Data)
      (kind : ConfigKind) : Type 0 where
    pub entry : X
    pub spelled : SpellsTable element entry
    pub why : E
    pub found : fault earlier entry ≡ Some why
    pub told : kind ≡ kind_of why

  -- why an element after these entries is refused: its shape, its values, or a fault of its entry
  abbrev pub IsFirstRefused : ConfigKind → (E → ConfigKind) → List X → Data → ConfigKind → Type 0
  IsFirstRefused bad kind_of earlier element kind =
      ((kind ≡ BadShape) × (values_of element ≡ None))
      ⊎ ((kind ≡ bad) × SpellsNone element)
      ⊎ SpellsFaulty kind_of earlier element kind

-- For lists of one kind: when tables spell a list, and why a table after a list is refused.
module _ {L : Type 0} (AreSpelled : List Data → L → Type 0)
    (Refuses : L → Data → ConfigKind → Type 0) where
  -- the error is that of the first table of the array that is refused
  pub record FirstRefused (array : ConfigTable) (tables : List Data) (error : ConfigError)
      : Type 0 where
    pub in_table : error.table ≡ array
    pub earlier : L
    pub before : AreSpelled (take error.index tables) earlier
    pub here : Data
    pub at : slice_get tables error.index ≡ Some here
    pub refused : Refuses earlier here error.kind
