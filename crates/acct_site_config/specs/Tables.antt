-- The values at the names of a document's tables.
use Rattle.std.specs.Prelude.{ℕ, ℤ, Bool, false, List, [], ◌∷◌, length, nat_le, if◌then◌else◌}
use Rattle.std.specs.Prelude.{Option, Some, None, option_and_then, option_map, unwrap_or, bytes_eq}
use Rattle.std.specs.List.{list_all, list_any}
use Rattle.toml.specs.Data.{Data, string, boolean, array, Items, no_items, item, Members, no_members, member}
use Rattle.toml.specs.Data.{get_member, as_str, as_integer, as_bool, as_table}
use Rattle.acct_site_config.specs.declared.config_error.ConfigKind.{ConfigKind}
use Rattle.acct_site_config.specs.declared.config_error.ConfigTable.TheVariants.{Top}
use Rattle.acct_site_config.specs.declared.config_error.ConfigError.{ConfigError}

-- what is wrong with the text as a whole
abbrev pub top_error : ConfigKind → ConfigError
top_error kind = record { kind = kind; table = Top; index = 0 }

-- the names of a table
abbrev pub names_of : Members → List (List ℕ)
names_of no_members = []
names_of (member name value rest) = name ∷ names_of rest

-- the name is one of these
abbrev pub is_one_of : List (List ℕ) → List ℕ → Bool
is_one_of known name = list_any (bytes_eq name) known

-- each name of the table is one of these
abbrev pub has_only : List (List ℕ) → Members → Bool
has_only known table = list_all (is_one_of known) (names_of table)

-- the table, if it has no names but these
abbrev pub only : List (List ℕ) → Members → Option Members
only known table = if has_only known table then Some table else None

-- the table that an element is, if it has no names but these
abbrev pub table_shown : List (List ℕ) → Data → Option Members
table_shown known element = option_and_then (only known) (as_table element)

-- the text at a name
abbrev pub text_at : List ℕ → Members → Option (List ℕ)
text_at name table = option_and_then as_str (get_member name table)

-- the whole number at a name
abbrev pub integer_at : List ℕ → Members → Option ℤ
integer_at name table = option_and_then as_integer (get_member name table)

-- the text at a name, or a default if the name is absent
abbrev pub text_or : List ℕ → List ℕ → Members → Option (List ℕ)
text_or default name table = as_str (unwrap_or (get_member name table) (string default))

-- the text at a name, if it is there
abbrev pub text_if : Option Data → Option (Option (List ℕ))
text_if None = Some None
text_if (Some value) = option_map Some (as_str value)

-- the truth value at a name, false if the name is absent
abbrev pub bool_at : List ℕ → Members → Option Bool
bool_at name table = as_bool (unwrap_or (get_member name table) (boolean false))

-- the elements of an array
abbrev pub elements : Items → List Data
elements no_items = []
elements (item value rest) = value ∷ elements rest

-- the elements of the array at a name, if it is an array; an absent one is empty
abbrev pub elements_at : Option Data → Option (List Data)
elements_at None = Some []
elements_at (Some (array items)) = Some (elements items)
elements_at (Some _) = None

-- a list that is no longer than this
abbrev pub list_at_most : ℕ → Option (List Data) → Option (List Data)
list_at_most limit None = None
list_at_most limit (Some list) = if nat_le (length list) limit then Some list else None

-- the elements of the array at a name, if there are no more than this
abbrev pub array_at : List ℕ → ℕ → Members → Option (List Data)
array_at name limit top = list_at_most limit (elements_at (get_member name top))

module _ {A B C D E : Type 0} where
  -- five values, if each is there
  abbrev pub five : Option A → Option B → Option C → Option D → Option E
      → Option (A × B × C × D × E)
  five (Some a) (Some b) (Some c) (Some d) (Some e) = Some (a, b, c, d, e)
  five None _ _ _ _ = None
  five (Some a) None _ _ _ = None
  five (Some a) (Some b) None _ _ = None
  five (Some a) (Some b) (Some c) None _ = None
  five (Some a) (Some b) (Some c) (Some d) None = None

module _ {A B C D : Type 0} where
  -- four values, if each is there
  abbrev pub four : Option A → Option B → Option C → Option D → Option (A × B × C × D)
  four (Some a) (Some b) (Some c) (Some d) = Some (a, b, c, d)
  four None _ _ _ = None
  four (Some a) None _ _ = None
  four (Some a) (Some b) None _ = None
  four (Some a) (Some b) (Some c) None = None

module _ {A B C : Type 0} where
  -- three values, if each is there
  abbrev pub three : Option A → Option B → Option C → Option (A × B × C)
  three (Some a) (Some b) (Some c) = Some (a, b, c)
  three None _ _ = None
  three (Some a) None _ = None
  three (Some a) (Some b) None = None

module _ {A B : Type 0} where
  -- two values, if both are there
  abbrev pub two : Option A → Option B → Option (A × B)
  two (Some a) (Some b) = Some (a, b)
  two None _ = None
  two (Some a) None = None
