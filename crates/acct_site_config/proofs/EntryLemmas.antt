-- Entries of an array of tables, one more at a time.
use Rattle.std.proofs.Common.{◌≡◌, ℕ, ◌+◌, ◌<◌, List, [], ◌∷◌, ◌++◌, length, map, take, get_or}
use Rattle.std.proofs.Common.{Option, Some, None, option_map, zero, suc, inl, inr, refl}
use Rattle.std.proofs.Common.{◌∙◌, ap, slice_get}
use Rattle.std.specs.Prelude.{◌⊎◌, Result, Ok, Err, IfErr, IsErrAnd}
use Rattle.std.proofs.lemmas.Option.{slice_get_read, get_or_from_slice_get}
use Rattle.std.proofs.lemmas.List.{length-map, take_more}
use Rattle.toml.specs.Data.{Data}
use Rattle.toml.specs.View.{view}
use Rattle.toml.specs.declared.value.Value.{Value}
use Rattle.acct_model.specs.Faults.{fault_or}
use Rattle.acct_model.proofs.Faults.{faultless_more}
use Rattle.acct_site_config.specs.declared.config_error.ConfigKind.{ConfigKind}
use Rattle.acct_site_config.specs.declared.config_error.ConfigKind.TheVariants.{Memory}
use Rattle.acct_site_config.specs.Entries.{SpellsTable, EachSpells, AreEntries, IsUnspelled}
use Rattle.acct_site_config.specs.Entries.{IsFirstRefused}

-- ---- the data of values

viewed_at : (values : List Value) (i : ℕ) (value : Value) → slice_get values i ≡ Some value
    → slice_get (map view values) i ≡ Some (view value)
viewed_at [] i value h = absurd (cc h)
viewed_at (x ∷ values) zero value h = ap (option_map view) h
viewed_at (x ∷ values) (suc i) value h = viewed_at values i value h

-- what is at a place
pub viewed : (values : List Value) (i : ℕ) (value : Value) → i < length values
    → value ≡ get_or values i value → slice_get (map view values) i ≡ Some (view value)
viewed values i value within is =
    viewed_at values i value (slice_get_read values (length values) i value refl within is)

-- the views of the first values, and of one more
pub viewed_more : (values : List Value) (i : ℕ) (value : Value) → i < length values
    → value ≡ get_or values i value
    → take (i + 1) (map view values) ≡ take i (map view values) ++ view value ∷ []
viewed_more values i value within is =
    let inside : i < length (map view values) = rw length-map within in
    take_more (map view values) i (view value) inside
    ∙ ap (λ element. take i (map view values) ++ element ∷ [])
    (get_or_from_slice_get (map view values) i (view value) (view value)
    (viewed values i value within is))

-- ---- entries

module _ {V X E : Type 0} (values_of : Data → Option V) (Says : V → X → Type 0)
    (fault : List X → X → Option E) where
  each_more : (tables : List Data) (entries : List X) (element : Data) (entry : X)
      → EachSpells values_of Says fault tables entries
      → SpellsTable values_of Says fault element entry
      → EachSpells values_of Says fault (tables ++ element ∷ []) (entries ++ entry ∷ [])
  each_more [] [] element entry each spells = (spells, tt)
  each_more (t ∷ tables) (e ∷ entries) element entry each spells =
      (each.0, each_more tables entries element entry each.1 spells)
  each_more [] (e ∷ entries) element entry each spells = absurd each
  each_more (t ∷ tables) [] element entry each spells = absurd each

  -- one table more, and the entry that it spells
  pub more_entries : (tables : List Data) (entries : List X) (element : Data) (entry : X)
      → AreEntries values_of Says fault tables entries
      → SpellsTable values_of Says fault element entry
      → fault entries entry ≡ None
      → AreEntries values_of Says fault (tables ++ element ∷ []) (entries ++ entry ∷ [])
  more_entries tables entries element entry are spells alone =
      record {
        spelled = each_more tables entries element entry are.spelled spells;
        faultless = faultless_more fault entries entry are.faultless alone;
      }

  -- what spells no entry is refused, with any elements before it
  pub unspelled : {T : Type 0} (bad : ConfigKind) (kind_of : E → ConfigKind) (earlier : List X)
      (element : Data) (kind : ConfigKind) (result : Result T ConfigKind)
      → IsErrAnd result (λ why. why ≡ kind) → IsUnspelled values_of Says fault bad element kind
      → IfErr result (λ why. (why ≡ Memory)
      ⊎ IsFirstRefused values_of Says fault bad kind_of earlier element why)
  unspelled bad kind_of earlier element kind (Ok x) told why = tt
  unspelled bad kind_of earlier element kind (Err e) told (inl memory) = inl (told ∙ memory)
  unspelled bad kind_of earlier element kind (Err e) told (inr (inl shape)) =
      inr (inl (told ∙ shape.0, shape.1))
  unspelled bad kind_of earlier element kind (Err e) told (inr (inr none)) =
      inr (inr (inl (told ∙ none.0, none.1)))

  told_by : (bad : ConfigKind) (kind_of : E → ConfigKind) (memory error : E) (earlier : List X)
      (element : Data) (entry : X) (kind : ConfigKind) (found : Option E)
      → fault earlier entry ≡ found → SpellsTable values_of Says fault element entry
      → error ≡ fault_or memory found → kind_of memory ≡ Memory → kind ≡ kind_of error
      → (kind ≡ Memory) ⊎ IsFirstRefused values_of Says fault bad kind_of earlier element kind
  told_by bad kind_of memory error earlier element entry kind None is spells what none told =
      inl (told ∙ ap kind_of what ∙ none)
  told_by bad kind_of memory error earlier element entry kind (Some why) is spells what none told =
      inr (inr (inr (record {
        entry = entry;
        spelled = spells;
        why = why;
        found = is;
        told = told ∙ ap kind_of what;
      })))

  -- so is what spells an entry that has a fault
  pub faulty : {T : Type 0} (bad : ConfigKind) (kind_of : E → ConfigKind) (memory error : E)
      (earlier : List X) (element : Data) (entry : X) (result : Result T ConfigKind)
      → IsErrAnd result (λ why. why ≡ kind_of error)
      → SpellsTable values_of Says fault element entry
      → error ≡ fault_or memory (fault earlier entry) → kind_of memory ≡ Memory
      → IfErr result (λ why. (why ≡ Memory)
      ⊎ IsFirstRefused values_of Says fault bad kind_of earlier element why)
  faulty bad kind_of memory error earlier element entry (Ok x) told spells what none = tt
  faulty bad kind_of memory error earlier element entry (Err e) told spells what none =
      told_by bad kind_of memory error earlier element entry e (fault earlier entry) refl spells
      what none told
