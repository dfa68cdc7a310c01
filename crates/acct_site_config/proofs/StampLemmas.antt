-- The clients whose logins are stamped, one table more at a time.
use Rattle.std.proofs.Common.{◌≡◌, ℕ, ◌+◌, ◌<◌, List, [], ◌∷◌, ◌++◌, length, map, take, drop, get_or}
use Rattle.std.proofs.Common.{Option, Some, None, sym, ◌∙◌, ap, cond, true, false}
use Rattle.std.proofs.lemmas.List.{drop_more, length-map, append-nil}
use Rattle.std.proofs.lemmas.List.Elements.{filter_map-append}
use Rattle.std.proofs.lemmas.Option.{get_or_from_slice_get}
use Rattle.std.specs.List.{filter_map, cons_option, position_from}
use Rattle.toml.specs.Data.{Data}
use Rattle.toml.specs.View.{view}
use Rattle.toml.specs.declared.value.Value.{Value}
use Rattle.acct_wire.specs.declared.hearing.StampedClient.{StampedClient}
use Rattle.acct_site_config.specs.StampTables.{stamped_in, is_stamped, first_stamped}
use Rattle.acct_site_config.proofs.EntryLemmas.{viewed, viewed_more}

-- the client that is found, if one is
abbrev pub listed : Option StampedClient → List StampedClient
listed None = []
listed (Some client) = client ∷ []

one_found : (value : Data) (found : Option StampedClient) → stamped_in value ≡ found
    → filter_map stamped_in (value ∷ []) ≡ listed found
one_found value None is = ap (λ o. cons_option o []) is
one_found value (Some client) is = ap (λ o. cons_option o []) is

-- the clients of the first tables, and of one more
pub stamped_more : (values : List Value) (i : ℕ) (value : Value) (found : Option StampedClient)
    → i < length values → value ≡ get_or values i value → found ≡ stamped_in (view value)
    → filter_map stamped_in (take (i + 1) (map view values))
    ≡ filter_map stamped_in (take i (map view values)) ++ listed found
stamped_more values i value found within is says =
    ap (filter_map stamped_in) (viewed_more values i value within is)
    ∙ filter_map-append stamped_in (take i (map view values)) (view value ∷ [])
    ∙ ap (λ last. filter_map stamped_in (take i (map view values)) ++ last)
    (one_found (view value) found (sym says))

-- and of one that has none
pub stamped_none : (values : List Value) (i : ℕ) (value : Value) → i < length values
    → value ≡ get_or values i value → None ≡ stamped_in (view value)
    → filter_map stamped_in (take (i + 1) (map view values))
    ≡ filter_map stamped_in (take i (map view values))
stamped_none values i value within is says =
    stamped_more values i value None within is says
    ∙ append-nil (filter_map stamped_in (take i (map view values)))

-- what is at a place
there : (values : List Value) (i : ℕ) (value : Value) → i < length values
    → value ≡ get_or values i value → get_or (map view values) i (view value) ≡ view value
there values i value within is =
    get_or_from_slice_get (map view values) i (view value) (view value)
    (viewed values i value within is)

from_here : (values : List Value) (i : ℕ) (value : Value) → i < length values
    → value ≡ get_or values i value
    → position_from is_stamped i (drop i (map view values))
    ≡ cond (is_stamped (view value)) (Some i)
    (position_from is_stamped (i + 1) (drop (i + 1) (map view values)))
from_here values i value within is =
    let inside : i < length (map view values) = rw length-map within in
    ap (position_from is_stamped i) (drop_more (map view values) i (view value) inside)
    ∙ ap (λ d. cond (is_stamped d) (Some i)
    (position_from is_stamped (i + 1) (drop (i + 1) (map view values))))
    (there values i value within is)

-- a table whose client is stamped is the first
pub first_here : (values : List Value) (i : ℕ) (value : Value) → i < length values
    → value ≡ get_or values i value
    → position_from is_stamped i (drop i (map view values)) ≡ first_stamped (map view values)
    → is_stamped (view value) ≡ true → Some i ≡ first_stamped (map view values)
first_here values i value within is so stamped =
    sym (ap (λ b. cond b (Some i)
    (position_from is_stamped (i + 1) (drop (i + 1) (map view values)))) stamped)
    ∙ sym (from_here values i value within is) ∙ so

-- behind one whose client isn't, the first is among the rest
pub first_later : (values : List Value) (i : ℕ) (value : Value) → i < length values
    → value ≡ get_or values i value
    → position_from is_stamped i (drop i (map view values)) ≡ first_stamped (map view values)
    → is_stamped (view value) ≡ false
    → position_from is_stamped (i + 1) (drop (i + 1) (map view values))
    ≡ first_stamped (map view values)
first_later values i value within is so other =
    sym (ap (λ b. cond b (Some i)
    (position_from is_stamped (i + 1) (drop (i + 1) (map view values)))) other)
    ∙ sym (from_here values i value within is) ∙ so
