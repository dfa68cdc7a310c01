-- What is wrong with keys, and how keys are kept.
use Rattle.std.specs.Prelude.{◌≡◌, ℕ, Bool, not, Option, None, Some, List, Vec}
use Rattle.std.specs.Prelude.{if◌then◌else◌}
use Rattle.std.specs.Global.{Global}
use Rattle.std.specs.List.{list_any, position_from}
use Rattle.std.specs.BTreeMap as tree
use Rattle.std.specs.BTreeMap.{BTreeMap}
use Rattle.matchit.specs.Rows.{RowsOf}
use Rattle.matchit.specs.Router.{RouteOf}
use Rattle.acct_model.specs.Faults.{first_fault}
use Rattle.acct_book.specs.Maps.{octets_cmp}
use Rattle.acct_desk.specs.declared.routes.Endpoint.{Endpoint}
use Rattle.acct_desk.specs.declared.keys.DeskKey.{DeskKey}
use Rattle.acct_desk.specs.declared.keys.KeysError.{KeysError}
use Rattle.acct_desk.specs.declared.keys.KeysError.TheVariants.{BadToken, TwiceKeyed, Memory}
use Rattle.acct_desk.specs.Keys.{is_token_text, has_token, is_for_logins}
use Rattle.acct_desk.specs.Routes.{desk_rows}

-- what is wrong with a key that follows earlier ones
abbrev pub key_fault : List DeskKey → DeskKey → Option KeysError
key_fault earlier key =
    if not (is_token_text key.token) then Some BadToken
    else if list_any (has_token key.token) earlier then Some TwiceKeyed
    else None

-- the first fault of a list of keys
abbrev pub keys_fault : List DeskKey → Option KeysError
keys_fault keys = first_fault key_fault keys

-- an error is the first fault, or out of memory, whatever the fault
abbrev pub IsKeysError : Option KeysError → KeysError → Type 0
IsKeysError fault BadToken = fault ≡ Some BadToken
IsKeysError fault TwiceKeyed = fault ≡ Some TwiceKeyed
IsKeysError fault Memory = Unit {0}

-- the place that is kept for a token
abbrev pub place_at : BTreeMap (Vec ℕ Global) ℕ → List ℕ → Option ℕ
place_at places token = tree.get_by (λ key. octets_cmp token key.items) places

-- each token's place is that of the first key that has it
abbrev pub ArePlaces : BTreeMap (Vec ℕ Global) ℕ → List DeskKey → Type 0
ArePlaces places keys = (token : List ℕ)
    → place_at places token ≡ position_from (has_token token) 0 keys

-- what the keys of a desk keep: no fault, the place of each token, the router of the desk's paths,
-- and whether a key is for logins
pub record AreKeys (keys : List DeskKey) (places : BTreeMap (Vec ℕ Global) ℕ)
    (router : RowsOf (RouteOf Endpoint)) (for_logins : Bool) : Type 0 where
  pub faultless : keys_fault keys ≡ None
  pub placed : ArePlaces places keys
  pub routed : router ≡ desk_rows
  pub told : for_logins ≡ list_any is_for_logins keys
