-- The sample site.
use Rattle.std.specs.Prelude.{List, [], ◌∷◌, codes, None}
use Rattle.acct_model.specs.declared.plan.Plan.{Plan}
use Rattle.acct_model.specs.declared.plan.Count.TheVariants.{Both}
use Rattle.acct_desk.specs.declared.keys.DeskKey.{DeskKey}
use Rattle.acct_desk.specs.declared.keys.Role.TheVariants.{Account, Cashier}
use Rattle.acct_desk.specs.Keys.{KeysFacts, bare}
use Rattle.acct_wire.specs.declared.client.Client.{Client}
use Rattle.acct_wire.specs.Clients.{ClientsFacts}

abbrev pub gold : Plan
gold = record { class = codes "gold"; block = 1048576; unit = 10; count = Both }

abbrev pub default_plan : Plan
default_plan = record { class = codes "default"; block = 1000000; unit = 5; count = Both }

abbrev pub sample_plans : List Plan
sample_plans = gold ∷ default_plan ∷ []

abbrev pub ap1 : Client
ap1 = record { name = codes "ap1"; address = 10 ∷ 0 ∷ 0 ∷ 1 ∷ []; secret = codes "xyzzy5461" }

abbrev pub sample_clients : ClientsFacts
sample_clients = record { list = ap1 ∷ []; stamping = None }

abbrev pub sample_key_list : List DeskKey
sample_key_list =
    (record { token = codes "al-key-0000000001"; role = Account (codes "al") })
    ∷ (record { token = codes "bo-key-0000000001"; role = Account (codes "bo") })
    ∷ (record { token = codes "cash-key-00000001"; role = Cashier }) ∷ []

abbrev pub sample_keys : KeysFacts
sample_keys = bare sample_key_list
