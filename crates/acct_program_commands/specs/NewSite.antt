-- Which configuration replaces another one while a server runs, and what is printed about it.
use Rattle.std.specs.Prelude.{◌≡◌, ◌≢◌, ◌↔◌, ◌⊎◌, ℕ, List, [], ◌∷◌, ◌++◌, Option, None, Some}
use Rattle.std.specs.Prelude.{Ok, Err, Bool, false, IfSome, IsTrue, codes, decimal, length}
use Rattle.std.specs.Prelude.{Contains}
use Rattle.std.specs.Io.KnownBytes.{Appends}
use Rattle.acct_model.specs.declared.plan.Plan.{Plan}
use Rattle.acct_model.specs.Plans.{Extends, plan_class}
use Rattle.acct_model.specs.Shown.{shown}
use Rattle.acct_site.specs.declared.config.Config.{Config}
use Rattle.acct_service.specs.Told.{Grows}
use Rattle.acct_program_commands.specs.Checks.{IsRead}
use Rattle.acct_program_commands.specs.Endings.{fault_text}
use Rattle.acct_program_commands.specs.Puts.{WasSeen}
use Rattle.acct_program_commands.specs.Sights.{Reading, Sight, Poll}
use Rattle.acct_program_commands.specs.declared.fault.Fault.{Fault}
use Rattle.acct_program_commands.specs.declared.new_site.Sizes.{Sizes}
use Rattle.acct_program_commands.specs.declared.new_site.Change.{Change}
use Rattle.acct_program_commands.specs.declared.new_site.Change.TheVariants.{New, Missing, Other}

-- two lists have the same plans, in any order
abbrev pub HaveSame : List Plan → List Plan → Type 0
HaveSame own in_force = Extends own in_force × Extends in_force own

-- A configuration with these plans is made of a reading. It has the clients and keys of the one
-- that the reading spells. It is current exactly if that one has the same plans.
abbrev pub IsMadeOf : List Plan → Reading → Config → Bool → Type 0
IsMadeOf plans reading site is_current =
    (spelled : Config) × IsRead reading (Ok spelled) × (site ≡ record spelled { plans = plans })
    × (IsTrue is_current ↔ HaveSame spelled.plans plans)

-- What a configuration with these plans takes from a reading: one that is made of it. If the
-- reading spells none, it takes nothing, and the one in force is not current.
abbrev pub IsTaken : List Plan → Reading → Option Config → Bool → Type 0
IsTaken plans reading (Some site) is_current = IsMadeOf plans reading site is_current
IsTaken plans reading None is_current =
    (why : Fault) × IsRead reading (Err why) × (is_current ≡ false)

-- Either a configuration with these plans is made of a reading, and the reading is not refused. Or
-- none is, the one in force is not current, and the reading is refused for what is wrong with it.
abbrev pub TakesOrRefuses : List Plan → Reading → Option Config → Bool → Option Fault → Type 0
TakesOrRefuses plans reading (Some site) is_current None = IsMadeOf plans reading site is_current
TakesOrRefuses plans reading (Some site) is_current (Some why) = ⊥
TakesOrRefuses plans reading None is_current (Some why) =
    IsRead reading (Err why) × (is_current ≡ false)
TakesOrRefuses plans reading None is_current None = ⊥

-- What a configuration with these plans takes from a poll. It takes nothing if the text did not
-- change, or is no configuration. Else it takes its clients and keys, and keeps these plans.
abbrev pub Takes : List Plan → Sight → Option Config → Type 0
Takes plans None gave = gave ≡ None
Takes plans (Some reading) gave = (is_current : Bool) × IsTaken plans reading gave is_current

-- one more poll of a text, at this moment, from which this was taken
abbrev pub PollsAndTakes : ℕ → List Plan → Option (List ℕ) → Option (List Poll) → Option Config
    → Option (List Poll) → Type 0
PollsAndTakes moment plans file old gave new =
    (sight : Sight) × Grows old (record { moment = moment; sight = sight } ∷ []) new
    × WasSeen file sight × Takes plans sight gave

-- the first list has a plan that the second one does not have
abbrev pub HasBeyond : List Plan → List Plan → Plan → Type 0
HasBeyond plans others plan = Contains plans plan × (¬ Contains others plan)

-- how a plan that is only in a text, or only in force, differs from the plans of the other list
abbrev pub IsChange : List Plan → List Plan → Plan → Change → Type 0
IsChange own in_force plan New =
    HasBeyond own in_force plan × (plan_class in_force plan.class ≢ plan.class)
IsChange own in_force plan Other =
    (HasBeyond own in_force plan × (plan_class in_force plan.class ≡ plan.class))
    ⊎ (HasBeyond in_force own plan × (plan_class own plan.class ≡ plan.class))
IsChange own in_force plan Missing =
    HasBeyond in_force own plan × (plan_class own plan.class ≢ plan.class)

-- how many clients, plans and keys a configuration has
abbrev pub sizes_of : Config → Sizes
sizes_of site = record {
  clients = length site.clients.list;
  plans = length site.plans;
  keys = length site.keys.list;
}

-- `config: read again: C clients, P plans, K keys`
abbrev pub read_again_text : Sizes → List ℕ
read_again_text sizes =
    codes "config: read again: " ++ decimal sizes.clients ++ codes " clients, "
    ++ decimal sizes.plans ++ codes " plans, " ++ decimal sizes.keys ++ codes " keys"

abbrev pub change_text : Change → List ℕ
change_text New = codes "is new"
change_text Missing = codes "is missing"
change_text Other = codes "is changed"

-- `; plan CLASS is new; the plans stay`
abbrev pub plan_change_text : Plan → Change → List ℕ
plan_change_text plan how =
    codes "; plan " ++ (shown plan.class ++ (codes " " ++ (change_text how
    ++ codes "; the plans stay")))

-- a text names a plan that differs
abbrev pub NamesChange : List Plan → List Plan → List ℕ → Type 0
NamesChange own in_force text =
    (plan : Plan) × (how : Change) × IsChange own in_force plan how
    × (text ≡ plan_change_text plan how)

-- `WHY; the old one stays`
abbrev pub kept_line : Fault → List ℕ
kept_line why = fault_text why ++ codes "; the old one stays" ++ 10 ∷ []

-- what is printed if plans differ and there is no memory to name one
abbrev pub unnamed_text : List ℕ
unnamed_text = codes "; the plans differ, and stay"

-- Of the plans of the configuration that a reading spells: whether they are those in force, and the
-- text that names one that differs, if there is one.
abbrev pub TellsOfPlans : List Plan → Reading → Bool → Option (List ℕ) → Type 0
TellsOfPlans plans reading is_current change =
    (spelled : Config) × IsRead reading (Ok spelled)
    × (IsTrue is_current ↔ HaveSame spelled.plans plans)
    × IfSome change (NamesChange spelled.plans plans)

-- What is printed behind the sizes of a configuration: nothing if its plans are those in force,
-- else which one differs, or that some do.
abbrev pub IsBehindSizes : List Plan → List Plan → List ℕ → Type 0
IsBehindSizes own in_force text =
    (HaveSame own in_force × (text ≡ []))
    ⊎ (NamesChange own in_force text ⊎ ((¬ HaveSame own in_force) × (text ≡ unnamed_text)))

-- What is printed of a reading: the sizes of the configuration that was taken, and which of its
-- plans differ; or why the old one stays.
abbrev pub TellsTaken : List Plan → Reading → Option Config → Option Fault → Option (List ℕ)
    → Option (List ℕ) → Type 0
TellsTaken plans reading (Some site) why before after =
    (spelled : Config) × IsRead reading (Ok spelled)
    × (behind : List ℕ) × IsBehindSizes spelled.plans plans behind
    × Appends before after (read_again_text (sizes_of site) ++ behind ++ 10 ∷ [])
TellsTaken plans reading None (Some why) before after = Appends before after (kept_line why)
TellsTaken plans reading None None before after = ⊥
