-- The first fault of a text, from the part that has it.
use Rattle.std.proofs.Common.{◌≡◌, ℕ, List, Some, true, inl, inr, subst, sym}
use Rattle.std.specs.Prelude.{◌⊎◌, Option, Result, Ok, Err, IfErr, IsErrAnd}
use Rattle.toml.specs.Data.{Members}
use Rattle.toml.specs.Parse.{parse_document}
use Rattle.acct_model.specs.declared.plan.Plan.{Plan}
use Rattle.acct_desk.specs.Keys.{KeysFacts}
use Rattle.acct_wire.specs.declared.hearing.Stamping.{Stamping}
use Rattle.acct_wire.specs.Clients.{ClientsFacts}
use Rattle.acct_site_config.specs.declared.config_error.ConfigError.{ConfigError}
use Rattle.acct_site_config.specs.declared.config_error.ConfigKind.TheVariants.{Memory}
use Rattle.acct_site_config.specs.ClientTables.{AreClientTables, FirstClientRefused}
use Rattle.acct_site_config.specs.PlanTables.{ArePlanTables, has_default, FirstPlanRefused}
use Rattle.acct_site_config.specs.PlanTables.{LacksDefault}
use Rattle.acct_site_config.specs.KeyTables.{AreKeyTables, FirstKeyRefused}
use Rattle.acct_site_config.specs.StampTables.{IsStamping, IsStampFault}
use Rattle.acct_site_config.specs.WithdrawnTables.{FirstWithdrawnRefused}
use Rattle.acct_site_config.specs.Config.{Arrays, arrays_in, IsConfigError, IsTableFault}
use Rattle.acct_site_config.specs.Config.{IsLaterFault, IsLastFault}

-- a fault of the tables is one of the text
pub of_tables : (text : List ℕ) (top : Members) (arrays : Arrays) (error : ConfigError)
    → parse_document text ≡ Some top → arrays_in top ≡ Some arrays
    → (error.kind ≡ Memory) ⊎ IsTableFault arrays error → IsConfigError text error
of_tables text top arrays error parsed shaped (inl memory) = inl memory
of_tables text top arrays error parsed shaped (inr fault) =
    inr (inr (top, parsed, inr (arrays, shaped, fault)))

-- a fault of the clients is one of the tables
pub of_clients : (arrays : Arrays) (error : ConfigError)
    → (error.kind ≡ Memory) ⊎ FirstClientRefused arrays.0 error
    → (error.kind ≡ Memory) ⊎ IsTableFault arrays error
of_clients arrays error (inl memory) = inl memory
of_clients arrays error (inr first) = inr (inl first)

-- so is one of the plans or keys, if the clients have none
pub of_later : (arrays : Arrays) (clients : ClientsFacts) (error : ConfigError)
    → AreClientTables arrays.0 clients → (error.kind ≡ Memory) ⊎ IsLaterFault arrays error
    → (error.kind ≡ Memory) ⊎ IsTableFault arrays error
of_later arrays clients error spelled (inl memory) = inl memory
of_later arrays clients error spelled (inr fault) = inr (inr (clients, spelled, fault))

pub of_plans : (arrays : Arrays) (error : ConfigError)
    → (error.kind ≡ Memory) ⊎ FirstPlanRefused arrays.1 error ⊎ LacksDefault arrays.1 error
    → (error.kind ≡ Memory) ⊎ IsLaterFault arrays error
of_plans arrays error (inl memory) = inl memory
of_plans arrays error (inr (inl first)) = inr (inl first)
of_plans arrays error (inr (inr lacks)) = inr (inr (inl lacks))

-- a fault of what follows plans without a fault
pub of_last : (arrays : Arrays) (plans : List Plan) (error : ConfigError)
    → ArePlanTables arrays.1 plans → has_default plans ≡ true
    → (error.kind ≡ Memory) ⊎ IsLastFault arrays error
    → (error.kind ≡ Memory) ⊎ IsLaterFault arrays error
of_last arrays plans error spelled default (inl memory) = inl memory
of_last arrays plans error spelled default (inr last) =
    inr (inr (inr (plans, spelled, default, last)))

pub of_keys : (arrays : Arrays) (error : ConfigError)
    → (error.kind ≡ Memory) ⊎ FirstKeyRefused arrays.2 error
    → (error.kind ≡ Memory) ⊎ IsLastFault arrays error
of_keys arrays error (inl memory) = inl memory
of_keys arrays error (inr first) = inr (inl first)

pub of_stamp : (arrays : Arrays) (keys : KeysFacts) (error : ConfigError)
    → AreKeyTables arrays.2 keys → (error.kind ≡ Memory) ⊎ IsStampFault arrays.3 arrays.0 error
    → (error.kind ≡ Memory) ⊎ IsLastFault arrays error
of_stamp arrays keys error spelled (inl memory) = inl memory
of_stamp arrays keys error spelled (inr fault) = inr (inr (keys, spelled, inl fault))

pub of_withdrawn : (arrays : Arrays) (keys : KeysFacts) (stamping : Option Stamping)
    (error : ConfigError) → AreKeyTables arrays.2 keys → IsStamping arrays.3 arrays.0 stamping
    → (error.kind ≡ Memory) ⊎ FirstWithdrawnRefused arrays.4 error
    → (error.kind ≡ Memory) ⊎ IsLastFault arrays error
of_withdrawn arrays keys stamping error spelled heard (inl memory) = inl memory
of_withdrawn arrays keys stamping error spelled heard (inr fault) =
    inr (inr (keys, spelled, inr (stamping, heard, fault)))

-- an error that is handed on
pub handed_on : {T : Type 0} (result : Result T ConfigError) (error : ConfigError)
    (P : ConfigError → Type 0) → IsErrAnd result (λ e. e ≡ error) → P error → IfErr result P
handed_on (Ok x) error P is holds = absurd is
handed_on (Err e) error P is holds = subst P (sym is) holds
