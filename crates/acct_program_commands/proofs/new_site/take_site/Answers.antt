use Rattle.std.proofs.Common.{◌≡◌, ◌∙◌, inl, inr, ap, refl, subst, sym, true≢false, ℕ, List, []}
use Rattle.std.specs.Prelude.{◌++◌, ◌∷◌, ◌↔◌, Bool, true, false, Option, Some, None, Result}
use Rattle.std.specs.Prelude.{Ok, Err, IfSome, IsTrue, OnOk, if◌then◌else◌, option_map}
use Rattle.std.specs.Prelude.{string_bytes}
use Rattle.std.specs.Io.KnownBytes.{Appends}
use Rattle.std.specs.Global.{Global}
use Rattle.acct_model.specs.declared.plan.Plan.{Plan}
use Rattle.acct_program_commands.specs.NewSite.{HaveSame, IsBehindSizes, NamesChange, unnamed_text}
use Rattle.acct_program_commands.specs.NewSite.{read_again_text}
use Rattle.acct_program_commands.specs.declared.new_site.Sizes.{Sizes}
use Rattle.acct_program_commands.proofs.new_site.take_site.Goals as goal

behind : {S : Type 0} (text_of : S → List ℕ) (own in_force : List Plan) (is_current : Bool)
    (change : Option S) (text : List ℕ) → (IsTrue is_current ↔ HaveSame own in_force)
    → IfSome (option_map text_of change) (NamesChange own in_force)
    → IfSome change (λ told. text ≡ text_of told)
    → (change ≡ None → text ≡ (if is_current then [] else unnamed_text))
    → IsBehindSizes own in_force text
behind text_of own in_force is_current (Some told) text same names is none =
    inr (inl (subst (NamesChange own in_force) (sym is) names))
behind text_of own in_force true None text same names is none = inl (same.0 refl, none refl)
behind text_of own in_force false None text same names is none =
    inr (inr (λ both. true≢false (sym (same.1 both)), none refl))

on_ok : {T E P Q : Type 0} (r : Result T E) → (P → Q) → OnOk r P → OnOk r Q
on_ok (Ok done) so told = so told
on_ok (Err error) so told = tt

pub returns-in-Ok-clause-prints : goal.returns-in-Ok-clause-prints
returns-in-Ok-clause-prints g c =
    let (spelled, read, same, names) = c.in-Ok.ensures.change in
    let told = c.told_change-change.ensures in
    let text = c.told_change-change.result.now in
    on_ok c.write_read_again-printed.result (λ prints. (
      spelled,
      read,
      text,
      behind string_bytes spelled.plans c.args.plans.now c.in-Ok.is_current c.in-Ok.change text same
          names told.named told.unnamed,
      subst (λ (sizes : Sizes). Appends (g.E.Write.contents c.args.errors.now)
          (g.E.Write.contents c.write_read_again-printed.new.errors)
          (read_again_text sizes ++ text ++ 10 ∷ [])) c.sizes_of.ensures prints,
    )) c.write_read_again-printed.ensures
