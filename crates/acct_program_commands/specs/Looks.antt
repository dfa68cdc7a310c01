-- How the file of a configuration is polled.
use Rattle.std.specs.Prelude.{◌≡◌, ◌↔◌, ℕ, Some}
use Rattle.acct_program_commands.specs.declared.site_file.SiteFile.{SiteFile}

-- It was looked at once at this moment. It counts as changed exactly if it was not looked at in this
-- second before, and what its metadata show is another thing now.
pub record LooksOnce {R : Type 0} (moment : ℕ) (old new : SiteFile R) (HasChanged : Type 0) : Type 0
  where
    pub same : new ≡ record old { seen = new.seen; looked_at = Some moment }
    pub again : old.looked_at ≡ Some moment → (¬ HasChanged) × (new.seen ≡ old.seen)
    pub changed : ¬ (old.looked_at ≡ Some moment) → HasChanged ↔ ¬ (new.seen ≡ old.seen)
