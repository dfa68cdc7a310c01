-- What an addition of plans may leave of a book.
use Rattle.std.specs.Prelude.{◌≡◌, ◌⊎◌, List}
use Rattle.acct_model.specs.declared.plan.Plan.{Plan}
use Rattle.acct_book.specs.declared.book.Book.{Ghosts}
use Rattle.acct_book.specs.Content.{Content, keeping}

-- An addition of plans to a book, which may succeed, fail or be killed. A crash leaves what it
-- could leave before, or the content of before with all of these plans.
pub record AddsAtMost {B : Type 0} (b : Ghosts B) (plans : List Plan) (old new : B) : Type 0 where
  pub leaves : b.is_sound new → (c : Content) → b.left new c
      → b.left old c ⊎ (c ≡ keeping plans (b.content old))
