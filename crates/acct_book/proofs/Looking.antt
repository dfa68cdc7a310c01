-- Calls that only read, one after another.
use Rattle.std.proofs.Common.{refl, ◌∙◌, Result}
use Rattle.acct_book.specs.declared.book.Book.{Ghosts}
use Rattle.acct_book.specs.Step.{Looks}
use Rattle.acct_book.specs.Step.{OnlyLooks}

module _ {B : Type 0} (b : Ghosts B) where
  pub looks_none : (book : B) → OnlyLooks b book book
  looks_none book = record {
    was_sound = λ sound. sound;
    was_open = λ still. still;
    keeps_steady = λ steady. steady;
    same = λ still. refl;
    adds_none = λ sound c left. left;
  }

  pub looks_then : {T E : Type 0} (old mid new : B) (result : Result T E) → OnlyLooks b old mid
      → Looks b mid new result → OnlyLooks b old new
  looks_then old mid new result before call = record {
    was_sound = λ sound. before.was_sound (call.was_sound sound);
    was_open = λ still. before.was_open (call.was_open still);
    keeps_steady = λ steady. call.keeps_steady (before.keeps_steady steady);
    same = λ still. call.same still ∙ before.same (call.was_open still);
    adds_none = λ sound c left. before.adds_none (call.was_sound sound) c
        (call.adds_none sound c left);
  }

  pub looks_once : {T E : Type 0} (old new : B) (result : Result T E) → Looks b old new result
      → OnlyLooks b old new
  looks_once old new result call = record {
    was_sound = call.was_sound;
    was_open = call.was_open;
    keeps_steady = call.keeps_steady;
    same = call.same;
    adds_none = call.adds_none;
  }
