-- What the calls of any book do.
use Rattle.std.specs.Prelude.{◌≡◌, ◌⊎◌, Result, OnOk, OnErr}
use Rattle.acct_book.specs.Content.{Content}

-- a crash leaves this and nothing else
abbrev pub Only : Content → (Content → Type 0) → Type 0
Only content left = (c : Content) → left c → c ≡ content

-- A call that reads. A book that answers is open, and one that is open at the end has the content
-- of before.
pub record Reads {B T E : Type 0} (content : B → Content) (is_sound is_open is_steady : B → Type 0)
    (left : B → Content → Type 0) (old new : B) (result : Result T E) : Type 0 where
  pub was_sound : is_sound new → is_sound old
  pub was_open : is_open new → is_open old
  pub keeps_steady : is_steady old → is_steady new
  pub answers : is_sound new → OnOk result (is_open new)
  pub same : is_open new → content new ≡ content old
  pub adds_none : is_sound new → (c : Content) → left new c → left old c

-- A call that writes this content, all of it or nothing. To what a crash may leave it adds that
-- content at most, and nothing if the book was shut before.
pub record Writes {B T E : Type 0} (content : B → Content) (is_sound is_open is_steady : B → Type 0)
    (left : B → Content → Type 0) (old new : B) (written : Content)
    (result : Result T E) : Type 0 where
  pub was_sound : is_sound new → is_sound old
  pub was_open : is_open new → is_open old
  pub keeps_steady : is_steady old → is_steady new
  pub answers : is_sound new → OnOk result (is_open new)
  pub ok : is_open new → OnOk result (content new ≡ written)
  pub err : is_open new → OnErr result (content new ≡ content old)
  pub adds_written : is_sound new → (c : Content) → left new c
      → left old c ⊎ (is_open old × (c ≡ written))
