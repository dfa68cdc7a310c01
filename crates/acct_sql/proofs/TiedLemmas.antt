-- The tables of a book determine its properties.
use Rattle.std.proofs.Common.{refl}
use Rattle.sqlite.specs.Store.{Ghosts}
use Rattle.sqlite.specs.Held.{Held}
use Rattle.acct_sql_tables.specs.Book.{content_at, is_sound_at, is_open_at, left_at, IsBookOver}

pub tied : {S : Type 0} (g : Ghosts S) (book : Held S)
    → IsBookOver g (content_at g) (is_sound_at g) (is_open_at g) (left_at g) book
tied g book = record {
  content_is = refl;
  sound_is = (λ is. is, λ is. is);
  open_is = (λ is. is, λ is. is);
  left_is = λ content. (λ is. is, λ is. is);
}
