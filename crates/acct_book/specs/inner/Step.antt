-- A call of the book that writes.
use Rattle.std.specs.Prelude.{Result}
use Rattle.acct_book.specs.declared.book.Book.{Ghosts}
use Rattle.acct_book.specs.Book.{Writes}
use Rattle.acct_book.specs.Content.{Content}

abbrev pub Puts : {B T E : Type 0} → Ghosts B → B → B → Content → Result T E → Type 0
Puts b old new written result =
    Writes b.content b.is_sound b.is_open b.is_steady b.left old new written result
