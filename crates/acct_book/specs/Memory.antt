-- What a book in memory contains.
use Rattle.acct_book.specs.declared.memory_book.MemBook.{MemBook}
use Rattle.acct_book.specs.Content.{Content}
use Rattle.acct_book.specs.Maps.{content_from}

-- the content of its three maps
abbrev pub content_of : MemBook → Content
content_of book = content_from book.rows book.balances book.topups
