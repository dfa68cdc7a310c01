use Rattle.std.proofs.Common.{inl, inr, refl}
use Rattle.std.proofs.lemmas.Result.{err_from_is_err_and}
use Rattle.acct_program_jobs.proofs.making.made_and_closed.Goals as goal

pub returns-in_err-files-clause-failed : goal.returns-in_err-files-clause-failed
returns-in_err-files-clause-failed g c =
    let p = err_from_is_err_and c.from_residual-in_err-files.result
    c.from_residual-in_err-files.ensures.1 in
    rw (p.1, p.2) (inr (
      c.in_ok-config.config,
      c.in_ok-config.ensures.read,
      inr (inl (record {
        book = c.in_ok-book.book;
        count = c.in_ok-book.count;
        made = c.in_ok-book.ensures.made;
        unclosed = c.in_err-files.ensures.kept;
      })),
    ))

pub returns-in-Ok-clause-made : goal.returns-in-Ok-clause-made
returns-in-Ok-clause-made g c = record {
  config = c.in_ok-config.config;
  read = c.in_ok-config.ensures.read;
  done = refl;
  book = c.in_ok-book.book;
  count = c.in_ok-book.count;
  is_made = record { made = c.in_ok-book.ensures.made; copied = c.in_ok-files.ensures.copied };
  told = c.in-Ok.ensures;
}

pub returns-clause-failed : goal.returns-clause-failed
returns-clause-failed g c = inr (
  c.in_ok-config.config,
  c.in_ok-config.ensures.read,
  inr (inr (record {
    untold = refl;
    files = c.in_ok-files.files;
    closed = refl;
    book = c.in_ok-book.book;
    count = c.in_ok-book.count;
    is_made = record { made = c.in_ok-book.ensures.made; copied = c.in_ok-files.ensures.copied };
  })),
)
