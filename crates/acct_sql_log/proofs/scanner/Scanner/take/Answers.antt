use Rattle.std.proofs.Common.{◌+◌, ℕ, List, sym, ◌∙◌, ap, add-one}
use Rattle.sqlite_wal.specs.Format.{stored_sum}
use Rattle.sqlite_wal.specs.Recovery.{sum_before}
use Rattle.acct_sql_log.specs.Chain.{page_size}
use Rattle.acct_sql_log.proofs.scanner.Scanner.take.Goals as goal

pub returns-clause-taken : goal.returns-clause-taken
returns-clause-taken c log frames taken is =
    let synced = c.is_sealed_with-is_sealed.ensures log frames taken is in
    record {
      head = taken.head;
      signed = taken.signed;
      taken = ap (λ (n : ℕ). n + 1) taken.taken;
      sum =
          c.sum_at-self.ensures ∙ ap (λ (f : List ℕ). stored_sum f 16) is
          ∙ ap (sum_before (page_size log) log) (sym (add-one frames));
      under_way = c.still_open-self.ensures log frames _ taken.under_way synced is;
      broken = c.broken_with-broken.ensures.broken log frames taken is synced;
    }
