-- The balance that is kept for an account, or that none is.
use Rattle.std.proofs.Common.{◌≡◌, ℕ, List, sym, ap, ◌∙◌}
use Rattle.std.specs.Prelude.{Option, Some, None, ℤ}
use Rattle.std.specs.Ordering.{ordering_reverse}
use Rattle.std.specs.declared.cmp.Ordering.TheVariants.{Equal, Greater}
use Rattle.std.specs.Cmp.Lexicographic.{nat_list_cmp_total}
use Rattle.std.proofs.lemmas.Map.Lookups.{exact_bytes}
use Rattle.acct_book.specs.Content.{Content}
use Rattle.acct_book.specs.Maps.{octets_cmp}
use Rattle.acct_book.specs.Walk.{IsPast, IsNextBalance}

module _ (content : Content) (account : List ℕ) (after : Option (List ℕ))
    (past : IsPast octets_cmp after account) where
  -- no account follows
  pub none_follows : IsNextBalance content after None → None ≡ content.balances account
  none_follows next = sym (next account past)

  module _ (least : List ℕ) (balance : ℤ)
      (next : IsNextBalance content after (Some (least, balance))) where
    -- the account follows
    pub follows : octets_cmp least account ≡ Equal → Some balance ≡ content.balances account
    follows e = sym next.0 ∙ ap content.balances (exact_bytes least account e)

    -- one behind it follows
    pub passes_by : octets_cmp least account ≡ Greater → None ≡ content.balances account
    passes_by e = sym (next.2 account past
        (nat_list_cmp_total.antisymm account least ∙ ap ordering_reverse e))
