-- Ordered maps, as functions.
use Rattle.std.specs.Prelude.{ℕ, ℤ, List, Option, None, Vec, String}
use Rattle.std.specs.Global.{Global}
use Rattle.std.specs.declared.cmp.Ordering.{Ordering}
use Rattle.std.specs.Ordering.{nat_cmp, ordering_then}
use Rattle.std.specs.Cmp.Lexicographic.{slice_cmp}
use Rattle.std.specs.BTreeMap as tree
use Rattle.std.specs.BTreeMap.{BTreeMap}
use Rattle.acct_model.specs.Vouchers.{TopUpFacts}
use Rattle.acct_book.specs.declared.key.Key.{Key}
use Rattle.acct_book.specs.Row.{RowFacts}
use Rattle.acct_book.specs.Content.{Content}

-- octet by octet
abbrev pub octets_cmp : List ℕ → List ℕ → Ordering
octets_cmp a b = slice_cmp nat_cmp a b

-- by client, and then by session
abbrev pub key_cmp : Key → Key → Ordering
key_cmp a b = ordering_then (octets_cmp a.client b.client) (octets_cmp a.session b.session)

-- the balance that is kept for an account
abbrev pub balance_at : BTreeMap (Vec ℕ Global) ℤ → List ℕ → Option ℤ
balance_at balances account = tree.get_by (λ key. octets_cmp account key.items) balances

-- the content of three ordered maps, in a book that keeps no list of plans
abbrev pub content_from : BTreeMap Key RowFacts → BTreeMap (Vec ℕ Global) ℤ
    → BTreeMap (String Global) TopUpFacts → Content
content_from rows balances topups = record {
  rows = tree.get key_cmp rows;
  balances = balance_at balances;
  topups = tree.get_by_text topups;
  plans = None;
}
