-- What the statements mean under the schema of the book.
use Rattle.std.proofs.Common.{◌≡◌, ℕ, pos, List, [], ◌∷◌, codes, refl}
use Rattle.sqlite.specs.declared.types.Value.TheVariants.{Null, Int, Text}
use Rattle.sqlite_value.specs.declared.keys.Key.{Key as Direction}
use Rattle.sqlite.specs.Term.{Term, lit, col, op2}
use Rattle.sqlite.specs.Collation.TheVariants.{Binary}
use Rattle.sqlite_sql.specs.declared.ops.BinaryOp.TheVariants.{Compare}
use Rattle.sqlite_sql.specs.declared.ops.CompareOp.TheVariants.{Eq, Gt}
use Rattle.sqlite.specs.Source.TheVariants.{Values}
use Rattle.sqlite.specs.Command.TheVariants.{Insert, Update, Delete}
use Rattle.acct_sql_tables.proofs.QueryLemmas.{over_table, all_rows, IsQuery}
use Rattle.acct_sql_tables.proofs.NextLemmas.{one_row, rising}
use Rattle.sqlite_tied.specs.Compute.{everything}
use Rattle.sqlite.specs.Listing.{understood}
use Rattle.sqlite.proofs.Callers.{IsPlain, command_of}
use Rattle.acct_sql_tables.specs.Tables.{book_schema, meta, price_plan, account, voucher, session}
use Rattle.acct_sql_tables.specs.Tables.{plan_count, session_plan}
use Rattle.acct_sql_tables.specs.declared.statements.TheConstants as texts

abbrev pub is_equal : ℕ → ℕ → Term
is_equal at param = op2 (Compare Eq Binary) (col 1 at) (col 0 param)

abbrev pub is_after : ℕ → ℕ → Term
is_after at param = op2 (Compare Gt Binary) (col 1 at) (col 0 param)

abbrev pub by_name : List (Term × Direction)
by_name = (col 1 1, rising) ∷ []

abbrev pub by_key : List (Term × Direction)
by_key = (col 1 1, rising) ∷ (col 1 2, rising) ∷ []

abbrev pub by_id : List (Term × Direction)
by_id = (col 1 2, rising) ∷ []

abbrev pub ids_shown : List Term
ids_shown = col 1 0 ∷ []

abbrev pub by_rowid : List (Term × Direction)
by_rowid = (col 1 0, rising) ∷ []

-- ---- session

abbrev pub session_filter : List Term
session_filter = is_equal 1 0 ∷ is_equal 2 1 ∷ []

abbrev pub session_project : List Term
session_project = col 1 0 ∷ col 1 0 ∷ col 1 1 ∷ col 1 2 ∷ col 0 2 ∷ col 0 3 ∷ col 0 4 ∷ col 0 5 ∷
    col 0 6 ∷ col 0 7 ∷ col 0 8 ∷ col 0 9 ∷ col 0 10 ∷ col 0 11 ∷ col 0 12 ∷ []

pub set_session_is : command_of (understood book_schema texts.SET_SESSION.now)
    ≡ Update 4 (record {
      lets = [];
      body = over_table session.tree session_filter session_project [] all_rows;
    })
unfolding understood everything
set_session_is = refl

pub set_session_plain : IsPlain (understood book_schema texts.SET_SESSION.now)
unfolding understood everything
set_session_plain = (refl, refl)

abbrev pub session_terms : List Term
session_terms = lit Null ∷ col 0 0 ∷ col 0 1 ∷ col 0 2 ∷ col 0 3 ∷ col 0 4 ∷ col 0 5 ∷ col 0 6 ∷ col
    0 7 ∷ col 0 8 ∷ col 0 9 ∷ col 0 10 ∷ col 0 11 ∷ col 0 12 ∷ []

pub new_session_is : command_of (understood book_schema texts.NEW_SESSION.now)
    ≡ Insert 4 (Values session_terms 14)
unfolding understood everything
new_session_is = refl

pub new_session_plain : IsPlain (understood book_schema texts.NEW_SESSION.now)
unfolding understood everything
new_session_plain = (refl, refl)

abbrev pub close_filter : List Term
close_filter = is_equal 1 0 ∷ op2 (Compare Eq Binary) (col 1 10) (lit (Int (pos 0))) ∷ []

abbrev pub close_project : List Term
close_project = col 1 0 ∷ col 1 0 ∷ col 1 1 ∷ col 1 2 ∷ col 1 3 ∷ col 1 4 ∷ col 1 5 ∷ col 1 6 ∷ col
    1 7 ∷ col 1 8 ∷ col 1 9 ∷ lit (Int (pos 1)) ∷ lit (Int (pos 11)) ∷ col 1 12 ∷ col 1 13 ∷ []

pub close_is : command_of (understood book_schema texts.CLOSE_SESSIONS_OF_CLIENT.now)
    ≡ Update 4 (record {
      lets = [];
      body = over_table session.tree close_filter close_project []
          all_rows;
    })
unfolding understood everything
close_is = refl

pub close_plain : IsPlain (understood book_schema texts.CLOSE_SESSIONS_OF_CLIENT.now)
unfolding understood everything
close_plain = (refl, refl)

pub remove_session_is : command_of (understood book_schema texts.REMOVE_SESSION.now)
    ≡ Delete 4 (record {
      lets = [];
      body = over_table session.tree session_filter ids_shown [] all_rows;
    })
unfolding understood everything
remove_session_is = refl

pub remove_session_plain : IsPlain (understood book_schema texts.REMOVE_SESSION.now)
unfolding understood everything
remove_session_plain = (refl, refl)

abbrev pub session_shown : List Term
session_shown = col 1 1 ∷ col 1 2 ∷ col 1 3 ∷ col 1 4 ∷ col 1 5 ∷ col 1 6 ∷ col 1 7 ∷ col 1 8 ∷ col
    1 9 ∷ col 1 10 ∷ col 1 11 ∷ col 1 12 ∷ col 1 13 ∷ []

abbrev pub session_names : List (List ℕ)
session_names = codes "client" ∷ codes "id" ∷ codes "account" ∷ codes "class" ∷ codes "input" ∷
    codes "output" ∷ codes "seconds" ∷ codes "first_seen" ∷ codes "last_seen" ∷ codes "state" ∷
    codes "cause" ∷ codes "calling" ∷ codes "framed" ∷ []

pub session_of_key : IsQuery texts.SESSION_OF_KEY.now session.tree session_filter session_shown []
    all_rows
unfolding understood everything
session_of_key = record {
  names = session_names;
  is = refl;
  unlisted = refl;
  plain = (refl, refl);
  unhidden = λ db. refl;
}

abbrev pub sessions_filter : List Term
sessions_filter = is_equal 3 0 ∷ []

pub sessions_of_account : IsQuery texts.SESSIONS_OF_ACCOUNT.now session.tree sessions_filter
    session_shown by_key all_rows
unfolding understood everything
sessions_of_account = record {
  names = session_names;
  is = refl;
  unlisted = refl;
  plain = (refl, refl);
  unhidden = λ db. refl;
}

abbrev pub key_shown : List Term
key_shown = col 1 1 ∷ col 1 2 ∷ []

pub keys_of_account : IsQuery texts.KEYS_OF_ACCOUNT.now session.tree sessions_filter key_shown by_key
    all_rows
unfolding understood everything
keys_of_account = record {
  names = codes "client" ∷ codes "id" ∷ [];
  is = refl;
  unlisted = refl;
  plain = (refl, refl);
  unhidden = λ db. refl;
}

pub first_session : IsQuery texts.FIRST_SESSION.now session.tree [] session_shown by_key one_row
unfolding understood everything
first_session = record {
  names = session_names;
  is = refl;
  unlisted = refl;
  plain = (refl, refl);
  unhidden = λ db. refl;
}

abbrev pub within_filter : List Term
within_filter = is_equal 1 0 ∷ is_after 2 1 ∷ []

pub later_session_of_client : IsQuery texts.LATER_SESSION_OF_CLIENT.now session.tree within_filter
    session_shown by_id one_row
unfolding understood everything
later_session_of_client = record {
  names = session_names;
  is = refl;
  unlisted = refl;
  plain = (refl, refl);
  unhidden = λ db. refl;
}

pub session_of_later_client : IsQuery texts.SESSION_OF_LATER_CLIENT.now session.tree
    (is_after 1 0 ∷ []) session_shown by_key one_row
unfolding understood everything
session_of_later_client = record {
  names = session_names;
  is = refl;
  unlisted = refl;
  plain = (refl, refl);
  unhidden = λ db. refl;
}

pub session_rowids : IsQuery texts.SESSION_ROWIDS.now session.tree [] ids_shown by_rowid all_rows
unfolding understood everything
session_rowids = record {
  names = codes "rowid" ∷ [];
  is = refl;
  unlisted = refl;
  plain = (refl, refl);
  unhidden = λ db. refl;
}

abbrev pub class_shown : List Term
class_shown = col 1 0 ∷ col 1 1 ∷ col 1 2 ∷ col 1 4 ∷ []

pub first_class : IsQuery texts.FIRST_CLASS.now session.tree [] class_shown by_rowid one_row
unfolding understood everything
first_class = record {
  names = codes "rowid" ∷ codes "client" ∷ codes "id" ∷ codes "class" ∷ [];
  is = refl;
  unlisted = refl;
  plain = (refl, refl);
  unhidden = λ db. refl;
}

pub class_after : IsQuery texts.CLASS_AFTER.now session.tree (is_after 0 0 ∷ []) class_shown
    by_rowid one_row
unfolding understood everything
class_after = record {
  names = codes "rowid" ∷ codes "client" ∷ codes "id" ∷ codes "class" ∷ [];
  is = refl;
  unlisted = refl;
  plain = (refl, refl);
  unhidden = λ db. refl;
}

-- ---- account

abbrev pub name_filter : List Term
name_filter = is_equal 1 0 ∷ []

abbrev pub balance_project : List Term
balance_project = col 1 0 ∷ col 1 0 ∷ col 1 1 ∷ col 0 1 ∷ []

pub set_balance_is : command_of (understood book_schema texts.SET_BALANCE.now)
    ≡ Update 2 (record {
      lets = [];
      body = over_table account.tree name_filter balance_project []
          all_rows;
    })
unfolding understood everything
set_balance_is = refl

pub set_balance_plain : IsPlain (understood book_schema texts.SET_BALANCE.now)
unfolding understood everything
set_balance_plain = (refl, refl)

abbrev pub balance_terms : List Term
balance_terms = lit Null ∷ col 0 0 ∷ col 0 1 ∷ []

pub new_balance_is : command_of (understood book_schema texts.NEW_BALANCE.now)
    ≡ Insert 2 (Values balance_terms 3)
unfolding understood everything
new_balance_is = refl

pub new_balance_plain : IsPlain (understood book_schema texts.NEW_BALANCE.now)
unfolding understood everything
new_balance_plain = (refl, refl)

abbrev pub balance_shown : List Term
balance_shown = col 1 2 ∷ []

pub balance_of_account : IsQuery texts.BALANCE_OF_ACCOUNT.now account.tree name_filter balance_shown
    [] all_rows
unfolding understood everything
balance_of_account = record {
  names = codes "balance" ∷ [];
  is = refl;
  unlisted = refl;
  plain = (refl, refl);
  unhidden = λ db. refl;
}

abbrev pub account_shown : List Term
account_shown = col 1 1 ∷ col 1 2 ∷ []

pub first_account : IsQuery texts.FIRST_ACCOUNT.now account.tree [] account_shown by_name one_row
unfolding understood everything
first_account = record {
  names = codes "name" ∷ codes "balance" ∷ [];
  is = refl;
  unlisted = refl;
  plain = (refl, refl);
  unhidden = λ db. refl;
}

pub account_after : IsQuery texts.ACCOUNT_AFTER.now account.tree (is_after 1 0 ∷ []) account_shown
    by_name one_row
unfolding understood everything
account_after = record {
  names = codes "name" ∷ codes "balance" ∷ [];
  is = refl;
  unlisted = refl;
  plain = (refl, refl);
  unhidden = λ db. refl;
}

pub account_rowids : IsQuery texts.ACCOUNT_ROWIDS.now account.tree [] ids_shown by_rowid all_rows
unfolding understood everything
account_rowids = record {
  names = codes "rowid" ∷ [];
  is = refl;
  unlisted = refl;
  plain = (refl, refl);
  unhidden = λ db. refl;
}

-- ---- voucher

abbrev pub topup_project : List Term
topup_project = col 1 0 ∷ col 1 0 ∷ col 1 1 ∷ col 0 1 ∷ col 0 2 ∷ col 0 3 ∷ []

pub set_topup_is : command_of (understood book_schema texts.SET_TOPUP.now)
    ≡ Update 3 (record {
      lets = [];
      body = over_table voucher.tree name_filter topup_project []
          all_rows;
    })
unfolding understood everything
set_topup_is = refl

pub set_topup_plain : IsPlain (understood book_schema texts.SET_TOPUP.now)
unfolding understood everything
set_topup_plain = (refl, refl)

abbrev pub topup_terms : List Term
topup_terms = lit Null ∷ col 0 0 ∷ col 0 1 ∷ col 0 2 ∷ col 0 3 ∷ []

pub new_topup_is : command_of (understood book_schema texts.NEW_TOPUP.now)
    ≡ Insert 3 (Values topup_terms 5)
unfolding understood everything
new_topup_is = refl

pub new_topup_plain : IsPlain (understood book_schema texts.NEW_TOPUP.now)
unfolding understood everything
new_topup_plain = (refl, refl)

abbrev pub topup_shown : List Term
topup_shown = col 1 1 ∷ col 1 2 ∷ col 1 3 ∷ col 1 4 ∷ []

abbrev topup_names : List (List ℕ)
topup_names = codes "number" ∷ codes "account" ∷ codes "amount" ∷ codes "moment" ∷ []

pub topup_of_number : IsQuery texts.TOPUP_OF_NUMBER.now voucher.tree name_filter topup_shown []
    all_rows
unfolding understood everything
topup_of_number = record {
  names = topup_names;
  is = refl;
  unlisted = refl;
  plain = (refl, refl);
  unhidden = λ db. refl;
}

abbrev pub topups_filter : List Term
topups_filter = is_equal 2 0 ∷ []

pub topups_of_account : IsQuery texts.TOPUPS_OF_ACCOUNT.now voucher.tree topups_filter topup_shown
    by_name all_rows
unfolding understood everything
topups_of_account = record {
  names = topup_names;
  is = refl;
  unlisted = refl;
  plain = (refl, refl);
  unhidden = λ db. refl;
}

pub first_topup : IsQuery texts.FIRST_TOPUP.now voucher.tree [] topup_shown by_name one_row
unfolding understood everything
first_topup = record {
  names = topup_names;
  is = refl;
  unlisted = refl;
  plain = (refl, refl);
  unhidden = λ db. refl;
}

pub topup_after : IsQuery texts.TOPUP_AFTER.now voucher.tree (is_after 1 0 ∷ []) topup_shown by_name
    one_row
unfolding understood everything
topup_after = record {
  names = topup_names;
  is = refl;
  unlisted = refl;
  plain = (refl, refl);
  unhidden = λ db. refl;
}

pub voucher_rowids : IsQuery texts.VOUCHER_ROWIDS.now voucher.tree [] ids_shown by_rowid all_rows
unfolding understood everything
voucher_rowids = record {
  names = codes "rowid" ∷ [];
  is = refl;
  unlisted = refl;
  plain = (refl, refl);
  unhidden = λ db. refl;
}

-- ---- meta and price_plan

abbrev pub schema_filter : List Term
schema_filter = op2 (Compare Eq Binary) (col 1 1) (lit (Text (codes "schema"))) ∷ []

abbrev pub value_shown : List Term
value_shown = col 1 2 ∷ []

pub schema_number : IsQuery texts.SCHEMA_NUMBER.now meta.tree schema_filter value_shown [] all_rows
unfolding understood everything
schema_number = record {
  names = codes "value" ∷ [];
  is = refl;
  unlisted = refl;
  plain = (refl, refl);
  unhidden = λ db. refl;
}

pub meta_rowids : IsQuery texts.META_ROWIDS.now meta.tree [] ids_shown by_rowid all_rows
unfolding understood everything
meta_rowids = record {
  names = codes "rowid" ∷ [];
  is = refl;
  unlisted = refl;
  plain = (refl, refl);
  unhidden = λ db. refl;
}

abbrev pub number_project : List Term
number_project = col 1 0 ∷ col 1 0 ∷ col 1 1 ∷ lit (Int (pos 3)) ∷ []

pub set_number_is : command_of (understood book_schema texts.SET_SCHEMA_NUMBER.now)
    ≡ Update 0 (record {
      lets = [];
      body = over_table meta.tree schema_filter number_project [] all_rows;
    })
unfolding understood everything
set_number_is = refl

pub set_number_plain : IsPlain (understood book_schema texts.SET_SCHEMA_NUMBER.now)
unfolding understood everything
set_number_plain = (refl, refl)

abbrev pub plan_shown : List Term
plan_shown = col 1 1 ∷ col 1 2 ∷ col 1 3 ∷ []

pub plan_rows : IsQuery texts.PLANS.now price_plan.tree [] plan_shown [] all_rows
unfolding understood everything
plan_rows = record {
  names = codes "class" ∷ codes "block" ∷ codes "unit" ∷ [];
  is = refl;
  unlisted = refl;
  plain = (refl, refl);
  unhidden = λ db. refl;
}

abbrev pub number_terms : List Term
number_terms = lit Null ∷ lit (Text (codes "schema")) ∷ lit (Int (pos 3)) ∷ []

pub number_is : command_of (understood book_schema texts.NEW_SCHEMA_NUMBER.now)
    ≡ Insert 0 (Values number_terms 3)
unfolding understood everything
number_is = refl

pub number_plain : IsPlain (understood book_schema texts.NEW_SCHEMA_NUMBER.now)
unfolding understood everything
number_plain = (refl, refl)

abbrev pub plan_terms : List Term
plan_terms = lit Null ∷ col 0 0 ∷ col 0 1 ∷ col 0 2 ∷ []

pub new_plan_is : command_of (understood book_schema texts.NEW_PLAN.now)
    ≡ Insert 1 (Values plan_terms 4)
unfolding understood everything
new_plan_is = refl

pub new_plan_plain : IsPlain (understood book_schema texts.NEW_PLAN.now)
unfolding understood everything
new_plan_plain = (refl, refl)

-- ---- plan_count

abbrev pub count_shown : List Term
count_shown = col 1 1 ∷ col 1 2 ∷ []

pub count_rows : IsQuery texts.PLAN_COUNTS.now plan_count.tree [] count_shown [] all_rows
unfolding understood everything
count_rows = record {
  names = codes "class" ∷ codes "mode" ∷ [];
  is = refl;
  unlisted = refl;
  plain = (refl, refl);
  unhidden = λ db. refl;
}

abbrev pub count_terms : List Term
count_terms = lit Null ∷ col 0 0 ∷ col 0 1 ∷ []

pub new_count_is : command_of (understood book_schema texts.NEW_PLAN_COUNT.now)
    ≡ Insert 5 (Values count_terms 3)
unfolding understood everything
new_count_is = refl

pub new_count_plain : IsPlain (understood book_schema texts.NEW_PLAN_COUNT.now)
unfolding understood everything
new_count_plain = (refl, refl)

-- ---- session_plan

abbrev pub plan_project : List Term
plan_project = col 1 0 ∷ col 1 0 ∷ col 1 1 ∷ col 1 2 ∷ col 0 2 ∷ []

pub set_session_plan_is : command_of (understood book_schema texts.SET_SESSION_PLAN.now)
    ≡ Update 6 (record {
      lets = [];
      body = over_table session_plan.tree session_filter plan_project [] all_rows;
    })
unfolding understood everything
set_session_plan_is = refl

pub set_session_plan_plain : IsPlain (understood book_schema texts.SET_SESSION_PLAN.now)
unfolding understood everything
set_session_plan_plain = (refl, refl)

abbrev pub session_plan_terms : List Term
session_plan_terms = lit Null ∷ col 0 0 ∷ col 0 1 ∷ col 0 2 ∷ []

pub new_session_plan_is : command_of (understood book_schema texts.NEW_SESSION_PLAN.now)
    ≡ Insert 6 (Values session_plan_terms 4)
unfolding understood everything
new_session_plan_is = refl

pub new_session_plan_plain : IsPlain (understood book_schema texts.NEW_SESSION_PLAN.now)
unfolding understood everything
new_session_plan_plain = (refl, refl)

pub remove_session_plan_is : command_of (understood book_schema texts.REMOVE_SESSION_PLAN.now)
    ≡ Delete 6 (record {
      lets = [];
      body = over_table session_plan.tree session_filter ids_shown [] all_rows;
    })
unfolding understood everything
remove_session_plan_is = refl

pub remove_session_plan_plain : IsPlain (understood book_schema texts.REMOVE_SESSION_PLAN.now)
unfolding understood everything
remove_session_plan_plain = (refl, refl)

abbrev pub plan_class_shown : List Term
plan_class_shown = col 1 3 ∷ []

pub plan_of_session : IsQuery texts.PLAN_OF_SESSION.now session_plan.tree session_filter
    plan_class_shown [] all_rows
unfolding understood everything
plan_of_session = record {
  names = codes "plan_class" ∷ [];
  is = refl;
  unlisted = refl;
  plain = (refl, refl);
  unhidden = λ db. refl;
}

pub session_plan_rowids : IsQuery texts.SESSION_PLAN_ROWIDS.now session_plan.tree [] ids_shown
    by_rowid all_rows
unfolding understood everything
session_plan_rowids = record {
  names = codes "rowid" ∷ [];
  is = refl;
  unlisted = refl;
  plain = (refl, refl);
  unhidden = λ db. refl;
}
