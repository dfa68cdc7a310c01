-- What the statements mean that read older tables too.
use Rattle.std.proofs.Common.{List, [], ◌∷◌, codes, refl, sym, subst, inl, inr}
use Rattle.sqlite_value.specs.declared.keys.Key.{Key as Direction}
use Rattle.sqlite.specs.Term.{Term}
use Rattle.sqlite.specs.Schema.{Schema}
use Rattle.sqlite.specs.Listing.{understood}
use Rattle.sqlite_tied.specs.Compute.{everything}
use Rattle.acct_sql_tables.specs.declared.older_schema.OlderSchema.TheVariants.{First, Second}
use Rattle.acct_sql_tables.specs.Tables.{first_schema, meta, price_plan, account, voucher, session}
use Rattle.acct_sql_tables.specs.Tables.{second_schema, plan_count}
use Rattle.acct_sql_tables.specs.inner.Looked.{IsKnown, HasCounts}
use Rattle.acct_sql_tables.specs.declared.statements.TheConstants as texts
use Rattle.acct_sql_tables.proofs.QueryLemmas.{all_rows, IsQuery, IsQueryIn}
use Rattle.acct_sql_tables.proofs.TextLemmas as t
use Rattle.acct_sql_tables.proofs.TextLemmas.{ids_shown, by_rowid, schema_filter, value_shown}
use Rattle.acct_sql_tables.proofs.TextLemmas.{plan_shown}
use Rattle.acct_sql_tables.proofs.TextLemmas.{count_shown}

-- a text that means one query under the tables of a book and under those of older ones
known : {text : List _} {tree : _} {filter project : List Term} {order : List (Term × Direction)}
    {limit : Term} → IsQuery text tree filter project order limit
    → IsQueryIn first_schema text tree filter project order limit
    → IsQueryIn second_schema text tree filter project order limit
    → (schema : Schema) → IsKnown schema → IsQueryIn schema text tree filter project order limit
known {text} {tree} {filter} {project} {order} {limit} own first second schema (inl is) =
    subst (λ s. IsQueryIn s text tree filter project order limit) (sym is) own
known {text} {tree} {filter} {project} {order} {limit} own first second schema (inr (First, is)) =
    subst (λ s. IsQueryIn s text tree filter project order limit) (sym is) first
known {text} {tree} {filter} {project} {order} {limit} own first second schema (inr (Second, is)) =
    subst (λ s. IsQueryIn s text tree filter project order limit) (sym is) second

first_schema_number : IsQueryIn first_schema texts.SCHEMA_NUMBER.now meta.tree schema_filter
    value_shown [] all_rows
unfolding understood everything
first_schema_number = record {
  names = codes "value" ∷ [];
  is = refl;
  unlisted = refl;
  plain = (refl, refl);
  unhidden = λ db. refl;
}

second_schema_number : IsQueryIn second_schema texts.SCHEMA_NUMBER.now meta.tree schema_filter
    value_shown [] all_rows
unfolding understood everything
second_schema_number = record {
  names = codes "value" ∷ [];
  is = refl;
  unlisted = refl;
  plain = (refl, refl);
  unhidden = λ db. refl;
}

pub schema_number : (schema : Schema) → IsKnown schema
    → IsQueryIn schema texts.SCHEMA_NUMBER.now meta.tree schema_filter value_shown [] all_rows
schema_number = known t.schema_number first_schema_number second_schema_number

first_number_ids : IsQueryIn first_schema texts.META_ROWIDS.now meta.tree [] ids_shown by_rowid
    all_rows
unfolding understood everything
first_number_ids = record {
  names = codes "rowid" ∷ [];
  is = refl;
  unlisted = refl;
  plain = (refl, refl);
  unhidden = λ db. refl;
}

second_number_ids : IsQueryIn second_schema texts.META_ROWIDS.now meta.tree [] ids_shown by_rowid
    all_rows
unfolding understood everything
second_number_ids = record {
  names = codes "rowid" ∷ [];
  is = refl;
  unlisted = refl;
  plain = (refl, refl);
  unhidden = λ db. refl;
}

pub number_ids : (schema : Schema) → IsKnown schema
    → IsQueryIn schema texts.META_ROWIDS.now meta.tree [] ids_shown by_rowid all_rows
number_ids = known t.meta_rowids first_number_ids second_number_ids

first_prices : IsQueryIn first_schema texts.PLANS.now price_plan.tree [] plan_shown [] all_rows
unfolding understood everything
first_prices = record {
  names = codes "class" ∷ codes "block" ∷ codes "unit" ∷ [];
  is = refl;
  unlisted = refl;
  plain = (refl, refl);
  unhidden = λ db. refl;
}

second_prices : IsQueryIn second_schema texts.PLANS.now price_plan.tree [] plan_shown [] all_rows
unfolding understood everything
second_prices = record {
  names = codes "class" ∷ codes "block" ∷ codes "unit" ∷ [];
  is = refl;
  unlisted = refl;
  plain = (refl, refl);
  unhidden = λ db. refl;
}

pub prices : (schema : Schema) → IsKnown schema
    → IsQueryIn schema texts.PLANS.now price_plan.tree [] plan_shown [] all_rows
prices = known t.plan_rows first_prices second_prices

first_account_ids : IsQueryIn first_schema texts.ACCOUNT_ROWIDS.now account.tree [] ids_shown
    by_rowid all_rows
unfolding understood everything
first_account_ids = record {
  names = codes "rowid" ∷ [];
  is = refl;
  unlisted = refl;
  plain = (refl, refl);
  unhidden = λ db. refl;
}

second_account_ids : IsQueryIn second_schema texts.ACCOUNT_ROWIDS.now account.tree [] ids_shown
    by_rowid all_rows
unfolding understood everything
second_account_ids = record {
  names = codes "rowid" ∷ [];
  is = refl;
  unlisted = refl;
  plain = (refl, refl);
  unhidden = λ db. refl;
}

pub account_ids : (schema : Schema) → IsKnown schema
    → IsQueryIn schema texts.ACCOUNT_ROWIDS.now account.tree [] ids_shown by_rowid all_rows
account_ids = known t.account_rowids first_account_ids second_account_ids

first_voucher_ids : IsQueryIn first_schema texts.VOUCHER_ROWIDS.now voucher.tree [] ids_shown
    by_rowid all_rows
unfolding understood everything
first_voucher_ids = record {
  names = codes "rowid" ∷ [];
  is = refl;
  unlisted = refl;
  plain = (refl, refl);
  unhidden = λ db. refl;
}

second_voucher_ids : IsQueryIn second_schema texts.VOUCHER_ROWIDS.now voucher.tree [] ids_shown
    by_rowid all_rows
unfolding understood everything
second_voucher_ids = record {
  names = codes "rowid" ∷ [];
  is = refl;
  unlisted = refl;
  plain = (refl, refl);
  unhidden = λ db. refl;
}

pub voucher_ids : (schema : Schema) → IsKnown schema
    → IsQueryIn schema texts.VOUCHER_ROWIDS.now voucher.tree [] ids_shown by_rowid all_rows
voucher_ids = known t.voucher_rowids first_voucher_ids second_voucher_ids

first_session_ids : IsQueryIn first_schema texts.SESSION_ROWIDS.now session.tree [] ids_shown
    by_rowid all_rows
unfolding understood everything
first_session_ids = record {
  names = codes "rowid" ∷ [];
  is = refl;
  unlisted = refl;
  plain = (refl, refl);
  unhidden = λ db. refl;
}

second_session_ids : IsQueryIn second_schema texts.SESSION_ROWIDS.now session.tree [] ids_shown
    by_rowid all_rows
unfolding understood everything
second_session_ids = record {
  names = codes "rowid" ∷ [];
  is = refl;
  unlisted = refl;
  plain = (refl, refl);
  unhidden = λ db. refl;
}

pub session_ids : (schema : Schema) → IsKnown schema
    → IsQueryIn schema texts.SESSION_ROWIDS.now session.tree [] ids_shown by_rowid all_rows
session_ids = known t.session_rowids first_session_ids second_session_ids

second_counts : IsQueryIn second_schema texts.PLAN_COUNTS.now plan_count.tree [] count_shown []
    all_rows
unfolding understood everything
second_counts = record {
  names = codes "class" ∷ codes "mode" ∷ [];
  is = refl;
  unlisted = refl;
  plain = (refl, refl);
  unhidden = λ db. refl;
}

pub counts : (schema : Schema) → HasCounts schema
    → IsQueryIn schema texts.PLAN_COUNTS.now plan_count.tree [] count_shown [] all_rows
counts schema (inl is) = subst (λ s. IsQueryIn s texts.PLAN_COUNTS.now plan_count.tree []
    count_shown [] all_rows) (sym is) t.count_rows
counts schema (inr is) = subst (λ s. IsQueryIn s texts.PLAN_COUNTS.now plan_count.tree []
    count_shown [] all_rows) (sym is) second_counts
