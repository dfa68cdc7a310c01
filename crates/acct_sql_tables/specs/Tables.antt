-- The tables of the book.
use Rattle.sqlite.specs.Collation.TheVariants.{Binary}
use Rattle.std.specs.Prelude.{true, false, [], ◌∷◌, None, codes, List, ℕ, ℤ, pos, Bool, take}
use Rattle.sqlite.specs.declared.types.Value.TheVariants.{Null}
use Rattle.sqlite.specs.Table.{Table}
use Rattle.sqlite.specs.Schema.{Schema}
use Rattle.sqlite.specs.Kind.{Kind}
use Rattle.sqlite.specs.Kind.TheVariants.{Integer, Text, Blob}
use Rattle.sqlite_schema.specs.declared.schema.Column.{Column}
use Rattle.sqlite_schema.specs.declared.schema.Index.{Index}
use Rattle.sqlite_value.specs.Keys.{plain}

abbrev pub column_of : List ℕ → Kind → Column
column_of name kind = record {
  name = name;
  kind = kind;
  is_strict = true;
  not_null = true;
  default = Null;
  collation = Binary;
}

abbrev pub table_of : List ℕ → ℕ → List Column → List ℕ → Table
table_of name tree columns key = record {
  name = name;
  tree = tree;
  columns = columns;
  key = None;
  primary = key;
  uniques = key ∷ [];
  orders = plain ∷ [];
  checks = [];
  references = [];
  computed = [];
  stamps = record { places = []; terms = []; formats = [] };
  is_counted = false;
}

abbrev pub index_of : List ℕ → ℕ → ℕ → List ℕ → Bool → Index
index_of name tree table columns is_unique = record {
  name = name;
  tree = tree;
  table = table;
  columns = columns;
  order = plain;
  is_unique = is_unique;
}

abbrev pub meta : Table
meta = table_of (codes "meta") 0 (column_of (codes "name") Text ∷ column_of (codes "value") Integer
    ∷ []) (1 ∷ [])

abbrev pub price_plan : Table
price_plan = table_of (codes "price_plan") 2 (column_of (codes "class") Blob ∷ column_of
    (codes "block") Integer ∷ column_of (codes "unit") Integer ∷ []) (1 ∷ [])

abbrev pub account : Table
account = table_of (codes "account") 4 (column_of (codes "name") Blob ∷ column_of (codes "balance")
    Integer ∷ []) (1 ∷ [])

abbrev pub voucher : Table
voucher = table_of (codes "voucher") 6 (column_of (codes "number") Text ∷ column_of
    (codes "account") Blob ∷ column_of (codes "amount") Integer ∷ column_of (codes "moment") Integer
    ∷ []) (1 ∷ [])

abbrev pub session : Table
session = table_of (codes "session") 8 (column_of (codes "client") Text ∷ column_of (codes "id")
    Blob ∷ column_of (codes "account") Blob ∷ column_of (codes "class") Blob
    ∷ column_of (codes "input") Integer ∷ column_of (codes "output") Integer ∷ column_of
    (codes "seconds") Integer ∷ column_of (codes "first_seen") Integer
    ∷ column_of (codes "last_seen") Integer ∷ column_of (codes "state") Integer ∷ column_of
    (codes "cause") Integer ∷ column_of (codes "calling") Blob
    ∷ column_of (codes "framed") Blob ∷ []) (1 ∷ 2 ∷ [])

-- what each plan counts, by its class: 0 both directions, 1 the input, 2 the output
abbrev pub plan_count : Table
plan_count = table_of (codes "plan_count") 12 (column_of (codes "class") Blob ∷ column_of
    (codes "mode") Integer ∷ []) (1 ∷ [])

-- the class of each session's plan
abbrev pub session_plan : Table
session_plan = table_of (codes "session_plan") 14 (column_of (codes "client") Text ∷ column_of
    (codes "id") Blob ∷ column_of (codes "plan_class") Blob ∷ []) (1 ∷ 2 ∷ [])

-- the schema number of a book with these tables
abbrev pub own_number : ℤ
own_number = pos 3

abbrev pub book_schema : Schema
book_schema = record {
  tables = meta ∷ price_plan ∷ account ∷ voucher ∷ session ∷ plan_count ∷ session_plan ∷ [];
  indexes = index_of (codes "sqlite_autoindex_meta_1") 1 meta.tree (1 ∷ []) true ∷ index_of
      (codes "sqlite_autoindex_price_plan_1") 3 price_plan.tree (1 ∷ []) true
      ∷ index_of (codes "sqlite_autoindex_account_1") 5 account.tree (1 ∷ []) true ∷ index_of
      (codes "sqlite_autoindex_voucher_1") 7 voucher.tree (1 ∷ []) true
      ∷ index_of (codes "sqlite_autoindex_session_1") 9 session.tree (1 ∷ 2 ∷ []) true
      ∷ index_of (codes "session_account") 10 session.tree (3 ∷ []) false ∷ index_of
      (codes "voucher_account") 11 voucher.tree (2 ∷ []) false ∷ index_of
      (codes "sqlite_autoindex_plan_count_1") 13 plan_count.tree (1 ∷ []) true ∷ index_of
      (codes "sqlite_autoindex_session_plan_1") 15 session_plan.tree (1 ∷ 2 ∷ []) true ∷ [];
  views = [];
}

-- the tables of a book of schema number 1
abbrev pub first_schema : Schema
first_schema = record {
  tables = take 5 book_schema.tables;
  indexes = take 7 book_schema.indexes;
  views = [];
}

-- the tables of a book of schema number 2: those of number 1, and what each plan counts
abbrev pub second_schema : Schema
second_schema = record {
  tables = take 6 book_schema.tables;
  indexes = take 8 book_schema.indexes;
  views = [];
}

abbrev pub no_schema : Schema
no_schema = record { tables = []; indexes = []; views = [] }
