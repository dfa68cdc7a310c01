-- A schema as the code lists it.
use Rattle.std.specs.Prelude.{List, [], map}
use Rattle.sqlite.specs.Table.{Table}
use Rattle.sqlite.specs.Schema.{Schema}
use Rattle.sqlite_schema.specs.declared.schema.Column.{Column}
use Rattle.sqlite_schema.specs.declared.schema.Index.{Index}
use Rattle.acct_sql_tables.specs.declared.book_schema.ColumnText.{ColumnText}
use Rattle.acct_sql_tables.specs.declared.book_schema.TableText.{TableText}
use Rattle.acct_sql_tables.specs.declared.book_schema.IndexText.{IndexText}
use Rattle.acct_sql_tables.specs.Tables.{column_of, table_of, index_of}

abbrev pub column_said : ColumnText → Column
column_said text = column_of text.name.now text.kind

abbrev pub table_said : TableText → Table
table_said text = table_of text.name.now text.tree (map column_said text.columns.now) text.key.now

abbrev pub index_said : IndexText → Index
index_said text = index_of text.name.now text.tree text.table text.columns.now text.is_unique

-- these tables and indices, and no view
abbrev pub schema_said : List TableText → List IndexText → Schema
schema_said tables indexes = record {
  tables = map table_said tables;
  indexes = map index_said indexes;
  views = [];
}
