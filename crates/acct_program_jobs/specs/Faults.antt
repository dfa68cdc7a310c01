-- The fault that a command reports for a book.
use Rattle.acct_sql_tables.specs.declared.sql_book_error.SqlBookError.{SqlBookError}
use Rattle.acct_sql_tables.specs.declared.sql_book_error.SqlBookError.TheVariants as error
use Rattle.acct_program_commands.specs.declared.fault.StoreFault.{StoreFault}
use Rattle.acct_program_commands.specs.declared.fault.StoreFault.TheVariants as fault

abbrev pub store_fault_of : SqlBookError → StoreFault
store_fault_of error.NotABook = fault.NotABook
store_fault_of error.PlansDiffer = fault.PlansDiffer
store_fault_of (error.WrongSchema number) = fault.WrongSchema
store_fault_of error.Unavailable = fault.Unavailable
