-- The numbers of a job that the command line asks for are within their bounds.
use Rattle.std.proofs.Common.{ℕ, List, Option, Some, None, arith, ◌≤◌}
use Rattle.std.specs.Prelude.{IfSome}
use Rattle.clap.specs.Words.{Row, Text}
use Rattle.acct_program_args.specs.declared.job.Job.{Job}
use Rattle.acct_program_args.specs.declared.job.Job.TheVariants as job
use Rattle.acct_program_args.specs.declared.job.BookJob.{BookJob}
use Rattle.acct_program_args.specs.declared.job.BookJob.TheVariants as of_book
use Rattle.acct_program_args.specs.declared.job.BalancesFile.{BalancesFile}
use Rattle.acct_program_args.specs.declared.job.Cutoff.{Cutoff}
use Rattle.acct_program_args.specs.declared.job.Cutoff.TheVariants.{Before, At}
use Rattle.acct_program_args.specs.Orders.{HasBounds, AreBounded, IsBalances, IsCutoff, IsWithin}
use Rattle.acct_program_args.specs.Orders.{IsSilence, IsOldest, AreDays, WordsAskFor, WordsAskOfBook}

seconds : (rows : List Row) (balances : Option BalancesFile) → IsBalances rows balances
    → IfSome balances (λ balances. (1 ≤ balances.seconds) × (balances.seconds ≤ 86400))
seconds rows None asked = tt
seconds rows (Some balances) asked = (asked.1.3, asked.1.4)

within : (rows : List Row) (cutoff : Cutoff) → IsCutoff rows cutoff → IsWithin cutoff
within rows (Before days) asked = (asked.2, asked.1.4)
within rows (At moment) asked = omega (arith, asked.1.4)

silence : (rows : List Row) (days : Option ℕ) → IsSilence rows days → IfSome days AreDays
silence rows None asked = tt
silence rows (Some days) asked = (asked.1, asked.0.4)

oldest : (rows : List Row) (days : Option ℕ) → IsOldest rows days
    → IfSome days (λ days. days ≤ 36500)
oldest rows None asked = tt
oldest rows (Some days) asked = asked.4

of_a_book : (name : Text) (rows : List Row) (asked : BookJob) → WordsAskOfBook name rows asked
    → AreBounded asked
of_a_book name rows (of_book.Init has_sums) asked = tt
of_a_book name rows (of_book.Serve serving) asked = record {
  turns = omega (arith, asked.1.1.4);
  some_address = asked.1.0.0.1;
  addresses = asked.1.0.0.2;
  seconds = seconds rows serving.telling.balances asked.1.4.2;
  oldest = oldest rows serving.oldest_report asked.1.3;
}
of_a_book name rows of_book.Import asked = tt
of_a_book name rows (of_book.Export what) asked = tt
of_a_book name rows of_book.Migrate asked = tt
of_a_book name rows of_book.AddPlans asked = tt
of_a_book name rows of_book.ListPlans asked = tt
of_a_book name rows (of_book.Forward carrying) asked = (
  within rows carrying.cutoff asked.1.0,
  silence rows carrying.silent asked.1.1,
  oldest rows carrying.oldest_report asked.1.5,
)

pub bounded : (name : Text) (rows : List Row) (asked : Job) → WordsAskFor name rows asked
    → HasBounds asked
bounded name rows (job.Feed config) asked = tt
bounded name rows (job.Check config database kept audits) asked = tt
bounded name rows (job.Key config account until) asked = tt
bounded name rows (job.Book paths work) asked = of_a_book name rows work asked.1
