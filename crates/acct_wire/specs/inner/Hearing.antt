-- The entry of a stamped client's packet: what its attributes spell, as it is heard.
use Rattle.std.specs.Prelude.{ℕ, List, Option, None, Some}
use Rattle.acct_model.specs.declared.entry.Entry.{Entry}
use Rattle.acct_model.specs.declared.entry.Entry.TheVariants.{Report, Restart, TopUp}
use Rattle.acct_model.specs.declared.stamp.Stamp.{Stamp}
use Rattle.acct_model.specs.declared.stamp.StampSecrets.{StampSecrets}
use Rattle.acct_model.specs.Entries.{Attributes}
use Rattle.acct_model.specs.Report.{ReportFacts}
use Rattle.acct_model.specs.Stamps.{stamped_session}
use Rattle.acct_wire.specs.declared.hearing.StampedClient.{StampedClient}
use Rattle.acct_wire.specs.declared.hearing.Stamping.{Stamping}
use Rattle.acct_wire.specs.Hearing.{stamped_called, first_stamp, billed, told_of}

-- a report of a client's session that somebody else pays for
abbrev pub report_heard : List ℕ → Stamp → ReportFacts → ReportFacts
report_heard client stamp report = record report {
  client = client;
  session = stamped_session report.session stamp;
  user = stamp.name;
  class = stamp.plan;
}

abbrev pub entry_heard : List ℕ → Stamp → Entry → Entry
entry_heard client stamp (Report report) = Report (report_heard client stamp report)
entry_heard client stamp (Restart restart) = Restart (record { client = client })
entry_heard client stamp (TopUp topup) = TopUp topup

abbrev pub entry_from : StampSecrets → List ℕ → Attributes → Entry → Option StampedClient → Entry
entry_from secrets name attributes asked None = asked
entry_from secrets name attributes asked (Some client) =
    entry_heard (told_of name attributes (Some client))
    (billed client attributes (first_stamp secrets attributes)) asked

-- the entry that the attributes spell, as the site hears the client of this name
abbrev pub entry_in : Option Stamping → List ℕ → Attributes → Entry → Entry
entry_in None name attributes asked = asked
entry_in (Some stamping) name attributes asked =
    entry_from stamping.secrets name attributes asked (stamped_called name (Some stamping))
