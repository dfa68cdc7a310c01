-- What a server counted since its start, in the text form of Prometheus.
use Rattle.std.specs.Prelude.{ℕ, List, [], ◌∷◌, ◌++◌, codes, decimal, flat_map}
use Rattle.std.specs.Prelude.{Option, None, Some, Bool, if◌then◌else◌}
use Rattle.acct_wire.specs.Reasons.{reason_number, reason_name, all_reasons, count_for}
use Rattle.acct_wire.specs.declared.reason.Reason.{Reason}
use Rattle.acct_program_commands.specs.declared.tally.Tally.{Tally}
use Rattle.acct_program_commands.specs.declared.tally.Arrivals.{Arrivals}
use Rattle.acct_program_commands.specs.declared.gauges.BalancesWritten.{BalancesWritten}
use Rattle.acct_program_commands.specs.declared.figures.State.{State}
use Rattle.acct_program_commands.specs.declared.figures.Figures.{Figures}

-- `# HELP NAME ABOUT`, and `# TYPE NAME KIND`
abbrev pub head_text : List ℕ → List ℕ → List ℕ → List ℕ
head_text kind name about =
    codes "# HELP " ++ name ++ codes " " ++ about
    ++ 10 ∷ codes "# TYPE " ++ name ++ codes " " ++ kind ++ 10 ∷ []

-- these, and `NAME VALUE`
abbrev pub metric_text : List ℕ → List ℕ → List ℕ → ℕ → List ℕ
metric_text kind name about value =
    head_text kind name about ++ name ++ codes " " ++ decimal value ++ 10 ∷ []

-- `radacctd_drops_total{reason="NUMBER",name="NAME"} COUNT`
abbrev pub drops_metric_text : Reason → ℕ → List ℕ
drops_metric_text why count =
    codes "radacctd_drops_total{reason=\"" ++ decimal (reason_number why) ++ codes "\",name=\""
    ++ reason_name why ++ codes "\"} " ++ decimal count ++ 10 ∷ []

-- the counts, except the drops for each reason
abbrev pub tally_text : Tally → List ℕ
tally_text tally =
    metric_text (codes "counter") (codes "radacctd_events_total")
    (codes "Datagrams and requests that were received.") tally.events
    ++ metric_text (codes "counter") (codes "radacctd_replies_total")
    (codes "Replies and responses that were taken.") tally.replies
    ++ metric_text (codes "counter") (codes "radacctd_mute_requests_total")
    (codes "Requests that got no response, since memory ran out.") tally.mute
    ++ metric_text (codes "counter") (codes "radacctd_faults_total")
    (codes "Faults of receiving and of sending.") tally.faults

-- the line of each of these reasons, including those without drops
abbrev pub drops_lines : List ℕ → List Reason → List ℕ
drops_lines dropped reasons =
    flat_map (λ why. drops_metric_text why (count_for dropped why)) reasons

-- the drops for each reason
abbrev pub drops_text : List ℕ → List ℕ
drops_text dropped =
    head_text (codes "counter") (codes "radacctd_drops_total")
    (codes "Datagrams that were dropped, for each reason.")
    ++ drops_lines dropped all_reasons

-- when the server started, and when it received the last event
abbrev pub moments_text : ℕ → ℕ → List ℕ
moments_text started_at last_event_at =
    metric_text (codes "gauge") (codes "radacctd_start_time_seconds")
    (codes "When the server started, in seconds since 1970.") started_at
    ++ metric_text (codes "gauge") (codes "radacctd_last_event_time_seconds")
    (codes "When the last event was received, in seconds since 1970, or 0.") last_event_at

-- how many datagrams and desk requests were received, how many of the datagrams were reports that
-- were accepted, and when the last ones were received
abbrev pub arrivals_text : Arrivals → ℕ → Arrivals → List ℕ
arrivals_text datagrams reports requests =
    metric_text (codes "counter") (codes "radacctd_datagrams_total")
    (codes "Datagrams that were received.") datagrams.count
    ++ metric_text (codes "counter") (codes "radacctd_reports_total")
    (codes "Reports that were accepted, new or sent again.") reports
    ++ metric_text (codes "counter") (codes "radacctd_desk_requests_total")
    (codes "Requests that the desk received.") requests.count
    ++ metric_text (codes "gauge") (codes "radacctd_last_report_time_seconds")
    (codes "When the last datagram was received, in seconds since 1970, or 0.") datagrams.last_at
    ++ metric_text (codes "gauge") (codes "radacctd_last_desk_request_time_seconds")
    (codes "When the desk received the last request, in seconds since 1970, or 0.")
    requests.last_at

-- when the file of balances was written
abbrev pub balances_at : ℕ → List ℕ
balances_at moment =
    metric_text (codes "gauge") (codes "radacctd_balances_time_seconds")
    (codes "When the file of balances was written, in seconds since 1970, or 0.") moment

-- that, and what it has
abbrev pub balances_text : Option BalancesWritten → List ℕ
balances_text None = balances_at 0
balances_text (Some written) =
    balances_at written.at
    ++ metric_text (codes "gauge") (codes "radacctd_accounts")
    (codes "Accounts in the file of balances.") written.accounts
    ++ metric_text (codes "gauge") (codes "radacctd_overdrawn_accounts")
    (codes "Accounts in the file of balances with a balance below 0.") written.overdrawn

-- a value, if it is known
abbrev pub known_text : List ℕ → List ℕ → Option ℕ → List ℕ
known_text name about None = []
known_text name about (Some value) = metric_text (codes "gauge") name about value

-- which build of the program it is
abbrev pub build_text : List ℕ
build_text =
    codes "# HELP radacctd_build_info The program and the schema of its books.\n# TYPE radacctd_build_info gauge\nradacctd_build_info{version=\"0.1.0\",schema=\"3\"} 1\n"

-- 1 or 0
abbrev pub value_of : Bool → ℕ
value_of is_so = if is_so then 1 else 0

-- the state of a server
abbrev pub state_text : State → List ℕ
state_text state =
    metric_text (codes "gauge") (codes "radacctd_config_is_current")
    (codes "Whether the configuration in force is the one in the file.")
    (value_of state.is_current)
    ++ metric_text (codes "gauge") (codes "radacctd_book_is_there")
    (codes "Whether the book's names lead to its open files; if not, nothing is answered.")
    (value_of state.has_book)
    ++ balances_text state.balances
    ++ known_text (codes "radacctd_book_octets") (codes "The octets of the file of the book.")
    state.book_octets
    ++ known_text (codes "radacctd_log_octets") (codes "The octets of the log of the book.")
    state.log_octets
    ++ build_text

-- all of it
abbrev pub figures_text : Figures → List ℕ
figures_text figures =
    tally_text figures.tally ++ drops_text figures.dropped
    ++ moments_text figures.started_at figures.last_event_at
    ++ arrivals_text figures.datagrams figures.reports figures.requests ++ state_text figures.state
