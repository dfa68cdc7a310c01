-- What a request asks for, as contracts see it.
use Rattle.std.specs.Prelude.{option_map}
use Rattle.acct_desk.specs.declared.asking.Ask as code
use Rattle.acct_desk.specs.declared.asking.Ask.TheVariants.{Refused, Me, Overruns, Login}
use Rattle.acct_desk.specs.declared.asking.Ask.TheVariants.{Account, Overdrawn, Credit}
use Rattle.acct_desk.specs.Asks.{Ask, refused, me, overruns, look, login, overdrawn, credit}
use Rattle.acct_desk.specs.inner.LoginView.{login_view}

abbrev pub ask_view : code.Ask → Ask
ask_view (Refused refusal) = refused refusal
ask_view (Me page account) = me page account.now
ask_view (Account page account) = me page account
ask_view Overruns = overruns
ask_view (Login asked) = look (login (login_view asked))
ask_view (Overdrawn after) = look (overdrawn (option_map (λ a. a.items) after))
ask_view (Credit topup) = credit topup
