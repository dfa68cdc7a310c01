use Rattle.acct_files.proofs.account_lines.AccountExportExport.begin.Goals as goal

pub returns-in-Balances-clause-text : goal.returns-in-Balances-clause-text
returns-in-Balances-clause-text g c = rw c.in-Balances.is c.begin.ensures.text

pub returns-in-Overruns-clause-text : goal.returns-in-Overruns-clause-text
returns-in-Overruns-clause-text g c = rw c.in-Overruns.is c.begin-in-Overruns.ensures.text
