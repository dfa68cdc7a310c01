use Rattle.acct_sql_log.proofs.ReadingLemmas.{unsealed_is_sound}
use Rattle.acct_sql_log.proofs.log_reader.header_damage.Goals as goal

pub returns-else-head-eq-FIRST : goal.returns-else-head-eq-FIRST
returns-else-head-eq-FIRST c octets whole is = unsealed_is_sound octets c.args.head.now is
    c.requires.broken c.if-head-eq-FIRST.false
