-- Whose a request is, as contracts see it.
use Rattle.acct_desk.specs.declared.bearer.Bearer.{Bearer}
use Rattle.acct_desk.specs.declared.bearer.Bearer.TheVariants.{Listed, Signed}
use Rattle.acct_desk.specs.declared.keys.Role.{Role}
use Rattle.acct_desk.specs.declared.keys.Role.TheVariants.{Account}

-- A signed key lets its bearer do what the account's own key does.
abbrev pub bearer_role : Bearer → Role
bearer_role (Listed role) = role.now
bearer_role (Signed account) = Account account
