-- A login and its path, as contracts see them.
use Rattle.std.specs.Prelude.{option_map, string_bytes}
use Rattle.acct_desk.specs.declared.login_path.LoginPath as path
use Rattle.acct_desk.specs.declared.login.Login as code
use Rattle.acct_desk.specs.Paths.{LoginPath}
use Rattle.acct_desk.specs.Logins.{Login}

abbrev pub path_view : path.LoginPath → LoginPath
path_view p = record {
  account = p.account.now;
  class = p.class.now;
  login = p.login.now;
  heard = option_map (λ h. (h.0.now, h.1.now)) p.heard;
}

abbrev pub login_view : code.Login → Login
login_view l = record {
  account = l.account;
  plan = l.plan.now;
  stamp = string_bytes l.stamp;
  heard = l.heard;
}
