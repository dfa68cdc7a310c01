-- Why the stamp that a login is told is read as what the login asked.
use Rattle.std.proofs.Common.{◌≡◌, ℕ, ◌≤◌, Bool, true, false, cond, ◌&&◌, List, length, refl, sym, ◌∙◌}
use Rattle.std.proofs.Common.{ap, subst, arith, inl}
use Rattle.std.proofs.lemmas.Bool.{leb-true}
use Rattle.std.specs.Prelude.{Option, Some, None, nat_le}
use Rattle.acct_model.proofs.Same.{and_both}
use Rattle.acct_model.proofs.StampLaws.{stamps_read}
use Rattle.acct_model.specs.declared.plan.Plan.{Plan}
use Rattle.acct_model.specs.declared.stamp.StampSecrets.{StampSecrets}
use Rattle.acct_model.specs.StampLaws.{AreOctets}
use Rattle.acct_model.specs.Stamps.{is_login, stamp_of, stamp_read}
use Rattle.acct_model.specs.Vouchers.{is_voucher_account}
use Rattle.acct_desk_pages.specs.declared.login.Heard.{Heard}
use Rattle.acct_desk.specs.Logins.{Login, login_of, login_stamp}
use Rattle.acct_desk.specs.LoginLaws.{ToldStampsAreRead}

told_if : (b : Bool) (login asked : Login) → cond b (Some login) None ≡ Some asked
    → (b ≡ true) × (login.stamp ≡ asked.stamp)
told_if true login asked e = (refl, (let same : login ≡ asked = cc in ap (λ l. l.stamp) same))
told_if false login asked e = absurd (cc)

pub told_stamps_are_read : ToldStampsAreRead
told_stamps_are_read secrets plan account login None asked planned named e = absurd (cc)
told_stamps_are_read secrets plan account login (Some heard) asked planned named e =
    let stamp = login_stamp plan login account in
    let value = stamp_of secrets.secret stamp in
    let told = told_if (is_voucher_account account && is_login login && nat_le (length value) 253)
    (record { account = account; plan = plan; stamp = value; heard = heard }) asked e in
    let fits = and_both (is_voucher_account account && is_login login) (nat_le (length value) 253)
    told.0 in
    let both = and_both (is_voucher_account account) (is_login login) fits.0 in
    ap (stamp_read secrets) (sym told.1)
    ∙ stamps_read.made secrets secrets.secret stamp (inl refl)
    (record { plan = planned; login = both.1; name = named }) (leb-true (length value) 253 fits.1)
