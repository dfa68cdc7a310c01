use Rattle.std.proofs.Common.{refl}
use Rattle.acct_program_serving.proofs.Promised.{serves_rightly}
use Rattle.acct_program_jobs.proofs.Promised.{files_right}
use Rattle.acct_program_jobs.proofs.laws.every_balance_is_right.Goals as goal

pub returns : goal.returns
returns g c =
    let promise = c.every_balance_is_right.ensures in
    files_right _ _ _ _ (serves_rightly _ _ promise.visits promise.begun _ _) (λ one. record {
      content_is = refl;
      sound_is = (λ is. is, λ is. is);
      open_is = (λ is. is, λ is. is);
      left_is = λ content. (λ is. is, λ is. is);
    })
