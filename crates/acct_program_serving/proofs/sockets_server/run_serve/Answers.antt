use Rattle.std.proofs.Common.{ap, inr, refl}
use Rattle.acct_program_commands.specs.Names.{seen_of}
use Rattle.acct_program_commands.specs.RoundStates.{state_of}
use Rattle.acct_program_serving.specs.Files.{seen_before}
use Rattle.acct_program_serving.proofs.HandedOn.{ends_afresh, rounds_after}
use Rattle.acct_program_serving.proofs.sockets_server.run_serve.Goals as goal

pub returns-clause-serves : goal.returns-clause-serves
returns-clause-serves g c =
    let bound = c.in-Ok.ensures in
    let files = c.in_ok-files.ensures in
    let served = rw c.seconds_in-oldest.ensures at c.serve-sockets.ensures in
    let begins = c.in-Ok-begun.ensures.begins c.args.serving.now.telling.balances files.balances in
    inr (inr (
      c.serve-sockets.result.1,
      c.status_of.ensures.status,
      (
        seen_of c.in-Ok-names.names,
        ap seen_before c.in-Ok-names.is,
        (
          c.serve-sockets.result.0,
          ends_afresh _ _ _ _ _ _ _ _ _ _ _ _ _ _ _
              begins _
              (λ slices went. rounds_after _ g.R.ReplacesFiles.was_put _
              (state_of g.S.SiteSource.file g.S.SiteSource.polls g.S.SiteSource.moments)
              (λ _ _ _ _ goes. goes) (λ _ _ _ _ _ shows. shows) (λ _. refl)
              c.in-Ok-begun.begun slices
              c.serve-sockets.new.rounds went)
              c.in-Ok-begun.ensures.looks _ _ bound.bound bound.fresh.0 bound.fresh.1 _ _ _
              served,
        ),
      ),
    ))
