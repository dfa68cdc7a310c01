use Rattle.acct_program_jobs.proofs.command.written_out.Goals as goal

pub returns-in-Ok-clause-exported : goal.returns-in-Ok-clause-exported
returns-in-Ok-clause-exported g c = rw c.into_connection.ensures (
    let looks = c.in-Ok.ensures.reads in (
      record {
        was_sound = looks.was_sound;
        was_open = looks.was_open;
        keeps_steady = looks.keeps_steady;
        answers = looks.answers;
        same = looks.same;
        adds_none = looks.adds_none;
      },
      c.in-Ok.ensures.exports,
    ))

pub returns-in-Err-clause-failed : goal.returns-in-Err-clause-failed
returns-in-Err-clause-failed g c = rw c.into_connection-in-Err.ensures (
    let looks = c.in-Err.ensures.reads in (
      record {
        was_sound = looks.was_sound;
        was_open = looks.was_open;
        keeps_steady = looks.keeps_steady;
        answers = looks.answers;
        same = looks.same;
        adds_none = looks.adds_none;
      },
      c.in-Err.ensures.why,
    ))
