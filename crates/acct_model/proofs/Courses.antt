-- A history in which sessions are carried forward keeps the balances of what was sent.
use Rattle.std.proofs.Common.{◌≡◌, Bool, true, false, ◌||◌, List, [], ◌∷◌, ◌++◌, refl, sym, ◌∙◌}
use Rattle.std.proofs.Common.{subst}
use Rattle.std.proofs.Common.{true≢false}
use Rattle.std.proofs.lemmas.List.Elements.{Contains-append_left}
use Rattle.std.specs.Prelude.{Contains}
use Rattle.std.specs.List.{list_any}
use Rattle.acct_model.specs.History.{SessionName, session_of, same_session}
use Rattle.acct_model.specs.Forward.{GoOnAlike, sessions_in}
use Rattle.acct_model.specs.Course.{Course, is_among, Move, accepts, extends, carries, Moves, Goes}
use Rattle.acct_model.specs.Course.{begun, ForwardSettles}
use Rattle.acct_model.proofs.Same.{Decides-same_session}
use Rattle.acct_model.proofs.Lists.{here, deeper, some_same}
use Rattle.acct_model.proofs.GoOn.{goes_on}
use Rattle.acct_model.proofs.Agree.{balances-covered}

abbrev Alike : Course → Type 0
Alike at = GoOnAlike at.plans (is_among at.aside) at.whole at.kept

among : (name : SessionName) (names : List SessionName) → Contains names name
    → is_among names name ≡ true
among name names there =
    some_same same_session name name names there ((Decides-same_session name name).1 refl)

none_more : (one other : SessionName) (more aside : List SessionName)
    → (list_any (same_session other) (more ++ aside) ≡ false)
    → list_any (same_session other) aside ≡ false
none_more one other [] aside e = e
none_more one other (x ∷ more) aside e =
    none_more one other more aside (second (same_session other x)
    (list_any (same_session other) (more ++ aside)) e)
  where
    second : (a b : Bool) → (a || b) ≡ false → b ≡ false
    second true b h = absurd (true≢false h)
    second false b h = h

one_move : (old new : Course) (move : Move) → Moves old move new → Alike old → Alike new
one_move old new (accepts next) (may, is) alike =
    subst Alike (sym is)
    (goes_on.accepted old.plans (is_among old.aside) old.whole old.kept next alike may)
one_move old new (extends more) (good, fine, extend, is) alike =
    subst Alike (sym is)
    (goes_on.added old.plans more (is_among old.aside) old.whole old.kept good fine extend alike)
one_move old new (carries batch) ((c, after), is) alike =
    let aside = session_of batch.report ∷ sessions_in batch ++ old.aside in
    let more = goes_on.more old.plans (is_among old.aside) (is_among aside) old.whole old.kept
    (λ other e. none_more batch.name other (session_of batch.report ∷ sessions_in batch) old.aside e)
    alike in
    subst Alike (sym is)
    (subst (GoOnAlike old.plans (is_among aside) old.whole) (sym after)
    (goes_on.forward old.plans (is_among aside) old.whole old.kept batch.name batch.names
    batch.report more c
    (λ x there. among x aside (deeper (session_of batch.report) x (sessions_in batch ++ old.aside)
    (Contains-append_left (sessions_in batch) old.aside x there)))
    (among (session_of batch.report) aside
    (here (session_of batch.report) (sessions_in batch ++ old.aside)))))

-- A course that began alike continues alike.
pub goes_alike : (old new : Course) (moves : List Move) → Goes old moves new → Alike old → Alike new
goes_alike old new [] is alike = subst Alike (sym is) alike
goes_alike old new (move ∷ moves) (mid, one, rest) alike =
    goes_alike mid new moves rest (one_move old mid move one alike)

pub forward_settles : ForwardSettles
forward_settles plans sent moves last goes fresh new consistent more topped covered account =
    let alike = goes_alike (begun plans) last moves goes
    (goes_on.begins plans (is_among []) []) in
    sym (alike.balances account)
    ∙ balances-covered last.plans last.whole sent fresh new consistent more topped covered account
