-- A run of lines, one line more.
use Rattle.std.proofs.Common.{◌≡◌, ◌≢◌, ℕ, List, [], ◌∷◌, ◌++◌, Option, Bool, true}
use Rattle.std.proofs.Common.{false, refl, sym}
use Rattle.std.proofs.Common.{ap, subst, subst₂, ◌∙◌}
use Rattle.std.specs.Prelude.{◌&&◌, flat_map}
use Rattle.std.specs.List.{list_all}
use Rattle.std.specs.Io.KnownBytes.{Appends, Keeps}
use Rattle.std.proofs.lemmas.List.Folds.{list_all-append}
use Rattle.std.proofs.lemmas.Grind.{flat_map-append}
use Rattle.std.proofs.KnownBytes.{Appends-nil, Appends-trans, Appends-kept}
use Rattle.std.proofs.lemmas.List.{append-nil}
use Rattle.acct_model.specs.declared.plan.Plan.{Plan}
use Rattle.acct_book.specs.declared.book.Book.{Ghosts}
use Rattle.acct_book.specs.Stands.{Stands}
use Rattle.acct_wire.specs.Clients.{ClientsFacts}
use Rattle.acct_program_feed.specs.Lines.{IsCut, AreCut}
use Rattle.acct_program_feed.specs.Feed.{AnswersLine, AnswersAll, Ran, RanAfresh}
use Rattle.acct_program_feed.specs.inner.Feed.{Prints}
use Rattle.acct_program_feed.specs.Feed.{printed_text, is_good}
use Rattle.acct_program_feed.specs.declared.answer.Answer.{Answer}

cut_more : (octets : List ℕ) (lines : List (List ℕ)) (rest line next : List ℕ)
    → AreCut octets lines rest → rest ≢ [] → IsCut rest line next
    → AreCut octets (lines ++ line ∷ []) next
cut_more octets [] rest line next done some cut =
    subst (λ o. AreCut o (line ∷ []) next) (sym done) (some, next, cut, refl)
cut_more octets (first ∷ lines) rest line next done some cut =
    (done.0, done.1, done.2, cut_more done.1 lines rest line next done.3 some cut)

and_true : (b : Bool) → (b && true) ≡ b
and_true true = refl
and_true false = refl

good_more : (answers : List (Option Answer)) (answer : Option Answer)
    → list_all is_good (answers ++ answer ∷ []) ≡ (list_all is_good answers && is_good answer)
good_more answers answer =
    list_all-append is_good answers (answer ∷ [])
    ∙ ap (λ b. list_all is_good answers && b) (and_true (is_good answer))

text_more : (answers : List (Option Answer)) (answer : Option Answer)
    → flat_map printed_text (answers ++ answer ∷ [])
    ≡ flat_map printed_text answers ++ printed_text answer
text_more answers answer =
    flat_map-append printed_text answers (answer ∷ [])
    ∙ ap (λ text. flat_map printed_text answers ++ text) (append-nil (printed_text answer))

module _ {B : Type 0} (b : Ghosts B) (clients : ClientsFacts) (plans : List Plan) where
  answered_more : (lines : List (List ℕ)) (answers : List (Option Answer)) (old mid new : B)
      (line : List ℕ) (answer : Option Answer)
      → AnswersAll b clients plans lines answers old mid
      → AnswersLine b clients plans mid new line answer
      → AnswersAll b clients plans (lines ++ line ∷ [])
      (answers ++ answer ∷ []) old new
  answered_more [] [] old mid new line answer done one = (
    new,
    subst (λ x. AnswersLine b clients plans x new
        line answer) done one,
    refl,
  )
  answered_more [] (a ∷ answers) old mid new line answer done one = absurd done
  answered_more (l ∷ lines) [] old mid new line answer done one = absurd done
  answered_more (l ∷ lines) (a ∷ answers) old mid new line answer done one =
      (done.0, done.1, answered_more lines answers done.0 mid new line answer done.2 one)

  pub ran_none : (book : B) (input : List ℕ) (before : Option (List ℕ))
      → Ran b clients plans book book input input true before
      before
  ran_none book input before = record {
    lines = [];
    answers = [];
    cut = refl;
    answered = refl;
    printed = Appends-nil before;
    good_is = refl;
  }

  pub ran_more : (old mid new : B) (input rest line next : List ℕ) (good first : Bool)
      (before between after : Option (List ℕ))
      → Ran b clients plans old mid input rest good before
      between → rest ≢ [] → IsCut rest line next
      → Prints b clients plans mid new line first between
      after
      → Ran b clients plans old new input next
      (good && first) before after
  ran_more old mid new input rest line next good first before between after ran some cut one =
      record {
        lines = ran.lines ++ line ∷ [];
        answers = ran.answers ++ one.answer ∷ [];
        cut = cut_more input ran.lines rest line next ran.cut some cut;
        answered = answered_more ran.lines ran.answers old mid new line one.answer ran.answered
            one.answered;
        printed = subst (Appends before after) (sym (text_more ran.answers one.answer))
            (Appends-trans before between after _ _ ran.printed one.printed);
        good_is = subst₂ (λ a b. (good && first) ≡ (a && b)) ran.good_is one.good_is refl
            ∙ sym (good_more ran.answers one.answer);
      }

  ran_kept : (old new : B) (input rest : List ℕ) (good : Bool)
      (before between after : Option (List ℕ))
      → Ran b clients plans old new input rest good before
      between → Keeps between after
      → Ran b clients plans old new input rest good before
      after
  ran_kept old new input rest good before between after ran keeps = record {
    lines = ran.lines;
    answers = ran.answers;
    cut = ran.cut;
    answered = ran.answered;
    printed = Appends-kept before between after _ ran.printed keeps;
    good_is = ran.good_is;
  }

  -- What was answered over a new book is so after the writer was flushed.
  pub ran_afresh : (first last : B) (input : List ℕ) (before between after : Option (List ℕ))
      → b.is_open first × Stands plans (b.content first) []
      → Ran b clients plans first last input [] true before
      between → Keeps between after
      → RanAfresh b clients plans input before after
  ran_afresh first last input before between after is_new ran keeps = record {
    first = first;
    is_new = is_new;
    last = last;
    ran = ran_kept first last input [] true before between after ran keeps;
  }
