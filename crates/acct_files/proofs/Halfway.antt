-- An import in the middle of a text.
use Rattle.std.proofs.Common.{◌≡◌, ◌≤◌, ◌+◌, ℕ, inl, inr, true, false, List, [], ◌∷◌, ◌++◌, length}
use Rattle.std.proofs.Common.{Option, Some, None, Ok, Err, refl, sym, ◌∙◌, subst, arith}
use Rattle.std.specs.Prelude.{IfSome, IsTrue}
use Rattle.std.proofs.lemmas.List.{length-append}
use Rattle.csv.specs.Reading.{ReadRecord, default_config, reader_config, reader_state}
use Rattle.csv.specs.declared.parser.State.TheVariants as st
use Rattle.csv.specs.declared.reader.Reader.{Reader}
use Rattle.csv.proofs.ReadFacts.{rows-end, rows-more}
use Rattle.acct_model.specs.declared.plan.Plan.{Plan}
use Rattle.acct_model.specs.Vouchers.{TopUpFacts}
use Rattle.acct_model.specs.History.{History}
use Rattle.acct_book.specs.declared.book.Book.{Ghosts}
use Rattle.acct_book.specs.Effect.{Effect, after_effect}
use Rattle.acct_book.specs.Step.{StoodFor, Does}
use Rattle.acct_files.specs.declared.import_report.Stopped.{Stopped}
use Rattle.acct_files.specs.declared.import_report.Stopped.TheVariants.{BadHeader, Unreadable}
use Rattle.acct_files.specs.declared.import_report.Stopped.TheVariants.{Unavailable, Memory}
use Rattle.acct_files.specs.declared.import_report.Stopped.TheVariants.{TooMany}
use Rattle.acct_files.specs.declared.import_report.ImportReport.{ImportReport}
use Rattle.acct_files.specs.declared.import_report.Outcome.{Outcome}
use Rattle.acct_files.specs.Vouchers.{Fields, asked_by, is_header}
use Rattle.acct_files.specs.Importing.{Imported, Imports, CountsLines, Begin}
use Rattle.acct_files.specs.Importing.{AreTaken, Moves, is_refused}
use Rattle.acct_files.specs.inner.Importing.{Did}
use Rattle.acct_files.specs.inner.Reading.{HasRead, HasReadHeader, IsHeaderStop, IsReadStop}
use Rattle.acct_files.proofs.Counting.{run_more, run_length}
use Rattle.acct_files.proofs.Offers.{stayed, moved_on, moved_muted, moved_failed, refused_stays}

if_some : {X : Type 0} (o : Option X) (P Q : X → Type 0) → ((x : X) → P x → Q x) → IfSome o P
    → IfSome o Q
if_some None P Q f h = tt
if_some (Some x) P Q f h = f x h

always : {X : Type 0} (o : Option X) {P : X → Type 0} → ((x : X) → P x) → IfSome o P
always None f = tt
always (Some x) f = f x

module _ {B R : Type 0} (b : Ghosts B) (remaining : R → Option (List ℕ))
    (plans : List Plan) (moment : ℕ) (text : Option (List ℕ)) (history : History) where
  -- the header and the records before the one of this number were taken
  pub record Halfway (reader : Reader R) (number : ℕ) (report : ImportReport) (old new : B) : Type 0
    where
      pub after : History
      pub rows : List Fields
      pub outcomes : List Outcome
      pub run : Imported plans moment history rows outcomes after
      pub counts : CountsLines outcomes report
      pub counted : number ≡ length rows + 2
      pub header : Fields
      pub is_head : is_header header ≡ true
      pub read : HasRead remaining text (header ∷ rows) reader
      pub moves : Moves b plans history after None old new

  moves_then : (mid after : History) (tried : Option TopUpFacts) (old now new : B)
      → Moves b plans history mid None old now
      → Moves b plans mid after tried now new
      → Moves b plans history after tried old new
  moves_then mid after tried old now new first second =
      record {
        stands = second.stands;
        leaves = λ stood. second.leaves
            (λ x l. first.leaves stood x l);
      }

  pub at_start : (reader : Reader R) (report : ImportReport) (book : B)
      → HasReadHeader remaining text reader → CountsLines [] report
      → StoodFor b plans book history
      → Halfway reader 2 report book book
  at_start reader report book (header, is_head, read) counts stands = record {
    after = history;
    rows = [];
    outcomes = [];
    run = refl;
    counts = counts;
    counted = refl;
    header = header;
    is_head = is_head;
    read = read;
    moves = stayed b plans history book stands;
  }

  read_more : (rows : List Fields) (fields : Fields) (x y : Reader R)
      → reader_config x ≡ default_config → ReadRecord remaining x y true fields
      → HasRead remaining text rows x → HasRead remaining text (rows ++ fields ∷ []) y
  read_more rows fields x y config took read =
      if_some text _ _ (λ t (rest, there, reached). rows-more remaining x y fields default_config
      st.StartRecord t rest rows config there reached took) read

  pub more : (x y : Reader R) (number next : ℕ) (report later : ImportReport) (old mid new : B)
      (fields : Fields) (outcome : Outcome) (effect : Effect)
      → (half : Halfway x number report old mid) → next ≡ number + 1
      → reader_config x ≡ default_config → ReadRecord remaining x y true fields
      → Did moment fields (Ok outcome) effect → Does b plans mid new effect → b.is_sound new
      → ((outcomes : List Outcome) → CountsLines outcomes report → number ≡ length outcomes + 2
      → CountsLines (outcomes ++ outcome ∷ []) later)
      → Halfway y next later old new
  more x y number next report later old mid new fields outcome effect half same config took did
      does sound counts =
      let lengths = run_length plans moment history half.after half.rows half.outcomes half.run in
      record {
        after = after_effect half.after effect;
        rows = half.rows ++ fields ∷ [];
        outcomes = half.outcomes ++ outcome ∷ [];
        run = run_more plans moment history half.after half.rows half.outcomes fields outcome effect
            half.run did (does.holds sound half.after half.moves.stands);
        counts = counts half.outcomes half.counts (omega (arith, half.counted, lengths));
        counted = omega (arith, half.counted, length-append half.rows (fields ∷ []));
        header = half.header;
        is_head = half.is_head;
        read = read_more (half.header ∷ half.rows) fields x y config took half.read;
        moves = moves_then half.after (after_effect half.after effect) None old mid new half.moves
            (moved_on b plans half.after mid new moment fields outcome effect did does sound
            half.moves.stands);
      }

  abbrev Import : Option Stopped → ImportReport → B → B → Type 0
  Import stopped report old new =
      Imports b plans moment text history stopped report old new

  -- the text ended
  pub ended : (x y : Reader R) (number : ℕ) (report : ImportReport) (old new : B) (fields : Fields)
      → Halfway x number report old new → number ≤ 1000002
      → reader_config x ≡ default_config → ReadRecord remaining x y false fields
      → Import None report old new
  ended x y number report old new fields half few config took = record {
    after = half.after;
    tried = None;
    rows = half.rows;
    outcomes = half.outcomes;
    run = half.run;
    counts = half.counts;
    taken = if_some text _ _ (λ t (rest, there, reached). (
      (
        half.header,
        half.is_head,
        (
          reader_state x,
          rest,
          reached,
          rows-end remaining x y fields default_config rest config
              there took,
        ),
      ),
      omega (arith, half.counted),
    )) half.read;
    only = tt;
    moves = half.moves;
  }

  begin : (rows : List Fields) (reader : Reader R) (header : Fields) → is_header header ≡ true
      → HasRead remaining text (header ∷ rows) reader → IfSome text (λ t. Begin t rows)
  begin rows reader header is_head read =
      if_some text _ _ (λ t (rest, there, reached).
      (header, is_head, reader_state reader, rest, reached)) read

  -- a read failed
  pub unread : (reader : Reader R) (number : ℕ) (report : ImportReport) (old new : B)
      (stopped : Stopped) → Halfway reader number report old new → IsReadStop stopped
      → Import (Some stopped) report old new
  unread reader number report old new stopped half why = record {
    after = half.after;
    tried = None;
    rows = half.rows;
    outcomes = half.outcomes;
    run = half.run;
    counts = half.counts;
    taken = let begun = begin half.rows reader half.header half.is_head half.read in
        if_some text _ _ (λ t b. elim why [
          | inl same ↦ subst (λ s. AreTaken moment t (Some s) None half.rows) (sym same) (inr b)
          | inr same ↦ subst (λ s. AreTaken moment t (Some s) None half.rows) (sym same) (inr b)
        ]) begun;
    only = tt;
    moves = half.moves;
  }

  -- a record stopped the import
  pub stopped_at : (x y : Reader R) (number : ℕ) (report : ImportReport) (old mid new : B)
      (fields : Fields) (stopped : Stopped) (effect : Effect)
      → (half : Halfway x number report old mid) → reader_config x ≡ default_config
      → ReadRecord remaining x y true fields
      → Did moment fields (Err stopped) effect → Does b plans mid new effect → b.is_sound new
      → Import (Some stopped) report old new
  stopped_at x y number report old mid new fields BadHeader effect half config took did does sound
      = absurd did
  stopped_at x y number report old mid new fields Unreadable effect half config took did does sound
      = absurd did
  stopped_at x y number report old mid new fields TooMany effect half config took did does sound =
      absurd did
  stopped_at x y number report old mid new fields Unavailable effect half config took
      (topup, asked, is) does sound = record {
        after = half.after;
        tried = Some topup;
        rows = half.rows;
        outcomes = half.outcomes;
        run = half.run;
        counts = half.counts;
        taken = if_some text _ _ (λ t begun. (topup, refl, fields, asked, begun))
            (begin (half.rows ++ fields ∷ []) y half.header half.is_head
            (read_more (half.header ∷ half.rows) fields x y config took half.read));
        only = refl;
        moves = moves_then half.after half.after (Some topup) old mid new half.moves
            (moved_failed b plans half.after mid new topup effect is does sound half.moves.stands);
      }
  stopped_at x y number report old mid new fields Memory effect half config took is does sound =
      record {
        after = half.after;
        tried = None;
        rows = half.rows;
        outcomes = half.outcomes;
        run = half.run;
        counts = half.counts;
        taken = if_some text _ _ (λ t begun. inr begun)
            (begin half.rows x half.header half.is_head half.read);
        only = tt;
        moves = moves_then half.after half.after None old mid new half.moves
            (moved_muted b plans half.after mid new effect is does sound half.moves.stands);
      }

  -- a refused record could not be kept
  pub uncounted : (x : Reader R) (number : ℕ) (report : ImportReport) (old mid new : B)
      (fields : Fields) (outcome : Outcome) (effect : Effect)
      → (half : Halfway x number report old mid) → IsTrue (is_refused outcome)
      → Did moment fields (Ok outcome) effect → Does b plans mid new effect → b.is_sound new
      → Import (Some Memory) report old new
  uncounted x number report old mid new fields outcome effect half refused did does sound = record {
    after = half.after;
    tried = None;
    rows = half.rows;
    outcomes = half.outcomes;
    run = half.run;
    counts = half.counts;
    taken = if_some text _ _ (λ t begun. inr begun)
        (begin half.rows x half.header half.is_head half.read);
    only = tt;
    moves = moves_then half.after half.after None old mid new half.moves
        (subst (λ h. Moves b plans half.after h None mid new)
        (refused_stays half.after (asked_by moment fields) outcome effect refused did)
        (moved_on b plans half.after mid new moment fields outcome effect did does sound
        half.moves.stands));
  }

  -- there is a record past the last
  pub too_many : (x y : Reader R) (number : ℕ) (report : ImportReport) (old new : B)
      (fields : Fields) → Halfway x number report old new → number ≡ 1000002
      → reader_config x ≡ default_config → ReadRecord remaining x y true fields
      → Import (Some TooMany) report old new
  too_many x y number report old new fields half last config took = record {
    after = half.after;
    tried = None;
    rows = half.rows;
    outcomes = half.outcomes;
    run = half.run;
    counts = half.counts;
    taken = if_some text _ _ (λ t b. (omega (arith, half.counted, last), fields, b))
        (begin (half.rows ++ fields ∷ []) y half.header half.is_head
        (read_more (half.header ∷ half.rows) fields x y config took half.read));
    only = tt;
    moves = half.moves;
  }

  -- the text was given up at its header
  pub beheaded : (report : ImportReport) (book : B) (stopped : Stopped) → CountsLines [] report
      → StoodFor b plans book history → IsHeaderStop text stopped
      → Import (Some stopped) report book book
  beheaded report book stopped counts stands why = record {
    after = history;
    tried = None;
    rows = [];
    outcomes = [];
    run = refl;
    counts = counts;
    taken = elim why [
      | inl (inl same) ↦ subst (λ s. IfSome text (λ t. AreTaken moment t (Some s) None []))
          (sym same) (always text (λ t. inl refl))
      | inl (inr same) ↦ subst (λ s. IfSome text (λ t. AreTaken moment t (Some s) None []))
          (sym same) (always text (λ t. inl refl))
      | inr (same, bare) ↦ subst (λ s. IfSome text (λ t. AreTaken moment t (Some s) None []))
          (sym same) (if_some text _ _ (λ t b. (refl, b)) bare)
    ];
    only = tt;
    moves = stayed b plans history book stands;
  }

-- the same run, of a report that counts the same
pub recounted : {B : Type 0} (b : Ghosts B) (plans : List Plan) (moment : ℕ)
    (text text' : Option (List ℕ))
    (history : History)
    (stopped stopped' : Option Stopped) (report report' : ImportReport) (old new : B) → text ≡ text'
    → stopped ≡ stopped'
    → report'.added ≡ report.added → report'.repeated ≡ report.repeated
    → report'.refused ≡ report.refused
    → Imports b plans moment text history stopped report old new
    → Imports b plans moment text' history stopped' report' old new
recounted b plans moment text text' history stopped stopped' report report' old
    new same_text same_stop one two three run = record {
      after = run.after;
      tried = run.tried;
      rows = run.rows;
      outcomes = run.outcomes;
      run = run.run;
      counts =
          record {
            added = one ∙ run.counts.added;
            repeated = two ∙ run.counts.repeated;
            refused = three
                ∙ run.counts.refused;
          };
      taken = rw (← same_text, ← same_stop) run.taken;
      only = rw (← same_stop) run.only;
      moves = run.moves;
    }
