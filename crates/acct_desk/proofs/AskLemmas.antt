-- What octets ask for, by the front that is searched for a head, and bodies as JSON.
use Rattle.std.proofs.Common.{◌≡◌, ◌≤◌, ℕ, min, Bool, true, false, cond, Option, Some, None, map}
use Rattle.std.proofs.Common.{List, length, take, refl, ap, sym, ◌∙◌}
use Rattle.std.specs.Str.{is_utf8}
use Rattle.std.proofs.lemmas.Str.{IsUtf8-from_is_utf8, is_utf8-from_IsUtf8}
use Rattle.httparse.specs.Spans.{header_bytes, span_bytes}
use Rattle.httparse.specs.declared.spans.HeaderSpan.{HeaderSpan}
use Rattle.httparse.specs.declared.spans.RequestSpans.{RequestSpans}
use Rattle.serde_json.specs.Data.{Data}
use Rattle.serde_json.specs.Read as json
use Rattle.acct_model.specs.declared.plan.Plan.{Plan}
use Rattle.acct_desk.specs.Keys.{KeysFacts}
use Rattle.acct_desk.specs.inner.Head.{IsHeadAt, HasNoHead}
use Rattle.acct_desk.specs.Asks.{Ask, Asks, ask_of, ask_of_fields, json_of}
use Rattle.acct_desk.specs.TopUpBodies.{IsJson}
use Rattle.acct_desk.proofs.FramingLemmas.{head_begins, no_head, IsHeadOf_unique}

-- ---- JSON

json_cases : (b : Bool) (body : List ℕ) (value : Option Data) → is_utf8 body ≡ b → IsJson body value
    → value ≡ cond b (json.read body) None
json_cases true body (Some value) is h = sym h.1
json_cases true body None is h = sym (h (IsUtf8-from_is_utf8 body is))
json_cases false body (Some value) is h =
    absurd (let t : is_utf8 body ≡ true = is_utf8-from_IsUtf8 body h.0 in cc)
json_cases false body None is h = refl

pub json_of-IsJson : (body : List ℕ) (value : Option Data) → IsJson body value
    → value ≡ json_of body
json_of-IsJson body value h = json_cases (is_utf8 body) body value refl h

-- ---- what the octets ask for

asks_at : (keys : KeysFacts) (plans : List Plan) (request : List ℕ) (moment n : ℕ) (headers : List HeaderSpan)
    (spans : RequestSpans) (ask : Ask)
    → n ≤ 8192 → IsHeadAt (take n request) headers spans
    → ask ≡ ask_of_fields keys plans request moment spans.len (span_bytes (take n request) spans.path)
    (span_bytes (take n request) spans.method)
    (map (header_bytes (take n request)) (take spans.headers headers))
    → Asks keys plans request moment ask
asks_at keys plans request moment n headers spans ask small at is = (
  Some at.head,
  head_begins n request headers spans small at,
  is
      ∙ rw (at.is_at.len, at.is_at.fields, at.is_at.path, at.is_at.method) refl,
)

pub asks_at_front : (keys : KeysFacts) (plans : List Plan) (request front : List ℕ) (moment n : ℕ)
    (headers : List HeaderSpan) (spans : RequestSpans) (ask : Ask)
    → front ≡ take n request → n ≤ 8192 → IsHeadAt front headers spans
    → ask ≡ ask_of_fields keys plans request moment spans.len (span_bytes front spans.path)
    (span_bytes front spans.method) (map (header_bytes front) (take spans.headers headers))
    → Asks keys plans request moment ask
asks_at_front keys plans request front moment n headers spans ask is small at asked =
    asks_at keys plans request moment n headers spans ask small (rw is at at) (rw is at asked)

pub asks_without_front : (keys : KeysFacts) (plans : List Plan) (request front : List ℕ) (moment n : ℕ) (ask : Ask)
    → front ≡ take n request → n ≡ min (length request) 8192
    → HasNoHead front → ask ≡ ask_of keys plans request moment None → Asks keys plans request moment ask
asks_without_front keys plans request front moment n ask is bound none asked =
    (None, no_head n request bound (rw is at none), asked)

-- octets with a head ask for something
pub something_asked : (keys : KeysFacts) (plans : List Plan) (request front : List ℕ) (moment n : ℕ)
    (headers : List HeaderSpan) (spans : RequestSpans)
    → front ≡ take n request → n ≤ 8192 → IsHeadAt front headers spans
    → (ask : Ask) × Asks keys plans request moment ask
something_asked keys plans request front moment n headers spans is small at =
    (_, asks_at_front keys plans request front moment n headers spans _ is small at refl)

-- a request asks for one thing
pub one_ask : (keys : KeysFacts) (plans : List Plan) (request : List ℕ) (moment : ℕ) (one other : Ask)
    → Asks keys plans request moment one → Asks keys plans request moment other → one ≡ other
one_ask keys plans request moment one other x y =
    x.2 ∙ ap (ask_of keys plans request moment) (IsHeadOf_unique request x.0 y.0 x.1 y.1) ∙ sym y.2
