use Rattle.std.proofs.Common.{◌≡◌, ◌≤◌, length, take, map, option_map}
use Rattle.std.specs.List.{slice_get}
use Rattle.httparse.specs.Spans.{header_bytes}
use Rattle.acct_desk.specs.Request.{values_of}
use Rattle.acct_desk.proofs.head.values_named.Given as goal

abbrev pub invariant-loop-header : goal.invariant-loop-header
invariant-loop-header l =
    (option_map (λ v. v.now) l.first
    ≡ slice_get (values_of l.name (map (header_bytes l.front) (take l.header-index l.headers)))
    0)
    × (l.count ≡ length (values_of l.name
    (map (header_bytes l.front) (take l.header-index l.headers))))
    × (l.count ≤ l.header-index)
