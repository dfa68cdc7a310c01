use Rattle.std.proofs.Common.{take, map, refl, inl, inr, sym, subst, arith}
use Rattle.toml.specs.View.{view}
use Rattle.acct_site_config.proofs.EntryLemmas.{viewed, viewed_more}
use Rattle.acct_site_config.proofs.entries.entries_of.Goals as goal

pub returns-in-Err-clause-refused : goal.returns-in-Err-clause-refused
returns-in-Err-clause-refused g c =
    let value = c.index-tables-index in
    elim c.in-Err.ensures.refused [
      | inl memory ↦ inl memory
      | inr refused ↦ inr (record {
        in_table = refl;
        earlier = c.loop-index.entries;
        before = c.loop-index.invariant;
        here = view value.result;
        at = viewed c.args.tables.now c.loop-index.index value.result (omega arith) value.is;
        refused = refused;
      })
    ]

pub loop-index-preserved : goal.loop-index-preserved
loop-index-preserved g c =
    let value = c.index-tables-index in
    let i = c.loop-index.index in
    let tables = c.args.tables.now in
    subst (λ front. g.L.Entries.are_spelled front c.push_table.new.self)
    (sym (viewed_more tables i value.result (omega arith) value.is))
    (c.in_default.ensures.pushed (take i (map view tables)) c.loop-index.invariant)
