use Rattle.std.proofs.Common.{◌∙◌, ◌++◌, ◌≤◌, List, ap, sym, length, append-nil, map, min, rules}
use Rattle.core_facts.specs.Facts.{Fact}
use Rattle.fact_table.specs.Table.{fact_of}
use Rattle.plain_facts.proofs.Pairs.{facts_end}
use Rattle.plain_facts.proofs.lists.common_facts.Goals as goal

pub returns : goal.returns
returns c =
    let at_end : min (length c.args.a.now) (length c.args.b.now) ≤ c.loop-k.k = search rules in
    sym (append-nil (map fact_of c.loop-k.facts.items))
    ∙ ap (λ (fs : List Fact). map fact_of c.loop-k.facts.items ++ fs) (sym (facts_end c.args.a.now c.args.b.now c.loop-k.k at_end))
    ∙ c.loop-k.invariant
