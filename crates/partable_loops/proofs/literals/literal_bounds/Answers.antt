use Rattle.std.proofs.Common.{map, [], sym, subst, append-nil}
use Rattle.std.proofs.lemmas.List.{drop_all}
use Rattle.core_ir.specs.Terms.{gens_of}
use Rattle.core_ir.specs.View.{gen_term}
use Rattle.core_loops.specs.Loops.{AllLiteral}
use Rattle.fact_table.specs.Table.{facts_of}
use Rattle.partable_loops.proofs.literals.literal_bounds.Goals as goal

pub returns : goal.returns
returns c =
    let k = facts_of c.args.table.now in
    let gens = c.args.gens.now in
    subst (AllLiteral k (gens_of (map gen_term gens))) (append-nil c.loop-generator.bounds.items)
    (c.loop-generator.invariant.whole [] (subst (λ gs. AllLiteral k (gens_of (map gen_term gs)) []) (sym (drop_all c.loop-generator.generator-index gens c.loop-generator-test.false)) tt))
