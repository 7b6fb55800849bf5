use Rattle.std.proofs.Common.{◌∙◌}
use Rattle.counted_code.specs.Terms.{core_of_right}
use Rattle.counted_code.specs.View.{code_right_term}
use Rattle.fact_table.specs.Table.{facts_of}
use Rattle.plain_facts.specs.Rights.{fact_of_right}
use Rattle.buffer_reuse.specs.Rights.{one_told}
use Rattle.buffer_reuse.proofs.Unmarked.{plain_same}
use Rattle.buffer_reuse.proofs.rights.mark_plain.Goals as goal

pub returns-clause-known : goal.returns-clause-known
returns-clause-known c =
    let k = facts_of c.args.scope.now.facts in
    let fact = c.in_ok-known.ensures ∙ (λ j. fact_of_right (c.in_ok-core.ensures j) k) ∙ plain_same (core_of_right (code_right_term c.args.right.now)) k in
    c.in_ok-one_value.ensures ∙ (λ i. one_told (fact i) (c.plain_base.ensures i))
