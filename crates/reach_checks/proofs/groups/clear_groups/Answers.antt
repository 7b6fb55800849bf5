use Rattle.std.proofs.Common.{ap, map, sym, ◌∙◌}
use Rattle.counted_code.specs.View.{code_program}
use Rattle.reach_checks.specs.Groups.{all_clear, clear_in, narrowed}
use Rattle.reach_checks.proofs.Closed.{closed_reaches_none, narrowed_stays}
use Rattle.reach_checks.proofs.groups.clear_groups.Goals as goal

pub returns-then-is_closed-clause-closed : goal.returns-then-is_closed-clause-closed
returns-then-is_closed-clause-closed c =
    let code = code_program c.args.code.now in
    closed_reaches_none code (clear_in c.loop-round.table.items)
    (sym (c.is_closed.ensures ∙ ap (λ t. all_clear code (clear_in t)) c.deref.ensures.value) ∙ c.if-is_closed.true)

pub loop-round-preserved : goal.loop-round-preserved
loop-round-preserved c =
    let code = code_program c.args.code.now in
    narrowed_stays code c.loop-round.table.items c.in_ok-table-2.table.items
    (c.in_ok-table-2.ensures ∙ ap (λ t. narrowed (clear_in t) code.functions 0 code.groups) c.deref-in-loop-round.ensures.value) c.loop-round.invariant
