use Rattle.std.proofs.Common.{sym, ◌∙◌}
use Rattle.core_ir.specs.View.{core_term}
use Rattle.wl_folding.proofs.Rounds.{ends_done, folded_itself, round_on}
use Rattle.wl_folding.proofs.Turns.{empty}
use Rattle.wl_folding.proofs.pass.rounds.Goals as goal

pub loop-round-init : goal.loop-round-init
loop-round-init c = folded_itself (core_term c.args.core) c.new-folds.result.items c.new-folds.ensures.items

pub returns-then-ended-clause-folded : goal.returns-then-ended-clause-folded
returns-then-ended-clause-folded c =
    round_on (core_term c.args.core) (core_term c.loop-round.core) (core_term c.in_ok-next.next) c.loop-round.folds.items c.in_ok-next.found.items _ c.loop-round.invariant c.in_ok-next.ensures c.in_ok-append.ensures.items

pub returns-then-ended-clause-none : goal.returns-then-ended-clause-none
returns-then-ended-clause-none c = ends_done (core_term c.loop-round.core) (core_term c.in_ok-next.next) c.in_ok-next.found.items c.in_ok-next.ensures
    (empty c.in_ok-next.found.len c.in_ok-next.found.items (sym c.is_empty-ended.ensures ∙ c.if-ended.true) c.in_ok-next.found.ok.0)

pub loop-round-preserved : goal.loop-round-preserved
loop-round-preserved c =
    round_on (core_term c.args.core) (core_term c.loop-round.core) (core_term c.in_ok-next.next) c.loop-round.folds.items c.in_ok-next.found.items _ c.loop-round.invariant c.in_ok-next.ensures c.in_ok-append.ensures.items
