use Rattle.std.proofs.Common.{refl, sym, ◌∙◌}
use Rattle.phase_checks.proofs.Orders.{all_left, next_there, opposite}
use Rattle.phase_checks.proofs.Taken.{taken_none, taken_more}
use Rattle.phase_checks.proofs.bags.take_all.Goals as goal

pub loop-x-init : goal.loop-x-init
loop-x-init c = taken_none c.args.xs.now c.args.refs.now.items

pub loop-x-preserved : goal.loop-x-preserved
loop-x-preserved c =
    taken_more c.args.refs.now.items c.args.xs.now c.loop-x.refs.items c.take_out.new.xs.items c.loop-x.x-index _ c.loop-x-test.true c.loop-x.invariant (sym c.take_out.ensures.was_there ∙ c.if-not-take_out.false) c.take_out.ensures.rest

pub returns-then-not-take_out-clause-converse : goal.returns-then-not-take_out-clause-converse
returns-then-not-take_out-clause-converse c rest all =
    absurd (opposite (c.take_out.ensures.was_there ∙ next_there c.args.refs.now.items c.args.xs.now c.loop-x.refs.items rest c.loop-x.x-index _ c.loop-x-test.true c.loop-x.invariant all) c.if-not-take_out.true)

pub returns-clause-converse : goal.returns-clause-converse
returns-clause-converse c rest all =
    (refl, all_left c.args.refs.now.items c.args.xs.now c.loop-x.refs.items rest c.loop-x.x-index c.loop-x-test.false c.loop-x.invariant all)
