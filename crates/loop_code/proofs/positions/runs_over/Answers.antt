use Rattle.std.proofs.Common.{sym, subst, arith}
use Rattle.loop_code.proofs.Covering.{AreRunsBefore, all_runs, no_runs, runs_more}
use Rattle.loop_code.proofs.positions.runs_over.Goals as goal

pub loop-place-init : goal.loop-place-init
loop-place-init c = no_runs c.args.indices.now c.args.parts.now c.new-rows.result.items c.new-rows.ensures.items

pub loop-place-preserved : goal.loop-place-preserved
loop-place-preserved c =
    let run = c.in_ok-run.ensures in
    subst (AreRunsBefore c.args.indices.now c.args.parts.now _) (sym c.in_ok-push_run.ensures)
    (runs_more c.args.indices.now c.args.parts.now c.loop-place.place _ c.loop-place.rows.items _ c.loop-place.invariant run.some run.inside run.from)

pub loop-place-smaller : goal.loop-place-smaller
loop-place-smaller c = omega (arith, c.loop-place-test.true, c.count.ensures, c.in_ok-run.ensures.some)

pub returns : goal.returns
returns c = all_runs c.args.indices.now c.args.parts.now c.loop-place.place c.loop-place.rows.items (omega (arith, c.loop-place-test.false, c.count.ensures)) c.loop-place.invariant
