use Rattle.std.proofs.Common.{◌∙◌, sym}
use Rattle.core_ir.specs.View.{core_term}
use Rattle.sac_build.proofs.loop_turns.Turning.{turn_made}
use Rattle.sac_build.proofs.loop_turns.turns.one_turn.Goals as goal

pub returns : goal.returns
returns c =
    let dense = c.in_ok-dense.ensures in
    let normal = c.in_ok-normal.ensures in
    let single = c.in_ok-single.ensures in
    let merged = c.in_ok-merged.ensures in
    turn_made (core_term c.args.core) (core_term c.in_ok-dense.dense) (core_term c.in_ok-normal.normal) (core_term c.in_ok-single.single) (core_term c.in_ok-merged.merged) _ _ _ _
    (record { outside = dense.outside; well = dense.well; outcome = dense.outcome; steps = λ well. dense.term })
    (record { outside = normal.outside; well = normal.well; outcome = normal.outcome; steps = normal.steps })
    (record { outside = single.outside; well = single.well; outcome = single.outcome; steps = single.steps })
    (record { outside = merged.outside; well = merged.well; outcome = merged.outcome; steps = merged.steps })
    normal.normal single.unchanged single.none merged.same merged.none (sym (c.len.ensures ∙ c.in_ok-single.log.folds.ok.0))
