use Rattle.std.proofs.Common.{rules, ◌≡◌, ◌∙◌, ◌+◌, ◌-◌, ◌<◌, [], None, ap, sym, subst, arith}
use Rattle.array_with_loops.specs.Ranges.{moved_last}
use Rattle.loop_code.specs.Runs.{HoldsAlong}
use Rattle.phase_loop_cells.specs.Cells.{index_at}
use Rattle.phase_loop_cells.specs.Ranges.{AreAll}
use Rattle.run_loops.specs.Loops.{held_body}
use Rattle.phase_loop_cells.proofs.Walking.{held_along}
use Rattle.phase_loop_cells.proofs.walk.run_from.Goals as goal

pub returns : goal.returns
returns c = λ p le lt.
    let a = c.args in
    let source = a.source.now in
    let plan = a.plan.now in
    let run = c.run_at-run.result in
    let j = p - a.position in
    let here : a.position + j ≡ p = omega (arith, le) in
    let within : j < run.count = omega (arith, le, lt) in
    let short : j < c.row_left-most.result = omega (arith, within, c.run_at-run.ensures.most) in
    let known : run.place ≡ None → AreAll source a.made.now = search rules in
    let along = subst (λ rs. HoldsAlong rs a.index.now run.place run.count) c.source_ranges.ensures c.run_at-run.ensures.holds in
    let index : index_at plan.frame p ≡ moved_last j a.index.now = ap (index_at plan.frame) (sym here) ∙ c.row_left-most.ensures.along j [] [] short ∙ ap (moved_last j) (sym c.requires.index) in
    ap (held_body source plan.ranges.items) index ∙ held_along source plan a.made.now c.requires.made a.index.now run.place known run.count along j within
