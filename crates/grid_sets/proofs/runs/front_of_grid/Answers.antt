use Rattle.std.proofs.Common.{rules, arith, ◌≡◌, ◌≤◌, inl, inr, subst, pos}
use Rattle.std.specs.Prelude.{◌≤ℤ◌, ◌<ℤ◌, ◌-ℤ◌, unsigned_abs, true, min}
use Rattle.std.proofs.lemmas.Int.{ints}
use Rattle.grid_sets.specs.Segments.{spans}
use Rattle.grid_sets.proofs.RunEnds.{whole_same, front_same, front_change, spans_parts}
use Rattle.grid_sets.proofs.runs.front_of_grid.Goals as goal
use Rattle.grid_sets.proofs.runs.front_of_grid.Goals.{then-not-is_spanning-via-then-not-is_spanning, then-not-is_spanning-via-else-not-is_spanning+then-grid}

pub returns-then-not-is_spanning-clause-same : goal.returns-then-not-is_spanning-clause-same
returns-then-not-is_spanning-clause-same c x at =
    let step : pos 1 ≤ℤ c.args.grid.now.step = search rules in
    let wide : pos 1 ≤ℤ c.args.grid.now.width = search rules in
    elim c.then-not-is_spanning.branch [
      | then-not-is_spanning-via-then-not-is_spanning w ↦
          whole_same c.args.grid.now c.args.segment.now.from c.args.segment.now.to x step wide c.requires.some c.requires.clear (inl (search rules)) at
      | then-not-is_spanning-via-else-not-is_spanning+then-grid w ↦
          whole_same c.args.grid.now c.args.segment.now.from c.args.segment.now.to x step wide c.requires.some c.requires.clear (inr (search rules)) at
    ]

pub returns-clause-same : goal.returns-clause-same
returns-clause-same c x at =
    let wide : pos 1 ≤ℤ c.args.grid.now.width = search rules in
    let narrow : c.args.grid.now.width <ℤ c.args.grid.now.step = omega (arith, ints) in
    let spanning : spans c.args.grid.now c.args.segment.now.from c.args.segment.now.to ≡ true = search rules in
    let parts = spans_parts c.args.grid.now c.args.segment.now.from c.args.segment.now.to spanning in
    let gap = c.steps_to_change.ensures in
    let near = c.first_numbers.ensures.near in
    front_same c.args.grid.now c.args.segment.now.from c.args.segment.now.to c.first_numbers.result.to x wide narrow parts.0 parts.1 c.first_numbers.ensures.low
    (subst (λ n. unsigned_abs (c.first_numbers.result.to -ℤ c.args.segment.now.from) ≤ n) gap (omega arith)) at

pub returns-clause-change : goal.returns-clause-change
returns-clause-change c =
    let wide : pos 1 ≤ℤ c.args.grid.now.width = search rules in
    let narrow : c.args.grid.now.width <ℤ c.args.grid.now.step = omega (arith, ints) in
    let spanning : spans c.args.grid.now c.args.segment.now.from c.args.segment.now.to ≡ true = search rules in
    let parts = spans_parts c.args.grid.now c.args.segment.now.from c.args.segment.now.to spanning in
    front_change c.args.grid.now c.args.segment.now.from c.args.segment.now.to c.first_numbers.result.to wide narrow parts.0 parts.1 c.requires.some
    (omega (arith, ints)) c.first_numbers.ensures.low
    (subst (λ n. unsigned_abs (c.first_numbers.result.to -ℤ c.args.segment.now.from) ≡ min (unsigned_abs (c.args.segment.now.to -ℤ c.args.segment.now.from)) n) c.steps_to_change.ensures c.first_numbers.ensures.near)
