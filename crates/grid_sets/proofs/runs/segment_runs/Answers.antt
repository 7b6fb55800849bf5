use Rattle.std.proofs.Common.{arith, ◌≡◌, ◌∙◌, pos, ap, subst, sym}
use Rattle.std.specs.Prelude.{ℤ, ◌≤ℤ◌, ◌<ℤ◌, ◌-ℤ◌, ◌+ℤ◌, unsigned_abs, true, slice_index_or}
use Rattle.std.specs.List.{All}
use Rattle.std.proofs.lemmas.Int.{ints}
use Rattle.grid_sets.specs.Segments.{alike, run_count, IsRun}
use Rattle.grid_sets.proofs.Cuts.{all_narrower}
use Rattle.grid_sets.proofs.Cutting.{split_more, even_more, split_all, width_is, at_distance}
use Rattle.grid_sets.proofs.Repeating.{Repeats, clear_repeats}
use Rattle.grid_sets.proofs.RunCounts.{run_counted, same_places, begins_next}
use Rattle.grid_sets.proofs.runs.segment_runs.Goals as goal

pub first_run-run-requires-clause-clear : goal.first_run-run-requires-clause-clear
first_run-run-requires-clause-clear c =
    all_narrower c.args.grids.now c.args.segment.now.from c.args.segment.now.to c.loop-rest.rest.from c.loop-rest.rest.to c.loop-rest.invariant.low c.loop-rest.invariant.inside c.requires.clear

pub loop-rest-preserved : goal.loop-rest-preserved
loop-rest-preserved c =
    let before = c.loop-rest.invariant in
    let run = c.first_run-run.ensures in
    let from : ℤ = c.args.segment.now.from in
    let low : c.args.segment.now.from ≤ℤ c.loop-rest.rest.from = before.low in
    let some : c.loop-rest.rest.from <ℤ c.first_run-run.result.to = run.some in
    let width = width_is c.args.segment.now.from c.loop-rest.rest.from c.first_run-run.result.to low some in
    let repeats : All (Repeats c.args.segment.now.from c.args.segment.now.to c.args.period) c.args.grids.now = λ k d l.
    clear_repeats (slice_index_or c.args.grids.now k d) c.args.segment.now.from c.args.segment.now.to c.args.period (slice_index_or c.args.grids.now k d).steps (slice_index_or c.args.grids.now k d).wide c.requires.positive (c.requires.clear k d l) (c.requires.multiple k d l) in
    let members = subst (λ z. IsRun c.args.segment.now.from c.args.segment.now.to c.args.period (unsigned_abs (z -ℤ c.args.segment.now.from)) (unsigned_abs (c.first_run-run.result.to -ℤ c.args.segment.now.from)) c.repeated.result)
    run.from c.repeated.ensures.members in
    let same = same_places c.args.grids.now c.args.segment.now.from c.loop-rest.rest.from c.first_run-run.result.to low some run.same in
    rw (c.behind-rest.ensures.from, c.behind-rest.ensures.to) (record {
      low = omega (arith, ints);
      high = run.low;
      inside = before.inside;
      near = before.near;
      split = split_more c.loop-rest.pieces.items c.push.new.self.items c.repeated.result c.args.segment.now.from c.args.segment.now.to c.args.period
          (unsigned_abs (c.loop-rest.rest.from -ℤ c.args.segment.now.from)) (unsigned_abs (c.first_run-run.result.to -ℤ c.args.segment.now.from))
          c.in_ok-push.ensures.items width.0 before.split members;
      even = even_more c.args.grids.now c.loop-rest.pieces.items c.push.new.self.items c.repeated.result c.args.segment.now.from c.args.segment.now.to c.args.period
          (unsigned_abs (c.loop-rest.rest.from -ℤ c.args.segment.now.from)) (unsigned_abs (c.first_run-run.result.to -ℤ c.args.segment.now.from))
          c.in_ok-push.ensures.items repeats
          (λ k h l. subst (λ z. alike c.args.grids.now z (c.args.segment.now.from +ℤ pos k) ≡ true) (sym (c.repeated.ensures.lo ∙ run.from)) (same k h l))
          members before.even;
      counted = run_counted c.args.grids.now c.loop-rest.pieces.items c.push.new.self.items c.repeated.result c.args.segment.now.from
          (unsigned_abs (c.loop-rest.rest.from -ℤ c.args.segment.now.from)) (unsigned_abs (c.first_run-run.result.to -ℤ c.args.segment.now.from))
          c.in_ok-push.ensures.items width.0 (before.begins (omega (arith, ints)))
          (λ k h l. subst (λ z. alike c.args.grids.now z (c.args.segment.now.from +ℤ pos k) ≡ true) (at_distance c.args.segment.now.from c.loop-rest.rest.from low) (same k h l))
          before.counted;
      begins = begins_next c.args.grids.now c.args.segment.now.from c.loop-rest.rest.from c.first_run-run.result.to c.loop-rest.rest.to low some run.same run.change;
    })

pub returns-clause-split : goal.returns-clause-split
returns-clause-split c =
    let before = c.loop-rest.invariant in
    let end : c.loop-rest.rest.from ≡ c.loop-rest.rest.to = omega (arith, ints) in
    split_all c.loop-rest.pieces.items c.args.segment.now.from c.args.segment.now.to c.args.period (unsigned_abs (c.loop-rest.rest.from -ℤ c.args.segment.now.from))
    c.requires.positive (ap (λ z. unsigned_abs (z -ℤ c.args.segment.now.from)) end ∙ before.near) before.split

pub returns-clause-count : goal.returns-clause-count
returns-clause-count c =
    let before = c.loop-rest.invariant in
    let end : c.loop-rest.rest.from ≡ c.loop-rest.rest.to = omega (arith, ints) in
    before.counted ∙ ap (run_count c.args.grids.now c.args.segment.now.from) (ap (λ z. unsigned_abs (z -ℤ c.args.segment.now.from)) end ∙ before.near)
