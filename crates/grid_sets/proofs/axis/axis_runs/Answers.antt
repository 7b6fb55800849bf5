use Rattle.std.proofs.Common.{arith, ◌≡◌, ◌∙◌, ◌+◌, inl, subst, sym, refl, ap, length}
use Rattle.std.specs.List.{All}
use Rattle.std.proofs.lemmas.Int.{ints}
use Rattle.std.proofs.lemmas.List.Elements.{All-nil}
use Rattle.grid_sets.specs.Segments.{IsUniform, NoCut, IsFirstSegment, IsMultipleFor, IsPeriod, runs_of}
use Rattle.grid_sets.proofs.Axes.{stands_first, none_at, end_at, more_split, more_even, more_counted, leaves_all, leaves_more, leaves_fine, leaves_none, gap_less}
use Rattle.grid_sets.proofs.axis.axis_runs.Goals as goal

pub loop-rest-init : goal.loop-rest-init
loop-rest-init c = record {
  end = refl;
  low = omega (arith, ints);
  stands = stands_first c.args.axis.now.from c.args.axis.now.to;
  split = none_at c.new-pieces.result.items c.args.axis.now.from c.args.axis.now.from c.new-pieces.ensures.items (omega (arith, ints));
  even = subst (All (IsUniform c.args.grids.now)) (sym c.new-pieces.ensures.items) (All-nil (IsUniform c.args.grids.now));
  leaves = leaves_all c.args.grids.now c.args.axis.now.to c.args.axis.now.from c.args.limit (length c.new-pieces.result.items) (ap length c.new-pieces.ensures.items);
}

pub returns-in_default-clause-fine : goal.returns-in_default-clause-fine
returns-in_default-clause-fine c greatest runs count e =
    let before = c.loop-rest.invariant in
    let first = subst (λ z. IsFirstSegment c.loop-rest.rest.from z c.args.grids.now c.first_segment-segment.result.to) before.end c.first_segment-segment.ensures.first in
    leaves_fine c.args.grids.now c.args.axis.now.to c.args.axis.now.from c.loop-rest.rest.from c.first_segment-segment.result.to c.args.limit (length c.loop-rest.pieces.items) greatest runs
    (omega (arith, ints)) first
    (λ k some all. c.in_default.ensures.none refl k some
    (subst (λ z. All (IsMultipleFor k z c.first_segment-segment.result.to) c.args.grids.now) (sym c.first_segment-segment.ensures.from) all))
    before.leaves count

pub returns-in_default-clause-too_fine : goal.returns-in_default-clause-too_fine
returns-in_default-clause-too_fine c e =
    let first = c.first_segment-segment.ensures.first in
    let some = first.some in
    record {
      from = c.first_segment-segment.result.from;
      to = c.first_segment-segment.result.to;
      some = omega (arith, ints, c.first_segment-segment.ensures.from);
      clear = subst (λ z. All (NoCut z c.first_segment-segment.result.to) c.args.grids.now) (sym c.first_segment-segment.ensures.from) first.clear;
      above = c.in_default.ensures.none refl;
    }

pub append_runs-requires-clause-clear : goal.append_runs-requires-clause-clear
append_runs-requires-clause-clear c =
    subst (λ z. All (NoCut z c.first_segment-segment.result.to) c.args.grids.now) (sym c.first_segment-segment.ensures.from) c.first_segment-segment.ensures.first.clear

pub loop-rest-smaller : goal.loop-rest-smaller
loop-rest-smaller c =
    let first = c.first_segment-segment.ensures.first in
    gap_less c.loop-rest.rest.from c.first_segment-segment.result.to c.loop-rest.rest.to c.behind-rest.result.from c.behind-rest.result.to
    c.behind-rest.ensures.from c.behind-rest.ensures.to first.some first.inside

pub loop-rest-preserved : goal.loop-rest-preserved
loop-rest-preserved c =
    let before = c.loop-rest.invariant in
    let from : c.first_segment-segment.result.from ≡ c.loop-rest.rest.from = c.first_segment-segment.ensures.from in
    let first = subst (λ z. IsFirstSegment c.loop-rest.rest.from z c.args.grids.now c.first_segment-segment.result.to) before.end c.first_segment-segment.ensures.first in
    let some = first.some in
    let inside = first.inside in
    let found = c.in-Some.ensures.found in
    let period = subst (λ z. IsPeriod z c.first_segment-segment.result.to c.args.grids.now c.in-Some.period) from found.0 in
    let made = more_counted c.args.grids.now c.loop-rest.pieces.items c.append_runs.new.pieces.items _ _ c.in-Ok.ensures
    ∙ ap (λ z. length c.loop-rest.pieces.items + runs_of c.args.grids.now z c.first_segment-segment.result.to c.in-Some.period) from in
    rw (c.behind-rest.ensures.from, c.behind-rest.ensures.to) (record {
      end = before.end;
      low = omega (arith, ints);
      stands = inl (omega (arith, ints));
      split = more_split c.args.grids.now c.loop-rest.pieces.items c.append_runs.new.pieces.items _ c.args.axis.now.from c.loop-rest.rest.from _ _ from before.low (omega (arith, ints)) before.split c.in-Ok.ensures;
      even = more_even c.args.grids.now c.loop-rest.pieces.items c.append_runs.new.pieces.items _ _ before.even c.in-Ok.ensures;
      leaves = leaves_more c.args.grids.now c.args.axis.now.to c.args.axis.now.from c.loop-rest.rest.from c.first_segment-segment.result.to c.args.limit
          (length c.loop-rest.pieces.items) (length c.append_runs.new.pieces.items) c.in-Some.period (omega (arith, ints)) first period found.1 made before.leaves;
    })

pub returns-clause-split : goal.returns-clause-split
returns-clause-split c =
    let before = c.loop-rest.invariant in
    end_at c.loop-rest.pieces.items c.args.axis.now.from c.loop-rest.rest.from c.args.axis.now.to (omega (arith, ints, before.end)) before.stands before.split

pub returns-clause-count : goal.returns-clause-count
returns-clause-count c greatest runs count =
    let before = c.loop-rest.invariant in
    leaves_none c.args.grids.now c.args.axis.now.to c.args.axis.now.from c.loop-rest.rest.from c.args.limit (length c.loop-rest.pieces.items) greatest runs
    (omega (arith, ints, before.end)) before.leaves count
