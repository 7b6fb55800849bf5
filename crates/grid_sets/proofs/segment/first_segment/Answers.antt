use Rattle.std.proofs.Common.{rules, arith, ◌≡◌, ◌∙◌, ◌⊎◌, subst, w64}
use Rattle.std.specs.Prelude.{◌≤ℤ◌, FitsSigned}
use Rattle.std.proofs.lemmas.Int.{ints, to_z-of_z}
use Rattle.grid_sets.proofs.Cuts.{cut_here, cuts_more, cuts_all, end_here}
use Rattle.grid_sets.proofs.segment.first_segment.Goals as goal

pub loop-grid-preserved : goal.loop-grid-preserved
loop-grid-preserved c =
    let before = c.loop-grid.invariant in
    let a = c.cut_at.ensures in
    let b = c.cut_at-segment.ensures in
    let lo : FitsSigned w64 c.grid-item.result.lo = search rules in
    let hi : FitsSigned w64 c.grid-item.result.hi = search rules in
    let nearer : c.cut_at-segment.result.to ≤ℤ c.loop-grid.segment.to = omega (arith, ints) in
    record {
      from = b.from ∙ a.from ∙ before.from;
      some = omega (arith, ints);
      low = omega (arith, ints);
      clear = cuts_more c.args.grids.now c.loop-grid.grid-index c.grid-item.result c.args.rest.now.from c.loop-grid.segment.to c.cut_at-segment.result.to
          c.grid-item.is c.loop-grid-test.true nearer before.clear
          (cut_here c.grid-item.result c.args.rest.now.from c.loop-grid.segment.from c.cut_at.result.from c.cut_at.result.to c.cut_at-segment.result.to before.from a.from b.low
          (subst (λ z. (z ≤ℤ c.loop-grid.segment.from) ⊎ (c.cut_at.result.to ≤ℤ z)) (to_z-of_z w64 c.grid-item.result.lo lo) a.clear)
          (subst (λ z. (z ≤ℤ c.cut_at.result.from) ⊎ (c.cut_at-segment.result.to ≤ℤ z)) (to_z-of_z w64 c.grid-item.result.hi hi) b.clear));
      end = end_here c.args.grids.now c.loop-grid.grid-index c.grid-item.result c.loop-grid.segment.to c.cut_at.result.to c.cut_at-segment.result.to c.args.rest.now.to
          c.grid-item.is c.loop-grid-test.true before.end
          (subst (λ z. (c.cut_at.result.to ≡ c.loop-grid.segment.to) ⊎ (c.cut_at.result.to ≡ z)) (to_z-of_z w64 c.grid-item.result.lo lo) a.end)
          (subst (λ z. (c.cut_at-segment.result.to ≡ c.cut_at.result.to) ⊎ (c.cut_at-segment.result.to ≡ z)) (to_z-of_z w64 c.grid-item.result.hi hi) b.end);
    }

pub returns-clause-first : goal.returns-clause-first
returns-clause-first c = record {
  some = c.loop-grid.invariant.some;
  inside = c.loop-grid.invariant.low;
  clear = cuts_all c.args.grids.now c.loop-grid.grid-index c.args.rest.now.from c.loop-grid.segment.to c.loop-grid-test.false c.loop-grid.invariant.clear;
  end = c.loop-grid.invariant.end;
}
