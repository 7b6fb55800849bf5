use Rattle.std.proofs.Common.{arith, ◌*◌, ◌≤◌, inl, inr, sym, subst}
use Rattle.std.specs.List.{All}
use Rattle.std.proofs.lemmas.Bool.{cases_eq}
use Rattle.grid_sets.specs.Segments.{IsMultipleFor}
use Rattle.grid_sets.proofs.Multiples.{next_multiple, first_multiple, above_quotient}
use Rattle.grid_sets.proofs.period.segment_period.Goals as goal

pub loop-count-init : goal.loop-count-init
loop-count-init c = record {
  some = omega arith;
  least = λ k some all. first_multiple c.greatest_step-step.result k (c.greatest_step-step.ensures.divides k all) some;
}

pub loop-count-preserved : goal.loop-count-preserved
loop-count-preserved c = record {
  some = omega arith;
  least = λ k some all.
      let low : c.greatest_step-step.result * c.loop-count.count ≤ k = c.loop-count.invariant.least k some all in
      elim (cases_eq (c.greatest_step-step.result * c.loop-count.count) k) [
        | inl same ↦
            let here = c.is_period.ensures.1 (subst (λ k. All (IsMultipleFor k c.args.segment.now.from c.args.segment.now.to) c.args.grids.now) (sym same) all) in absurd (cc)
        | inr other ↦ next_multiple c.greatest_step-step.result c.loop-count.count k (c.greatest_step-step.ensures.divides k all) (omega (arith, other))
      ];
}

pub returns-clause-none : goal.returns-clause-none
returns-clause-none c none k some all =
    let low = c.loop-count.invariant.least k some all in
    let far = above_quotient c.args.limit c.greatest_step-step.result c.loop-count.count c.greatest_step-step.ensures.positive (omega arith) in
    omega arith
