use Rattle.std.proofs.Common.{arith, ◌≡◌, ◌∙◌, ◌<◌, ◌≤◌, [], ◌∷◌, length, inl, inr, sym, subst, ap, get_or, refl}
use Rattle.std.proofs.lemmas.Bool.{cases_lt}
use Rattle.grid_sets.specs.Segments.{IsTooFine}
use Rattle.generator_sets.specs.Pieces.{axis_grids}
use Rattle.generator_sets.specs.Counts.{CommonPeriods}
use Rattle.generator_sets.proofs.CommonFacts.{here_period, coarse_axis, some_fine, none_fine, periods_long, true_holds, false_fails}
use Rattle.generator_sets.proofs.sets.is_too_fine.Goals as goal

pub returns-then-is_too_fine-clause-fine : goal.returns-then-is_too_fine-clause-fine
returns-then-is_too_fine-clause-fine c periods common =
    let here : CommonPeriods c.axes-first.result.now c.axes-second.result.now periods =
    subst (λ a. CommonPeriods a c.axes-second.result.now periods) (sym c.axes-first.ensures.axes) (subst (λ b. CommonPeriods c.args.a.now b periods) (sym c.axes-second.ensures.axes) common) in
    let is = here_period c.axes-first.result.now c.axes-second.result.now periods c.loop-k.k c.index-first-k.result c.index-second-k.result c.index-first-k.is c.index-second-k.is c.loop-k-test.true here in
    let fine : 4096 < get_or periods c.loop-k.k 0 = (c.is_too_fine.ensures.fine (get_or periods c.loop-k.k 0) is).0 (true_holds _ c.if-is_too_fine.true) in
    (λ t. some_fine c.axes-first.result.now c.axes-second.result.now periods c.loop-k.k here c.loop-k-test.true fine, λ any. refl)

pub loop-k-preserved : goal.loop-k-preserved
loop-k-preserved c =
    let long : length c.axes-second.result.now ≡ length c.axes-first.result.now = ap length c.axes-second.ensures.axes ∙ c.requires ∙ sym (ap length c.axes-first.ensures.axes) in
    record {
      fine = λ periods common j h. elim (cases_lt j c.loop-k.k) [
        | inl before ↦ c.loop-k.invariant.fine periods common j before
        | inr now ↦
            let same : j ≡ c.loop-k.k = omega arith in
            let is = here_period c.axes-first.result.now c.axes-second.result.now periods c.loop-k.k c.index-first-k.result c.index-second-k.result c.index-first-k.is c.index-second-k.is c.loop-k-test.true common in
            subst (λ j. get_or periods j 0 ≤ 4096) (sym same) (elim (cases_lt 4096 (get_or periods c.loop-k.k 0)) [
              | inl fine ↦ absurd (false_fails _ c.if-is_too_fine.false ((c.is_too_fine.ensures.fine (get_or periods c.loop-k.k 0) is).1 fine))
              | inr low ↦ low
            ])
      ];
      coarse = λ j h fine. elim (cases_lt j c.loop-k.k) [
        | inl before ↦ c.loop-k.invariant.coarse j before fine
        | inr now ↦
            let same : j ≡ c.loop-k.k = omega arith in
            coarse_axis 9223372036854775807 c.loop-k.k c.axes-first.result.now c.axes-second.result.now c.index-first-k.result c.index-second-k.result c.index-first-k.is c.index-second-k.is
            c.loop-k-test.true (omega arith) (omega arith) c.is_too_fine.ensures.first_fits c.is_too_fine.ensures.second_fits (c.is_too_fine.ensures.coarse c.if-is_too_fine.false)
            (subst (λ j. IsTooFine 9223372036854775807 (axis_grids j (c.axes-first.result.now ∷ c.axes-second.result.now ∷ []))) same fine)
      ];
    }

pub returns-clause-fine : goal.returns-clause-fine
returns-clause-fine c periods common =
    let here : CommonPeriods c.axes-first.result.now c.axes-second.result.now periods =
    subst (λ a. CommonPeriods a c.axes-second.result.now periods) (sym c.axes-first.ensures.axes) (subst (λ b. CommonPeriods c.args.a.now b periods) (sym c.axes-second.ensures.axes) common) in
    let long = periods_long c.axes-first.result.now c.axes-second.result.now periods here in
    (λ t. absurd (cc), λ any. absurd (none_fine periods (λ j h. c.loop-k.invariant.fine periods here j (omega arith)) any))
