use Rattle.std.proofs.Common.{refl, subst, All, sym, ◌∙◌, true≢false}
use Rattle.std.proofs.lemmas.List.{take_all}
use Rattle.std.proofs.lemmas.List.Elements.{All-more}
use Rattle.merge_plans.proofs.Parts.{Fits, all_fit, each_fits}
use Rattle.merge_plans.proofs.judging.fit_behind.Goals as goal

pub loop-part-preserved : goal.loop-part-preserved
loop-part-preserved c =
    All-more (Fits c.args.grid.now) c.deref-part-items.result.now c.loop-part.part-index c.part-item.result c.loop-part-test.true c.loop-part.invariant
    (subst (Fits c.args.grid.now) c.part-item.is (c.fits_behind.ensures.0 c.if-not-fits_behind.false))

pub returns : goal.returns
returns c = (
  λ t. all_fit c.args.grid.now c.args.inner.now c.deref-part-items.result.now c.deref-part-items.ensures.value
      (subst (All (Fits c.args.grid.now)) (take_all c.loop-part.part-index c.deref-part-items.result.now c.loop-part-test.false) c.loop-part.invariant),
  λ h. refl,
)

pub returns-then-not-fits_behind : goal.returns-then-not-fits_behind
returns-then-not-fits_behind c = (
  λ t. absurd (true≢false (sym t)),
  λ h.
      let fits = each_fits c.args.grid.now c.args.inner.now c.deref-part-items.result.now c.deref-part-items.ensures.value h c.loop-part.part-index c.part-item.result c.loop-part-test.true in
      absurd (true≢false (sym (c.fits_behind.ensures.1 (subst (Fits c.args.grid.now) (sym c.part-item.is) fits)) ∙ c.if-not-fits_behind.true)),
)
