use Rattle.std.proofs.Common.{◌≡◌, List, length, ap, sym, ◌∙◌, subst, All, refl}
use Rattle.std.proofs.lemmas.List.{take_all}
use Rattle.std.proofs.lemmas.List.Elements.{All-more}
use Rattle.sac_base.specs.declared.grid.Grid1.{Grid1}
use Rattle.partable_loops.proofs.cuts.have_axes.Goals as goal

pub loop-grid-preserved : goal.loop-grid-preserved
loop-grid-preserved c =
    let item : List Grid1 = c.grid-item.result in
    let here : length item ≡ c.args.axes = ap length (sym c.axes.ensures.axes) ∙ c.if-axes.false in
    All-more (λ (g : List Grid1). length g ≡ c.args.axes) c.args.grids.now c.loop-grid.grid-index item c.loop-grid-test.true c.loop-grid.invariant
    (subst (λ (g : List Grid1). length g ≡ c.args.axes) c.grid-item.is here)

pub returns : goal.returns
returns c =
    (λ t. subst (All (λ (g : List Grid1). length g ≡ c.args.axes)) (take_all c.loop-grid.grid-index c.args.grids.now c.loop-grid-test.false) c.loop-grid.invariant, λ all. refl)
