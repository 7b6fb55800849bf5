use Rattle.std.proofs.Common.{arith, ◌≡◌, ◌∙◌, ℕ, suc, ◌-◌, ◌*◌, ◌<◌, ◌≤◌, length, sym, subst, ap, refl, Err}
use Rattle.std.specs.Prelude.{min}
use Rattle.std.specs.List.{All}
use Rattle.grid_sets.specs.Segments.{IsUniform, IsAxisCount}
use Rattle.generator_sets.specs.Pieces.{axis_grids, products}
use Rattle.generator_sets.specs.Counts.{IsCanonicalCount}
use Rattle.generator_sets.proofs.CutSteps.{CutSoFar, cut_none, cut_more, cut_even, axis_due, as_many}
use Rattle.generator_sets.proofs.cut.cut.Goals as goal

pub loop-left-init : goal.loop-left-init
loop-left-init c = cut_none c.args.generators.now c.axes-axes.result.now c.args.limit (length c.axes-axes.result.now) c.in_ok-pieces.pieces.grids.items c.in_ok-pieces.pieces.count
    refl c.in_ok-pieces.ensures.grids c.in_ok-pieces.ensures.count

pub returns-in-Err-clause-due : goal.returns-in-Err-clause-due
returns-in-Err-clause-due c greatest count counted =
    let low : c.loop-left.left - 1 < length c.axes-axes.result.now = let i = c.loop-left.invariant.inside in omega arith in
    axis_due c.args.generators.now c.axes-axes.result.now c.args.limit (c.loop-left.left - 1) c.index-axes-left.result greatest count c.as_slice.result.now c.in-Err.error c.index-axes-left.is low (c.as_slice.ensures.value ∙ c.in_ok-grids.ensures)
    (λ g m at e. c.in-Err.ensures.fine g m at (ap Err e)) (λ e. c.in-Err.ensures.few (ap Err e)) (subst (λ l. IsCanonicalCount c.args.generators.now 0 l greatest count) (sym c.axes-axes.ensures.axes) counted)

pub loop-left-preserved : goal.loop-left-preserved
loop-left-preserved c =
    let low : c.loop-left.left - 1 < length c.axes-axes.result.now = let i = c.loop-left.invariant.inside in omega arith in
    let column : c.as_slice.result.now ≡ axis_grids (c.loop-left.left - 1) c.args.generators.now = c.as_slice.ensures.value ∙ c.in_ok-grids.ensures in
    let next : c.loop-left.left ≡ suc (c.loop-left.left - 1) = omega arith in
    cut_more c.args.generators.now c.axes-axes.result.now c.args.limit (c.loop-left.left - 1) c.index-axes-left.result c.in-Ok.runs.items c.loop-left.pieces.grids.items
    c.in_ok-pieces-in-Ok.pieces.grids.items c.loop-left.pieces.count c.in_ok-pieces-in-Ok.pieces.count
    c.index-axes-left.is low
    c.in-Ok.ensures.split
    (subst (λ g. All (IsUniform g) c.in-Ok.runs.items) column c.in-Ok.ensures.uniform)
    (subst (λ g. (greatest m : ℕ) → IsAxisCount g c.index-axes-left.result.hi c.index-axes-left.result.lo greatest m → (greatest ≤ c.args.limit) × (length c.in-Ok.runs.items ≡ m)) column c.in-Ok.ensures.count)
    (c.in_ok-pieces-in-Ok.ensures.count ∙ ap (λ l. min (length l * c.loop-left.pieces.count) 65) c.as_slice-in-Ok.ensures.value)
    (λ few. c.in_ok-pieces-in-Ok.ensures.grids few ∙ ap (λ l. products l c.loop-left.pieces.grids.items) c.as_slice-in-Ok.ensures.value)
    c.in_ok-pieces-in-Ok.ensures.none
    (subst (λ n. CutSoFar c.args.generators.now c.axes-axes.result.now c.args.limit n c.loop-left.pieces.grids.items c.loop-left.pieces.count) next c.loop-left.invariant)

pub returns-clause-uniform : goal.returns-clause-uniform
returns-clause-uniform c =
    cut_even c.args.generators.now c.axes-axes.result.now c.args.limit c.loop-left.left c.loop-left.pieces.grids.items c.loop-left.pieces.count (omega arith) c.loop-left.invariant

pub returns-clause-count : goal.returns-clause-count
returns-clause-count c greatest count counted =
    as_many c.args.generators.now c.axes-axes.result.now c.args.limit c.loop-left.left c.loop-left.pieces.grids.items c.loop-left.pieces.count greatest count (omega arith) (omega arith) c.loop-left.invariant
    (subst (λ l. IsCanonicalCount c.args.generators.now 0 l greatest count) (sym c.axes-axes.ensures.axes) counted)
