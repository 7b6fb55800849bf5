use Rattle.std.proofs.Common.{◌≡◌, ap, ◌∙◌, sym, map, unsigned_abs}
use Rattle.sac_base.proofs.Extents.{abs_pos}
use Rattle.run_values.specs.Numbers.{numbers}
use Rattle.run_kernels.proofs.scope.borrowed.Goals as goal

pub returns : goal.returns
returns g c =
    let s = c.in_ok-shape.shape in
    let cells = c.in_ok-cells.cells.now in
    let shape : s ≡ map unsigned_abs (numbers c.args.extents.now) = sym (abs_pos s) ∙ ap (map unsigned_abs) (c.in_ok-shape.ensures.value ∙ c.as_slice.ensures.numbers) in
    (cells, c.in_ok-cells.ensures, c.new.ensures ∙ (λ i. record { base = c.args.base; shape = shape i; cells = cells }))
