use Rattle.std.proofs.Common.{◌≡◌, ap, ◌∙◌, sym, subst, map, unsigned_abs}
use Rattle.array_ops.specs.Tells.{Tells}
use Rattle.counted_code.specs.Values.{cells_of}
use Rattle.sac_base.proofs.Extents.{abs_pos}
use Rattle.run_store.specs.Selects.{part_of}
use Rattle.run_values.specs.Numbers.{numbers}
use Rattle.run_store.proofs.slices.buffer_part.Goals as goal

pub returns : goal.returns
returns c m stands =
    let shape : c.in-Some.shape ≡ map unsigned_abs (numbers c.args.extents.now) = sym (abs_pos c.in-Some.shape) ∙ ap (map unsigned_abs) (c.in-Some.ensures.value ∙ c.as_slice.ensures.numbers) in
    let cells : c.in-Ok.cells.now ≡ cells_of m c.args.id.born = c.in-Ok.ensures m stands in
    let index = c.as_slice-2.ensures.numbers in
    subst (λ meant. Tells c.part_of_cells.result meant) (λ i. part_of c.args.base (shape i) (cells i) (index i) c.args.site) c.part_of_cells.ensures
