use Rattle.std.proofs.Common.{◌≡◌, ap, ◌∙◌, sym, map, unsigned_abs}
use Rattle.sac_base.proofs.Extents.{abs_pos}
use Rattle.run_values.specs.Numbers.{numbers}
use Rattle.run_store.proofs.arrays.array_of.Goals as goal

pub returns-clause-array : goal.returns-clause-array
returns-clause-array c =
    let shape : c.in-Some.shape ≡ map unsigned_abs (numbers c.args.extents.now) = sym (abs_pos c.in-Some.shape) ∙ ap (map unsigned_abs) (c.in-Some.ensures.value ∙ c.as_slice.ensures.numbers) in
    c.new.ensures ∙ (λ i. record { base = c.args.base; shape = shape i; cells = c.args.cells.items })
