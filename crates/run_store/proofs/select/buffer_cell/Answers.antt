use Rattle.std.proofs.Common.{◌≡◌, [], ◌∷◌, take, drop, map, unsigned_abs, sym, subst, ◌∙◌}
use Rattle.std.specs.Prelude.{IfSome}
use Rattle.sac_base.specs.Arrays.{ArrayValue}
use Rattle.sac_base.specs.Parts.{part_at}
use Rattle.counted_code.specs.Values.{cells_of}
use Rattle.run_values.specs.Numbers.{numbers}
use Rattle.run_store.proofs.Parts.{chosen}
use Rattle.run_store.proofs.select.buffer_cell.Goals as goal

pub returns : goal.returns
returns c m stands base =
    let a : ArrayValue = record { base = base; shape = map unsigned_abs (numbers c.args.extents.now); cells = cells_of m c.args.id.born } in
    chosen a (part_at (map unsigned_abs (numbers c.args.extents.now)) (numbers c.args.index.now)) c.in-Some.place c.cell_at.result
    (sym (λ i. part_at (map unsigned_abs (c.as_slice.ensures.numbers i)) (c.as_slice-2.ensures.numbers i)) ∙ c.in-Some.ensures)
    (subst (λ zs. IfSome c.cell_at.result (λ n. take 1 (drop c.in-Some.place zs) ≡ n ∷ [])) (c.in_ok-cells.ensures m stands) c.cell_at.ensures)
