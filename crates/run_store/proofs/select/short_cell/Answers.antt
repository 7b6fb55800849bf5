use Rattle.std.proofs.Common.{rules, ◌≡◌, [], ◌∷◌, length, take, drop, map, unsigned_abs, sym, subst, ◌∙◌}
use Rattle.std.specs.Prelude.{IfSome}
use Rattle.sac_base.specs.Arrays.{vector}
use Rattle.sac_base.specs.Parts.{part_at}
use Rattle.run_values.specs.Numbers.{numbers}
use Rattle.run_store.proofs.Parts.{chosen}
use Rattle.run_store.proofs.select.short_cell.Goals as goal

pub returns : goal.returns
returns c base =
    let shape : map unsigned_abs c.as_slice.result.now ≡ length (numbers c.args.few.now) ∷ [] = search rules in
    chosen (vector base (numbers c.args.few.now)) (part_at (length (numbers c.args.few.now) ∷ []) (numbers c.args.index.now)) c.in-Some.place c.cell_at.result
    (sym (λ i. part_at (shape i) (c.as_slice-2.ensures.numbers i)) ∙ c.in-Some.ensures)
    (subst (λ zs. IfSome c.cell_at.result (λ n. take 1 (drop c.in-Some.place zs) ≡ n ∷ [])) c.as_slice-3.ensures.numbers c.cell_at.ensures)
