use Rattle.std.proofs.Common.{◌≡◌, rules, subst, sym, ap, ◌∙◌, map, unsigned_abs}
use Rattle.sac_base.proofs.Extents.{abs_pos}
use Rattle.counted_code.specs.Values.{Ref, with_cells}
use Rattle.run_values.specs.Numbers.{numbers}
use Rattle.run_store.specs.Stands.{Stands}
use Rattle.run_store.proofs.Wholes.{own_settled}
use Rattle.run_store.proofs.target.settle_buffer.Goals as goal

pub returns-clause-placed : goal.returns-clause-placed
returns-clause-placed c m stands =
    let s = c.args.heap.now in
    let shape : map unsigned_abs (numbers c.extents_of-extents.result) ≡ c.args.shape.now = ap (map unsigned_abs) c.extents_of-extents.ensures ∙ abs_pos c.args.shape.now in (
      (λ i. Ref c.args.id.born c.args.base (shape i)),
      subst (λ h. Stands (record { own = h; lent = s.lent }) (with_cells m c.args.id.born c.args.cells.items)) (sym c.settle.ensures)
          (own_settled s m c.args.id.place c.args.id.born c.len.result c.args.cells.items (search rules) stands),
    )
