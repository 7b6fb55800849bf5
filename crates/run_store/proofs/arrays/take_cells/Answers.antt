use Rattle.std.proofs.Common.{rules, sym, subst}
use Rattle.counted_code.specs.Values.{release_count, count_of}
use Rattle.run_store.specs.Stands.{Stands}
use Rattle.run_store.proofs.Wholes.{own_cells, own_released, own_within}
use Rattle.run_store.proofs.arrays.take_cells.Goals as goal

pub returns-clause-cells : goal.returns-clause-cells
returns-clause-cells c m stands =
    own_cells c.args.heap.now m c.args.id.place c.args.id.born c.give_out.result.items (search rules) c.give_out.ensures.cells stands

pub returns-clause-released : goal.returns-clause-released
returns-clause-released c m stands =
    let s = c.args.heap.now in
    subst (λ h. Stands (record { own = h; lent = s.lent }) (release_count c.args.id.born (count_of m c.args.id.born) m)) (sym c.give_out.ensures.heap)
    (own_released s m c.args.id.place c.args.id.born (search rules) stands)

pub returns-clause-within : goal.returns-clause-within
returns-clause-within c m stands = own_within c.args.heap.now m c.args.id.place c.args.id.born (search rules) stands
