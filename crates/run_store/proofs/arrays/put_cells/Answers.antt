use Rattle.std.proofs.Common.{◌≡◌, ap, ◌∙◌, map, refl, unsigned_abs}
use Rattle.buffer_heap.specs.Heaps.{In}
use Rattle.sac_base.proofs.Extents.{abs_pos}
use Rattle.counted_code.specs.Values.{Ref}
use Rattle.run_values.specs.Numbers.{numbers}
use Rattle.run_store.proofs.Wholes.{own_number, own_taken}
use Rattle.run_store.proofs.arrays.put_cells.Goals as goal

pub returns-clause-placed : goal.returns-clause-placed
returns-clause-placed c m stands =
    let id = c.in_ok-id.id in
    let s = c.args.heap.now in
    let k = c.put.new.self in
    let put = c.in_ok-id.ensures in
    let shape : map unsigned_abs (numbers c.extents_of-extents.result) ≡ c.args.shape.now = ap (map unsigned_abs) c.extents_of-extents.ensures ∙ abs_pos c.args.shape.now in
    let number = own_number s k m id.place id.born c.args.cells.items (In c.args.cells.items) refl put.holds put.others put.number.0 stands in (
      (λ i. Ref (number i) c.args.base (shape i)),
      own_taken s k m id.place id.born c.args.cells.items (In c.args.cells.items) refl put.holds put.others put.number.0 stands put.number.1 put.counters.0 put.counters.1 put.counters.2,
    )
