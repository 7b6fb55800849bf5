use Rattle.std.proofs.Common.{rules, arith, ◌∙◌, ◌<◌, length}
use Rattle.buffer_heap.specs.Heaps.{IsLive, IsNamed}
use Rattle.run_store.proofs.Holds.{few_held, there_within}
use Rattle.run_store.proofs.Wholes.{within_places}
use Rattle.run_store.proofs.lent.Lent.keep.Goals as goal

pub overflow_add-index_mut : goal.overflow_add-index_mut
overflow_add-index_mut c =
    let h = c.self.inside.heap.now in
    let holds = c.self.inside.holds.items in
    let place = c.place-place.result in
    let few = few_held h c.self.inside.table.now c.self.inside.seat holds c.self.inside.all place c.self.invariant in
    let all = c.if-self-ge-MOST_HOLDS.false in
    let live : IsLive h c.args.id.place (IsNamed c.args.id.born) = search rules in
    let low = within_places h.places c.args.id.place (IsNamed c.args.id.born) live in
    let each = c.self.invariant.each in
    let is = c.place-place.ensures in
    let within : place < length holds = omega (arith, low, each, is) in
    let value = c.index_mut.ensures.value ∙ there_within holds place c.index_mut.result.now within in
    omega (arith, few, all, value)
