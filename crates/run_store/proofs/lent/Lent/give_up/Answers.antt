use Rattle.std.proofs.Common.{arith, ◌≤◌, ◌<◌, ◌-◌, ap, sym, subst, ◌∙◌, slice_set, slice_index_or}
use Rattle.count_table.specs.Views.{without}
use Rattle.run_store.specs.Lents.{IsCounted, holds_at}
use Rattle.run_store.proofs.Holds.{counted_less, some_within, there_within}
use Rattle.run_store.proofs.lent.Lent.give_up.Goals as goal

pub invariant_of-self : goal.invariant_of-self
invariant_of-self c =
    let h = c.self.inside.heap.now in
    let table = c.self.inside.table.now in
    let seat = c.self.inside.seat in
    let holds = c.self.inside.holds.items in
    let place = c.args.place in
    let is = ap (λ l. holds_at l place) c.self.view_is in
    let some : 1 ≤ slice_index_or holds place 0 = (let asked = c.requires in omega (arith, asked, is)) in
    let within = some_within holds place some in
    let value = c.index_mut.ensures.value ∙ there_within holds place c.index_mut.result.now within in
    subst (λ s. IsCounted h table s (slice_set holds place (c.index_mut.result.now - 1)) (c.self.inside.all - 1)) (sym c.release.ensures)
    (subst (λ n. IsCounted h table (record seat { holds = without place seat.holds }) (slice_set holds place (n - 1)) (c.self.inside.all - 1)) (sym value)
    (counted_less h table seat holds c.self.inside.all place c.self.invariant (subst (λ n. place < n) c.self.invariant.each within) some))
