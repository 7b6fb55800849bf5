use Rattle.std.proofs.Common.{◌≡◌, ℕ, ap, ◌∙◌, [], length, replicate, slice_index_or}
use Rattle.run_store.specs.Lents.{LentValue, holds_at}
use Rattle.run_store.proofs.Holds.{all_zero, none_held}
use Rattle.run_store.proofs.lent.Lent.into_parts.Goals as goal

pub returns-clause-seat : goal.returns-clause-seat
returns-clause-seat c =
    let inside = c.self.inside in
    let none : (b : ℕ) → slice_index_or inside.holds.items b 0 ≡ 0 = λ b. ap (λ l. holds_at l b) c.self.view_is ∙ c.requires b in
    let held : inside.seat.holds ≡ [] = none_held inside.heap.now inside.table.now inside.seat inside.holds.items inside.all c.self.invariant none in
    (λ i. record inside.seat { holds = held i }) ∙ ap (λ (l : LentValue). record l.seat { holds = [] }) c.self.view_is

pub returns-clause-holds : goal.returns-clause-holds
returns-clause-holds c =
    let inside = c.self.inside in
    let none : (b : ℕ) → slice_index_or inside.holds.items b 0 ≡ 0 = λ b. ap (λ l. holds_at l b) c.self.view_is ∙ c.requires b in
    all_zero inside.holds.items none ∙ ap {A = ℕ} (λ n. replicate n 0) (c.self.invariant.each ∙ ap (λ (l : LentValue). length l.heap.places) c.self.view_is)
