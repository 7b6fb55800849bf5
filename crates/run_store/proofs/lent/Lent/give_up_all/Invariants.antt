use Rattle.std.proofs.Common.{◌≡◌, ◌≢◌, ℕ, ◌+◌, length}
use Rattle.run_store.specs.Lents.{holds_at, lender_as}
use Rattle.run_store.proofs.lent.Lent.give_up_all.Given as goal

abbrev pub invariant-loop : goal.invariant-loop
invariant-loop l =
    (holds_at l.self l.place + l.counter ≡ l.count) × ((b : ℕ) → b ≢ l.place → holds_at l.self b ≡ holds_at l.fn.self b) × (length l.self.holds ≡ length l.fn.self.holds) × (lender_as l.self ≡ lender_as l.fn.self)
