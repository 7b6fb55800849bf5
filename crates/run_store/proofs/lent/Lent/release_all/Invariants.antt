use Rattle.std.proofs.Common.{◌≡◌, ◌<◌, ℕ, length}
use Rattle.run_store.specs.Lents.{holds_at, lender_as}
use Rattle.run_store.proofs.lent.Lent.release_all.Given as goal

abbrev pub invariant-loop-place : goal.invariant-loop-place
invariant-loop-place l =
    ((b : ℕ) → b < l.place → holds_at l.self b ≡ 0) × (length l.self.holds ≡ length l.fn.self.holds) × (lender_as l.self ≡ lender_as l.fn.self)
