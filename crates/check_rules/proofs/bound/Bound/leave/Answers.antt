use Rattle.std.proofs.Common.{sym, subst, List, ℕ, Bor}
use Rattle.check_rules.specs.Tables.{IsPlaced}
use Rattle.check_rules.proofs.Places.{placed_below}
use Rattle.check_rules.proofs.bound.Bound.leave.Goals as goal

pub invariant_of-self : goal.invariant_of-self
invariant_of-self c =
    let b = c.args.self.now in
    record { placed = subst (λ (texts : List (Bor (List ℕ))). IsPlaced texts b.places) (sym c.truncate.ensures.items) (placed_below b.trail.items b.places c.args.mark b.placed) }
