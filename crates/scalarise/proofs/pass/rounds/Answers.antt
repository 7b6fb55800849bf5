use Rattle.std.proofs.Common.{ℕ, sym, subst}
use Rattle.core_ir.specs.View.{core_term}
use Rattle.scalarise.specs.Scalarised.{Scalarised}
use Rattle.scalarise.proofs.Rounds.{ends, round_on, scalarised_itself}
use Rattle.scalarise.proofs.pass.rounds.Goals as goal

pub loop-round-init : goal.loop-round-init
loop-round-init c = scalarised_itself (core_term c.args.core)

pub returns-then-count-eq0-clause-kept : goal.returns-then-count-eq0-clause-kept
returns-then-count-eq0-clause-kept c =
    subst (λ (n : ℕ). Scalarised (core_term c.args.core) (core_term c.in_ok-next.next) n) (sym c.in-Some.ensures.1)
    (round_on (core_term c.args.core) (core_term c.loop-round.core) (core_term c.in_ok-next.next) c.loop-round.merged c.in_ok-next.count c.loop-round.invariant c.in_ok-next.ensures)

pub returns-then-count-eq0-clause-none : goal.returns-then-count-eq0-clause-none
returns-then-count-eq0-clause-none c = ends (core_term c.loop-round.core) (core_term c.in_ok-next.next) c.in_ok-next.count c.in_ok-next.ensures c.if-count-eq0.true

pub loop-round-preserved : goal.loop-round-preserved
loop-round-preserved c =
    subst (λ (n : ℕ). Scalarised (core_term c.args.core) (core_term c.in_ok-next.next) n) (sym c.in-Some.ensures.1)
    (round_on (core_term c.args.core) (core_term c.loop-round.core) (core_term c.in_ok-next.next) c.loop-round.merged c.in_ok-next.count c.loop-round.invariant c.in_ok-next.ensures)
