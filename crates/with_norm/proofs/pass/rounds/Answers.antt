use Rattle.std.proofs.Common.{ℕ, sym, subst}
use Rattle.core_ir.specs.View.{core_term}
use Rattle.with_norm.specs.Normed.{Normalised}
use Rattle.with_norm.proofs.Rounds.{ends_normal, normalised_itself, round_on}
use Rattle.with_norm.proofs.pass.rounds.Goals as goal

pub loop-round-init : goal.loop-round-init
loop-round-init c = normalised_itself (core_term c.args.core)

pub returns-then-count-eq0-clause-kept : goal.returns-then-count-eq0-clause-kept
returns-then-count-eq0-clause-kept c =
    subst (λ (n : ℕ). Normalised (core_term c.args.core) (core_term c.in_ok-next.next) n) (sym c.in-Some.ensures.1)
    (round_on (core_term c.args.core) (core_term c.loop-round.core) (core_term c.in_ok-next.next) c.loop-round.replaced c.in_ok-next.count c.loop-round.invariant c.in_ok-next.ensures)

pub returns-then-count-eq0-clause-normal : goal.returns-then-count-eq0-clause-normal
returns-then-count-eq0-clause-normal c =
    ends_normal (core_term c.args.core) (core_term c.loop-round.core) (core_term c.in_ok-next.next) c.loop-round.replaced c.in_ok-next.count c.loop-round.invariant c.in_ok-next.ensures c.if-count-eq0.true

pub loop-round-preserved : goal.loop-round-preserved
loop-round-preserved c =
    subst (λ (n : ℕ). Normalised (core_term c.args.core) (core_term c.in_ok-next.next) n) (sym c.in-Some.ensures.1)
    (round_on (core_term c.args.core) (core_term c.loop-round.core) (core_term c.in_ok-next.next) c.loop-round.replaced c.in_ok-next.count c.loop-round.invariant c.in_ok-next.ensures)
