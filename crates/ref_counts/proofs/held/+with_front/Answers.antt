use Rattle.std.proofs.Common.{subst, sym}
use Rattle.ref_counts.specs.Owning.{IsSound}
use Rattle.ref_counts.proofs.held.+with_front.Goals as goal

pub returns-then-count_leaves-clause-sound : goal.returns-then-count_leaves-clause-sound
returns-then-count_leaves-clause-sound t c es known sound =
    let s = subst (IsSound es) c.in-Fork.is sound in
    c.fork-then-count_leaves.ensures.sound es (c.in_ok-first-in-Fork.ensures.sound es known (subst (IsSound es) (sym c.into_inner.ensures) s.1))
    (subst (IsSound es) (sym c.into_inner-then-count_leaves.ensures) s.2)
