use Rattle.std.proofs.Common.{rules, ap, sym}
use Rattle.ref_rules.specs.Counts.{or_none, count_of}
use Rattle.ref_rules.proofs.Counted.{is_there, none_taken, taken}
use Rattle.ref_rules.proofs.surplus.take_one.Goals as goal

pub returns-in-Some-clause-was_there : goal.returns-in-Some-clause-was_there
returns-in-Some-clause-was_there c xs counts = is_there c.args.counts.now c.args.x xs c.in-Some.count.now (ap or_none (sym c.in-Some.ensures.value)) counts

pub returns-in-Some-clause-rest : goal.returns-in-Some-clause-rest
returns-in-Some-clause-rest c xs counts =
    taken c.args.counts.now (c.get_mut.follows.lender _) c.args.x xs c.in-Some.count.now c.saturating_sub.result (sym c.in-Some.ensures.value) c.saturating_sub.ensures
    ((c.get_mut.follows.holds c.saturating_sub.result).3 (search rules)).0 counts

pub returns-in-None-clause-was_there : goal.returns-in-None-clause-was_there
returns-in-None-clause-was_there c xs counts = is_there c.args.counts.now c.args.x xs 0 (ap or_none (sym c.in-None.ensures.value)) counts

pub returns-in-None-clause-rest : goal.returns-in-None-clause-rest
returns-in-None-clause-rest c xs counts = none_taken c.args.counts.now c.get_mut.follows.lender-at-none c.args.x xs (ap or_none (sym c.in-None.ensures.value)) (λ y. ap (λ m. count_of m y) c.get_mut.follows.holds-at-none) counts
