use Rattle.std.proofs.Common.{◌≡◌, [], length, ap, arith}
use Rattle.std.proofs.lemmas.Bool.Decides.{nat_tests}
use Rattle.std.proofs.lemmas.List.{nil_from_length}
use Rattle.counted_laws.proofs.placing.Orders.{reversed}
use Rattle.phase_checks.proofs.Orders.{all_taken_back, nothing, opposite}
use Rattle.phase_checks.proofs.Taken.{all_taken}
use Rattle.phase_checks.proofs.bags.are_same.Goals as goal

pub returns-then-not-take_all-clause-converse : goal.returns-then-not-take_all-clause-converse
returns-then-not-take_all-clause-converse c same =
    absurd (opposite (c.take_all.ensures.converse [] (all_taken_back c.args.refs.items c.args.own.now same)).0 c.if-not-take_all.true)

pub returns-clause-same : goal.returns-clause-same
returns-clause-same c empty =
    let left = c.take_all.new.refs in
    let none : length left.items ≡ 0 = grind (arith, nat_tests, left.ok, c.is_empty.ensures, empty) in
    all_taken c.args.refs.items c.args.own.now left.items (c.take_all.ensures.taken c.if-not-take_all.false) (nil_from_length left.items none)

pub returns-clause-converse : goal.returns-clause-converse
returns-clause-converse c same =
    let left = c.take_all.new.refs in
    let none : length left.items ≡ 0 = ap length (nothing left.items (reversed (c.take_all.ensures.converse [] (all_taken_back c.args.refs.items c.args.own.now same)).1)) in
    grind (arith, nat_tests, left.ok, c.is_empty.ensures, none)
