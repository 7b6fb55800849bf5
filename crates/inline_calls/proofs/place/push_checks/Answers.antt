use Rattle.std.proofs.Common.{arith, ◌≤◌, length, min}
use Rattle.inline_calls.proofs.Steps.{checks_done}
use Rattle.inline_calls.proofs.place.push_checks.Goals as goal

pub returns : goal.returns
returns c =
    let ts = c.args.targets.now in
    let tys = c.args.types.now in
    let zs = c.args.sources.now in
    let past : min (min (length ts) (length tys)) (length zs) ≤ c.loop-k.k = omega (arith, c.min.ensures, c.min-count.ensures, c.loop-k-test.false) in
    checks_done c.args.site ts tys zs c.loop-k.k c.loop-k.lets.items _ past c.loop-k.invariant
