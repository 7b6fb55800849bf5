use Rattle.std.proofs.Common.{◌≡◌, rules}
use Rattle.unreached_functions.proofs.Numbers.{numbered_turn, numbered_done}
use Rattle.unreached_functions.specs.Emptied.{numbered as numbered_from}
use Rattle.unreached_functions.proofs.empty.numbered.Goals as goal

pub loop-k-preserved : goal.loop-k-preserved
loop-k-preserved c =
    let same : c.in-Ok.number ≡ c.loop-k.next = search rules in
    numbered_turn c.loop-k.vars.items c.push.new.self.items (numbered_from c.args.first.0 c.args.count) c.loop-k.next c.loop-k._k c.args.count (record { 0 = c.in-Ok.number }) c.loop-k.invariant c.loop-k-test.true c.in_ok-push.ensures.items same

pub returns : goal.returns
returns c = numbered_done c.loop-k.vars.items (numbered_from c.args.first.0 c.args.count) c.loop-k.next c.loop-k._k c.args.count c.loop-k.invariant c.loop-k-test.false
