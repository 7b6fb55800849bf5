use Rattle.std.proofs.Common.{rules, ◌≤◌, ◌<◌, ◌||◌, ◌+◌, sym, ap, ◌∙◌, length, drop}
use Rattle.check_rules.specs.Tables.{among}
use Rattle.check_rules.proofs.Places.{since_step, since_end}
use Rattle.check_rules.proofs.bound.Bound.since.Goals as goal

pub loop-k-preserved : goal.loop-k-preserved
loop-k-preserved c = λ other.
    let texts = c.args.self.now.trail.items in
    let below : c.loop-k.k < length texts = search rules in
    ap (λ ks. among ks other || among (drop (c.loop-k.k + 1) texts) other) c.in_ok-insert.ensures.keys
    ∙ since_step c.loop-k.names.keys texts c.loop-k.k c.index.result.now other below c.index.ensures
    ∙ c.loop-k.invariant other

pub returns : goal.returns
returns c = λ i other.
    let texts = c.args.self.now.trail.items in
    let past : length texts ≤ c.loop-k.k = search rules in
    (sym (since_end c.loop-k.names.keys texts c.loop-k.k other past) ∙ c.loop-k.invariant other) i
