use Rattle.std.proofs.Common.{rules, ◌≡◌, ◌≤◌, min, length, sym, ◌∙◌}
use Rattle.check_rules.proofs.Clashing.{apart_end}
use Rattle.check_rules.proofs.clashes.apart.Goals as goal

pub returns : goal.returns
returns c =
    let a = c.args.a.now in
    let b = c.args.b.now in
    let e : c.min-count.result ≡ min (length a) (length b) = search rules in
    let past : c.min-count.result ≤ c.loop-k.k = search rules in
    sym (apart_end a b c.loop-k.k c.min-count.result e past) ∙ c.loop-k.invariant
