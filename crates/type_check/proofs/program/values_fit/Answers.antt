use Rattle.std.proofs.Common.{rules, ◌≡◌, ◌≤◌, min, length, sym, ◌∙◌}
use Rattle.check_rules.proofs.Clashing.{values_end}
use Rattle.type_check.proofs.program.values_fit.Goals as goal

pub returns : goal.returns
returns c =
    let bs = c.args.bases.now in
    let types = c.args.types.now in
    let e : c.min-count.result ≡ min (length bs) (length types) = search rules in
    let past : c.min-count.result ≤ c.loop-k.k = search rules in
    sym (values_end bs types c.loop-k.k c.min-count.result e past) ∙ c.loop-k.invariant
