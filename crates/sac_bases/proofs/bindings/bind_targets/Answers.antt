use Rattle.std.proofs.Common.{◌∙◌, ◌++◌, [], ◌∷◌, ◌+◌, ap, drop, get_or}
use Rattle.sac_ast.specs.Bases.{with_bases}
use Rattle.sac_bases.proofs.Steps.{targets_step}
use Rattle.sac_bases.proofs.bindings.bind_targets.Goals as goal

pub loop-k-preserved : goal.loop-k-preserved
loop-k-preserved c =
    let targets = c.args.targets.now in
    let bases = c.args.bases.now in
    let k = c.loop-k.k in
    let items = c.loop-k.known.all.items in
    ap (with_bases (drop (k + 1) targets) (drop (k + 1) bases)) (c.in_ok-bind.ensures ∙ λ i. items ++ record { name = (get_or targets k c.index-targets-k.result).name; base = c.base_at.ensures i } ∷ [])
    ∙ targets_step targets bases items k c.index-targets-k.result c.loop-k-test.true
    ∙ c.loop-k.invariant
