use Rattle.std.proofs.Common.{◌∙◌, ◌++◌, ◌≤◌, List, Option, ap, sym, length, append-nil, min, rules}
use Rattle.sac_base.specs.declared.base.Base.{Base}
use Rattle.reuse_candidates.proofs.Pairs.{either_end}
use Rattle.reuse_candidates.proofs.bases.either_bases.Goals as goal

pub returns : goal.returns
returns c =
    let at_end : min (length c.args.a.now) (length c.args.b.now) ≤ c.loop-k.k = search rules in
    sym (append-nil c.loop-k.bases.items)
    ∙ ap (λ (xs : List (Option Base)). c.loop-k.bases.items ++ xs) (sym (either_end c.args.a.now c.args.b.now c.loop-k.k at_end))
    ∙ c.loop-k.invariant
