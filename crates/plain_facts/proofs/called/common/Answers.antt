use Rattle.std.proofs.Common.{◌∙◌, ◌++◌, ◌≤◌, List, ℕ, Option, ap, sym, length, append-nil, min, rules}
use Rattle.plain_facts.proofs.Pairs.{shapes_end}
use Rattle.plain_facts.proofs.called.common.Goals as goal

pub returns : goal.returns
returns c =
    let at_end : min (length c.args.a.now) (length c.args.b.now) ≤ c.loop-k.k = search rules in
    sym (append-nil c.loop-k.shapes.items)
    ∙ ap (λ (xs : List (Option (List ℕ))). c.loop-k.shapes.items ++ xs) (sym (shapes_end c.args.a.now c.args.b.now c.loop-k.k at_end))
    ∙ c.loop-k.invariant
