use Rattle.std.proofs.Common.{◌≡◌, [], ◌∷◌, ◌++◌, ◌∙◌, ap, arith, replicate, w32, to_z, of_z}
use Rattle.std.proofs.lemmas.Int.{to_z-of_z}
use Rattle.std.proofs.lemmas.List.{replicate_more}
use Rattle.array_with_loops.proofs.bounds.filled.Goals as goal

pub loop-k-preserved : goal.loop-k-preserved
loop-k-preserved c =
    let z = to_z w32 (of_z w32 c.args.z) in
    c.in_ok-push.ensures.items ∙ ap (λ zs. zs ++ z ∷ []) c.loop-k.invariant ∙ replicate_more c.loop-k._k z

pub returns : goal.returns
returns c =
    let all : c.loop-k._k ≡ c.args.n = omega (arith, c.loop-k-test.false, c.loop-k.auto._k-end) in
    c.loop-k.invariant ∙ (λ i. replicate (all i) (to_z-of_z w32 c.args.z c.ranges.z i))
