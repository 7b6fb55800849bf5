use Rattle.std.proofs.Common.{rules, arith, ap, ◌∙◌, ◌++◌, ◌∷◌, [], FitsSigned, w32, length}
use Rattle.std.proofs.lemmas.Int.{to_z-of_z}
use Rattle.std.proofs.lemmas.Bool.{lt-ltb}
use Rattle.run_values.specs.Numbers.{numbers}
use Rattle.run_values.proofs.Short.{pushed, pair_pushed}
use Rattle.run_values.proofs.operators.short_binary.Goals as goal

pub loop-k-preserved : goal.loop-k-preserved
loop-k-preserved c =
    let done = numbers c.loop-k.out in
    let fits : FitsSigned w32 c.in-Ok.n = search rules in
    let new = pushed c.push.result done (numbers c.push.new.self) _ (c.push.ensures.room ∙ lt-ltb (length done) 8 (omega (arith, c.loop-k.invariant.1, c.loop-k-test.true, c.loop-k.invariant.2))) c.push.ensures.numbers ∙ ap (λ z. done ++ z ∷ []) (to_z-of_z w32 c.in-Ok.n fits) in
    let step = pair_pushed c.args.op c.as_slice-left.result.now c.as_slice-right.result.now done (numbers c.push.new.self) c.loop-k.k c.in-Ok.n (search rules) (search rules) (search rules) new c.loop-k.invariant.1 c.loop-k.invariant.0 in
    (step.0, step.1, c.loop-k.invariant.2)
