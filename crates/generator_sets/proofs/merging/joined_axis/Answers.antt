use Rattle.std.proofs.Common.{rules, arith}
use Rattle.std.proofs.lemmas.Int.{ints}
use Rattle.generator_sets.proofs.Joining.{union_axis}
use Rattle.generator_sets.proofs.merging.joined_axis.Goals as goal

pub returns-then-b-2-clause-some : goal.returns-then-b-2-clause-some
returns-then-b-2-clause-some c =
    union_axis c.args.a.now c.args.b.now _ (omega (arith, ints)) (omega (arith, ints)) (omega (arith, ints)) (search rules) (search rules) (omega (arith, ints)) (omega (arith, ints)) (omega (arith, ints))
