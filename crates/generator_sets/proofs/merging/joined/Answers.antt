use Rattle.std.proofs.Common.{set}
use Rattle.generator_sets.specs.Unions.{IsUnion1, IsUnion}
use Rattle.generator_sets.proofs.Joining.{union_here, some_weaker}
use Rattle.generator_sets.proofs.merging.joined.Goals as goal

pub returns-then-are_equal_but-clause-union : goal.returns-then-are_equal_but-clause-union
returns-then-are_equal_but-clause-union c =
    some_weaker (IsUnion1 c.index-a-axis.result c.index-b-axis.result) (λ side. IsUnion c.args.a.now c.args.b.now (set c.args.b.now c.args.axis side)) c.joined_axis.result
    (λ side u. union_here c.args.axis c.args.a.now c.args.b.now c.index-a-axis.result c.index-b-axis.result side c.index-a-axis.is c.index-b-axis.is c.if-axis-a.true (c.are_equal_but.ensures c.if-are_equal_but.true) u)
    c.joined_axis.ensures.some
