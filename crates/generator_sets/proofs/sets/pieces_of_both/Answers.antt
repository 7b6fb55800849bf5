use Rattle.std.proofs.Common.{subst, IfOk}
use Rattle.std.specs.List.{All}
use Rattle.generator_sets.specs.Pieces.{IsUniformVector}
use Rattle.generator_sets.proofs.CommonFacts.{both_copies}
use Rattle.generator_sets.proofs.sets.pieces_of_both.Goals as goal

pub returns-clause-uniform : goal.returns-clause-uniform
returns-clause-uniform c =
    subst (λ l. IfOk c.cut.result (λ pieces. All (IsUniformVector l) pieces.items)) (both_copies c.args.a.now c.args.b.now _ _ c.in_ok-copy.ensures c.in_ok-copy-2.ensures) c.cut.ensures.uniform
