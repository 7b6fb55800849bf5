use Rattle.std.proofs.Common.{rules, ◌≤◌, ◌∙◌, ap, sym, length}
use Rattle.core_loops.specs.Indices.{at_literal}
use Rattle.operand_checks.proofs.Index.{literal_is}
use Rattle.operand_checks.proofs.at_literal.Goals as goal

pub returns-then-rank-le1 : goal.returns-then-rank-le1
returns-then-rank-le1 c =
    let a = c.in-Some.array in
    let short : length a.shape ≤ 1 = search rules in
    literal_is c.is_index.result c.args.shape.now a c.extents.result.now c.cells.result.now c.extents.ensures.value c.cells.ensures.value short c.is_index.ensures
    ∙ ap (at_literal c.args.shape.now) (sym c.in-Some.is)
