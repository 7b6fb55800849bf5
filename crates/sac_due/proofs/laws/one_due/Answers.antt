use Rattle.sac_ast.specs.Grammar.{program}
use Rattle.sac_due.proofs.Once.{due_once}
use Rattle.sac_due.proofs.laws.one_due.Goals as goal

pub returns : goal.returns
returns c =
    let lex = c.one_reading.ensures in
    due_once lex.tokens lex.refusal lex.exclusive (c.parser_is_exact.ensures.one_tree program)
