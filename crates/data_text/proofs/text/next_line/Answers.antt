use Rattle.std.proofs.Common.{arith, ◌≤◌, ◌∙◌, sym, length}
use Rattle.std.proofs.lemmas.Bool.Decides.{nat_tests}
use Rattle.data_text.proofs.TextFacts.{no_bytes}
use Rattle.data_text.proofs.text.next_line.Goals as goal

pub returns-clause-lines : goal.returns-clause-lines
returns-clause-lines c =
    let empty : length c.loop-rest.rest.now ≤ 0 = grind (arith, nat_tests, c.is_empty.ensures, c.loop-rest-test.false) in
    sym c.loop-rest.invariant.0 ∙ no_bytes c.loop-rest.number c.loop-rest.rest.now empty
