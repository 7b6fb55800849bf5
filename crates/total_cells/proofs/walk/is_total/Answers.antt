use Rattle.std.proofs.Common.{rules, ◌≡◌, ◌∙◌}
use Rattle.std.specs.Option.{is_some}
use Rattle.total_cells.proofs.WalkFacts.{some_is}
use Rattle.total_cells.proofs.walk.is_total.Goals as goal

pub returns-clause-total : goal.returns-clause-total
returns-clause-total c =
    let some : c.is_some.result ≡ is_some c.in_ok-found.found = search rules in
    some ∙ some_is c.in_ok-found.found _ _ c.in_ok-found.ensures.known
