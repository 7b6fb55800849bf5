use Rattle.std.proofs.Common.{◌≡◌, drop}
use Rattle.check_rules.specs.Accepted.{names_in_exprs, names_in_gens, names_in_block}
use Rattle.sac_ast.specs.View.{exprs, generators, block}
use Rattle.check_rules.specs.Tables.{has}
use Rattle.check_rules.proofs.listing.+listing.Given as goal

abbrev pub invariant-list_expressions-loop-e : goal.invariant-list_expressions-loop-e
invariant-list_expressions-loop-e l = names_in_exprs (exprs (drop l.e-index l.es)) (has l.names) ≡ names_in_exprs (exprs l.es) (has l.initial.names)

abbrev pub invariant-list_generators-loop-g : goal.invariant-list_generators-loop-g
invariant-list_generators-loop-g l = names_in_gens (generators (drop l.g-index l.gs)) (has l.names) ≡ names_in_gens (generators l.gs) (has l.initial.names)

abbrev pub invariant-list_block-loop-s : goal.invariant-list_block-loop-s
invariant-list_block-loop-s l = names_in_block (block (drop l.s-index l.ss)) (has l.names) ≡ names_in_block (block l.ss) (has l.initial.names)
