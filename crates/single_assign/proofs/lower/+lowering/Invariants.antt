use Rattle.std.proofs.Common.{◌≡◌, ◌+◌, ◌*◌, drop, map}
use Rattle.std.specs.Prelude.{max}
use Rattle.sac_ast.specs.declared.Expression.{size-Expression}
use Rattle.sac_ast.specs.declared.Statement.{size-Statement}
use Rattle.sac_ast.specs.declared.Generator.{size-Generator}
use Rattle.sac_ast.specs.declared.Bound.{size-Bound}
use Rattle.sac_ast.specs.declared.Operation.{size-Operation}
use Rattle.sac_ast.specs.View.{exprs, generators, block}
use Rattle.sac_ast.proofs.Lists.{exprs_size, block_size, cells_size, maybe_size}
use Rattle.core_scopes.specs.Looks.{look}
use Rattle.core_ir.specs.View.{gen_term}
use Rattle.core_lowering.specs.steps.Parts.{after_list, after_gens}
use Rattle.core_scopes.specs.Built.{built}
use Rattle.single_assign.specs.Views.{make_all_in, make_gens_in, make_block_in}
use Rattle.single_assign.proofs.lower.+lowering.Given as goal

abbrev pub decreases-lower : goal.decreases-lower
decreases-lower l = 8 * size-Expression l.e.now + 2

abbrev pub decreases-lower_all : goal.decreases-lower_all
decreases-lower_all l = 8 * exprs_size l.es.now + 4

abbrev pub decreases-lower_inside : goal.decreases-lower_inside
decreases-lower_inside l = 8 * size-Expression l.e.now + 3

abbrev pub decreases-lower_maybe : goal.decreases-lower_maybe
decreases-lower_maybe l = 8 * maybe_size l.e.now + 3

abbrev pub decreases-lower_default : goal.decreases-lower_default
decreases-lower_default l = 8 * maybe_size l.e.now + 3

abbrev pub decreases-lower_bound : goal.decreases-lower_bound
decreases-lower_bound l = 8 * size-Bound l.b.now + 2

abbrev pub decreases-lower_generator : goal.decreases-lower_generator
decreases-lower_generator l = 8 * size-Generator l.g.now + 3

abbrev pub decreases-lower_cell : goal.decreases-lower_cell
decreases-lower_cell l = 8 * size-Generator l.g.now + 2

abbrev pub decreases-lower_generators : goal.decreases-lower_generators
decreases-lower_generators l = 8 * cells_size l.gs.now + 4

abbrev pub decreases-lower_operation : goal.decreases-lower_operation
decreases-lower_operation l = 8 * size-Operation l.op.now + 2

abbrev pub decreases-lower_statement : goal.decreases-lower_statement
decreases-lower_statement l = 8 * size-Statement l.s.now + 3

abbrev pub decreases-lower_assign : goal.decreases-lower_assign
decreases-lower_assign l = 8 * size-Expression l.value.now + 3

abbrev pub decreases-lower_if : goal.decreases-lower_if
decreases-lower_if l = 8 * max (size-Expression l.cond.now) (max (block_size l.yes.now) (block_size l.no.now)) + 6

abbrev pub decreases-lower_branch : goal.decreases-lower_branch
decreases-lower_branch l = 8 * block_size l.ss.now + 5

abbrev pub decreases-lower_turn : goal.decreases-lower_turn
decreases-lower_turn l = 8 * block_size l.ss.now + 6

abbrev pub decreases-lower_while : goal.decreases-lower_while
decreases-lower_while l = 8 * max (block_size l.body.now) (size-Expression l.cond.now) + 8

abbrev pub decreases-lower_while_in : goal.decreases-lower_while_in
decreases-lower_while_in l = 8 * max (block_size l.body.now) (size-Expression l.cond.now) + 7

abbrev pub decreases-lower_do : goal.decreases-lower_do
decreases-lower_do l = 8 * max (block_size l.body.now) (size-Expression l.cond.now) + 8

abbrev pub decreases-lower_do_in : goal.decreases-lower_do_in
decreases-lower_do_in l = 8 * max (block_size l.body.now) (size-Expression l.cond.now) + 7

abbrev pub decreases-lower_block : goal.decreases-lower_block
decreases-lower_block l = 8 * block_size l.ss.now + 4

abbrev pub invariant-lower_all-loop-e : goal.invariant-lower_all-loop-e
invariant-lower_all-loop-e l =
    after_list l.vars.items (make_all_in l.cx (exprs (drop l.e-index l.es)) (look l.scope) (built l.out)) ≡ make_all_in l.cx (exprs l.es) (look l.scope) (built l.initial.out)

abbrev pub invariant-lower_generators-loop-g : goal.invariant-lower_generators-loop-g
invariant-lower_generators-loop-g l =
    after_gens (map gen_term l.gens.items) (make_gens_in l.cx (generators (drop l.g-index l.gs)) (look l.scope) (built l.out)) ≡ make_gens_in l.cx (generators l.gs) (look l.scope) (built l.initial.out)

abbrev pub invariant-lower_block-loop-s : goal.invariant-lower_block-loop-s
invariant-lower_block-loop-s l =
    make_block_in l.cx (block (drop l.s-index l.ss)) (look l.scope) (built l.out) ≡ make_block_in l.cx (block l.ss) (look l.initial.scope) (built l.initial.out)
