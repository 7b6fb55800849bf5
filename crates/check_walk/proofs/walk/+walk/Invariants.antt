use Rattle.std.proofs.Common.{◌≡◌, ◌+◌, ◌*◌, ◌++◌, max, drop, take, length}
use Rattle.sac_ast.specs.declared.Expression.{size-Expression}
use Rattle.sac_ast.specs.declared.Statement.{size-Statement}
use Rattle.sac_ast.specs.declared.Generator.{size-Generator}
use Rattle.sac_ast.specs.declared.Bound.{size-Bound}
use Rattle.sac_ast.specs.declared.Operation.{size-Operation}
use Rattle.check_rules.specs.Accepted.{bound_behind}
use Rattle.sac_ast.specs.View.{exprs, generators, block}
use Rattle.check_rules.specs.First.{earlier}
use Rattle.check_rules.specs.Places.{place}
use Rattle.check_rules.specs.Tables.{among, entered}
use Rattle.check_rules.specs.Walk.{in_values, in_generators, in_block}
use Rattle.sac_ast.proofs.Lists.{exprs_size, block_size, cells_size, maybe_size}
use Rattle.check_walk.proofs.walk.+walk.Given as goal

abbrev pub decreases-expression : goal.decreases-expression
decreases-expression l = 4 * size-Expression l.e.now + 2

abbrev pub decreases-expressions : goal.decreases-expressions
decreases-expressions l = 4 * exprs_size l.es.now + 4

abbrev pub decreases-optional : goal.decreases-optional
decreases-optional l = 4 * maybe_size l.e.now + 3

abbrev pub decreases-limit : goal.decreases-limit
decreases-limit l = 4 * size-Bound l.b.now + 2

abbrev pub decreases-limits : goal.decreases-limits
decreases-limits l = 4 * size-Generator l.g.now + 2

abbrev pub decreases-inside : goal.decreases-inside
decreases-inside l = 4 * size-Generator l.g.now + 2

abbrev pub decreases-generator : goal.decreases-generator
decreases-generator l = 4 * size-Generator l.g.now + 3

abbrev pub decreases-generators : goal.decreases-generators
decreases-generators l = 4 * cells_size l.gs.now + 4

abbrev pub decreases-operation : goal.decreases-operation
decreases-operation l = 4 * size-Operation l.op.now + 2

abbrev pub decreases-statement : goal.decreases-statement
decreases-statement l = 4 * size-Statement l.s.now + 2

abbrev pub decreases-assign : goal.decreases-assign
decreases-assign l = 4 * size-Expression l.e.now + 3

abbrev pub decreases-branches : goal.decreases-branches
decreases-branches l = 4 * max (block_size l.yes.now) (block_size l.no.now) + 5

abbrev pub decreases-block : goal.decreases-block
decreases-block l = 4 * block_size l.ss.now + 4

abbrev pub invariant-expressions-loop-e : goal.invariant-expressions-loop-e
invariant-expressions-loop-e l = record {
  first : earlier l.first (in_values (place l.here) (exprs (drop l.e-index l.es)) (among l.bound.trail.items) (entered l.known)).first ≡ (in_values (place l.here) (exprs l.es) (among l.initial.bound.trail.items) (entered l.initial.known)).first;
  bases : l.bases.items ++ (in_values (place l.here) (exprs (drop l.e-index l.es)) (among l.bound.trail.items) (entered l.known)).bases ≡ (in_values (place l.here) (exprs l.es) (among l.initial.bound.trail.items) (entered l.initial.known)).bases;
  known : (in_values (place l.here) (exprs (drop l.e-index l.es)) (among l.bound.trail.items) (entered l.known)).known ≡ (in_values (place l.here) (exprs l.es) (among l.initial.bound.trail.items) (entered l.initial.known)).known;
  kept : l.bound.trail.items ≡ l.initial.bound.trail.items;
}

abbrev pub invariant-generators-loop-g : goal.invariant-generators-loop-g
invariant-generators-loop-g l = record {
  first : earlier l.first (in_generators (place l.here) (generators (drop l.g-index l.gs)) l.folds (among l.bound.trail.items) (entered l.known)).first ≡ (in_generators (place l.here) (generators l.gs) l.folds (among l.initial.bound.trail.items) (entered l.initial.known)).first;
  cells : l.cells.items ++ (in_generators (place l.here) (generators (drop l.g-index l.gs)) l.folds (among l.bound.trail.items) (entered l.known)).cells ≡ (in_generators (place l.here) (generators l.gs) l.folds (among l.initial.bound.trail.items) (entered l.initial.known)).cells;
  known : (in_generators (place l.here) (generators (drop l.g-index l.gs)) l.folds (among l.bound.trail.items) (entered l.known)).known ≡ (in_generators (place l.here) (generators l.gs) l.folds (among l.initial.bound.trail.items) (entered l.initial.known)).known;
  kept : l.bound.trail.items ≡ l.initial.bound.trail.items;
}

abbrev pub invariant-block-loop-s : goal.invariant-block-loop-s
invariant-block-loop-s l = record {
  first : earlier l.first (in_block (place l.here) (block (drop l.s-index l.ss)) (among l.bound.trail.items) (entered l.known)).first ≡ (in_block (place l.here) (block l.ss) (among l.initial.bound.trail.items) (entered l.initial.known)).first;
  known : (in_block (place l.here) (block (drop l.s-index l.ss)) (among l.bound.trail.items) (entered l.known)).known ≡ (in_block (place l.here) (block l.ss) (among l.initial.bound.trail.items) (entered l.initial.known)).known;
  names : bound_behind (block (drop l.s-index l.ss)) (among l.bound.trail.items) ≡ bound_behind (block l.ss) (among l.initial.bound.trail.items);
  kept : take (length l.initial.bound.trail.items) l.bound.trail.items ≡ l.initial.bound.trail.items;
}
