use Rattle.std.proofs.Common.{rules, ◌≡◌, ℕ, ◌<◌, ◌+◌, ◌++◌, List, [], ◌∷◌, Bor, Option, Some, None, refl, sym, ap, ◌∙◌, subst, length, take, drop}
use Rattle.std.specs.Prelude.{IfOk, OnOk}
use Rattle.std.proofs.Math.Seq.{take-length}
use Rattle.sac_ast.specs.Tree
use Rattle.sac_ast.specs.View.{expr, exprs, stmt, block, bound, maybe, index_view, generators, operation}
use Rattle.sac_ast.proofs.Views.{expr_literal, expr_unary, expr_binary, expr_select, expr_builtin, expr_call, expr_choice, expr_with, stmt_assign, stmt_replace, stmt_if, stmt_while, stmt_do, generator_is, operation_genarray, operation_fold}
use Rattle.check_rules.specs.Accepted.{Known, with_names, target_names, no_names, index_targets, bound_after, bound_behind, base_of, bind, is_fold}
use Rattle.check_rules.specs.declared.violation.Violation.{Violation}
use Rattle.check_rules.specs.First.{earlier, unless}
use Rattle.check_rules.specs.declared.code.CheckCode.TheVariants.{C4}
use Rattle.sac_base.specs.declared.base.Base.TheVariants.{Int, Bool as Truth}
use Rattle.sac_base.specs.Operators.{result_base}
use Rattle.sac_ast.specs.Bases.{agree, are_int, first_base, literal_base, builtin_base, may_be, operand_base, operands_fit}
use Rattle.check_walk.specs.Found.{found_base}
use Rattle.check_rules.specs.Places.{place}
use Rattle.check_rules.specs.Tables.{among, has, with_common, entered}
use Rattle.check_rules.specs.Walk.{Judgement, builtin_rules, in_value, in_values, in_generator, in_generators, in_operation, in_inside, in_statement, in_block, in_targets, in_bound, in_maybe, in_index_names, in_branches, condition_first, choice_first, choice_found, call_first, call_bases, first_cell, cell_rules, repeated_targets, bound_by_both}
use Rattle.check_rules.proofs.Places.{kept_twice}
use Rattle.check_walk.proofs.Walks.{values_first, values_bases, values_known, generators_first, generators_cells, generators_known, block_first, block_known, block_names, called_first, called_known, plain_first, plain_known, replaced_from, both_bound}
use Rattle.check_walk.proofs.walk.+walk.Goals as goal

pub expressions-loop-e-preserved : goal.expressions-loop-e-preserved
expressions-loop-e-preserved t c =
    let p = place c.args.here.now in
    let es = c.args.es.now in
    let k = c.loop-e.e-index in
    let e = c.e-item.result in
    let below : k < length es = search rules in
    let told = c.in_ok-one.ensures in
    let b = among c.loop-e.bound.trail.items in
    let b' = among c.expression.new.bound.trail.items in
    let n = entered c.loop-e.known in
    let n' = entered c.expression.new.known in
    let same : b' ≡ b = ap among told.kept in
    record {
      first = ap (λ r. earlier r (in_values p (exprs (drop (k + 1) es)) b' n').first) c.earlier-first.ensures
          ∙ values_first p es k e below c.e-item.is b b' n n' same told.known c.loop-e.first c.in_ok-one.one.first told.first ∙ c.loop-e.invariant.first;
      bases = ap (λ bs. bs ++ (in_values p (exprs (drop (k + 1) es)) b' n').bases) c.in_ok-push.ensures.items
          ∙ values_bases p es k e below c.e-item.is b b' n n' same told.known c.loop-e.bases.items c.in_ok-one.one.base told.base ∙ c.loop-e.invariant.bases;
      known = values_known p es k e below c.e-item.is b b' n n' same told.known ∙ c.loop-e.invariant.known;
      kept = told.kept ∙ c.loop-e.invariant.kept;
    }

pub generators-loop-g-preserved : goal.generators-loop-g-preserved
generators-loop-g-preserved t c =
    let p = place c.args.here.now in
    let gs = c.args.gs.now in
    let folds = c.args.folds in
    let k = c.loop-g.g-index in
    let g = c.g-item.result in
    let below : k < length gs = search rules in
    let told = c.in_ok-one.ensures in
    let b = among c.loop-g.bound.trail.items in
    let b' = among c.generator.new.bound.trail.items in
    let n = entered c.loop-g.known in
    let n' = entered c.generator.new.known in
    let same : b' ≡ b = ap among told.kept in
    record {
      first = ap (λ r. earlier r (in_generators p (generators (drop (k + 1) gs)) folds b' n').first) c.earlier-first.ensures
          ∙ generators_first p gs folds k g below c.g-item.is b b' n n' same told.known c.loop-g.first c.in_ok-one.one.first told.first ∙ c.loop-g.invariant.first;
      cells = ap (λ cs. cs ++ (in_generators p (generators (drop (k + 1) gs)) folds b' n').cells) c.in_ok-push.ensures.items
          ∙ generators_cells p gs folds k g below c.g-item.is b b' n n' same told.known c.loop-g.cells.items c.in_ok-one.one.cell told.cell ∙ c.loop-g.invariant.cells;
      known = generators_known p gs folds k g below c.g-item.is b b' n n' same told.known ∙ c.loop-g.invariant.known;
      kept = told.kept ∙ c.loop-g.invariant.kept;
    }

pub block-loop-s-preserved : goal.block-loop-s-preserved
block-loop-s-preserved t c =
    let p = place c.args.here.now in
    let ss = c.args.ss.now in
    let k = c.loop-s.s-index in
    let s = c.s-item.result in
    let below : k < length ss = search rules in
    let told = c.in_ok-one.ensures in
    let b = among c.loop-s.bound.trail.items in
    let b' = among c.statement.new.bound.trail.items in
    let n = entered c.loop-s.known in
    let n' = entered c.statement.new.known in
    record {
      first = ap (λ r. earlier r (in_block p (block (drop (k + 1) ss)) b' n').first) c.earlier-first.ensures
          ∙ block_first p ss k s below c.s-item.is b b' n n' told.names told.known c.loop-s.first c.in_ok-one.one told.first ∙ c.loop-s.invariant.first;
      known = block_known p ss k s below c.s-item.is b b' n n' told.names told.known ∙ c.loop-s.invariant.known;
      names = block_names p ss k s below c.s-item.is b b' n n' told.names told.known ∙ c.loop-s.invariant.names;
      kept = kept_twice c.args.bound.now.trail.items c.loop-s.bound.trail.items c.statement.new.bound.trail.items c.loop-s.invariant.kept told.kept;
    }

pub expression-returns-in_ok-elements-in-Literal : goal.expression-returns-in_ok-elements-in-Literal
expression-returns-in_ok-elements-in-Literal t c =
    let p = place c.args.here.now in
    let i = c.in-Literal in
    let b = among c.args.bound.now.trail.items in
    let n = entered c.args.known.now in
    let told = c.in_ok-elements-in-Literal.ensures in
    let tree = ap (λ es. Tree.literal (exprs es) i.site) c.deref.ensures.value ∙ sym (ap expr i.is ∙ expr_literal i.es i.site) in
    record {
      first = c.literal.ensures.first ∙ (λ j. earlier (unless (agree (told.bases j)) C4 i.site) (told.first j)) ∙ ap (λ e. (in_value p e b n).first) tree;
      base = c.literal.ensures.base ∙ (λ j. found_base (unless (agree (told.bases j)) C4 i.site) (told.first j) (literal_base (told.bases j))) ∙ ap (λ e. (in_value p e b n).base) tree;
      known = told.known ∙ ap (λ e. (in_value p e b n).known) tree;
      kept = told.kept;
    }

pub expression-returns-in_ok-operand-in-Unary : goal.expression-returns-in_ok-operand-in-Unary
expression-returns-in_ok-operand-in-Unary t c =
    let p = place c.args.here.now in
    let i = c.in-Unary in
    let b = among c.args.bound.now.trail.items in
    let n = entered c.args.known.now in
    let told = c.in_ok-operand-in-Unary.ensures in
    let tree = (λ j. Tree.unary i.op (expr (c.deref-in-Unary.ensures j)) i.site) ∙ sym (ap expr i.is ∙ expr_unary i.op i.e i.site) in
    record {
      first = c.unary.ensures.first ∙ (λ j. earlier (unless (may_be (operand_base i.op) (told.base j)) C4 i.site) (told.first j)) ∙ ap (λ e. (in_value p e b n).first) tree;
      base = c.unary.ensures.base ∙ (λ j. found_base (unless (may_be (operand_base i.op) (told.base j)) C4 i.site) (told.first j) (Some (result_base i.op))) ∙ ap (λ e. (in_value p e b n).base) tree;
      known = told.known ∙ ap (λ e. (in_value p e b n).known) tree;
      kept = told.kept;
    }

pub expression-returns-in_ok-right-in-Binary : goal.expression-returns-in_ok-right-in-Binary
expression-returns-in_ok-right-in-Binary t c =
    let p = place c.args.here.now in
    let i = c.in-Binary in
    let b = among c.args.bound.now.trail.items in
    let n = entered c.args.known.now in
    let one = c.in_ok-left-in-Binary.ensures in
    let told = c.in_ok-right-in-Binary.ensures in
    let last = expr c.deref-in-Binary-2.result.now in
    let behind : in_value p last (among c.expression-in-Binary.new.bound.trail.items) (entered c.expression-in-Binary.new.known) ≡ in_value p last b (in_value p (expr c.deref-in-Binary.result.now) b n).known =
    (λ j. in_value p last (among (one.kept j)) (one.known j)) in
    let first = told.first ∙ ap (λ (r : Judgement). r.first) behind in
    let base = told.base ∙ ap (λ (r : Judgement). r.base) behind in
    let tree = (λ j. Tree.binary i.op (expr (c.deref-in-Binary.ensures j)) (expr (c.deref-in-Binary-2.ensures j)) i.site) ∙ sym (ap expr i.is ∙ expr_binary i.op i.e i.f i.site) in
    record {
      first = c.binary.ensures.first ∙ (λ j. earlier (unless (operands_fit i.op (one.base j) (base j)) C4 i.site) (earlier (one.first j) (first j))) ∙ ap (λ e. (in_value p e b n).first) tree;
      base = c.binary.ensures.base ∙ (λ j. found_base (unless (operands_fit i.op (one.base j) (base j)) C4 i.site) (earlier (one.first j) (first j)) (Some (result_base i.op))) ∙ ap (λ e. (in_value p e b n).base) tree;
      known = told.known ∙ ap (λ (r : Judgement). r.known) behind ∙ ap (λ e. (in_value p e b n).known) tree;
      kept = told.kept ∙ one.kept;
    }

pub expression-returns-in_ok-index-in-Select : goal.expression-returns-in_ok-index-in-Select
expression-returns-in_ok-index-in-Select t c =
    let p = place c.args.here.now in
    let i = c.in-Select in
    let b = among c.args.bound.now.trail.items in
    let n = entered c.args.known.now in
    let one = c.in_ok-array-in-Select.ensures in
    let told = c.in_ok-index-in-Select.ensures in
    let last = expr c.deref-in-Select-2.result.now in
    let behind : in_value p last (among c.expression-in-Select.new.bound.trail.items) (entered c.expression-in-Select.new.known) ≡ in_value p last b (in_value p (expr c.deref-in-Select.result.now) b n).known =
    (λ j. in_value p last (among (one.kept j)) (one.known j)) in
    let first = told.first ∙ ap (λ (r : Judgement). r.first) behind in
    let base = told.base ∙ ap (λ (r : Judgement). r.base) behind in
    let tree = (λ j. Tree.select (expr (c.deref-in-Select.ensures j)) (expr (c.deref-in-Select-2.ensures j)) i.site) ∙ sym (ap expr i.is ∙ expr_select i.e i.i i.site) in
    record {
      first = c.selection.ensures.first ∙ (λ j. earlier (unless (may_be Int (base j)) C4 i.site) (earlier (one.first j) (first j))) ∙ ap (λ e. (in_value p e b n).first) tree;
      base = c.selection.ensures.base ∙ (λ j. found_base (unless (may_be Int (base j)) C4 i.site) (earlier (one.first j) (first j)) (one.base j)) ∙ ap (λ e. (in_value p e b n).base) tree;
      known = told.known ∙ ap (λ (r : Judgement). r.known) behind ∙ ap (λ e. (in_value p e b n).known) tree;
      kept = told.kept ∙ one.kept;
    }

pub expression-returns-in_ok-args-in-Builtin : goal.expression-returns-in_ok-args-in-Builtin
expression-returns-in_ok-args-in-Builtin t c =
    let p = place c.args.here.now in
    let i = c.in-Builtin in
    let b = among c.args.bound.now.trail.items in
    let n = entered c.args.known.now in
    let told = c.in_ok-args-in-Builtin.ensures in
    let tree = ap (λ es. Tree.builtin i.builtin (exprs es) i.site) c.deref-in-Builtin.ensures.value ∙ sym (ap expr i.is ∙ expr_builtin i.builtin i.es i.site) in
    record {
      first = c.built_in.ensures.first ∙ (λ j. earlier (builtin_rules i.builtin (told.bases j) i.site) (told.first j)) ∙ ap (λ e. (in_value p e b n).first) tree;
      base = c.built_in.ensures.base ∙ (λ j. found_base (builtin_rules i.builtin (told.bases j) i.site) (told.first j) (builtin_base i.builtin (told.bases j))) ∙ ap (λ e. (in_value p e b n).base) tree;
      known = told.known ∙ ap (λ e. (in_value p e b n).known) tree;
      kept = told.kept;
    }

pub assign-returns-in_ok-called-in-Call : goal.assign-returns-in_ok-called-in-Call
assign-returns-in_ok-called-in-Call t c =
    let p = place c.args.here.now in
    let i = c.in-Call in
    let targets = c.args.targets.now in
    let start = c.args.bound.now.trail.items in
    let b = among start in
    let n = entered c.args.known.now in
    let n1 = entered c.expressions.new.known in
    let told = c.in_ok-args-in-Call.ensures in
    let args = c.in_ok-args-in-Call.args in
    let called = c.in_ok-called-in-Call.called in
    let result = c.in_ok-called-in-Call.ensures in
    let bases = c.deref-in-Call.result.now in
    let whole = c.bind_values in
    let after = whole.new.bound.trail.items in
    let es = exprs c.deref.result.now in
    let twice = repeated_targets no_names targets in
    let rest = in_targets targets bases n1 in
    let tree = ap (λ es. Tree.call i.name (exprs es) i.site) c.deref.ensures.value ∙ sym (ap expr i.is ∙ expr_call i.name i.es i.site) in
    record {
      first = subst (λ (v : Option Violation). IfOk whole.result (λ r. r ≡ v))
          (called_first p targets i.name es i.site b n n1 args.first called.first twice rest.first args.bases.items bases told.first told.bases told.known
          (c.deref-in-Call.ensures.value ∙ result.bases) result.first refl refl
          ∙ ap (λ e. (in_statement p (Tree.assign targets e) b n).first) tree) whole.ensures.first;
      known = subst (λ (v : Known). OnOk whole.result (entered whole.new.known ≡ v))
          (called_known p targets i.name es i.site b n n1 args.first called.first twice rest.first args.bases.items bases told.first told.bases told.known
          (c.deref-in-Call.ensures.value ∙ result.bases) rest.known refl
          ∙ ap (λ e. (in_statement p (Tree.assign targets e) b n).known) tree) whole.ensures.known;
      names = subst (λ (ts : List (Bor (List ℕ))). OnOk whole.result (among after ≡ with_names (target_names targets) (among ts))) told.kept whole.ensures.names;
      kept = subst (λ (ts : List (Bor (List ℕ))). OnOk whole.result (take (length ts) after ≡ ts)) told.kept whole.ensures.kept;
    }

pub assign-returns-in_ok-value-in_default : goal.assign-returns-in_ok-value-in_default
assign-returns-in_ok-value-in_default t c =
    let p = place c.args.here.now in
    let targets = c.args.targets.now in
    let e = c.args.e.now in
    let start = c.args.bound.now.trail.items in
    let b = among start in
    let n = entered c.args.known.now in
    let n1 = entered c.expression.new.known in
    let told = c.in_ok-value-in_default.ensures in
    let value = c.in_ok-value-in_default.value in
    let whole = c.bind_values-in_default in
    let after = whole.new.bound.trail.items in
    let twice = repeated_targets no_names targets in
    let rest = in_targets targets (value.base ∷ []) n1 in
    record {
      first = subst (λ (v : Option Violation). IfOk whole.result (λ r. r ≡ v))
          (ap (λ own. earlier (earlier own twice) rest.first) c.earlier-own.ensures
          ∙ plain_first p targets e c.in_default.not-Call b n n1 value.base told.base told.known c.several_targets.result value.first twice rest.first
          c.several_targets.ensures told.first refl refl) whole.ensures.first;
      known = subst (λ (v : Known). OnOk whole.result (entered whole.new.known ≡ v))
          (plain_known p targets e c.in_default.not-Call b n n1 value.base told.base told.known rest.known refl) whole.ensures.known;
      names = subst (λ (ts : List (Bor (List ℕ))). OnOk whole.result (among after ≡ with_names (target_names targets) (among ts))) told.kept whole.ensures.names;
      kept = subst (λ (ts : List (Bor (List ℕ))). OnOk whole.result (take (length ts) after ≡ ts)) told.kept whole.ensures.kept;
    }

pub branches-returns-clause-names : goal.branches-returns-clause-names
branches-returns-clause-names t c =
    let start = c.args.bound.now.trail.items in
    let mark = c.mark-mark.result in
    let one = c.block.new.bound.trail.items in
    let other = c.block-2.new.bound.trail.items in
    let first = has c.in_ok-first.first in
    let second = among (drop mark other) in
    let front = ap (λ k. take k one) c.mark-mark.ensures ∙ c.in_ok-one.ensures.kept in
    let back : c.taken.new.bound.trail.items ≡ start = c.in_ok-first.ensures.left ∙ front in
    let again = ap (λ k. take k other) c.mark-mark.ensures ∙ subst (λ (ts : List (Bor (List ℕ))). take (length ts) other ≡ ts) back c.in_ok-other.ensures.kept in
    c.in_ok-bind_common.ensures.names
    ∙ ap (λ ts. with_common first second (among ts)) again
    ∙ both_bound start one other mark (block c.args.yes.now) (block c.args.no.now) first second front again c.in_ok-first.ensures.names refl c.in_ok-one.ensures.names
    (c.in_ok-other.ensures.names ∙ ap (λ ts. bound_behind (block c.args.no.now) (among ts)) back)

pub branches-returns-clause-kept : goal.branches-returns-clause-kept
branches-returns-clause-kept t c =
    let start = c.args.bound.now.trail.items in
    let one = c.block.new.bound.trail.items in
    let other = c.block-2.new.bound.trail.items in
    let front = ap (λ k. take k one) c.mark-mark.ensures ∙ c.in_ok-one.ensures.kept in
    let back : c.taken.new.bound.trail.items ≡ start = c.in_ok-first.ensures.left ∙ front in
    let again = ap (λ k. take k other) c.mark-mark.ensures ∙ subst (λ (ts : List (Bor (List ℕ))). take (length ts) other ≡ ts) back c.in_ok-other.ensures.kept in
    subst (λ (ts : List (Bor (List ℕ))). take (length ts) c.bind_common.new.bound.trail.items ≡ ts) again c.in_ok-bind_common.ensures.kept

pub statement-returns-in-Assign-clause-first : goal.statement-returns-in-Assign-clause-first
statement-returns-in-Assign-clause-first t c =
    let p = place c.args.here.now in
    let i = c.in-Assign in
    let b = among c.args.bound.now.trail.items in
    let n = entered c.args.known.now in
    let tree = ap (λ ts. Tree.assign ts (expr i.value)) c.deref.ensures.value ∙ sym (ap stmt i.is ∙ stmt_assign i.targets i.value) in
    subst (λ (s : Tree.Stmt). IfOk c.assign.result (λ r. r ≡ (in_statement p s b n).first)) tree c.assign.ensures.first

pub statement-returns-in-Assign-clause-known : goal.statement-returns-in-Assign-clause-known
statement-returns-in-Assign-clause-known t c =
    let p = place c.args.here.now in
    let i = c.in-Assign in
    let b = among c.args.bound.now.trail.items in
    let n = entered c.args.known.now in
    let tree = ap (λ ts. Tree.assign ts (expr i.value)) c.deref.ensures.value ∙ sym (ap stmt i.is ∙ stmt_assign i.targets i.value) in
    subst (λ (s : Tree.Stmt). OnOk c.assign.result (entered c.assign.new.known ≡ (in_statement p s b n).known)) tree c.assign.ensures.known

pub statement-returns-in_ok-own_base-in-Replace-clause-first : goal.statement-returns-in_ok-own_base-in-Replace-clause-first
statement-returns-in_ok-own_base-in-Replace-clause-first t c =
    let p = place c.args.here.now in
    let i = c.in-Replace in
    let b = among c.args.bound.now.trail.items in
    let n = entered c.args.known.now in
    let at = c.in_ok-place-in-Replace in
    let to = c.in_ok-value-in-Replace in
    let own = c.in_ok-own_base-in-Replace in
    c.replacement.ensures
    ∙ replaced_from p i.target i.bracket (expr i.index) (expr i.e) b (among c.expression.new.bound.trail.items) n (entered c.expression.new.known) (entered c.expression-in-Replace.new.known) (entered c.bind_replaced.new.known)
    c.use_rules-own.result at.place.first to.value.first at.place.base to.value.base own.own_base c.use_rules-own.ensures
    at.ensures.first at.ensures.base at.ensures.known (ap among at.ensures.kept)
    to.ensures.first to.ensures.base to.ensures.known
    own.ensures.known (own.ensures.base ∙ ap (λ m. base_of m i.target.name) (sym own.ensures.known))
    ∙ ap (λ s. (in_statement p s b n).first) (sym (ap stmt i.is ∙ stmt_replace i.target i.bracket i.index i.e))

pub limits-returns : goal.limits-returns
limits-returns t c =
    let p = place c.args.here.now in
    let g = c.args.g.now in
    let folds = c.args.folds in
    let targets = index_targets (index_view g.index) in
    let upper = bound g.upper in
    let int = Some Int in
    let one = c.in_ok-least.ensures in
    let two = c.in_ok-indices.ensures in
    let three = c.in_ok-most.ensures in
    let four = c.in_ok-steps.ensures in
    let five = c.in_ok-widths.ensures in
    let kept3 = three.kept ∙ one.kept in
    let kept4 = four.kept ∙ kept3 in
    let first2 = two.first ∙ (λ j. earlier (repeated_targets no_names targets) (in_index_names targets (one.known j)).first) in
    let known2 = two.known ∙ (λ j. (in_index_names targets (one.known j)).known) in
    let first3 = three.first ∙ (λ j. (in_bound p upper folds (among (one.kept j)) (known2 j)).first) in
    let base3 = three.base ∙ (λ j. (in_bound p upper folds (among (one.kept j)) (known2 j)).base) in
    let known3 = three.known ∙ (λ j. (in_bound p upper folds (among (one.kept j)) (known2 j)).known) in
    let first4 = four.first ∙ (λ j. (in_maybe p (maybe g.step) int (among (kept3 j)) (known3 j)).first) in
    let base4 = four.base ∙ (λ j. (in_maybe p (maybe g.step) int (among (kept3 j)) (known3 j)).base) in
    let known4 = four.known ∙ (λ j. (in_maybe p (maybe g.step) int (among (kept3 j)) (known3 j)).known) in
    let first5 = five.first ∙ (λ j. (in_maybe p (maybe g.width) int (among (kept4 j)) (known4 j)).first) in
    let base5 = five.base ∙ (λ j. (in_maybe p (maybe g.width) int (among (kept4 j)) (known4 j)).base) in
    record {
      first = c.limits_found.ensures.first ∙ (λ j. earlier (earlier (earlier (earlier (one.first j) (first2 j)) (first3 j)) (first4 j)) (first5 j));
      fits = c.limits_found.ensures.fits ∙ (λ j. are_int (one.base j) (base3 j) (base4 j) (base5 j));
      known = five.known ∙ (λ j. (in_maybe p (maybe g.width) int (among (kept4 j)) (known4 j)).known);
      kept = five.kept ∙ kept4;
    }

pub statement-returns-in_ok-blocks-in-If-clause-first : goal.statement-returns-in_ok-blocks-in-If-clause-first
statement-returns-in_ok-blocks-in-If-clause-first t c =
    let p = place c.args.here.now in
    let i = c.in-If in
    let b = among c.args.bound.now.trail.items in
    let n = entered c.args.known.now in
    let one = c.in_ok-test-in-If.ensures in
    let two = c.in_ok-blocks-in-If.ensures in
    let yes' = block c.deref-in-If.result.now in
    let no' = block c.deref-in-If-2.result.now in
    let tree = (λ j. Tree.if_else (expr i.cond) (block (c.deref-in-If.ensures.value j)) (block (c.deref-in-If-2.ensures.value j)) i.site) ∙ sym (ap stmt i.is ∙ stmt_if i.cond i.yes i.no i.site) in
    let test = c.condition.ensures ∙ (λ j. condition_first (one.first j) (one.base j) i.site) in
    let inside = two.first ∙ (λ j. (in_branches p yes' no' (among (one.kept j)) (one.known j)).first) in
    c.earlier.ensures ∙ (λ j. earlier (test j) (inside j)) ∙ ap (λ s. (in_statement p s b n).first) tree

pub statement-returns-in_ok-blocks-in-If-clause-known : goal.statement-returns-in_ok-blocks-in-If-clause-known
statement-returns-in_ok-blocks-in-If-clause-known t c =
    let p = place c.args.here.now in
    let i = c.in-If in
    let b = among c.args.bound.now.trail.items in
    let n = entered c.args.known.now in
    let one = c.in_ok-test-in-If.ensures in
    let two = c.in_ok-blocks-in-If.ensures in
    let yes' = block c.deref-in-If.result.now in
    let no' = block c.deref-in-If-2.result.now in
    let tree = (λ j. Tree.if_else (expr i.cond) (block (c.deref-in-If.ensures.value j)) (block (c.deref-in-If-2.ensures.value j)) i.site) ∙ sym (ap stmt i.is ∙ stmt_if i.cond i.yes i.no i.site) in
    two.known ∙ (λ j. (in_branches p yes' no' (among (one.kept j)) (one.known j)).known) ∙ ap (λ s. (in_statement p s b n).known) tree

pub statement-returns-in_ok-turn-in-While-clause-first : goal.statement-returns-in_ok-turn-in-While-clause-first
statement-returns-in_ok-turn-in-While-clause-first t c =
    let p = place c.args.here.now in
    let i = c.in-While in
    let b = among c.args.bound.now.trail.items in
    let n = entered c.args.known.now in
    let one = c.in_ok-test-in-While.ensures in
    let two = c.in_ok-turn-in-While.ensures in
    let body = block c.deref-in-While.result.now in
    let tree = ap (λ ss. Tree.while_do (expr i.cond) (block ss) i.site) c.deref-in-While.ensures.value ∙ sym (ap stmt i.is ∙ stmt_while i.cond i.body i.site) in
    let test = c.condition-in-While.ensures ∙ (λ j. condition_first (one.first j) (one.base j) i.site) in
    let turn = two.first ∙ (λ j. (in_block p body (among (one.kept j)) (one.known j)).first) in
    c.earlier-in-While.ensures ∙ (λ j. earlier (test j) (turn j)) ∙ ap (λ s. (in_statement p s b n).first) tree

pub statement-returns-in_ok-turn-in-While-clause-known : goal.statement-returns-in_ok-turn-in-While-clause-known
statement-returns-in_ok-turn-in-While-clause-known t c =
    let p = place c.args.here.now in
    let i = c.in-While in
    let b = among c.args.bound.now.trail.items in
    let n = entered c.args.known.now in
    let one = c.in_ok-test-in-While.ensures in
    let two = c.in_ok-turn-in-While.ensures in
    let body = block c.deref-in-While.result.now in
    let tree = ap (λ ss. Tree.while_do (expr i.cond) (block ss) i.site) c.deref-in-While.ensures.value ∙ sym (ap stmt i.is ∙ stmt_while i.cond i.body i.site) in
    two.known ∙ (λ j. (in_block p body (among (one.kept j)) (one.known j)).known) ∙ ap (λ s. (in_statement p s b n).known) tree

pub statement-returns-in_ok-blocks-in-If-clause-names : goal.statement-returns-in_ok-blocks-in-If-clause-names
statement-returns-in_ok-blocks-in-If-clause-names t c =
    let i = c.in-If in
    let b = among c.args.bound.now.trail.items in
    c.in_ok-blocks-in-If.ensures.names
    ∙ (λ j. bound_by_both (block (c.deref-in-If.ensures.value j)) (block (c.deref-in-If-2.ensures.value j)) (among (c.in_ok-test-in-If.ensures.kept j)))
    ∙ ap (λ s. bound_after s b) (sym (ap stmt i.is ∙ stmt_if i.cond i.yes i.no i.site))

pub expression-returns-in_ok-second-in-Choice : goal.expression-returns-in_ok-second-in-Choice
expression-returns-in_ok-second-in-Choice t c =
    let p = place c.args.here.now in
    let i = c.in-Choice in
    let b = among c.args.bound.now.trail.items in
    let n = entered c.args.known.now in
    let one = c.in_ok-test-in-Choice.ensures in
    let two = c.in_ok-first-in-Choice.ensures in
    let three = c.in_ok-second-in-Choice.ensures in
    let e = expr c.deref-in-Choice-2.result.now in
    let f = expr c.deref-in-Choice-3.result.now in
    let kept2 = two.kept ∙ one.kept in
    let first2 = two.first ∙ (λ j. (in_value p e (among (one.kept j)) (one.known j)).first) in
    let base2 = two.base ∙ (λ j. (in_value p e (among (one.kept j)) (one.known j)).base) in
    let known2 = two.known ∙ (λ j. (in_value p e (among (one.kept j)) (one.known j)).known) in
    let first3 = three.first ∙ (λ j. (in_value p f (among (kept2 j)) (known2 j)).first) in
    let base3 = three.base ∙ (λ j. (in_value p f (among (kept2 j)) (known2 j)).base) in
    let known3 = three.known ∙ (λ j. (in_value p f (among (kept2 j)) (known2 j)).known) in
    let tree = (λ j. Tree.choice (expr (c.deref-in-Choice.ensures j)) (expr (c.deref-in-Choice-2.ensures j)) (expr (c.deref-in-Choice-3.ensures j)) i.site) ∙ sym (ap expr i.is ∙ expr_choice i.c i.e i.f i.site) in
    record {
      first = c.choice.ensures.first ∙ (λ j. choice_first (one.first j) (one.base j) (first2 j) (base2 j) (first3 j) (base3 j) i.site) ∙ ap (λ e. (in_value p e b n).first) tree;
      base = c.choice.ensures.base ∙ (λ j. choice_found (one.first j) (one.base j) (first2 j) (base2 j) (first3 j) (base3 j) i.site) ∙ ap (λ e. (in_value p e b n).base) tree;
      known = known3 ∙ ap (λ e. (in_value p e b n).known) tree;
      kept = three.kept ∙ kept2;
    }

pub expression-returns-in_ok-results-in-Call : goal.expression-returns-in_ok-results-in-Call
expression-returns-in_ok-results-in-Call t c =
    let p = place c.args.here.now in
    let i = c.in-Call in
    let b = among c.args.bound.now.trail.items in
    let n = entered c.args.known.now in
    let told = c.in_ok-args-in-Call.ensures in
    let result = c.in_ok-results-in-Call.ensures in
    let tree = ap (λ es. Tree.call i.name (exprs es) i.site) c.deref-in-Call.ensures.value ∙ sym (ap expr i.is ∙ expr_call i.name i.es i.site) in
    record {
      first = result.first ∙ (λ j. call_first p i.name (told.first j) (told.bases j) 1 i.site) ∙ ap (λ e. (in_value p e b n).first) tree;
      base = c.first_base.ensures ∙ ap first_base (c.deref-in-Call-2.ensures.value ∙ result.bases)
          ∙ (λ j. first_base (call_bases p i.name (told.first j) (told.bases j) 1 i.site)) ∙ ap (λ e. (in_value p e b n).base) tree;
      known = told.known ∙ ap (λ e. (in_value p e b n).known) tree;
      kept = told.kept;
    }

pub expression-returns-in_ok-cells-in-With : goal.expression-returns-in_ok-cells-in-With
expression-returns-in_ok-cells-in-With t c =
    let p = place c.args.here.now in
    let i = c.in-With in
    let b = among c.args.bound.now.trail.items in
    let n = entered c.args.known.now in
    let one = c.in_ok-loops-in-With.ensures in
    let two = c.in_ok-cells-in-With.ensures in
    let gs = generators c.deref-in-With.result.now in
    let op = operation c.deref-in-With-3.result.now in
    let folds = c.is_fold.ensures ∙ (λ j. is_fold (operation ((c.deref-in-With-2.ensures ∙ sym c.deref-in-With-3.ensures) j))) in
    let first1 = one.first ∙ (λ j. (in_generators p gs (folds j) b n).first) in
    let cells1 = one.cells ∙ (λ j. (in_generators p gs (folds j) b n).cells) in
    let known1 = one.known ∙ (λ j. (in_generators p gs (folds j) b n).known) in
    let cell = c.first_cell.ensures ∙ ap first_cell (c.deref-in-With-4.ensures.value ∙ cells1) in
    let first2 = two.first ∙ (λ j. (in_operation p op (cell j) (among (one.kept j)) (known1 j)).first) in
    let base2 = two.base ∙ (λ j. (in_operation p op (cell j) (among (one.kept j)) (known1 j)).base) in
    let known2 = two.known ∙ (λ j. (in_operation p op (cell j) (among (one.kept j)) (known1 j)).known) in
    let tree = (λ j. Tree.with_loop (generators (c.deref-in-With.ensures.value j)) (operation (c.deref-in-With-3.ensures j)) i.field-2) ∙ sym (ap expr i.is ∙ expr_with i.gs i.op i.field-2) in
    record {
      first = c.with_loop.ensures.first ∙ (λ j. earlier (cell_rules (base2 j) (cells1 j)) (earlier (first1 j) (first2 j))) ∙ ap (λ e. (in_value p e b n).first) tree;
      base = c.with_loop.ensures.base ∙ (λ j. found_base (cell_rules (base2 j) (cells1 j)) (earlier (first1 j) (first2 j)) (base2 j)) ∙ ap (λ e. (in_value p e b n).base) tree;
      known = known2 ∙ ap (λ e. (in_value p e b n).known) tree;
      kept = two.kept ∙ one.kept;
    }

pub inside-returns : goal.inside-returns
inside-returns t c =
    let p = place c.args.here.now in
    let g = c.args.g.now in
    let start = c.args.bound.now.trail.items in
    let n = entered c.args.known.now in
    let pushed = c.in_ok-push_targets.ensures in
    let one = c.in_ok-body.ensures in
    let two = c.in_ok-cell.ensures in
    let names = pushed.names ∙ (λ j. with_names (target_names (c.index_parts.ensures j)) (among start)) in
    let body = c.deref.ensures.value in
    let first1 = one.first ∙ (λ j. (in_block p (block (body j)) (names j) n).first) in
    let known1 = one.known ∙ (λ j. (in_block p (block (body j)) (names j) n).known) in
    let names1 = one.names ∙ (λ j. bound_behind (block (body j)) (names j)) in
    let cell = expr g.cell in
    record {
      first = c.earlier.ensures ∙ (λ j. earlier (first1 j) ((two.first ∙ (λ j. (in_value p cell (names1 j) (known1 j)).first)) j));
      base = two.base ∙ (λ j. (in_value p cell (names1 j) (known1 j)).base);
      known = two.known ∙ (λ j. (in_value p cell (names1 j) (known1 j)).known);
      kept = c.leave.ensures ∙ (λ j. take (c.mark-mark.ensures j) (two.kept j)) ∙ kept_twice start c.push_targets.new.bound.trail.items c.block.new.bound.trail.items pushed.kept one.kept;
    }

pub generator-returns : goal.generator-returns
generator-returns t c =
    let p = place c.args.here.now in
    let g = c.args.g.now in
    let folds = c.args.folds in
    let b = among c.args.bound.now.trail.items in
    let n = entered c.args.known.now in
    let one = c.in_ok-outside.ensures in
    let two = c.in_ok-within.ensures in
    let first2 = two.first ∙ (λ j. (in_inside p g (among (one.kept j)) (one.known j)).first) in
    let base2 = two.base ∙ (λ j. (in_inside p g (among (one.kept j)) (one.known j)).base) in
    let known2 = two.known ∙ (λ j. (in_inside p g (among (one.kept j)) (one.known j)).known) in
    let tree = sym (generator_is g) in
    record {
      first = c.earlier.ensures ∙ (λ j. earlier (one.first j) (first2 j)) ∙ ap (λ x. (in_generator p x folds b n).first) tree;
      cell = (λ j. record { fits = one.fits j; base = base2 j; site = g.site } ∷ []) ∙ ap (λ x. (in_generator p x folds b n).cells) tree;
      known = known2 ∙ ap (λ x. (in_generator p x folds b n).known) tree;
      kept = two.kept ∙ one.kept;
    }

pub operation-returns-in_ok-default-in-Genarray : goal.operation-returns-in_ok-default-in-Genarray
operation-returns-in_ok-default-in-Genarray t c =
    let p = place c.args.here.now in
    let i = c.in-Genarray in
    let cell = c.args.cell in
    let b = among c.args.bound.now.trail.items in
    let n = entered c.args.known.now in
    let one = c.in_ok-extents-in-Genarray.ensures in
    let two = c.in_ok-default-in-Genarray.ensures in
    let value = maybe i.default in
    let first2 = two.first ∙ (λ j. (in_maybe p value cell (among (one.kept j)) (one.known j)).first) in
    let base2 = two.base ∙ (λ j. (in_maybe p value cell (among (one.kept j)) (one.known j)).base) in
    let known2 = two.known ∙ (λ j. (in_maybe p value cell (among (one.kept j)) (one.known j)).known) in
    let own = c.unless-own.ensures ∙ (λ j. unless (c.may_be.ensures j) C4 i.site) ∙ (λ j. unless (may_be Int (one.base j)) C4 i.site) in
    let inner = c.earlier.ensures ∙ (λ j. earlier (own j) (one.first j)) in
    let tree = sym (ap operation i.is ∙ operation_genarray i.shape i.default i.site) in
    record {
      first = c.earlier-in-Genarray.ensures ∙ (λ j. earlier (inner j) (first2 j)) ∙ ap (λ o. (in_operation p o cell b n).first) tree;
      base = base2 ∙ ap (λ o. (in_operation p o cell b n).base) tree;
      known = known2 ∙ ap (λ o. (in_operation p o cell b n).known) tree;
      kept = two.kept ∙ one.kept;
    }

pub operation-returns-in_ok-neutral-in-Fold : goal.operation-returns-in_ok-neutral-in-Fold
operation-returns-in_ok-neutral-in-Fold t c =
    let p = place c.args.here.now in
    let i = c.in-Fold in
    let cell = c.args.cell in
    let b = among c.args.bound.now.trail.items in
    let n = entered c.args.known.now in
    let one = c.in_ok-neutral-in-Fold.ensures in
    let own = c.unless.ensures ∙ (λ j. unless (c.operands_fit-fits.ensures j) C4 i.site) ∙ (λ j. unless (operands_fit i.op (one.base j) (one.base j)) C4 i.site) in
    let tree = sym (ap operation i.is ∙ operation_fold i.op i.neutral i.site) in
    record {
      first = c.earlier-in-Fold.ensures ∙ (λ j. earlier (own j) (one.first j)) ∙ ap (λ o. (in_operation p o cell b n).first) tree;
      base = one.base ∙ ap (λ o. (in_operation p o cell b n).base) tree;
      known = one.known ∙ ap (λ o. (in_operation p o cell b n).known) tree;
      kept = one.kept;
    }

pub statement-returns-in_ok-again-in-Do : goal.statement-returns-in_ok-again-in-Do
statement-returns-in_ok-again-in-Do t c =
    let p = place c.args.here.now in
    let i = c.in-Do in
    let start = c.args.bound.now.trail.items in
    let b = among start in
    let n = entered c.args.known.now in
    let one = c.in_ok-turn-in-Do.ensures in
    let two = c.in_ok-again-in-Do.ensures in
    let cond = expr i.cond in
    let body = c.deref-in-Do.ensures.value in
    let turned = block c.deref-in-Do.result.now in
    let first2 = two.first ∙ (λ j. (in_value p cond (one.names j) (one.known j)).first) in
    let base2 = two.base ∙ (λ j. (in_value p cond (one.names j) (one.known j)).base) in
    let known2 = two.known ∙ (λ j. (in_value p cond (one.names j) (one.known j)).known) in
    let own = c.unless-own.ensures ∙ (λ j. unless (c.may_be.ensures j) C4 i.test) ∙ (λ j. unless (may_be Truth (base2 j)) C4 i.test) in
    let inner = c.earlier-in-Do.ensures ∙ (λ j. earlier (one.first j) (own j)) in
    let tree = (λ j. Tree.do_while (block (body j)) cond i.site i.test) ∙ sym (ap stmt i.is ∙ stmt_do i.body i.cond i.site i.test) in
    record {
      first = c.earlier-in-Do-2.ensures ∙ (λ j. earlier (inner j) (first2 j)) ∙ ap (λ s. (in_statement p s b n).first) tree;
      known = known2 ∙ ap (λ s. (in_statement p s b n).known) tree;
      names = ap among two.kept ∙ one.names ∙ ap (λ s. bound_after s b) tree;
      kept = (λ j. take (length start) (two.kept j)) ∙ one.kept;
    }

pub statement-returns-in_ok-turn-in-While-clause-kept : goal.statement-returns-in_ok-turn-in-While-clause-kept
statement-returns-in_ok-turn-in-While-clause-kept t c =
    let start = c.args.bound.now.trail.items in
    let whole : c.leave.new.self.trail.items ≡ start =
    c.leave.ensures ∙ ap (λ k. take k c.block.new.bound.trail.items) c.mark-mark.ensures ∙ c.in_ok-turn-in-While.ensures.kept ∙ c.in_ok-test-in-While.ensures.kept in
    ap (take (length start)) whole ∙ take-length start

pub statement-returns-in_ok-turn-in-While-clause-names : goal.statement-returns-in_ok-turn-in-While-clause-names
statement-returns-in_ok-turn-in-While-clause-names t c =
    let i = c.in-While in
    let start = c.args.bound.now.trail.items in
    let whole : c.leave.new.self.trail.items ≡ start =
    c.leave.ensures ∙ ap (λ k. take k c.block.new.bound.trail.items) c.mark-mark.ensures ∙ c.in_ok-turn-in-While.ensures.kept ∙ c.in_ok-test-in-While.ensures.kept in
    ap among whole ∙ ap (λ s. bound_after s (among start)) (sym (ap stmt i.is ∙ stmt_while i.cond i.body i.site))

pub statement-returns-in_ok-blocks-in-If-clause-kept : goal.statement-returns-in_ok-blocks-in-If-clause-kept
statement-returns-in_ok-blocks-in-If-clause-kept t c =
    subst (λ (ts : List (Bor (List ℕ))). take (length ts) c.branches.new.bound.trail.items ≡ ts) c.in_ok-test-in-If.ensures.kept c.in_ok-blocks-in-If.ensures.kept

pub statement-returns-in_ok-own_base-in-Replace-clause-known : goal.statement-returns-in_ok-own_base-in-Replace-clause-known
statement-returns-in_ok-own_base-in-Replace-clause-known t c =
    let p = place c.args.here.now in
    let i = c.in-Replace in
    let b = among c.args.bound.now.trail.items in
    let n = entered c.args.known.now in
    let one = c.in_ok-place-in-Replace.ensures in
    let two = c.in_ok-value-in-Replace.ensures in
    let known2 = two.known ∙ (λ j. (in_value p (expr i.e) (among (one.kept j)) (one.known j)).known) in
    c.in_ok-own_base-in-Replace.ensures.known ∙ (λ j. bind i.target.name None (known2 j))
    ∙ ap (λ s. (in_statement p s b n).known) (sym (ap stmt i.is ∙ stmt_replace i.target i.bracket i.index i.e))

pub statement-returns-in_ok-own_base-in-Replace-clause-names : goal.statement-returns-in_ok-own_base-in-Replace-clause-names
statement-returns-in_ok-own_base-in-Replace-clause-names t c =
    let i = c.in-Replace in
    let b = among c.args.bound.now.trail.items in
    c.in_ok-own_base-in-Replace.ensures.names
    ∙ (λ j. with_names (i.target.name ∷ []) (among ((c.in_ok-value-in-Replace.ensures.kept ∙ c.in_ok-place-in-Replace.ensures.kept) j)))
    ∙ ap (λ s. bound_after s b) (sym (ap stmt i.is ∙ stmt_replace i.target i.bracket i.index i.e))

pub statement-returns-in_ok-own_base-in-Replace-clause-kept : goal.statement-returns-in_ok-own_base-in-Replace-clause-kept
statement-returns-in_ok-own_base-in-Replace-clause-kept t c =
    subst (λ (ts : List (Bor (List ℕ))). take (length ts) c.bind_replaced.new.bound.trail.items ≡ ts) (c.in_ok-value-in-Replace.ensures.kept ∙ c.in_ok-place-in-Replace.ensures.kept) c.in_ok-own_base-in-Replace.ensures.kept

pub branches-returns-clause-first : goal.branches-returns-clause-first
branches-returns-clause-first t c =
    let p = place c.args.here.now in
    let no' = block c.args.no.now in
    let start = c.args.bound.now.trail.items in
    let one = c.in_ok-one.ensures in
    let two = c.in_ok-other.ensures in
    let front = ap (λ k. take k c.block.new.bound.trail.items) c.mark-mark.ensures ∙ one.kept in
    let back : c.taken.new.bound.trail.items ≡ start = c.in_ok-first.ensures.left ∙ front in
    let second = two.first ∙ (λ j. (in_block p no' (among (back j)) (one.known j)).first) in
    c.earlier.ensures ∙ (λ j. earlier (one.first j) (second j))

pub branches-returns-clause-known : goal.branches-returns-clause-known
branches-returns-clause-known t c =
    let p = place c.args.here.now in
    let no' = block c.args.no.now in
    let start = c.args.bound.now.trail.items in
    let one = c.in_ok-one.ensures in
    let two = c.in_ok-other.ensures in
    let front = ap (λ k. take k c.block.new.bound.trail.items) c.mark-mark.ensures ∙ one.kept in
    let back : c.taken.new.bound.trail.items ≡ start = c.in_ok-first.ensures.left ∙ front in
    two.known ∙ (λ j. (in_block p no' (among (back j)) (one.known j)).known)
