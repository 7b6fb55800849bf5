-- The function that a source's function becomes is scoped, and binds each variable once.
use Rattle.std.proofs.Common.{◌≡◌, ℕ, ◌+◌, List, [], ◌++◌, length, sym, subst, inl, arith}
use Rattle.sac_ast.specs.Tree.{FunctionTree}
use Rattle.sac_ast.specs.Bases.{base_in}
use Rattle.core_ir.specs.declared.tree.Var.{Var}
use Rattle.core_ir.specs.Terms.{Gives}
use Rattle.core_ir.specs.Binders.{bound_in}
use Rattle.core_ir.specs.Outcome.{param_vars}
use Rattle.core_ir.specs.Scopes.{Scoped}
use Rattle.core_ir.specs.WellFormed.{Distinct}
use Rattle.source_meaning.specs.Calls.{param_names}
use Rattle.core_lowering.specs.Lowering.{variables_from, pushed, lowered_block, lowered_all}
use Rattle.core_lowering.specs.Programs.{group_of, name_base, lowered_function}
use Rattle.core_lowering.proofs.Scopes.{Below, below_pushed}
use Rattle.core_lowering.proofs.Fresh.{grows_block, grows_all}
use Rattle.core_lowering.proofs.InScope.{ScopeIn, Clear, there_from, scope_pushed, more_scoped, scoped_all, scoped_block}
use Rattle.core_lowering.proofs.OnlyOnce.{Own, own_more, own_two, own_from, own_block, own_all, own_block_stmts}
use Rattle.core_lowering.proofs.Whole.{nothing_below, params_vars}

nothing_in : (vs : List Var) → ScopeIn [] vs
nothing_in vs name x p = absurd (cc)

pub function_scoped : (fs : List FunctionTree) (f : FunctionTree) → Scoped (param_vars (lowered_function fs f)) (lowered_function fs f).body
function_scoped fs f =
    let xs = param_names f in
    let n = length xs in
    let scope = pushed xs 0 [] in
    let vs = variables_from 0 n in
    let B = lowered_block (group_of fs) (base_in fs f) (name_base fs f) f.body scope n in
    let V = lowered_all (group_of fs) (base_in fs f) (name_base fs f) f.values B.scope B.next in
    let below : Below n scope = below_pushed xs 0 n [] (nothing_below 0) (omega arith) in
    let grown = grows_block (group_of fs) (base_in fs f) (name_base fs f) f.body scope n below in
    let values = grows_all (group_of fs) (base_in fs f) (name_base fs f) f.values B.scope B.next grown.below in
    let clear : Clear n V.next vs = λ y h. inl (let q = (there_from 0 n y h).1 in omega arith) in
    subst (λ (ws : List Var). Scoped ws (lowered_function fs f).body) (sym (params_vars 0 f.params))
    (more_scoped vs B.lets V.lets (Gives V.results)
    (scoped_block (group_of fs) (base_in fs f) (name_base fs f) f.body scope n V.next vs _ below (scope_pushed xs 0 [] vs (λ y h. h) (nothing_in vs)) clear values.later
    (λ ws l d s. scoped_all (group_of fs) (base_in fs f) (name_base fs f) f.values B.scope B.next V.next ws (Gives V.results) grown.below s d (omega arith) (λ us l' d' h. h))))

pub function_once : (fs : List FunctionTree) (f : FunctionTree) → Distinct (param_vars (lowered_function fs f) ++ bound_in (lowered_function fs f).body)
function_once fs f =
    let xs = param_names f in
    let n = length xs in
    let scope = pushed xs 0 [] in
    let B = lowered_block (group_of fs) (base_in fs f) (name_base fs f) f.body scope n in
    let V = lowered_all (group_of fs) (base_in fs f) (name_base fs f) f.values B.scope B.next in
    let below : Below n scope = below_pushed xs 0 n [] (nothing_below 0) (omega arith) in
    let grown = grows_block (group_of fs) (base_in fs f) (name_base fs f) f.body scope n below in
    let values = grows_all (group_of fs) (base_in fs f) (name_base fs f) f.values B.scope B.next grown.below in
    let later = grown.later in
    let last = values.later in
    let body = bound_in (lowered_function fs f).body in
    let whole : Own 0 V.next (variables_from 0 n ++ body) =
    own_more 0 n V.next (variables_from 0 n) body (omega arith) (omega arith) (own_zero n)
    (own_block n V.next (B.lets ++ V.lets) V.results (own_two n B.next V.next B.lets V.lets later last
    (own_block_stmts (group_of fs) (base_in fs f) (name_base fs f) f.body scope n below)
    (own_all (group_of fs) (base_in fs f) (name_base fs f) f.values B.scope B.next grown.below))) in
    subst (λ (ws : List Var). Distinct (ws ++ body)) (sym (params_vars 0 f.params)) whole.once
  where
    own_zero : (n : ℕ) → Own 0 n (variables_from 0 n)
    own_zero n = let same : 0 + n ≡ n = omega arith in subst (λ (m : ℕ). Own 0 m (variables_from 0 n)) same (own_from 0 n)
