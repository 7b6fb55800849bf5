-- The meaning of expressions and statements.
use Rattle.std.specs.Prelude.{ℕ, zero, suc, ◌-◌, List, [], ◌∷◌, ℤ, pos, Option, Some, None, Result, Ok, Err, map, length}
use Rattle.sac_base.specs.declared.base.Base.{Base}
use Rattle.sac_base.specs.declared.base.Base.TheVariants.{Int, Bool as Truth}
use Rattle.sac_base.specs.declared.site.Site.{Site}
use Rattle.sac_base.specs.declared.faults.FaultKind.{FaultKind}
use Rattle.sac_base.specs.declared.faults.FaultKind.TheVariants.{F4, F9}
use Rattle.sac_base.specs.declared.name.Name.{Name}
use Rattle.sac_base.specs.Arrays.{ArrayValue, scalar, vector}
use Rattle.sac_base.specs.Operators.{unary, binary, of_truth}
use Rattle.sac_base.specs.Parts.{condition, select, replace, reshape, dim, shape_vector}
use Rattle.sac_base.specs.Parts
use Rattle.sac_ast.specs.declared.Target.{Target}
use Rattle.sac_ast.specs.declared.Builtin.{Builtin}
use Rattle.sac_ast.specs.declared.Builtin.TheVariants.{Dim, Shape, Reshape}
use Rattle.sac_ast.specs.Tree.{IndexTree, named, parts, Expr, Exprs, no_exprs, expr_and, MaybeExpr, left_out, given, Stmt, Block, no_stmts, stmt_and}
use Rattle.sac_ast.specs.Tree.{BoundTree, dot, at, Gen, gen, Gens, no_gens, gen_and, OperationTree, number, truth, variable, unary as unary_expr}
use Rattle.sac_ast.specs.Tree.{binary as binary_expr, choice, call as call_expr, builtin, with_loop, assign, if_else, while_do, do_while, genarray}
use Rattle.sac_ast.specs.Tree.{modarray}
use Rattle.sac_ast.specs.Tree
use Rattle.sac_base.specs.Outcomes.{Ends, and_then, fault, at_site, Env, with_variable, with_variables, or_zero, first_result, choose}
use Rattle.sac_base.specs.WithLoops.{Generator, Operation, with_value}
use Rattle.sac_base.specs.WithLoops

-- the names of targets
abbrev pub names : List Target → List Name
names targets = map (λ (t : Target). t.name) targets

-- the built-in functions
abbrev pub built_in : Builtin → List ArrayValue → Result ArrayValue FaultKind
built_in Dim (a ∷ _) = Ok (dim a)
built_in Shape (a ∷ _) = Ok (shape_vector a)
built_in Reshape (shape ∷ a ∷ _) = reshape shape a
built_in _ _ = Err F4

-- the index of a generator in its block and cell
abbrev pub with_index : IndexTree → List ℤ → Env → Env
with_index (named target) v env = with_variable target.name (vector Int v) env
with_index (parts targets) v env = with_variables (names targets) (map (scalar Int) v) env

abbrev pub name_count : IndexTree → Option ℕ
name_count (named target) = None
name_count (parts targets) = Some (length targets)

-- A `while` that may make so many turns more. Its test is tried before each of them.
abbrev pub repeat : ℕ → Site → Site → (Env → Ends ArrayValue) → (Env → Ends Env) → Env → Ends Env
repeat zero site test_site test body env =
    and_then (test env) (λ c. choose test_site (condition c) (fault F9 site) (Ok env))
repeat (suc left) site test_site test body env =
    and_then (test env) (λ c. choose test_site (condition c) (and_then (body env) (repeat left site test_site test body)) (Ok env))

-- what a call of a name with arguments gives, at a site
abbrev pub CallMeaning : Type 0
CallMeaning = Name → List ArrayValue → Site → Ends (List ArrayValue)

-- the results of a call whose arguments have been evaluated
abbrev pub call_with : CallMeaning → Name → Site → Ends (List ArrayValue) → Ends (List ArrayValue)
call_with call name site args = and_then args (λ values. call name values site)

-- a base that is missing, which an accepted program never asks for, is int
abbrev pub or_int : Option Base → Base
or_int None = Int
or_int (Some base) = base

-- the base of the cells that a genarray without a default has: that of its first generator's cell, and int without a generator
abbrev pub default_base : (Expr → Option Base) → Gens → Base
default_base base_of no_gens = Int
default_base base_of (gen_and (gen lower lower_closed index upper upper_closed step width body cell site) gs) = or_int (base_of cell)

abbrev pub default_or : Base → Option ArrayValue → ArrayValue
default_or base None = scalar base (pos 0)
default_or base (Some a) = a

-- `turns` is the most turns of each execution of a loop, and `base_of` the base of an expression of the function that is run, which is known before the run
module _ (turns : ℕ) (base_of : Expr → Option Base) (call : CallMeaning) where
  abbrev mutual
    pub meaning : Expr → Env → Ends ArrayValue
    meaning (number n site) env = Ok (scalar Int n)
    meaning (truth b site) env = Ok (scalar Truth (of_truth b))
    meaning (variable name site) env = Ok (or_zero (env name))
    meaning (Tree.literal es site) env = and_then (meanings es env) (λ values. at_site site (Parts.literal values))
    meaning (unary_expr op e site) env = and_then (meaning e env) (λ a. Ok (unary op a))
    meaning (binary_expr op e f site) env =
        and_then (meaning e env) (λ a. and_then (meaning f env) (λ b. at_site site (binary op a b)))
    meaning (choice c e f site) env =
        and_then (meaning c env) (λ a. choose site (condition a) (meaning e env) (meaning f env))
    meaning (Tree.select e f site) env =
        and_then (meaning e env) (λ a. and_then (meaning f env) (λ i. at_site site (select a i)))
    meaning (call_expr name es site) env =
        and_then (call_with call name site (meanings es env)) (λ results. Ok (first_result results))
    meaning (builtin b es site) env = and_then (meanings es env) (λ values. at_site site (built_in b values))
    meaning (with_loop gs op site) env =
        and_then (generators gs env) (λ all. and_then (operation op (default_base base_of gs) env) (λ by. with_value all by))

    -- from left to right
    pub meanings : Exprs → Env → Ends (List ArrayValue)
    meanings no_exprs env = Ok []
    meanings (expr_and e es) env =
        and_then (meaning e env) (λ a. and_then (meanings es env) (λ values. Ok (a ∷ values)))

    pub maybe : MaybeExpr → Env → Ends (Option ArrayValue)
    maybe left_out env = Ok None
    maybe (given e) env = and_then (meaning e env) (λ a. Ok (Some a))

    pub bound : BoundTree → Env → Ends (Option ArrayValue)
    bound (dot site) env = Ok None
    bound (at e) env = and_then (meaning e env) (λ a. Ok (Some a))

    pub generator : Gen → Env → Ends Generator
    generator (gen lower lower_closed index upper upper_closed step width body cell site) env =
        and_then (bound lower env) (λ l.
        and_then (bound upper env) (λ u.
        and_then (maybe step env) (λ s.
        and_then (maybe width env) (λ w.
        Ok (record {
          bounds = record {
            lower = l;
            lower_closed = lower_closed;
            names = name_count index;
            upper = u;
            upper_closed = upper_closed;
            step = s;
            width = w;
            site = site;
          };
          cell = λ v. and_then (block body (with_index index v env)) (meaning cell);
        })))))

    pub generators : Gens → Env → Ends (List Generator)
    generators no_gens env = Ok []
    generators (gen_and g gs) env =
        and_then (generator g env) (λ a. and_then (generators gs env) (λ rest. Ok (a ∷ rest)))

    pub operation : OperationTree → Base → Env → Ends Operation
    operation (genarray shape default site) base env =
        and_then (meaning shape env) (λ s. and_then (maybe default env) (λ d. Ok (WithLoops.genarray s (default_or base d) site)))
    operation (modarray array site) base env = and_then (meaning array env) (λ a. Ok (WithLoops.modarray a site))
    operation (Tree.fold op neutral site) base env = and_then (meaning neutral env) (λ n. Ok (WithLoops.fold_by op n site))

    pub statement : Stmt → Env → Ends Env
    statement (assign targets (call_expr name es site)) env =
        and_then (call_with call name site (meanings es env)) (λ results. Ok (with_variables (names targets) results env))
    statement (assign targets e) env =
        and_then (meaning e env) (λ a. Ok (with_variables (names targets) (a ∷ []) env))
    statement (Tree.replace target bracket index e) env =
        and_then (meaning index env) (λ i.
        and_then (meaning e env) (λ v.
        and_then (at_site bracket (replace (or_zero (env target.name)) i v)) (λ a.
        Ok (with_variable target.name a env))))
    statement (if_else c first second site) env =
        and_then (meaning c env) (λ a. choose site (condition a) (block first env) (block second env))
    statement (while_do c body site) env = repeat turns site site (meaning c) (block body) env
    statement (do_while body c site test) env =
        and_then (block body env) (repeat (turns - 1) site test (meaning c) (block body))

    pub block : Block → Env → Ends Env
    block no_stmts env = Ok env
    block (stmt_and s rest) env = and_then (statement s env) (block rest)
