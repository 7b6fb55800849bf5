-- The lowering as it goes: bindings are added to those that are there, and numbers are taken one after another.
use Rattle.std.specs.Prelude.{ℕ, suc, List, [], ◌∷◌, ◌++◌, ◌&&◌, filter, Option, Some, None, is_some, true, false, pos}
use Rattle.sac_base.specs.declared.base.Base.{Base}
use Rattle.sac_base.specs.declared.base.Base.TheVariants.{Int, Bool as Truth}
use Rattle.sac_base.specs.declared.name.Name.{Name}
use Rattle.sac_base.specs.declared.site.Site.{Site}
use Rattle.sac_base.specs.Arrays.{scalar}
use Rattle.sac_base.specs.Operators.{of_truth}
use Rattle.sac_ast.specs.declared.Target.{Target}
use Rattle.sac_ast.specs.Tree.{IndexTree, named, parts, Expr, Exprs, no_exprs, expr_and, MaybeExpr, left_out, given, Stmt, Block, no_stmts, stmt_and}
use Rattle.sac_ast.specs.Tree.{BoundTree, dot, at, Gen, gen, Gens, no_gens, gen_and, OperationTree, number, truth, variable, choice, call, builtin}
use Rattle.sac_ast.specs.Tree.{with_loop, assign, if_else, while_do, do_while, genarray, modarray}
use Rattle.sac_ast.specs.Tree
use Rattle.core_ir.specs.declared.tree.Var.{Var}
use Rattle.core_ir.specs.declared.tree.CoreOp.{CoreOp}
use Rattle.core_ir.specs.declared.tree.CoreOp.TheVariants as making
use Rattle.core_ir.specs.Terms.{PlainTerm, BlockTerm, RightTerm, GenTerm, GensTerm, LetTerm, Gives, Plain, NoGens, chain}
use Rattle.core_ir.specs.Terms
use Rattle.core_ir.specs.Meaning.{missing}
use Rattle.source_meaning.specs.Meaning.{names, default_base}
use Rattle.core_lowering.specs.Lowering.{numbered, once, names_bound, binding, built_in}
use Rattle.core_lowering.specs.steps.Looks.{Look, with_var, vars_of}

-- the bindings that are made, and the number of the next variable
pub record Built : Type 0 where
  pub lets : List LetTerm
  pub next : ℕ

pub record Made : Type 0 where
  pub state : Built
  pub result : Var

pub record MadeList : Type 0 where
  pub state : Built
  pub results : List Var

pub record MadeOption : Type 0 where
  pub state : Built
  pub result : Option Var

pub record MadeScope : Type 0 where
  pub state : Built
  pub scope : Look

-- names that were bound to new variables
pub record MadeNames : Type 0 where
  pub state : Built
  pub results : List Var
  pub scope : Look

pub record MadeBlock : Type 0 where
  pub state : Built
  pub block : BlockTerm

pub record MadeGen : Type 0 where
  pub state : Built
  pub gen : GenTerm

pub record MadeGens : Type 0 where
  pub state : Built
  pub gens : GensTerm

pub record MadeOperation : Type 0 where
  pub state : Built
  pub op : CoreOp
  pub site : Site

-- a right side whose results names are bound to
pub record MadeGiven : Type 0 where
  pub state : Built
  pub names : List Name
  pub right : RightTerm

-- a binding more
abbrev pub with_let : Built → List Var → Site → RightTerm → Built
with_let s targets site right = record { lets = s.lets ++ (record { targets = targets; site = site; right = right } ∷ []); next = s.next }

-- a binding more of a new variable
abbrev pub bound_at : Built → Site → RightTerm → Made
bound_at s site right = record { state = record { lets = s.lets ++ (binding (numbered s.next) site right ∷ []); next = suc s.next }; result = numbered s.next }

-- no bindings, with new variables from here on
abbrev pub nested : Built → Built
nested s = record { lets = []; next = s.next }

-- goes on with the variables after those of another
abbrev pub resumed : Built → Built → Built
resumed s inner = record { lets = s.lets; next = inner.next }

-- a new variable
abbrev pub fresh_at : Built → Made
fresh_at s = record { state = record { lets = s.lets; next = suc s.next }; result = numbered s.next }

-- names bound to new variables one after another
abbrev pub declared : List Name → Look → Built → MadeNames
declared [] look s = record { state = s; results = []; scope = look }
declared (x ∷ xs) look s =
    let d = declared xs (with_var x (numbered s.next) look) (record { lets = s.lets; next = suc s.next }) in
    record { state = d.state; results = numbered s.next ∷ d.results; scope = d.scope }

-- names bound to a right side
abbrev pub given_bound : Site → Look → MadeGiven → MadeScope
given_bound site look m =
    let d = declared m.names look m.state in
    record { state = with_let d.state d.results site m.right; scope = d.scope }

-- the names of an index whose vector has this variable
abbrev pub index_declared : IndexTree → Var → Look → Built → MadeNames
index_declared (named target) x look s = record { state = s; results = []; scope = with_var target.name x look }
index_declared (parts targets) x look s = declared (names targets) look s

-- a right side that is no call binds the first target
abbrev pub first_var : List Target → Var → Look → Look
first_var [] x look = look
first_var (target ∷ targets) x look = with_var target.name x look

-- a block of the bindings that were made in it, behind which the outer bindings go on
abbrev pub block_of : Built → Made → MadeBlock
block_of s a = record { state = resumed s a.state; block = chain a.state.lets (Gives (a.result ∷ [])) }

-- the same where the block gives the variables of names
abbrev pub block_giving : List Name → Built → MadeScope → MadeBlock
block_giving xs s a = record { state = resumed s a.state; block = chain a.state.lets (Gives (vars_of a.scope xs)) }

-- those that have a variable
abbrev pub bound_in : Look → List Name → List Name
bound_in look xs = filter (λ x. is_some (look x)) xs

abbrev pub bound_in_both : Look → Look → List Name → List Name
bound_in_both first second xs = filter (λ x. is_some (first x) && is_some (second x)) xs

abbrev pub use_at : Built → Site → Option Var → Made
use_at s site None = bound_at s site (Plain (PlainTerm.Const missing))
use_at s site (Some x) = record { state = s; result = x }

abbrev pub start_at : Base → Built → Site → Option Var → Made
start_at base s site None = bound_at s site (Plain (PlainTerm.Const (scalar base (pos 0))))
start_at base s site (Some x) = record { state = s; result = x }

abbrev pub make_starts : (Name → Base) → Site → List Name → Look → Built → MadeList
make_starts base_of_name site [] scope s = record { state = s; results = [] }
make_starts base_of_name site (x ∷ xs) scope s =
    let a = start_at (base_of_name x) s site (scope x) in
    let b = make_starts base_of_name site xs scope a.state in
    record { state = b.state; results = a.result ∷ b.results }

module _ (group_of : Name → ℕ) (base_of : Expr → Option Base) (base_of_name : Name → Base) where
  abbrev mutual
    pub make : Expr → Look → Built → Made
    make (number z site) scope s = bound_at s site (Plain (PlainTerm.Const (scalar Int z)))
    make (truth b site) scope s = bound_at s site (Plain (PlainTerm.Const (scalar Truth (of_truth b))))
    make (variable name site) scope s = use_at s site (scope name)
    make (Tree.literal es site) scope s =
        let a = make_all es scope s in
        bound_at a.state site (Plain (PlainTerm.Literal a.results))
    make (Tree.unary op e site) scope s =
        let a = make e scope s in
        bound_at a.state site (Plain (PlainTerm.Unary op a.result))
    make (Tree.binary op e f site) scope s =
        let a = make e scope s in
        let b = make f scope a.state in
        bound_at b.state site (Plain (PlainTerm.Binary op a.result b.result))
    make (choice c e f site) scope s =
        let a = make c scope s in
        let b = block_of a.state (make e scope (nested a.state)) in
        let d = block_of b.state (make f scope (nested b.state)) in
        bound_at d.state site (RightTerm.If a.result b.block d.block)
    make (Tree.select e i site) scope s =
        let a = make e scope s in
        let b = make i scope a.state in
        bound_at b.state site (Plain (PlainTerm.Select a.result b.result))
    make (call name es site) scope s =
        let a = make_all es scope s in
        bound_at a.state site (RightTerm.Call (group_of name) a.results)
    make (builtin b es site) scope s =
        let a = make_all es scope s in
        bound_at a.state site (Plain (built_in b a.results))
    make (with_loop gs op site) scope s =
        let a = make_gens gs scope s in
        let b = make_operation op (default_base base_of gs) scope a.state in
        bound_at b.state b.site (RightTerm.With b.op a.gens)

    pub make_all : Exprs → Look → Built → MadeList
    make_all no_exprs scope s = record { state = s; results = [] }
    make_all (expr_and e es) scope s =
        let a = make e scope s in
        let b = make_all es scope a.state in
        record { state = b.state; results = a.result ∷ b.results }

    pub make_maybe : MaybeExpr → Look → Built → MadeOption
    make_maybe left_out scope s = record { state = s; result = None }
    make_maybe (given e) scope s = let a = make e scope s in record { state = a.state; result = Some a.result }

    pub make_bound : BoundTree → Look → Built → MadeOption
    make_bound (dot site) scope s = record { state = s; result = None }
    make_bound (at e) scope s = let a = make e scope s in record { state = a.state; result = Some a.result }

    pub make_gen : Gen → Look → Built → MadeGen
    make_gen (gen lower lower_closed index upper upper_closed step width body cell site) scope s =
        let l = make_bound lower scope s in
        let u = make_bound upper scope l.state in
        let t = make_maybe step scope u.state in
        let w = make_maybe width scope t.state in
        let f = fresh_at w.state in
        let i = index_declared index f.result scope f.state in
        let b = make_block body i.scope (nested i.state) in
        let c = block_of i.state (make cell b.scope b.state) in
        record {
          state = c.state;
          gen = record {
            head = record {
              lower = l.result;
              lower_closed = lower_closed;
              upper = u.result;
              upper_closed = upper_closed;
              step = t.result;
              width = w.result;
              index = f.result;
              names = i.results;
              site = site;
            };
            body = c.block;
          };
        }

    pub make_gens : Gens → Look → Built → MadeGens
    make_gens no_gens scope s = record { state = s; gens = NoGens }
    make_gens (gen_and g gs) scope s =
        let a = make_gen g scope s in
        let b = make_gens gs scope a.state in
        record { state = b.state; gens = Terms.Gen a.gen.head a.gen.body b.gens }

    pub make_operation : OperationTree → Base → Look → Built → MadeOperation
    make_operation (genarray shape left_out site) base scope s =
        let a = make shape scope s in
        let b = bound_at a.state site (Plain (PlainTerm.Const (scalar base (pos 0)))) in
        record { state = b.state; op = making.Genarray a.result b.result; site = site }
    make_operation (genarray shape (given e) site) base scope s =
        let a = make shape scope s in
        let b = make e scope a.state in
        record { state = b.state; op = making.Genarray a.result b.result; site = site }
    make_operation (modarray array site) base scope s =
        let a = make array scope s in
        record { state = a.state; op = making.Modarray a.result; site = site }
    make_operation (Tree.fold op neutral site) base scope s =
        let a = make neutral scope s in
        record { state = a.state; op = making.Fold op a.result; site = site }

    pub make_stmt : Stmt → Look → Built → MadeScope
    make_stmt (assign targets (call name es site)) scope s =
        let a = make_all es scope s in
        let d = declared (names targets) scope a.state in
        record { state = with_let d.state d.results site (RightTerm.Call (group_of name) a.results); scope = d.scope }
    make_stmt (assign targets e) scope s =
        let a = make e scope s in
        record { state = a.state; scope = first_var targets a.result scope }
    make_stmt (Tree.replace target bracket index e) scope s =
        let i = make index scope s in
        let v = make e scope i.state in
        let a = use_at v.state bracket (scope target.name) in
        let r = bound_at a.state bracket (Plain (PlainTerm.Replace a.result i.result v.result)) in
        record { state = r.state; scope = with_var target.name r.result scope }
    make_stmt (if_else c first second site) scope s =
        let a = make c scope s in
        let b = make_block first scope (nested a.state) in
        let d = make_block second scope (nested b.state) in
        let both = bound_in_both b.scope d.scope (once [] (names_bound first ++ names_bound second)) in
        let t = declared both scope (resumed a.state d.state) in
        record {
          state = with_let t.state t.results site
              (RightTerm.If a.result (chain b.state.lets (Gives (vars_of b.scope both))) (chain d.state.lets (Gives (vars_of d.scope both))));
          scope = t.scope;
        }
    make_stmt (while_do c body site) scope s =
        let all = bound_in scope (once [] (names_bound body)) in
        let p = declared all scope s in
        let t = block_of p.state (make c p.scope (nested p.state)) in
        let b = block_giving all t.state (make_block body p.scope (nested t.state)) in
        let d = declared all scope b.state in
        record {
          state = with_let d.state d.results site (RightTerm.Loop false (vars_of scope all) p.results t.block b.block site);
          scope = d.scope;
        }
    make_stmt (do_while body c site test) scope s =
        let all = once [] (names_bound body) in
        let i = make_starts base_of_name site all scope s in
        let p = declared all scope i.state in
        let b = block_giving all p.state (make_block body p.scope (nested p.state)) in
        let t = block_of b.state (make c p.scope (nested b.state)) in
        let d = declared all scope t.state in
        record {
          state = with_let d.state d.results site (RightTerm.Loop true i.results p.results t.block b.block test);
          scope = d.scope;
        }

    pub make_block : Block → Look → Built → MadeScope
    make_block no_stmts scope s = record { state = s; scope = scope }
    make_block (stmt_and st rest) scope s =
        let a = make_stmt st scope s in
        make_block rest a.scope a.state
