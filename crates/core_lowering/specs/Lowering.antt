-- How the trees of a source become blocks of the core: each assignment makes new variables, each conditional gives the variables bound in it, and
-- each loop carries those that it binds.
use Rattle.std.specs.Prelude.{ℕ, zero, suc, ◌+◌, List, [], ◌∷◌, ◌++◌, map, filter, length, Bool, true, false, ◌&&◌, if◌then◌else◌, Option, Some, None}
use Rattle.std.specs.Prelude.{is_some, pos, bytes_eq}
use Rattle.std.specs.List.{list_any}
use Rattle.sac_base.specs.declared.base.Base.{Base}
use Rattle.sac_base.specs.declared.base.Base.TheVariants.{Int, Bool as Truth}
use Rattle.sac_base.specs.declared.faults.FaultKind.TheVariants.{F4}
use Rattle.sac_base.specs.declared.name.Name.{Name}
use Rattle.sac_base.specs.declared.site.Site.{Site}
use Rattle.sac_base.specs.Arrays.{scalar}
use Rattle.sac_base.specs.Operators.{of_truth}
use Rattle.sac_ast.specs.declared.Target.{Target}
use Rattle.sac_ast.specs.declared.Builtin.{Builtin}
use Rattle.sac_ast.specs.declared.Builtin.TheVariants.{Dim, Shape, Reshape}
use Rattle.sac_ast.specs.Tree.{IndexTree, named, parts, Expr, Exprs, no_exprs, expr_and, MaybeExpr, left_out, given, Stmt, Block, no_stmts, stmt_and}
use Rattle.sac_ast.specs.Tree.{BoundTree, dot, at, Gen, gen, Gens, no_gens, gen_and, OperationTree, number, truth, variable, choice, call, builtin}
use Rattle.sac_ast.specs.Tree.{with_loop, assign, if_else, while_do, do_while, genarray, modarray}
use Rattle.sac_ast.specs.Tree
use Rattle.core_ir.specs.declared.tree.Var.{Var}
use Rattle.core_ir.specs.declared.tree.CoreOp.{CoreOp}
use Rattle.core_ir.specs.declared.tree.CoreOp.TheVariants as making
use Rattle.core_ir.specs.Terms.{PlainTerm, BlockTerm, RightTerm, GensTerm, GenHead, LetTerm, Gives, Plain, NoGens, chain}
use Rattle.core_ir.specs.Terms
use Rattle.core_ir.specs.Meaning.{missing}
use Rattle.source_meaning.specs.Meaning.{names, default_base}

-- ---- scopes

-- names with the variables that have their values, the newest first
abbrev pub Scope : Type 0
Scope = List (Name × Var)

abbrev pub var_in : Scope → Name → Option Var
var_in [] name = None
var_in (p ∷ ps) name = if bytes_eq name p.0 then Some p.1 else var_in ps name

-- the variable with this number
abbrev pub numbered : ℕ → Var
numbered n = record { 0 = n }

-- so many variables from a number on
abbrev pub variables_from : ℕ → ℕ → List Var
variables_from n zero = []
variables_from n (suc count) = numbered n ∷ variables_from (suc n) count

-- names bound to new variables one after another
abbrev pub pushed : List Name → ℕ → Scope → Scope
pushed [] n scope = scope
pushed (x ∷ xs) n scope = pushed xs (suc n) ((x, numbered n) ∷ scope)

-- the first variable stands for that of a name that has none
abbrev pub or_first : Option Var → Var
or_first None = numbered 0
or_first (Some x) = x

abbrev pub vars_in : Scope → List Name → List Var
vars_in scope xs = map (λ x. or_first (var_in scope x)) xs

-- ---- the names that a block binds

abbrev pub has_name : List Name → Name → Bool
has_name xs x = list_any (bytes_eq x) xs

-- those that were not met before, each once
abbrev pub once : List Name → List Name → List Name
once met [] = []
once met (x ∷ xs) = if has_name met x then once met xs else x ∷ once (x ∷ met) xs

abbrev mutual
  pub bound_names : Stmt → List Name
  bound_names (assign targets e) = names targets
  bound_names (Tree.replace target bracket index e) = target.name ∷ []
  bound_names (if_else c first second site) = names_bound first ++ names_bound second
  bound_names (while_do c body site) = names_bound body
  bound_names (do_while body c site test) = names_bound body

  pub names_bound : Block → List Name
  names_bound no_stmts = []
  names_bound (stmt_and s rest) = bound_names s ++ names_bound rest

abbrev pub is_known : Scope → Name → Bool
is_known scope x = is_some (var_in scope x)

-- those that a conditional gives: they have a variable behind both of its blocks
abbrev pub merged : List Name → Scope → Scope → List Name
merged xs first second = filter (λ x. is_known first x && is_known second x) (once [] xs)

-- those that a `while` carries: they have a variable before it
abbrev pub carried : List Name → Scope → List Name
carried xs scope = filter (is_known scope) (once [] xs)

-- ---- what is lowered: bindings, the variable or variables that then have the value, and the next number

pub record Lowered : Type 0 where
  pub lets : List LetTerm
  pub result : Var
  pub next : ℕ

pub record LoweredList : Type 0 where
  pub lets : List LetTerm
  pub results : List Var
  pub next : ℕ

pub record LoweredOption : Type 0 where
  pub lets : List LetTerm
  pub result : Option Var
  pub next : ℕ

pub record LoweredBlock : Type 0 where
  pub lets : List LetTerm
  pub scope : Scope
  pub next : ℕ

pub record LoweredGen : Type 0 where
  pub lets : List LetTerm
  pub head : GenHead
  pub body : BlockTerm
  pub next : ℕ

pub record LoweredGens : Type 0 where
  pub lets : List LetTerm
  pub gens : GensTerm
  pub next : ℕ

pub record LoweredOperation : Type 0 where
  pub lets : List LetTerm
  pub op : CoreOp
  pub site : Site
  pub next : ℕ

abbrev pub binding : Var → Site → RightTerm → LetTerm
binding x site right = record { targets = x ∷ []; site = site; right = right }

-- bindings, and one more of a new variable
abbrev pub ended : List LetTerm → ℕ → Site → RightTerm → Lowered
ended lets n site right = record { lets = lets ++ (binding (numbered n) site right ∷ []); result = numbered n; next = suc n }

-- the use of a variable; 0 stands for one that is not there
abbrev pub used : ℕ → Site → Option Var → Lowered
used n site None = ended [] n site (Plain (PlainTerm.Const missing))
used n site (Some x) = record { lets = []; result = x; next = n }

abbrev pub built_in : Builtin → List Var → PlainTerm
built_in Dim (x ∷ xs) = PlainTerm.Dim x
built_in Shape (x ∷ xs) = PlainTerm.ShapeOf x
built_in Reshape (x ∷ y ∷ ys) = PlainTerm.Reshape x y
built_in _ _ = PlainTerm.Always F4

-- the names of an index in a generator's block and cell
abbrev pub index_scope : IndexTree → ℕ → Scope → Scope
index_scope (named target) n scope = (target.name, numbered n) ∷ scope
index_scope (parts targets) n scope = pushed (names targets) (suc n) scope

abbrev pub index_names : IndexTree → ℕ → List Var
index_names (named target) n = []
index_names (parts targets) n = variables_from (suc n) (length (names targets))

abbrev pub after_index : IndexTree → ℕ → ℕ
after_index (named target) n = suc n
after_index (parts targets) n = suc n + length (names targets)

-- the base that a value has in the place of a missing default
abbrev pub default_lowered : Base → ℕ → Site → Lowered
default_lowered base n site = ended [] n site (Plain (PlainTerm.Const (scalar base (pos 0))))

-- a right side that is no call binds the first target
abbrev pub first_bound : List Target → Var → Scope → Scope
first_bound [] x scope = scope
first_bound (target ∷ targets) x scope = (target.name, x) ∷ scope

abbrev pub start_of : Base → ℕ → Site → Option Var → Lowered
start_of base n site None = default_lowered base n site
start_of base n site (Some x) = record { lets = []; result = x; next = n }

-- the first values of what a loop carries: a name that has no variable has a value that is never read
abbrev pub starts : (Name → Base) → Site → List Name → Scope → ℕ → LoweredList
starts base_of_name site [] scope n = record { lets = []; results = []; next = n }
starts base_of_name site (x ∷ xs) scope n =
    let a = start_of (base_of_name x) n site (var_in scope x) in
    let b = starts base_of_name site xs scope a.next in
    record { lets = a.lets ++ b.lets; results = a.result ∷ b.results; next = b.next }

-- ---- the lowering: `group_of` is the number of a name's instances, `base_of` and `base_of_name` the bases of a function's expressions and names

module _ (group_of : Name → ℕ) (base_of : Expr → Option Base) (base_of_name : Name → Base) where
  abbrev mutual
    pub lowered : Expr → Scope → ℕ → Lowered
    lowered (number z site) scope n = ended [] n site (Plain (PlainTerm.Const (scalar Int z)))
    lowered (truth b site) scope n = ended [] n site (Plain (PlainTerm.Const (scalar Truth (of_truth b))))
    lowered (variable name site) scope n = used n site (var_in scope name)
    lowered (Tree.literal es site) scope n =
        let a = lowered_all es scope n in
        ended a.lets a.next site (Plain (PlainTerm.Literal a.results))
    lowered (Tree.unary op e site) scope n =
        let a = lowered e scope n in
        ended a.lets a.next site (Plain (PlainTerm.Unary op a.result))
    lowered (Tree.binary op e f site) scope n =
        let a = lowered e scope n in
        let b = lowered f scope a.next in
        ended (a.lets ++ b.lets) b.next site (Plain (PlainTerm.Binary op a.result b.result))
    lowered (choice c e f site) scope n =
        let a = lowered c scope n in
        let b = lowered e scope a.next in
        let d = lowered f scope b.next in
        ended a.lets d.next site (RightTerm.If a.result (chain b.lets (Gives (b.result ∷ []))) (chain d.lets (Gives (d.result ∷ []))))
    lowered (Tree.select e i site) scope n =
        let a = lowered e scope n in
        let b = lowered i scope a.next in
        ended (a.lets ++ b.lets) b.next site (Plain (PlainTerm.Select a.result b.result))
    lowered (call name es site) scope n =
        let a = lowered_all es scope n in
        ended a.lets a.next site (RightTerm.Call (group_of name) a.results)
    lowered (builtin b es site) scope n =
        let a = lowered_all es scope n in
        ended a.lets a.next site (Plain (built_in b a.results))
    lowered (with_loop gs op site) scope n =
        let a = lowered_gens gs scope n in
        let b = lowered_operation op (default_base base_of gs) scope a.next in
        ended (a.lets ++ b.lets) b.next b.site (RightTerm.With b.op a.gens)

    pub lowered_all : Exprs → Scope → ℕ → LoweredList
    lowered_all no_exprs scope n = record { lets = []; results = []; next = n }
    lowered_all (expr_and e es) scope n =
        let a = lowered e scope n in
        let b = lowered_all es scope a.next in
        record { lets = a.lets ++ b.lets; results = a.result ∷ b.results; next = b.next }

    pub lowered_maybe : MaybeExpr → Scope → ℕ → LoweredOption
    lowered_maybe left_out scope n = record { lets = []; result = None; next = n }
    lowered_maybe (given e) scope n =
        let a = lowered e scope n in
        record { lets = a.lets; result = Some a.result; next = a.next }

    pub lowered_bound : BoundTree → Scope → ℕ → LoweredOption
    lowered_bound (dot site) scope n = record { lets = []; result = None; next = n }
    lowered_bound (at e) scope n =
        let a = lowered e scope n in
        record { lets = a.lets; result = Some a.result; next = a.next }

    pub lowered_gen : Gen → Scope → ℕ → LoweredGen
    lowered_gen (gen lower lower_closed index upper upper_closed step width body cell site) scope n =
        let l = lowered_bound lower scope n in
        let u = lowered_bound upper scope l.next in
        let s = lowered_maybe step scope u.next in
        let w = lowered_maybe width scope s.next in
        let b = lowered_block body (index_scope index w.next scope) (after_index index w.next) in
        let c = lowered cell b.scope b.next in
        record {
          lets = l.lets ++ (u.lets ++ (s.lets ++ w.lets));
          head = record {
            lower = l.result;
            lower_closed = lower_closed;
            upper = u.result;
            upper_closed = upper_closed;
            step = s.result;
            width = w.result;
            index = numbered w.next;
            names = index_names index w.next;
            site = site;
          };
          body = chain (b.lets ++ c.lets) (Gives (c.result ∷ []));
          next = c.next;
        }

    pub lowered_gens : Gens → Scope → ℕ → LoweredGens
    lowered_gens no_gens scope n = record { lets = []; gens = NoGens; next = n }
    lowered_gens (gen_and g gs) scope n =
        let a = lowered_gen g scope n in
        let b = lowered_gens gs scope a.next in
        record { lets = a.lets ++ b.lets; gens = Terms.Gen a.head a.body b.gens; next = b.next }

    pub lowered_operation : OperationTree → Base → Scope → ℕ → LoweredOperation
    lowered_operation (genarray shape left_out site) base scope n =
        let a = lowered shape scope n in
        let b = default_lowered base a.next site in
        record { lets = a.lets ++ b.lets; op = making.Genarray a.result b.result; site = site; next = b.next }
    lowered_operation (genarray shape (given e) site) base scope n =
        let a = lowered shape scope n in
        let b = lowered e scope a.next in
        record { lets = a.lets ++ b.lets; op = making.Genarray a.result b.result; site = site; next = b.next }
    lowered_operation (modarray array site) base scope n =
        let a = lowered array scope n in
        record { lets = a.lets; op = making.Modarray a.result; site = site; next = a.next }
    lowered_operation (Tree.fold op neutral site) base scope n =
        let a = lowered neutral scope n in
        record { lets = a.lets; op = making.Fold op a.result; site = site; next = a.next }

    pub lowered_stmt : Stmt → Scope → ℕ → LoweredBlock
    lowered_stmt (assign targets (call name es site)) scope n =
        let a = lowered_all es scope n in
        record {
          lets = a.lets ++ (record {
            targets = variables_from a.next (length (names targets));
            site = site;
            right = RightTerm.Call (group_of name) a.results;
          } ∷ []);
          scope = pushed (names targets) a.next scope;
          next = a.next + length (names targets);
        }
    lowered_stmt (assign targets e) scope n =
        let a = lowered e scope n in
        record { lets = a.lets; scope = first_bound targets a.result scope; next = a.next }
    lowered_stmt (Tree.replace target bracket index e) scope n =
        let i = lowered index scope n in
        let v = lowered e scope i.next in
        let a = used v.next bracket (var_in scope target.name) in
        let r = ended (i.lets ++ (v.lets ++ a.lets)) a.next bracket (Plain (PlainTerm.Replace a.result i.result v.result)) in
        record { lets = r.lets; scope = (target.name, r.result) ∷ scope; next = r.next }
    lowered_stmt (if_else c first second site) scope n =
        let a = lowered c scope n in
        let b = lowered_block first scope a.next in
        let d = lowered_block second scope b.next in
        let both = merged (names_bound first ++ names_bound second) b.scope d.scope in
        record {
          lets = a.lets ++ (record {
            targets = variables_from d.next (length both);
            site = site;
            right = RightTerm.If a.result (chain b.lets (Gives (vars_in b.scope both))) (chain d.lets (Gives (vars_in d.scope both)));
          } ∷ []);
          scope = pushed both d.next scope;
          next = d.next + length both;
        }
    lowered_stmt (while_do c body site) scope n =
        let all = carried (names_bound body) scope in
        let inside = pushed all n scope in
        let t = lowered c inside (n + length all) in
        let b = lowered_block body inside t.next in
        record {
          lets = record {
            targets = variables_from b.next (length all);
            site = site;
            right = RightTerm.Loop false (vars_in scope all)
                (variables_from n (length all)) (chain t.lets (Gives (t.result ∷ []))) (chain b.lets (Gives (vars_in b.scope all))) site;
          } ∷ [];
          scope = pushed all b.next scope;
          next = b.next + length all;
        }
    lowered_stmt (do_while body c site test) scope n =
        let all = once [] (names_bound body) in
        let s = starts base_of_name site all scope n in
        let inside = pushed all s.next scope in
        let b = lowered_block body inside (s.next + length all) in
        let t = lowered c inside b.next in
        record {
          lets = s.lets ++ (record {
            targets = variables_from t.next (length all);
            site = site;
            right = RightTerm.Loop true s.results
                (variables_from s.next (length all)) (chain t.lets (Gives (t.result ∷ []))) (chain b.lets (Gives (vars_in b.scope all))) test;
          } ∷ []);
          scope = pushed all t.next scope;
          next = t.next + length all;
        }

    pub lowered_block : Block → Scope → ℕ → LoweredBlock
    lowered_block no_stmts scope n = record { lets = []; scope = scope; next = n }
    lowered_block (stmt_and s rest) scope n =
        let a = lowered_stmt s scope n in
        let b = lowered_block rest a.scope a.next in
        record { lets = a.lets ++ b.lets; scope = b.scope; next = b.next }
