-- Making one binding after another makes what the lowering says.
use Rattle.std.proofs.Common.{◌≡◌, ℕ, suc, ◌+◌, List, [], ◌∷◌, ◌++◌, length, Option, Some, None, true, false, refl, ap, ◌∙◌, arith}
use Rattle.std.specs.Prelude.{pos}
use Rattle.sac_base.specs.declared.base.Base.{Base}
use Rattle.sac_base.specs.declared.name.Name.{Name}
use Rattle.sac_base.specs.declared.site.Site.{Site}
use Rattle.sac_base.specs.Arrays.{scalar}
use Rattle.sac_ast.specs.declared.Target.{Target}
use Rattle.sac_ast.specs.Tree.{IndexTree, named, parts, Expr, Exprs, no_exprs, expr_and, MaybeExpr, left_out, given, Stmt, Block, no_stmts, stmt_and, BoundTree, dot, at, Gen, gen, Gens, no_gens, gen_and, OperationTree, number, truth, variable, choice, call, builtin, with_loop, assign, if_else, while_do, do_while, genarray, modarray}
use Rattle.sac_ast.specs.Tree
use Rattle.core_ir.specs.declared.tree.Var.{Var}
use Rattle.core_ir.specs.declared.tree.CoreOp.TheVariants as making
use Rattle.core_ir.specs.Terms.{PlainTerm, BlockTerm, RightTerm, LetTerm, Gives, Plain, chain}
use Rattle.core_ir.specs.Terms
use Rattle.source_meaning.specs.Meaning.{names, default_base}
use Rattle.core_lowering.specs.Lowering.{Scope, var_in, numbered, variables_from, pushed, vars_in, once, names_bound, merged, carried, Lowered, LoweredBlock, binding, built_in, used, start_of, starts, index_scope, index_names, after_index, first_bound, lowered, lowered_all, lowered_maybe, lowered_bound, lowered_gen, lowered_gens, lowered_operation, lowered_stmt, lowered_block}
use Rattle.core_lowering.specs.steps.Looks.{Look, with_var, with_vars, vars_of}
use Rattle.core_lowering.specs.steps.Behind.{behind, anew, made_of, list_of, option_of, scope_of, gen_of, gens_of, operation_of}
use Rattle.core_lowering.specs.steps.Building.{Built, Made, MadeList, MadeOption, MadeScope, MadeNames, MadeBlock, MadeGen, with_let, bound_at, fresh_at, nested, resumed, use_at, start_at, declared, index_declared, first_var, block_of, block_giving, bound_in_both, make_starts, make, make_all, make_maybe, make_bound, make_gen, make_gens, make_operation, make_stmt, make_block}

-- ---- lists

assoc : {A : Type 0} (xs ys zs : List A) → (xs ++ ys) ++ zs ≡ xs ++ (ys ++ zs)
assoc [] ys zs = refl
assoc (x ∷ xs) ys zs = ap (λ l. x ∷ l) (assoc xs ys zs)

no_more : {A : Type 0} (xs : List A) → xs ≡ xs ++ []
no_more [] = refl
no_more (x ∷ xs) = ap (λ l. x ∷ l) (no_more xs)

three : {A : Type 0} (a b c d : List A) → ((a ++ b) ++ c) ++ d ≡ a ++ (b ++ (c ++ d))
three a b c d = assoc (a ++ b) c d ∙ assoc a b (c ++ d)

four : {A : Type 0} (a b c d e : List A) → (((a ++ b) ++ c) ++ d) ++ e ≡ a ++ (b ++ (c ++ (d ++ e)))
four a b c d e = assoc ((a ++ b) ++ c) d e ∙ three a b c (d ++ e)

-- a binding behind others
one_more : (s : Built) (lets : List LetTerm) (n : ℕ) (site : Site) (r : RightTerm) → bound_at (behind s lets n) site r ≡ record { state = behind s (lets ++ (binding (numbered n) site r ∷ [])) (suc n); result = numbered n }
one_more s lets n site r = λ i. record { state = record { lets = assoc s.lets lets (binding (numbered n) site r ∷ []) i; next = suc n }; result = numbered n }

used_made : (s : Built) (site : Site) (o : Option Var) → use_at s site o ≡ made_of s (used s.next site o)
used_made s site None = refl
used_made s site (Some x) = λ i. record { state = record { lets = no_more s.lets i; next = s.next }; result = x }

start_made : (base : Base) (s : Built) (site : Site) (o : Option Var) → start_at base s site o ≡ made_of s (start_of base s.next site o)
start_made base s site None = refl
start_made base s site (Some x) = λ i. record { state = record { lets = no_more s.lets i; next = s.next }; result = x }

pub starts_made : (base_of_name : Name → Base) (site : Site) (xs : List Name) (sc : Scope) (s : Built) → make_starts base_of_name site xs (var_in sc) s ≡ list_of s (starts base_of_name site xs sc s.next)
starts_made base_of_name site [] sc s = λ i. record { state = record { lets = no_more s.lets i; next = s.next }; results = [] }
starts_made base_of_name site (x ∷ xs) sc s =
    let A = start_of (base_of_name x) s.next site (var_in sc x) in
    let B = starts base_of_name site xs sc A.next in
    (λ i. let a = start_made (base_of_name x) s site (var_in sc x) i in let b = make_starts base_of_name site xs (var_in sc) a.state in record { state = b.state; results = a.result ∷ b.results })
    ∙ (λ i. let b = starts_made base_of_name site xs sc (behind s A.lets A.next) i in record { state = b.state; results = A.result ∷ b.results })
    ∙ (λ i. record { state = record { lets = assoc s.lets A.lets B.lets i; next = B.next }; results = A.result ∷ B.results })

-- ---- names that are bound to new variables

pub pushed_is : (xs : List Name) (n : ℕ) (sc : Scope) → with_vars xs n (var_in sc) ≡ var_in (pushed xs n sc)
pushed_is [] n sc = refl
pushed_is (x ∷ xs) n sc = pushed_is xs (suc n) ((x, numbered n) ∷ sc)

-- so many variables taken from a number on
abbrev pub taken : List Name → Scope → Built → MadeNames
taken xs sc s = record { state = record { lets = s.lets; next = s.next + length xs }; results = variables_from s.next (length xs); scope = var_in (pushed xs s.next sc) }

pub declared_is : (xs : List Name) (sc : Scope) (s : Built) → declared xs (var_in sc) s ≡ taken xs sc s
declared_is [] sc s =
    let e : s.next ≡ s.next + 0 = omega arith in
    λ i. record { state = record { lets = s.lets; next = e i }; results = []; scope = var_in sc }
declared_is (x ∷ xs) sc s =
    let t : Built = record { lets = s.lets; next = suc s.next } in
    let n = s.next in
    let e : suc n + length xs ≡ n + suc (length xs) = omega arith in
    (λ i. let d = declared_is xs ((x, numbered n) ∷ sc) t i in record { state = d.state; results = numbered n ∷ d.results; scope = d.scope })
    ∙ (λ i. record { state = record { lets = s.lets; next = e i }; results = numbered n ∷ variables_from (suc n) (length xs); scope = var_in (pushed xs (suc n) ((x, numbered n) ∷ sc)) })

index_is : (index : IndexTree) (lets : List LetTerm) (n : ℕ) (sc : Scope) → index_declared index (numbered n) (var_in sc) (record { lets = lets; next = suc n }) ≡ record { state = record { lets = lets; next = after_index index n }; results = index_names index n; scope = var_in (index_scope index n sc) }
index_is (named target) lets n sc = refl
index_is (parts targets) lets n sc = declared_is (names targets) sc (record { lets = lets; next = suc n })

first_is : (targets : List Target) (x : Var) (sc : Scope) → first_var targets x (var_in sc) ≡ var_in (first_bound targets x sc)
first_is [] x sc = refl
first_is (target ∷ targets) x sc = refl

-- names that are bound behind a state, and then a binding of them
bound_behind : (s : Built) (lets : List LetTerm) (n : ℕ) (xs : List Name) (sc : Scope) (site : Site) (r : RightTerm)
    → (let d = declared xs (var_in sc) (behind s lets n) in record { state = with_let d.state d.results site r; scope = d.scope })
    ≡ scope_of s (record { lets = lets ++ (record { targets = variables_from n (length xs); site = site; right = r } ∷ []); scope = pushed xs n sc; next = n + length xs })
bound_behind s lets n xs sc site r =
    (λ i. let d = declared_is xs sc (behind s lets n) i in record { state = with_let d.state d.results site r; scope = d.scope })
    ∙ (λ i. record { state = record { lets = assoc s.lets lets (record { targets = variables_from n (length xs); site = site; right = r } ∷ []) i; next = n + length xs }; scope = var_in (pushed xs n sc) })

-- ---- the lowering

module _ (group_of : Name → ℕ) (base_of : Expr → Option Base) (base_of_name : Name → Base) where
  abbrev M : Expr → Look → Built → Made
  M = make group_of base_of base_of_name

  abbrev MB : Block → Look → Built → MadeScope
  MB = make_block group_of base_of base_of_name

  abbrev L : Expr → Scope → ℕ → Lowered
  L = lowered group_of base_of base_of_name

  abbrev LB : Block → Scope → ℕ → LoweredBlock
  LB = lowered_block group_of base_of base_of_name

  mutual
    pub made : (e : Expr) (sc : Scope) (s : Built) → make group_of base_of base_of_name e (var_in sc) s ≡ made_of s (lowered group_of base_of base_of_name e sc s.next)
    made (number z site) sc s = refl
    made (truth b site) sc s = refl
    made (variable name site) sc s = used_made s site (var_in sc name)
    made (Tree.literal es site) sc s =
        let A = lowered_all group_of base_of base_of_name es sc s.next in
        (λ i. let a = made_all es sc s i in bound_at a.state site (Plain (PlainTerm.Literal a.results)))
        ∙ one_more s A.lets A.next site (Plain (PlainTerm.Literal A.results))
    made (Tree.unary op e site) sc s =
        let A = L e sc s.next in
        (λ i. let a = made e sc s i in bound_at a.state site (Plain (PlainTerm.Unary op a.result)))
        ∙ one_more s A.lets A.next site (Plain (PlainTerm.Unary op A.result))
    made (Tree.binary op e f site) sc s =
        let A = L e sc s.next in
        let B = L f sc A.next in
        (λ i. let a = made e sc s i in let b = M f (var_in sc) a.state in bound_at b.state site (Plain (PlainTerm.Binary op a.result b.result)))
        ∙ (λ i. let b = made f sc (behind s A.lets A.next) i in bound_at b.state site (Plain (PlainTerm.Binary op A.result b.result)))
        ∙ (λ i. bound_at (record { lets = assoc s.lets A.lets B.lets i; next = B.next }) site (Plain (PlainTerm.Binary op A.result B.result)))
        ∙ one_more s (A.lets ++ B.lets) B.next site (Plain (PlainTerm.Binary op A.result B.result))
    made (choice c e f site) sc s =
        let A = L c sc s.next in
        let B = L e sc A.next in
        let C = L f sc B.next in
        let s1 = behind s A.lets A.next in
        let s2 = behind s A.lets B.next in
        let r = RightTerm.If A.result (chain B.lets (Gives (B.result ∷ []))) (chain C.lets (Gives (C.result ∷ []))) in
        (λ i. let a = made c sc s i in let b = block_of a.state (M e (var_in sc) (nested a.state)) in let d = block_of b.state (M f (var_in sc) (nested b.state)) in
        bound_at d.state site (RightTerm.If a.result b.block d.block))
        ∙ (λ i. let b = block_of s1 (made e sc (anew A.next) i) in let d = block_of b.state (M f (var_in sc) (nested b.state)) in
        bound_at d.state site (RightTerm.If A.result b.block d.block))
        ∙ (λ i. let d = block_of s2 (made f sc (anew B.next) i) in
        bound_at d.state site (RightTerm.If A.result (chain B.lets (Gives (B.result ∷ []))) d.block))
        ∙ one_more s A.lets C.next site r
    made (Tree.select e f site) sc s =
        let A = L e sc s.next in
        let B = L f sc A.next in
        (λ i. let a = made e sc s i in let b = M f (var_in sc) a.state in bound_at b.state site (Plain (PlainTerm.Select a.result b.result)))
        ∙ (λ i. let b = made f sc (behind s A.lets A.next) i in bound_at b.state site (Plain (PlainTerm.Select A.result b.result)))
        ∙ (λ i. bound_at (record { lets = assoc s.lets A.lets B.lets i; next = B.next }) site (Plain (PlainTerm.Select A.result B.result)))
        ∙ one_more s (A.lets ++ B.lets) B.next site (Plain (PlainTerm.Select A.result B.result))
    made (call name es site) sc s =
        let A = lowered_all group_of base_of base_of_name es sc s.next in
        (λ i. let a = made_all es sc s i in bound_at a.state site (RightTerm.Call (group_of name) a.results))
        ∙ one_more s A.lets A.next site (RightTerm.Call (group_of name) A.results)
    made (builtin b es site) sc s =
        let A = lowered_all group_of base_of base_of_name es sc s.next in
        (λ i. let a = made_all es sc s i in bound_at a.state site (Plain (built_in b a.results)))
        ∙ one_more s A.lets A.next site (Plain (built_in b A.results))
    made (with_loop gs op site) sc s =
        let base = default_base base_of gs in
        let A = lowered_gens group_of base_of base_of_name gs sc s.next in
        let B = lowered_operation group_of base_of base_of_name op base sc A.next in
        (λ i. let a = made_gens gs sc s i in let b = make_operation group_of base_of base_of_name op base (var_in sc) a.state in bound_at b.state b.site (RightTerm.With b.op a.gens))
        ∙ (λ i. let b = made_operation op base sc (behind s A.lets A.next) i in bound_at b.state b.site (RightTerm.With b.op A.gens))
        ∙ (λ i. bound_at (record { lets = assoc s.lets A.lets B.lets i; next = B.next }) B.site (RightTerm.With B.op A.gens))
        ∙ one_more s (A.lets ++ B.lets) B.next B.site (RightTerm.With B.op A.gens)

    pub made_all : (es : Exprs) (sc : Scope) (s : Built) → make_all group_of base_of base_of_name es (var_in sc) s ≡ list_of s (lowered_all group_of base_of base_of_name es sc s.next)
    made_all no_exprs sc s = λ i. record { state = record { lets = no_more s.lets i; next = s.next }; results = [] }
    made_all (expr_and e es) sc s =
        let A = L e sc s.next in
        let B = lowered_all group_of base_of base_of_name es sc A.next in
        (λ i. let a = made e sc s i in let b = make_all group_of base_of base_of_name es (var_in sc) a.state in record { state = b.state; results = a.result ∷ b.results })
        ∙ (λ i. let b = made_all es sc (behind s A.lets A.next) i in record { state = b.state; results = A.result ∷ b.results })
        ∙ (λ i. record { state = record { lets = assoc s.lets A.lets B.lets i; next = B.next }; results = A.result ∷ B.results })

    pub made_maybe : (e : MaybeExpr) (sc : Scope) (s : Built) → make_maybe group_of base_of base_of_name e (var_in sc) s ≡ option_of s (lowered_maybe group_of base_of base_of_name e sc s.next)
    made_maybe left_out sc s = λ i. record { state = record { lets = no_more s.lets i; next = s.next }; result = None }
    made_maybe (given e) sc s = λ i. let a = made e sc s i in record { state = a.state; result = Some a.result }

    pub made_bound : (e : BoundTree) (sc : Scope) (s : Built) → make_bound group_of base_of base_of_name e (var_in sc) s ≡ option_of s (lowered_bound group_of base_of base_of_name e sc s.next)
    made_bound (dot site) sc s = λ i. record { state = record { lets = no_more s.lets i; next = s.next }; result = None }
    made_bound (at e) sc s = λ i. let a = made e sc s i in record { state = a.state; result = Some a.result }

    pub made_operation : (op : OperationTree) (base : Base) (sc : Scope) (s : Built) → make_operation group_of base_of base_of_name op base (var_in sc) s ≡ operation_of s (lowered_operation group_of base_of base_of_name op base sc s.next)
    made_operation (genarray shape left_out site) base sc s =
        let A = L shape sc s.next in
        let r = Plain (PlainTerm.Const (scalar base (pos 0))) in
        (λ i. let a = made shape sc s i in let b = bound_at a.state site r in record { state = b.state; op = making.Genarray a.result b.result; site = site })
        ∙ (λ i. let b = one_more s A.lets A.next site r i in record { state = b.state; op = making.Genarray A.result b.result; site = site })
    made_operation (genarray shape (given e) site) base sc s =
        let A = L shape sc s.next in
        let B = L e sc A.next in
        (λ i. let a = made shape sc s i in let b = M e (var_in sc) a.state in record { state = b.state; op = making.Genarray a.result b.result; site = site })
        ∙ (λ i. let b = made e sc (behind s A.lets A.next) i in record { state = b.state; op = making.Genarray A.result b.result; site = site })
        ∙ (λ i. record { state = record { lets = assoc s.lets A.lets B.lets i; next = B.next }; op = making.Genarray A.result B.result; site = site })
    made_operation (modarray array site) base sc s = λ i. let a = made array sc s i in record { state = a.state; op = making.Modarray a.result; site = site }
    made_operation (Tree.fold op neutral site) base sc s = λ i. let a = made neutral sc s i in record { state = a.state; op = making.Fold op a.result; site = site }

    pub made_gen : (g0 : Gen) (sc : Scope) (s : Built) → make_gen group_of base_of base_of_name g0 (var_in sc) s ≡ gen_of s (lowered_gen group_of base_of base_of_name g0 sc s.next)
    made_gen (gen lower lower_closed index upper upper_closed step width body cell site) sc s =
        let LO = lowered_bound group_of base_of base_of_name lower sc s.next in
        let UP = lowered_bound group_of base_of base_of_name upper sc LO.next in
        let T = lowered_maybe group_of base_of base_of_name step sc UP.next in
        let W = lowered_maybe group_of base_of base_of_name width sc T.next in
        let inner = index_scope index W.next sc in
        let first = after_index index W.next in
        let B = LB body inner first in
        let C = L cell B.scope B.next in
        let ended : MadeOption → MadeOption → MadeOption → MadeOption → MadeNames → Made → MadeGen = λ l u t w i x.
        let c = block_of i.state x in
        record {
          state = c.state;
          gen = record {
            head = record { lower = l.result; lower_closed = lower_closed; upper = u.result; upper_closed = upper_closed; step = t.result; width = w.result; index = numbered w.state.next; names = i.results; site = site };
            body = c.block;
          };
        } in
        let last : MadeOption → MadeOption → MadeOption → MadeOption → MadeNames → MadeGen = λ l u t w i.
        let b = MB body i.scope (nested i.state) in ended l u t w i (M cell b.scope b.state) in
        let go : MadeOption → MadeOption → MadeOption → MadeOption → MadeGen = λ l u t w.
        let f = fresh_at w.state in last l u t w (index_declared index f.result (var_in sc) f.state) in
        let s1 = behind s LO.lets LO.next in
        let s2 = behind s1 UP.lets UP.next in
        let s3 = behind s2 T.lets T.next in
        let s4 = behind s3 W.lets W.next in
        let named_at : MadeNames = record { state = record { lets = s4.lets; next = first }; results = index_names index W.next; scope = var_in inner } in
        (λ i. let l = made_bound lower sc s i in let u = make_bound group_of base_of base_of_name upper (var_in sc) l.state in let t = make_maybe group_of base_of base_of_name step (var_in sc) u.state in go l u t (make_maybe group_of base_of base_of_name width (var_in sc) t.state))
        ∙ (λ i. let u = made_bound upper sc s1 i in let t = make_maybe group_of base_of base_of_name step (var_in sc) u.state in go (option_of s LO) u t (make_maybe group_of base_of base_of_name width (var_in sc) t.state))
        ∙ (λ i. let t = made_maybe step sc s2 i in go (option_of s LO) (option_of s1 UP) t (make_maybe group_of base_of base_of_name width (var_in sc) t.state))
        ∙ (λ i. go (option_of s LO) (option_of s1 UP) (option_of s2 T) (made_maybe width sc s3 i))
        ∙ (λ i. last (option_of s LO) (option_of s1 UP) (option_of s2 T) (option_of s3 W) (index_is index s4.lets W.next sc i))
        ∙ (λ i. let b = made_block body inner (anew first) i in ended (option_of s LO) (option_of s1 UP) (option_of s2 T) (option_of s3 W) named_at (M cell b.scope b.state))
        ∙ (λ i. ended (option_of s LO) (option_of s1 UP) (option_of s2 T) (option_of s3 W) named_at (made cell B.scope (record { lets = B.lets; next = B.next }) i))
        ∙ (λ i. record { state = record { lets = four s.lets LO.lets UP.lets T.lets W.lets i; next = C.next }; gen = record { head = record { lower = LO.result; lower_closed = lower_closed; upper = UP.result; upper_closed = upper_closed; step = T.result; width = W.result; index = numbered W.next; names = index_names index W.next; site = site }; body = chain (B.lets ++ C.lets) (Gives (C.result ∷ [])) } })

    pub made_gens : (gs : Gens) (sc : Scope) (s : Built) → make_gens group_of base_of base_of_name gs (var_in sc) s ≡ gens_of s (lowered_gens group_of base_of base_of_name gs sc s.next)
    made_gens no_gens sc s = λ i. record { state = record { lets = no_more s.lets i; next = s.next }; gens = Terms.NoGens }
    made_gens (gen_and g0 gs) sc s =
        let A = lowered_gen group_of base_of base_of_name g0 sc s.next in
        let B = lowered_gens group_of base_of base_of_name gs sc A.next in
        (λ i. let a = made_gen g0 sc s i in let b = make_gens group_of base_of base_of_name gs (var_in sc) a.state in record { state = b.state; gens = Terms.Gen a.gen.head a.gen.body b.gens })
        ∙ (λ i. let b = made_gens gs sc (behind s A.lets A.next) i in record { state = b.state; gens = Terms.Gen A.head A.body b.gens })
        ∙ (λ i. record { state = record { lets = assoc s.lets A.lets B.lets i; next = B.next }; gens = Terms.Gen A.head A.body B.gens })

    pub made_stmt : (st : Stmt) (sc : Scope) (s : Built) → make_stmt group_of base_of base_of_name st (var_in sc) s ≡ scope_of s (lowered_stmt group_of base_of base_of_name st sc s.next)
    made_stmt (assign targets (call name es site)) sc s =
        let A = lowered_all group_of base_of base_of_name es sc s.next in
        (λ i. let a = made_all es sc s i in let d = declared (names targets) (var_in sc) a.state in record { state = with_let d.state d.results site (RightTerm.Call (group_of name) a.results); scope = d.scope })
        ∙ bound_behind s A.lets A.next (names targets) sc site (RightTerm.Call (group_of name) A.results)
    made_stmt (assign targets e) sc s =
        let A = L e sc s.next in
        (λ i. let a = made e sc s i in record { state = a.state; scope = first_var targets a.result (var_in sc) })
        ∙ (λ i. record { state = behind s A.lets A.next; scope = first_is targets A.result sc i })
    made_stmt (Tree.replace target bracket index e) sc s =
        let I = L index sc s.next in
        let V = L e sc I.next in
        let A = used V.next bracket (var_in sc target.name) in
        let r = Plain (PlainTerm.Replace A.result I.result V.result) in
        (λ i. let x = made index sc s i in let v = M e (var_in sc) x.state in let a = use_at v.state bracket (var_in sc target.name) in let z = bound_at a.state bracket (Plain (PlainTerm.Replace a.result x.result v.result)) in record { state = z.state; scope = with_var target.name z.result (var_in sc) })
        ∙ (λ i. let v = made e sc (behind s I.lets I.next) i in let a = use_at v.state bracket (var_in sc target.name) in let z = bound_at a.state bracket (Plain (PlainTerm.Replace a.result I.result v.result)) in record { state = z.state; scope = with_var target.name z.result (var_in sc) })
        ∙ (λ i. let a = used_made (behind (behind s I.lets I.next) V.lets V.next) bracket (var_in sc target.name) i in let z = bound_at a.state bracket (Plain (PlainTerm.Replace a.result I.result V.result)) in record { state = z.state; scope = with_var target.name z.result (var_in sc) })
        ∙ (λ i. let z = bound_at (record { lets = three s.lets I.lets V.lets A.lets i; next = A.next }) bracket r in record { state = z.state; scope = with_var target.name z.result (var_in sc) })
        ∙ (λ i. let z = one_more s (I.lets ++ (V.lets ++ A.lets)) A.next bracket r i in record { state = z.state; scope = with_var target.name z.result (var_in sc) })
    made_stmt (if_else c fs ss site) sc s =
        let A = L c sc s.next in
        let B = LB fs sc A.next in
        let C = LB ss sc B.next in
        let last : Made → MadeScope → MadeScope → MadeScope = λ a b d.
        let both = bound_in_both b.scope d.scope (once [] (names_bound fs ++ names_bound ss)) in
        let t = declared both (var_in sc) (resumed a.state d.state) in
        record {
          state = with_let t.state t.results site (RightTerm.If a.result (chain b.state.lets (Gives (vars_of b.scope both))) (chain d.state.lets (Gives (vars_of d.scope both))));
          scope = t.scope;
        } in
        let both = merged (names_bound fs ++ names_bound ss) B.scope C.scope in
        (λ i. let a = made c sc s i in let b = MB fs (var_in sc) (nested a.state) in last a b (MB ss (var_in sc) (nested b.state)))
        ∙ (λ i. let b = made_block fs sc (anew A.next) i in last (made_of s A) b (MB ss (var_in sc) (nested b.state)))
        ∙ (λ i. last (made_of s A) (scope_of (anew A.next) B) (made_block ss sc (anew B.next) i))
        ∙ bound_behind s A.lets C.next both sc site (RightTerm.If A.result (chain B.lets (Gives (vars_in B.scope both))) (chain C.lets (Gives (vars_in C.scope both))))
    made_stmt (while_do c body site) sc s =
        let all = carried (names_bound body) sc in
        let n = s.next in
        let inside = pushed all n sc in
        let T = L c inside (n + length all) in
        let B = LB body inside T.next in
        let after : ℕ → Built = λ m. record { lets = s.lets; next = m } in
        let last : MadeNames → MadeBlock → MadeBlock → MadeScope = λ p t b.
        let d = declared all (var_in sc) b.state in
        record { state = with_let d.state d.results site (RightTerm.Loop false (vars_in sc all) p.results t.block b.block site); scope = d.scope } in
        (λ i. let p = declared_is all sc s i in let t = block_of p.state (M c p.scope (nested p.state)) in last p t (block_giving all t.state (MB body p.scope (nested t.state))))
        ∙ (λ i. let t = block_of (after (n + length all)) (made c inside (anew (n + length all)) i) in last (taken all sc s) t (block_giving all t.state (MB body (var_in inside) (nested t.state))))
        ∙ (λ i. last (taken all sc s) (record { state = after T.next; block = chain T.lets (Gives (T.result ∷ [])) }) (block_giving all (after T.next) (made_block body inside (anew T.next) i)))
        ∙ (λ i. last (taken all sc s) (record { state = after T.next; block = chain T.lets (Gives (T.result ∷ [])) }) (record { state = record { lets = no_more s.lets i; next = B.next }; block = chain B.lets (Gives (vars_in B.scope all)) }))
        ∙ bound_behind s [] B.next all sc site (RightTerm.Loop false (vars_in sc all) (variables_from n (length all)) (chain T.lets (Gives (T.result ∷ []))) (chain B.lets (Gives (vars_in B.scope all))) site)
    made_stmt (do_while body c site test) sc s =
        let all = once [] (names_bound body) in
        let S = starts base_of_name site all sc s.next in
        let inside = pushed all S.next sc in
        let B = LB body inside (S.next + length all) in
        let T = L c inside B.next in
        let after : ℕ → Built = λ m. behind s S.lets m in
        let last : MadeList → MadeNames → MadeBlock → MadeBlock → MadeScope = λ x p b t.
        let d = declared all (var_in sc) t.state in
        record { state = with_let d.state d.results site (RightTerm.Loop true x.results p.results t.block b.block test); scope = d.scope } in
        let go : MadeList → MadeNames → MadeScope = λ x p.
        let b = block_giving all p.state (MB body p.scope (nested p.state)) in last x p b (block_of b.state (M c p.scope (nested b.state))) in
        (λ i. let x = starts_made base_of_name site all sc s i in go x (declared all (var_in sc) x.state))
        ∙ (λ i. go (list_of s S) (declared_is all sc (after S.next) i))
        ∙ (λ i. let b = block_giving all (after (S.next + length all)) (made_block body inside (anew (S.next + length all)) i) in last (list_of s S) (taken all sc (after S.next)) b (block_of b.state (M c (var_in inside) (nested b.state))))
        ∙ (λ i. last (list_of s S) (taken all sc (after S.next)) (record { state = after B.next; block = chain B.lets (Gives (vars_in B.scope all)) }) (block_of (after B.next) (made c inside (anew B.next) i)))
        ∙ bound_behind s S.lets T.next all sc site (RightTerm.Loop true S.results (variables_from S.next (length all)) (chain T.lets (Gives (T.result ∷ []))) (chain B.lets (Gives (vars_in B.scope all))) test)

    pub made_block : (ss : Block) (sc : Scope) (s : Built) → make_block group_of base_of base_of_name ss (var_in sc) s ≡ scope_of s (lowered_block group_of base_of base_of_name ss sc s.next)
    made_block no_stmts sc s = λ i. record { state = record { lets = no_more s.lets i; next = s.next }; scope = var_in sc }
    made_block (stmt_and st rest) sc s =
        let A = lowered_stmt group_of base_of base_of_name st sc s.next in
        let B = lowered_block group_of base_of base_of_name rest A.scope A.next in
        (λ i. let a = made_stmt st sc s i in MB rest a.scope a.state)
        ∙ made_block rest A.scope (behind s A.lets A.next)
        ∙ (λ i. record { state = record { lets = assoc s.lets A.lets B.lets i; next = B.next }; scope = var_in B.scope })
