-- The groups that what is lowered calls are those of the names that its source calls.
use Rattle.std.proofs.Common.{◌≡◌, ℕ, ◌+◌, true, List, [], ◌∷◌, ◌++◌, length, Option, Some, None, refl, ap, sym, subst, ◌∙◌}
use Rattle.sac_base.specs.declared.base.Base.{Base}
use Rattle.sac_base.specs.declared.name.Name.{Name}
use Rattle.sac_base.specs.declared.site.Site.{Site}
use Rattle.sac_ast.specs.Tree.{Expr, Exprs, no_exprs, expr_and, MaybeExpr, left_out, given, Stmt, Block, no_stmts, stmt_and, BoundTree, dot, at, Gen, gen, Gens, no_gens, gen_and, OperationTree, number, truth, variable, choice, call, builtin, with_loop, assign, if_else, while_do, do_while, genarray, modarray}
use Rattle.sac_ast.specs.Tree
use Rattle.core_ir.specs.declared.tree.Var.{Var}
use Rattle.core_ir.specs.Terms.{LetTerm, RightTerm, Gives, Plain, PlainTerm, chain}
use Rattle.core_ir.specs.WellFormed.{calls_in, calls_in_right, calls_in_gens}
use Rattle.source_meaning.specs.Meaning.{names, default_base}
use Rattle.core_lowering.specs.Lowering.{Scope, var_in, numbered, variables_from, pushed, vars_in, once, names_bound, merged, carried, binding, used, built_in, index_scope, after_index, start_of, starts, lowered, lowered_all, lowered_maybe, lowered_bound, lowered_gen, lowered_gens, lowered_operation, lowered_stmt, lowered_block}
use Rattle.core_lowering.specs.Standing.{CallsIn, CallsInAll, CallsInMaybe, CallsInBound, CallsInGen, CallsInGens, CallsInOperation, CallsInStmt, CallsInBlock}

-- ---- what bindings call

abbrev pub calls_of : List LetTerm → List ℕ
calls_of [] = []
calls_of (l ∷ ls) = calls_in_right l.right ++ calls_of ls

assoc : {A : Type 0} (xs ys zs : List A) → (xs ++ ys) ++ zs ≡ xs ++ (ys ++ zs)
assoc [] ys zs = refl
assoc (x ∷ xs) ys zs = ap (λ l. x ∷ l) (assoc xs ys zs)

pub calls_chain : (ls : List LetTerm) (xs : List Var) → calls_in (chain ls (Gives xs)) ≡ calls_of ls
calls_chain [] xs = refl
calls_chain (l ∷ ls) xs = ap (λ gs. calls_in_right l.right ++ gs) (calls_chain ls xs)

calls_more : (ls ms : List LetTerm) → calls_of (ls ++ ms) ≡ calls_of ls ++ calls_of ms
calls_more [] ms = refl
calls_more (l ∷ ls) ms = ap (λ gs. calls_in_right l.right ++ gs) (calls_more ls ms) ∙ sym (assoc (calls_in_right l.right) (calls_of ls) (calls_of ms))

module _ (P : Name → Type 0) (group_of : Name → ℕ) where
  -- the groups are those of names of which it holds
  abbrev pub FromNames : List ℕ → Type 0
  FromNames [] = Unit {0}
  FromNames (g ∷ gs) = ((x : Name) × (P x × (g ≡ group_of x))) × FromNames gs

  pub both : (gs hs : List ℕ) → FromNames gs → FromNames hs → FromNames (gs ++ hs)
  both [] hs p q = q
  both (g ∷ gs) hs p q = (p.0, both gs hs p.1 q)

  pub two : (ls ms : List LetTerm) → FromNames (calls_of ls) → FromNames (calls_of ms) → FromNames (calls_of (ls ++ ms))
  two ls ms p q = subst (λ (gs : List ℕ). FromNames gs) (sym (calls_more ls ms)) (both (calls_of ls) (calls_of ms) p q)

  pub inner : (ls : List LetTerm) (xs : List Var) → FromNames (calls_of ls) → FromNames (calls_in (chain ls (Gives xs)))
  inner ls xs p = subst (λ (gs : List ℕ). FromNames gs) (sym (calls_chain ls xs)) p

  -- bindings, and one more
  last : (ls : List LetTerm) (l : LetTerm) → FromNames (calls_of ls) → FromNames (calls_in_right l.right) → FromNames (calls_of (ls ++ (l ∷ [])))
  last ls l p q = two ls (l ∷ []) p (both (calls_in_right l.right) [] q tt)

  used_calls : (n : ℕ) (site : Site) (o : Option Var) → FromNames (calls_of (used n site o).lets)
  used_calls n site None = tt
  used_calls n site (Some x) = tt

  start_calls : (base : Base) (n : ℕ) (site : Site) (o : Option Var) → FromNames (calls_of (start_of base n site o).lets)
  start_calls base n site None = tt
  start_calls base n site (Some x) = tt

  starts_calls : (base_of_name : Name → Base) (site : Site) (xs : List Name) (scope : Scope) (n : ℕ) → FromNames (calls_of (starts base_of_name site xs scope n).lets)
  starts_calls base_of_name site [] scope n = tt
  starts_calls base_of_name site (x ∷ xs) scope n =
      let A = start_of (base_of_name x) n site (var_in scope x) in
      two A.lets (starts base_of_name site xs scope A.next).lets (start_calls (base_of_name x) n site (var_in scope x)) (starts_calls base_of_name site xs scope A.next)

  module _ (base_of : Expr → Option Base) (base_of_name : Name → Base) where
    mutual
      pub calls : (e : Expr) (scope : Scope) (n : ℕ) → CallsIn P e → FromNames (calls_of (lowered group_of base_of base_of_name e scope n).lets)
      calls (number z site) scope n d = tt
      calls (truth b site) scope n d = tt
      calls (variable name site) scope n d = used_calls n site (var_in scope name)
      calls (Tree.literal es site) scope n d =
          let A = lowered_all group_of base_of base_of_name es scope n in
          last A.lets (binding (numbered A.next) site (Plain (PlainTerm.Literal A.results))) (calls_all es scope n d) tt
      calls (Tree.unary op e site) scope n d =
          let A = lowered group_of base_of base_of_name e scope n in
          last A.lets (binding (numbered A.next) site (Plain (PlainTerm.Unary op A.result))) (calls e scope n d) tt
      calls (Tree.binary op e f site) scope n d =
          let A = lowered group_of base_of base_of_name e scope n in
          let B = lowered group_of base_of base_of_name f scope A.next in
          last (A.lets ++ B.lets) (binding (numbered B.next) site (Plain (PlainTerm.Binary op A.result B.result))) (two A.lets B.lets (calls e scope n d.0) (calls f scope A.next d.1)) tt
      calls (choice c e f site) scope n d =
          let A = lowered group_of base_of base_of_name c scope n in
          let B = lowered group_of base_of base_of_name e scope A.next in
          let C = lowered group_of base_of base_of_name f scope B.next in
          let r = RightTerm.If A.result (chain B.lets (Gives (B.result ∷ []))) (chain C.lets (Gives (C.result ∷ []))) in
          last A.lets (binding (numbered C.next) site r) (calls c scope n d.0)
          (both (calls_in (chain B.lets (Gives (B.result ∷ [])))) (calls_in (chain C.lets (Gives (C.result ∷ [])))) (inner B.lets (B.result ∷ []) (calls e scope A.next d.1)) (inner C.lets (C.result ∷ []) (calls f scope B.next d.2)))
      calls (Tree.select e f site) scope n d =
          let A = lowered group_of base_of base_of_name e scope n in
          let B = lowered group_of base_of base_of_name f scope A.next in
          last (A.lets ++ B.lets) (binding (numbered B.next) site (Plain (PlainTerm.Select A.result B.result))) (two A.lets B.lets (calls e scope n d.0) (calls f scope A.next d.1)) tt
      calls (call name es site) scope n d =
          let A = lowered_all group_of base_of base_of_name es scope n in
          last A.lets (binding (numbered A.next) site (RightTerm.Call (group_of name) A.results)) (calls_all es scope n d.1) ((name, (d.0, refl)), tt)
      calls (builtin b es site) scope n d =
          let A = lowered_all group_of base_of base_of_name es scope n in
          last A.lets (binding (numbered A.next) site (Plain (built_in b A.results))) (calls_all es scope n d) tt
      calls (with_loop gs op site) scope n d =
          let A = lowered_gens group_of base_of base_of_name gs scope n in
          let B = lowered_operation group_of base_of base_of_name op (default_base base_of gs) scope A.next in
          let q = calls_gens gs scope n d.0 in
          last (A.lets ++ B.lets) (binding (numbered B.next) B.site (RightTerm.With B.op A.gens)) (two A.lets B.lets q.0 (calls_operation op (default_base base_of gs) scope A.next d.1)) q.1

      pub calls_all : (es : Exprs) (scope : Scope) (n : ℕ) → CallsInAll P es → FromNames (calls_of (lowered_all group_of base_of base_of_name es scope n).lets)
      calls_all no_exprs scope n d = tt
      calls_all (expr_and e es) scope n d =
          let A = lowered group_of base_of base_of_name e scope n in
          two A.lets (lowered_all group_of base_of base_of_name es scope A.next).lets (calls e scope n d.0) (calls_all es scope A.next d.1)

      calls_maybe : (e : MaybeExpr) (scope : Scope) (n : ℕ) → CallsInMaybe P e → FromNames (calls_of (lowered_maybe group_of base_of base_of_name e scope n).lets)
      calls_maybe left_out scope n d = tt
      calls_maybe (given e) scope n d = calls e scope n d

      calls_bound : (e : BoundTree) (scope : Scope) (n : ℕ) → CallsInBound P e → FromNames (calls_of (lowered_bound group_of base_of base_of_name e scope n).lets)
      calls_bound (dot site) scope n d = tt
      calls_bound (at e) scope n d = calls e scope n d

      calls_gen : (g0 : Gen) (scope : Scope) (n : ℕ) → CallsInGen P g0 → FromNames (calls_of (lowered_gen group_of base_of base_of_name g0 scope n).lets) × FromNames (calls_in (lowered_gen group_of base_of base_of_name g0 scope n).body)
      calls_gen (gen lower lower_closed index upper upper_closed step width body cell site) scope n d =
          let L = lowered_bound group_of base_of base_of_name lower scope n in
          let U = lowered_bound group_of base_of base_of_name upper scope L.next in
          let S = lowered_maybe group_of base_of base_of_name step scope U.next in
          let W = lowered_maybe group_of base_of base_of_name width scope S.next in
          let B = lowered_block group_of base_of base_of_name body (index_scope index W.next scope) (after_index index W.next) in
          let C = lowered group_of base_of base_of_name cell B.scope B.next in (
            two L.lets (U.lets ++ (S.lets ++ W.lets)) (calls_bound lower scope n d.0) (two U.lets (S.lets ++ W.lets) (calls_bound upper scope L.next d.1) (two S.lets W.lets (calls_maybe step scope U.next d.2) (calls_maybe width scope S.next d.3))),
            inner (B.lets ++ C.lets) (C.result ∷ []) (two B.lets C.lets (calls_block body (index_scope index W.next scope) (after_index index W.next) d.4) (calls cell B.scope B.next d.5)),
          )

      calls_gens : (gs : Gens) (scope : Scope) (n : ℕ) → CallsInGens P gs → FromNames (calls_of (lowered_gens group_of base_of base_of_name gs scope n).lets) × FromNames (calls_in_gens (lowered_gens group_of base_of base_of_name gs scope n).gens)
      calls_gens no_gens scope n d = (tt, tt)
      calls_gens (gen_and g0 gs) scope n d =
          let A = lowered_gen group_of base_of base_of_name g0 scope n in
          let B = lowered_gens group_of base_of base_of_name gs scope A.next in
          let p = calls_gen g0 scope n d.0 in
          let q = calls_gens gs scope A.next d.1 in
          (two A.lets B.lets p.0 q.0, both (calls_in A.body) (calls_in_gens B.gens) p.1 q.1)

      calls_operation : (op : OperationTree) (base : Base) (scope : Scope) (n : ℕ) → CallsInOperation P op → FromNames (calls_of (lowered_operation group_of base_of base_of_name op base scope n).lets)
      calls_operation (genarray shape left_out site) base scope n d =
          let A = lowered group_of base_of base_of_name shape scope n in
          two A.lets _ (calls shape scope n d.0) tt
      calls_operation (genarray shape (given e) site) base scope n d =
          let A = lowered group_of base_of base_of_name shape scope n in
          two A.lets (lowered group_of base_of base_of_name e scope A.next).lets (calls shape scope n d.0) (calls e scope A.next d.1)
      calls_operation (modarray array site) base scope n d = calls array scope n d
      calls_operation (Tree.fold op neutral site) base scope n d = calls neutral scope n d

      calls_stmt : (st : Stmt) (scope : Scope) (n : ℕ) → CallsInStmt P st → FromNames (calls_of (lowered_stmt group_of base_of base_of_name st scope n).lets)
      calls_stmt (assign targets (call name es site)) scope n d =
          let A = lowered_all group_of base_of base_of_name es scope n in
          last A.lets (record { targets = variables_from A.next (length (names targets)); site = site; right = RightTerm.Call (group_of name) A.results }) (calls_all es scope n d.1) ((name, (d.0, refl)), tt)
      calls_stmt (assign targets e) scope n d = calls e scope n d
      calls_stmt (Tree.replace target bracket index e) scope n d =
          let I = lowered group_of base_of base_of_name index scope n in
          let V = lowered group_of base_of base_of_name e scope I.next in
          let A = used V.next bracket (var_in scope target.name) in
          last (I.lets ++ (V.lets ++ A.lets)) (binding (numbered A.next) bracket (Plain (PlainTerm.Replace A.result I.result V.result)))
          (two I.lets (V.lets ++ A.lets) (calls index scope n d.0) (two V.lets A.lets (calls e scope I.next d.1) (used_calls V.next bracket (var_in scope target.name)))) tt
      calls_stmt (if_else c fs ss site) scope n d =
          let A = lowered group_of base_of base_of_name c scope n in
          let B = lowered_block group_of base_of base_of_name fs scope A.next in
          let C = lowered_block group_of base_of base_of_name ss scope B.next in
          let us = merged (names_bound fs ++ names_bound ss) B.scope C.scope in
          let xs = vars_in B.scope us in
          let ys = vars_in C.scope us in
          last A.lets (record { targets = variables_from C.next (length us); site = site; right = RightTerm.If A.result (chain B.lets (Gives xs)) (chain C.lets (Gives ys)) }) (calls c scope n d.0)
          (both (calls_in (chain B.lets (Gives xs))) (calls_in (chain C.lets (Gives ys))) (inner B.lets xs (calls_block fs scope A.next d.1)) (inner C.lets ys (calls_block ss scope B.next d.2)))
      calls_stmt (while_do c body site) scope n d =
          let us = carried (names_bound body) scope in
          let inside = pushed us n scope in
          let T = lowered group_of base_of base_of_name c inside (n + length us) in
          let B = lowered_block group_of base_of base_of_name body inside T.next in
          let xs = vars_in B.scope us in
          both (calls_in (chain T.lets (Gives (T.result ∷ []))) ++ calls_in (chain B.lets (Gives xs))) []
          (both (calls_in (chain T.lets (Gives (T.result ∷ [])))) (calls_in (chain B.lets (Gives xs))) (inner T.lets (T.result ∷ []) (calls c inside (n + length us) d.0)) (inner B.lets xs (calls_block body inside T.next d.1))) tt
      calls_stmt (do_while body c site test) scope n d =
          let us = once [] (names_bound body) in
          let S = starts base_of_name site us scope n in
          let inside = pushed us S.next scope in
          let B = lowered_block group_of base_of base_of_name body inside (S.next + length us) in
          let T = lowered group_of base_of base_of_name c inside B.next in
          let xs = vars_in B.scope us in
          last S.lets (record { targets = variables_from T.next (length us); site = site; right = RightTerm.Loop true S.results (variables_from S.next (length us)) (chain T.lets (Gives (T.result ∷ []))) (chain B.lets (Gives xs)) test }) (starts_calls base_of_name site us scope n)
          (both (calls_in (chain T.lets (Gives (T.result ∷ [])))) (calls_in (chain B.lets (Gives xs))) (inner T.lets (T.result ∷ []) (calls c inside B.next d.1)) (inner B.lets xs (calls_block body inside (S.next + length us) d.0)))

      pub calls_block : (ss : Block) (scope : Scope) (n : ℕ) → CallsInBlock P ss → FromNames (calls_of (lowered_block group_of base_of base_of_name ss scope n).lets)
      calls_block no_stmts scope n d = tt
      calls_block (stmt_and st rest) scope n d =
          let A = lowered_stmt group_of base_of base_of_name st scope n in
          two A.lets (lowered_block group_of base_of base_of_name rest A.scope A.next).lets (calls_stmt st scope n d.0) (calls_block rest A.scope A.next d.1)
