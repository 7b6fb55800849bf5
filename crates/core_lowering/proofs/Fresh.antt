-- What the lowering does to numbers and scopes: new variables have new numbers, names that are bound have variables, and others keep theirs.
use Rattle.std.proofs.Common.{◌≡◌, ℕ, suc, ◌+◌, ◌<◌, ◌≤◌, Bool, true, false, ◌&&◌, ◌||◌, List, [], ◌∷◌, ◌++◌, length, Option, Some, None, refl, ap, sym, ◌∙◌, arith}
use Rattle.std.specs.Prelude.{bytes_eq, is_some, if◌then◌else◌}
use Rattle.sac_base.specs.declared.base.Base.{Base}
use Rattle.sac_base.specs.declared.name.Name.{Name}
use Rattle.sac_base.specs.declared.site.Site.{Site}
use Rattle.sac_ast.specs.declared.Target.{Target}
use Rattle.sac_ast.specs.Tree.{IndexTree, named, parts, Expr, Exprs, no_exprs, expr_and, MaybeExpr, left_out, given, Stmt, Block, no_stmts, stmt_and, BoundTree, dot, at, Gen, gen, Gens, no_gens, gen_and, OperationTree, number, truth, variable, choice, call, builtin, with_loop, assign, if_else, while_do, do_while, genarray, modarray}
use Rattle.sac_ast.specs.Tree
use Rattle.core_ir.specs.declared.tree.Var.{Var}
use Rattle.core_ir.specs.Terms.{LetTerm, RightTerm}
use Rattle.source_meaning.specs.Meaning.{names, default_base}
use Rattle.core_lowering.specs.Lowering.{Scope, var_in, numbered, pushed, has_name, once, bound_names, names_bound, is_known, merged, carried, Lowered, LoweredList, LoweredOption, LoweredBlock, ended, used, index_scope, after_index, first_bound, start_of, starts, lowered, lowered_all, lowered_maybe, lowered_bound, lowered_gen, lowered_gens, lowered_operation, lowered_stmt, lowered_block}
use Rattle.core_lowering.specs.Definite.{Names, with_names, bound_after, bound_behind, AtMostOne, StmtDefinite, BlockDefinite}
use Rattle.core_lowering.proofs.Scopes.{Below, below_more, below_with, below_pushed, AllBelow, OptionBelow, or_none, has_neither, has_more, listed_once, never_listed, carried_none, merged_has, merged_none, push_kept, push_known, push_knows}

-- ---- numbers

pub record Grown (n : ℕ) (a : Lowered) : Type 0 where
  pub later : n ≤ a.next
  pub below : a.result.0 < a.next

pub record GrownList (n : ℕ) (a : LoweredList) : Type 0 where
  pub later : n ≤ a.next
  pub below : AllBelow a.next a.results

pub record GrownOption (n : ℕ) (a : LoweredOption) : Type 0 where
  pub later : n ≤ a.next
  pub below : OptionBelow a.next a.result

pub record GrownBlock (n : ℕ) (a : LoweredBlock) : Type 0 where
  pub later : n ≤ a.next
  pub below : Below a.next a.scope

ended_grown : (lets : List LetTerm) (n m : ℕ) (site : Site) (r : RightTerm) → n ≤ m → Grown n (ended lets m site r)
ended_grown lets n m site r h = record { later = omega arith; below = omega arith }

pub used_grown : (n : ℕ) (site : Site) (o : Option Var) → ((x : Var) → o ≡ Some x → x.0 < n) → Grown n (used n site o)
used_grown n site None h = ended_grown [] n n site _ (omega arith)
used_grown n site (Some x) h = record { later = omega arith; below = h x refl }

pub start_grown : (base : Base) (n : ℕ) (site : Site) (o : Option Var) → ((x : Var) → o ≡ Some x → x.0 < n) → Grown n (start_of base n site o)
start_grown base n site None h = ended_grown [] n n site _ (omega arith)
start_grown base n site (Some x) h = record { later = omega arith; below = h x refl }

pub starts_grown : (base_of_name : Name → Base) (site : Site) (xs : List Name) (scope : Scope) (n : ℕ) → Below n scope → GrownList n (starts base_of_name site xs scope n)
starts_grown base_of_name site [] scope n b = record { later = omega arith; below = tt }
starts_grown base_of_name site (x ∷ xs) scope n b =
    let a = start_grown (base_of_name x) n site (var_in scope x) (λ y p. b x y p) in
    let s = start_of (base_of_name x) n site (var_in scope x) in
    let c = starts_grown base_of_name site xs scope s.next (below_more n s.next scope b a.later) in
    record { later = (let p = a.later in let q = c.later in omega arith); below = ((let p = a.below in let q = c.later in omega arith), c.below) }

pub index_below : (index : IndexTree) (n : ℕ) (scope : Scope) → Below n scope → (n ≤ after_index index n) × Below (after_index index n) (index_scope index n scope)
index_below (named target) n scope b = (omega arith, below_with (suc n) (numbered n) target.name scope (below_more n (suc n) scope b (omega arith)) (omega arith))
index_below (parts targets) n scope b =
    (omega arith, below_pushed (names targets) (suc n) (suc n + length (names targets)) scope (below_more n (suc n) scope b (omega arith)) (omega arith))

pub same_length : (ts : List Target) → length (names ts) ≡ length ts
same_length [] = refl
same_length (t ∷ ts) = ap suc (same_length ts)

first_below : (targets : List Target) (x : Var) (n : ℕ) (scope : Scope) → Below n scope → x.0 < n → Below n (first_bound targets x scope)
first_below [] x n scope b l = b
first_below (t ∷ ts) x n scope b l = below_with n x t.name scope b l

assign_grown : (targets : List Target) (a : Lowered) (n : ℕ) (scope : Scope) → Below n scope → Grown n a → GrownBlock n (record { lets = a.lets; scope = first_bound targets a.result scope; next = a.next })
assign_grown targets a n scope b g = record { later = g.later; below = first_below targets a.result a.next scope (below_more n a.next scope b g.later) g.below }

module _ (group_of : Name → ℕ) (base_of : Expr → Option Base) (base_of_name : Name → Base) where
  mutual
    pub grows : (e : Expr) (scope : Scope) (n : ℕ) → Below n scope → Grown n (lowered group_of base_of base_of_name e scope n)
    grows (number z site) scope n b = ended_grown [] n n site _ (omega arith)
    grows (truth t site) scope n b = ended_grown [] n n site _ (omega arith)
    grows (variable name site) scope n b = used_grown n site (var_in scope name) (λ x p. b name x p)
    grows (Tree.literal es site) scope n b = ended_grown _ n _ site _ (grows_all es scope n b).later
    grows (Tree.unary op e site) scope n b = ended_grown _ n _ site _ (grows e scope n b).later
    grows (Tree.binary op e f site) scope n b =
        let a = grows e scope n b in
        let c = grows f scope (lowered group_of base_of base_of_name e scope n).next (below_more n _ scope b a.later) in
        ended_grown _ n _ site _ (let p = a.later in let q = c.later in omega arith)
    grows (choice x e f site) scope n b =
        let a = grows x scope n b in
        let l = lowered group_of base_of base_of_name x scope n in
        let c = grows e scope l.next (below_more n l.next scope b a.later) in
        let m = lowered group_of base_of base_of_name e scope l.next in
        let d = grows f scope m.next (below_more l.next m.next scope (below_more n l.next scope b a.later) c.later) in
        ended_grown _ n _ site _ (let p = a.later in let q = c.later in let r = d.later in omega arith)
    grows (Tree.select e f site) scope n b =
        let a = grows e scope n b in
        let c = grows f scope (lowered group_of base_of base_of_name e scope n).next (below_more n _ scope b a.later) in
        ended_grown _ n _ site _ (let p = a.later in let q = c.later in omega arith)
    grows (call name es site) scope n b = ended_grown _ n _ site _ (grows_all es scope n b).later
    grows (builtin t es site) scope n b = ended_grown _ n _ site _ (grows_all es scope n b).later
    grows (with_loop gs op site) scope n b =
        let p = grows_gens gs scope n b in
        let a = lowered_gens group_of base_of base_of_name gs scope n in
        let q = grows_operation op (default_base base_of gs) scope a.next (below_more n a.next scope b p) in
        ended_grown _ n _ _ _ (omega arith)

    pub grows_all : (es : Exprs) (scope : Scope) (n : ℕ) → Below n scope → GrownList n (lowered_all group_of base_of base_of_name es scope n)
    grows_all no_exprs scope n b = record { later = omega arith; below = tt }
    grows_all (expr_and e es) scope n b =
        let a = grows e scope n b in
        let c = grows_all es scope (lowered group_of base_of base_of_name e scope n).next (below_more n _ scope b a.later) in
        record { later = (let p = a.later in let q = c.later in omega arith); below = ((let p = a.below in let q = c.later in omega arith), c.below) }

    pub grows_maybe : (e : MaybeExpr) (scope : Scope) (n : ℕ) → Below n scope → GrownOption n (lowered_maybe group_of base_of base_of_name e scope n)
    grows_maybe left_out scope n b = record { later = omega arith; below = tt }
    grows_maybe (given e) scope n b = let a = grows e scope n b in record { later = a.later; below = a.below }

    pub grows_bound : (e : BoundTree) (scope : Scope) (n : ℕ) → Below n scope → GrownOption n (lowered_bound group_of base_of base_of_name e scope n)
    grows_bound (dot site) scope n b = record { later = omega arith; below = tt }
    grows_bound (at e) scope n b = let a = grows e scope n b in record { later = a.later; below = a.below }

    pub grows_gen : (g : Gen) (scope : Scope) (n : ℕ) → Below n scope → n ≤ (lowered_gen group_of base_of base_of_name g scope n).next
    grows_gen (gen lower lower_closed index upper upper_closed step width body cell site) scope n b =
        let l = lowered_bound group_of base_of base_of_name lower scope n in
        let u = lowered_bound group_of base_of base_of_name upper scope l.next in
        let s = lowered_maybe group_of base_of base_of_name step scope u.next in
        let w = lowered_maybe group_of base_of base_of_name width scope s.next in
        let p = (grows_bound lower scope n b).later in
        let b1 = below_more n l.next scope b p in
        let q = (grows_bound upper scope l.next b1).later in
        let b2 = below_more l.next u.next scope b1 q in
        let r = (grows_maybe step scope u.next b2).later in
        let b3 = below_more u.next s.next scope b2 r in
        let t = (grows_maybe width scope s.next b3).later in
        let b4 = below_more s.next w.next scope b3 t in
        let i = index_below index w.next scope b4 in
        let k = grows_block body (index_scope index w.next scope) (after_index index w.next) i.1 in
        let d = lowered_block group_of base_of base_of_name body (index_scope index w.next scope) (after_index index w.next) in
        let m = grows cell d.scope d.next k.below in
        let i0 = i.0 in let k0 = k.later in let m0 = m.later in omega arith

    pub grows_gens : (gs : Gens) (scope : Scope) (n : ℕ) → Below n scope → n ≤ (lowered_gens group_of base_of base_of_name gs scope n).next
    grows_gens no_gens scope n b = omega arith
    grows_gens (gen_and g gs) scope n b =
        let p = grows_gen g scope n b in
        let q = grows_gens gs scope (lowered_gen group_of base_of base_of_name g scope n).next (below_more n _ scope b p) in
        omega arith

    pub grows_operation : (op : OperationTree) (base : Base) (scope : Scope) (n : ℕ) → Below n scope → n ≤ (lowered_operation group_of base_of base_of_name op base scope n).next
    grows_operation (genarray shape left_out site) base scope n b = let p = (grows shape scope n b).later in omega arith
    grows_operation (genarray shape (given e) site) base scope n b =
        let p = (grows shape scope n b).later in
        let q = (grows e scope (lowered group_of base_of base_of_name shape scope n).next (below_more n _ scope b p)).later in
        omega arith
    grows_operation (modarray array site) base scope n b = (grows array scope n b).later
    grows_operation (Tree.fold op neutral site) base scope n b = (grows neutral scope n b).later

    pub grows_stmt : (s : Stmt) (scope : Scope) (n : ℕ) → Below n scope → GrownBlock n (lowered_stmt group_of base_of base_of_name s scope n)
    grows_stmt (assign targets (call name es site)) scope n b =
        let a = grows_all es scope n b in
        let l = lowered_all group_of base_of base_of_name es scope n in
        record { later = (let p = a.later in omega arith); below = below_pushed (names targets) l.next (l.next + length (names targets)) scope (below_more n l.next scope b a.later) (omega arith) }
    grows_stmt (assign targets e) scope n b = assign_grown targets _ n scope b (grows e scope n b)
    grows_stmt (Tree.replace target bracket index e) scope n b =
        let i = lowered group_of base_of base_of_name index scope n in
        let p = (grows index scope n b).later in
        let b1 = below_more n i.next scope b p in
        let v = lowered group_of base_of base_of_name e scope i.next in
        let q = (grows e scope i.next b1).later in
        let b2 = below_more i.next v.next scope b1 q in
        let a = used v.next bracket (var_in scope target.name) in
        let r = (used_grown v.next bracket (var_in scope target.name) (λ x k. b2 target.name x k)).later in
        record { later = omega arith; below = below_with (suc a.next) (numbered a.next) target.name scope (below_more v.next (suc a.next) scope b2 (omega arith)) (omega arith) }
    grows_stmt (if_else c first second site) scope n b =
        let a = lowered group_of base_of base_of_name c scope n in
        let p = (grows c scope n b).later in
        let b1 = below_more n a.next scope b p in
        let d = lowered_block group_of base_of base_of_name first scope a.next in
        let q = (grows_block first scope a.next b1).later in
        let b2 = below_more a.next d.next scope b1 q in
        let f = lowered_block group_of base_of base_of_name second scope d.next in
        let r = (grows_block second scope d.next b2).later in
        let both = merged (names_bound first ++ names_bound second) d.scope f.scope in
        record { later = omega arith; below = below_pushed both f.next (f.next + length both) scope (below_more d.next f.next scope b2 r) (omega arith) }
    grows_stmt (while_do c body site) scope n b =
        let all = carried (names_bound body) scope in
        let inside = below_pushed all n (n + length all) scope b (omega arith) in
        let t = lowered group_of base_of base_of_name c (pushed all n scope) (n + length all) in
        let p = (grows c (pushed all n scope) (n + length all) inside).later in
        let d = lowered_block group_of base_of base_of_name body (pushed all n scope) t.next in
        let q = (grows_block body (pushed all n scope) t.next (below_more (n + length all) t.next (pushed all n scope) inside p)).later in
        record { later = omega arith; below = below_pushed all d.next (d.next + length all) scope (below_more n d.next scope b (omega arith)) (omega arith) }
    grows_stmt (do_while body c site test) scope n b =
        let all = once [] (names_bound body) in
        let s = starts base_of_name site all scope n in
        let r = (starts_grown base_of_name site all scope n b).later in
        let b1 = below_more n s.next scope b r in
        let inside = below_pushed all s.next (s.next + length all) scope b1 (omega arith) in
        let d = lowered_block group_of base_of base_of_name body (pushed all s.next scope) (s.next + length all) in
        let q = (grows_block body (pushed all s.next scope) (s.next + length all) inside).later in
        let t = lowered group_of base_of base_of_name c (pushed all s.next scope) d.next in
        let p = (grows c (pushed all s.next scope) d.next (below_more (s.next + length all) d.next (pushed all s.next scope) inside q)).later in
        record { later = omega arith; below = below_pushed all t.next (t.next + length all) scope (below_more s.next t.next scope b1 (omega arith)) (omega arith) }

    pub grows_block : (ss : Block) (scope : Scope) (n : ℕ) → Below n scope → GrownBlock n (lowered_block group_of base_of base_of_name ss scope n)
    grows_block no_stmts scope n b = record { later = omega arith; below = b }
    grows_block (stmt_and s rest) scope n b =
        let a = grows_stmt s scope n b in
        let l = lowered_stmt group_of base_of base_of_name s scope n in
        let c = grows_block rest l.scope l.next a.below in
        record { later = (let p = a.later in let q = c.later in omega arith); below = c.below }

-- ---- names

-- a name that is not bound keeps its variable
first_kept : (targets : List Target) (z : Var) (scope : Scope) (x : Name) → has_name (names targets) x ≡ false → var_in (first_bound targets z scope) x ≡ var_in scope x
first_kept [] z scope x h = refl
first_kept (t ∷ ts) z scope x h = λ i. if (or_none (bytes_eq x t.name) (has_name (names ts) x) h).0 i then Some z else var_in scope x

module _ (group_of : Name → ℕ) (base_of : Expr → Option Base) (base_of_name : Name → Base) where
  mutual
    pub keeps_stmt : (s : Stmt) (scope : Scope) (n : ℕ) (x : Name) → has_name (bound_names s) x ≡ false → var_in (lowered_stmt group_of base_of base_of_name s scope n).scope x ≡ var_in scope x
    keeps_stmt (assign targets (call name es site)) scope n x h = push_kept (names targets) _ scope x h
    keeps_stmt (assign targets e) scope n x h = first_kept targets _ scope x h
    keeps_stmt (Tree.replace target bracket index e) scope n x h = first_kept (target ∷ []) _ scope x h
    keeps_stmt (if_else c first second site) scope n x h = push_kept _ _ scope x (merged_none (names_bound first ++ names_bound second) _ _ x h)
    keeps_stmt (while_do c body site) scope n x h = push_kept _ _ scope x (carried_none (names_bound body) scope x h)
    keeps_stmt (do_while body c site test) scope n x h = push_kept _ _ scope x (never_listed (names_bound body) x h)

    pub keeps_block : (ss : Block) (scope : Scope) (n : ℕ) (x : Name) → has_name (names_bound ss) x ≡ false → var_in (lowered_block group_of base_of base_of_name ss scope n).scope x ≡ var_in scope x
    keeps_block no_stmts scope n x h = refl
    keeps_block (stmt_and s rest) scope n x h =
        let l = lowered_stmt group_of base_of base_of_name s scope n in
        keeps_block rest l.scope l.next x (has_neither (bound_names s) (names_bound rest) x h).1 ∙ keeps_stmt s scope n x (has_neither (bound_names s) (names_bound rest) x h).0

and_left : (a b : Bool) → (a && b) ≡ true → a ≡ true
and_left true b h = refl
and_left false b h = absurd (cc)

and_right : (a b : Bool) → (a && b) ≡ true → b ≡ true
and_right true b h = h
and_right false b h = absurd (cc)

both_true : (a b : Bool) → a ≡ true → b ≡ true → (a && b) ≡ true
both_true a b p q = λ i. p i && q i

or_left : (a b : Bool) → (a || b) ≡ true → a ≡ false → b ≡ true
or_left a b h p = sym (λ i. p i || b) ∙ h

or_second : (a b : Bool) → b ≡ true → (a || b) ≡ true
or_second true b p = refl
or_second false b p = p

-- a name that is bound after a statement, which does not bind it, was bound before
mutual
  pub only_stmt : (s : Stmt) (bound : Names) (x : Name) → bound_after s bound x ≡ true → has_name (bound_names s) x ≡ false → bound x ≡ true
  only_stmt (assign targets e) bound x p h = or_left (has_name (names targets) x) (bound x) p h
  only_stmt (Tree.replace target bracket index e) bound x p h = or_left (has_name (target.name ∷ []) x) (bound x) p h
  only_stmt (if_else c first second site) bound x p h =
      only_block first bound x (and_left (bound_behind first bound x) (bound_behind second bound x) p) (has_neither (names_bound first) (names_bound second) x h).0
  only_stmt (while_do c body site) bound x p h = p
  only_stmt (do_while body c site test) bound x p h = only_block body bound x p h

  pub only_block : (ss : Block) (bound : Names) (x : Name) → bound_behind ss bound x ≡ true → has_name (names_bound ss) x ≡ false → bound x ≡ true
  only_block no_stmts bound x p h = p
  only_block (stmt_and s rest) bound x p h =
      let k = has_neither (bound_names s) (names_bound rest) x h in
      only_stmt s bound x (only_block rest (bound_after s bound) x p k.1) k.0

-- a name that was bound still is
mutual
  pub still_stmt : (s : Stmt) (bound : Names) (x : Name) → bound x ≡ true → bound_after s bound x ≡ true
  still_stmt (assign targets e) bound x p = or_second (has_name (names targets) x) (bound x) p
  still_stmt (Tree.replace target bracket index e) bound x p = or_second (has_name (target.name ∷ []) x) (bound x) p
  still_stmt (if_else c first second site) bound x p = both_true (bound_behind first bound x) (bound_behind second bound x) (still_block first bound x p) (still_block second bound x p)
  still_stmt (while_do c body site) bound x p = p
  still_stmt (do_while body c site test) bound x p = still_block body bound x p

  pub still_block : (ss : Block) (bound : Names) (x : Name) → bound x ≡ true → bound_behind ss bound x ≡ true
  still_block no_stmts bound x p = p
  still_block (stmt_and s rest) bound x p = still_block rest (bound_after s bound) x (still_stmt s bound x p)

-- names that are bound have variables
abbrev pub Covers : Names → Scope → Type 0
Covers bound scope = (x : Name) → bound x ≡ true → is_known scope x ≡ true

pub covers_pushed : (xs : List Name) (n : ℕ) (bound : Names) (scope : Scope) → Covers bound scope → Covers (with_names xs bound) (pushed xs n scope)
covers_pushed xs n bound scope h x p = go (has_name xs x) refl
  where
    go : (t : Bool) → has_name xs x ≡ t → is_known (pushed xs n scope) x ≡ true
    go true e = push_known xs n scope x e
    go false e = push_knows xs n scope x (h x (or_left (has_name xs x) (bound x) p e))

pub covers_first : (targets : List Target) (z : Var) (bound : Names) (scope : Scope) → AtMostOne targets → Covers bound scope → Covers (with_names (names targets) bound) (first_bound targets z scope)
covers_first [] z bound scope l h x p = h x p
covers_first (t ∷ []) z bound scope l h x p = go (bytes_eq x t.name) refl
  where
    go : (b : Bool) → bytes_eq x t.name ≡ b → is_some (if b then Some z else var_in scope x) ≡ true
    go true e = refl
    go false e = h x (sym (λ i. (e i || false) || bound x) ∙ p)
covers_first (s ∷ t ∷ ts) z bound scope l h x p = absurd l

covers_merged : (xs ys : List Name) (s t scope : Scope) (n : ℕ) (x : Name) → is_known s x ≡ true → is_known t x ≡ true → (has_name xs x ≡ false → is_known scope x ≡ true) → is_known (pushed (merged (xs ++ ys) s t) n scope) x ≡ true
covers_merged xs ys s t scope n x p q k = go (has_name xs x) refl
  where
    go : (b : Bool) → has_name xs x ≡ b → is_known (pushed (merged (xs ++ ys) s t) n scope) x ≡ true
    go true e = push_known (merged (xs ++ ys) s t) n scope x (merged_has (xs ++ ys) s t x (has_more xs ys x ∙ (λ i. e i || has_name ys x)) p q)
    go false e = push_knows (merged (xs ++ ys) s t) n scope x (k e)

covers_once : (xs : List Name) (scope : Scope) (n : ℕ) (x : Name) → (has_name xs x ≡ false → is_known scope x ≡ true) → is_known (pushed (once [] xs) n scope) x ≡ true
covers_once xs scope n x k = go (has_name xs x) refl
  where
    go : (b : Bool) → has_name xs x ≡ b → is_known (pushed (once [] xs) n scope) x ≡ true
    go true e = push_known (once [] xs) n scope x (listed_once xs x e)
    go false e = push_knows (once [] xs) n scope x (k e)

module _ (count : Name → ℕ) (group_of : Name → ℕ) (base_of : Expr → Option Base) (base_of_name : Name → Base) where
  mutual
    pub covers_stmt : (s : Stmt) (bound : Names) (scope : Scope) (n : ℕ) → StmtDefinite count s bound → Covers bound scope → Covers (bound_after s bound) (lowered_stmt group_of base_of base_of_name s scope n).scope
    covers_stmt (assign targets (call name es site)) bound scope n d h x p = covers_pushed (names targets) _ bound scope h x p
    covers_stmt (assign targets e) bound scope n d h x p = covers_first targets _ bound scope d.1 h x p
    covers_stmt (Tree.replace target bracket index e) bound scope n d h x p = covers_first (target ∷ []) _ bound scope tt h x p
    covers_stmt (if_else c first second site) bound scope n d h x p =
        let a = lowered group_of base_of base_of_name c scope n in
        let l = lowered_block group_of base_of base_of_name first scope a.next in
        let m = lowered_block group_of base_of base_of_name second scope l.next in
        let q = covers_block first bound scope a.next d.1 h x (and_left (bound_behind first bound x) (bound_behind second bound x) p) in
        let r = covers_block second bound scope l.next d.2 h x (and_right (bound_behind first bound x) (bound_behind second bound x) p) in
        covers_merged (names_bound first) (names_bound second) l.scope m.scope scope m.next x q r (λ k. ap is_some (sym (keeps_block group_of base_of base_of_name first scope a.next x k)) ∙ q)
    covers_stmt (while_do c body site) bound scope n d h x p =
        let all = carried (names_bound body) scope in
        let t = lowered group_of base_of base_of_name c (pushed all n scope) (n + length all) in
        let l = lowered_block group_of base_of base_of_name body (pushed all n scope) t.next in
        push_knows all l.next scope x (h x p)
    covers_stmt (do_while body c site test) bound scope n d h x p = covers_once (names_bound body) scope _ x (λ k. h x (only_block body bound x p k))

    pub covers_block : (ss : Block) (bound : Names) (scope : Scope) (n : ℕ) → BlockDefinite count ss bound → Covers bound scope → Covers (bound_behind ss bound) (lowered_block group_of base_of base_of_name ss scope n).scope
    covers_block no_stmts bound scope n d h x p = h x p
    covers_block (stmt_and s rest) bound scope n d h x p =
        let l = lowered_stmt group_of base_of base_of_name s scope n in
        covers_block rest (bound_after s bound) l.scope l.next d.1 (covers_stmt s bound scope n d.0 h) x p
