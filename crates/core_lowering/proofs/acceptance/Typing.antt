-- Where no rule is violated, each phrase has the bases that the core asks for: those that acceptance finds are those of the list of all bindings.
use Rattle.std.proofs.Common.{◌≡◌, Bool, true, ◌&&◌, List, [], ◌∷◌, ◌++◌, length, Option, Some, None, is_some, refl, ap, sym, subst, ◌∙◌, arith}
use Rattle.std.specs.List.{list_all}
use Rattle.sac_base.specs.declared.base.Base.{Base}
use Rattle.sac_base.specs.declared.base.Base.TheVariants.{Int, Bool as Truth}
use Rattle.sac_base.specs.declared.name.Name.{Name}
use Rattle.sac_base.specs.Arrays.{same_base}
use Rattle.sac_base.specs.Operators.{result_base}
use Rattle.sac_ast.specs.declared.Builtin.TheVariants.{Dim, Shape, Reshape}
use Rattle.check_rules.specs.declared.code.CheckCode.TheVariants.{C4}
use Rattle.sac_ast.specs.declared.Target.{Target}
use Rattle.sac_ast.specs.Tree.{IndexTree, named, parts, Expr, Exprs, no_exprs, expr_and, MaybeExpr, left_out, given, Stmt, Block, no_stmts, stmt_and, BoundTree, dot, at, gen, Gens, no_gens, gen_and, OperationTree, number, truth, variable, literal, unary, binary, choice, select, call, builtin, with_loop, assign, replace, if_else, while_do, do_while, genarray, modarray, fold}
use Rattle.sac_ast.specs.Bases.{Bases, where_holds, may_be, may_match, operand_base, operands_fit, agree, common_base, literal_base, first_base, are_int, known_bases, call_bases_in, value_base, with_bases, index_bases}
use Rattle.sac_ast.specs.Bases as b
use Rattle.check_rules.specs.Accepted.{Names, Known, Place, Finding, Passage, base_first, target_names, unless, with_names, index_targets, index_names, bound_after, bound_behind, base_of, bind, use_rules, cell_rules, first_cell, is_fold, is_clean, several_targets, repeated_targets, in_call, in_targets, in_index_names}
use Rattle.check_rules.specs.Accepted as a
use Rattle.source_meaning.specs.Meaning.{default_base, or_int}
use Rattle.core_lowering.specs.Definite as d
use Rattle.core_lowering.specs.Typed.{InstanceBases, FirstTyped, IntTargets, IsTyped, LiteralTyped, AllTyped, AreTyped, MaybeTyped, BoundTyped, GensTyped, OperationTyped, StmtTyped, BlockTyped}
use Rattle.core_lowering.specs.acceptance.Formed.{IsFormed, AreFormed, MaybeFormed, BoundFormed, GensFormed, OperationFormed, StmtFormed, BlockFormed}
use Rattle.core_lowering.proofs.acceptance.Clean.{nil_left, nil2, nil3, nil4, nil5, nil8, holds, both, used_bound}
use Rattle.core_lowering.proofs.acceptance.Bound.{call_clean}
use Rattle.core_lowering.proofs.acceptance.Calls.{unary_fits, binary_fits, fold_fits, pair_base, call_gives, call_bases_are}
use Rattle.core_lowering.proofs.acceptance.Told.{same, told, told_append, targets_told, index_told, Extends, Based, Covered, extends_more, extends_bind, based_again, covered_bind, covered_later, covered_targets, covered_names, extends_targets, extends_names, based_names, based_targets, somes, name_bases, base_told, name_is, targets_typed, index_typed}

-- what is known stays known, and tells bases
pub record Grown (known after : Known) : Type 0 where
  pub later : Extends known after
  pub based : Based after

grown_more : (f g h : Known) → Grown f g → Grown g h → Grown f h
grown_more f g h p q = record { later = extends_more f g h p.later q.later; based = q.based }

-- a variable that is bound tells its base
variable_base : (known : Known) (name : Name) → is_some (known name) ≡ true → Based known → (t : Base) × (known name ≡ Some (Some t))
variable_base known name s g = go (known name) refl s (g name)
  where
    go : (o : Option (Option Base)) → known name ≡ o → is_some o ≡ true → (known name ≡ Some None → ⊥) → (t : Base) × (known name ≡ Some (Some t))
    go None e s g = absurd (cc)
    go (Some None) e s g = absurd (g e)
    go (Some (Some t)) e s g = (t, e)

-- the base of the elements of a literal
abbrev literal_of : List Base → Base
literal_of [] = Int
literal_of (t ∷ ts) = t

literal_found : (ts : List Base) → agree (somes ts) ≡ true → literal_base (somes ts) ≡ Some (literal_of ts)
literal_found [] h = refl
literal_found (t ∷ ts) h = ap (λ (x : Bool). where_holds x (Some t)) h

int_here : (l u s w : Base) → are_int (Some l) (Some u) (Some s) (Some w) ≡ true → (l ≡ Int) × (u ≡ Int) × (s ≡ Int) × (w ≡ Int)
int_here Int Int Int Int h = (refl, refl, refl, refl)
int_here Truth u s w h = absurd (cc)
int_here Int Truth s w h = absurd (cc)
int_here Int Int Truth w h = absurd (cc)
int_here Int Int Int Truth h = absurd (cc)

one_length : (ts : List Base) → length ts ≡ 1 → (t : Base) × (ts ≡ t ∷ [])
one_length [] h = absurd (omega (arith, h))
one_length (t ∷ []) h = (t, refl)
one_length (t ∷ u ∷ ts) h = absurd (omega (arith, h))

index_same : (index : IndexTree) → index_targets index ≡ d.index_targets index
index_same (named target) = refl
index_same (parts targets) = refl

module _ (p : Place) where
  abbrev calls : b.CallBases
  calls = call_bases_in p.functions

  module _ (L : Bases) where
    literal_typed_all : (es : Exprs) (us : List Base) (t : Base) → AreTyped (b.base calls L) (name_bases L) (InstanceBases p.functions) es us → list_all (may_match (Some t)) (somes us) ≡ true → AllTyped (b.base calls L) (name_bases L) (InstanceBases p.functions) es t
    literal_typed_all no_exprs us t w h = tt
    literal_typed_all (expr_and e es) [] t w h = absurd w
    literal_typed_all (expr_and e es) (u ∷ us) t w h =
        let r = both (same_base t u) (list_all (may_match (Some t)) (somes us)) h in
        (subst (λ (x : Base). IsTyped (b.base calls L) (name_bases L) (InstanceBases p.functions) e x) (sym (same t u r.0)) w.0, literal_typed_all es us t w.1 r.1)

    literal_typed : (es : Exprs) (us : List Base) → AreTyped (b.base calls L) (name_bases L) (InstanceBases p.functions) es us → agree (somes us) ≡ true → LiteralTyped (b.base calls L) (name_bases L) (InstanceBases p.functions) es (literal_of us)
    literal_typed no_exprs [] w h = refl
    literal_typed no_exprs (u ∷ us) w h = absurd w
    literal_typed (expr_and e es) [] w h = absurd w
    literal_typed (expr_and e es) (u ∷ us) w h = (w.0, literal_typed_all es us u w.1 (both (same_base u u) (list_all (may_match (Some u)) (somes us)) h).1)

  -- ---- what holds of a phrase

  pub record ExprFacts (e : Expr) (bound : Names) (known : Known) : Type 0 where
    pub t : Base
    pub base : (a.in_value p e bound known).base ≡ Some t
    pub grown : Grown known (a.in_value p e bound known).known
    pub same : (K : Bases) → known ≡ told K → (a.in_value p e bound known).known ≡ told (b.in_expr calls e K)
    pub typed : (L : Bases) → Extends (a.in_value p e bound known).known (told L) → (b.base calls L e ≡ Some t) × IsTyped (b.base calls L) (name_bases L) (InstanceBases p.functions) e t

  pub record ExprsFacts (es : Exprs) (bound : Names) (known : Known) : Type 0 where
    pub ts : List Base
    pub bases : (a.in_values p es bound known).bases ≡ somes ts
    pub grown : Grown known (a.in_values p es bound known).known
    pub same : (K : Bases) → known ≡ told K → (a.in_values p es bound known).known ≡ told (b.in_exprs calls es K)
    pub typed : (L : Bases) → Extends (a.in_values p es bound known).known (told L) → (b.bases calls L es ≡ somes ts) × AreTyped (b.base calls L) (name_bases L) (InstanceBases p.functions) es ts

  record MaybeFacts (e : MaybeExpr) (other : Base) (bound : Names) (known : Known) : Type 0 where
    t : Base
    base : (a.in_maybe p e (Some other) bound known).base ≡ Some t
    grown : Grown known (a.in_maybe p e (Some other) bound known).known
    same : (K : Bases) → known ≡ told K → (a.in_maybe p e (Some other) bound known).known ≡ told (b.in_maybe calls e K)
    typed : (L : Bases) → Extends (a.in_maybe p e (Some other) bound known).known (told L) → (b.maybe_base calls L e (Some other) ≡ Some t) × MaybeTyped (b.base calls L) (name_bases L) (InstanceBases p.functions) e t

  record BoundFacts (e : BoundTree) (folds : Bool) (bound : Names) (known : Known) : Type 0 where
    t : Base
    base : (a.in_bound p e folds bound known).base ≡ Some t
    grown : Grown known (a.in_bound p e folds bound known).known
    same : (K : Bases) → known ≡ told K → (a.in_bound p e folds bound known).known ≡ told (b.in_bound calls e K)
    typed : (L : Bases) → Extends (a.in_bound p e folds bound known).known (told L) → (b.bound_base calls L e ≡ Some t) × (t ≡ Int → BoundTyped (b.base calls L) (name_bases L) (InstanceBases p.functions) e)

  record GensFacts (gs : Gens) (folds : Bool) (bound : Names) (known : Known) : Type 0 where
    t : Base
    first : first_cell (a.in_generators p gs folds bound known).cells ≡ Some t
    grown : Grown known (a.in_generators p gs folds bound known).known
    same : (K : Bases) → known ≡ told K → (a.in_generators p gs folds bound known).known ≡ told (b.in_gens calls gs K)
    cell : (L : Bases) → Extends (a.in_generators p gs folds bound known).known (told L) → (b.cell_base calls L gs ≡ Some t) × (default_base (b.base calls L) gs ≡ t)
    typed : (L : Bases) → Extends (a.in_generators p gs folds bound known).known (told L) → (u : Base) → cell_rules (Some u) (a.in_generators p gs folds bound known).cells ≡ []
        → (b.with_base_of calls L gs (Some u) ≡ Some u) × GensTyped (b.base calls L) (name_bases L) (InstanceBases p.functions) gs u

  record OperationFacts (op : OperationTree) (c : Base) (bound : Names) (known : Known) : Type 0 where
    t : Base
    base : (a.in_operation p op (Some c) bound known).base ≡ Some t
    grown : Grown known (a.in_operation p op (Some c) bound known).known
    same : (K : Bases) → known ≡ told K → (a.in_operation p op (Some c) bound known).known ≡ told (b.in_operation calls op K)
    typed : (L : Bases) → Extends (a.in_operation p op (Some c) bound known).known (told L) → (b.operation_base calls L op (Some c) ≡ Some t) × OperationTyped (b.base calls L) (name_bases L) (InstanceBases p.functions) op c t

  record StmtFacts (s : Stmt) (bound : Names) (known : Known) : Type 0 where
    grown : Grown known (a.in_statement p s bound known).known
    covered : Covered (bound_after s bound) (a.in_statement p s bound known).known
    same : (K : Bases) → known ≡ told K → (a.in_statement p s bound known).known ≡ told (b.in_stmt calls s K)
    typed : (L : Bases) → Extends (a.in_statement p s bound known).known (told L) → StmtTyped (b.base calls L) (name_bases L) (InstanceBases p.functions) s

  pub record BlockFacts (s : Block) (bound : Names) (known : Known) : Type 0 where
    pub grown : Grown known (a.in_block p s bound known).known
    pub covered : Covered (bound_behind s bound) (a.in_block p s bound known).known
    pub same : (K : Bases) → known ≡ told K → (a.in_block p s bound known).known ≡ told (b.in_block calls s K)
    pub typed : (L : Bases) → Extends (a.in_block p s bound known).known (told L) → BlockTyped (b.base calls L) (name_bases L) (InstanceBases p.functions) s

  -- ---- one variable

  covered_from : (bound : Names) (known after : Known) → Covered bound known → Grown known after → Covered bound after
  covered_from bound known after c q = covered_later bound known after c q.later

  back : (known after : Known) (L : Bases) → Grown known after → Extends after (told L) → Extends known (told L)
  back known after L q l = extends_more known after (told L) q.later l

  within : (known : Known) (K : Bases) → known ≡ told K → Extends known (told K)
  within known K q name x h = sym (λ i. q i name) ∙ h

  abbrev Typed : Bases → Expr → Base → Type 0
  Typed L e t = IsTyped (b.base calls L) (name_bases L) (InstanceBases p.functions) e t

  -- ---- a right side that is no call, and its target

  record AssignFacts (targets : List Target) (e : Expr) (bound : Names) (known : Known) : Type 0 where
    grown : Grown known (in_targets targets ((a.in_value p e bound known).base ∷ []) (a.in_value p e bound known).known).known
    covered : Covered (with_names (target_names targets) bound) (in_targets targets ((a.in_value p e bound known).base ∷ []) (a.in_value p e bound known).known).known
    same : (K : Bases) → known ≡ told K → (in_targets targets ((a.in_value p e bound known).base ∷ []) (a.in_value p e bound known).known).known ≡ told (with_bases targets (b.base calls (b.in_expr calls e K) e ∷ []) (b.in_expr calls e K))
    typed : (L : Bases) → Extends (in_targets targets ((a.in_value p e bound known).base ∷ []) (a.in_value p e bound known).known).known (told L) → (t : Base) × (Typed L e t × FirstTyped (name_bases L) targets t)

  assign_facts : (targets : List Target) (e : Expr) (bound : Names) (known : Known) → Covered bound known → ExprFacts e bound known → several_targets targets ≡ [] → (in_targets targets ((a.in_value p e bound known).base ∷ []) (a.in_value p e bound known).known).violations ≡ [] → AssignFacts targets e bound known
  assign_facts [] e bound known c E s h = record {
    grown = E.grown;
    covered = covered_targets [] ((a.in_value p e bound known).base ∷ []) bound (a.in_value p e bound known).known (covered_from bound known (a.in_value p e bound known).known c E.grown);
    same = E.same;
    typed = λ L l. (E.t, ((E.typed L l).1, tt));
  }
  assign_facts (x ∷ y ∷ rest) e bound known c E s h = absurd (cc)
  assign_facts (x ∷ []) e bound known c E s h =
      let value = a.in_value p e bound known in
      let fix = ap (λ (y : Option Base). in_targets (x ∷ []) (y ∷ []) value.known) E.base in
      record {
        grown = record {
          later = extends_more known value.known (in_targets (x ∷ []) (value.base ∷ []) value.known).known E.grown.later (extends_targets (x ∷ []) (value.base ∷ []) value.known);
          based = subst (λ (z : Passage). Based z.known) (sym fix) (based_targets (x ∷ []) (E.t ∷ []) value.known refl E.grown.based);
        };
        covered = covered_targets (x ∷ []) (value.base ∷ []) bound value.known (covered_from bound known value.known c E.grown);
        same = λ K q.
            let before = b.in_expr calls e K in
            (λ i. (in_targets (x ∷ []) (E.base i ∷ []) (E.same K q i)).known)
            ∙ targets_told (x ∷ []) (Some E.t ∷ []) before
            ∙ ap (λ (y : Option Base). told (with_bases (x ∷ []) (y ∷ []) before)) (sym (E.typed before (within value.known before (E.same K q))).0);
        typed = λ L l.
            let w = E.typed L (extends_more value.known (in_targets (x ∷ []) (value.base ∷ []) value.known).known (told L) (extends_targets (x ∷ []) (value.base ∷ []) value.known) l) in
            (E.t, (w.1, (targets_typed (x ∷ []) (E.t ∷ []) value.known L refl E.grown.based (subst (λ (z : Passage). z.violations ≡ []) fix h) (subst (λ (z : Passage). Extends z.known (told L)) fix l)).0));
      }

  -- ---- phrases

  mutual
    pub expr_facts : (e : Expr) (bound : Names) (known : Known) → IsFormed e → (a.in_value p e bound known).violations ≡ [] → Covered bound known → Based known → ExprFacts e bound known
    expr_facts (number z site) bound known f h c g = record { t = Int; base = refl; grown = record { later = λ name x q. q; based = g }; same = λ K q. q; typed = λ L l. (refl, (f, refl)) }
    expr_facts (truth x site) bound known f h c g = record { t = Truth; base = refl; grown = record { later = λ name x q. q; based = g }; same = λ K q. q; typed = λ L l. (refl, refl) }
    expr_facts (variable name site) bound known f h c g =
        let v = variable_base known name (c name (used_bound p name site bound (nil_left (use_rules p name site bound) [] h))) g in
        record {
          t = v.0;
          base = λ i. where_holds (is_clean (h i)) (base_first (v.1 i));
          grown = record { later = λ name x q. q; based = g };
          same = λ K q. q;
          typed = λ L l. (base_told L name ∙ ap base_first (l name (Some v.0) v.1), name_is L known name v.0 l v.1);
        }
    expr_facts (literal es site) bound known f h c g =
        let elements = a.in_values p es bound known in
        let r = nil2 (unless (agree elements.bases) C4 site) elements.violations h in
        let E = exprs_facts es bound known f r.1 c g in
        let fits : agree (somes E.ts) ≡ true = ap agree (sym E.bases) ∙ holds (agree elements.bases) C4 site r.0 in
        record {
          t = literal_of E.ts;
          base = (λ i. where_holds (is_clean (h i)) (literal_base (E.bases i))) ∙ literal_found E.ts fits;
          grown = E.grown;
          same = E.same;
          typed = λ L l. let w = E.typed L l in (ap literal_base w.0 ∙ literal_found E.ts fits, literal_typed L es E.ts w.1 fits);
        }
    expr_facts (unary op e site) bound known f h c g =
        let operand = a.in_value p e bound known in
        let r = nil2 (unless (may_be (operand_base op) operand.base) C4 site) operand.violations h in
        let E = expr_facts e bound known f.1 r.1 c g in
        let fits : may_be (operand_base op) (Some E.t) ≡ true = ap (may_be (operand_base op)) (sym E.base) ∙ holds (may_be (operand_base op) operand.base) C4 site r.0 in
        record {
          t = result_base op;
          base = λ i. where_holds (is_clean (h i)) (Some (result_base op));
          grown = E.grown;
          same = E.same;
          typed = λ L l. let w = E.typed L l in (ap (λ (x : Option Base). where_holds (may_be (operand_base op) x) (Some (result_base op))) w.0 ∙ ap (λ (x : Bool). where_holds x (Some (result_base op))) fits, (E.t, (w.1, unary_fits op E.t f.0 fits)));
        }
    expr_facts (binary op e e' site) bound known f h c g =
        let left = a.in_value p e bound known in
        let right = a.in_value p e' bound left.known in
        let r = nil2 (unless (operands_fit op left.base right.base) C4 site) (left.violations ++ right.violations) h in
        let s = nil2 left.violations right.violations r.1 in
        let A = expr_facts e bound known f.1 s.0 c g in
        let B = expr_facts e' bound left.known f.2 s.1 (covered_from bound known left.known c A.grown) A.grown.based in
        let fits : operands_fit op (Some A.t) (Some B.t) ≡ true = (λ i. operands_fit op (sym A.base i) (sym B.base i)) ∙ holds (operands_fit op left.base right.base) C4 site r.0 in
        let bf = binary_fits op A.t B.t f.0 fits in
        record {
          t = result_base op;
          base = λ i. where_holds (is_clean (h i)) (Some (result_base op));
          grown = grown_more known left.known right.known A.grown B.grown;
          same = λ K q. B.same (b.in_expr calls e K) (A.same K q);
          typed = λ L l.
              let u = A.typed L (back left.known right.known L B.grown l) in
              let w = B.typed L l in (
                (λ i. where_holds (operands_fit op (u.0 i) (w.0 i)) (Some (result_base op))) ∙ ap (λ (x : Bool). where_holds x (Some (result_base op))) fits,
                (A.t, (u.1, subst (λ (x : Base). Typed L e' x) bf.0 w.1, bf.1)),
              );
        }
    expr_facts (choice c1 e e' site) bound known f h c g =
        let test = a.in_value p c1 bound known in
        let first = a.in_value p e bound test.known in
        let second = a.in_value p e' bound first.known in
        let r = nil2 (unless (may_be Truth test.base && may_match first.base second.base) C4 site) (test.violations ++ first.violations ++ second.violations) h in
        let s = nil3 test.violations first.violations second.violations r.1 in
        let A = expr_facts c1 bound known f.0 s.0 c g in
        let ca = covered_from bound known test.known c A.grown in
        let B = expr_facts e bound test.known f.1 s.1 ca A.grown.based in
        let D = expr_facts e' bound first.known f.2 s.2 (covered_from bound test.known first.known ca B.grown) B.grown.based in
        let fits = both (may_be Truth (Some A.t)) (may_match (Some B.t) (Some D.t)) ((λ i. may_be Truth (sym A.base i) && may_match (sym B.base i) (sym D.base i)) ∙ holds (may_be Truth test.base && may_match first.base second.base) C4 site r.0) in
        record {
          t = B.t;
          base = (λ i. where_holds (is_clean (h i)) (common_base (B.base i ∷ D.base i ∷ []))) ∙ pair_base B.t D.t fits.1;
          grown = grown_more known test.known second.known A.grown (grown_more test.known first.known second.known B.grown D.grown);
          same = λ K q. D.same (b.in_expr calls e (b.in_expr calls c1 K)) (B.same (b.in_expr calls c1 K) (A.same K q));
          typed = λ L l.
              let l1 = back first.known second.known L D.grown l in
              let u = A.typed L (back test.known first.known L B.grown l1) in
              let v = B.typed L l1 in
              let w = D.typed L l in (
                (λ i. where_holds (may_be Truth (u.0 i)) (common_base (v.0 i ∷ w.0 i ∷ []))) ∙ (λ i. where_holds (fits.0 i) (pair_base B.t D.t fits.1 i)),
                (subst (λ (x : Base). Typed L c1 x) (sym (same Truth A.t fits.0)) u.1, v.1, subst (λ (x : Base). Typed L e' x) (sym (same B.t D.t fits.1)) w.1),
              );
        }
    expr_facts (select e i1 site) bound known f h c g =
        let array = a.in_value p e bound known in
        let index = a.in_value p i1 bound array.known in
        let r = nil2 (unless (may_be Int index.base) C4 site) (array.violations ++ index.violations) h in
        let s = nil2 array.violations index.violations r.1 in
        let A = expr_facts e bound known f.0 s.0 c g in
        let B = expr_facts i1 bound array.known f.1 s.1 (covered_from bound known array.known c A.grown) A.grown.based in
        let fits : may_be Int (Some B.t) ≡ true = ap (may_be Int) (sym B.base) ∙ holds (may_be Int index.base) C4 site r.0 in
        record {
          t = A.t;
          base = λ i. where_holds (is_clean (h i)) (A.base i);
          grown = grown_more known array.known index.known A.grown B.grown;
          same = λ K q. B.same (b.in_expr calls e K) (A.same K q);
          typed = λ L l.
              let u = A.typed L (back array.known index.known L B.grown l) in
              let w = B.typed L l in (
                (λ i. where_holds (may_be Int (w.0 i)) (u.0 i)) ∙ ap (λ (x : Bool). where_holds x (Some A.t)) fits,
                (u.1, subst (λ (x : Base). Typed L i1 x) (sym (same Int B.t fits)) w.1),
              );
        }
    expr_facts (call name es site) bound known f h c g =
        let args = a.in_values p es bound known in
        let cl = call_clean p name 1 site args h in
        let E = exprs_facts es bound known f cl.0 c g in
        let C = call_gives p name 1 site args E.ts E.bases h in
        let one = one_length C.gives (C.count ∙ sym cl.1) in
        record {
          t = one.0;
          base = ap first_base (call_bases_are p name 1 site args E.ts E.bases h ∙ ap somes one.1);
          grown = E.grown;
          same = E.same;
          typed = λ L l. let w = E.typed L l in (
            ap (λ (bs : List (Option Base)). value_base (calls name bs)) w.0 ∙ ap value_base (C.found ∙ ap (λ (x : List Base). Some x) one.1),
            (E.ts, (w.1, subst (λ (ts : List Base). InstanceBases p.functions name E.ts ts) one.1 C.instance)),
          );
        }
    expr_facts (builtin Dim no_exprs site) bound known f h c g = absurd f.0
    expr_facts (builtin Dim (expr_and e (expr_and e' es)) site) bound known f h c g = absurd f.0
    expr_facts (builtin Dim (expr_and e no_exprs) site) bound known f h c g =
        let E = expr_facts e bound known f.1.0 (nil_left (a.in_value p e bound known).violations [] h) c g in
        record { t = Int; base = λ i. where_holds (is_clean (h i)) (Some Int); grown = E.grown; same = E.same; typed = λ L l. (refl, (E.t ∷ [], (((E.typed L l).1, tt), refl))) }
    expr_facts (builtin Shape no_exprs site) bound known f h c g = absurd f.0
    expr_facts (builtin Shape (expr_and e (expr_and e' es)) site) bound known f h c g = absurd f.0
    expr_facts (builtin Shape (expr_and e no_exprs) site) bound known f h c g =
        let E = expr_facts e bound known f.1.0 (nil_left (a.in_value p e bound known).violations [] h) c g in
        record { t = Int; base = λ i. where_holds (is_clean (h i)) (Some Int); grown = E.grown; same = E.same; typed = λ L l. (refl, (E.t ∷ [], (((E.typed L l).1, tt), refl))) }
    expr_facts (builtin Reshape no_exprs site) bound known f h c g = absurd f.0
    expr_facts (builtin Reshape (expr_and e no_exprs) site) bound known f h c g = absurd f.0
    expr_facts (builtin Reshape (expr_and e (expr_and e' (expr_and e'' es))) site) bound known f h c g = absurd f.0
    expr_facts (builtin Reshape (expr_and e (expr_and e' no_exprs)) site) bound known f h c g =
        let first = a.in_value p e bound known in
        let second = a.in_value p e' bound first.known in
        let r = nil2 (unless (may_be Int first.base) C4 site) (first.violations ++ (second.violations ++ [])) h in
        let s = nil2 first.violations (second.violations ++ []) r.1 in
        let A = expr_facts e bound known f.1.0 s.0 c g in
        let B = expr_facts e' bound first.known f.1.1.0 (nil_left second.violations [] s.1) (covered_from bound known first.known c A.grown) A.grown.based in
        let fits : may_be Int (Some A.t) ≡ true = ap (may_be Int) (sym A.base) ∙ holds (may_be Int first.base) C4 site r.0 in
        record {
          t = B.t;
          base = (λ i. where_holds (is_clean (h i)) (where_holds (may_be Int (A.base i)) (B.base i))) ∙ ap (λ (x : Bool). where_holds x (Some B.t)) fits;
          grown = grown_more known first.known second.known A.grown B.grown;
          same = λ K q. B.same (b.in_expr calls e K) (A.same K q);
          typed = λ L l.
              let u = A.typed L (back first.known second.known L B.grown l) in
              let w = B.typed L l in (
                (λ i. where_holds (may_be Int (u.0 i)) (w.0 i)) ∙ ap (λ (x : Bool). where_holds x (Some B.t)) fits,
                (A.t ∷ B.t ∷ [], ((u.1, (w.1, tt)), (sym (same Int A.t fits), refl))),
              );
        }
    expr_facts (with_loop gs op site) bound known f h c g =
        let generators = a.in_generators p gs (is_fold op) bound known in
        let cells = a.in_operation p op (first_cell generators.cells) bound generators.known in
        let r = nil2 (cell_rules cells.base generators.cells) (generators.violations ++ cells.violations) h in
        let s = nil2 generators.violations cells.violations r.1 in
        let G = gens_facts gs (is_fold op) bound known f.0 s.0 c g in
        let fix = ap (λ (x : Option Base). a.in_operation p op x bound generators.known) G.first in
        let O = operation_facts op G.t bound generators.known f.1 (subst (λ (z : Finding). z.violations ≡ []) fix s.1) (covered_from bound known generators.known c G.grown) G.grown.based in
        let based : cells.base ≡ Some O.t = ap (λ (z : Finding). z.base) fix ∙ O.base in
        let rules = subst (λ (x : Option Base). cell_rules x generators.cells ≡ []) based r.0 in
        record {
          t = O.t;
          base = λ i. where_holds (is_clean (h i)) (based i);
          grown = subst (λ (z : Finding). Grown known z.known) (sym fix) (grown_more known generators.known (a.in_operation p op (Some G.t) bound generators.known).known G.grown O.grown);
          same = λ K q. ap (λ (z : Finding). z.known) fix ∙ O.same (b.in_gens calls gs K) (G.same K q);
          typed = λ L l.
              let l1 = subst (λ (z : Finding). Extends z.known (told L)) fix l in
              let l2 = back generators.known (a.in_operation p op (Some G.t) bound generators.known).known L O.grown l1 in
              let start = G.cell L l2 in
              let w = O.typed L l1 in
              let u = G.typed L l2 O.t rules in (
                ap (λ (x : Option Base). b.with_base_of calls L gs (b.operation_base calls L op x)) start.0 ∙ ap (b.with_base_of calls L gs) w.0 ∙ u.0,
                (u.1, subst (λ (x : Base). OperationTyped (b.base calls L) (name_bases L) (InstanceBases p.functions) op x O.t) (sym start.1) w.1),
              );
        }

    pub exprs_facts : (es : Exprs) (bound : Names) (known : Known) → AreFormed es → (a.in_values p es bound known).violations ≡ [] → Covered bound known → Based known → ExprsFacts es bound known
    exprs_facts no_exprs bound known f h c g = record { ts = []; bases = refl; grown = record { later = λ name x q. q; based = g }; same = λ K q. q; typed = λ L l. (refl, tt) }
    exprs_facts (expr_and e es) bound known f h c g =
        let first = a.in_value p e bound known in
        let rest = a.in_values p es bound first.known in
        let r = nil2 first.violations rest.violations h in
        let A = expr_facts e bound known f.0 r.0 c g in
        let B = exprs_facts es bound first.known f.1 r.1 (covered_from bound known first.known c A.grown) A.grown.based in
        record {
          ts = A.t ∷ B.ts;
          bases = λ i. A.base i ∷ B.bases i;
          grown = grown_more known first.known rest.known A.grown B.grown;
          same = λ K q. B.same (b.in_expr calls e K) (A.same K q);
          typed = λ L l.
              let u = A.typed L (back first.known rest.known L B.grown l) in
              let w = B.typed L l in
              ((λ i. u.0 i ∷ w.0 i), (u.1, w.1));
        }

    maybe_facts : (e : MaybeExpr) (other : Base) (bound : Names) (known : Known) → MaybeFormed e → (a.in_maybe p e (Some other) bound known).violations ≡ [] → Covered bound known → Based known → MaybeFacts e other bound known
    maybe_facts left_out other bound known f h c g = record { t = other; base = refl; grown = record { later = λ name x q. q; based = g }; same = λ K q. q; typed = λ L l. (refl, tt) }
    maybe_facts (given e) other bound known f h c g =
        let E = expr_facts e bound known f h c g in
        record { t = E.t; base = E.base; grown = E.grown; same = E.same; typed = E.typed }

    bound_facts : (e : BoundTree) (folds : Bool) (bound : Names) (known : Known) → BoundFormed e → (a.in_bound p e folds bound known).violations ≡ [] → Covered bound known → Based known → BoundFacts e folds bound known
    bound_facts (dot site) folds bound known f h c g = record { t = Int; base = λ i. where_holds (is_clean (h i)) (Some Int); grown = record { later = λ name x q. q; based = g }; same = λ K q. q; typed = λ L l. (refl, λ e. tt) }
    bound_facts (at e) folds bound known f h c g =
        let E = expr_facts e bound known f h c g in
        record { t = E.t; base = E.base; grown = E.grown; same = E.same; typed = λ L l. let w = E.typed L l in (w.0, λ q. subst (λ (x : Base). Typed L e x) q w.1) }

    gens_facts : (gs : Gens) (folds : Bool) (bound : Names) (known : Known) → GensFormed gs → (a.in_generators p gs folds bound known).violations ≡ [] → Covered bound known → Based known → GensFacts gs folds bound known
    gens_facts no_gens folds bound known f h c g = record { t = Int; first = refl; grown = record { later = λ name x q. q; based = g }; same = λ K q. q; cell = λ L l. (refl, refl); typed = λ L l u k. (refl, tt) }
    gens_facts (gen_and (gen lower lower_closed index upper upper_closed step width body cell site) gs) folds bound known f h c g =
        let inside = with_names (index_names index) bound in
        let least = a.in_bound p lower folds bound known in
        let indices = in_index_names (index_targets index) least.known in
        let most = a.in_bound p upper folds bound indices.known in
        let steps = a.in_maybe p step (Some Int) bound most.known in
        let widths = a.in_maybe p width (Some Int) bound steps.known in
        let block = a.in_block p body inside widths.known in
        let value = a.in_value p cell (bound_behind body inside) block.known in
        let rest = a.in_generators p gs folds bound value.known in
        let fits = are_int least.base most.base steps.base widths.base in
        let r = nil2 (least.violations ++ repeated_targets (index_targets index) ++ indices.violations ++ most.violations ++ steps.violations ++ widths.violations ++ block.violations ++ value.violations) rest.violations h in
        let s = nil8 least.violations (repeated_targets (index_targets index)) indices.violations most.violations steps.violations widths.violations block.violations value.violations r.0 in
        let A = bound_facts lower folds bound known f.0.1 s.0 c g in
        let ca = covered_from bound known least.known c A.grown in
        let gi : Grown least.known indices.known = record { later = extends_names (index_targets index) least.known; based = based_names (index_targets index) least.known A.grown.based } in
        let ci = covered_from bound least.known indices.known ca gi in
        let U = bound_facts upper folds bound indices.known f.0.2 s.3 ci gi.based in
        let cu = covered_from bound indices.known most.known ci U.grown in
        let S = maybe_facts step Int bound most.known f.0.3 s.4 cu U.grown.based in
        let cs = covered_from bound most.known steps.known cu S.grown in
        let W = maybe_facts width Int bound steps.known f.0.4 s.5 cs S.grown.based in
        let cw = covered_from bound steps.known widths.known cs W.grown in
        let guw = grown_more indices.known most.known widths.known U.grown (grown_more most.known steps.known widths.known S.grown W.grown) in
        let inner = covered_from inside indices.known widths.known (covered_names (index_targets index) bound least.known ca) guw in
        let B = block_facts body inside widths.known f.0.5 s.6 inner W.grown.based in
        let V = expr_facts cell (bound_behind body inside) block.known f.0.6 s.7 B.covered B.grown.based in
        let gwv = grown_more widths.known block.known value.known B.grown V.grown in
        let cv = covered_from bound widths.known value.known cw gwv in
        let R = gens_facts gs folds bound value.known f.1 r.1 cv V.grown.based in
        let giv = grown_more indices.known widths.known value.known guw gwv in
        let gav = grown_more known least.known value.known A.grown (grown_more least.known indices.known value.known gi giv) in
        record {
          t = V.t;
          first = V.base;
          grown = grown_more known value.known rest.known gav R.grown;
          same = λ K q.
              let K1 = b.in_bound calls lower K in
              let K2 = K1 ++ index_bases index in
              let K3 = b.in_bound calls upper K2 in
              let K4 = b.in_maybe calls step K3 in
              let K5 = b.in_maybe calls width K4 in
              let K6 = b.in_block calls body K5 in
              R.same (b.in_expr calls cell K6) (V.same K6 (B.same K5 (W.same K4 (S.same K3 (U.same K2
              (ap (λ (k : Known). (in_index_names (index_targets index) k).known) (A.same K q) ∙ index_told index K1))))));
          cell = λ L l. let w = V.typed L (back value.known rest.known L R.grown l) in (w.0, ap or_int w.0);
          typed = λ L l u k.
              let q = nil2 (unless (fits && may_match (Some u) value.base) C4 site) (cell_rules (Some u) rest.cells) k in
              let m = both fits (may_match (Some u) value.base) (holds (fits && may_match (Some u) value.base) C4 site q.0) in
              let ints : are_int (Some A.t) (Some U.t) (Some S.t) (Some W.t) ≡ true = (λ i. are_int (sym A.base i) (sym U.base i) (sym S.base i) (sym W.base i)) ∙ m.0 in
              let here = int_here A.t U.t S.t W.t ints in
              let match : may_match (Some u) (Some V.t) ≡ true = ap (may_match (Some u)) (sym V.base) ∙ m.1 in
              let lv = back value.known rest.known L R.grown l in
              let lb = back block.known value.known L V.grown lv in
              let lw = back widths.known block.known L B.grown lb in
              let ls = back steps.known widths.known L W.grown lw in
              let lu = back most.known steps.known L S.grown ls in
              let li = back indices.known most.known L U.grown lu in
              let la = back least.known indices.known L gi li in
              let tl = A.typed L la in
              let tu = U.typed L lu in
              let ts = S.typed L ls in
              let tw = W.typed L lw in
              let tb = B.typed L lb in
              let tv = V.typed L lv in
              let tr = R.typed L l u q.1 in (
                (λ i. where_holds (are_int (tl.0 i) (tu.0 i) (ts.0 i) (tw.0 i) && may_match (Some u) (tv.0 i)) (b.with_base_of calls L gs (Some u))) ∙ (λ i. where_holds (ints i && match i) (tr.0 i)),
                (
                  (
                    tl.1 here.0,
                    tu.1 here.1,
                    subst (λ (x : Base). MaybeTyped (b.base calls L) (name_bases L) (InstanceBases p.functions) step x) here.2 ts.1,
                    subst (λ (x : Base). MaybeTyped (b.base calls L) (name_bases L) (InstanceBases p.functions) width x) here.3 tw.1,
                    subst (λ (xs : List Target). IntTargets (name_bases L) xs) (index_same index) (index_typed (index_targets index) least.known L A.grown.based s.2 li),
                    tb,
                    subst (λ (x : Base). Typed L cell x) (sym (same u V.t match)) tv.1,
                  ),
                  tr.1,
                ),
              );
        }

    operation_facts : (op : OperationTree) (d1 : Base) (bound : Names) (known : Known) → OperationFormed op → (a.in_operation p op (Some d1) bound known).violations ≡ [] → Covered bound known → Based known → OperationFacts op d1 bound known
    operation_facts (genarray shape left_out site) d1 bound known f h c g =
        let extents = a.in_value p shape bound known in
        let r = nil3 (unless (may_be Int extents.base) C4 site) extents.violations [] h in
        let A = expr_facts shape bound known f.0 r.1 c g in
        let fits : may_be Int (Some A.t) ≡ true = ap (may_be Int) (sym A.base) ∙ holds (may_be Int extents.base) C4 site r.0 in
        record {
          t = d1;
          base = refl;
          grown = A.grown;
          same = A.same;
          typed = λ L l. let w = A.typed L l in
              (ap (λ (x : Option Base). where_holds (may_be Int x) (Some d1)) w.0 ∙ ap (λ (x : Bool). where_holds x (Some d1)) fits, (subst (λ (x : Base). Typed L shape x) (sym (same Int A.t fits)) w.1, refl));
        }
    operation_facts (genarray shape (given e) site) d1 bound known f h c g =
        let extents = a.in_value p shape bound known in
        let value = a.in_value p e bound extents.known in
        let r = nil3 (unless (may_be Int extents.base) C4 site) extents.violations value.violations h in
        let A = expr_facts shape bound known f.0 r.1 c g in
        let B = expr_facts e bound extents.known f.1 r.2 (covered_from bound known extents.known c A.grown) A.grown.based in
        let fits : may_be Int (Some A.t) ≡ true = ap (may_be Int) (sym A.base) ∙ holds (may_be Int extents.base) C4 site r.0 in
        record {
          t = B.t;
          base = B.base;
          grown = grown_more known extents.known value.known A.grown B.grown;
          same = λ K q. B.same (b.in_expr calls shape K) (A.same K q);
          typed = λ L l.
              let u = A.typed L (back extents.known value.known L B.grown l) in
              let w = B.typed L l in
              ((λ i. where_holds (may_be Int (u.0 i)) (w.0 i)) ∙ ap (λ (x : Bool). where_holds x (Some B.t)) fits, (subst (λ (x : Base). Typed L shape x) (sym (same Int A.t fits)) u.1, w.1));
        }
    operation_facts (modarray array site) d1 bound known f h c g =
        let A = expr_facts array bound known f h c g in
        record { t = A.t; base = A.base; grown = A.grown; same = A.same; typed = A.typed }
    operation_facts (fold op neutral site) d1 bound known f h c g =
        let value = a.in_value p neutral bound known in
        let r = nil2 (unless (operands_fit op value.base value.base) C4 site) value.violations h in
        let A = expr_facts neutral bound known f.1 r.1 c g in
        let fits : operands_fit op (Some A.t) (Some A.t) ≡ true = (λ i. operands_fit op (sym A.base i) (sym A.base i)) ∙ holds (operands_fit op value.base value.base) C4 site r.0 in
        record {
          t = A.t;
          base = A.base;
          grown = A.grown;
          same = A.same;
          typed = λ L l. let w = A.typed L l in
              ((λ i. where_holds (operands_fit op (w.0 i) (w.0 i)) (w.0 i)) ∙ ap (λ (x : Bool). where_holds x (Some A.t)) fits, (w.1, fold_fits op A.t f.0 fits));
        }

    stmt_facts : (s : Stmt) (bound : Names) (known : Known) → StmtFormed s → (a.in_statement p s bound known).violations ≡ [] → Covered bound known → Based known → StmtFacts s bound known
    stmt_facts (assign targets (call name es site)) bound known f h c g =
        let args = a.in_values p es bound known in
        let results = length targets in
        let called = in_call p name results site args in
        let rest = in_targets targets called.bases args.known in
        let r = nil3 called.violations (repeated_targets targets) rest.violations h in
        let cl = call_clean p name results site args r.0 in
        let E = exprs_facts es bound known f cl.0 c g in
        let C = call_gives p name results site args E.ts E.bases r.0 in
        let cb = call_bases_are p name results site args E.ts E.bases r.0 in
        let n : length targets ≡ length C.gives = cl.1 ∙ sym C.count in
        let fix = ap (λ (bs : List (Option Base)). in_targets targets bs args.known) cb in
        record {
          grown = record {
            later = extends_more known args.known rest.known E.grown.later (extends_targets targets called.bases args.known);
            based = subst (λ (z : Passage). Based z.known) (sym fix) (based_targets targets C.gives args.known n E.grown.based);
          };
          covered = covered_targets targets called.bases bound args.known (covered_from bound known args.known c E.grown);
          same = λ K q.
              let before = b.in_exprs calls es K in
              (λ i. (in_targets targets (cb i) (E.same K q i)).known)
              ∙ targets_told targets (somes C.gives) before
              ∙ ap (λ (bs : List (Option Base)). told (with_bases targets bs before)) (sym (ap (λ (bs : List (Option Base)). known_bases (calls name bs)) (E.typed before (within args.known before (E.same K q))).0 ∙ ap known_bases C.found));
          typed = λ L l.
              let w = E.typed L (extends_more args.known rest.known (told L) (extends_targets targets called.bases args.known) l) in
              (E.ts, (C.gives, (w.1, C.instance, targets_typed targets C.gives args.known L n E.grown.based (subst (λ (z : Passage). z.violations ≡ []) fix r.2) (subst (λ (z : Passage). Extends z.known (told L)) fix l))));
        }
    stmt_facts (assign targets e) bound known f h c g =
        let value = a.in_value p e bound known in
        let rest = in_targets targets (value.base ∷ []) value.known in
        let r = nil4 (several_targets targets) value.violations (repeated_targets targets) rest.violations h in
        let A = assign_facts targets e bound known c (expr_facts e bound known f r.1 c g) r.0 r.3 in
        record { grown = A.grown; covered = A.covered; same = A.same; typed = A.typed }
    stmt_facts (replace target bracket index e) bound known f h c g =
        let place = a.in_value p index bound known in
        let value = a.in_value p e bound place.known in
        let name = target.name in
        let here = bind name None value.known in
        let r = nil5 (use_rules p name target.site bound) (unless (may_be Int place.base) C4 bracket) (unless (may_match (base_of here name) value.base) C4 target.site) place.violations value.violations h in
        let A = expr_facts index bound known f.0 r.3 c g in
        let ca = covered_from bound known place.known c A.grown in
        let B = expr_facts e bound place.known f.1 r.4 ca A.grown.based in
        let cb = covered_from bound place.known value.known ca B.grown in
        let there = cb name (used_bound p name target.site bound r.0) in
        let v = variable_base value.known name there B.grown.based in
        let bound_to_it : here name ≡ Some (Some v.0) = extends_bind name None value.known name (Some v.0) v.1 in
        let ints : may_be Int (Some A.t) ≡ true = ap (may_be Int) (sym A.base) ∙ holds (may_be Int place.base) C4 bracket r.1 in
        let match : may_match (Some v.0) (Some B.t) ≡ true = (λ i. may_match (base_first (sym bound_to_it i)) (sym B.base i)) ∙ holds (may_match (base_of here name) value.base) C4 target.site r.2 in
        record {
          grown = record {
            later = extends_more known value.known here (grown_more known place.known value.known A.grown B.grown).later (extends_bind name None value.known);
            based = based_again name None value.known there B.grown.based;
          };
          covered = covered_bind name None bound value.known cb;
          same = λ K q. ap (bind name None) (B.same (b.in_expr calls index K) (A.same K q)) ∙ sym (told_append (b.in_expr calls e (b.in_expr calls index K)) (record { name = name; base = None }));
          typed = λ L l.
              let lv = extends_more value.known here (told L) (extends_bind name None value.known) l in
              let u = A.typed L (back place.known value.known L B.grown lv) in
              let w = B.typed L lv in
              (subst (λ (x : Base). Typed L index x) (sym (same Int A.t ints)) u.1, subst (λ (x : Base). Typed L e x) (sym (name_is L value.known name v.0 lv v.1 ∙ same v.0 B.t match)) w.1);
        }
    stmt_facts (if_else c1 first second site) bound known f h c g =
        let test = a.in_value p c1 bound known in
        let one = a.in_block p first bound test.known in
        let other = a.in_block p second bound one.known in
        let r = nil4 (unless (may_be Truth test.base) C4 site) test.violations one.violations other.violations h in
        let A = expr_facts c1 bound known f.0 r.1 c g in
        let ca = covered_from bound known test.known c A.grown in
        let B = block_facts first bound test.known f.1 r.2 ca A.grown.based in
        let D = block_facts second bound one.known f.2 r.3 (covered_from bound test.known one.known ca B.grown) B.grown.based in
        let fits : may_be Truth (Some A.t) ≡ true = ap (may_be Truth) (sym A.base) ∙ holds (may_be Truth test.base) C4 site r.0 in
        record {
          grown = grown_more known test.known other.known A.grown (grown_more test.known one.known other.known B.grown D.grown);
          covered = λ name k. D.covered name (both (bound_behind first bound name) (bound_behind second bound name) k).1;
          same = λ K q. D.same (b.in_block calls first (b.in_expr calls c1 K)) (B.same (b.in_expr calls c1 K) (A.same K q));
          typed = λ L l.
              let l1 = back one.known other.known L D.grown l in
              let u = A.typed L (back test.known one.known L B.grown l1) in
              (subst (λ (x : Base). Typed L c1 x) (sym (same Truth A.t fits)) u.1, B.typed L l1, D.typed L l);
        }
    stmt_facts (while_do c1 body site) bound known f h c g =
        let test = a.in_value p c1 bound known in
        let turn = a.in_block p body bound test.known in
        let r = nil3 (unless (may_be Truth test.base) C4 site) test.violations turn.violations h in
        let A = expr_facts c1 bound known f.0 r.1 c g in
        let B = block_facts body bound test.known f.1 r.2 (covered_from bound known test.known c A.grown) A.grown.based in
        let fits : may_be Truth (Some A.t) ≡ true = ap (may_be Truth) (sym A.base) ∙ holds (may_be Truth test.base) C4 site r.0 in
        let all = grown_more known test.known turn.known A.grown B.grown in
        record {
          grown = all;
          covered = covered_from bound known turn.known c all;
          same = λ K q. B.same (b.in_expr calls c1 K) (A.same K q);
          typed = λ L l. (subst (λ (x : Base). Typed L c1 x) (sym (same Truth A.t fits)) (A.typed L (back test.known turn.known L B.grown l)).1, B.typed L l);
        }
    stmt_facts (do_while body c1 site test) bound known f h c g =
        let turn = a.in_block p body bound known in
        let again = a.in_value p c1 (bound_behind body bound) turn.known in
        let r = nil3 turn.violations (unless (may_be Truth again.base) C4 test) again.violations h in
        let B = block_facts body bound known f.0 r.0 c g in
        let A = expr_facts c1 (bound_behind body bound) turn.known f.1 r.2 B.covered B.grown.based in
        let fits : may_be Truth (Some A.t) ≡ true = ap (may_be Truth) (sym A.base) ∙ holds (may_be Truth again.base) C4 test r.1 in
        record {
          grown = grown_more known turn.known again.known B.grown A.grown;
          covered = covered_from (bound_behind body bound) turn.known again.known B.covered A.grown;
          same = λ K q. A.same (b.in_block calls body K) (B.same K q);
          typed = λ L l. (B.typed L (back turn.known again.known L A.grown l), subst (λ (x : Base). Typed L c1 x) (sym (same Truth A.t fits)) (A.typed L l).1);
        }

    pub block_facts : (s : Block) (bound : Names) (known : Known) → BlockFormed s → (a.in_block p s bound known).violations ≡ [] → Covered bound known → Based known → BlockFacts s bound known
    block_facts no_stmts bound known f h c g = record { grown = record { later = λ name x q. q; based = g }; covered = c; same = λ K q. q; typed = λ L l. tt }
    block_facts (stmt_and s rest) bound known f h c g =
        let first = a.in_statement p s bound known in
        let later = a.in_block p rest (bound_after s bound) first.known in
        let r = nil2 first.violations later.violations h in
        let A = stmt_facts s bound known f.0 r.0 c g in
        let B = block_facts rest (bound_after s bound) first.known f.1 r.1 A.covered A.grown.based in
        record {
          grown = grown_more known first.known later.known A.grown B.grown;
          covered = B.covered;
          same = λ K q. B.same (b.in_stmt calls s K) (A.same K q);
          typed = λ L l. (A.typed L (back first.known later.known L B.grown l), B.typed L l);
        }
