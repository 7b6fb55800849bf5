-- The literal value of a right side may stand in its place, as a constant.
use Rattle.std.proofs.Common.{◌≡◌, ℕ, ◌≤◌, ◌<◌, ◌^◌, Bool, true, false, ◌&&◌, List, [], ◌∷◌, map, length, Option, Some, None, Result, Ok, Err, refl, sym, ap, subst, ◌∙◌, arith, inl, pos, All}
use Rattle.std.specs.Prelude.{◌||◌, if◌then◌else◌}
use Rattle.std.proofs.lemmas.Bool.{leb-true}
use Rattle.std.proofs.lemmas.Int.{ints}
use Rattle.std.proofs.lemmas.List.{length-map}
use Rattle.std.proofs.lemmas.List.Elements.{All-nil, All-cons}
use Rattle.sac_base.specs.declared.base.Base.{Base}
use Rattle.sac_base.specs.declared.base.Base.TheVariants.{Int, Bool as Truth}
use Rattle.sac_base.specs.declared.faults.FaultKind.{FaultKind}
use Rattle.sac_base.specs.Arrays.{ArrayValue, IsCell, IsWellTyped, MOST, scalar, size, vector}
use Rattle.sac_base.specs.Operators.{unary}
use Rattle.sac_base.specs.Shapes.{IsShape}
use Rattle.core_ir.specs.declared.tree.Var.{Var}
use Rattle.core_ir.specs.Terms.{PlainTerm}
use Rattle.core_ir.specs.Meaning.{Env, plain_value}
use Rattle.core_ir.specs.WellFormed.{Bases, base_of, PlainBases}
use Rattle.core_facts.specs.Facts.{Facts, ValueIs, AreSound, values, are_literal, are_scalars, is_negation, is_shape, is_small_shape, is_some, is_sum, small, when, shape_value, plain_literal}
use Rattle.core_facts.proofs.Extents.{is_shape_decides}
use Rattle.core_facts.proofs.Literals.{some_same, no_value, both_true, whenever, literal_sound}
use Rattle.core_facts.proofs.Shapes.{ok_same, checked_ok}
use Rattle.core_facts.specs.bases.Typed.{HaveBases, Typed}
use Rattle.core_facts.proofs.bases.Bound.{some_base}
use Rattle.core_facts.proofs.bases.Plain.{plain_typed}
use Rattle.core_loops.proofs.values.Plain.{ConstFull, plain_full, vector_full}
use Rattle.core_loops.proofs.settled_forms.Formed.{MayStand, Formed}
use Rattle.core_loops.proofs.settled_forms.Cells.{negation_cells, sum_typed, literal_typed, extent_cells}

-- ---- an environment of the literal values, and of zeros elsewhere

zero_cell : (t : Base) → IsCell t (pos 0)
zero_cell Int = omega (arith, ints)
zero_cell Truth = inl refl

zero_stands : (t : Base) → MayStand (scalar t (pos 0))
zero_stands t = (
  record { shape = record { rank = omega arith; each = All-nil (λ n. n < 2 ^ 31) }; most = omega arith; full = refl },
  All-cons (IsCell t) (pos 0) [] (zero_cell t) (All-nil (IsCell t)),
)

abbrev stand_in : Option ArrayValue → Option Base → ArrayValue
stand_in (Some v) m = v
stand_in None None = scalar Int (pos 0)
stand_in None (Some t) = scalar t (pos 0)

abbrev stand_ins : Bases → Facts → Env
stand_ins g k x = stand_in (k x).literal (base_of g x)

it_stands : (o : Option ArrayValue) (m : Option Base) → ((v : ArrayValue) → o ≡ Some v → MayStand v) → MayStand (stand_in o m)
it_stands (Some v) m h = h v refl
it_stands None None h = zero_stands Int
it_stands None (Some t) h = zero_stands t

no_base : (t : Base) → ◌≡◌ {A = Option Base} None (Some t) → ⊥
no_base t p = cc

its_base : (o : Option ArrayValue) (m : Option Base) (t : Base) → ((v : ArrayValue) → o ≡ Some v → (u : Base) → m ≡ Some u → v.base ≡ u) → m ≡ Some t → (stand_in o m).base ≡ t
its_base (Some v) m t h p = h v refl t p
its_base None None t h p = absurd (no_base t p)
its_base None (Some u) t h p = some_base u t p

its_value : (o : Option ArrayValue) (m : Option Base) → ValueIs o (stand_in o m)
its_value None m = tt
its_value (Some v) m = refl

-- what is known but the shapes
abbrev without_shapes : Facts → Facts
without_shapes k x = record { shape = None; literal = (k x).literal; constant = (k x).constant }

still_literal : (k : Facts) (xs : List Var) → are_literal (without_shapes k) xs ≡ are_literal k xs
still_literal k [] = refl
still_literal k (x ∷ xs) = ap (λ b. is_some (k x).literal && b) (still_literal k xs)

-- ---- small shapes, and shapes as vectors

small_shape : (r : Result ArrayValue FaultKind) (v : ArrayValue) → small r ≡ Some v → is_small_shape v.shape ≡ true
small_shape (Err kind) v p = absurd (no_value v p)
small_shape (Ok a) v p = go (is_small_shape a.shape) refl p
  where
    go : (b : Bool) → is_small_shape a.shape ≡ b → (if b then Some a else None) ≡ Some v → is_small_shape v.shape ≡ true
    go true e q = subst (λ (u : ArrayValue). is_small_shape u.shape ≡ true) (some_same a v q) e
    go false e q = absurd (no_value v q)

small_is_shape : (s : List ℕ) → is_small_shape s ≡ true → IsShape s × (size s ≤ MOST)
small_is_shape [] h = (record { rank = omega arith; each = All-nil (λ n. n < 2 ^ 31) }, omega arith)
small_is_shape (n ∷ []) h =
    let l = leb-true n 8 h in
    (record { rank = omega arith; each = All-cons (λ m. m < 2 ^ 31) n [] (omega (arith, l)) (All-nil (λ m. m < 2 ^ 31)) }, omega (arith, l))
small_is_shape (n ∷ m ∷ s) h = absurd (cc)

vector_stands : (s : List ℕ) → IsShape s → MayStand (vector Int (map (λ n. pos n) s))
vector_stands s h =
    let l = length-map s (λ n. pos n) in
    let few : length (map (λ n. pos n) s) ≤ 8 = omega (arith, l, h.rank) in (
      record {
        shape = record { rank = omega arith; each = All-cons (λ m. m < 2 ^ 31) (length (map (λ n. pos n) s)) [] (omega (arith, few)) (All-nil (λ m. m < 2 ^ 31)) };
        most = omega (arith, few);
        full = vector_full (map (λ n. pos n) s);
      },
      extent_cells s h.each,
    )

shape_stands : (o : Option (List ℕ)) (v : ArrayValue) → shape_value o ≡ Some v → MayStand v × (v.base ≡ Int)
shape_stands None v p = absurd (no_value v p)
shape_stands (Some s) v p = go (is_shape s) refl p
  where
    go : (b : Bool) → is_shape s ≡ b → (if b then Some (vector Int (map (λ n. pos n) s)) else None) ≡ Some v → MayStand v × (v.base ≡ Int)
    go true e q = subst (λ (u : ArrayValue). MayStand u × (u.base ≡ Int)) (some_same _ v q) (vector_stands s ((is_shape_decides s).0 e), refl)
    go false e q = absurd (no_value v q)

one_of : (ts : List Base) (v : ArrayValue) → HaveBases ts (v ∷ []) → ts ≡ v.base ∷ []
one_of [] v h = absurd h
one_of (t ∷ []) v h = λ i. sym h.0 i ∷ []
one_of (t ∷ u ∷ us) v h = absurd h.1

module _ (g : Bases) (k : Facts) (formed : Formed g k) where
  all_stand : (x : Var) → MayStand (stand_ins g k x)
  all_stand x = it_stands (k x).literal (base_of g x) (λ v p. (formed x v p).0)

  typed : Typed g (stand_ins g k)
  typed x t p = its_base (k x).literal (base_of g x) t (λ v q. (formed x v q).1) p

  sound : AreSound (without_shapes k) (stand_ins g k)
  sound x = record { shape = tt; literal = its_value (k x).literal (base_of g x); full = (all_stand x).0.full }

  typed_values : (xs : List Var) → All IsWellTyped (map (stand_ins g k) xs)
  typed_values [] = All-nil IsWellTyped
  typed_values (x ∷ xs) = All-cons IsWellTyped (stand_ins g k x) (map (stand_ins g k) xs) (all_stand x).1 (typed_values xs)

  -- a small value of well-typed elements
  by_value : (p : PlainTerm) (ts : List Base) (v : ArrayValue) → PlainBases g p ts → ConstFull p → plain_value p (stand_ins g k) ≡ Ok v → is_small_shape v.shape ≡ true → IsWellTyped v → PlainBases g (PlainTerm.Const v) ts
  by_value p ts v b c q s w =
      let m = small_is_shape v.shape s in
      (record { shape = m.0; most = m.1; full = plain_full p (stand_ins g k) v c (λ x. (all_stand x).0.full) q }, w, one_of ts v (plain_typed p g (stand_ins g k) v ts b typed q))

  pub value_stands : (p : PlainTerm) (ts : List Base) (v : ArrayValue) → PlainBases g p ts → plain_literal p k ≡ Some v → PlainBases g (PlainTerm.Const v) ts
  value_stands (PlainTerm.Const a) ts v b p = subst (λ u. PlainBases g (PlainTerm.Const u) ts) (some_same a v p) b
  value_stands (PlainTerm.Copy x) ts v b p = let w = formed x v p in (w.0.0, w.0.1, b.2 ∙ (λ i. sym (w.1 b.0 b.1) i ∷ []))
  value_stands (PlainTerm.Unary o x) ts v b p =
      let w = whenever (is_negation o && are_literal k (x ∷ [])) (small (plain_value (PlainTerm.Unary o x) (values k))) v p in
      let q = literal_sound (PlainTerm.Unary o x) (without_shapes k) (stand_ins g k) v sound p in
      by_value (PlainTerm.Unary o x) ts v b tt q (small_shape (plain_value (PlainTerm.Unary o x) (values k)) v w.1)
      (subst IsWellTyped (ok_same (unary o (stand_ins g k x)) v q) (negation_cells o (stand_ins g k x).cells (both_true (is_negation o) (are_literal k (x ∷ [])) w.0).0))
  value_stands (PlainTerm.Binary o x y) ts v b p =
      let w = whenever ((is_sum o && ((k x).constant || (k y).constant)) && are_literal k (x ∷ y ∷ [])) (small (plain_value (PlainTerm.Binary o x y) (values k))) v p in
      let q = literal_sound (PlainTerm.Binary o x y) (without_shapes k) (stand_ins g k) v sound p in
      by_value (PlainTerm.Binary o x y) ts v b tt q (small_shape (plain_value (PlainTerm.Binary o x y) (values k)) v w.1) (sum_typed o (stand_ins g k x) (stand_ins g k y) v (both_true (is_sum o) ((k x).constant || (k y).constant) (both_true (is_sum o && ((k x).constant || (k y).constant)) (are_literal k (x ∷ y ∷ [])) w.0).0).0 q)
  value_stands (PlainTerm.Literal xs) ts v b p =
      let w = whenever (are_literal k xs && are_scalars k xs) (small (plain_value (PlainTerm.Literal xs) (values k))) v p in
      let q = literal_sound (PlainTerm.Literal xs) (without_shapes k) (stand_ins g k) v sound ((λ i. when (still_literal k xs i && are_scalars k xs) (small (plain_value (PlainTerm.Literal xs) (values k)))) ∙ p) in
      by_value (PlainTerm.Literal xs) ts v b tt q (small_shape (plain_value (PlainTerm.Literal xs) (values k)) v w.1) (literal_typed (map (stand_ins g k) xs) v (typed_values xs) q)
  value_stands (PlainTerm.Dim x) ts v b p = absurd (no_value v p)
  value_stands (PlainTerm.ShapeOf x) ts v b p = let w = shape_stands (k x).shape v p in (w.0.0, w.0.1, b.2 ∙ (λ i. sym w.1 i ∷ []))
  value_stands (PlainTerm.Reshape x y) ts v b p = absurd (no_value v p)
  value_stands (PlainTerm.Select x y) ts v b p = absurd (no_value v p)
  value_stands (PlainTerm.Replace x y z) ts v b p = absurd (no_value v p)
  value_stands (PlainTerm.Always kind) ts v b p = absurd (no_value v p)
  value_stands (PlainTerm.Check x ty) ts v b p =
      let q = literal_sound (PlainTerm.Check x ty) (without_shapes k) (stand_ins g k) v sound p in
      let m = subst MayStand (checked_ok ty (stand_ins g k x) v q).1 (all_stand x) in
      (m.0, m.1, one_of ts v (plain_typed (PlainTerm.Check x ty) g (stand_ins g k) v ts b typed q))
