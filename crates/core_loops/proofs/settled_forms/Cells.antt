-- The elements of what negation, sums, differences, products, literals and shapes give.
use Rattle.std.proofs.Common.{◌≡◌, ℕ, ◌<◌, ◌^◌, Bool, true, false, ◌&&◌, List, [], ◌∷◌, map, Option, Some, None, Result, Ok, Err, refl, subst, arith, ℤ, pos, neg_ℤ, ◌+ℤ◌, ◌-ℤ◌, ◌*ℤ◌, All, w32}
use Rattle.std.specs.List.{zip, list_all}
use Rattle.std.proofs.lemmas.Int.{ints, SFits-int_wrap}
use Rattle.std.proofs.lemmas.List.Elements.{All-nil, All-cons, All-head, All-tail, All-append}
use Rattle.sac_base.specs.declared.base.Base.{Base}
use Rattle.sac_base.specs.declared.base.Base.TheVariants.{Int, Bool as Truth}
use Rattle.sac_base.specs.declared.faults.FaultKind.TheVariants.{F2, F3, F4, F8}
use Rattle.sac_base.specs.declared.op.Op.{Op}
use Rattle.sac_base.specs.declared.op.Op.TheVariants as op
use Rattle.sac_base.specs.declared.op.ZeroDivisor.{ZeroDivisor}
use Rattle.sac_base.specs.Arrays.{ArrayValue, IsCell, IsWellTyped, size, vector, same_base, same_shape, same_form}
use Rattle.sac_base.specs.Operators.{apply_one, apply_two, all_of, binary, combined, common_shape, in_shape, result_base, stretched, with_cells, with_first, wrap}
use Rattle.sac_base.specs.Parts.{cells_of_all, literal}
use Rattle.core_facts.specs.Facts.{is_negation, is_sum}
use Rattle.core_facts.proofs.Shapes.{ok_same, no_ok, check_ok}

-- ---- operators

wrapped_cell : (z : ℤ) → IsCell Int (wrap z)
wrapped_cell z = SFits-int_wrap w32 z

negated_cells : (zs : List ℤ) → All (IsCell Int) (map (apply_one op.Neg) zs)
negated_cells [] = All-nil (IsCell Int)
negated_cells (z ∷ zs) = All-cons (IsCell Int) (wrap (neg_ℤ z)) (map (apply_one op.Neg) zs) (wrapped_cell (neg_ℤ z)) (negated_cells zs)

pub negation_cells : (o : Op) (zs : List ℤ) → is_negation o ≡ true → All (IsCell (result_base o)) (map (apply_one o) zs)
negation_cells op.Add zs h = absurd (cc)
negation_cells op.Sub zs h = absurd (cc)
negation_cells op.Mul zs h = absurd (cc)
negation_cells op.Div zs h = absurd (cc)
negation_cells op.Rem zs h = absurd (cc)
negation_cells op.Min zs h = absurd (cc)
negation_cells op.Max zs h = absurd (cc)
negation_cells op.Neg zs h = negated_cells zs
negation_cells op.Not zs h = absurd (cc)
negation_cells op.Eq zs h = absurd (cc)
negation_cells op.Ne zs h = absurd (cc)
negation_cells op.Lt zs h = absurd (cc)
negation_cells op.Le zs h = absurd (cc)
negation_cells op.Gt zs h = absurd (cc)
negation_cells op.Ge zs h = absurd (cc)
negation_cells op.And zs h = absurd (cc)
negation_cells op.Or zs h = absurd (cc)

ok_number : (a c : ℤ) → ◌≡◌ {A = Result ℤ ZeroDivisor} (Ok a) (Ok c) → IsCell Int a → IsCell Int c
ok_number a c p h = subst (IsCell Int) (ok_same a c p) h

one_sum : (o : Op) (a b c : ℤ) → is_sum o ≡ true → apply_two o a b ≡ Ok c → IsCell (result_base o) c
one_sum op.Add a b c s p = ok_number (wrap (a +ℤ b)) c p (wrapped_cell (a +ℤ b))
one_sum op.Sub a b c s p = ok_number (wrap (a -ℤ b)) c p (wrapped_cell (a -ℤ b))
one_sum op.Mul a b c s p = ok_number (wrap (a *ℤ b)) c p (wrapped_cell (a *ℤ b))
one_sum op.Div a b c s p = absurd (cc)
one_sum op.Rem a b c s p = absurd (cc)
one_sum op.Min a b c s p = absurd (cc)
one_sum op.Max a b c s p = absurd (cc)
one_sum op.Neg a b c s p = absurd (cc)
one_sum op.Not a b c s p = absurd (cc)
one_sum op.Eq a b c s p = absurd (cc)
one_sum op.Ne a b c s p = absurd (cc)
one_sum op.Lt a b c s p = absurd (cc)
one_sum op.Le a b c s p = absurd (cc)
one_sum op.Gt a b c s p = absurd (cc)
one_sum op.Ge a b c s p = absurd (cc)
one_sum op.And a b c s p = absurd (cc)
one_sum op.Or a b c s p = absurd (cc)

first_of : (a : ℤ) (r : Result (List ℤ) ZeroDivisor) (xs : List ℤ) → with_first a r ≡ Ok xs → (ys : List ℤ) × (r ≡ Ok ys) × (a ∷ ys ≡ xs)
first_of a (Ok ys) xs p = (ys, refl, ok_same (a ∷ ys) xs p)
first_of a (Err e) xs p = absurd (no_ok e xs p)

all_sums : (o : Op) (ps : List (ℤ × ℤ)) (cs : List ℤ) → is_sum o ≡ true → all_of (map (λ (p : ℤ × ℤ). apply_two o p.0 p.1) ps) ≡ Ok cs → All (IsCell (result_base o)) cs
all_sums o [] cs s q = subst (All (IsCell (result_base o))) (ok_same [] cs q) (All-nil (IsCell (result_base o)))
all_sums o (p ∷ ps) cs s q = go (apply_two o p.0 p.1) (λ c e. one_sum o p.0 p.1 c s e) (λ ys m. all_sums o ps ys s m) q
  where
    go : (r : Result ℤ ZeroDivisor) → ((c : ℤ) → r ≡ Ok c → IsCell (result_base o) c) → ((ys : List ℤ) → all_of (map (λ (p : ℤ × ℤ). apply_two o p.0 p.1) ps) ≡ Ok ys → All (IsCell (result_base o)) ys)
        → all_of (r ∷ map (λ (p : ℤ × ℤ). apply_two o p.0 p.1) ps) ≡ Ok cs → All (IsCell (result_base o)) cs
    go (Ok a) h f m =
        let w = first_of a (all_of (map (λ (p : ℤ × ℤ). apply_two o p.0 p.1) ps)) cs m in
        subst (All (IsCell (result_base o))) w.2 (All-cons (IsCell (result_base o)) a w.0 (h a refl) (f w.0 w.1))
    go (Err e) h f m = absurd (no_ok e cs m)

given_typed : (o : Op) (s : List ℕ) (r : Result (List ℤ) ZeroDivisor) (v : ArrayValue) → ((cs : List ℤ) → r ≡ Ok cs → All (IsCell (result_base o)) cs) → with_cells o s r ≡ Ok v → IsWellTyped v
given_typed o s (Err z) v h p = absurd (no_ok F2 v p)
given_typed o s (Ok cs) v h p = subst IsWellTyped (ok_same _ v p) (h cs refl)

pub sum_typed : (o : Op) (a b v : ArrayValue) → is_sum o ≡ true → binary o a b ≡ Ok v → IsWellTyped v
sum_typed o a b v s p = go (common_shape a.shape b.shape) p
  where
    go : (m : Option (List ℕ)) → in_shape o m a b ≡ Ok v → IsWellTyped v
    go None q = absurd (no_ok F3 v q)
    go (Some u) q =
        let xs = stretched (size u) a.shape a.cells in
        let ys = stretched (size u) b.shape b.cells in
        given_typed o u (combined o xs ys) v (λ cs m. all_sums o (zip xs ys) cs s m) q

-- ---- literals

both_hold : (b c : Bool) → (b && c) ≡ true → (b ≡ true) × (c ≡ true)
both_hold true c h = (refl, h)
both_hold false c h = absurd (cc)

one_base : (t u : Base) → same_base t u ≡ true → u ≡ t
one_base Int Int h = refl
one_base Truth Truth h = refl
one_base Int Truth h = absurd (cc)
one_base Truth Int h = absurd (cc)

other_cells : (a : ArrayValue) (rest : List ArrayValue) → list_all (same_form a) rest ≡ true → All IsWellTyped rest → All (IsCell a.base) (cells_of_all rest)
other_cells a [] h w = All-nil (IsCell a.base)
other_cells a (b ∷ rest) h w =
    let p = both_hold (same_form a b) (list_all (same_form a) rest) h in
    let q = one_base a.base b.base (both_hold (same_base a.base b.base) (same_shape a.shape b.shape) p.0).0 in
    All-append (IsCell a.base) b.cells (cells_of_all rest) (subst (λ t. All (IsCell t) b.cells) q (All-head IsWellTyped b rest w)) (other_cells a rest p.1 (All-tail IsWellTyped b rest w))

literal_cells : (a : ArrayValue) (rest : List ArrayValue) → list_all (same_form a) rest ≡ true → All IsWellTyped (a ∷ rest) → All (IsCell a.base) (cells_of_all (a ∷ rest))
literal_cells a rest h w = All-append (IsCell a.base) a.cells (cells_of_all rest) (All-head IsWellTyped a rest w) (other_cells a rest h (All-tail IsWellTyped a rest w))

pub literal_typed : (vs : List ArrayValue) (v : ArrayValue) → All IsWellTyped vs → literal vs ≡ Ok v → IsWellTyped v
literal_typed [] v w p = subst IsWellTyped (ok_same (vector Int []) v p) (All-nil (IsCell Int))
literal_typed (a ∷ rest) v w p =
    let q = check_ok (list_all (same_form a) rest) F3 _ v p in
    let r = (check_ok _ F4 _ v q.1).1 in
    subst IsWellTyped (ok_same _ v (check_ok _ F8 _ v r).1) (literal_cells a rest q.0 w)

-- ---- shapes

extent_cell : (n : ℕ) → n < 2 ^ 31 → IsCell Int (pos n)
extent_cell n h = omega (arith, ints)

pub extent_cells : (s : List ℕ) → All (λ n. n < 2 ^ 31) s → All (IsCell Int) (map (λ n. pos n) s)
extent_cells [] h = All-nil (IsCell Int)
extent_cells (n ∷ s) h = All-cons (IsCell Int) (pos n) (map (λ n. pos n) s) (extent_cell n (All-head (λ m. m < 2 ^ 31) n s h)) (extent_cells s (All-tail (λ m. m < 2 ^ 31) n s h))
