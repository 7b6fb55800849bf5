-- Sums of the index and literal numbers.
use Rattle.std.proofs.Common.{◌≡◌, ℕ, suc, ◌*◌, Bool, true, false, List, [], ◌∷◌, map, length, replicate, Option, Some, None, Result, Ok, refl, sym, ap, subst, ◌∙◌, arith, ℤ, pos, ◌+ℤ◌, neg_ℤ, w32}
use Rattle.std.specs.Prelude.{if◌then◌else◌}
use Rattle.std.specs.List.{zip}
use Rattle.std.proofs.lemmas.Int.{int_wrap-add_left, int_wrap-add_right}
use Rattle.std.proofs.lemmas.List.{length-map, length-replicate}
use Rattle.std.proofs.lemmas.Slice.Eq.{bytes_eq-Decides}
use lib.IntN.{+ℤ_assoc, +ℤ_comm}
use Rattle.sac_base.specs.declared.base.Base.TheVariants.{Int}
use Rattle.sac_base.specs.declared.op.Op.{Op}
use Rattle.sac_base.specs.declared.op.Op.TheVariants as op
use Rattle.sac_base.specs.declared.op.ZeroDivisor.{ZeroDivisor}
use Rattle.sac_base.specs.Arrays.{ArrayValue, IsFull, scalar, vector, first_cell, same_shape, size}
use Rattle.sac_base.specs.Operators.{wrap, apply_two, all_of, with_first, with_cells, combined, binary, in_shape, common_shape, stretched, result_base}
use Rattle.core_facts.specs.Facts.{ValueIs}
use Rattle.core_facts.proofs.Shapes.{ok_same}
use Rattle.core_loops.specs.Indices.{IndexFact, Plus, Component, Other, Says, wrapped, with_signs, plus_list, signed, plus_literal}
use Rattle.std.proofs.Common.{get_or, ◌<◌}

pub length_wrapped : (v c : List ℤ) → length c ≡ length v → length (wrapped v c) ≡ length v
length_wrapped [] c h = refl
length_wrapped (x ∷ v) [] h = absurd (omega (arith, h))
length_wrapped (x ∷ v) (y ∷ c) h = ap suc (length_wrapped v c (omega (arith, h)))

-- ---- the two signs

abbrev pub sign_of : Bool → ℤ → ℤ
sign_of true z = z
sign_of false z = neg_ℤ z

abbrev pub op_of : Bool → Op
op_of true = op.Add
op_of false = op.Sub

signs_are : (sign : Bool) (zs : List ℤ) → with_signs sign zs ≡ map (sign_of sign) zs
signs_are true [] = refl
signs_are true (z ∷ zs) = λ i. z ∷ signs_are true zs i
signs_are false zs = refl

applied : (sign : Bool) (a b : ℤ) → apply_two (op_of sign) a b ≡ Ok (wrap (a +ℤ sign_of sign b))
applied true a b = refl
applied false a b = refl

is_int : (sign : Bool) → result_base (op_of sign) ≡ Int
is_int true = refl
is_int false = refl

add_wrap : (v c d : ℤ) → wrap (wrap (v +ℤ c) +ℤ d) ≡ wrap (v +ℤ wrap (c +ℤ d))
add_wrap v c d = int_wrap-add_left w32 (v +ℤ c) d ∙ ap wrap (+ℤ_assoc v c d) ∙ sym (int_wrap-add_right w32 v (c +ℤ d))

summed : (sign : Bool) (own c ys : List ℤ) → length c ≡ length own → length ys ≡ length c → combined (op_of sign) (wrapped own c) ys ≡ Ok (wrapped own (wrapped c (map (sign_of sign) ys)))
summed sign [] c ys h k = refl
summed sign (v ∷ own) [] ys h k = absurd (omega (arith, h))
summed sign (v ∷ own) (d ∷ c) [] h k = absurd (omega (arith, k))
summed sign (v ∷ own) (d ∷ c) (y ∷ ys) h k =
    (λ i. all_of (applied sign (wrap (v +ℤ d)) y i ∷ map (λ (p : ℤ × ℤ). apply_two (op_of sign) p.0 p.1) (zip (wrapped own c) ys)))
    ∙ (λ i. with_first (wrap (wrap (v +ℤ d) +ℤ sign_of sign y)) (summed sign own c ys (omega (arith, h)) (omega (arith, k)) i))
    ∙ (λ i. Ok (add_wrap v d (sign_of sign y) i ∷ wrapped own (wrapped c (map (sign_of sign) ys))))

-- ---- rows and scalars

same_row : (n : ℕ) → common_shape (n ∷ []) (n ∷ []) ≡ Some (n ∷ [])
same_row n = λ i. if (bytes_eq-Decides (n ∷ []) (n ∷ [])).1 refl i then Some (n ∷ []) else None

row_scalar : (o : Op) (xs : List ℤ) (l : ArrayValue) → l.shape ≡ [] → binary o (vector Int xs) l ≡ with_cells o (length xs ∷ []) (combined o xs (replicate (length xs) (first_cell l.cells)))
row_scalar o xs l p =
    (λ i. binary o (vector Int xs) (record { base = l.base; shape = p i; cells = l.cells }))
    ∙ (λ i. with_cells o (length xs ∷ []) (combined o xs (replicate (times_one (length xs) i) (first_cell l.cells))))
  where
    times_one : (n : ℕ) → n * 1 ≡ n
    times_one n = omega arith

row_vector : (o : Op) (xs : List ℤ) (l : ArrayValue) → l.shape ≡ length xs ∷ [] → binary o (vector Int xs) l ≡ with_cells o (length xs ∷ []) (combined o xs l.cells)
row_vector o xs l p =
    (λ i. binary o (vector Int xs) (record { base = l.base; shape = p i; cells = l.cells }))
    ∙ (λ i. in_shape o (same_row (length xs) i) (vector Int xs) (record { base = l.base; shape = length xs ∷ []; cells = l.cells }))

-- the index plus c plus a row of numbers
plus_row : (sign : Bool) (own c ds : List ℤ) (v : ArrayValue) → length c ≡ length own → length ds ≡ length c → with_cells (op_of sign) (length (wrapped own c) ∷ []) (combined (op_of sign) (wrapped own c) ds) ≡ Ok v → Says own (Plus (wrapped c (with_signs sign ds))) v
plus_row sign own c ds v h k p =
    let zs = map (sign_of sign) ds in
    let long : length zs ≡ length c = length-map ds (sign_of sign) ∙ k in
    let cs = wrapped c zs in
    let width : length cs ≡ length own = length_wrapped c zs long ∙ h in
    let value : v ≡ record { base = result_base (op_of sign); shape = length (wrapped own c) ∷ []; cells = wrapped own cs } = sym (ok_same _ v (sym (λ i. with_cells (op_of sign) (length (wrapped own c) ∷ []) (summed sign own c ds h k i)) ∙ p)) in
    subst (λ us. Says own (Plus (wrapped c us)) v) (sym (signs_are sign ds))
    (width, value ∙ (λ i. record { base = is_int sign i; shape = (length_wrapped own c h ∙ sym (length_wrapped own cs width)) i ∷ []; cells = wrapped own cs }))

plus_scalar : (sign : Bool) (own : List ℤ) (k : ℕ) (d : ℤ) (l v : ArrayValue) → k < length own → l.shape ≡ [] → binary (op_of sign) (scalar Int (wrap (get_or own k (pos 0) +ℤ d))) l ≡ Ok v → Says own (Component k (wrap (d +ℤ first_cell (with_signs sign l.cells)))) v
plus_scalar sign own k d l v lt p q =
    let z = wrap (get_or own k (pos 0) +ℤ d) in
    let y = first_cell l.cells in
    let made : binary (op_of sign) (scalar Int z) l ≡ Ok (record { base = result_base (op_of sign); shape = []; cells = wrap (z +ℤ sign_of sign y) ∷ [] }) =
    (λ i. binary (op_of sign) (scalar Int z) (record { base = l.base; shape = p i; cells = l.cells }))
    ∙ (λ i. with_cells (op_of sign) [] (all_of (applied sign z y i ∷ []))) in
    let value : v ≡ record { base = result_base (op_of sign); shape = []; cells = wrap (z +ℤ sign_of sign y) ∷ [] } = sym (ok_same _ v (sym made ∙ q)) in
    (lt, value ∙ (λ i. record { base = is_int sign i; shape = []; cells = (add_wrap (get_or own k (pos 0)) d (sign_of sign y) ∙ ap (λ t. wrap (get_or own k (pos 0) +ℤ wrap (d +ℤ t))) (first sign l.cells)) i ∷ [] }))
  where
    first : (sign : Bool) (zs : List ℤ) → sign_of sign (first_cell zs) ≡ first_cell (with_signs sign zs)
    first true zs = refl
    first false [] = refl
    first false (z ∷ zs) = refl

shape_is : (s t : List ℕ) → same_shape s t ≡ true → s ≡ t
shape_is s t h = (bytes_eq-Decides s t).0 h

pub plus_sound : (sign : Bool) (own : List ℤ) (f : IndexFact) (o : Option ArrayValue) (a b v : ArrayValue) → Says own f a → ValueIs o b → IsFull b → binary (op_of sign) a b ≡ Ok v → Says own (plus_literal sign f o) v
plus_sound sign own (Plus c) None a b v s h full p = tt
plus_sound sign own (Component k d) None a b v s h full p = tt
plus_sound sign own Other None a b v s h full p = tt
plus_sound sign own Other (Some l) a b v s h full p = tt
plus_sound sign own (Component k d) (Some l) a b v s h full p = go (same_shape l.shape []) refl
  where
    go : (t : Bool) → same_shape l.shape [] ≡ t → Says own (if t then Component k (wrap (d +ℤ first_cell (with_signs sign l.cells))) else Other) v
    go true e = plus_scalar sign own k d l v s.0 (shape_is l.shape [] e) (sym (λ i. binary (op_of sign) (s.1 i) (h i)) ∙ p)
    go false e = tt
plus_sound sign own (Plus c) (Some l) a b v s h full p = go (same_shape l.shape []) refl (same_shape l.shape (length c ∷ [])) refl
  where
    xs : List ℤ
    xs = wrapped own c

    here : binary (op_of sign) (vector Int (wrapped own c)) l ≡ Ok v
    here = sym (λ i. binary (op_of sign) (s.1 i) (h i)) ∙ p

    wide : length (wrapped own c) ≡ length c
    wide = length_wrapped own c s.0 ∙ sym s.0

    count : (n : ℕ) → n * 1 ≡ n
    count n = omega arith

    go : (t : Bool) → same_shape l.shape [] ≡ t → (u : Bool) → same_shape l.shape (length c ∷ []) ≡ u
        → Says own (plus_list c (signed sign (if t then Some (replicate (length c) (first_cell l.cells)) else (if u then Some l.cells else None)))) v
    go true e u f =
        plus_row sign own c (replicate (length c) (first_cell l.cells)) v s.0 (length-replicate (length c) (first_cell l.cells))
        (sym (row_scalar (op_of sign) (wrapped own c) l (shape_is l.shape [] e) ∙ (λ i. with_cells (op_of sign) (length (wrapped own c) ∷ []) (combined (op_of sign) (wrapped own c) (replicate (wide i) (first_cell l.cells))))) ∙ here)
    go false e true f =
        let sh = shape_is l.shape (length c ∷ []) f in
        let long : length l.cells ≡ length c = (λ i. length (sym h i).cells) ∙ full ∙ (λ i. size (h i).shape) ∙ ap size sh ∙ count (length c) in
        plus_row sign own c l.cells v s.0 long (sym (row_vector (op_of sign) (wrapped own c) l (sh ∙ (λ i. sym wide i ∷ []))) ∙ here)
    go false e false f = tt

-- ---- the order of two operands

zip_swap : (f : ℤ → ℤ → Result ℤ ZeroDivisor) → ((a b : ℤ) → f a b ≡ f b a) → (xs ys : List ℤ) → map (λ (p : ℤ × ℤ). f p.0 p.1) (zip xs ys) ≡ map (λ (p : ℤ × ℤ). f p.0 p.1) (zip ys xs)
zip_swap f h [] [] = refl
zip_swap f h [] (y ∷ ys) = refl
zip_swap f h (x ∷ xs) [] = refl
zip_swap f h (x ∷ xs) (y ∷ ys) = λ i. h x y i ∷ zip_swap f h xs ys i

common_swap : (s t : List ℕ) → common_shape s t ≡ common_shape t s
common_swap [] [] = refl
common_swap [] (n ∷ ns) = refl
common_swap (m ∷ ms) [] = refl
common_swap (m ∷ ms) (n ∷ ns) = go (same_shape (m ∷ ms) (n ∷ ns)) refl (same_shape (n ∷ ns) (m ∷ ms)) refl
  where
    differ : (b : Bool) (A : Type 0) → b ≡ true → b ≡ false → A
    differ b A p q = absurd (let z = sym p ∙ q in cc)

    go : (b : Bool) → same_shape (m ∷ ms) (n ∷ ns) ≡ b → (c : Bool) → same_shape (n ∷ ns) (m ∷ ms) ≡ c → (if b then Some (m ∷ ms) else None) ≡ (if c then Some (n ∷ ns) else None)
    go true e true f = ap (λ s. Some s) (shape_is (m ∷ ms) (n ∷ ns) e)
    go true e false f = differ (same_shape (n ∷ ns) (m ∷ ms)) _ ((bytes_eq-Decides (n ∷ ns) (m ∷ ms)).1 (sym (shape_is (m ∷ ms) (n ∷ ns) e))) f
    go false e true f = differ (same_shape (m ∷ ms) (n ∷ ns)) _ ((bytes_eq-Decides (m ∷ ms) (n ∷ ns)).1 (sym (shape_is (n ∷ ns) (m ∷ ms) f))) e
    go false e false f = refl

pub add_swap : (a b : ArrayValue) → binary op.Add a b ≡ binary op.Add b a
add_swap a b = go (common_shape a.shape b.shape) ∙ ap (λ m. in_shape op.Add m b a) (common_swap a.shape b.shape)
  where
    go : (m : Option (List ℕ)) → in_shape op.Add m a b ≡ in_shape op.Add m b a
    go None = refl
    go (Some s) = ap (λ rs. with_cells op.Add s (all_of rs)) (zip_swap (apply_two op.Add) (λ x y. ap (λ z. Ok (wrap z)) (+ℤ_comm x y)) (stretched (size s) a.shape a.cells) (stretched (size s) b.shape b.cells))
