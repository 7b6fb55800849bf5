-- Pieces that are kept by their first vectors.
use Rattle.std.proofs.Common.{◌≡◌, ℕ, inl, inr, arith, refl, sym, ap, subst, ◌∙◌, List, [], ◌∷◌, ◌++◌, append_assoc, pos}
use Rattle.std.specs.Prelude.{ℤ, ◌-ℤ◌, unsigned_abs, Bool, true, false, ◌&&◌, cond, filter, map, position, slice_index_or, Option}
use Rattle.std.specs.List.{All}
use Rattle.std.proofs.lemmas.Int.{ints}
use Rattle.std.proofs.lemmas.Bool.{lt-ltb, cases_Bool}
use Rattle.std.proofs.lemmas.Nat.{mod_below}
use Rattle.std.proofs.lemmas.List.Elements.{All-head, All-tail, All-map}
use Rattle.sac_base.specs.declared.grid.Grid1.{Grid1}
use Rattle.sac_base.specs.Grids.{has_index, has_vector, within, times_vector, SplitsVectors}
use Rattle.sac_base.proofs.GridFacts.{has_facts, within_is}
use Rattle.grid_sets.proofs.Keeping.{count_filter}
use Rattle.generator_sets.specs.Pieces.{in_box, lows, IsUniformVector}
use Rattle.generator_sets.specs.Unions.{NamesFirst}
use Rattle.generator_sets.proofs.Uniformity.{same_position}

and_false : (s t : Bool) → s ≡ false → (s && t) ≡ false
and_false s t e = rw e refl

outside : (g : Grid1) (x : ℤ) → within g.lo g.hi x ≡ false → has_index g x ≡ false
unfolding has_index
outside g x e = and_false _ _ e

both_false : (s t : Bool) → t ≡ false → (s && t) ≡ false
both_false true t e = e
both_false false t e = refl

-- what is not in the box is no member
out_of_box : (gs : List Grid1) (v : List ℤ) → in_box gs v ≡ false → has_vector gs v ≡ false
out_of_box [] [] e = e
out_of_box [] (x ∷ xs) e = refl
out_of_box (g ∷ gs) [] e = refl
out_of_box (g ∷ gs) (x ∷ xs) e = elim (cases_Bool (within g.lo g.hi x)) [
  | inl on ↦ both_false _ _ (out_of_box gs xs (sym (rw on refl) ∙ e))
  | inr off ↦ and_false _ _ (outside g x off)
]

-- a set of vectors, told by whether either grid has the vector
abbrev pub picked : (Bool → Bool → Bool) → List Grid1 → List Grid1 → List ℤ → Bool
picked f a b v = f (has_vector a v) (has_vector b v)

picked_inside : (f : Bool → Bool → Bool) (a b : List Grid1) (v : List ℤ) → ((t : Bool) → f false t ≡ false)
    → let one : ℕ = 1 in let none : ℕ = 0 in cond (picked f a b v) (cond (in_box a v) one none) none ≡ cond (picked f a b v) one none
picked_inside f a b v drops = elim (cases_Bool (in_box a v)) [
  | inl on ↦ rw on refl
  | inr off ↦ let gone : picked f a b v ≡ false = ap (λ t. f t (has_vector b v)) (out_of_box a v off) ∙ drops (has_vector b v) in rw gone refl
]

pub kept_vectors : (f : Bool → Bool → Bool) (a b : List Grid1) (xs ys : List (List Grid1)) → ((t : Bool) → f false t ≡ false)
    → ys ≡ filter (λ p. picked f a b (lows p)) xs → SplitsVectors xs (in_box a) → All (IsUniformVector (a ∷ b ∷ [])) xs → SplitsVectors ys (picked f a b)
kept_vectors f a b xs ys drops e split even v =
    ap (λ l. times_vector l v) e
    ∙ count_filter (λ p. has_vector p v) (λ p. picked f a b (lows p)) (picked f a b v) xs
    (λ k d l h.
    let p : List Grid1 = slice_index_or xs k d in
    let one : has_vector a v ≡ has_vector a (lows (slice_index_or xs k d)) = even k d l 0 a (omega arith) v h in
    let two : has_vector b v ≡ has_vector b (lows (slice_index_or xs k d)) = even k d l 1 a (omega arith) v h in
    ap (λ t. f t (has_vector b (lows (slice_index_or xs k d)))) (sym one) ∙ ap (f (has_vector a v)) (sym two))
    ∙ ap (λ n. cond (picked f a b v) n 0) (split v)
    ∙ picked_inside f a b v drops

-- a frame with step 1 has all vectors of its box
dense : (g : Grid1) (x : ℤ) → g.step ≡ pos 1 → has_index g x ≡ within g.lo g.hi x
dense g x e = elim (has_facts g x g.wide) [
  | inl at ↦
      let w = g.wide in
      let s : unsigned_abs g.step ≡ 1 = ap unsigned_abs e in
      let low = mod_below (unsigned_abs (x -ℤ g.lo)) (unsigned_abs g.step) (omega arith) in
      let on : within g.lo g.hi x ≡ true = elim (within_is g.lo g.hi x) [
        | inl y ↦ y.2
        | inr off ↦ absurd (elim off.0 [ inl l ↦ omega (arith, ints, at.0) | inr h ↦ omega (arith, ints, at.1) ])
      ] in
      at.2 ∙ lt-ltb _ _ (omega (arith, ints)) ∙ sym on
  | inr off ↦ off.1 ∙ sym (elim (within_is g.lo g.hi x) [
    | inl y ↦ absurd (elim off.0 [ inl l ↦ omega (arith, ints, y.0) | inr h ↦ omega (arith, ints, y.1) ])
    | inr y ↦ y.1
  ])
]

box_is : (frame : List Grid1) (v : List ℤ) → All (λ axis. axis.step ≡ pos 1) frame → in_box frame v ≡ has_vector frame v
box_is [] [] h = refl
box_is [] (x ∷ xs) h = refl
box_is (g ∷ gs) [] h = refl
box_is (g ∷ gs) (x ∷ xs) h =
    ap (λ t. t && in_box gs xs) (sym (dense g x (All-head (λ axis. axis.step ≡ pos 1) g gs h)))
    ∙ ap (λ t. has_index g x && t) (box_is gs xs (All-tail (λ axis. axis.step ≡ pos 1) g gs h))

-- the pieces with the first generator that has their first vectors
abbrev pub labelled : List (List Grid1) → List Grid1 → List Grid1 × Option ℕ
labelled generators p = (p, position (λ g. has_vector g (lows p)) generators)

pieces_of : (generators xs : List (List Grid1)) → map (λ part. part.0) (map (labelled generators) xs) ≡ xs
pieces_of generators [] = refl
pieces_of generators (x ∷ xs) = ap (λ l. x ∷ l) (pieces_of generators xs)

pub frame_split : (frame : List Grid1) (generators xs : List (List Grid1)) (parts : List (List Grid1 × Option ℕ)) → parts ≡ map (labelled generators) xs
    → All (λ axis. axis.step ≡ pos 1) frame → SplitsVectors xs (in_box frame) → SplitsVectors (map (λ part. part.0) parts) (has_vector frame)
frame_split frame generators xs parts e unit split v =
    ap (λ l. times_vector l v) (ap (map (λ part. part.0)) e ∙ pieces_of generators xs) ∙ split v ∙ ap (λ t. cond t 1 0) (box_is frame v unit)

pub first_named : (generators xs : List (List Grid1)) (parts : List (List Grid1 × Option ℕ)) → parts ≡ map (labelled generators) xs → All (IsUniformVector generators) xs
    → All (NamesFirst generators) parts
first_named generators xs parts e even =
    subst (All (NamesFirst generators)) (sym e)
    (All-map (NamesFirst generators) (labelled generators) xs
    (λ k d l v at. sym (same_position (λ g. has_vector g v) (λ g. has_vector g (lows (slice_index_or xs k d))) generators (λ j c m. even k d l j c m v at))))

-- one more piece is labelled
pub label_more : (generators : List (List Grid1)) (parts next : List (List Grid1 × Option ℕ)) (left rest : List (List Grid1)) (piece : List Grid1) (first : Option ℕ) (whole : List (List Grid1 × Option ℕ))
    → left ≡ piece ∷ rest → first ≡ position (λ g. has_vector g (lows piece)) generators → next ≡ parts ++ (piece, first) ∷ []
    → parts ++ map (labelled generators) left ≡ whole → next ++ map (labelled generators) rest ≡ whole
label_more generators parts next left rest piece first whole e f n before =
    ap (λ l. l ++ map (labelled generators) rest) n ∙ append_assoc parts ((piece, first) ∷ []) (map (labelled generators) rest)
    ∙ ap (λ o. parts ++ (piece, o) ∷ map (labelled generators) rest) f ∙ ap (λ l. parts ++ map (labelled generators) l) (sym e) ∙ before
