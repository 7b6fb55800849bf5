-- The indices of a frame in order, and the element that each selects.
use Rattle.std.proofs.Common.{◌≡◌, ℕ, zero, suc, ◌+◌, ◌*◌, ◌<◌, true, List, [], ◌∷◌, ◌++◌, map, length, get_or, take, drop, All, refl, sym, ap, subst, ◌∙◌, arith, ℤ, Some, Ok}
use Rattle.std.proofs.lemmas.List.{append-nil}
use Rattle.std.proofs.lemmas.List.Elements.{All-get_or, filter_passes}
use Rattle.std.proofs.Math.Seq.{take-length}
use Rattle.sac_base.specs.declared.base.Base.{Base}
use Rattle.sac_base.specs.declared.base.Base.TheVariants.{Int}
use Rattle.sac_base.specs.declared.grid.Grid1.{Grid1}
use Rattle.sac_base.specs.Arrays.{size, vector}
use Rattle.sac_base.specs.Grids.{has_vector, members, box_indices}
use Rattle.sac_base.specs.Parts.{part_at, select, selected}
use Rattle.sac_base.specs.Places.{vector_at}
use Rattle.sac_base.specs.WithLoops.{box, shape_spans}
use Rattle.core_ir.specs.Meaning.{extents}
use Rattle.array_with_loops.proofs.CellSteps.{length_indices, part_at_front}
use Rattle.core_loops.specs.folds.Cells.{IsBox}
use Rattle.core_loops.proofs.folds.Places.{members_are, index_of_place}
use Rattle.counted_code.specs.Loops.{written_at}

-- ---- the indices

-- these are the indices of the shape from a place on
abbrev pub From : List ℕ → ℕ → List (List ℤ) → Type 0
From ns p [] = Unit {0}
From ns p (v ∷ vs) = (p < size ns) × (v ≡ vector_at ns p) × From ns (suc p) vs

from_each : (ns : List ℕ) (vs : List (List ℤ)) (p : ℕ) → ((i q : ℕ) → q ≡ p + i → i < length vs → (q < size ns) × (get_or vs i [] ≡ vector_at ns q)) → From ns p vs
from_each ns [] p h = tt
from_each ns (v ∷ vs) p h =
    let here = h 0 p (omega arith) (omega arith) in
    (here.0, here.1, from_each ns vs (suc p) (λ i q e lt. h (suc i) q (omega (arith, e)) (omega (arith, lt))))

-- the members of a frame are all of them
pub frame_from : (frame : List Grid1) → IsBox frame → From (extents frame) 0 (members frame)
frame_from frame box_frame =
    let ns = extents frame in
    subst (From ns 0) (sym (members_are frame box_frame))
    (from_each ns (box (shape_spans ns)) 0
    (λ i q e lt.
    (let below : i < size ns = omega (arith, lt, length_indices ns) in
    let same : i ≡ q = omega (arith, e) in
    (omega (arith, below, same), index_of_place ns i [] below ∙ ap (vector_at ns) same))))

-- the index of each place of a frame is one of the frame
pub place_inside : (frame : List Grid1) → IsBox frame → (p : ℕ) → p < size (extents frame) → has_vector frame (vector_at (extents frame) p) ≡ true
place_inside frame box_frame p lt =
    let ns = extents frame in
    let Inside : List ℤ → Type 0 = λ v. has_vector frame v ≡ true in
    let all : All Inside (members frame) = filter_passes (has_vector frame) (box_indices (map (λ (axis : Grid1). axis.lo) frame) (map (λ (axis : Grid1). axis.hi) frame)) in
    subst Inside (index_of_place ns p [] lt)
    (All-get_or Inside (box (shape_spans ns)) p [] (omega (arith, lt, length_indices ns)) (subst (All Inside) (members_are frame box_frame) all))

-- a frame has as many indices as its extents say
pub frame_size : (frame : List Grid1) → IsBox frame → length (members frame) ≡ size (extents frame)
frame_size frame box_frame = ap length (members_are frame box_frame) ∙ length_indices (extents frame)

-- ---- the elements

-- a selection at the index of a place reads what stands at that place
pub own_element : (base : Base) (ns : List ℕ) (p : ℕ) (v xs ys : _) → p < size ns → v ≡ vector_at ns p → take 1 (drop p xs) ≡ take 1 (drop p ys)
    → select (record { base = base; shape = ns; cells = xs }) (vector Int v) ≡ select (record { base = base; shape = ns; cells = ys }) (vector Int v)
own_element base ns p v xs ys lt is same =
    (λ i. selected (record { base = base; shape = ns; cells = xs }) (there i)) ∙ (λ i. Ok (record { base = base; shape = []; cells = cell i })) ∙ sym (λ i. selected (record { base = base; shape = ns; cells = ys }) (there i))
  where
    there : part_at ns v ≡ Some (record { start = p * size []; shape = [] })
    there = ap (part_at ns) is ∙ ap (λ ms. part_at ms (vector_at ns p)) (sym (append-nil ns)) ∙ part_at_front ns [] p lt

    once : p * size [] ≡ p
    once = omega arith

    cell : take 1 (drop (p * size []) xs) ≡ take 1 (drop (p * size []) ys)
    cell = ap (λ k. take 1 (drop k xs)) once ∙ same ∙ sym (ap (λ k. take 1 (drop k ys)) once)

-- ---- writing

drop_one : (p : ℕ) (xs : List ℤ) → drop 1 (drop p xs) ≡ drop (suc p) xs
drop_one zero xs = refl
drop_one (suc p) [] = refl
drop_one (suc p) (x ∷ xs) = drop_one p xs

-- lists that are the same from a place on are so from the next one on
pub same_later : (p : ℕ) (xs ys : List ℤ) → drop p xs ≡ drop p ys → drop (suc p) xs ≡ drop (suc p) ys
same_later p xs ys same = sym (drop_one p xs) ∙ ap (drop 1) same ∙ drop_one p ys

one_written : (p : ℕ) (x : ℤ) (ws : List ℤ) → written_at (p * 1) (x ∷ []) ws ≡ take p ws ++ (x ∷ drop (suc p) ws)
one_written p x ws = λ i. take (start i) ws ++ (x ∷ drop (next i) ws)
  where
    start : p * 1 ≡ p
    start = omega arith

    next : p * 1 + 1 ≡ suc p
    next = omega arith

written_before : (p : ℕ) (x : ℤ) (ws : List ℤ) → drop (suc p) (take p ws ++ (x ∷ drop (suc p) ws)) ≡ drop (suc p) ws
written_before zero x ws = refl
written_before (suc p) x [] = refl
written_before (suc p) x (w ∷ ws) = written_before p x ws

no_number : {n : ℕ} → suc n ≡ 0 → ⊥
no_number p = omega (arith, p)

-- one element that is written leaves those behind it
pub written_left : (p : ℕ) (cs ws : List ℤ) → length cs ≡ 1 → drop (suc p) (written_at (p * length cs) cs ws) ≡ drop (suc p) ws
written_left p [] ws one = absurd (no_number (sym one))
written_left p (x ∷ (y ∷ cs)) ws one = absurd (no_number {n = length cs} (omega (arith, one)))
written_left p (x ∷ []) ws one = ap (drop (suc p)) (one_written p x ws) ∙ written_before p x ws

taken_next : (p : ℕ) (x : ℤ) (ws : List ℤ) → p < length ws → take (suc p) (take p ws ++ (x ∷ drop (suc p) ws)) ≡ take p ws ++ (x ∷ [])
taken_next zero x [] lt = absurd (omega (arith, lt))
taken_next zero x (w ∷ ws) lt = refl
taken_next (suc p) x [] lt = absurd (omega (arith, lt))
taken_next (suc p) x (w ∷ ws) lt = ap (λ zs. w ∷ zs) (taken_next p x ws (omega (arith, lt)))

same_size : (p : ℕ) (x : ℤ) (ws : List ℤ) → p < length ws → length (take p ws ++ (x ∷ drop (suc p) ws)) ≡ length ws
same_size zero x [] lt = absurd (omega (arith, lt))
same_size zero x (w ∷ ws) lt = refl
same_size (suc p) x [] lt = absurd (omega (arith, lt))
same_size (suc p) x (w ∷ ws) lt = ap suc (same_size p x ws (omega (arith, lt)))

-- one element that is written stands behind those before it, and the list is as long as before
pub written_next : (p : ℕ) (cs ws : List ℤ) → length cs ≡ 1 → p < length ws
    → (take (suc p) (written_at (p * length cs) cs ws) ≡ take p ws ++ cs) × (length (written_at (p * length cs) cs ws) ≡ length ws)
written_next p [] ws one lt = absurd (no_number (sym one))
written_next p (x ∷ (y ∷ cs)) ws one lt = absurd (no_number {n = length cs} (omega (arith, one)))
written_next p (x ∷ []) ws one lt =
    let whole = one_written p x ws in (ap (take (suc p)) whole ∙ taken_next p x ws lt, ap length whole ∙ same_size p x ws lt)

-- all that stands there was written
pub all_written : (p : ℕ) (ws : List ℤ) → length ws ≡ p + 0 → ws ≡ take p ws ++ []
all_written p ws long =
    let all : length ws ≡ p = omega (arith, long) in sym (append-nil (take p ws) ∙ ap (λ n. take n ws) (sym all) ∙ take-length ws)
