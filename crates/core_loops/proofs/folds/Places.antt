-- The place of an index in its frame.
use Rattle.std.proofs.Common.{◌≡◌, ℕ, suc, ◌+◌, ◌*◌, ◌/◌, ◌%◌, ◌<◌, List, [], ◌∷◌, get_or, map, Bool, true, false, refl, sym, ap, ◌∙◌, arith, ℤ, pos, negsuc, ◌+ℤ◌, ◌-ℤ◌, ◌≤ℤ◌, ◌<ℤ◌, All, inl, inr}
use Rattle.std.specs.Prelude.{◌&&◌}
use Rattle.std.proofs.lemmas.Int.{ints}
use Rattle.std.proofs.lemmas.Nat.{div-mul-add, mod-mul-add}
use Rattle.std.proofs.lemmas.List.Elements.{All-head, All-tail}
use Rattle.std.proofs.Math.Nat.{mul-le-mul_right}
use Rattle.sac_base.specs.declared.grid.Grid1.{Grid1}
use Rattle.sac_base.specs.Arrays.{size}
use Rattle.sac_base.specs.Grids.{has_index, has_vector, members}
use Rattle.sac_base.specs.Places.{vector_at}
use Rattle.sac_base.specs.WithLoops.{span_of, box, shape_spans, distance}
use Rattle.sac_base.proofs.GridFacts.{has_facts}
use Rattle.core_ir.specs.Meaning.{extents}
use Rattle.array_with_loops.specs.GridFrames.{box_range}
use Rattle.array_with_loops.proofs.FrameSteps.{length-box, box_at, vector_in}
use Rattle.array_with_loops.proofs.CellSteps.{length_indices}
use Rattle.array_with_loops.proofs.GridSteps.{members_box}
use Rattle.core_loops.specs.folds.Cells.{IsBox}

abbrev Zero : Grid1 → Type 0
Zero axis = axis.lo ≡ pos 0

from_zero : (g : List Grid1) → All Zero g → map span_of (box_range g) ≡ shape_spans (extents g)
from_zero [] z = refl
from_zero (a ∷ g) z = λ i. record { low = All-head Zero a g z i; extent = distance (a.hi -ℤ a.lo) } ∷ from_zero g (All-tail Zero a g z) i

-- the members of the frame are the indices of its extents
pub members_are : (g : List Grid1) → IsBox g → members g ≡ box (shape_spans (extents g))
members_are g b = members_box g b.dense ∙ ap box (from_zero g b.low)

vector_in_shape : (ns : List ℕ) (p : ℕ) → vector_in (shape_spans ns) p ≡ vector_at ns p
vector_in_shape [] p = refl
vector_in_shape (n ∷ ns) p =
    let s = sym (length-box (shape_spans ns)) ∙ length_indices ns in
    ap (λ m. (pos 0 +ℤ pos (p / m)) ∷ vector_in (shape_spans ns) (p % m)) s
    ∙ ap (λ x. pos x ∷ vector_in (shape_spans ns) (p % size ns)) zeroed
    ∙ ap (λ vs. pos (p / size ns) ∷ vs) (vector_in_shape ns (p % size ns))
  where
    zeroed : 0 + p / size ns ≡ p / size ns
    zeroed = omega arith

pub index_of_place : (ns : List ℕ) (p : ℕ) (d : List ℤ) → p < size ns → get_or (box (shape_spans ns)) p d ≡ vector_at ns p
index_of_place ns p d h = box_at (shape_spans ns) p d (omega (arith, h, length-box (shape_spans ns), length_indices ns)) ∙ vector_in_shape ns p

number : (a : Grid1) (x : ℤ) → a.lo ≡ pos 0 → has_index a x ≡ true → (i : ℕ) × (x ≡ pos i) × (i < distance (a.hi -ℤ a.lo))
number a x z h = elim (has_facts a x a.wide) [
  | inl y ↦ go x a.hi (a.hi -ℤ a.lo) refl z y.0 y.1
  | inr n ↦ absurd (let e : true ≡ false = sym h ∙ n.1 in cc)
]
  where
    go : (x hi d : ℤ) → hi -ℤ a.lo ≡ d → a.lo ≡ pos 0 → a.lo ≤ℤ x → x <ℤ hi → (i : ℕ) × (x ≡ pos i) × (i < distance d)
    go (pos i) hi (pos d) e z p q = (i, refl, omega (arith, ints))
    go (pos i) hi (negsuc d) e z p q = absurd (omega (arith, ints))
    go (negsuc i) hi d e z p q = absurd (omega (arith, ints))

left : (b c : Bool) → (b && c) ≡ true → (b ≡ true) × (c ≡ true)
left true c h = (refl, h)
left false c h = absurd (cc)

-- each index of the frame has a place
pub place_found : (g : List Grid1) (v : List ℤ) → All Zero g → has_vector g v ≡ true → (p : ℕ) × (p < size (extents g)) × (vector_at (extents g) p ≡ v)
place_found [] [] z h = (0, omega arith, refl)
place_found [] (x ∷ v) z h = absurd (cc)
place_found (a ∷ g) [] z h = absurd (cc)
place_found (a ∷ g) (x ∷ v) z h =
    let w = left (has_index a x) (has_vector g v) h in
    let i = number a x (All-head Zero a g z) w.0 in
    let q = place_found g v (All-tail Zero a g z) w.1 in
    let S = size (extents g) in
    let n = distance (a.hi -ℤ a.lo) in (
      i.0 * S + q.0,
      omega (arith, i.2, q.1, mul-le-mul_right {m = suc i.0} {n = n} S i.2),
      ap (λ k. pos k ∷ vector_at (extents g) ((i.0 * S + q.0) % S)) (div-mul-add i.0 S q.0 q.1) ∙ ap (λ k. pos i.0 ∷ vector_at (extents g) k) (mod-mul-add i.0 S q.0 q.1) ∙ (λ j. sym i.1 j ∷ q.2 j),
    )
