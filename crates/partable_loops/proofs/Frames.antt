-- Frames of a core: few axes without gaps, whose numbers have 32 bits.
use Rattle.std.proofs.Common.{◌≡◌, ◌≤◌, ◌<◌, ◌^◌, ◌+◌, ℕ, zero, suc, take, get_or, List, [], ◌∷◌, ◌++◌, map, length, All, FitsSigned, w32, Bool, true, false, ◌&&◌, refl, sym, ap, subst, ◌∙◌, arith, true≢false, inl, inr, ℤ, pos, negsuc, ◌≤ℤ◌, ◌<ℤ◌}
use Rattle.std.proofs.lemmas.Int.{ints}
use Rattle.std.proofs.lemmas.List.{length-append, length-map, map-append}
use Rattle.std.proofs.lemmas.List.Elements.{All-cons, All-nil, All-head, All-tail, All-append}
use Rattle.sac_base.specs.declared.grid.Grid1.{Grid1}
use Rattle.sac_base.specs.Arrays.{size, MOST}
use Rattle.sac_base.specs.Grids.{has_index, has_vector}
use Rattle.sac_base.specs.Shapes.{IsExtent, IsShape}
use Rattle.sac_base.specs.WithLoops.{Axis, Span, box_size, shape_spans}
use Rattle.sac_base.proofs.GridFacts.{has_facts}
use Rattle.array_with_loops.specs.Ranges.{IsAxis}
use Rattle.core_ir.specs.Meaning.{extents}
use Rattle.core_ir.specs.WellFormed.{IsFrame, IsResultFrame}
use Rattle.core_loops.specs.Loops.{axis_of, grid_range, spanned}
use Rattle.partable_loops.specs.Framings.{IsWordAxis}
use Rattle.partable_loops.proofs.Boxes.{extents_are, filled_axis, is_dense, shape_extents}
use Rattle.partable_loops.proofs.Numbers.{same_head, same_tail}

-- ---- numbers of 32 bits

fits : (x l u : ℤ) → negsuc 2147483647 ≤ℤ l → u ≤ℤ pos 2147483648 → l ≤ℤ x → x <ℤ u → FitsSigned w32 x
fits (pos n) l u a b c d = record { sfits = omega (arith, ints, b, d) }
fits (negsuc n) l u a b c d = record { sfits = omega (arith, ints, a, c) }

word : (a : Grid1) → IsWordAxis a → (x : ℤ) → has_index a x ≡ true → FitsSigned w32 x
word a h x e = elim (has_facts a x a.wide) [
  | inl y ↦ fits x a.lo a.hi h.least h.most y.0 y.1
  | inr n ↦ absurd (true≢false (sym e ∙ n.1))
]

both_true : (a b : Bool) → (a && b) ≡ true → (a ≡ true) × (b ≡ true)
both_true true b e = (refl, e)
both_true false b e = absurd (true≢false (sym e))

words : (g : List Grid1) → All IsWordAxis g → (v : List ℤ) → has_vector g v ≡ true → All (FitsSigned w32) v
words [] h [] e = All-nil (FitsSigned w32)
words [] h (x ∷ v) e = absurd (true≢false (sym e))
words (a ∷ g) h [] e = absurd (true≢false (sym e))
words (a ∷ g) h (x ∷ v) e =
    let parts = both_true (has_index a x) (has_vector g v) e in
    All-cons (FitsSigned w32) x v (word a (All-head IsWordAxis a g h) x parts.0) (words g (All-tail IsWordAxis a g h) v parts.1)

-- one axis more
pub words_more : (g h : List Grid1) (a : Grid1) → All IsWordAxis g → h ≡ g ++ (a ∷ []) → IsWordAxis a → All IsWordAxis h
words_more g h a w e one = subst (All IsWordAxis) (sym e) (All-append IsWordAxis g (a ∷ []) w (All-cons IsWordAxis a [] one (All-nil IsWordAxis)))

take_more : (items : List Axis) (i : ℕ) (a d : Axis) → i < length items → a ≡ get_or items i d → take (suc i) items ≡ take i items ++ (a ∷ [])
take_more [] i a d h e = absurd (omega (arith, h))
take_more (x ∷ items) zero a d h e = λ k. sym e k ∷ []
take_more (x ∷ items) (suc i) a d h e = ap (λ l. x ∷ l) (take_more items i a d (omega (arith, h)) e)

pub axes_more : (g h : List Grid1) (items : List Axis) (i : ℕ) (a : Grid1) (x : Axis) → i < length items → x ≡ get_or items i x → map axis_of g ≡ map filled_axis (take i items) → h ≡ g ++ (a ∷ []) → axis_of a ≡ filled_axis x → map axis_of h ≡ map filled_axis (take (i + 1) items)
axes_more g h items i a x l is made e one =
    let next : suc i ≡ i + 1 = omega arith in
    ap (map axis_of) e ∙ map-append axis_of g (a ∷ []) ∙ (λ k. made k ++ (one k ∷ [])) ∙ sym (map-append filled_axis (take i items) (x ∷ []))
    ∙ ap (map filled_axis) (sym (take_more items i x x l is)) ∙ (λ k. map filled_axis (take (next k) items))

pub one_longer : (g h : List Grid1) (i : ℕ) (a : Grid1) → length g ≡ i → h ≡ g ++ (a ∷ []) → length h ≡ i + 1
one_longer g h i a l e = ap length e ∙ length-append g (a ∷ []) ∙ ap (λ n. n + 1) l

-- an axis with the bounds of a range's component
pub word_axis : (a : Axis) (g : Grid1) → IsAxis a → g.lo ≡ a.lower → g.hi ≡ a.upper → IsWordAxis g
word_axis a g is lo hi = record {
  least = subst (λ z. negsuc 2147483647 ≤ℤ z) (sym lo) is.lower.least;
  most = subst (λ z. z ≤ℤ pos 2147483648) (sym hi) is.upper.most;
}

pub zero_axis : (g : Grid1) → g.lo ≡ pos 0 → g.hi ≡ pos 0 → IsWordAxis g
zero_axis g lo hi = record {
  least = subst (λ z. negsuc 2147483647 ≤ℤ z) (sym lo) (omega (arith, ints));
  most = subst (λ z. z ≤ℤ pos 2147483648) (sym hi) (omega (arith, ints));
}

-- ---- a frame of spans

pub span_frame : (g : List Grid1) (ss : List Span) → grid_range g ≡ map spanned ss → length g ≤ 8 → All IsWordAxis g → box_size ss ≤ MOST → IsFrame g
span_frame g ss e few w most = record {
  rank = few;
  dense = is_dense g ss e;
  most = subst (λ ns. size ns ≤ MOST) (sym (extents_are g ss e)) most;
  words = words g w;
}

-- ---- a frame of a shape

abbrev below : ℕ → Span
below n = record { low = pos 0; extent = n }

low_is : (a : Grid1) (n : ℕ) → axis_of a ≡ spanned (below n) → a.lo ≡ pos 0
low_is a n e = ap (λ (x : Axis). x.lower) e

high_is : (a : Grid1) (n : ℕ) → axis_of a ≡ spanned (below n) → a.hi ≡ pos n
high_is a n e = ap (λ (x : Axis). x.upper) e ∙ omega (arith, ints)

shape_word : (a : Grid1) (n : ℕ) → axis_of a ≡ spanned (below n) → n < 2 ^ 31 → IsWordAxis a
shape_word a n e l = record {
  least = subst (λ z. negsuc 2147483647 ≤ℤ z) (sym (low_is a n e)) (omega (arith, ints));
  most = subst (λ z. z ≤ℤ pos 2147483648) (sym (high_is a n e)) (omega (arith, ints, l));
}

abbrev Small : ℕ → Type 0
Small n = n < 2 ^ 31

shape_words : (g : List Grid1) (ns : List ℕ) → grid_range g ≡ map spanned (shape_spans ns) → All Small ns → All IsWordAxis g
shape_words [] ns e h = All-nil IsWordAxis
shape_words (a ∷ g) [] e h = cc
shape_words (a ∷ g) (n ∷ ns) e h =
    All-cons IsWordAxis a g (shape_word a n (same_head (axis_of a) (spanned (below n)) (grid_range g) (map spanned (shape_spans ns)) e) (All-head Small n ns h))
    (shape_words g ns (same_tail (axis_of a) (spanned (below n)) (grid_range g) (map spanned (shape_spans ns)) e) (All-tail Small n ns h))

abbrev Low : Grid1 → Type 0
Low a = a.lo ≡ pos 0

abbrev High : Grid1 → Type 0
High a = IsExtent a.hi

lows : (g : List Grid1) (ns : List ℕ) → grid_range g ≡ map spanned (shape_spans ns) → All Low g
lows [] ns e = All-nil Low
lows (a ∷ g) [] e = cc
lows (a ∷ g) (n ∷ ns) e =
    All-cons Low a g (low_is a n (same_head (axis_of a) (spanned (below n)) (grid_range g) (map spanned (shape_spans ns)) e))
    (lows g ns (same_tail (axis_of a) (spanned (below n)) (grid_range g) (map spanned (shape_spans ns)) e))

highs : (g : List Grid1) (ns : List ℕ) → grid_range g ≡ map spanned (shape_spans ns) → All Small ns → All High g
highs [] ns e h = All-nil High
highs (a ∷ g) [] e h = cc
highs (a ∷ g) (n ∷ ns) e h =
    All-cons High a g (subst IsExtent (sym (high_is a n (same_head (axis_of a) (spanned (below n)) (grid_range g) (map spanned (shape_spans ns)) e))) (All-head Small n ns h))
    (highs g ns (same_tail (axis_of a) (spanned (below n)) (grid_range g) (map spanned (shape_spans ns)) e) (All-tail Small n ns h))

same_length : (g : List Grid1) (ns : List ℕ) → grid_range g ≡ map spanned (shape_spans ns) → length g ≡ length ns
same_length g ns e = sym (length-map g _) ∙ ap length e ∙ length-map (shape_spans ns) _ ∙ length-map ns _

pub shape_frame : (g : List Grid1) (ns : List ℕ) → grid_range g ≡ map spanned (shape_spans ns) → IsShape ns → size ns ≤ MOST → IsFrame g
shape_frame g ns e h most =
    let few : length g ≤ 8 = subst (λ n. n ≤ 8) (sym (same_length g ns e)) h.rank in
    span_frame g (shape_spans ns) e few (shape_words g ns e h.each) (subst (λ m. size m ≤ MOST) (sym (shape_extents ns)) most)

pub shape_result : (g : List Grid1) (ns cell : List ℕ) → grid_range g ≡ map spanned (shape_spans ns) → IsShape ns → IsShape (ns ++ cell) → size (ns ++ cell) ≤ MOST → IsResultFrame g cell
shape_result g ns cell e h whole most =
    let same : ns ≡ extents g = sym (extents_are g (shape_spans ns) e ∙ shape_extents ns) in
    record {
      low = lows g ns e;
      high = highs g ns e h.each;
      shape = subst (λ m. IsShape (m ++ cell)) same whole;
      most = subst (λ m. size (m ++ cell) ≤ MOST) same most;
    }
