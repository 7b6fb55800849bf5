-- The frame's axes, cut one after the other from the last to the first.
use Rattle.std.proofs.Common.{◌≡◌, ℕ, suc, ◌+◌, ◌*◌, ◌<◌, ◌≤◌, ◌⊎◌, inl, inr, arith, refl, sym, ap, subst, ◌∙◌, List, [], ◌∷◌, length, drop, get_or, drop-cons}
use Rattle.std.specs.Prelude.{min, slice_index_or}
use Rattle.std.specs.List.{All}
use Rattle.std.proofs.lemmas.Bool.{cases_lt}
use Rattle.std.proofs.lemmas.List.{drop_all}
use Rattle.std.proofs.lemmas.List.Elements.{All-nil, All-cons}
use Rattle.std.proofs.Math.Nat.{suc-mul}
use Rattle.sac_base.specs.declared.grid.Grid1.{Grid1}
use Rattle.sac_base.specs.Grids.{within, Splits, SplitsVectors}
use Rattle.grid_sets.specs.Segments.{IsUniform, IsAxisCount}
use Rattle.generator_sets.specs.Pieces.{in_box, axis_grids, products, IsUniformVector}
use Rattle.generator_sets.specs.Counts.{IsCanonicalCount, IsCause}
use Rattle.generator_sets.specs.declared.error.GenError.{GenError}
use Rattle.generator_sets.specs.declared.error.GenError.TheVariants.{TooMany, TooFine, Memory}
use Rattle.generator_sets.proofs.Products.{products_split, nothing_split, all_products, length_products}
use Rattle.generator_sets.proofs.Uniformity.{AxesUniform, UniformFrom, even_more, even_all}
use Rattle.generator_sets.proofs.CountFacts.{at_axis, from_axis, product_min, first_count}

-- what stands when the axes from `left` on are cut: the grids, and their number or 65 where there are more than 64
pub record CutSoFar (generators : List (List Grid1)) (frame : List Grid1) (limit left : ℕ) (grids : List (List Grid1)) (count : ℕ) : Type 0 where
  pub inside : left ≤ length frame
  pub most : count ≤ 65
  pub counted : (greatest n : ℕ) → IsCanonicalCount generators left (drop left frame) greatest n → (greatest ≤ limit) × (min n 65 ≡ count)
  pub split : count ≤ 64 → SplitsVectors grids (in_box (drop left frame))
  pub even : All (UniformFrom left generators) grids
  pub short : All (λ p. length p + left ≤ length frame) grids
  pub size : count ≤ 64 → length grids ≡ count

no_axes_even : (gs : List Grid1) → AxesUniform gs []
no_axes_even [] = tt
no_axes_even (g ∷ gs) = tt

one_empty : SplitsVectors ([] ∷ []) (in_box [])
one_empty [] = refl
one_empty (x ∷ xs) = refl

pub cut_none : (generators : List (List Grid1)) (frame : List Grid1) (limit left : ℕ) (grids : List (List Grid1)) (count : ℕ) → left ≡ length frame → grids ≡ [] ∷ [] → count ≡ 1
    → CutSoFar generators frame limit left grids count
cut_none generators frame limit left grids count e g n =
    let past : drop left frame ≡ [] = drop_all left frame (omega arith) in
    record {
      inside = omega arith;
      most = omega arith;
      counted = λ greatest m at. let both = first_count generators frame left limit greatest m past at in (both.0, both.1 ∙ sym n);
      split = λ few. subst (λ l. SplitsVectors l (in_box (drop left frame))) (sym g) (subst (λ l. SplitsVectors ([] ∷ []) (in_box l)) (sym past) one_empty);
      even = subst (All (UniformFrom left generators)) (sym g) (All-cons (UniformFrom left generators) [] [] (λ i d l. no_axes_even (drop left (slice_index_or generators i d))) (All-nil _));
      short = subst (All (λ p. length p + left ≤ length frame)) (sym g) (All-cons (λ p. length p + left ≤ length frame) [] [] (omega arith) (All-nil _));
      size = λ few. ap length g ∙ sym n;
    }

capped : (n c : ℕ) → c ≤ 65 → min (suc n * c) 65 ≤ 64 → c ≤ 64
capped n c h k = elim (cases_lt 64 c) [
  | inl above ↦ let e : suc n * c ≡ n * c + c = suc-mul n c in absurd (omega arith)
  | inr low ↦ low
]

-- there are no runs, or the other axes' grids are there
there : (runs : List Grid1) (c : ℕ) → c ≤ 65 → min (length runs * c) 65 ≤ 64 → (runs ≡ []) ⊎ (c ≤ 64)
there [] c h k = inl refl
there (r ∷ rs) c h k = inr (capped (length rs) c h k)

nothing_counted : (runs : List Grid1) (grids : List (List Grid1)) (c : ℕ) → runs ≡ [] → length runs * length grids ≡ min (length runs * c) 65
nothing_counted runs grids c e = let z : length runs ≡ 0 = ap length e in rw z (omega arith)

shorter : (p k n : ℕ) → p + suc k ≤ n → suc p + k ≤ n
shorter p k n h = omega arith

pub cut_more : (generators : List (List Grid1)) (frame : List Grid1) (limit k : ℕ) (axis : Grid1) (runs : List Grid1) (grids made : List (List Grid1)) (count n : ℕ)
    → axis ≡ get_or frame k axis → k < length frame
    → Splits runs (within axis.lo axis.hi) → All (IsUniform (axis_grids k generators)) runs
    → ((greatest m : ℕ) → IsAxisCount (axis_grids k generators) axis.hi axis.lo greatest m → (greatest ≤ limit) × (length runs ≡ m))
    → n ≡ min (length runs * count) 65 → (n ≤ 64 → made ≡ products runs grids) → (64 < n → made ≡ [])
    → CutSoFar generators frame limit (suc k) grids count → CutSoFar generators frame limit k made n
cut_more generators frame limit k axis runs grids made count n is low split even counted size grids_are none before =
    let here : drop k frame ≡ axis ∷ drop (suc k) frame = drop-cons frame k axis low ∙ ap (λ a. a ∷ drop (suc k) frame) (sym is) in
    let most = before.most in
    let few_rest : n ≤ 64 → (runs ≡ []) ⊎ (count ≤ 64) = λ few. there runs count most (omega arith) in
    let all : (P : List Grid1 → Type 0) → All P (products runs grids) → All P made =
    λ P h. elim (cases_lt 64 n) [
      | inl many ↦ subst (All P) (sym (none many)) (All-nil P)
      | inr few ↦ subst (All P) (sym (grids_are few)) h
    ] in
    record {
      inside = omega arith;
      most = omega arith;
      counted = λ greatest m at.
          let one = at_axis generators frame k axis greatest m is low at in
          let now = counted one.period one.runs one.here in
          let later = before.counted one.above one.rest one.later in
          let g = one.greatest_is in (
            omega (arith, now.0, later.0),
            ap (λ x. min x 65) one.count_is ∙ sym (product_min one.runs one.rest) ∙ ap (λ x. min (one.runs * x) 65) later.1 ∙ ap (λ x. min (x * count) 65) (sym now.1) ∙ sym size,
          );
      split = λ few. subst (λ l. SplitsVectors l (in_box (drop k frame))) (sym (grids_are few)) (subst (λ l. SplitsVectors (products runs grids) (in_box l)) (sym here)
          (elim (few_rest few) [
            | inl nothing ↦ nothing_split axis (drop (suc k) frame) runs grids nothing split
            | inr rest ↦ products_split axis (drop (suc k) frame) runs grids split (before.split rest)
          ]));
      even = all (UniformFrom k generators) (all_products (UniformFrom k generators) runs grids
          (λ i d l j e m. even_more k generators (slice_index_or runs i d) (slice_index_or grids j e) (even i d l) (before.even j e m)));
      short = all (λ p. length p + k ≤ length frame) (all_products (λ p. length p + k ≤ length frame) runs grids
          (λ i d l j e m. shorter (length (slice_index_or grids j e)) k (length frame) (before.short j e m)));
      size = λ few. ap length (grids_are few) ∙ length_products runs grids ∙ elim (few_rest few) [
        | inl nothing ↦ nothing_counted runs grids count nothing ∙ sym size
        | inr rest ↦ ap (λ x. length runs * x) (before.size rest) ∙ omega arith
      ];
    }

-- where an axis is too fine, so is the frame
pub axis_fine : (generators : List (List Grid1)) (frame : List Grid1) (limit k : ℕ) (axis : Grid1) (greatest count : ℕ) → axis ≡ get_or frame k axis → k < length frame
    → ((g m : ℕ) → IsAxisCount (axis_grids k generators) axis.hi axis.lo g m → limit < g) → IsCanonicalCount generators 0 frame greatest count → limit < greatest
axis_fine generators frame limit k axis greatest count is low fine counted =
    let from = from_axis generators frame axis greatest count counted k (omega arith) in
    let one = at_axis generators frame k axis from.above from.count is low from.counted in
    let high = fine one.period one.runs one.here in
    let g = one.greatest_is in
    let w = from.within in omega arith

-- at the frame's first axis nothing is left
pub cut_even : (generators : List (List Grid1)) (frame : List Grid1) (limit left : ℕ) (grids : List (List Grid1)) (count : ℕ) → left ≡ 0 → CutSoFar generators frame limit left grids count
    → All (IsUniformVector generators) grids
cut_even generators frame limit left grids count e so_far i d l =
    even_all generators (slice_index_or grids i d) (subst (λ n. UniformFrom n generators (slice_index_or grids i d)) e (so_far.even i d l))

-- the error of an axis is due for the frame
pub axis_due : (generators : List (List Grid1)) (frame : List Grid1) (limit k : ℕ) (axis : Grid1) (greatest count : ℕ) (column : List Grid1) (error : GenError)
    → axis ≡ get_or frame k axis → k < length frame → column ≡ axis_grids k generators
    → ((g m : ℕ) → IsAxisCount column axis.hi axis.lo g m → error ≡ TooFine → limit < g) → (error ≡ TooMany → ⊥)
    → IsCanonicalCount generators 0 frame greatest count → IsCause limit greatest count error
axis_due generators frame limit k axis greatest count column TooFine is low e fine few counted =
    axis_fine generators frame limit k axis greatest count is low
    (λ g m at. fine g m (subst (λ l. IsAxisCount l axis.hi axis.lo g m) (sym e) at) refl) counted
axis_due generators frame limit k axis greatest count column TooMany is low e fine few counted = absurd (few refl)
axis_due generators frame limit k axis greatest count column Memory is low e fine few counted = tt

-- where there are at most 64, there are as many as the canonical count
pub as_many : (generators : List (List Grid1)) (frame : List Grid1) (limit left : ℕ) (grids : List (List Grid1)) (count greatest n : ℕ) → left ≡ 0 → count ≤ 64
    → CutSoFar generators frame limit left grids count → IsCanonicalCount generators 0 frame greatest n → length grids ≡ n
as_many generators frame limit left grids count greatest n e few so_far counted =
    let here : IsCanonicalCount generators left (drop left frame) greatest n = subst (λ k. IsCanonicalCount generators k (drop k frame) greatest n) (sym e) counted in
    let both = so_far.counted greatest n here in
    let size = so_far.size few in
    let capped_is = both.1 in
    omega (arith, size, capped_is, few)
