-- The value of a with-loop from its plan and its cells.
use Rattle.std.proofs.Common.{◌≡◌, ℕ, zero, suc, ◌+◌, ◌*◌, ◌/◌, ◌%◌, ◌<◌, ◌≤◌, List, [], ◌∷◌, ◌++◌, length, get_or, take, drop, map, Bool, true, false, refl, sym, ap, ◌∙◌, subst, arith, ℤ, pos, ◌+ℤ◌, Ok, Err, Some, None, Option, cond, mul_assoc, min, true≢false}
use Rattle.std.proofs.Math.Nat.{add-mul, suc-mul}
use Rattle.std.specs.Prelude.{IfSome, flat_map, nat_le, is_some, if◌then◌else◌, nat_lt}
use Rattle.std.specs.List.{zip}
use Rattle.std.specs.Option.{SomeIff}
use Rattle.std.proofs.lemmas.List.{length-drop, length-take-le, drop_more, take_min, take-append-drop}
use Rattle.std.proofs.lemmas.Bool.Decides.{nat_tests}
use Rattle.std.proofs.lemmas.Nat.{mod_below, div_below, div-add-mod'}
use Rattle.sac_base.specs.declared.faults.FaultKind.TheVariants.{F8}
use Rattle.sac_base.specs.declared.site.Site.{Site}
use Rattle.sac_base.specs.Arrays.{ArrayValue, size, MOST}
use Rattle.sac_base.specs.Parts.{part_at, further}
use Rattle.sac_base.specs.Places.{vector_at}
use Rattle.sac_base.specs.Outcomes.{Ends, and_then, fault}
use Rattle.sac_base.specs.WithLoops.{Bounds, Range, Plan, box, shape_spans, each, range_of, modarray_plan, finish, genarray, modarray, cell_or, cell_or_old, cells_of_part}
use Rattle.sac_base.proofs.RowMajor.{size-append}
use Rattle.array_with_loops.specs.Cells.{cell_from, cells_from, array_from}
use Rattle.array_with_loops.proofs.FrameSteps.{length-box, box_at, vector_in}

-- ---- genarray

default_cells : (default : ArrayValue) (n k : ℕ) (found : List (Option ArrayValue)) → flat_map (cell_or default) found ≡ cells_from false default n k found
default_cells default n k [] = refl
default_cells default n k (None ∷ found) = ap (λ zs. default.cells ++ zs) (default_cells default n (k + 1) found)
default_cells default n k (Some c ∷ found) = ap (λ zs. c.cells ++ zs) (default_cells default n (k + 1) found)

pub genarray_finish : (shape default : ArrayValue) (s : Site) (p : Plan) (found : List (Option ArrayValue)) → finish (genarray shape default s) p found ≡ array_from false default p found
genarray_finish shape default s p found = λ i. record { base = default.base; shape = p.shape; cells = default_cells default (size p.form.shape) 0 found i }

-- ---- the index vectors of a shape

pub length_indices : (ns : List ℕ) → length (box (shape_spans ns)) ≡ size ns
length_indices ns = length-box (shape_spans ns) ∙ ap size (extents ns)
  where
    extents : (ns : List ℕ) → map (λ a. a.extent) (shape_spans ns) ≡ ns
    extents [] = refl
    extents (n ∷ ns) = ap (λ ms. n ∷ ms) (extents ns)

vector_in_shape : (ns : List ℕ) (p : ℕ) → vector_in (shape_spans ns) p ≡ vector_at ns p
vector_in_shape [] p = refl
vector_in_shape (n ∷ ns) p =
    let s = sym (length-box (shape_spans ns)) ∙ length_indices ns in
    ap (λ m. (pos 0 +ℤ pos (p / m)) ∷ vector_in (shape_spans ns) (p % m)) s
    ∙ ap (λ x. pos x ∷ vector_in (shape_spans ns) (p % size ns)) zeroed
    ∙ ap (λ vs. pos (p / size ns) ∷ vs) (vector_in_shape ns (p % size ns))
  where
    zeroed : 0 + p / size ns ≡ p / size ns
    zeroed = omega arith

positive : (a m p : ℕ) → p < a * m → 0 < m
positive a zero p h = absurd (omega arith)
positive a (suc m) p h = omega arith

-- the part of an array at an index of its first extents
pub part_at_front : (ns ms : List ℕ) (p : ℕ) → p < size ns → part_at (ns ++ ms) (vector_at ns p) ≡ Some (record { start = p * size ms; shape = ms })
part_at_front [] ms zero h = λ i. Some (record { start = none i; shape = ms })
  where
    none : 0 ≡ 0 * size ms
    none = omega arith
part_at_front [] ms (suc p) h = absurd (omega arith)
part_at_front (n ∷ ns) ms p h =
    let S = size ns in
    let some : 0 < S = positive n S p h in
    let inner = part_at_front ns ms (p % S) (mod_below p S some) in
    let inside : nat_lt (p / S) n ≡ true = let d = div_below p S n some h in grind (arith, nat_tests) in
    ap (λ b. if b then further (p / S) (ns ++ ms) (part_at (ns ++ ms) (vector_at ns (p % S))) else None) inside
    ∙ ap (further (p / S) (ns ++ ms)) inner
    ∙ ap (λ x. Some (record { start = x; shape = ms })) sum
  where
    sum : p / size ns * size (ns ++ ms) + p % size ns * size ms ≡ p * size ms
    sum =
        ap (λ x. p / size ns * x + p % size ns * size ms) (size-append ns ms)
        ∙ ap (λ x. x + p % size ns * size ms) (sym (mul_assoc (p / size ns) (size ns) (size ms)))
        ∙ sym (add-mul (p / size ns * size ns) (p % size ns) (size ms))
        ∙ ap (λ x. x * size ms) (div-add-mod' p (size ns))

-- ---- modarray

-- the old elements at an index of the frame
old_at : (array : ArrayValue) (ns ms : List ℕ) (k : ℕ) → array.shape ≡ ns ++ ms → k < size ns → cells_of_part array (part_at array.shape (get_or (box (shape_spans ns)) k [])) ≡ take (size ms) (drop (k * size ms) array.cells)
old_at array ns ms k e h =
    let at : get_or (box (shape_spans ns)) k [] ≡ vector_at ns k = box_at (shape_spans ns) k [] (subst (λ x. k < x) (sym (length_indices ns) ∙ length-box (shape_spans ns)) h) ∙ vector_in_shape ns k in
    ap (λ v. cells_of_part array (part_at array.shape v)) at
    ∙ ap (λ s. cells_of_part array (part_at s (vector_at ns k))) e
    ∙ ap (cells_of_part array) (part_at_front ns ms k h)

module _ (array : ArrayValue) (ns ms : List ℕ) (e : array.shape ≡ ns ++ ms) where
  pub old_cells : (k : ℕ) (found : List (Option ArrayValue)) → k + length found ≡ size ns
      → flat_map (λ (q : List ℤ × Option ArrayValue). cell_or_old array q.0 q.1) (zip (drop k (box (shape_spans ns))) found) ≡ cells_from true array (size ms) k found
  old_cells k [] h = zip_none (drop k (box (shape_spans ns)))
    where
      zip_none : (vs : List (List ℤ)) → flat_map (λ (q : List ℤ × Option ArrayValue). cell_or_old array q.0 q.1) (zip vs []) ≡ []
      zip_none [] = refl
      zip_none (v ∷ vs) = refl
  old_cells k (c ∷ found) h =
      let inside : k < size ns = omega arith in
      let at = drop_more (box (shape_spans ns)) k [] (subst (λ x. k < x) (sym (length_indices ns)) inside) in
      ap (λ vs. flat_map (λ (q : List ℤ × Option ArrayValue). cell_or_old array q.0 q.1) (zip vs (c ∷ found))) at
      ∙ ap (λ zs. zs ++ flat_map (λ (q : List ℤ × Option ArrayValue). cell_or_old array q.0 q.1) (zip (drop (k + 1) (box (shape_spans ns))) found)) (one c)
      ∙ ap (λ zs. cell_from true array (size ms) k c ++ zs) (old_cells (k + 1) found (omega arith))
    where
      one : (c : Option ArrayValue) → cell_or_old array (get_or (box (shape_spans ns)) k []) c ≡ cell_from true array (size ms) k c
      one None = let inside : k < size ns = omega arith in old_at array ns ms k e inside
      one (Some a) = refl

-- ---- what the plans of arrays have

pub some_small : {T : Type 0} (o : Option T) (P : Type 0) (v : T) → SomeIff o P v → is_some o ≡ true → P
some_small None P v h e = absurd (true≢false (sym e))
some_small (Some x) P v h e = h.0

pub split_size : (ns : List ℕ) (n : ℕ) → size (take n ns) * size (drop (min n (length ns)) ns) ≡ size ns
split_size ns n =
    ap (λ xs. size xs * size (drop (min n (length ns)) ns)) (sym (take_min n ns))
    ∙ sym (size-append (take (min n (length ns)) ns) (drop (min n (length ns)) ns))
    ∙ ap size (take-append-drop (min n (length ns)) ns)

-- ---- the plan of a modarray

plan_field : {A : Type 0} (f : Plan → A) (x : A) (m : Ends (List Range)) (b : Bool) (q : List Range → Plan) (p : Plan) (site : Site)
    → ((rs : List Range) → f (q rs) ≡ x) → and_then m (λ rs. if b then Ok (q rs) else fault F8 site) ≡ Ok p → f p ≡ x
plan_field f x (Err g) b q p site h e = cc
plan_field f x (Ok rs) true q p site h e = let is : q rs ≡ p = cc in ap f (sym is) ∙ h rs
plan_field f x (Ok rs) false q p site h e = cc

module _ (bs : List Bounds) (n : ℕ) (array : ArrayValue) (site : Site) (p : Plan) (e : modarray_plan bs n array site ≡ Ok p) where
  of_plan : {A : Type 0} (f : Plan → A) (x : A)
      → ((rs : List Range) → f (record { ranges = rs; indices = box (shape_spans (take n array.shape)); form = record { base = array.base; shape = drop n array.shape }; shape = array.shape }) ≡ x)
      → f p ≡ x
  of_plan f x h =
      plan_field f x (each (range_of n (length array.shape) (Some (take n array.shape)) (take n array.shape)) bs) (nat_le (size (take n array.shape)) MOST)
      (λ rs. record { ranges = rs; indices = box (shape_spans (take n array.shape)); form = record { base = array.base; shape = drop n array.shape }; shape = array.shape })
      p site h e

  cut_indices : p.indices ≡ box (shape_spans (take n array.shape))
  cut_indices = of_plan (λ p. p.indices) (box (shape_spans (take n array.shape))) (λ rs. refl)

  cut_form : p.form.shape ≡ drop n array.shape
  cut_form = of_plan (λ p. p.form.shape) (drop n array.shape) (λ rs. refl)

  pub modarray_finish : (found : List (Option ArrayValue)) → length found ≡ length p.indices → finish (modarray array site) p found ≡ array_from true array p found
  modarray_finish found count =
      let split = sym (take-append-drop n array.shape) in
      let same : length found ≡ size (take n array.shape) = count ∙ ap length cut_indices ∙ length_indices (take n array.shape) in
      let all : 0 + length found ≡ size (take n array.shape) = omega (arith, same) in
      let cells =
      ap (λ vs. flat_map (λ (q : List ℤ × Option ArrayValue). cell_or_old array q.0 q.1) (zip vs found)) cut_indices
      ∙ old_cells array (take n array.shape) (drop n array.shape) split 0 found all
      ∙ ap (λ s. cells_from true array (size s) 0 found) (sym cut_form) in
      λ i. record { base = array.base; shape = p.shape; cells = cells i }

mul_mono : (a b n : ℕ) → a ≤ b → a * n ≤ b * n
mul_mono zero b n h = omega arith
mul_mono (suc a) zero n h = absurd (omega arith)
mul_mono (suc a) (suc b) n h = omega (arith, suc-mul a n, suc-mul b n, mul_mono a b n (omega arith))

-- a cell has no more elements than all cells together
pub cell_below : (k l n m : ℕ) → k < l → l * n ≡ m → m ≤ MOST → n ≤ MOST
cell_below k zero n m h e most = absurd (omega arith)
cell_below k (suc l) n m h e most = omega (arith, suc-mul l n, e, most)

-- and the elements at a place lie among them
pub cell_within : (k l n m : ℕ) → k < l → l * n ≡ m → k * n + n ≤ m
cell_within k zero n m h e = absurd (omega arith)
cell_within k (suc l) n m h e = omega (arith, suc-mul l n, e, mul_mono k l n (omega arith))

pub cell_length : (old : Bool) (background : ArrayValue) (n k all : ℕ) (cell : Option ArrayValue) → IfSome cell (λ a. length a.cells ≡ n) → length background.cells ≡ cond old all n → k * n + n ≤ all → length (cell_from old background n k cell) ≡ n
cell_length old background n k all (Some c) sized stands within = sized
cell_length true background n k all None sized stands within =
    length-take-le n (drop (k * n) background.cells) (omega (arith, length-drop (k * n) background.cells, stands, within))
cell_length false background n k all None sized stands within = stands
