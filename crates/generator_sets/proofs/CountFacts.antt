-- The canonical count, axis by axis.
use Rattle.std.proofs.Common.{◌≡◌, ℕ, zero, suc, ◌+◌, ◌*◌, ◌<◌, ◌≤◌, inl, inr, arith, refl, sym, ap, subst, ◌∙◌, List, [], ◌∷◌, length, drop, get_or, drop-cons}
use Rattle.std.specs.Prelude.{min, max}
use Rattle.std.proofs.lemmas.Bool.{cases_lt}
use Rattle.std.proofs.Math.Nat.{suc-mul}
use Rattle.sac_base.specs.declared.grid.Grid1.{Grid1}
use Rattle.grid_sets.specs.Segments.{IsAxisCount}
use Rattle.grid_sets.proofs.Existence.{axis_counted, one_count}
use Rattle.generator_sets.specs.Pieces.{axis_grids}
use Rattle.generator_sets.specs.Counts.{IsCanonicalCount, no_axes, and_axis}

-- the count of the axes from the k-th on
pub record CountFrom (generators : List (List Grid1)) (frame : List Grid1) (k greatest : ℕ) : Type 0 where
  pub above : ℕ
  pub count : ℕ
  pub counted : IsCanonicalCount generators k (drop k frame) above count
  pub within : above ≤ greatest

-- the count of an axis and the later ones
pub record OneMore (generators : List (List Grid1)) (k : ℕ) (axis : Grid1) (axes : List Grid1) (greatest count : ℕ) : Type 0 where
  pub period : ℕ
  pub runs : ℕ
  pub above : ℕ
  pub rest : ℕ
  pub here : IsAxisCount (axis_grids k generators) axis.hi axis.lo period runs
  pub later : IsCanonicalCount generators (suc k) axes above rest
  pub greatest_is : greatest ≡ max period above
  pub count_is : count ≡ runs * rest

one_more : (generators : List (List Grid1)) (k : ℕ) (axis : Grid1) (axes : List Grid1) (greatest count : ℕ) → IsCanonicalCount generators k (axis ∷ axes) greatest count
    → OneMore generators k axis axes greatest count
one_more generators _ _ _ _ _ (and_axis k axis axes period greatest runs count here later) =
    record { period = period; runs = runs; above = greatest; rest = count; here = here; later = later; greatest_is = refl; count_is = refl }

pub at_axis : (generators : List (List Grid1)) (frame : List Grid1) (k : ℕ) (axis : Grid1) (greatest count : ℕ) → axis ≡ get_or frame k axis → k < length frame
    → IsCanonicalCount generators k (drop k frame) greatest count → OneMore generators k axis (drop (suc k) frame) greatest count
at_axis generators frame k axis greatest count is low counted =
    one_more generators k axis (drop (suc k) frame) greatest count
    (subst (λ l. IsCanonicalCount generators k l greatest count) (drop-cons frame k axis low ∙ ap (λ a. a ∷ drop (suc k) frame) (sym is)) counted)

-- a count of the whole frame holds counts of its last axes
pub from_axis : (generators : List (List Grid1)) (frame : List Grid1) (d : Grid1) (greatest count : ℕ) → IsCanonicalCount generators 0 frame greatest count → (k : ℕ) → k ≤ length frame
    → CountFrom generators frame k greatest
from_axis generators frame d greatest count counted zero h = record { above = greatest; count = count; counted = counted; within = omega arith }
from_axis generators frame d greatest count counted (suc k) h =
    let before = from_axis generators frame d greatest count counted k (omega arith) in
    let low : k < length frame = omega arith in
    let now = one_more generators k (get_or frame k d) (drop (suc k) frame) before.above before.count
    (subst (λ l. IsCanonicalCount generators k l before.above before.count) (drop-cons frame k d low) before.counted) in
    let g = now.greatest_is in
    let w = before.within in
    record { above = now.above; count = now.rest; counted = now.later; within = omega arith }

-- the product, with 65 in place of what is above
pub product_min : (n c : ℕ) → min (n * min c 65) 65 ≡ min (n * c) 65
product_min zero c = omega arith
product_min (suc n) c = elim (cases_lt 65 c) [
  | inl above ↦
      let one : suc n * 65 ≡ n * 65 + 65 = suc-mul n 65 in
      let two : suc n * c ≡ n * c + c = suc-mul n c in
      let cap : min c 65 ≡ 65 = omega arith in
      rw cap (omega arith)
  | inr low ↦ let same : min c 65 ≡ c = omega arith in rw same refl
]

no_axes_is : (generators : List (List Grid1)) (k : ℕ) (greatest count : ℕ) → IsCanonicalCount generators k [] greatest count → (greatest ≡ 0) × (count ≡ 1)
no_axes_is generators _ _ _ (no_axes k) = (refl, refl)

pub first_count : (generators : List (List Grid1)) (frame : List Grid1) (k limit : ℕ) (greatest count : ℕ) → drop k frame ≡ [] → IsCanonicalCount generators k (drop k frame) greatest count
    → (greatest ≤ limit) × (min count 65 ≡ 1)
first_count generators frame k limit greatest count e counted =
    let none = no_axes_is generators k greatest count (subst (λ l. IsCanonicalCount generators k l greatest count) e counted) in
    (omega (arith, none.0), ap (λ n. min n 65) none.1)

abbrev Counted : List (List Grid1) → ℕ → List Grid1 → Type 0
Counted generators k axes = (greatest : ℕ) × ((count : ℕ) × IsCanonicalCount generators k axes greatest count)

-- there is a count
pub some_canonical : (generators : List (List Grid1)) (k : ℕ) (axes : List Grid1) → Counted generators k axes
some_canonical generators k [] = (0, (1, no_axes k))
some_canonical generators k (axis ∷ axes) =
    let here = axis_counted (axis_grids k generators) axis.hi axis.lo in
    let later = some_canonical generators (suc k) axes in
    (max here.0 later.0, (here.1.0 * later.1.0, and_axis k axis axes here.0 later.0 here.1.0 later.1.0 here.1.1 later.1.1))

-- and only one
pub one_canonical : (generators : List (List Grid1)) (k : ℕ) (axes : List Grid1) (g n : ℕ) → IsCanonicalCount generators k axes g n → (h m : ℕ) → IsCanonicalCount generators k axes h m → (h ≡ g) × (m ≡ n)
one_canonical generators k [] g n a h m b =
    let x = no_axes_is generators k g n a in
    let y = no_axes_is generators k h m b in
    (y.0 ∙ sym x.0, y.1 ∙ sym x.1)
one_canonical generators k (axis ∷ axes) g n a h m b =
    let x = one_more generators k axis axes g n a in
    let y = one_more generators k axis axes h m b in
    let here = one_count (axis_grids k generators) axis.hi axis.lo x.period x.runs x.here y.period y.runs y.here in
    let later = one_canonical generators (suc k) axes x.above x.rest x.later y.above y.rest y.later in (
      y.greatest_is ∙ ap (λ p. max p y.above) here.0 ∙ ap (max x.period) later.0 ∙ sym x.greatest_is,
      y.count_is ∙ ap (λ r. r * y.rest) here.1 ∙ ap (λ c. x.runs * c) later.1 ∙ sym x.count_is,
    )
