-- The first range that holds an index tells which generator or part does.
use Rattle.std.proofs.Common.{◌≡◌, ℕ, zero, suc, ◌+◌, ◌-◌, ◌<◌, ◌≤◌, false, ℤ, Bool, List, [], ◌∷◌, length, Option, Some, None, refl, sym, ap, ◌∙◌, arith}
use Rattle.std.specs.Prelude.{if◌then◌else◌, option_map, slice_get, slice_index_or}
use Rattle.array_with_loops.specs.declared.plans.Plan.{Plan}
use Rattle.array_with_loops.specs.Ranges.{moved_last}
use Rattle.counted_code.specs.declared.tree.CodeGen.{CodeGen}
use Rattle.counted_code.specs.declared.tree.CodePart.{CodePart}
use Rattle.loop_code.specs.Runs.{HoldsAlong, HoldsFirst}
use Rattle.phase_loop_cells.specs.Ranges.{AreAll, AreMade, AreRanges, ranges_of}
use Rattle.phase_loop_cells.specs.Walks.{body_of_run}
use Rattle.run_loops.specs.declared.cell_loop.CellSource.{CellSource}
use Rattle.run_loops.specs.declared.cell_loop.CellSource.TheVariants.{Generators, Parts}
use Rattle.run_loops.specs.Loops.{gen_body, held, held_body, part_body, part_held}
use Rattle.sac_base.specs.WithLoops.{Range, holds}

-- no range holds an index
abbrev NoneHolds : List Range → List ℤ → Type 0
NoneHolds ranges v = (k : ℕ) → k < length ranges → holds (slice_index_or ranges k []) v ≡ false

first_behind : (r : Range) (ranges : List Range) (v : List ℤ) (k : ℕ) → HoldsFirst (r ∷ ranges) v (suc k) → HoldsFirst ranges v k
first_behind r ranges v k first = record {
  inside = (let inside = first.inside in omega (arith, inside));
  here = first.here;
  before = λ j lt. first.before (suc j) (omega (arith, lt));
}

-- ---- generators

gen_first : (gens : List CodeGen) (ranges : List Range) (k : ℕ) (v : List ℤ) → HoldsFirst ranges v k → held gens ranges v ≡ slice_get gens k
gen_first [] ranges k v at = refl
gen_first (g ∷ gens) [] k v at = absurd (let inside = at.inside in omega (arith, inside))
gen_first (g ∷ gens) (r ∷ ranges) zero v at = ap (λ (b : Bool). if b then Some g else held gens ranges v) at.here
gen_first (g ∷ gens) (r ∷ ranges) (suc k) v at =
    ap (λ (b : Bool). if b then Some g else held gens ranges v) (at.before 0 (omega arith)) ∙ gen_first gens ranges k v (first_behind r ranges v k at)

gen_none : (gens : List CodeGen) (ranges : List Range) (v : List ℤ) → NoneHolds ranges v → held gens ranges v ≡ None
gen_none [] ranges v none = refl
gen_none (g ∷ gens) [] v none = refl
gen_none (g ∷ gens) (r ∷ ranges) v none =
    ap (λ (b : Bool). if b then Some g else held gens ranges v) (none 0 (omega arith)) ∙ gen_none gens ranges v (λ k lt. none (suc k) (omega (arith, lt)))

-- ---- parts

part_first : (parts : List CodePart) (made : List Range) (k : ℕ) (v : List ℤ) → AreRanges made parts → HoldsFirst made v k → part_held parts v ≡ slice_get parts k
part_first parts [] k v are at = absurd (let inside = at.inside in omega (arith, inside))
part_first [] (r ∷ made) k v are at = absurd are
part_first (p ∷ parts) (r ∷ made) zero v are at = ap (λ (b : Bool). if b then Some p else part_held parts v) (sym (are.0 v) ∙ at.here)
part_first (p ∷ parts) (r ∷ made) (suc k) v are at =
    ap (λ (b : Bool). if b then Some p else part_held parts v) (sym (are.0 v) ∙ at.before 0 (omega arith)) ∙ part_first parts made k v are.1 (first_behind r made v k at)

part_none : (parts : List CodePart) (made : List Range) (v : List ℤ) → AreRanges made parts → length parts ≤ length made → NoneHolds made v → part_held parts v ≡ None
part_none [] made v are all none = refl
part_none (p ∷ parts) [] v are all none = absurd (omega (arith, all))
part_none (p ∷ parts) (r ∷ made) v are all none =
    ap (λ (b : Bool). if b then Some p else part_held parts v) (sym (are.0 v) ∙ none 0 (omega arith)) ∙ part_none parts made v are.1 (omega (arith, all)) (λ k lt. none (suc k) (omega (arith, lt)))

-- ---- a source

pub held_along : (source : CellSource) (plan : Plan) (made : List Range) → AreMade source made → (v : List ℤ) (place : Option ℕ) → (place ≡ None → AreAll source made) → (count : ℕ) → HoldsAlong (ranges_of source plan made) v place count
    → (j : ℕ) → j < count → held_body source plan.ranges.items (moved_last j v) ≡ body_of_run source place
held_along (Generators gens) plan made are v (Some k) all count along j lt =
    ap (option_map gen_body) (gen_first gens.now plan.ranges.items k (moved_last j v) (along.each j lt))
held_along (Generators gens) plan made are v None all count along j lt =
    ap (option_map gen_body) (gen_none gens.now plan.ranges.items (moved_last j v) (λ k inside. along k j inside lt))
held_along (Parts parts) plan made are v (Some k) all count along j lt =
    ap (option_map part_body) (part_first parts.now made k (moved_last j v) are (along.each j lt))
held_along (Parts parts) plan made are v None all count along j lt =
    ap (option_map part_body) (part_none parts.now made (moved_last j v) are (all refl) (λ k inside. along k j inside lt))

-- ---- bodies

pub same_place : (from position : ℕ) → from ≤ position → (j : ℕ) × (from + j ≡ position)
same_place from position le = (position - from, omega (arith, le))
