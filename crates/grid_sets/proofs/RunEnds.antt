-- Where a grid's members stop, and where they begin again.
use Rattle.std.proofs.Common.{◌≡◌, ℕ, suc, ◌+◌, ◌-◌, ◌*◌, ◌/◌, ◌%◌, ◌<◌, ◌≤◌, ◌⊎◌, inl, inr, arith, sym, ap, subst, ◌∙◌, nat_lt}
use Rattle.std.specs.Prelude.{ℤ, pos, ◌-ℤ◌, ◌≤ℤ◌, ◌<ℤ◌, unsigned_abs, true, false, not, cond, min}
use Rattle.std.proofs.lemmas.Int.{ints}
use Rattle.std.proofs.lemmas.Bool.{cases_lt, lt-ltb, le-ltb}
use Rattle.std.proofs.lemmas.Nat.{mod_below, div-add-mod'}
use Rattle.std.proofs.Math.Nat.{suc-mul}
use Rattle.sac_base.specs.Grids.{has_index, within}
use Rattle.sac_base.specs.declared.grid.Grid1.{Grid1}
use Rattle.sac_base.proofs.GridFacts.{gap_is, within_is, has_facts}
use Rattle.grid_sets.specs.Segments.{NoCut, spans}
use Rattle.grid_sets.proofs.Residues.{mod_is}

-- how far it is from a number to the next change, by its place in the period
abbrev pub steps_left : ℕ → ℕ → ℕ → ℕ
steps_left place width step = cond (nat_lt place width) (width - place) (step - place)

pub some_left : (d s w : ℕ) → 0 < w → w < s → 0 < steps_left (d % s) w s
some_left d s w h k =
    let low = mod_below d s (omega arith) in
    elim (cases_lt (d % s) w) [
      | inl a ↦ rw (lt-ltb (d % s) w a) (omega arith)
      | inr b ↦ rw (le-ltb (d % s) w b) (omega arith)
    ]

mod_near : (d s j : ℕ) → d % s + j < s → (d + j) % s ≡ d % s + j
mod_near d s j h =
    let split = div-add-mod' d s in
    let all : d + j ≡ d / s * s + (d % s + j) = omega (arith, split) in
    mod_is (d + j) (d / s) s (d % s + j) all h

mod_end : (d s j : ℕ) → 0 < s → d % s + j ≡ s → (d + j) % s ≡ 0
mod_end d s j h e =
    let split = div-add-mod' d s in
    let next = suc-mul (d / s) s in
    let all : d + j ≡ suc (d / s) * s + 0 = omega (arith, split, next) in
    mod_is (d + j) (suc (d / s)) s 0 all h

-- before the next change the test gives one answer
pub same_left : (d s w j : ℕ) → w < s → j < steps_left (d % s) w s → nat_lt ((d + j) % s) w ≡ nat_lt (d % s) w
same_left d s w j h k =
    let low = mod_below d s (omega arith) in
    elim (cases_lt (d % s) w) [
      | inl a ↦
          let t = lt-ltb (d % s) w a in
          let near : j < w - d % s = subst (λ t. j < cond t (w - d % s) (s - d % s)) t k in
          let e = mod_near d s j (omega arith) in
          rw (e, t) (lt-ltb (d % s + j) w (omega arith))
      | inr b ↦
          let t = le-ltb (d % s) w b in
          let near : j < s - d % s = subst (λ t. j < cond t (w - d % s) (s - d % s)) t k in
          let e = mod_near d s j (omega arith) in
          rw (e, t) (le-ltb (d % s + j) w (omega arith))
    ]

-- and there it gives the other
pub other_left : (d s w j : ℕ) → 0 < w → w < s → j ≡ steps_left (d % s) w s → nat_lt ((d + j) % s) w ≡ not (nat_lt (d % s) w)
other_left d s w j some h k =
    let low = mod_below d s (omega arith) in
    elim (cases_lt (d % s) w) [
      | inl a ↦
          let t = lt-ltb (d % s) w a in
          let near : j ≡ w - d % s = subst (λ t. j ≡ cond t (w - d % s) (s - d % s)) t k in
          let e = mod_near d s j (omega arith) in
          rw (e, t) (le-ltb (d % s + j) w (omega arith))
      | inr b ↦
          let t = le-ltb (d % s) w b in
          let near : j ≡ s - d % s = subst (λ t. j ≡ cond t (w - d % s) (s - d % s)) t k in
          let e = mod_end d s j (omega arith) (omega arith) in
          rw (e, t) (lt-ltb 0 w some)
    ]

-- inside a segment that the grid spans, the members are told by the place in the period
inside_is : (g : Grid1) (from x : ℤ) → pos 1 ≤ℤ g.width → g.lo ≤ℤ from → from ≤ℤ x → x <ℤ g.hi
    → has_index g x ≡ nat_lt ((unsigned_abs (from -ℤ g.lo) + unsigned_abs (x -ℤ from)) % unsigned_abs g.step) (unsigned_abs g.width)
inside_is g from x wide low here high = elim (has_facts g x wide) [
  | inl at ↦
      let d : unsigned_abs (x -ℤ g.lo) ≡ unsigned_abs (from -ℤ g.lo) + unsigned_abs (x -ℤ from) = omega (arith, ints) in
      at.2 ∙ ap (λ n. nat_lt (n % unsigned_abs g.step) (unsigned_abs g.width)) d
  | inr off ↦ absurd (elim off.0 [ inl a ↦ omega (arith, ints) | inr b ↦ omega (arith, ints) ])
]

plain : (n : ℕ) → n + 0 ≡ n
plain n = omega arith

first_is : (g : Grid1) (from : ℤ) → pos 1 ≤ℤ g.width → g.lo ≤ℤ from → from <ℤ g.hi
    → has_index g from ≡ nat_lt (unsigned_abs (from -ℤ g.lo) % unsigned_abs g.step) (unsigned_abs g.width)
first_is g from wide low high = elim (has_facts g from wide) [
  | inl at ↦ at.2
  | inr off ↦ absurd (elim off.0 [ inl a ↦ omega (arith, ints) | inr b ↦ omega (arith, ints) ])
]

-- the front of a segment that the grid spans
pub front_same : (g : Grid1) (from to stop x : ℤ) → pos 1 ≤ℤ g.width → g.width <ℤ g.step → g.lo ≤ℤ from → to ≤ℤ g.hi → stop ≤ℤ to
    → unsigned_abs (stop -ℤ from) ≤ steps_left (unsigned_abs (from -ℤ g.lo) % unsigned_abs g.step) (unsigned_abs g.width) (unsigned_abs g.step)
    → within from stop x ≡ true → has_index g x ≡ has_index g from
front_same g from to stop x wide narrow low high inside near at = elim (within_is from stop x) [
  | inr off ↦ absurd (cc)
  | inl here ↦
      let w : unsigned_abs g.width < unsigned_abs g.step = omega (arith, ints) in
      let j : unsigned_abs (x -ℤ from) < unsigned_abs (stop -ℤ from) = omega (arith, ints) in
      inside_is g from x wide low here.0 (omega (arith, ints))
      ∙ same_left (unsigned_abs (from -ℤ g.lo)) (unsigned_abs g.step) (unsigned_abs g.width) (unsigned_abs (x -ℤ from)) w (omega arith)
      ∙ sym (first_is g from wide low (omega (arith, ints)))
]

pub front_change : (g : Grid1) (from to stop : ℤ) → pos 1 ≤ℤ g.width → g.width <ℤ g.step → g.lo ≤ℤ from → to ≤ℤ g.hi → from <ℤ to → from ≤ℤ stop → stop ≤ℤ to
    → unsigned_abs (stop -ℤ from) ≡ min (unsigned_abs (to -ℤ from)) (steps_left (unsigned_abs (from -ℤ g.lo) % unsigned_abs g.step) (unsigned_abs g.width) (unsigned_abs g.step))
    → (stop ≡ to) ⊎ (has_index g stop ≡ not (has_index g from))
front_change g from to stop wide narrow low high some below inside near =
    let left : ℕ = steps_left (unsigned_abs (from -ℤ g.lo) % unsigned_abs g.step) (unsigned_abs g.width) (unsigned_abs g.step) in
    elim (cases_lt (unsigned_abs (stop -ℤ from)) (unsigned_abs (to -ℤ from))) [
      | inl early ↦
          let w : unsigned_abs g.width < unsigned_abs g.step = omega (arith, ints) in
          let one : 0 < unsigned_abs g.width = omega (arith, ints) in
          let j : unsigned_abs (stop -ℤ from) ≡ steps_left (unsigned_abs (from -ℤ g.lo) % unsigned_abs g.step) (unsigned_abs g.width) (unsigned_abs g.step) = omega arith in
          let ahead : stop <ℤ g.hi = omega (arith, ints, gap_is stop from below, gap_is to from (omega (arith, ints))) in
          inr (inside_is g from stop wide low below ahead
          ∙ other_left (unsigned_abs (from -ℤ g.lo)) (unsigned_abs g.step) (unsigned_abs g.width) (unsigned_abs (stop -ℤ from)) one w j
          ∙ ap not (sym (first_is g from wide low (omega (arith, ints)))))
      | inr late ↦ inl (omega (arith, ints, gap_is stop from below, gap_is to from (omega (arith, ints))))
    ]

spans_not : (g : Grid1) (from to : ℤ) → g.lo ≤ℤ from → to ≤ℤ g.hi → spans g from to ≡ false → ⊥
spans_not g from to a b e = grind (arith, ints)

-- a grid that has all numbers of the segment, or that does not reach it
pub whole_same : (g : Grid1) (from to x : ℤ) → pos 1 ≤ℤ g.step → pos 1 ≤ℤ g.width → from <ℤ to → NoCut from to g
    → (spans g from to ≡ false) ⊎ (g.step ≤ℤ g.width) → within from to x ≡ true → has_index g x ≡ has_index g from
whole_same g from to x step wide some cut free at = elim (within_is from to x) [
  | inr off ↦ absurd (cc)
  | inl here ↦ elim (has_facts g x wide) [
    | inl xs ↦ elim (has_facts g from wide) [
      | inl fs ↦ elim free [
        | inl no_span ↦ absurd (elim cut.0 [ inl a ↦ elim cut.1 [ inl b ↦ omega (arith, ints) | inr b ↦ spans_not g from to a b no_span ] | inr a ↦ omega (arith, ints) ])
        | inr dense ↦
            let s : 0 < unsigned_abs g.step = omega (arith, ints) in
            let w : unsigned_abs g.step ≤ unsigned_abs g.width = omega (arith, ints) in
            let a = mod_below (unsigned_abs (x -ℤ g.lo)) (unsigned_abs g.step) s in
            let b = mod_below (unsigned_abs (from -ℤ g.lo)) (unsigned_abs g.step) s in
            xs.2 ∙ lt-ltb _ _ (omega arith) ∙ sym (fs.2 ∙ lt-ltb _ _ (omega arith))
      ]
      | inr fs ↦ absurd (elim fs.0 [ inl a ↦ elim cut.0 [ inl b ↦ omega (arith, ints) | inr b ↦ omega (arith, ints) ] | inr a ↦ omega (arith, ints) ])
    ]
    | inr xs ↦ elim (has_facts g from wide) [
      | inl fs ↦ absurd (elim xs.0 [ inl a ↦ omega (arith, ints) | inr a ↦ elim cut.1 [ inl b ↦ omega (arith, ints) | inr b ↦ omega (arith, ints) ] ])
      | inr fs ↦ xs.1 ∙ sym fs.1
    ]
  ]
]

pub spans_parts : (g : Grid1) (from to : ℤ) → spans g from to ≡ true → (g.lo ≤ℤ from) × (to ≤ℤ g.hi)
spans_parts g from to e = (grind (arith, ints), grind (arith, ints))
