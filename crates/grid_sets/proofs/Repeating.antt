use Rattle.std.proofs.Common.{◌≡◌, ℕ, ◌+◌, ◌*◌, ◌/◌, ◌%◌, ◌<◌, ◌≤◌, ◌⊎◌, inl, inr, arith, sym, ap, subst, ◌∙◌, nat_lt}
use Rattle.std.specs.Prelude.{ℤ, pos, ◌+ℤ◌, ◌-ℤ◌, ◌≤ℤ◌, unsigned_abs, int_le, true, false}
use Rattle.std.proofs.lemmas.Int.{ints}
use Rattle.std.proofs.lemmas.Bool.{lt-ltb}
use Rattle.std.proofs.lemmas.Nat.{mod_below, div-add-mod'}
use Rattle.std.proofs.Math.Nat.{mod-le}
use Rattle.sac_base.specs.Grids.{has_index, within}
use Rattle.grid_sets.specs.Segments.{NoCut, IsMultipleFor, spans, steps_of}
use Rattle.sac_base.specs.declared.grid.Grid1.{Grid1}
use Rattle.sac_base.proofs.GridFacts.{gap_is, within_is, has_facts}
use Rattle.grid_sets.proofs.Residues.{residue_again}

-- In the segment the members of the grid repeat with the period.
abbrev pub Repeats : ℤ → ℤ → ℕ → Grid1 → Type 0
Repeats from to period g = (x : ℤ) → within from to x ≡ true → has_index g x ≡ has_index g (from +ℤ pos (unsigned_abs (x -ℤ from) % period))

cases_step : (s w : ℤ) → ((int_le s w ≡ true) × (s ≤ℤ w)) ⊎ (int_le s w ≡ false)
cases_step s w = grind (arith, ints)

blocks_of : (p s t : ℕ) → s ≡ t → p % s ≡ 0 → p ≡ p / t * t
blocks_of p s t e h =
    let f : p % t ≡ 0 = subst (λ k. p % k ≡ 0) e h in
    omega (arith, div-add-mod' p t)

-- a grid that spans the segment repeats with each multiple of its step
pub repeats_in : (g : Grid1) (from to : ℤ) (p : ℕ) → pos 1 ≤ℤ g.step → pos 1 ≤ℤ g.width → g.lo ≤ℤ from → to ≤ℤ g.hi
    → 0 < p → p % steps_of g ≡ 0 → Repeats from to p g
repeats_in g from to p step wide low high some whole x inside = elim (within_is from to x) [
  | inr off ↦ absurd (cc)
  | inl at ↦
      let n : ℕ = unsigned_abs (x -ℤ from) in
      let y : ℤ = from +ℤ pos (unsigned_abs (x -ℤ from) % p) in
      let gap = gap_is x from at.0 in
      let less = mod-le (unsigned_abs (x -ℤ from)) p in
      elim (has_facts g x wide) [
        | inr off ↦ absurd (elim off.0 [ inl a ↦ omega (arith, ints) | inr b ↦ omega (arith, ints) ])
        | inl xs ↦ elim (has_facts g (from +ℤ pos (unsigned_abs (x -ℤ from) % p)) wide) [
          | inr off ↦ absurd (elim off.0 [ inl a ↦ omega (arith, ints) | inr b ↦ omega (arith, ints) ])
          | inl ys ↦ xs.2 ∙ elim (cases_step g.step g.width) [
            | inl all ↦
                let w : unsigned_abs g.step ≤ unsigned_abs g.width = omega (arith, ints) in
                let s : 0 < unsigned_abs g.step = omega (arith, ints) in
                let a = mod_below (unsigned_abs (x -ℤ g.lo)) (unsigned_abs g.step) s in
                let b = mod_below (unsigned_abs ((from +ℤ pos (unsigned_abs (x -ℤ from) % p)) -ℤ g.lo)) (unsigned_abs g.step) s in
                lt-ltb _ _ (omega arith) ∙ sym (ys.2 ∙ lt-ltb _ _ (omega arith))
            | inr not_all ↦
                let s : steps_of g ≡ unsigned_abs g.step = rw not_all in
                let d : ℕ = unsigned_abs (from -ℤ g.lo) in
                let dx : unsigned_abs (x -ℤ g.lo) ≡ unsigned_abs (from -ℤ g.lo) + unsigned_abs (x -ℤ from) = omega (arith, ints) in
                let dy : unsigned_abs ((from +ℤ pos (unsigned_abs (x -ℤ from) % p)) -ℤ g.lo) ≡ unsigned_abs (from -ℤ g.lo) + unsigned_abs (x -ℤ from) % p = omega (arith, ints) in
                let blocks : p ≡ p / unsigned_abs g.step * unsigned_abs g.step = blocks_of p (steps_of g) (unsigned_abs g.step) s whole in
                let again = residue_again (unsigned_abs (from -ℤ g.lo)) (unsigned_abs (x -ℤ from)) p (unsigned_abs g.step) (p / unsigned_abs g.step) blocks in
                ap (λ k. nat_lt k (unsigned_abs g.width)) (ap (λ k. k % unsigned_abs g.step) dx ∙ again ∙ ap (λ k. k % unsigned_abs g.step) (sym dy)) ∙ sym ys.2
          ]
        ]
      ]
]

-- a grid that does not reach the segment
pub repeats_out : (g : Grid1) (from to : ℤ) (p : ℕ) → pos 1 ≤ℤ g.width → (g.hi ≤ℤ from) ⊎ (to ≤ℤ g.lo) → Repeats from to p g
repeats_out g from to p wide away x inside = elim (within_is from to x) [
  | inr off ↦ absurd (cc)
  | inl at ↦
      let gap = gap_is x from at.0 in
      let less = mod-le (unsigned_abs (x -ℤ from)) p in
      elim (has_facts g x wide) [
        | inl off ↦ absurd (elim away [ inl a ↦ omega (arith, ints) | inr b ↦ omega (arith, ints) ])
        | inr xs ↦ elim (has_facts g (from +ℤ pos (unsigned_abs (x -ℤ from) % p)) wide) [
          | inl off ↦ absurd (elim away [ inl a ↦ omega (arith, ints) | inr b ↦ omega (arith, ints) ])
          | inr ys ↦ xs.1 ∙ sym ys.1
        ]
      ]
]

spans_true : (g : Grid1) (from to : ℤ) → g.lo ≤ℤ from → to ≤ℤ g.hi → spans g from to ≡ true
spans_true g from to h k = grind (arith, ints)

-- a grid that neither begins nor ends inside the segment
pub clear_repeats : (g : Grid1) (from to : ℤ) (p : ℕ) → pos 1 ≤ℤ g.step → pos 1 ≤ℤ g.width → 0 < p → NoCut from to g → IsMultipleFor p from to g → Repeats from to p g
clear_repeats g from to p step wide some cut multiple = elim cut.1 [
  | inl before ↦ repeats_out g from to p wide (inl before)
  | inr high ↦ elim cut.0 [
    | inr after ↦ repeats_out g from to p wide (inr after)
    | inl low ↦ repeats_in g from to p step wide low high some (multiple (spans_true g from to low high))
  ]
]
