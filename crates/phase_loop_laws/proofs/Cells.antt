-- Cells that stand alone, in heaps whose numbers may be any.
use Rattle.std.proofs.Common.{◌≡◌, ℕ, ◌+◌, List, [], length, ℤ, Option, Ok, Err, refl, ap, ◌∙◌, sym, subst, arith}
use Rattle.sac_base.specs.declared.faults.Fault.{Fault}
use Rattle.sac_base.specs.declared.form.Form.{Form}
use Rattle.sac_base.specs.Arrays.{ArrayValue}
use Rattle.sac_base.specs.Outcomes.{Ends}
use Rattle.sac_base.specs.WithLoops.{each}
use Rattle.counted_code.specs.Loops.{Source, Target, cells_do, write_cell}
use Rattle.counted_code.specs.Values.{Heap, Ended, Done, Failed, count_of}
use Rattle.counted_laws.specs.Simulation.{live, Owns}
use Rattle.phase_laws.specs.Alone.{Leaves, IsNew}
use Rattle.phase_laws.specs.Growing.{EndsGrown}
use Rattle.phase_laws.specs.Numbers.{afresh, with_more, ends_with_more}
use Rattle.phase_laws.specs.Spending.{total}
use Rattle.phase_laws.proofs.Blind.{cells_blind}
use Rattle.phase_laws.proofs.Cells.{cells_leave}
use Rattle.phase_laws.proofs.Growing.{cells_grow}
use Rattle.phase_loop_laws.specs.Ordered.{balanced, StandsAlone, Passed, EndsWith}

-- a heap is what it is with numbers anew, and its own numbers more
own_numbers : (h : Heap) → h ≡ with_more h.taken h.given h.reused (afresh h)
own_numbers h = λ i. record h { taken = none h.taken i; given = none h.given i; reused = none h.reused i }
  where
    none : (n : ℕ) → n ≡ 0 + n
    none n = omega arith

-- what a run ends with, by what the cells end with
abbrev pub EndsAs : {A : Type 0} → ℕ → Heap → Ended A → Ends A → Type 0
EndsAs n h (Done a k) (Ok b) = (a ≡ b) × Passed n h k
EndsAs n h (Failed f phases) (Err g) = (f ≡ g) × (phases ≡ h.phases)
EndsAs _ _ _ _ = ⊥

-- the same run with the heap's own numbers and with those that are balanced
renumbered : {A : Type 0} (n : ℕ) (h : Heap) (e : Ended A) (r : Ends A) → Leaves (λ b. count_of h b) n (balanced h) (ends_with_more (h.given + live h.buffers) h.given h.reused e) r → EndsGrown h (ends_with_more h.taken h.given h.reused e) → EndsAs n h (ends_with_more h.taken h.given h.reused e) r
renumbered n h (Done a k) (Ok b) p grown = (
  p.0,
  record {
    taken = ap (λ x. x + h.taken) took ∙ swapped n h.taken;
    given = p.1.given;
    reused = p.1.reused;
    phases = p.1.phases;
    places = more took grown;
    counts = λ b. alone (p.1.owns.0 b);
    buffers = p.1.buffers;
  },
)
  where
    took : k.taken ≡ n
    took = let e = p.1.taken in omega (arith, e)

    swapped : (x y : ℕ) → x + y ≡ y + x
    swapped x y = omega arith

    more : k.taken ≡ n → length k.buffers + h.taken ≡ length h.buffers + (k.taken + h.taken) → length k.buffers ≡ length h.buffers + n
    more e f = omega (arith, e, f)

    alone : {x y : ℕ} → x ≡ 0 + y → x ≡ y
    alone {x} {y} e = omega (arith, e)
renumbered n h (Failed f ps) (Err g) p grown = p
renumbered n h (Done a k) (Err g) p grown = elim p [ ]
renumbered n h (Failed f ps) (Ok b) p grown = elim p [ ]

-- the heap owns what it has references to
pub owns_itself : (h : Heap) → Owns (balanced h) [] (λ b. count_of h b)
owns_itself h = ((λ b. none (count_of h b)), refl)
  where
    none : (x : ℕ) → x ≡ 0 + x
    none x = omega arith

module _ (h : Heap) (form : Form) (source : List ℤ → Option Source) (cell : List ℤ → Ends (Option ArrayValue)) (takes : List ℤ → ℕ) (stands : StandsAlone h form source cell takes) (t : Target) (new : IsNew t) (place : ℕ) (vs : List (List ℤ)) where
  abbrev run : Heap → Ended (List (Option ArrayValue))
  run k = cells_do form source (write_cell t) place vs k

  numbered : (k : Heap) → run k ≡ ends_with_more k.taken k.given k.reused (run (afresh k))
  numbered k = ap run (own_numbers k) ∙ cells_blind form source stands.blind t place vs k.taken k.given k.reused (afresh k)

  pub cells_end : EndsAs (total takes vs) h (run h) (each cell vs)
  cells_end =
      subst (λ m. EndsAs (total takes vs) h m (each cell vs)) (sym (numbered h))
      (renumbered (total takes vs) h (run (afresh h)) (each cell vs)
      (subst (λ m. Leaves (λ b. count_of h b) (total takes vs) (balanced h) m (each cell vs)) (numbered (balanced h))
      (cells_leave (λ b. count_of h b) (balanced h) form source cell takes stands.alone t new place vs (balanced h) (owns_itself h) (λ b le. refl)))
      (subst (EndsGrown h) (numbered h) (cells_grow form source stands.grows t place vs h)))

-- ---- by what the cells come to

pub ends_with : {A : Type 0} (n : ℕ) (h : Heap) (m : Ended A) (r : Ends A) (a : A) → EndsAs n h m r → r ≡ Ok a → EndsWith a n h m
ends_with {A} n h m r a p e = go m (subst (EndsAs n h m) e p)
  where
    go : (m : Ended A) → EndsAs n h m (Ok a) → EndsWith a n h m
    go (Done b k) p = record { heap = k; ends = λ i. Done (p.0 i) k; passed = p.1 }
    go (Failed f ps) p = elim p [ ]

pub fails_with : {A : Type 0} (n : ℕ) (h : Heap) (m : Ended A) (r : Ends A) (f : Fault) → EndsAs n h m r → r ≡ Err f → m ≡ Failed f h.phases
fails_with {A} n h m r f p e = go m (subst (EndsAs n h m) e p)
  where
    go : (m : Ended A) → EndsAs n h m (Err f) → m ≡ Failed f h.phases
    go (Failed g ps) p = λ i. Failed (p.0 i) (p.1 i)
    go (Done b k) p = elim p [ ]
