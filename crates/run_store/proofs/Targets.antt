-- Targets of loops, and cells that are written into them.
use Rattle.std.proofs.Common.{◌≡◌, ◌<◌, ℕ, ◌+◌, Bool, true, false, ◌&&◌, List, [], ◌∷◌, ◌++◌, length, take, drop, ℤ, Option, Some, None, Result, Ok, Err, refl, ap, ◌∙◌, sym, subst, slice_set, arith}
use Rattle.std.specs.Prelude.{IfOk}
use Rattle.std.proofs.lemmas.List.{take-append-drop, take-set, drop-set, length-append, length-take-le, length-drop}
use Rattle.run_store.specs.declared.store.Store.{Store}
use Rattle.buffer_heap.specs.declared.heap.BufferId.{BufferId}
use Rattle.counted_code.specs.Loops.{Inside, claim, claim_new, settled, count_phase, write_cell, written_at}
use Rattle.counted_code.specs.Values.{Heap, Value, Small, Ref, read}
use Rattle.sac_base.specs.declared.form.Form.{Form}
use Rattle.sac_base.specs.declared.memory.Memory.{Memory}
use Rattle.sac_base.specs.Arrays.{ArrayValue, form_of, same_base, same_shape}
use Rattle.sac_base.specs.WithLoops.{fits_form}
use Rattle.run_store.specs.Stands.{Stands, Placed}
use Rattle.run_store.specs.Targets.{target_at, target_of, IsClaimed, IsWritten}
use Rattle.run_store.specs.declared.target.Target.{Target}
use Rattle.run_values.specs.declared.value.RunValue.{RunValue}
use Rattle.run_values.specs.Shown.{value_of, base_of, shape_of}

-- ---- for callers

-- a store stands for machine heaps of any phases
pub phases_stand : (h : Store) (m : Heap) (ps : List ℕ) → Stands h m → Stands h (record m { phases = ps })
phases_stand h m ps stands = (let s = stands.all in record { all = record { stored = s.stored; single = s.single; births = s.births; taken = s.taken; given = s.given; reused = s.reused } })

pub counted_stands : (counts : Bool) (n : ℕ) (h : Store) (m : Heap) → Stands h m → Stands h (count_phase counts n m)
counted_stands false n h m s = s
counted_stands true n h m s = phases_stand h m (m.phases ++ n ∷ []) s

nothing_at : (b : Option BufferId) (k : ℕ) (c : Option ArrayValue) (h : Heap) → write_cell (target_at b) k c h ≡ h
nothing_at None k c h = refl
nothing_at (Some id) k c h = refl

-- no cell is written into the machine's heap while a loop runs that reuses no buffer
pub writes_nothing : (t : Target) (k : ℕ) (c : Option ArrayValue) (h : Heap) → write_cell (target_of t) k c h ≡ h
writes_nothing t k c h = nothing_at t.buffer k c h

pub written_length : (start : ℕ) (part old new : List ℤ) → IsWritten start part old new → length new ≡ length old
written_length start part old new w =
    ap length w.cells ∙ length-append (take start old) (part ++ drop (start + length part) old)
    ∙ omega (arith, length-append part (drop (start + length part) old), length-take-le start old, length-drop (start + length part) old, w.within)

-- ---- claims and results

-- a small result changes no heap
pub inside_claimed : (r : Result Target Memory) (h : Store) (m : Heap) (small : Bool) (n : ℕ) → small ≡ true → IfOk r (λ t. target_of t ≡ Inside) → Stands h m → IfOk r (λ t. IsClaimed t h (claim small None n m))
inside_claimed (Ok t) h m small n e is s = subst (λ b. IsClaimed t h (claim b None n m)) (sym e) (record { target = is; rest = refl; heap = s })
inside_claimed (Err x) h m small n e is s = tt

pub buffer_claimed : (r : Result Target Memory) (h : Store) (m : Heap) (small : Bool) (n k : ℕ) → small ≡ false → n ≡ k → IfOk r (λ t. IsClaimed t h (claim_new n None m)) → IfOk r (λ t. IsClaimed t h (claim small None k m))
buffer_claimed r h m small n k e same is = subst (λ b. IfOk r (λ t. IsClaimed t h (claim b None k m))) (sym e) (subst (λ j. IfOk r (λ t. IsClaimed t h (claim_new j None m))) same is)

pub inside_settled : (r : Result RunValue Memory) (h : Store) (m : Heap) (b : Option BufferId) (a : ArrayValue) → b ≡ None → IfOk r (λ v. value_of v ≡ Small a) → Stands h m → IfOk r (λ v. Placed v h (settled (target_at b) a m))
inside_settled (Ok v) h m b a e is s = subst (λ o. Placed v h (settled (target_at o) a m)) (sym e) (is, s)
inside_settled (Err x) h m b a e is s = tt

-- ---- forms

-- what is asked of a value without its cells
pub form_fits : (form : Form) (m : Heap) (v : Value) → fits_form form (read m v) ≡ (same_base (base_of v) form.base && same_shape (shape_of v) form.shape)
form_fits form m (Small a) = refl
form_fits form m (Ref place base shape) = refl

pub form_is : (m : Heap) (v : Value) → record { base = base_of v; shape = shape_of v } ≡ form_of (read m v)
form_is m (Small a) = refl
form_is m (Ref place base shape) = refl

-- ---- cells

word_cells : (xs : List ℤ) (i : ℕ) (n : ℤ) → i < length xs → slice_set xs i n ≡ written_at i (n ∷ []) xs
word_cells xs i n below =
    sym (take-append-drop i (slice_set xs i n)) ∙ ap (λ ys. ys ++ drop i (slice_set xs i n)) (take-set xs i n) ∙ ap (λ ys. take i xs ++ ys) (drop-set xs i n below)

pub word_written : (xs : List ℤ) (i : ℕ) (n : ℤ) → i < length xs → IsWritten i (n ∷ []) xs (slice_set xs i n)
word_written xs i n below = record { within = omega arith; cells = word_cells xs i n below }
