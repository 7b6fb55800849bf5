-- What is written into a buffer that was taken over.
use Rattle.std.proofs.Common.{◌≡◌, ℕ, ◌+◌, [], ◌∷◌, refl, sym, Result, Ok, Err, OnOk, Some}
use Rattle.std.specs.Prelude.{ℤ}
use Rattle.std.proofs.Math.Nat.{mul-one}
use Rattle.sac_base.specs.declared.base.Base.{Base}
use Rattle.sac_base.specs.declared.memory.Memory as memory
use Rattle.sac_base.specs.Arrays.{scalar}
use Rattle.counted_code.specs.Loops.{Old, write_cell, written_at}
use Rattle.counted_code.specs.Values.{Heap, cells_of, with_cells}
use Rattle.phase_count.proofs.Tallying.{counts_as}
use Rattle.run_store.specs.Stands.{Stands}
use Rattle.run_loops.specs.declared.state.State.{State}
use Rattle.run_loops.specs.Running.{IsAt}

-- a scalar cell is its element
pub word_written : (b place : ℕ) (base : Base) (z : ℤ) (m : Heap) → with_cells m b (written_at place (z ∷ []) (cells_of m b)) ≡ write_cell (Old b) place (Some (scalar base z)) m
word_written b place base z m = λ i. with_cells m b (written_at (sym (mul-one place) i) (z ∷ []) (cells_of m b))

-- a buffer that counts as reused
pub reused_stands : (r : Result (Unit {0}) memory.Memory) (u v : State) (m : Heap) → v.phases ≡ u.phases → OnOk r (Stands v.heap (record m { reused = m.reused + 1 })) → IsAt u m → OnOk r (IsAt v (record m { reused = m.reused + 1 }))
reused_stands (Ok done) u v m same stands at = record { heap = stands; phases = counts_as u.phases v.phases m.phases m.phases same refl at.phases }
reused_stands (Err e) u v m same stands at = tt
