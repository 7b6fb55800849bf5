-- The array that a value is, by what is known without its cells.
use Rattle.std.proofs.Common.{◌≡◌, ◌∙◌, ℕ, List, map, pos, refl, sym, ap}
use Rattle.std.specs.Prelude.{ℤ, unsigned_abs}
use Rattle.sac_base.proofs.Extents.{abs_pos}
use Rattle.sac_base.specs.declared.base.Base.{Base}
use Rattle.buffer_heap.specs.declared.heap.BufferId.{BufferId}
use Rattle.counted_code.specs.Values.{Heap, Value, Small, Ref, read}
use Rattle.run_values.specs.declared.few.Few.{Few}
use Rattle.run_values.specs.declared.value.RunValue.{RunValue}
use Rattle.run_values.specs.declared.value.RunValue.TheVariants.{Unbound, Word, Short, Buffer}
use Rattle.run_values.specs.Shown.{base_of, shape_of, value_of}
use Rattle.run_loops.specs.Loops.{IsFull}

pub based_as : (w : Value) (m : Heap) → (read m w).base ≡ base_of w
based_as (Small a) m = refl
based_as (Ref b base shape) m = refl

pub shaped_as : (w : Value) (m : Heap) → (read m w).shape ≡ shape_of w
shaped_as (Small a) m = refl
shaped_as (Ref b base shape) m = refl

pub shape_is : (shape : List ℕ) (ns : List ℤ) → map pos shape ≡ ns → shape ≡ map unsigned_abs ns
shape_is shape ns is = sym (abs_pos shape) ∙ ap (map unsigned_abs) is

-- words and short vectors have no buffer
pub full_without : (v : RunValue) (shape : List ℕ) (m : Heap) → ((base : Base) (id : BufferId) (extents : Few) → v ≡ Buffer base id extents → ⊥) → IsFull shape (value_of v) m
full_without Unbound shape m other = tt
full_without (Word base n) shape m other = tt
full_without (Short base few) shape m other = tt
full_without (Buffer base id extents) shape m other = absurd (other base id extents refl)
