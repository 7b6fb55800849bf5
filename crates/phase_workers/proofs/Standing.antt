-- What stands where an index has no cell, as it lies in a heap, is what the machine reads.
use Rattle.std.proofs.Common.{◌≡◌, ℕ, ◌*◌, Bool, true, false, List, ℤ, Option, Some, None, refl, ap, sym, ◌∙◌, subst}
use Rattle.std.specs.Prelude.{IsSomeAnd}
use Rattle.array_with_loops.specs.Cells.{cell_from}
use Rattle.buffer_heap.specs.Heaps.{Content, In, Held, HeapValue, at, IsLive, IsNamed}
use Rattle.counted_code.specs.Values.{Heap, Value, Small, Ref, cells_of, read}
use Rattle.phase_kernels.proofs.Named.{some_there}
use Rattle.phase_loop_cells.specs.Cells.{stands_at}
use Rattle.run_loops.specs.declared.cell_loop.LoopResult.{LoopResult}
use Rattle.run_loops.specs.declared.cell_loop.LoopResult.TheVariants.{Filled, Joined, Folded}
use Rattle.run_store.specs.Stands.{HasContent, StandsFor}
use Rattle.run_values.specs.declared.value.RunValue.{RunValue}
use Rattle.run_values.specs.declared.value.RunValue.TheVariants.{Unbound, Word, Short, Buffer}
use Rattle.run_values.specs.Shown.{base_of, value_of}
use Rattle.sac_base.specs.Arrays.{ArrayValue}
use Rattle.phase_workers.specs.Backgrounds.{HasCells, IsAside, KeptAside, LieIn}

pub read_base : (m : Heap) (v : Value) → (read m v).base ≡ base_of v
read_base m (Small a) = refl
read_base m (Ref b base shape) = refl

-- the same elements, of an array or of its cells
pub stands_in : (old : Bool) (a : ArrayValue) (n place : ℕ) → stands_at old a.cells n place ≡ cell_from old a n place None
stands_in true a n place = refl
stands_in false a n place = refl

some_same : (x y : Held) → ◌≡◌ {A = Option Held} (Some x) (Some y) → x ≡ y
some_same x y e = cc

module _ (h k : HeapValue) (others : (b : ℕ) (x : Held) → at h b ≡ Some x → at k b ≡ Some x) where
  -- what is in stays in
  live_still : (place : ℕ) (M : Held → Type 0) → IsLive h place M → IsLive k place M
  live_still place M live =
      let it = some_there (at h place) M live in
      subst (λ o. IsSomeAnd o M) (sym (others place it.0 it.1)) it.2

  aside_still : (v : RunValue) (cells : List ℤ) → IsAside h v cells → IsAside k v cells
  aside_still (Buffer base id extents) cells live = live_still id.place (IsNamed id.born) live
  aside_still Unbound cells is = is
  aside_still (Word base n) cells is = is
  aside_still (Short base few) cells is = is

  pub kept_still : (result : LoopResult) (cells : List ℤ) → KeptAside h result cells → KeptAside k result cells
  kept_still (Filled v old) cells is = aside_still v cells is
  kept_still Joined cells is = tt
  kept_still (Folded op neutral) cells is = tt

  -- the cells of an array, which was there before, are those that the machine has read before
  module _ (m : Heap) (stands : StandsFor h m) where
    as_machine : (place born : ℕ) (cells : List ℤ) → IsLive h place (IsNamed born) → IsLive k place (HasCells born cells) → cells ≡ cells_of m born
    as_machine place born cells before after =
        let x = some_there (at h place) (IsNamed born) before in
        let y = some_there (at k place) (HasCells born cells) after in
        let same : x.0 ≡ y.0 = some_same x.0 y.0 (sym (others place x.0 x.1) ∙ y.1) in
        let has : HasContent x.0.content (cells_of m x.0.born) = (stands.stored place x.0 x.1).0.1 in
        sym (subst (λ (n : ℕ). cells_of m n ≡ cells) x.2.1 (subst (λ (c : Content). HasContent c (cells_of m x.0.born)) (ap (λ (z : Held). z.content) same ∙ y.2.1) has))

    pub lie_as_read : (v : RunValue) (aside cells : List ℤ) → IsAside h v aside → LieIn k v cells → cells ≡ (read m (value_of v)).cells
    lie_as_read (Buffer base id extents) aside cells before after = as_machine id.place id.born cells before after
    lie_as_read Unbound aside cells before after = after
    lie_as_read (Word base n) aside cells before after = after
    lie_as_read (Short base few) aside cells before after = after
