-- Values of a heap that lends its buffers.
use Rattle.std.proofs.Common.{◌≡◌, ℕ, ℤ, List, refl, ap, sym}
use Rattle.buffer_heap.specs.Heaps.{HeapValue, In, IsLive, IsNamed, at, content_of}
use Rattle.counted_code.specs.Values.{Value, Small, Ref}
use Rattle.phase_loop_cells.specs.Opened.{lent_array}
use Rattle.run_kernels.specs.Scopes.{IsShown}
use Rattle.phase_kernels.proofs.Named.{AreSingle, cells_named}

-- what such a heap is told to have is what it lends
pub shown_lent : (h : HeapValue) → AreSingle h.places → (v : Value) → IsShown (λ born cells. (place : ℕ) × IsLive h place (IsNamed born) × (content_of (at h place) ≡ In cells)) v (lent_array h v)
shown_lent h single (Small a) = refl
shown_lent h single (Ref born base shape) = λ cells there.
    ap (λ zs. record { base = base; shape = shape; cells = zs }) (cells_named h there.0 born cells single there.1 there.2)
