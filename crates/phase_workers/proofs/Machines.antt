-- A heap of the machine that a heap of buffers stands for.
use Rattle.std.proofs.Common.{◌≡◌, ℕ, zero, suc, ◌+◌, ◌<◌, ◌%◌, ◌^◌, Bool, true, false, eqb, List, [], ◌∷◌, ◌++◌, length, replicate, ℤ, pos, Option, Some, None, refl, ap, ◌∙◌, sym, subst, slice_index_or, arith}
use Rattle.std.proofs.lemmas.Bool.{eqb-true, eqb-false}
use Rattle.std.proofs.lemmas.List.{length_push, get_or_push, get_or_append_left, length-replicate}
use Rattle.buffer_heap.specs.Heaps.{Content, In, Out, Held, HeapValue, at}
use Rattle.counted_code.specs.Values.{Buffer, no_buffer, Heap, buffer_at}
use Rattle.run_store.specs.Stands.{HasContent, Stored, StandsFor}
use Rattle.phase_loop_cells.specs.Opened.{named}
use Rattle.phase_kernels.proofs.Named.{AreSingle, named_there}

-- ---- the heap of the machine

abbrev cells_as : Content → List ℤ
cells_as (In cells) = cells
cells_as (Out len) = replicate len (pos 0)

has_cells : (c : Content) → HasContent c (cells_as c)
has_cells (In cells) = refl
has_cells (Out len) = length-replicate len (pos 0)

abbrev buffer_as : Option Held → Buffer
buffer_as None = no_buffer
buffer_as (Some x) = record { count = x.count; cells = cells_as x.content }

-- the buffers of the first n numbers
abbrev buffers_to : HeapValue → ℕ → List Buffer
buffers_to h zero = []
buffers_to h (suc n) = buffers_to h n ++ buffer_as (named h.places n) ∷ []

length_to : (h : HeapValue) (n : ℕ) → length (buffers_to h n) ≡ n
length_to h zero = refl
length_to h (suc n) = length_push (buffers_to h n) (buffer_as (named h.places n)) ∙ (let rest = length_to h n in let e : length (buffers_to h n) + 1 ≡ suc n = omega (arith, rest) in e)

lower : (b n : ℕ) → b < suc n → (b ≡ n → ⊥) → b < n
lower b n low apart = go (eqb b n) refl
  where
    go : (r : Bool) → eqb b n ≡ r → b < n
    go true e = elim (apart (eqb-true b n e)) [ ]
    go false e = let other = eqb-false b n e in omega (arith, low, other)

there_to : (h : HeapValue) (n b : ℕ) → b < n → slice_index_or (buffers_to h n) b no_buffer ≡ buffer_as (named h.places b)
there_to h zero b low = absurd (omega (arith, low))
there_to h (suc n) b low = go (eqb b n) refl (there_to h n b)
  where
    go : (r : Bool) → eqb b n ≡ r → (b < n → slice_index_or (buffers_to h n) b no_buffer ≡ buffer_as (named h.places b)) → slice_index_or (buffers_to h n ++ buffer_as (named h.places n) ∷ []) b no_buffer ≡ buffer_as (named h.places b)
    go true e before =
        get_or_push (buffers_to h n) (buffer_as (named h.places n)) no_buffer b (length_to h n ∙ sym (eqb-true b n e)) ∙ ap (λ k. buffer_as (named h.places k)) (sym (eqb-true b n e))
    go false e before =
        let below : b < n = lower b n low (eqb-false b n e) in
        get_or_append_left (buffers_to h n) (buffer_as (named h.places n) ∷ []) no_buffer b (subst (λ k. b < k) (sym (length_to h n)) below) ∙ before below

module _ (h : HeapValue) where
  abbrev pub machine_of : Heap
  machine_of = record { buffers = buffers_to h h.births; taken = h.taken; given = h.given; reused = h.reused; phases = [] }

  module _ (below : (b : ℕ) (x : Held) → at h b ≡ Some x → x.born < h.births) (single : AreSingle h.places) (counters : (h.taken < 2 ^ 64) × (h.given < 2 ^ 64) × (h.reused < 2 ^ 64)) where
    stored_there : (b : ℕ) (x : Held) → at h b ≡ Some x → Stored (buffer_at machine_of x.born) x
    stored_there b x is =
        let there : buffer_at machine_of x.born ≡ buffer_as (Some x) = there_to h h.births x.born (below b x is) ∙ ap buffer_as (named_there h.places b x single is) in
        subst (λ (y : Buffer). Stored y x) (sym there) (refl, has_cells x.content)

    small : (n : ℕ) → n < 2 ^ 64 → n ≡ n % 2 ^ 64
    small n low = omega (arith, low)

    -- the heap stands for it
    pub stands_for_machine : StandsFor h machine_of
    stands_for_machine = record {
      stored = λ b x is. (stored_there b x is, subst (λ n. x.born < n) (sym (length_to h h.births)) (below b x is));
      single = single;
      births = sym (length_to h h.births);
      taken = small h.taken counters.0;
      given = small h.given counters.1;
      reused = small h.reused counters.2;
    }
