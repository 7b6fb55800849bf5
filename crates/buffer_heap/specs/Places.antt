-- What stands at a place of the code's heap.
use Rattle.std.specs.Prelude.{◌≡◌, ◌<◌, ℕ, zero, suc, List, ℤ, Option, Some, None, slice_index_or}
use Rattle.buffer_heap.specs.declared.heap.Place.{Place}
use Rattle.buffer_heap.specs.Heaps.{Content, In, Out, Held}

-- the cells, unless they are handed out
abbrev pub content_unless : Option ℕ → List ℤ → Content
content_unless None cells = In cells
content_unless (Some len) cells = Out len

-- a place with count 0 has nothing
abbrev pub held_as : ℕ → ℕ → Content → Option Held
held_as born zero content = None
held_as born (suc n) content = Some (record { born = born; count = suc n; content = content })

abbrev pub held_of : Place → Option Held
held_of p = held_as p.born p.count (content_unless p.out_len p.cells.items)

-- each live buffer has a number below this one, and no two have the same
pub record AreNumbered (births : ℕ) (places : List (Option Held)) : Type 0 where
  pub below : (b : ℕ) (x : Held) → slice_index_or places b None ≡ Some x → x.born < births
  pub single : (b c : ℕ) (x y : Held) → slice_index_or places b None ≡ Some x → slice_index_or places c None ≡ Some y → x.born ≡ y.born → b ≡ c
