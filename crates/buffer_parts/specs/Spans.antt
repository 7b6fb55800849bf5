-- Where a part lies and what its cells hold, and parts that lie side by side.
use Rattle.std.specs.Prelude.{◌≡◌, ℕ, zero, suc, ◌-◌, min, List, [], ◌∷◌, ◌++◌, length, map}
use Rattle.std.specs.Mem.Slots.{slots_items, slots_ptr, slots_len, IsFull}
use Rattle.core.specs.declared.slots.Slots.{Slots}
use Rattle.std.specs.Ptr.{ptr_add}
use denote.RattleType.{RattleType}
use denote.RawPtr.{Ptr, null_ptr}

pub record Span (T : Type 0) : Type 0 where
  pub start : Ptr
  pub cells : List T

abbrev pub span_of : {T : Type 0} → Ptr → List T → Span T
span_of p xs = record { start = p; cells = xs }

-- the row has these cells, all of them, in this place
abbrev pub IsRowOf : {T : Type 0} → Slots T → Span T → Type 0
IsRowOf row x = (slots_ptr row ≡ x.start) × (slots_len row ≡ length x.cells) × (slots_items row ≡ x.cells) × IsFull row

-- the cells may be others, but they lie in the same place and are as many
abbrev pub KeepsPlace : {T : Type 0} → Span T → Span T → Type 0
KeepsPlace old new = (new.start ≡ old.start) × (length new.cells ≡ length old.cells)

-- the same of the parts of two lists, one by one
abbrev pub KeepPlaces : {T : Type 0} → List (Span T) → List (Span T) → Type 0
KeepPlaces [] [] = Unit {0}
KeepPlaces [] (y ∷ ys) = ⊥
KeepPlaces (x ∷ xs) [] = ⊥
KeepPlaces (x ∷ xs) (y ∷ ys) = KeepsPlace x y × KeepPlaces xs ys

-- the cells of the parts, one part after another
abbrev pub joined : {T : Type 0} → List (Span T) → List T
joined [] = []
joined (x ∷ xs) = x.cells ++ joined xs

-- The parts lie side by side, the first of them at p; next n p is the place after n cells at p.
abbrev pub Beside : {T : Type 0} → (ℕ → Ptr → Ptr) → Ptr → List (Span T) → Type 0
Beside next p [] = Unit {0}
Beside next p (x ∷ xs) = (x.start ≡ p) × Beside next (next (length x.cells) p) xs

abbrev pub SideBySide : (R : RattleType) → Ptr → List (Span R.Denot) → Type 0
SideBySide R p xs = Beside (ptr_add R) p xs

-- where the first of the parts begins
abbrev pub start_of : {T : Type 0} → List (Span T) → Ptr
start_of [] = null_ptr
start_of (x ∷ xs) = x.start

-- the lengths of count parts of n cells in all, each as long as size where there are as many
abbrev pub lengths : ℕ → ℕ → ℕ → List ℕ
lengths size zero n = []
lengths size (suc count) n = min size n ∷ lengths size count (n - size)

-- The parts lie side by side in the place of the whole, and their cells are its cells: count parts of size cells, the last of which may have fewer.
pub record IsCutBy {T : Type 0} (next : ℕ → Ptr → Ptr) (whole : Span T) (size count : ℕ) (parts : List (Span T)) : Type 0 where
  pub side : Beside next whole.start parts
  pub cells : joined parts ≡ whole.cells
  pub lengths : map (λ p. length p.cells) parts ≡ lengths size count (length whole.cells)

abbrev pub IsCut : (R : RattleType) → Span R.Denot → (size count : ℕ) → List (Span R.Denot) → Type 0
IsCut R whole size count parts = IsCutBy (ptr_add R) whole size count parts
