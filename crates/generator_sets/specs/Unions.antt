-- Parts of a frame that are joined to fewer.
use Rattle.std.specs.Prelude.{◌≡◌, ℕ, ◌+◌, ◌<◌, ◌≤◌, ◌≢◌, ◌&&◌, ◌||◌, true, false, cond, ℤ, ◌≤ℤ◌, List, length, get_or, count_by, position, Option}
use Rattle.std.specs.List.{All}
use Rattle.sac_base.specs.declared.grid.Grid1.{Grid1}
use Rattle.sac_base.specs.Grids.{has_index, has_vector, AreDisjoint}

-- The numbers of the grid are those of the two, which share none.
pub record IsUnion1 (a b g : Grid1) : Type 0 where
  pub members : (x : ℤ) → has_index g x ≡ (has_index a x || has_index b x)
  pub apart : (x : ℤ) → (has_index a x && has_index b x) ≡ false

-- The vectors of the grid are those of the two, which share none.
pub record IsUnion (a b g : List Grid1) : Type 0 where
  pub members : (v : List ℤ) → has_vector g v ≡ (has_vector a v || has_vector b v)
  pub apart : AreDisjoint a b

-- Both have all numbers between their bounds, and the second begins where the first ends.
pub record AreNeighbours (a b : Grid1) : Type 0 where
  pub first_dense : a.step ≤ℤ a.width
  pub second_dense : b.step ≤ℤ b.width
  pub first_bounds : a.lo ≤ℤ a.hi
  pub second_bounds : b.lo ≤ℤ b.hi
  pub meet : a.hi ≡ b.lo

-- The grids have the same numbers on each axis but the k-th.
pub record AreEqualBut (k : ℕ) (a b : List Grid1) : Type 0 where
  pub long : length b ≡ length a
  pub same : (j : ℕ) (d : Grid1) → j < length a → j ≢ k → (x : ℤ) → has_index (get_or a j d) x ≡ has_index (get_or b j d) x

-- a grid and the first generator that has its members
abbrev pub Part : Type 0
Part = List Grid1 × Option ℕ

-- A part names the first generator that has its members.
abbrev pub NamesFirst : List (List Grid1) → Part → Type 0
NamesFirst generators part = (v : List ℤ) → has_vector part.0 v ≡ true → part.1 ≡ position (λ g. has_vector g v) generators

-- in how many of the parts the vector is
abbrev pub times_part : List Part → List ℤ → ℕ
times_part parts v = count_by (λ part. has_vector part.0 v) parts

-- The list with one more part, which may be joined to one of the list.
pub record IsAdded (part : Part) (old new : List Part) : Type 0 where
  pub times : (v : List ℤ) → times_part new v ≡ times_part old v + cond (has_vector part.0 v) 1 0
  pub first : (generators : List (List Grid1)) → All (NamesFirst generators) old → NamesFirst generators part → All (NamesFirst generators) new
  pub few : length new ≤ length old + 1

-- Each vector is in as many parts as before, the parts still name their first generators, and there are not more.
pub record IsMerged (old new : List Part) : Type 0 where
  pub times : (v : List ℤ) → times_part new v ≡ times_part old v
  pub first : (generators : List (List Grid1)) → All (NamesFirst generators) old → All (NamesFirst generators) new
  pub few : length new ≤ length old
