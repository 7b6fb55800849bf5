-- Pieces of a grid that lie, moved by vectors, as a whole in one of some grids.
use Rattle.std.specs.Prelude.{◌≡◌, ℕ, zero, suc, ◌&&◌, ◌^◌, Bool, true, false, List, [], ◌∷◌, map, ℤ, pos, ◌-ℤ◌, ◌+ℤ◌, ◌≤ℤ◌, Vec}
use Rattle.std.specs.List.{All, list_all, list_any}
use Rattle.std.specs.declared.alloc.Global.{Global}
use Rattle.sac_base.specs.declared.grid.Grid1.{Grid1}
use Rattle.sac_base.specs.Grids.{has_vector}
use Rattle.generator_sets.specs.Pieces.{lows, moved}

-- vectors as the code holds them
abbrev pub vectors : List (Vec ℤ Global) → List (List ℤ)
vectors offsets = map (λ (c : Vec ℤ Global). c.items) offsets

-- ---- bounds that can be moved

-- the axis moved by minus a number
abbrev pub axis_back : ℤ → Grid1 → Grid1
axis_back c g = record g { lo = g.lo -ℤ c; hi = g.hi -ℤ c }

-- at most 2 ^ 62 away from 0, so that a number of 32 bits can be taken from it
pub record IsNear (x : ℤ) : Type 0 where
  pub low : pos 0 ≤ℤ (x +ℤ pos (2 ^ 62))
  pub high : x ≤ℤ pos (2 ^ 62)

pub record IsNearAxis (g : Grid1) : Type 0 where
  pub from : IsNear g.lo
  pub to : IsNear g.hi

abbrev pub AreNear : List (List Grid1) → Type 0
AreNear grids = All (All IsNearAxis) grids

-- ---- the grid that holds a vector

-- this is the number of the first grid that has the vector
abbrev pub HasFirst : List (List Grid1) → List ℤ → ℕ → Type 0
HasFirst [] v j = ⊥
HasFirst (g ∷ gs) v zero = has_vector g v ≡ true
HasFirst (g ∷ gs) v (suc j) = (has_vector g v ≡ false) × HasFirst gs v j

-- one number for each offset: of the first grid that has the vector so moved
abbrev pub HaveFirst : List (List Grid1) → List ℤ → List (List ℤ) → List ℕ → Type 0
HaveFirst grids v [] [] = Unit {0}
HaveFirst grids v [] (j ∷ js) = ⊥
HaveFirst grids v (c ∷ cs) [] = ⊥
HaveFirst grids v (c ∷ cs) (j ∷ js) = HasFirst grids (moved v c) j × HaveFirst grids v cs js

-- some grid has the vector, by whatever offset it is moved
abbrev pub is_held : List (List Grid1) → List (List ℤ) → List ℤ → Bool
is_held grids at v = list_all (λ c. list_any (λ g. has_vector g (moved v c)) grids) at

-- the first vector of a piece lies in the grid, and is held
abbrev pub is_kept : List Grid1 → List (List Grid1) → List (List ℤ) → List Grid1 → Bool
is_kept grid grids at piece = has_vector grid (lows piece) && is_held grids at (lows piece)

-- the same for all members of a piece
abbrev pub Hold : List (List Grid1) → List (List ℤ) → List Grid1 → List ℕ → Type 0
Hold grids at piece js = (v : List ℤ) → has_vector piece v ≡ true → HaveFirst grids v at js
