-- What a cut of a part's grid says.
use Rattle.std.specs.Prelude.{◌≡◌, ℕ, ◌≤◌, Bool, true, ◌&&◌, List, [], ◌∷◌, length, ℤ, pos}
use Rattle.std.specs.Ordering.{int_eq}
use Rattle.std.specs.List.{All, list_all}
use Rattle.sac_base.specs.declared.grid.Grid1.{Grid1}
use Rattle.sac_base.specs.Grids.{has_vector, members, SplitsVectors}
use Rattle.core_ir.specs.WellFormed.{Covered}
use Rattle.core_loops.specs.Loops.{grid_range}
use Rattle.core_loops.specs.Pairs.{all_moved_back, box_range}
use Rattle.generator_sets.specs.Counts.{IsCanonicalCount}
use Rattle.generator_sets.specs.Pieces.{in_box, moved, IsUniformVector}
use Rattle.fold_pieces.specs.declared.keeping.FoldPiece.{FoldPiece}
use Rattle.fold_pieces.specs.Kept.{grids_in}
use Rattle.fold_pieces.specs.Pieces.{Hold}

abbrev pub IsDense : List Grid1 → Type 0
IsDense frame = All (λ (axis : Grid1). axis.step ≡ pos 1) frame

-- the same as a test
abbrev pub have_step_one : List Grid1 → Bool
have_step_one [] = true
have_step_one (axis ∷ axes) = int_eq axis.step (pos 1) && have_step_one axes

-- each member of the grid, moved by any of the vectors, lies in the frame
abbrev pub IsInside : List Grid1 → List Grid1 → List (List ℤ) → Type 0
IsInside frame grid at = All (λ (c : List ℤ). list_all (λ v. has_vector frame (moved v c)) (members grid) ≡ true) at

-- The box of the grid, cut by the grid and by grids that are moved back, has this canonical count, and no period is above 4,096.
pub record HasCount (grid : List Grid1) (grids : List (List Grid1)) (at : List (List ℤ)) (count : ℕ) : Type 0 where
  pub frame : List Grid1
  pub box : grid_range frame ≡ box_range grid
  pub greatest : ℕ
  pub counted : IsCanonicalCount (grid ∷ all_moved_back at grids) 0 frame greatest count
  pub fine : greatest ≤ 4096

-- The pieces split the box of a frame, each generator has all of a piece or nothing, and there are as many as the canonical count.
pub record IsUniformCut (generators : List (List Grid1)) (frame : List Grid1) (pieces : List (List Grid1)) : Type 0 where
  pub split : SplitsVectors pieces (in_box frame)
  pub uniform : All (IsUniformVector generators) pieces
  pub due : (greatest count : ℕ) → IsCanonicalCount generators 0 frame greatest count → (greatest ≤ 4096) × (count ≤ 64)
  pub count : (greatest count : ℕ) → IsCanonicalCount generators 0 frame greatest count → length pieces ≡ count

pub record IsCut (frame grid : List Grid1) (grids : List (List Grid1)) (at : List (List ℤ)) (pieces : List FoldPiece) (count : ℕ) : Type 0 where
  pub inside : IsInside frame grid at
  pub counted : HasCount grid grids at count
  pub few : count ≤ 64
  -- each member of the grid lies in one piece, and no other vector in any
  pub split : Covered frame grids → SplitsVectors (grids_in pieces) (has_vector grid)
  -- for each offset the first grid that has the piece so moved has all of it
  pub held : All (λ (p : FoldPiece). Hold grids at p.grid p.holders.items) pieces

-- There is a cut.
pub record HasCut (frame grid : List Grid1) (grids : List (List Grid1)) (at : List (List ℤ)) : Type 0 where
  pub inside : IsInside frame grid at
  pub count : ℕ
  pub counted : HasCount grid grids at count
  pub few : count ≤ 64
