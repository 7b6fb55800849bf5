-- The laws of pieces and of their count.
use Rattle.std.specs.Prelude.{◌≡◌, ◌↔◌, ℕ, ℤ, List, Bool, true}
use Rattle.std.specs.List.{Any, AllPairs}
use Rattle.sac_base.specs.declared.grid.Grid1.{Grid1}
use Rattle.sac_base.specs.Grids.{has_vector, SplitsVectors, AreDisjoint}
use Rattle.generator_sets.specs.Counts.{IsCanonicalCount}

-- some piece has a vector exactly where the set has it
abbrev pub PiecesAreTheSet : Type 0
PiecesAreTheSet =
    (pieces : List (List Grid1)) (set : List ℤ → Bool) (v : List ℤ) → SplitsVectors pieces set →
    Any (λ p. has_vector p v ≡ true) pieces ↔ (set v ≡ true)

-- and no two pieces share one
abbrev pub PiecesAreDisjoint : Type 0
PiecesAreDisjoint =
    (pieces : List (List Grid1)) (set : List ℤ → Bool) → SplitsVectors pieces set → AllPairs AreDisjoint pieces

-- there is a greatest period and a canonical count
abbrev pub SomeCount : Type 0
SomeCount =
    (generators : List (List Grid1)) (frame : List Grid1) → (greatest : ℕ) × ((count : ℕ) × IsCanonicalCount generators 0 frame greatest count)

-- and only one of each
abbrev pub OneCount : Type 0
OneCount =
    (generators : List (List Grid1)) (frame : List Grid1) (g n : ℕ) → IsCanonicalCount generators 0 frame g n → (h m : ℕ) →
    IsCanonicalCount generators 0 frame h m → (h ≡ g) × (m ≡ n)
