-- A core with one function in the place of another.
use Rattle.std.specs.Prelude.{ℕ, zero, suc, List, [], ◌∷◌}
use Rattle.core_ir.specs.Terms.{FunTerm}

-- the functions, with another one at a place
abbrev pub replaced_at : List FunTerm → ℕ → FunTerm → List FunTerm
replaced_at [] n g = []
replaced_at (f ∷ fs) zero g = g ∷ fs
replaced_at (f ∷ fs) (suc n) g = f ∷ replaced_at fs n g
