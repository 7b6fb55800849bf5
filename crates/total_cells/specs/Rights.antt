-- Right sides that never fault.
use Rattle.std.specs.Prelude.{◌≡◌, ℕ, Bool, true, false, ◌&&◌, ◌||◌, not, List, ℤ, Option}
use Rattle.sac_base.specs.declared.grid.Grid1.{Grid1}
use Rattle.core_ir.specs.Terms.{PlainTerm, RightTerm, Plain}
use Rattle.core_facts.specs.Facts.{Facts, is_some}
use Rattle.core_loops.specs.Indices.{IndexFacts, is_division, no_zero, may_be_row, in_range, total_plain}

-- where the shape of the result is known to be this
abbrev pub total_shaped : List Grid1 → Option (List ℕ) → RightTerm → Facts → IndexFacts → Bool
total_shaped grid shape (Plain (PlainTerm.Const a)) k m = true
total_shaped grid shape (Plain (PlainTerm.Copy x)) k m = true
total_shaped grid shape (Plain (PlainTerm.Unary o x)) k m = is_some shape
total_shaped grid shape (Plain (PlainTerm.Binary o x y)) k m = is_some shape && (not (is_division o) || no_zero (k y).literal)
total_shaped grid shape (Plain (PlainTerm.Literal xs)) k m = may_be_row shape
total_shaped grid shape (Plain (PlainTerm.Dim x)) k m = is_some shape
total_shaped grid shape (Plain (PlainTerm.ShapeOf x)) k m = is_some shape
total_shaped grid shape (Plain (PlainTerm.Select x y)) k m = in_range grid (k x).shape (m y) (k y).literal
total_shaped grid shape _ k m = false

-- a right side without blocks; any other is not total
abbrev pub plain_total : List Grid1 → RightTerm → Facts → IndexFacts → Bool
plain_total grid (Plain p) k m = total_plain grid p k m
plain_total grid _ k m = false
