-- Right sides that are known to have a value.
use Rattle.std.specs.Prelude.{ℕ, Bool, ◌&&◌, ◌||◌, not, List, [], ◌∷◌, ℤ, Option}
use Rattle.core_ir.specs.Terms.{PlainTerm, RightTerm, Plain}
use Rattle.core_facts.specs.Facts.{Facts, is_some}
use Rattle.core_loops.specs.Indices.{Other, is_division, no_zero, may_be_row, in_range}
use Rattle.core_forms.specs.cleaning.Unused.{never_faults}

-- whether the right side is known to have a value, where the shape of its value is known to be this
abbrev pub removable_shaped : Option (List ℕ) → RightTerm → Facts → Bool
removable_shaped shape (Plain (PlainTerm.Binary o x y)) k = is_some shape && (not (is_division o) || no_zero (k y).literal)
removable_shaped shape (Plain (PlainTerm.Literal xs)) k = may_be_row shape
removable_shaped shape (Plain (PlainTerm.Select x y)) k = in_range [] (k x).shape Other (k y).literal
removable_shaped shape r k = never_faults r
