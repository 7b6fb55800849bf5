-- What is known of the values of a right side, wherever it stands.
use Rattle.std.specs.Prelude.{◌≡◌, ℕ, List, Option}
use Rattle.core_ir.specs.Terms.{RightTerm}
use Rattle.core_facts.specs.Facts.{Fact, Facts, right_facts}

abbrev pub IsKnownAnywhere : RightTerm → List Fact → Type 0
IsKnownAnywhere r facts = (called : ℕ → List (Option (List ℕ))) (k : Facts) → facts ≡ right_facts called r k
