-- What appended steps do.
use Rattle.std.specs.Prelude.{◌≡◌, List}
use Rattle.counted_code.specs.declared.tree.CodeStep.{CodeStep}
use Rattle.counted_code.specs.Terms.{CodeTerm}
use Rattle.counted_code.specs.View.{steps_before}

-- the steps that are appended stand before what follows
abbrev pub Appended : List CodeStep → List CodeStep → (CodeTerm → CodeTerm) → Type 0
Appended before after step = (t : CodeTerm) → steps_before after t ≡ steps_before before (step t)
