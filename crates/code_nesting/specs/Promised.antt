-- What is known of how deep blocks nest.
use Rattle.std.specs.Prelude.{ℕ, List, All}
use Rattle.counted_code.specs.declared.tree.CodeGen.{CodeGen}
use Rattle.counted_code.specs.declared.tree.CodePart.{CodePart}
use Rattle.counted_code.specs.Terms.{CodeProgram}
use Rattle.counted_code.specs.View.{code_term}
use Rattle.code_nesting.specs.declared.nesting.Nesting.{Nesting}
use Rattle.code_nesting.specs.declared.nesting.Nesting.TheVariants as nesting
use Rattle.code_nesting.specs.Nested.{IsShallow}
use Rattle.code_nesting.specs.Needs.{IsBound}

-- It bounds how deep blocks nest in code whose calls go so many levels deep.
abbrev pub Bounds : Nesting → CodeProgram → ℕ → Type 0
Bounds nesting.Unlimited code levels = ⊥
Bounds nesting.Unknown code levels = Unit {0}
Bounds (nesting.Known needs) code levels = IsBound code levels needs.items

-- in no cell of these generators more blocks nest than the limit
abbrev pub AreShallowGens : CodeProgram → ℕ → List CodeGen → Type 0
AreShallowGens code levels gens = All (λ (g : CodeGen). IsShallow code levels (code_term g.body)) gens

abbrev pub AreShallowParts : CodeProgram → ℕ → List CodePart → Type 0
AreShallowParts code levels parts = All (λ (p : CodePart). IsShallow code levels (code_term p.body)) parts
