-- What the builders of the code stand for, and what is made in them.
use Rattle.std.specs.Prelude.{List, map}
use Rattle.core_ir.specs.declared.tree.Var.{Var}
use Rattle.core_ir.specs.View.{let_term}
use Rattle.core_lowering.specs.steps.Looks.{Look}
use Rattle.core_lowering.specs.steps.Building.{Built, Made, MadeNames}
use Rattle.core_scopes.specs.declared.builder.Builder.{Builder}

abbrev pub built : Builder → Built
built b = record { lets = map let_term b.lets.items; next = b.next }

-- ---- a state, and what was made on the way to it

abbrev pub made : Built → Var → Made
made s x = record { state = s; result = x }

abbrev pub made_names : Built → List Var → Look → MadeNames
made_names s xs scope = record { state = s; results = xs; scope = scope }
