-- What is known of the values of right sides.
use Rattle.std.specs.Prelude.{ℕ, List, [], ◌∷◌, map, Option, Some}
use Rattle.sac_base.specs.declared.base.Base.{Base}
use Rattle.sac_base.specs.declared.grid.Grid1.{Grid1}
use Rattle.core_ir.specs.declared.tree.Var.{Var}
use Rattle.core_ir.specs.declared.tree.CoreOp.{CoreOp}
use Rattle.core_ir.specs.declared.tree.PartedOp.{PartedOp}
use Rattle.core_ir.specs.Terms.{RightTerm}
use Rattle.core_facts.specs.Facts.{Fact, common_facts, known_shape, parted_shape, shape_fact}
use Rattle.plain_facts.specs.Rights.{fact_of_right}
use Rattle.counted_marks.specs.Bases.{either_bases, op_base}
use Rattle.counted_marks.specs.Known.{Given, Known}
use Rattle.reuse_candidates.specs.Plain.{base_of_right}
use Rattle.reuse_candidates.specs.Scopes.{Told}

abbrev pub one_told : Fact → Option Base → Told
one_told f t = record { facts = f ∷ []; bases = t ∷ [] }

-- of a right side without blocks and calls
abbrev pub plain_told : RightTerm → Known → Told
plain_told r k = one_told (fact_of_right r k.facts) (base_of_right r k.bases)

abbrev pub call_told : Given → ℕ → Told
call_told g group = record { facts = map shape_fact (g.shapes group); bases = g.bases group }

-- of a conditional, by its blocks
abbrev pub either_told : Told → Told → Told
either_told t u = record { facts = common_facts t.facts u.facts; bases = either_bases t.bases u.bases }

-- of a loop
abbrev pub start_told : Known → List Var → Told
start_told k start = record { facts = []; bases = map k.bases start }

abbrev pub with_told : Known → CoreOp → Told
with_told k op = record { facts = []; bases = op_base op k.bases ∷ [] }

abbrev pub parted_told : List Grid1 → Base → List ℕ → PartedOp → Told
parted_told frame base cell op = one_told (shape_fact (known_shape (parted_shape frame cell op))) (Some base)
