use Rattle.std.proofs.Common.{◌≡◌, ◌+◌, ◌*◌, drop}
use Rattle.counted_code.specs.declared.tree.CodeBlock.{size-CodeBlock}
use Rattle.counted_code.specs.declared.tree.CodeGen.{size-CodeGen}
use Rattle.counted_code.specs.declared.tree.CodeLet.{size-CodeLet}
use Rattle.counted_code.specs.declared.tree.CodePart.{size-CodePart}
use Rattle.counted_code.specs.declared.tree.CodeParted.{size-CodeParted}
use Rattle.counted_code.specs.declared.tree.CodeRight.{size-CodeRight}
use Rattle.counted_code.specs.declared.tree.CodeStep.{size-CodeStep}
use Rattle.counted_code.specs.declared.tree.CodeWith.{size-CodeWith}
use Rattle.counted_code.proofs.Sizes.{steps_size, gens_size, parts_size}
use Rattle.counted_code.specs.Pieces.{gens_term, parts_term}
use Rattle.counted_code.specs.View.{steps_before}
use Rattle.code_equality.proofs.walk.+same.Given as goal

abbrev pub decreases-same_block : goal.decreases-same_block
decreases-same_block l = 8 * size-CodeBlock l.a.now + 3

abbrev pub decreases-same_steps : goal.decreases-same_steps
decreases-same_steps l = 8 * steps_size l.a.now + 2

abbrev pub decreases-same_step : goal.decreases-same_step
decreases-same_step l = 8 * size-CodeStep l.a.now + 1

abbrev pub decreases-same_let : goal.decreases-same_let
decreases-same_let l = 8 * size-CodeLet l.a.now + 8

abbrev pub decreases-same_right : goal.decreases-same_right
decreases-same_right l = 8 * size-CodeRight l.a.now + 7

abbrev pub decreases-same_if : goal.decreases-same_if
decreases-same_if l = 8 * size-CodeRight l.a.now + 6

abbrev pub decreases-same_loop : goal.decreases-same_loop
decreases-same_loop l = 8 * size-CodeRight l.a.now + 6

abbrev pub decreases-same_with : goal.decreases-same_with
decreases-same_with l = 8 * size-CodeWith l.a.now + 5

abbrev pub decreases-same_gens : goal.decreases-same_gens
decreases-same_gens l = 8 * gens_size l.a.now + 4

abbrev pub decreases-same_gen : goal.decreases-same_gen
decreases-same_gen l = 8 * size-CodeGen l.a.now + 3

abbrev pub decreases-same_parted : goal.decreases-same_parted
decreases-same_parted l = 8 * size-CodeParted l.a.now + 5

abbrev pub decreases-same_parts : goal.decreases-same_parts
decreases-same_parts l = 8 * parts_size l.a.now + 4

abbrev pub decreases-same_part : goal.decreases-same_part
decreases-same_part l = 8 * size-CodePart l.a.now + 3

-- what is left to compare decides
abbrev pub invariant-same_steps-loop-i : goal.invariant-same_steps-loop-i
invariant-same_steps-loop-i l = steps_before (drop l.i l.a) ≡ steps_before (drop l.i l.b) → steps_before l.a ≡ steps_before l.b

abbrev pub invariant-same_gens-loop-i : goal.invariant-same_gens-loop-i
invariant-same_gens-loop-i l = gens_term (drop l.i l.a) ≡ gens_term (drop l.i l.b) → gens_term l.a ≡ gens_term l.b

abbrev pub invariant-same_parts-loop-i : goal.invariant-same_parts-loop-i
invariant-same_parts-loop-i l = parts_term (drop l.i l.a) ≡ parts_term (drop l.i l.b) → parts_term l.a ≡ parts_term l.b
