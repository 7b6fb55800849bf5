use Rattle.std.proofs.Common.{◌≡◌, ◌+◌, ◌*◌, drop}
use Rattle.std.specs.List.{list_all}
use Rattle.counted_code.specs.declared.tree.CodeBlock.{size-CodeBlock}
use Rattle.counted_code.specs.declared.tree.CodeParted.{size-CodeParted}
use Rattle.counted_code.specs.declared.tree.CodeRight.{size-CodeRight}
use Rattle.counted_code.specs.declared.tree.CodeStep.{size-CodeStep}
use Rattle.counted_code.specs.declared.tree.CodeWith.{size-CodeWith}
use Rattle.counted_code.proofs.Sizes.{steps_size, gens_size, parts_size}
use Rattle.counted_code.specs.Pieces.{gens_term, parts_term}
use Rattle.reach_checks.specs.Groups.{clear_in}
use Rattle.reach_checks.specs.Clear.{gens_are_clear, parts_are_clear, step_is_clear}
use Rattle.reach_checks.proofs.walk.+walk.Given as goal

abbrev pub decreases-block_is_clear : goal.decreases-block_is_clear
decreases-block_is_clear l = 8 * size-CodeBlock l.block.now + 3

abbrev pub decreases-steps_are_clear : goal.decreases-steps_are_clear
decreases-steps_are_clear l = 8 * steps_size l.steps.now + 2

abbrev pub decreases-step_is_clear : goal.decreases-step_is_clear
decreases-step_is_clear l = 8 * size-CodeStep l.step.now + 1

abbrev pub decreases-right_is_clear : goal.decreases-right_is_clear
decreases-right_is_clear l = 8 * size-CodeRight l.right.now + 7

abbrev pub decreases-with_is_clear : goal.decreases-with_is_clear
decreases-with_is_clear l = 8 * size-CodeWith l.with.now + 5

abbrev pub decreases-parted_is_clear : goal.decreases-parted_is_clear
decreases-parted_is_clear l = 8 * size-CodeParted l.parted.now + 5

abbrev pub decreases-gens_are_clear : goal.decreases-gens_are_clear
decreases-gens_are_clear l = 8 * gens_size l.gens.now + 4

abbrev pub decreases-parts_are_clear : goal.decreases-parts_are_clear
decreases-parts_are_clear l = 8 * parts_size l.parts.now + 4

abbrev pub invariant-steps_are_clear-loop-step : goal.invariant-steps_are_clear-loop-step
invariant-steps_are_clear-loop-step l = list_all (step_is_clear (clear_in l.groups)) (drop l.step-index l.steps) ≡ list_all (step_is_clear (clear_in l.groups)) l.steps

abbrev pub invariant-gens_are_clear-loop-generator : goal.invariant-gens_are_clear-loop-generator
invariant-gens_are_clear-loop-generator l = (gens_are_clear (clear_in l.groups)) (gens_term (drop l.generator-index l.gens)) ≡ (gens_are_clear (clear_in l.groups)) (gens_term l.gens)

abbrev pub invariant-parts_are_clear-loop-part : goal.invariant-parts_are_clear-loop-part
invariant-parts_are_clear-loop-part l = (parts_are_clear (clear_in l.groups)) (parts_term (drop l.part-index l.parts)) ≡ (parts_are_clear (clear_in l.groups)) (parts_term l.parts)
