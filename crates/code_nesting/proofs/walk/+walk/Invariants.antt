use Rattle.std.proofs.Common.{◌+◌, ◌*◌, ℕ, ◌≤◌, drop}
use Rattle.counted_code.specs.declared.tree.CodeBlock.{size-CodeBlock}
use Rattle.counted_code.specs.declared.tree.CodeParted.{size-CodeParted}
use Rattle.counted_code.specs.declared.tree.CodeRight.{size-CodeRight}
use Rattle.counted_code.specs.declared.tree.CodeStep.{size-CodeStep}
use Rattle.counted_code.specs.declared.tree.CodeWith.{size-CodeWith}
use Rattle.counted_code.specs.View.{code_program}
use Rattle.code_nesting.specs.Needs.{GensNeed, PartsNeed, StepsNeed}
use Rattle.code_nesting.specs.Nested.{most_nested}
use Rattle.counted_code.specs.Pieces.{gens_term, parts_term}
use Rattle.counted_code.proofs.Sizes.{steps_size, gens_size, parts_size}
use Rattle.code_nesting.proofs.walk.+walk.Given as goal

abbrev pub decreases-block_need : goal.decreases-block_need
decreases-block_need l = 8 * size-CodeBlock l.block.now + 3

abbrev pub decreases-steps_need : goal.decreases-steps_need
decreases-steps_need l = 8 * steps_size l.steps.now + 2

abbrev pub decreases-step_need : goal.decreases-step_need
decreases-step_need l = 8 * size-CodeStep l.step.now + 1

abbrev pub decreases-right_need : goal.decreases-right_need
decreases-right_need l = 8 * size-CodeRight l.right.now + 7

abbrev pub decreases-with_need : goal.decreases-with_need
decreases-with_need l = 8 * size-CodeWith l.with.now + 5

abbrev pub decreases-parted_need : goal.decreases-parted_need
decreases-parted_need l = 8 * size-CodeParted l.parted.now + 5

abbrev pub decreases-gens_need : goal.decreases-gens_need
decreases-gens_need l = 8 * gens_size l.gens.now + 4

abbrev pub decreases-parts_need : goal.decreases-parts_need
decreases-parts_need l = 8 * parts_size l.parts.now + 4

abbrev pub invariant-steps_need-loop-step : goal.invariant-steps_need-loop-step
invariant-steps_need-loop-step l =
    (most : ℕ) → most ≤ most_nested → l.greatest ≤ most → StepsNeed (code_program l.code) l.below l.here (drop l.step-index l.steps) most
    → StepsNeed (code_program l.code) l.below l.here l.steps most

abbrev pub invariant-gens_need-loop-generator : goal.invariant-gens_need-loop-generator
invariant-gens_need-loop-generator l =
    (most : ℕ) → most ≤ most_nested → l.greatest ≤ most → GensNeed (code_program l.code) l.below l.here (gens_term (drop l.generator-index l.gens)) most
    → GensNeed (code_program l.code) l.below l.here (gens_term l.gens) most

abbrev pub invariant-parts_need-loop-part : goal.invariant-parts_need-loop-part
invariant-parts_need-loop-part l =
    (most : ℕ) → most ≤ most_nested → l.greatest ≤ most → PartsNeed (code_program l.code) l.below l.here (parts_term (drop l.part-index l.parts)) most
    → PartsNeed (code_program l.code) l.below l.here (parts_term l.parts) most
