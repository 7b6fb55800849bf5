use Rattle.std.proofs.Common.{◌+◌, ◌*◌, ◌≤◌, length, drop}
use Rattle.counted_code.specs.declared.tree.CodeBlock.{size-CodeBlock}
use Rattle.counted_code.specs.declared.tree.CodeGen.{size-CodeGen}
use Rattle.counted_code.specs.declared.tree.CodeLet.{size-CodeLet}
use Rattle.counted_code.specs.declared.tree.CodePart.{size-CodePart}
use Rattle.counted_code.specs.declared.tree.CodeParted.{size-CodeParted}
use Rattle.counted_code.specs.declared.tree.CodeRight.{size-CodeRight}
use Rattle.counted_code.specs.declared.tree.CodeStep.{size-CodeStep}
use Rattle.counted_code.specs.declared.tree.CodeWith.{size-CodeWith}
use Rattle.counted_code.specs.Counts.{CountedGens, CountedParts, UnmarkedGens, UnmarkedParts}
use Rattle.counted_code.specs.Terms.{Giving}
use Rattle.counted_code.specs.View.{steps_before}
use Rattle.counted_code.proofs.Sizes.{gens_size, parts_size}
use Rattle.phase_checks.proofs.walk.+walk.Given as goal
use Rattle.counted_code.specs.Pieces.{gens_term, parts_term}
use Rattle.phase_checks.specs.Walks.{results_in, IsCounted, IsCountedOnlyWith}

abbrev pub decreases-gens_are_counted : goal.decreases-gens_are_counted
decreases-gens_are_counted l = 8 * gens_size l.gens.now + 4

abbrev pub decreases-parts_are_counted : goal.decreases-parts_are_counted
decreases-parts_are_counted l = 8 * parts_size l.parts.now + 4

abbrev pub decreases-gen_is_counted : goal.decreases-gen_is_counted
decreases-gen_is_counted l = 8 * size-CodeGen l.generator.now + 3

abbrev pub decreases-part_is_counted : goal.decreases-part_is_counted
decreases-part_is_counted l = 8 * size-CodePart l.part.now + 3

abbrev pub decreases-block_is_counted : goal.decreases-block_is_counted
decreases-block_is_counted l = 8 * size-CodeBlock l.block.now + 3

abbrev pub decreases-block_refs : goal.decreases-block_refs
decreases-block_refs l = 8 * size-CodeBlock l.block.now + 2

abbrev pub decreases-step_back : goal.decreases-step_back
decreases-step_back l = 8 * size-CodeStep l.step.now + 1

abbrev pub decreases-binding_back : goal.decreases-binding_back
decreases-binding_back l = 8 * size-CodeLet l.binding.now + 8

abbrev pub decreases-right_refs : goal.decreases-right_refs
decreases-right_refs l = 8 * size-CodeRight l.right.now + 7

abbrev pub decreases-nested_refs : goal.decreases-nested_refs
decreases-nested_refs l = 8 * size-CodeRight l.right.now + 6

abbrev pub decreases-value_refs : goal.decreases-value_refs
decreases-value_refs l = 8 * size-CodeRight l.right.now + 6

abbrev pub decreases-with_is_counted : goal.decreases-with_is_counted
decreases-with_is_counted l = 8 * size-CodeWith l.with.now + 3

abbrev pub decreases-parted_is_counted : goal.decreases-parted_is_counted
decreases-parted_is_counted l = 8 * size-CodeParted l.parted.now + 3

abbrev pub invariant-gens_are_counted-loop-generator : goal.invariant-gens_are_counted-loop-generator
invariant-gens_are_counted-loop-generator l = record {
  whole : CountedGens (results_in l.code) l.outer (gens_term (drop l.generator-index l.gens)) × UnmarkedGens (gens_term (drop l.generator-index l.gens)) → CountedGens (results_in l.code) l.outer (gens_term l.gens) × UnmarkedGens (gens_term l.gens);
  rest : CountedGens (results_in l.code) l.outer (gens_term l.gens) × UnmarkedGens (gens_term l.gens) → CountedGens (results_in l.code) l.outer (gens_term (drop l.generator-index l.gens)) × UnmarkedGens (gens_term (drop l.generator-index l.gens));
}

abbrev pub invariant-parts_are_counted-loop-part : goal.invariant-parts_are_counted-loop-part
invariant-parts_are_counted-loop-part l = record {
  whole : CountedParts (results_in l.code) l.outer (parts_term (drop l.part-index l.parts)) × UnmarkedParts (parts_term (drop l.part-index l.parts)) → CountedParts (results_in l.code) l.outer (parts_term l.parts) × UnmarkedParts (parts_term l.parts);
  rest : CountedParts (results_in l.code) l.outer (parts_term l.parts) × UnmarkedParts (parts_term l.parts) → CountedParts (results_in l.code) l.outer (parts_term (drop l.part-index l.parts)) × UnmarkedParts (parts_term (drop l.part-index l.parts));
}

abbrev pub invariant-block_refs-loop-left : goal.invariant-block_refs-loop-left
invariant-block_refs-loop-left l = record {
  within : l.left ≤ length l.block.steps.items;
  counted : IsCounted (results_in l.code) l.results l.outer l.refs.items (steps_before (drop l.left l.block.steps.items) (Giving l.block.results.items));
  only : IsCountedOnlyWith (results_in l.code) l.results l.outer l.refs.items (steps_before (drop l.left l.block.steps.items) (Giving l.block.results.items));
}

abbrev pub decreases-block_refs-loop-left : goal.decreases-block_refs-loop-left
decreases-block_refs-loop-left l = l.left
