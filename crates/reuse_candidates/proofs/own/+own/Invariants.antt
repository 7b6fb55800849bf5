use Rattle.std.proofs.Common.{◌≡◌, drop}
use Rattle.counted_code.specs.Terms.{CodeTerm}
use Rattle.counted_code.specs.View.{steps_before}
use Rattle.reuse_candidates.specs.Cells.{block_tells, cell_mark, known_in_cell, undone}
use Rattle.reuse_candidates.proofs.OwnEnds.{gens_own, parts_own}
use Rattle.reuse_candidates.proofs.own.+own.Given as goal

abbrev pub invariant-pass_steps-loop-step : goal.invariant-pass_steps-loop-step
invariant-pass_steps-loop-step l = record {
  own : (end : CodeTerm) → block_tells l.search (steps_before (drop l.step-index l.steps) end) (known_in_cell l.scope) ≡ block_tells l.search (steps_before l.steps end) (known_in_cell l.initial.scope);
  behind : undone (cell_mark l.initial.scope) l.scope ≡ l.initial.scope;
}

abbrev pub invariant-is_own_with-loop-generator : goal.invariant-is_own_with-loop-generator
invariant-is_own_with-loop-generator l = record {
  own : gens_own l.search (known_in_cell l.fn.scope) (drop l.generator-index l.generator-items) ≡ gens_own l.search (known_in_cell l.fn.scope) l.generator-items;
  same : l.scope ≡ l.fn.scope;
}

abbrev pub invariant-is_own_parted-loop-part : goal.invariant-is_own_parted-loop-part
invariant-is_own_parted-loop-part l = record {
  own : parts_own l.search (known_in_cell l.fn.scope) (drop l.part-index l.part-items) ≡ parts_own l.search (known_in_cell l.fn.scope) l.part-items;
  same : l.scope ≡ l.fn.scope;
}
