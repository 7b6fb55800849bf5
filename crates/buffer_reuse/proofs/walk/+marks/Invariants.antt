use Rattle.std.proofs.Common.{◌≡◌, List, drop, map, take}
use Rattle.core_ir.specs.declared.tree.Var.{Var}
use Rattle.counted_code.specs.Terms.{CodeTerm, Giving, core_of}
use Rattle.counted_code.specs.View.{steps_before}
use Rattle.counted_marks.specs.Marking.{marking}
use Rattle.reuse_candidates.specs.Calls.{given_by}
use Rattle.counted_code.specs.Pieces.{code_gen_term, code_part_term}
use Rattle.reuse_candidates.specs.Scopes.{known_in, mark_of, taken_back, told_block}
use Rattle.buffer_reuse.specs.Marked.{made_with, marking_gen, marking_part}
use Rattle.buffer_reuse.proofs.walk.+marks.Given as goal

abbrev pub invariant-mark_block-loop-i : goal.invariant-mark_block-loop-i
invariant-mark_block-loop-i l = record {
  marked : (results : List Var) → made_with (given_by l.calls) l.made (known_in l.scope) (steps_before (drop l.i l.block.steps.items) (Giving results))
      ≡ marking (given_by l.calls) (steps_before l.block.steps.items (Giving results)) (known_in l.initial.scope);
  known : (end : CodeTerm) → told_block (given_by l.calls) (core_of (steps_before (drop l.i l.block.steps.items) end)) (known_in l.scope)
      ≡ told_block (given_by l.calls) (core_of (steps_before l.block.steps.items end)) (known_in l.initial.scope);
  behind : taken_back (mark_of l.initial.scope) l.scope ≡ l.initial.scope;
}

abbrev pub invariant-mark_with-loop-generator : goal.invariant-mark_with-loop-generator
invariant-mark_with-loop-generator l = record {
  marked : map code_gen_term l.gens.items ≡ map (λ y. marking_gen (given_by l.calls) (code_gen_term y) (known_in l.initial.scope)) (take l.generator-index l.generator-items);
  same : l.scope ≡ l.initial.scope;
}

abbrev pub invariant-mark_parted-loop-part : goal.invariant-mark_parted-loop-part
invariant-mark_parted-loop-part l = record {
  marked : map code_part_term l.parts.items ≡ map (λ y. marking_part (given_by l.calls) (code_part_term y) (known_in l.initial.scope)) (take l.part-index l.part-items);
  same : l.scope ≡ l.initial.scope;
}
