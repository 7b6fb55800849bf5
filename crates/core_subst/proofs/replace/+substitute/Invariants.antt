use Rattle.std.proofs.Common.{◌≡◌, ◌++◌, map, take}
use Rattle.core_ir.specs.Terms.{BlockTerm, chain}
use Rattle.core_ir.specs.View.{let_term, gen_term, part_term}
use Rattle.core_subst.specs.Substitution.{substituted, image}
use Rattle.core_subst.proofs.Steps.{gens_with, parts_with}
use Rattle.core_subst.proofs.replace.+substitute.Given as goal

abbrev pub invariant-in_block-loop-binding : goal.invariant-in_block-loop-binding
invariant-in_block-loop-binding l = record {
  replaced : (end : BlockTerm) → chain (map let_term l.replaced.items) (substituted (image l.partners l.hidden.items) (chain (map let_term l.binding-iterator.rest.items) end)) ≡ substituted (image l.partners l.initial.hidden.items) (chain (map let_term l.initial.binding-iterator.rest.items) end);
  outer : take l.outer l.hidden.items ≡ l.initial.hidden.items;
}

abbrev pub invariant-in_parted-loop-part : goal.invariant-in_parted-loop-part
invariant-in_parted-loop-part l = record {
  replaced : map part_term l.replaced.items ++ parts_with (image l.partners l.initial.hidden.items) l.part-iterator.rest.items ≡ parts_with (image l.partners l.initial.hidden.items) l.initial.part-iterator.rest.items;
  hidden : l.hidden.items ≡ l.initial.hidden.items;
}

abbrev pub invariant-in_with-loop-generator : goal.invariant-in_with-loop-generator
invariant-in_with-loop-generator l = record {
  replaced : map gen_term l.replaced.items ++ gens_with (image l.partners l.initial.hidden.items) l.generator-iterator.rest.items ≡ gens_with (image l.partners l.initial.hidden.items) l.initial.generator-iterator.rest.items;
  hidden : l.hidden.items ≡ l.initial.hidden.items;
}
