use Rattle.std.proofs.Common.{◌≡◌, ◌++◌, map}
use Rattle.core_ir.specs.Scopes.{op_uses}
use Rattle.core_ir.specs.Terms.{gens_of}
use Rattle.core_ir.specs.View.{gen_term}
use Rattle.core_subst.specs.Names.{used_in_gens}
use Rattle.unused_bindings.specs.Passed.{gen_terms}
use Rattle.removal_rules.specs.Uses.{used_of, among}
use Rattle.unused_bindings.proofs.right.with_loop.Given as goal

abbrev pub invariant-loop-generator : goal.invariant-loop-generator
invariant-loop-generator l = record {
  items : map gen_term l.gens.items ++ gen_terms l.generator-iterator.rest.items ≡ gen_terms l.initial.generator-iterator.rest.items;
  used : used_of l.used ≡ among (op_uses l.op ++ used_in_gens (gens_of (map gen_term l.gens.items)));
}
