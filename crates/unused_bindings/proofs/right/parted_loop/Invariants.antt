use Rattle.std.proofs.Common.{◌≡◌, ◌++◌, map}
use Rattle.core_ir.specs.Scopes.{parted_uses}
use Rattle.core_ir.specs.Terms.{parts_of}
use Rattle.core_ir.specs.View.{part_term}
use Rattle.core_subst.specs.Names.{used_in_parts}
use Rattle.unused_bindings.specs.Passed.{part_terms}
use Rattle.removal_rules.specs.Uses.{used_of, among}
use Rattle.unused_bindings.proofs.right.parted_loop.Given as goal

abbrev pub invariant-loop-part : goal.invariant-loop-part
invariant-loop-part l = record {
  items : map part_term l.parts.items ++ part_terms l.part-iterator.rest.items ≡ part_terms l.initial.part-iterator.rest.items;
  used : used_of l.used ≡ among (parted_uses l.op ++ used_in_parts (parts_of (map part_term l.parts.items)));
}
