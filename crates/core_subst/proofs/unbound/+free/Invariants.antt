use Rattle.std.proofs.Common.{◌≡◌, ◌++◌, drop}
use Rattle.core_subst.proofs.Occurrences.{lets_used, lets_bound, gens_used, gens_bound, parts_used, parts_bound}
use Rattle.core_subst.proofs.unbound.+free.Given as goal

abbrev pub invariant-meet_block-loop-binding : goal.invariant-meet_block-loop-binding
invariant-meet_block-loop-binding l = record {
  used : l.met.used.items ++ lets_used (drop l.binding-index l.binding-items) ≡ l.initial.met.used.items ++ lets_used l.binding-items;
  bound : l.met.bound.items ++ lets_bound (drop l.binding-index l.binding-items) ≡ l.initial.met.bound.items ++ lets_bound l.binding-items;
}

abbrev pub invariant-meet_with-loop-generator : goal.invariant-meet_with-loop-generator
invariant-meet_with-loop-generator l = record {
  used : l.met.used.items ++ gens_used (drop l.generator-index l.generator-items) ≡ l.initial.met.used.items ++ gens_used l.generator-items;
  bound : l.met.bound.items ++ gens_bound (drop l.generator-index l.generator-items) ≡ l.initial.met.bound.items ++ gens_bound l.generator-items;
}

abbrev pub invariant-meet_parted-loop-part : goal.invariant-meet_parted-loop-part
invariant-meet_parted-loop-part l = record {
  used : l.met.used.items ++ parts_used (drop l.part-index l.part-items) ≡ l.initial.met.used.items ++ parts_used l.part-items;
  bound : l.met.bound.items ++ parts_bound (drop l.part-index l.part-items) ≡ l.initial.met.bound.items ++ parts_bound l.part-items;
}
