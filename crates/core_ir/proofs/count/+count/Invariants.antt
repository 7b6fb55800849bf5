use Rattle.std.proofs.Common.{◌≡◌, ◌+◌, ◌-◌, ◌^◌, ◌≤◌, drop}
use Rattle.core_ir.specs.Counts.{capped}
use Rattle.core_ir.proofs.Counting.{let_count, gen_count, part_count}
use Rattle.core_ir.proofs.count.+count.Given as goal

abbrev pub invariant-nodes-loop-binding : goal.invariant-nodes-loop-binding
invariant-nodes-loop-binding l = record {
  counted : capped (l.count + let_count (drop l.binding-index l.binding-items)) ≡ capped (let_count l.binding-items);
  small : l.count ≤ 2 ^ 64 - 1;
}

abbrev pub invariant-nodes_with-loop-generator : goal.invariant-nodes_with-loop-generator
invariant-nodes_with-loop-generator l = record {
  counted : capped (l.count + gen_count (drop l.generator-index l.generator-items)) ≡ capped (gen_count l.generator-items);
  small : l.count ≤ 2 ^ 64 - 1;
}

abbrev pub invariant-nodes_parted-loop-part : goal.invariant-nodes_parted-loop-part
invariant-nodes_parted-loop-part l = record {
  counted : capped (l.count + part_count (drop l.part-index l.part-items)) ≡ capped (part_count l.part-items);
  small : l.count ≤ 2 ^ 64 - 1;
}
