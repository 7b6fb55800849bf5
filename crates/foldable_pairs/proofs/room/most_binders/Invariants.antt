use Rattle.std.proofs.Common.{◌≡◌, ◌-◌, ◌^◌, ◌≤◌, drop}
use Rattle.std.specs.Prelude.{max}
use Rattle.core_ir.specs.Counts.{capped}
use Rattle.core_loops.specs.Pairs.{most_binders as most_bound}
use Rattle.foldable_pairs.specs.Parts.{terms}
use Rattle.foldable_pairs.proofs.room.most_binders.Given as goal

abbrev pub invariant-loop-part : goal.invariant-loop-part
invariant-loop-part l = record {
  most : capped (max l.most (most_bound (terms (drop l.part-index l.parts)))) ≡ capped (most_bound (terms l.parts));
  small : l.most ≤ 2 ^ 64 - 1;
}
