use Rattle.std.proofs.Common.{◌≡◌, ◌++◌, drop, take}
use Rattle.core_ir.specs.Binders.{is_in}
use Rattle.counted_laws.specs.placing.Placing.{without}
use Rattle.phase_checks.proofs.bags.take_out.Given as goal

abbrev pub invariant-loop-place : goal.invariant-loop-place
invariant-loop-place l = record {
  same : l.xs.items ≡ l.initial.xs.items;
  there : is_in l.x (drop l.place l.xs.items) ≡ is_in l.x l.xs.items;
  rest : take l.place l.xs.items ++ without l.x (drop l.place l.xs.items) ≡ without l.x l.xs.items;
}
