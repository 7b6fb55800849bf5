use Rattle.std.proofs.Common.{◌-◌, length}
use Rattle.loop_code.proofs.Covering.{AreRunsBefore}
use Rattle.loop_code.proofs.positions.runs_over.Given as goal

abbrev pub decreases-loop-place : goal.decreases-loop-place
decreases-loop-place l = length l.indices - l.place

abbrev pub invariant-loop-place : goal.invariant-loop-place
invariant-loop-place l = AreRunsBefore l.indices l.parts l.place l.rows.items
