use Rattle.std.proofs.Common.{All, take}
use Rattle.merge_plans.proofs.Parts.{Fits}
use Rattle.merge_plans.proofs.judging.fit_behind.Given as goal

abbrev pub invariant-loop-part : goal.invariant-loop-part
invariant-loop-part l = All (Fits l.grid) (take l.part-index l.part-items)
