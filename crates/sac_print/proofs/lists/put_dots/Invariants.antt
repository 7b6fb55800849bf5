use Rattle.std.proofs.Common.{replicate, codes}
use Rattle.sac_print.specs.Texts.{one, commas, Printed}
use Rattle.sac_print.proofs.lists.put_dots.Given as goal

abbrev pub invariant-loop-place : goal.invariant-loop-place
invariant-loop-place l = Printed l.initial.out.items l.out.items (commas (replicate l.place (one (codes "."))))
