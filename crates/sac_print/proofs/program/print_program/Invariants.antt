use Rattle.std.proofs.Common.{take}
use Rattle.sac_print.specs.Texts.{Printed}
use Rattle.sac_print.proofs.Printing.{joined}
use Rattle.sac_print.proofs.Trees.{spell_function}
use Rattle.sac_print.proofs.program.print_program.Given as goal

abbrev pub invariant-loop-f : goal.invariant-loop-f
invariant-loop-f l = Printed l.initial.out.items l.out.items (joined spell_function (take l.f-index l.program.functions.items))
