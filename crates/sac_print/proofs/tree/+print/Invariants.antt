use Rattle.std.proofs.Common.{map, take}
use Rattle.sac_print.specs.Texts.{commas, Printed}
use Rattle.sac_print.proofs.Printing.{joined}
use Rattle.sac_print.proofs.Trees.{element, spell_statement, spell_generator}
use Rattle.sac_print.proofs.tree.+print.Given as goal

abbrev pub invariant-put_list-loop-place : goal.invariant-put_list-loop-place
invariant-put_list-loop-place l = Printed l.initial.out.items l.out.items (commas (map element (take l.place l.es)))

abbrev pub invariant-put_statements-loop-s : goal.invariant-put_statements-loop-s
invariant-put_statements-loop-s l = Printed l.initial.out.items l.out.items (joined spell_statement (take l.s-index l.ss))

abbrev pub invariant-put_generators-loop-g : goal.invariant-put_generators-loop-g
invariant-put_generators-loop-g l = Printed l.initial.out.items l.out.items (joined spell_generator (take l.g-index l.gs))
