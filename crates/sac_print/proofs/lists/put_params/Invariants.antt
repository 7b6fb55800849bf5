use Rattle.std.proofs.Common.{map, take}
use Rattle.sac_print.specs.Texts.{commas, Printed}
use Rattle.sac_print.specs.Canonical.{param_texts}
use Rattle.sac_print.proofs.lists.put_params.Given as goal

abbrev pub invariant-loop-place : goal.invariant-loop-place
invariant-loop-place l = Printed l.initial.out.items l.out.items (commas (map param_texts (take l.place l.params)))
