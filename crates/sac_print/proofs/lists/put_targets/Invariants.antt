use Rattle.std.proofs.Common.{map, take}
use Rattle.sac_print.specs.Texts.{commas, Printed}
use Rattle.sac_print.specs.Canonical.{target_texts}
use Rattle.sac_print.proofs.lists.put_targets.Given as goal

abbrev pub invariant-loop-place : goal.invariant-loop-place
invariant-loop-place l = Printed l.initial.out.items l.out.items (commas (map target_texts (take l.place l.targets)))
