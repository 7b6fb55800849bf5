use Rattle.std.proofs.Common.{map, take}
use Rattle.std.specs.Fmt.{signed_decimal}
use Rattle.sac_print.specs.Texts.{one, commas, Printed}
use Rattle.sac_print.proofs.lists.put_extents.Given as goal

abbrev pub invariant-loop-place : goal.invariant-loop-place
invariant-loop-place l = Printed l.initial.out.items l.out.items (commas (map (λ n. one (signed_decimal n)) (take l.place l.extents)))
