use Rattle.std.proofs.Common.{take}
use Rattle.std.specs.List.{All}
use Rattle.fold_pieces.proofs.Insides.{IsIn}
use Rattle.fold_pieces.proofs.within.is_inside.Given as goal

abbrev pub invariant-loop-offset : goal.invariant-loop-offset
invariant-loop-offset l = All (IsIn l.frame l.grid) (take l.offset-index l.offsets)
