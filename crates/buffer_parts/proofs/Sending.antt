-- A part may go to another thread where its cells may: what it owns has no name that only one thread knows.
use Rattle.std.proofs.Common.{ℕ, ◌+◌, List, [], ◌∷◌}
use base.Fraction.{full_share}
use base.Shift.{Keyless}
use types.SemTy.{cells}
use denote.RattleType.{RattleType}
use denote.Memory.{mem}
use denote.RawPtr.{block_of, count_of}
use denote.Struct.Struct.{exits_of}
use denote.Struct.Owning.{shape, fields, to}
use denote.Param.Send.{IsSend, Quiet, AllSend, part_keyless, owning_send, struct_send, sendable}
use denote.Exit.{Exit, unchanged, leaves, hidden, under}
use Rattle.buffer_parts.specs.contracts.raw.RawPart as raw_part

-- a value that is shown otherwise is left as it was
as_left : {Inside Shown : Type 0} (show : Inside → Shown) (exit : Exit Shown) → Quiet exit → Quiet (hidden (under show exit))
as_left show unchanged kept = λ value state. tt
as_left show (leaves L l S s rest) kept = λ value. kept (show value)

module _ (R : RattleType) (crosses : IsSend R) where
  cells_cross : (b o : ℕ) (xs : List R.Denot) → Keyless (cells (mem R) xs b o)
  cells_cross b o [] = tt
  cells_cross b o (x ∷ xs) = (part_keyless R crosses full_share x b o, cells_cross b (o + (mem R).size) xs)

  pub part_crosses : IsSend (raw_part.the_row R)
  part_crosses =
      let part = raw_part.the_type R in let pointer : AllSend (fields part) = (search sendable, tt) in
      owning_send part pointer (λ d. ((λ _. tt), cells_cross (block_of d.ptr) (count_of d.ptr) d.items)) (λ k. as_left (to part) (exits_of k (fields part)) ((struct_send (shape part) pointer).leaving k))
