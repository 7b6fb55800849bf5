-- Blocks that are marked step by step, and generators and parts with marks.
use Rattle.std.specs.Prelude.{Bool, false, eqb, Option, Some, None}
use Rattle.core_ir.specs.declared.tree.Var.{Var}
use Rattle.counted_code.specs.Terms.{CodeTerm}
use Rattle.counted_code.specs.View.{steps_before}
use Rattle.counted_marks.specs.Known.{Given, Known, in_gen, in_part}
use Rattle.counted_marks.specs.Marking.{marking, released_by}
use Rattle.counted_code.specs.Pieces.{CodeGenTerm, CodePartTerm}
use Rattle.buffer_reuse.specs.declared.walk.Made.{Made}

-- whether a variable is the array that a loop takes over
abbrev pub is_taken : Option Var → Var → Bool
is_taken None x = false
is_taken (Some v) x = eqb v.0 x.0

-- the marked block, of which some steps are made, and the others still to come
abbrev pub made_with : Given → Made → Known → CodeTerm → CodeTerm
made_with g m k rest = steps_before m.steps.items (released_by m.taken (marking g rest k))

abbrev pub marking_gen : Given → CodeGenTerm → Known → CodeGenTerm
marking_gen g x k = record { head = x.head; body = marking g x.body (in_gen k x.head) }

abbrev pub marking_part : Given → CodePartTerm → Known → CodePartTerm
marking_part g x k = record { head = x.head; body = marking g x.body (in_part k x.head) }
