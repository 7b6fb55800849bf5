-- Right sides without blocks and calls; any other stands for a fault, of which nothing is known.
use Rattle.std.specs.Prelude.{Bool, false, Option, None}
use Rattle.sac_base.specs.declared.base.Base.{Base}
use Rattle.sac_base.specs.declared.faults.FaultKind.TheVariants.{F7}
use Rattle.core_ir.specs.declared.tree.Var.{Var}
use Rattle.core_ir.specs.Terms.{PlainTerm, RightTerm, Plain}
use Rattle.core_loops.specs.Indices.{IndexFacts}
use Rattle.counted_code.specs.Terms.{CodeRightTerm, PlainCode}
use Rattle.counted_marks.specs.Bases.{BaseFacts, plain_base}
use Rattle.counted_marks.specs.Marks.{own_plain}

abbrev pub plain_core : RightTerm → RightTerm
plain_core (Plain p) = Plain p
plain_core _ = Plain (PlainTerm.Always F7)

abbrev pub plain_code : CodeRightTerm → CodeRightTerm
plain_code (PlainCode p) = PlainCode p
plain_code _ = PlainCode (PlainTerm.Always F7)

abbrev pub base_of_right : RightTerm → BaseFacts → Option Base
base_of_right (Plain p) g = plain_base p g
base_of_right _ g = None

abbrev pub is_own_plain : Var → RightTerm → IndexFacts → Bool
is_own_plain v (Plain p) m = own_plain v p m
is_own_plain v _ m = false
