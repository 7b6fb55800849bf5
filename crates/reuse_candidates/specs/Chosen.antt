-- What a loop takes over, by the steps behind it.
use Rattle.std.specs.Prelude.{◌&&◌, ℕ, Bool, List, [], map, Option, Some, None, if◌then◌else◌}
use Rattle.sac_base.specs.declared.base.Base.{Base}
use Rattle.sac_base.specs.declared.grid.Grid1.{Grid1}
use Rattle.core_ir.specs.declared.tree.Var.{Var}
use Rattle.core_ir.specs.declared.tree.PartedOp.{PartedOp}
use Rattle.core_ir.specs.Meaning.{extents}
use Rattle.core_uses.specs.Tests.{none_is}
use Rattle.counted_code.specs.Pieces.{code_part_term, code_parts_of}
use Rattle.counted_code.specs.Terms.{Giving}
use Rattle.counted_code.specs.Values.{is_small}
use Rattle.counted_code.specs.View.{steps_before}
use Rattle.counted_marks.specs.Known.{Given, Known}
use Rattle.counted_marks.specs.Marking.{is_base, is_known_shape, makes_buffer}
use Rattle.counted_marks.specs.Marks.{own_parts}
use Rattle.counted_laws.specs.mark_places.Places.{releases_next}
use Rattle.reuse_candidates.specs.declared.candidate.Maker.{Maker}

-- a variable that is known to have this base and shape
abbrev pub has_form : Known → Base → List ℕ → Var → Bool
has_form k base shape v = is_base base (k.bases v) && is_known_shape shape (k.facts v).shape

-- and that was there before the loop, and is released next behind it
abbrev pub fits : Known → Maker → Var → Bool
fits k m v = has_form k m.base m.shape.now v && (none_is v m.targets.now && releases_next v (steps_before m.later.now (Giving [])))

-- and that the cells use at their own index alone
abbrev pub takes : Given → Known → Maker → Var → Bool
takes g k m v = fits k m v && own_parts g.shapes v (code_parts_of (map code_part_term m.parts.now)) k.facts

-- the shape of a parted loop's result, where the loop makes an array of scalar cells that has a buffer
abbrev pub buffer_of : List Grid1 → List ℕ → PartedOp → Option (List ℕ)
buffer_of f l o = if makes_buffer f l o then Some (extents f) else None

-- a shape with which an array has a buffer
abbrev pub large : Option (List ℕ) → Option (List ℕ)
large None = None
large (Some s) = if is_small s then None else Some s
