use Rattle.std.proofs.Common.{map, pos, Some, None, ap, ◌∙◌, sym}
use Rattle.std.specs.Prelude.{if◌then◌else◌}
use Rattle.sac_base.specs.declared.base.Base.TheVariants.{Int}
use Rattle.sac_base.specs.Arrays.{vector}
use Rattle.core_facts.specs.Facts.{shape_value}
use Rattle.core_facts.proofs.Extents.{is_shape_decides}
use Rattle.plain_facts.proofs.literals.shape_vector.Goals as goal

pub returns-in_ok-extents-in-Some : goal.returns-in_ok-extents-in-Some
returns-in_ok-extents-in-Some c =
    let s = c.in-Some.shape in
    ap Some (c.vector.ensures ∙ ap (vector Int) (c.in_ok-extents-in-Some.ensures.items ∙ c.extents.ensures.value))
    ∙ (λ i. if sym ((is_shape_decides s).1 c.extents.ensures.shape) i then Some (vector Int (map pos s)) else None)
    ∙ ap shape_value (sym c.in-Some.is)
