use Rattle.std.proofs.Common.{◌∙◌, ap, map, pos, subst, sym}
use Rattle.sac_base.specs.Shapes.{IsShape}
use Rattle.sac_base.proofs.Extents.{same_extents, shape_is}
use Rattle.sac_base.proofs.shape.Shape.extents.Goals as goal

pub returns-clause-value : goal.returns-clause-value
returns-clause-value c = c.as_slice.ensures ∙ sym (same_extents _ c.self.invariant.each) ∙ ap (map pos) c.self.view_is

pub returns-clause-shape : goal.returns-clause-shape
returns-clause-shape c = subst IsShape c.self.view_is (shape_is _ c.self.invariant)
