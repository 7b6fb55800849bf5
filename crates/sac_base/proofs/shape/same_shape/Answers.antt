use Rattle.std.proofs.Common.{◌∙◌, ap, pos, map}
use Rattle.std.specs.Ordering.{int_eq}
use Rattle.std.specs.Cmp.Lexicographic.{pointwise}
use Rattle.sac_base.proofs.Extents.{same_as_naturals}
use Rattle.sac_base.proofs.shape.same_shape.Goals as goal

pub returns : goal.returns
returns c =
    let xs = c.args.a.now in
    let ys = c.args.b.now in
    c.eq.ensures ∙ ap (λ zs. pointwise int_eq zs c.extents-2.result.now) c.extents.ensures.value
    ∙ ap (pointwise int_eq (map pos xs)) c.extents-2.ensures.value ∙ same_as_naturals xs ys
