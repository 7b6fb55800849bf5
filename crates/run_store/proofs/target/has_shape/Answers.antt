use Rattle.std.proofs.Common.{◌∙◌, map, unsigned_abs}
use Rattle.sac_base.specs.Arrays.{same_shape}
use Rattle.sac_base.proofs.Extents.{abs_pos}
use Rattle.run_store.proofs.target.has_shape.Goals as goal

pub returns-in_default : goal.returns-in_default
returns-in_default c =
    c.same_sizes.ensures
    ∙ (λ i. same_shape (map unsigned_abs (c.as_slice.ensures.numbers i)) (map unsigned_abs (c.extents.ensures.value i)))
    ∙ (λ i. same_shape (c.extents-extents.ensures i) (abs_pos c.args.shape.now i))
