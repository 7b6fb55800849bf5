use Rattle.std.proofs.Common.{sym, ap, ◌∙◌, map}
use Rattle.std.specs.Prelude.{unsigned_abs}
use Rattle.sac_base.specs.Arrays.{same_shape}
use Rattle.sac_base.specs.Types.{has_shape}
use Rattle.sac_base.proofs.Extents.{abs_pos}
use Rattle.run_types.proofs.values.allows.Goals as goal

pub returns-in-Known : goal.returns-in-Known
returns-in-Known c =
    let shape = map unsigned_abs c.args.extents.now in
    c.are_equal.ensures
    ∙ ap (λ known. same_shape known shape) (ap (map unsigned_abs) c.extents.ensures.value ∙ abs_pos c.in-Known.shape)
    ∙ ap (λ part. has_shape part shape) (sym c.in-Known.is)
