use Rattle.std.proofs.Common.{◌∙◌, map, sym, ap, unsigned_abs}
use Rattle.std.proofs.lemmas.Slice.Eq.{bytes_eq-Decides}
use Rattle.sac_base.proofs.Extents.{abs_pos}
use Rattle.phase_kernels.proofs.over_checks.arrays.has_shape.Goals as goal

pub returns : goal.returns
returns c same =
    ap (map unsigned_abs) (sym c.as_slice.ensures.numbers)
    ∙ (bytes_eq-Decides (map unsigned_abs c.as_slice.result.now) (map unsigned_abs c.extents.result.now)).0 (sym c.same_sizes.ensures ∙ same)
    ∙ ap (map unsigned_abs) c.extents.ensures.value
    ∙ abs_pos c.args.shape.now
