use Rattle.std.proofs.Common.{rules, arith, ap, ◌≡◌, ◌∙◌, ◌<◌, ◌^◌, w64, pos}
use Rattle.std.specs.Prelude.{FitsSigned, ◌-ℤ◌, unsigned_abs}
use Rattle.std.proofs.lemmas.Int.{to_z-of_z, to_z_pos}
use Rattle.grid_sets.proofs.Cutting.{run_is, width_is, at_distance}
use Rattle.grid_sets.proofs.runs.repeated.Goals as goal

pub returns-clause-members : goal.returns-clause-members
returns-clause-members c =
    let rf : FitsSigned w64 c.args.run.now.from = search rules in
    let st : FitsSigned w64 c.args.segment.now.to = search rules in
    let wide : c.abs_diff.result ≡ unsigned_abs (c.args.run.now.to -ℤ c.args.run.now.from) = search rules in
    let same = width_is c.args.segment.now.from c.args.run.now.from c.args.run.now.to c.requires.low c.requires.some in
    let narrow : c.abs_diff.result < 2 ^ 63 = omega arith in
    run_is _ c.args.segment.now.from c.args.segment.now.to c.args.period (unsigned_abs (c.args.run.now.from -ℤ c.args.segment.now.from)) (unsigned_abs (c.args.run.now.to -ℤ c.args.segment.now.from))
    (to_z-of_z w64 c.args.run.now.from rf ∙ at_distance c.args.segment.now.from c.args.run.now.from c.requires.low)
    (to_z-of_z w64 c.args.segment.now.to st)
    (to_z_pos w64 c.args.period c.requires.fits)
    (to_z_pos w64 c.abs_diff.result narrow ∙ ap pos (wide ∙ same.1))
    same.0 c.requires.near
