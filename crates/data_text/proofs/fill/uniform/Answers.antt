use Rattle.std.proofs.Common.{arith, ◌≡◌, ◌∙◌, ap, take, Some, to_z, of_z, w32}
use Rattle.std.specs.Prelude.{replicate}
use Rattle.std.proofs.lemmas.Int.{ints, to_z-of_z}
use Rattle.sac_base.specs.Parts.{shape_of_numbers}
use Rattle.data_text.proofs.FillFacts.{copies_shape}
use Rattle.data_text.proofs.fill.uniform.Goals as goal

pub returns : goal.returns
returns c =
    let whole : to_z w32 (of_z w32 c.args.n) ≡ c.args.n = grind (arith, ints, to_z-of_z) in
    c.from_extents.ensures.exact
    ∙ ap (λ z. shape_of_numbers (Some (take c.args.rank (replicate 8 z)))) whole
    ∙ copies_shape c.args.rank c.args.n c.if-rank-gt-MOST.false c.requires
