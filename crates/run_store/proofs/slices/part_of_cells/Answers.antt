use Rattle.std.proofs.Common.{arith, ap}
use Rattle.sac_base.specs.Arrays.{size}
use Rattle.run_store.proofs.Regions.{part_found, part_is}
use Rattle.run_store.proofs.slices.part_of_cells.Goals as goal

pub rest-rest-requires : goal.rest-rest-requires
rest-rest-requires c = (part_found c.args.shape.now c.args.index.now c.offset.result c.in-Some.start c.in-Some.is c.offset.ensures).1

pub copied_part-requires-clause-within : goal.copied_part-requires-clause-within
copied_part-requires-clause-within c =
    let at = part_found c.args.shape.now c.args.index.now c.offset.result c.in-Some.start c.in-Some.is c.offset.ensures in
    omega (arith, at.2, ap size c.rest-rest.ensures, c.requires.full)

pub returns-in-Ok : goal.returns-in-Ok
returns-in-Ok c =
    let at = part_found c.args.shape.now c.args.index.now c.offset.result c.in-Some.start c.in-Some.is c.offset.ensures in
    part_is c.args.base c.args.shape.now c.args.cells.now c.args.index.now c.args.site c.in-Some.start c.rest-rest.result c.in-Ok.part at.0 c.rest-rest.ensures c.in-Ok.ensures
