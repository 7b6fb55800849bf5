use Rattle.std.proofs.Common.{arith}
use Rattle.std.proofs.lemmas.Int.{to_z-of_z}
use Rattle.run_loops.proofs.Found.{component_there}
use Rattle.run_loops.proofs.bindings.component.Goals as goal

pub returns-in-Some : goal.returns-in-Some
returns-in-Some c =
    let h = component_there c.args.v.now c.args.k c.get.result c.get.ensures.lookup c.in-Some.n c.in-Some.is in
    grind (arith, to_z-of_z, h)
