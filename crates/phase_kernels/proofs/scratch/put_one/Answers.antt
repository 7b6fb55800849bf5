use Rattle.std.proofs.Common.{rules, ◌≡◌, length, w32}
use Rattle.std.proofs.lemmas.Int.{to_z-of_z}
use Rattle.phase_kernels.proofs.Rows.{one_put}
use Rattle.phase_kernels.proofs.scratch.put_one.Goals as goal

pub returns : goal.returns
returns c done =
    let long : length c.args.into.now ≡ 1 = search rules in
    one_put c.args.into.now c.args.n _ long (to_z-of_z w32 c.args.n c.ranges.n)
