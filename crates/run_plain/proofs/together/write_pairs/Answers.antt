use Rattle.std.proofs.Common.{rules, ◌≡◌, length, ◌∙◌, sym}
use Rattle.run_plain.proofs.Buffers.{pairs}
use Rattle.run_plain.proofs.together.write_pairs.Goals as goal

pub returns : goal.returns
returns g c =
    let same : length c.both.new.target ≡ length c.args.cells.now = search rules in
    pairs c.args.op c.args.left.now c.args.right.now c.both.new.target (c.requires.left ∙ sym same) (c.requires.right ∙ sym same) c.both.ensures c.requires.values
