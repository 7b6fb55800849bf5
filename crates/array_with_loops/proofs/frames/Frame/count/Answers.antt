use Rattle.std.proofs.Common.{ap, sym, ◌∙◌, length}
use Rattle.array_with_loops.specs.Frames.{spans}
use Rattle.array_with_loops.proofs.FrameSteps.{length-box, size_of_spans}
use Rattle.array_with_loops.proofs.frames.Frame.count.Goals as goal

pub returns : goal.returns
returns c =
    let f = c.self.inside in
    sym (ap length (sym c.self.view_is) ∙ length-box (spans f.low.items f.extents) ∙ size_of_spans f.low.items f.extents c.self.invariant.ranks ∙ c.self.invariant.all)
