use Rattle.std.proofs.Common.{ap, sym, ◌∙◌, length}
use Rattle.std.proofs.lemmas.List.{length-map}
use Rattle.array_with_loops.specs.Frames.{added}
use Rattle.loop_code.proofs.members.FrameMembers.count.Goals as goal

pub returns : goal.returns
returns c =
    let f = c.self.inside in
    c.count.ensures ∙ sym (ap length (sym c.self.view_is) ∙ length-map f.offsets (added f.low.items))
