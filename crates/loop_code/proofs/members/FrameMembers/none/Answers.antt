use Rattle.std.proofs.Common.{ap, sym, ◌∙◌, subst, All}
use Rattle.std.proofs.lemmas.List.Elements.{All-nil}
use Rattle.sac_base.specs.WithLoops.{box, shape_spans}
use Rattle.loop_code.specs.Offsets.{IsOffset}
use Rattle.loop_code.proofs.OffsetSteps.{shifted_none}
use Rattle.loop_code.proofs.members.FrameMembers.none.Goals as goal

pub invariant_of-result : goal.invariant_of-result
invariant_of-result c =
    let empty = c.in_ok-offsets.ensures ∙ ap (λ ns. box (shape_spans ns)) c.vector-extents.ensures in
    subst (All (IsOffset c.new.result.items)) (sym empty) (All-nil (IsOffset c.new.result.items))

pub returns : goal.returns
returns c =
    let empty = c.in_ok-offsets.ensures ∙ ap (λ ns. box (shape_spans ns)) c.vector-extents.ensures in
    shifted_none _ c.in_ok-offsets.offsets empty
