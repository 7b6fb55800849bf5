use Rattle.std.proofs.Common.{◌≡◌, ◌<◌, ◌≤◌, ◌+◌, [], ap, sym, ◌∙◌, subst, arith, length, get_or}
use Rattle.std.proofs.lemmas.List.{length-map}
use Rattle.array_with_loops.specs.Frames.{added}
use Rattle.array_with_loops.specs.Ranges.{moved_last}
use Rattle.loop_code.proofs.OffsetSteps.{shifted_along}
use Rattle.loop_code.proofs.members.FrameMembers.row_left.Goals as goal

pub row_left-requires : goal.row_left-requires
row_left-requires c =
    let f = c.self.inside in
    subst (λ n. c.args.place < n) (ap length (sym c.self.view_is) ∙ length-map f.offsets (added f.low.items)) c.requires

pub returns-clause-inside : goal.returns-clause-inside
returns-clause-inside c =
    let f = c.self.inside in
    subst (λ n. c.args.place + c.row_left.result ≤ n) (sym (ap length (sym c.self.view_is) ∙ length-map f.offsets (added f.low.items))) c.row_left.ensures.inside

pub returns-clause-along : goal.returns-clause-along
returns-clause-along c = λ j h.
    let f = c.self.inside in
    let p = c.args.place in
    let inside : p < length f.offsets = subst (λ n. p < n) (ap length (sym c.self.view_is) ∙ length-map f.offsets (added f.low.items)) c.requires in
    let further : p + j < length f.offsets = omega (arith, h, c.row_left.ensures.inside) in
    subst (λ xs. get_or xs (p + j) [] ≡ moved_last j (get_or xs p [])) c.self.view_is
    (shifted_along f.low.items f.offsets p (p + j) j c.self.invariant inside further (c.row_left.ensures.along j [] [] h))
