use Rattle.std.proofs.Common.{◌∙◌, ◌∷◌, ap}
use Rattle.data_text.specs.Pieces.{pieces}
use Rattle.data_text.specs.Tokens.{piece_of}
use Rattle.data_text.proofs.RowFacts.{extent_step}
use Rattle.data_text.proofs.line.read_extents.Goals as goal

pub loop-word-preserved : goal.loop-word-preserved
loop-word-preserved c =
    let word = c.in-Some-Word-default in
    let comma = c.in-Some-Comma-default in
    extent_step c.loop-word.row c.keep.new.self (pieces c.loop-word.rest.now) (pieces word.after.now) (pieces comma.after.now) word.word.now c.in-Some.extent
    (word.ensures.pieces ∙ ap (λ t. piece_of t ∷ pieces word.after.now) word.field-0-0-is)
    (comma.ensures.pieces ∙ ap (λ t. piece_of t ∷ pieces comma.after.now) comma.field-0-0-is)
    c.in-Some.ensures c.in_ok-keep.ensures
    ∙ c.loop-word.invariant
