use Rattle.std.proofs.Common.{arith, sym, ◌∙◌, ◌∷◌}
use Rattle.data_text.specs.Pieces.{Word, pieces}
use Rattle.data_text.proofs.PieceFacts.{none_left, sign_taken, word_taken, word_some, length_rest}
use Rattle.data_text.proofs.token.next_token.Goals as goal

pub returns-in_default-clause-pieces : goal.returns-in_default-clause-pieces
returns-in_default-clause-pieces c = none_left c.args.text.now c.skip_blanks-text.result.now c.skip_blanks-text.ensures (omega (arith, c.in_default.len_below))

pub returns-in-Some-clause-pieces : goal.returns-in-Some-clause-pieces
returns-in-Some-clause-pieces c = sign_taken c.args.text.now c.skip_blanks-text.result.now _ c.skip_blanks-text.ensures c.in-len1-up.len_at_least (sym c.in-Some.ensures)

pub returns-clause-pieces : goal.returns-clause-pieces
returns-clause-pieces c =
    word_taken c.args.text.now c.skip_blanks-text.result.now c.word_len.result c.skip_blanks-text.ensures c.in-len1-up.len_at_least (sym c.in_default-sign_of.ensures) c.word_len.ensures.value
    ∙ (λ i. Word (sym c.split_at.ensures.front i) ∷ pieces (sym c.split_at.ensures.back i))

pub returns-clause-shorter : goal.returns-clause-shorter
returns-clause-shorter c =
    let some = word_some c.args.text.now c.skip_blanks-text.result.now c.word_len.result c.skip_blanks-text.ensures c.in-len1-up.len_at_least (sym c.in_default-sign_of.ensures) c.word_len.ensures.value in
    let skipped = length_rest c.args.text.now c.skip_blanks-text.result.now c.skip_blanks-text.ensures in
    omega (arith, c.split_at.ensures.back_len)
