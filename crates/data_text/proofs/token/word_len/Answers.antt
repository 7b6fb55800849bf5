use Rattle.std.proofs.Common.{ap, ◌∙◌, length}
use Rattle.std.specs.Prelude.{unwrap_or}
use Rattle.data_text.specs.Pieces.{ends_word}
use Rattle.data_text.proofs.PieceFacts.{place_or_end}
use Rattle.data_text.proofs.token.word_len.Goals as goal

pub returns-clause-value : goal.returns-clause-value
returns-clause-value c = c.unwrap_or.ensures ∙ ap (λ o. unwrap_or o (length c.args.text.now)) c.word_end.ensures ∙ place_or_end ends_word c.args.text.now
