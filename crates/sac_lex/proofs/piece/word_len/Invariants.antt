use Rattle.std.proofs.Common.{◌≡◌, ℕ, ◌<◌, get_or, true}
use Rattle.sac_lex.specs.Spelling.{is_word_byte}
use Rattle.sac_lex.proofs.piece.word_len.Given as goal

abbrev pub invariant-loop-i : goal.invariant-loop-i
invariant-loop-i l = (k : ℕ) → k < l.i → is_word_byte (get_or l.bytes k 0) ≡ true
