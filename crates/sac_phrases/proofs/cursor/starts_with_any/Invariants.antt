use Rattle.std.proofs.Common.{◌≡◌, ℕ, List, Bor, map, drop}
use Rattle.sac_grammar.specs.Run.{starts}
use Rattle.sac_phrases.specs.Contract.{texts, lexemes_of}
use Rattle.sac_phrases.proofs.cursor.starts_with_any.Given as goal

abbrev pub invariant-loop-bytes : goal.invariant-loop-bytes
invariant-loop-bytes l = starts (texts (map (λ (b : Bor (List ℕ)). b.now) (drop l.bytes-index l.table))) (lexemes_of l.tokens) ≡ starts (texts (map (λ (b : Bor (List ℕ)). b.now) l.table)) (lexemes_of l.tokens)
