use Rattle.std.proofs.Common.{◌≡◌, ℕ, List, Bor, map, drop}
use Rattle.sac_base.specs.declared.op.Op.{Op}
use Rattle.sac_phrases.specs.Contract.{operator_of, lexemes_of}
use Rattle.sac_phrases.proofs.cursor.operator_of.Given as goal

abbrev pub invariant-loop-spelling : goal.invariant-loop-spelling
invariant-loop-spelling l = operator_of (map (λ (o : Bor (List ℕ) × Op). (o.0.now, o.1)) (drop l.spelling-index l.table)) (lexemes_of l.tokens) ≡ operator_of (map (λ (o : Bor (List ℕ) × Op). (o.0.now, o.1)) l.table) (lexemes_of l.tokens)
