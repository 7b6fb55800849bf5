-- Refusals of sources as they are written.
use Rattle.std.specs.Prelude.{ℕ, List, codes}
use Rattle.sac_lex.specs.declared.token.LexCode.{LexCode}
use Rattle.sac_lex.specs.declared.token.LexCode.TheVariants.{L1, L2, L3, L4, L5}

-- the code that stands for a refusal in the output
abbrev pub lex_code : LexCode → List ℕ
lex_code L1 = codes "L1"
lex_code L2 = codes "L2"
lex_code L3 = codes "L3"
lex_code L4 = codes "L4"
lex_code L5 = codes "L5"
