-- Refusals of token lists as they are written.
use Rattle.std.specs.Prelude.{ℕ, List, codes}
use Rattle.sac_parse.specs.declared.error.ParseCode.{ParseCode}
use Rattle.sac_parse.specs.declared.error.ParseCode.TheVariants.{P1, P2}

-- the code that stands for a refusal in the output
abbrev pub parse_code : ParseCode → List ℕ
parse_code P1 = codes "P1"
parse_code P2 = codes "P2"
