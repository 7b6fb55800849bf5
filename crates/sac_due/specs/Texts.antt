-- The lines that a run writes.
use Rattle.std.specs.Prelude.{ℕ, List, ◌++◌, codes}
use Rattle.std.specs.Fmt.{decimal}
use Rattle.sac_base.specs.declared.site.Site.{Site}
use Rattle.sac_base.specs.declared.faults.Fault.{Fault}
use Rattle.sac_base.specs.Faults.{fault_code}
use Rattle.sac_lex.specs.Codes.{lex_code}
use Rattle.check_rules.specs.Codes.{check_code}
use Rattle.data_text.specs.declared.error.DataCode.{DataCode}
use Rattle.data_text.specs.declared.error.DataCode.TheVariants.{I2}
use Rattle.data_text.specs.Codes.{data_code}
use Rattle.data_text.specs.Texts.{Refusal}

-- a text and a line feed
abbrev pub line : List ℕ → List ℕ
line text = text ++ codes "\n"

abbrev pub usage_text : List ℕ
usage_text = codes "usage: sac FILE [--input FILE] [--workers N] [--chunk K] [--turns T] [--depth C] [--mode run|check|print] [--report] [--gen N]"

-- a code and its place in the source, behind a word
abbrev pub placed : List ℕ → List ℕ → Site → List ℕ
placed word code site = word ++ code ++ codes " at " ++ decimal site.line ++ codes ":" ++ decimal site.col ++ codes "\n"

abbrev pub refused_at : List ℕ → Site → List ℕ
refused_at code site = placed (codes "refused ") code site

abbrev pub fault_line : Fault → List ℕ
fault_line fault = placed (codes "fault ") (fault_code fault.kind) fault.site

-- a code and its line of the input; a wrong number of lines has none
abbrev pub refused_data : DataCode → ℕ → List ℕ
refused_data I2 number = codes "refused I2" ++ codes "\n"
refused_data code number = codes "refused " ++ data_code code ++ codes " at line " ++ decimal number ++ codes "\n"

abbrev pub refused_input : Refusal → List ℕ
refused_input refusal = refused_data refusal.code refusal.number
