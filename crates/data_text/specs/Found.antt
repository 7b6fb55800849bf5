-- What the code's lines are.
use Rattle.std.specs.Prelude.{◌≡◌, List, [], ◌∷◌, Option, Some, None, Result, Ok, Err, Vec}
use Rattle.std.specs.Global.{Global}
use Rattle.sac_base.specs.Arrays.{ArrayValue}
use Rattle.data_text.specs.declared.error.DataError.{DataError}
use Rattle.data_text.specs.declared.error.DataError.TheVariants.{Refused, Memory}
use Rattle.data_text.specs.declared.text.Line.{Line}
use Rattle.data_text.specs.Texts.{Numbered, Refusal, data_lines}

-- the lines of a text of which the first was found, and a rest is left
abbrev pub lines_from : Option Line → List Numbered
lines_from None = []
lines_from (Some x) = (record { number = x.number; line = x.line.now }) ∷ data_lines x.number x.rest.now

-- what was read is what the text gives, unless memory ran out
abbrev pub Tells : Result (Vec ArrayValue Global) DataError → Result (List ArrayValue) Refusal → Type 0
Tells (Ok arrays) read = read ≡ Ok arrays.items
Tells (Err (Refused code number)) read = read ≡ Err (record { code = code; number = number })
Tells (Err Memory) read = Unit {0}

-- the same of one array
abbrev pub TellsOne : Result ArrayValue DataError → Result ArrayValue Refusal → Type 0
TellsOne (Ok array) made = made ≡ Ok array
TellsOne (Err (Refused code number)) made = made ≡ Err (record { code = code; number = number })
TellsOne (Err Memory) made = Unit {0}
