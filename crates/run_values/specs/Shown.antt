-- What the evaluator's values stand for in the machine, and what is seen of one without its cells.
use Rattle.std.specs.Prelude.{◌≡◌, ◌≤◌, ℕ, List, ℤ, Option, Some, None, Result, Ok, Err, length, map, unsigned_abs}
use Rattle.sac_base.specs.declared.base.Base.{Base}
use Rattle.sac_base.specs.declared.faults.FaultKind.{FaultKind}
use Rattle.sac_base.specs.Arrays.{ArrayValue, scalar, vector}
use Rattle.counted_code.specs.Values.{Value, Small, Ref}
use Rattle.counted_code.specs.Machine.{missing_value}
use Rattle.run_values.specs.declared.few.Few.{Few}
use Rattle.run_values.specs.declared.value.RunValue.{RunValue}
use Rattle.run_values.specs.declared.value.RunValue.TheVariants.{Unbound, Word, Short, Buffer}
use Rattle.run_values.specs.Numbers.{numbers}

-- a buffer is named by its number, which is the machine's
abbrev pub value_of : RunValue → Value
value_of Unbound = missing_value
value_of (Word base n) = Small (scalar base n)
value_of (Short base few) = Small (vector base (numbers few))
value_of (Buffer base id extents) = Ref id.born base (map unsigned_abs (numbers extents))

abbrev pub base_of : Value → Base
base_of (Small a) = a.base
base_of (Ref place base shape) = base

abbrev pub shape_of : Value → List ℕ
shape_of (Small a) = a.shape
shape_of (Ref place base shape) = shape

-- the list is short, or there is none
abbrev pub ShortOf : List ℤ → Option Few → Type 0
ShortOf ns (Some few) = numbers few ≡ ns
ShortOf ns None = 9 ≤ length ns

-- the vector of the answer, or its fault
abbrev pub GivesShort : Base → Result Few FaultKind → Result ArrayValue FaultKind → Type 0
GivesShort base (Ok few) meant = meant ≡ Ok (vector base (numbers few))
GivesShort base (Err kind) meant = meant ≡ Err kind

-- the number that the value is, or it is no scalar
abbrev pub WordOf : Value → Option ℤ → Type 0
WordOf v (Some n) = v ≡ Small (scalar (base_of v) n)
WordOf v None = 1 ≤ length (shape_of v)
