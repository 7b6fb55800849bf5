-- What values are in a heap of the machine.
use Rattle.std.specs.Prelude.{List, map}
use Rattle.sac_base.specs.Arrays.{ArrayValue}
use Rattle.counted_code.specs.Values.{Heap, read}
use Rattle.run_values.specs.declared.value.RunValue.{RunValue}
use Rattle.run_values.specs.Shown.{value_of}

abbrev pub arrays_in : Heap → List RunValue → List ArrayValue
arrays_in h vs = map (read h) (map value_of vs)
