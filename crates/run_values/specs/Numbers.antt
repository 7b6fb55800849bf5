-- The numbers of a short list.
use Rattle.std.specs.Prelude.{List, ℤ, take}
use Rattle.run_values.specs.declared.few.Few.{Few}

abbrev pub numbers : Few → List ℤ
numbers few = take few.len few.items
