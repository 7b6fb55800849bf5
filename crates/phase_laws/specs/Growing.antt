-- A heap has one buffer more for each one that was taken, whether it still has references or not.
use Rattle.std.specs.Prelude.{◌≡◌, ℕ, ◌+◌, List, length, Option, Some, None}
use Rattle.sac_base.specs.declared.site.Site.{Site}
use Rattle.counted_code.specs.Loops.{Source}
use Rattle.counted_code.specs.Machine.{DoesCalls}
use Rattle.counted_code.specs.Values.{Heap, Value, Ended, Done, Failed, Doing}

-- as many buffers more as were taken
abbrev pub Grown : Heap → Heap → Type 0
Grown h k = length k.buffers + h.taken ≡ length h.buffers + k.taken

abbrev pub EndsGrown : {A : Type 0} → Heap → Ended A → Type 0
EndsGrown h (Done a k) = Grown h k
EndsGrown h (Failed f phases) = Unit {0}

abbrev pub Grows : {A : Type 0} → Doing A → Type 0
Grows m = (h : Heap) → EndsGrown h (m h)

abbrev pub CallsGrow : DoesCalls → Type 0
CallsGrow calls = (group : ℕ) (vs : List Value) (s : Site) → Grows (calls group vs s)

abbrev pub SourceGrows : Option Source → Type 0
SourceGrows None = Unit {0}
SourceGrows (Some s) = Grows s.cell
