-- The numbers of a heap: how many buffers were taken, given back and reused.
use Rattle.std.specs.Prelude.{◌≡◌, ℕ, ◌+◌, List, Option, Some, None}
use Rattle.sac_base.specs.declared.site.Site.{Site}
use Rattle.counted_code.specs.Loops.{Source}
use Rattle.counted_code.specs.Machine.{DoesCalls}
use Rattle.counted_code.specs.Values.{Heap, Value, Ended, Done, Failed, Doing}

-- the heap with numbers that begin anew
abbrev pub afresh : Heap → Heap
afresh h = record h { taken = 0; given = 0; reused = 0 }

-- the heap where so many buffers more were taken, given back and reused
abbrev pub with_more : (taken given reused : ℕ) → Heap → Heap
with_more t g r h = record h { taken = h.taken + t; given = h.given + g; reused = h.reused + r }

abbrev pub ends_with_more : {A : Type 0} → (taken given reused : ℕ) → Ended A → Ended A
ends_with_more t g r (Done a h) = Done a (with_more t g r h)
ends_with_more t g r (Failed f phases) = Failed f phases

-- the numbers have no say in what is done
abbrev pub IsBlind : {A : Type 0} → Doing A → Type 0
IsBlind m = (t g r : ℕ) (h : Heap) → m (with_more t g r h) ≡ ends_with_more t g r (m h)

abbrev pub CallsAreBlind : DoesCalls → Type 0
CallsAreBlind calls = (group : ℕ) (vs : List Value) (s : Site) → IsBlind (calls group vs s)

abbrev pub SourceIsBlind : Option Source → Type 0
SourceIsBlind None = Unit {0}
SourceIsBlind (Some s) = IsBlind s.cell
