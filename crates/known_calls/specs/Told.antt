-- Calls of the code, and parts of what they are looked for in.
use Rattle.std.specs.Prelude.{◌≡◌, ℕ, List, [], ◌∷◌, map, Option, Some, None, Vec}
use Rattle.std.specs.declared.alloc.Global.{Global}
use Rattle.core_ir.specs.Terms.{GenTerm, PartTerm}
use Rattle.core_facts.specs.Facts.{Facts, note_all, in_part}
use Rattle.known_calls.specs.declared.calls.KnownCall.{KnownCall}
use Rattle.known_calls.specs.Known.{GroupAndShapes, known_in}

abbrev pub told : List KnownCall → List GroupAndShapes
told calls = map (λ (c : KnownCall). (c.group, c.shapes.items)) calls

abbrev pub known_gen : (ℕ → List (Option (List ℕ))) → GenTerm → Facts → List GroupAndShapes
known_gen called g k = known_in called g.body (note_all k (g.head.index ∷ g.head.names) [])

abbrev pub known_part : (ℕ → List (Option (List ℕ))) → PartTerm → Facts → List GroupAndShapes
known_part called p k = known_in called p.body (in_part k p.head)

-- the shapes, where all of them are known
abbrev pub AreShapes : Option (List (List ℕ)) → Option (Vec (List ℕ) Global) → Type 0
AreShapes known None = known ≡ None
AreShapes known (Some shapes) = known ≡ Some shapes.items
