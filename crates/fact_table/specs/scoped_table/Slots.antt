-- How a table's slots and its trail hold its notes.
use Rattle.std.specs.Prelude.{◌≡◌, ◌<◌, ◌≤◌, ◌+◌, cond, eqb, List, [], ◌∷◌, ◌++◌, length, Option, None, replicate, slice_index_or}
use Rattle.core_ir.specs.declared.tree.Var.{Var}
use Rattle.fact_table.specs.declared.scoped_table.slots.Slots.{Slots}
use Rattle.fact_table.specs.declared.scoped_table.table.Hidden.{Hidden}
use Rattle.fact_table.specs.scoped_table.Notes.{Note}

module _ {T : Type 0} where
  -- what slots hold for each variable
  abbrev pub entries : List (Option T) → Var → Option T
  entries slots x = slice_index_or slots x.0 None

  -- the slots of all variables, those before the first that is made being empty
  abbrev pub all_slots : Slots T → List (Option T)
  all_slots s = replicate s.first None ++ s.made.items

  abbrev pub held : Slots T → Var → Option T
  held s = entries (all_slots s)

  -- the slot of a variable is made
  abbrev pub IsMade : Slots T → Var → Type 0
  IsMade s x = (s.first ≤ x.0) × (x.0 < s.first + length s.made.items)

  -- what is made in one is made in the other
  abbrev pub KeepsMade : Slots T → Slots T → Type 0
  KeepsMade s t = (x : Var) → IsMade s x → IsMade t x

  -- the same with another entry for a variable
  abbrev pub with_entry : (Var → Option T) → Var → Option T → Var → Option T
  with_entry k x o y = cond (eqb x.0 y.0) o (k y)

  -- the notes whose slots have these entries, by what they hide
  abbrev pub notes : (Var → Option T) → List (Hidden T) → List (Note T)
  notes k [] = []
  notes k (h ∷ rest) = record { variable = h.variable; value = k h.variable } ∷ notes (with_entry k h.variable h.entry) rest

  -- the slots of the trail's variables are made; below the trail there is no entry
  abbrev pub Rests : (Var → Type 0) → (Var → Option T) → List (Hidden T) → Type 0
  Rests made k [] = (x : Var) → k x ≡ None
  Rests made k (h ∷ rest) = made h.variable × Rests made (with_entry k h.variable h.entry) rest
