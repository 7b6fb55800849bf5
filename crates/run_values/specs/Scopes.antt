-- The values of the variables in each scope that is open, as the stack of slots has them.
use Rattle.std.specs.Prelude.{ℕ, ◌+◌, ◌-◌, ◌≤◌, cond, eqb, nat_lt, List, [], ◌∷◌, ◌++◌, length, reverse, slice_index_or}
use Rattle.counted_code.specs.Machine.{Values}
use Rattle.run_values.specs.declared.frames.Frames.{Frames}
use Rattle.run_values.specs.declared.frames.Undo.{Undo}
use Rattle.run_values.specs.declared.frames.Undo.TheVariants.{Bound, Scope, Call}
use Rattle.run_values.specs.declared.value.RunValue.{RunValue}
use Rattle.run_values.specs.declared.value.RunValue.TheVariants.{Unbound}
use Rattle.run_values.specs.Shown.{value_of}

-- what stands in each slot, of which there are as many as asked for
abbrev pub Slots : Type 0
Slots = ℕ → RunValue

abbrev pub slots_of : List RunValue → Slots
slots_of slots i = slice_index_or slots i Unbound

-- nothing is bound in one slot
abbrev pub without : ℕ → Slots → Slots
without k s i = cond (eqb k i) Unbound (s i)

-- nothing is bound from a slot on
abbrev pub below : ℕ → Slots → Slots
below n s i = cond (nat_lt i n) (s i) Unbound

-- the same two of the slots behind the first n, which stand outside and stay
abbrev pub own_without : ℕ → ℕ → Slots → Slots
own_without n k s = cond (nat_lt k n) s (without k s)

abbrev pub own_below : ℕ → ℕ → Slots → Slots
own_below n k s = below (n + (k - n)) s

-- the values of a call's variables, by its first slot
abbrev pub seen : Slots → ℕ → Values
seen s base x = value_of (s (base + x.0))

-- the scopes around the last one, by what is to be undone, the latest first; the first n slots stand outside
abbrev pub around : ℕ → List Undo → Slots → ℕ → List Values
around n [] s base = []
around n (Bound k ∷ us) s base = around n us (own_without n k s) base
around n (Scope ∷ us) s base = seen s base ∷ around n us s base
around n (Call caller ∷ us) s base = seen (own_below n base s) caller ∷ around n us (own_below n base s) caller

-- what is undone so writes no slot below a number
abbrev pub IsBehind : ℕ → Undo → Type 0
IsBehind n (Bound k) = n ≤ k
IsBehind n Scope = Unit {0}
IsBehind n (Call caller) = ⊥

-- the slots outside, and behind them those that may be written
abbrev pub all_slots : Frames → List RunValue
all_slots f = f.outside.now ++ f.slots.items

-- the values in the last scope, and in each scope around it
abbrev pub current : Frames → Values
current f = seen (slots_of (all_slots f)) f.base

abbrev pub outer : Frames → List Values
outer f = around (length f.outside.now) (reverse f.trail.items) (slots_of (all_slots f)) f.base
