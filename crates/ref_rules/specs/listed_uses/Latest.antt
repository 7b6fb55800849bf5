-- Lists of uses with their sections, and where each variable is used last.
use Rattle.std.specs.Prelude.{◌≡◌, ◌+◌, ℕ, Bool, nat_eq, nat_lt, List, [], ◌∷◌, ◌++◌, length, drop, take, slice_index_or}
use Rattle.std.specs.Prelude.{Option, Some, None}
use Rattle.std.specs.HashMap.{get, HashMap}
use Rattle.core_ir.specs.declared.tree.Var.{Var}
use Rattle.core_ir.specs.Binders.{is_in}
use Rattle.ref_rules.specs.declared.listed_uses.list.Entry.{Entry}
use Rattle.ref_rules.specs.declared.listed_uses.list.Entry.TheVariants.{Use, Section}

-- the variables that are used, in order
abbrev pub vars_of : List Entry → List Var
vars_of [] = []
vars_of (Use x ∷ es) = x ∷ vars_of es
vars_of (Section n ∷ es) = vars_of es

-- entries behind a head that has their number
abbrev pub section : List Entry → List Entry
section es = Section (length es) ∷ es

abbrev pub head_of : Option Entry → ℕ
head_of None = 0
head_of (Some (Use x)) = 0
head_of (Some (Section n)) = n

-- where these entries stand at the place, the other place is behind them
abbrev pub EndsAt : List Entry → ℕ → List Entry → ℕ → Type 0
EndsAt es place inner end = (later : List Entry) → drop place es ≡ inner ++ later → (end ≡ place + length inner) × (drop end es ≡ later)

-- where these entries stand at the place
abbrev pub IfAt : List Entry → ℕ → List Entry → Type 0 → Type 0
IfAt es place inner P = (later : List Entry) → drop place es ≡ inner ++ later → P

-- the variable is used at this place or later
abbrev pub is_used : List Entry → ℕ → Var → Bool
is_used es from x = is_in x (vars_of (drop from es))

-- the place is behind the last use of the variable, or is 0 where there is none
abbrev pub IsLast : List Entry → Var → ℕ → Type 0
IsLast es x behind = (from : ℕ) → is_used es from x ≡ nat_lt from behind

abbrev pub or_none : Option ℕ → ℕ
or_none None = 0
or_none (Some behind) = behind

module _ {S : Type 0} where
  -- what the table has for a variable, where no entry counts as 0
  abbrev pub behind_of : HashMap ℕ ℕ S → Var → ℕ
  behind_of last x = or_none (get nat_eq last x.0)

  -- the table has the last uses of all variables
  abbrev pub AreLast : HashMap ℕ ℕ S → List Entry → Type 0
  AreLast last es = (x : Var) → IsLast es x (behind_of last x)

-- for each use the list has the last one of the same variable before it
abbrev pub AreChained : List ℕ → List Entry → Type 0
AreChained earlier es =
    (place : ℕ) (x : Var) (rest : List Entry) → drop place es ≡ Use x ∷ rest → IsLast (take place es) x (slice_index_or earlier place 0)
