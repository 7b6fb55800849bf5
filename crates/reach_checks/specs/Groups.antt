-- Which groups of functions are clear: no mark is reached from them.
use Rattle.std.specs.Prelude.{◌≡◌, ℕ, zero, suc, Bool, true, not, ◌&&◌, ◌||◌, List, [], ◌∷◌, Option, Some, None, slice_get, slice_index_or}
use Rattle.counted_code.specs.Terms.{CodeFunTerm, CodeProgram}
use Rattle.counted_laws.specs.mark_removal.Reached.{IsOne, ReachesNone}
use Rattle.reach_checks.specs.Clear.{is_clear}

-- what a table says of a group; of those behind its end there are no functions
abbrev pub clear_in : List Bool → ℕ → Bool
clear_in table group = slice_index_or table group true

module _ (clear : ℕ → Bool) (functions : List CodeFunTerm) where
  abbrev pub member_is_clear : Option CodeFunTerm → Bool
  member_is_clear None = true
  member_is_clear (Some f) = is_clear clear f.body

  -- the functions at these places are
  abbrev pub members_are_clear : List ℕ → Bool
  members_are_clear [] = true
  members_are_clear (place ∷ places) = member_is_clear (slice_get functions place) && members_are_clear places

  -- each group from a number on that is said to be clear has such functions
  abbrev pub groups_are_clear : ℕ → List (List ℕ) → Bool
  groups_are_clear group [] = true
  groups_are_clear group (places ∷ rest) = (not (clear group) || members_are_clear places) && groups_are_clear (suc group) rest

  -- which groups from a number on are said to be clear and have such functions
  abbrev pub narrowed : ℕ → List (List ℕ) → List Bool
  narrowed group [] = []
  narrowed group (places ∷ rest) = (clear group && members_are_clear places) ∷ narrowed (suc group) rest

abbrev pub all_clear : CodeProgram → (ℕ → Bool) → Bool
all_clear code clear = groups_are_clear clear code.functions zero code.groups

-- no other set of groups from which no mark is reached has more
abbrev pub IsGreatest : CodeProgram → (ℕ → Bool) → Type 0
IsGreatest code clear = (reached : ℕ → Bool) → ReachesNone code reached → (group : ℕ) → IsOne reached group → IsOne clear group
