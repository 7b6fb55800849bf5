-- Tables that say which groups are clear: when none of them reaches a mark, and what narrowing keeps.
use Rattle.std.proofs.Common.{◌≡◌, ℕ, zero, suc, ◌+◌, Bool, true, false, true≢false, not, ◌&&◌, ◌||◌, List, [], ◌∷◌, map, Option, Some, None, ◌⊎◌, inl, inr, refl, ap, sym, subst, ◌∙◌, arith}
use Rattle.std.specs.Prelude.{replicate, slice_get, slice_index_or, unwrap_or}
use Rattle.core_ir.specs.Outcome.{group_at}
use Rattle.core_facts.specs.calls.Nests.{CallsAll, StandsIn}
use Rattle.counted_code.specs.Counts.{Unmarked}
use Rattle.counted_code.specs.Terms.{CodeFunTerm, CodeProgram, core_of, core_of_code}
use Rattle.counted_laws.specs.mark_removal.Reached.{IsOne, ReachesNone}
use Rattle.reach_checks.specs.Clear.{is_clear}
use Rattle.reach_checks.specs.Groups.{all_clear, clear_in, groups_are_clear, member_is_clear, members_are_clear, narrowed, IsGreatest}
use Rattle.reach_checks.proofs.Exact.{block_calls, block_has_none, block_says, both, first, second}

-- a group that is said to be clear has clear members
said : (c m : Bool) → (not c || m) ≡ true → c ≡ true → m ≡ true
said true m e t = e
said false m e t = elim (true≢false (sym t)) [ ]

past : (A : Type 0) → suc zero ≡ zero → A
past A e = elim (none e) [ ]
  where
    none : suc zero ≡ zero → ⊥
    none q = omega (arith, q)

module _ (clear : ℕ → Bool) (functions : List CodeFunTerm) where
  -- the members of a group of the list
  members_at : (k : ℕ) (gs : List (List ℕ)) (n g : ℕ) → g ≡ k + n → groups_are_clear clear functions k gs ≡ true → clear g ≡ true
      → members_are_clear clear functions (unwrap_or (slice_get gs n) []) ≡ true
  members_at k [] n g is e t = refl
  members_at k (places ∷ rest) zero g is e t =
      said (clear k) (members_are_clear clear functions places) (first (not (clear k) || members_are_clear clear functions places) (groups_are_clear clear functions (suc k) rest) e)
      (ap clear (let q : k ≡ g = omega (arith, is) in q) ∙ t)
  members_at k (places ∷ rest) (suc n) g is e t =
      members_at (suc k) rest n g (let q : g ≡ suc k + n = omega (arith, is) in q)
      (second (not (clear k) || members_are_clear clear functions places) (groups_are_clear clear functions (suc k) rest) e) t

  -- each of them is clear
  member_at : (places : List ℕ) (place : ℕ) (f : CodeFunTerm) → members_are_clear clear functions places ≡ true → StandsIn places place → slice_get functions place ≡ Some f
      → is_clear clear f.body ≡ true
  member_at [] place f e stands is = elim stands [ ]
  member_at (p ∷ places) place f e (inl here) is =
      sym (ap (member_is_clear clear functions) (ap (slice_get functions) here ∙ is))
      ∙ first (member_is_clear clear functions (slice_get functions p)) (members_are_clear clear functions places) e
  member_at (p ∷ places) place f e (inr later) is =
      member_at places place f (second (member_is_clear clear functions (slice_get functions p)) (members_are_clear clear functions places) e) later is

-- a table that is closed says of no group that it is clear from which a mark is reached
pub closed_reaches_none : (code : CodeProgram) (clear : ℕ → Bool) → all_clear code clear ≡ true → ReachesNone code clear
closed_reaches_none code clear e = record {
  unmarked = λ g place f one stands is. block_has_none clear f.body (at g place f one stands is);
  calls = λ g place f one stands is. block_calls clear f.body (at g place f one stands is);
}
  where
    at : (g place : ℕ) (f : CodeFunTerm) → IsOne clear g → StandsIn (group_at (core_of_code code) g) place → slice_get code.functions place ≡ Some f → is_clear clear f.body ≡ true
    at g place f one stands is =
        member_at clear code.functions (unwrap_or (slice_get code.groups g) []) place f
        (members_at clear code.functions zero code.groups g g (let q : g ≡ zero + g = omega arith in q) e one) stands is

-- ---- a set of groups from which no mark is reached stays within the table

module _ (clear reached : ℕ → Bool) (functions : List CodeFunTerm) (more : (g : ℕ) → IsOne reached g → IsOne clear g) where
  -- the members of such a group are clear
  all_members : (places : List ℕ)
      → ((place : ℕ) (f : CodeFunTerm) → StandsIn places place → slice_get functions place ≡ Some f → Unmarked f.body × CallsAll (IsOne reached) (core_of f.body))
      → members_are_clear clear functions places ≡ true
  all_members [] good = refl
  all_members (p ∷ places) good =
      both (member_is_clear clear functions (slice_get functions p)) (members_are_clear clear functions places) (one (slice_get functions p) refl)
      (all_members places (λ place f stands is. good place f (inr stands) is))
    where
      one : (o : Option CodeFunTerm) → slice_get functions p ≡ o → member_is_clear clear functions o ≡ true
      one None is = refl
      one (Some f) is = let h = good p f (inl refl) is in block_says clear reached more f.body h.0 h.1

  -- so narrowing keeps it
  kept : (k : ℕ) (gs : List (List ℕ)) (n g : ℕ) → g ≡ k + n
      → IsOne reached g
      → ((place : ℕ) (f : CodeFunTerm) → StandsIn (unwrap_or (slice_get gs n) []) place → slice_get functions place ≡ Some f → Unmarked f.body × CallsAll (IsOne reached) (core_of f.body))
      → slice_index_or (narrowed clear functions k gs) n true ≡ true
  kept k [] n g is one good = refl
  kept k (places ∷ rest) zero g is one good =
      both (clear k) (members_are_clear clear functions places) (ap clear (let q : k ≡ g = omega (arith, is) in q) ∙ more g one) (all_members places good)
  kept k (places ∷ rest) (suc n) g is one good = kept (suc k) rest n g (let q : g ≡ suc k + n = omega (arith, is) in q) one good

-- each set from which no mark is reached is within the table
pub narrowed_stays : (code : CodeProgram) (table next : List Bool) → next ≡ narrowed (clear_in table) code.functions zero code.groups → IsGreatest code (clear_in table)
    → IsGreatest code (clear_in next)
narrowed_stays code table next is greatest reached none g one =
    ap (λ (t : List Bool). slice_index_or t g true) is
    ∙ kept (clear_in table) reached code.functions (greatest reached none) zero code.groups g g (let q : g ≡ zero + g = omega arith in q) one
    (λ place f stands at. (none.unmarked g place f one stands at, none.calls g place f one stands at))

pub whole_is_greatest : (code : CodeProgram) (count : ℕ) (table : List Bool) → table ≡ replicate count true → IsGreatest code (clear_in table)
whole_is_greatest code count table is reached none g one = ap (λ (t : List Bool). slice_index_or t g true) is ∙ at count g
  where
    at : (n k : ℕ) → slice_index_or (replicate n true) k true ≡ true
    at zero k = refl
    at (suc n) zero = refl
    at (suc n) (suc k) = at n k
