-- A whole run spends on the machine what it spends on arrays.
use Rattle.std.proofs.Common.{◌≡◌, ℕ, ◌+◌, Bool, true, false, cond, List, [], ◌∷◌, map, length, Option, Some, None, Ok, refl, ◌∙◌, sym, subst, arith}
use Rattle.std.specs.Prelude.{if◌then◌else◌, slice_get}
use Rattle.std.proofs.lemmas.List.{append-nil}
use Rattle.sac_base.specs.declared.faults.Caps.{Caps}
use Rattle.sac_base.specs.declared.faults.FaultKind.TheVariants.{F7}
use Rattle.sac_base.specs.declared.types.ArrayType.{ArrayType}
use Rattle.sac_base.specs.Arrays.{ArrayValue}
use Rattle.sac_base.specs.Types.{all_have}
use Rattle.core_ir.specs.declared.tree.Var.{Var}
use Rattle.counted_code.specs.Counts.{IsWellCounted, IsUnmarked, group_results}
use Rattle.counted_code.specs.Outcome.{code_param_types, function_does, copied_out, main_does, whole_run}
use Rattle.counted_code.specs.Terms.{CodeFunTerm, CodeProgram, core_of_code}
use Rattle.counted_code.specs.Values.{Heap, empty_heap, Value, Small, Ref, Ended, Done, Failed, Doing, give, go_on, then_go, read, is_small, release, release_all, place_as, place_all, take_buffer}
use Rattle.counted_laws.specs.Simulation.{Owns, Matches, GivesAllBack}
use Rattle.counted_laws.proofs.Functions.{map_length, counted_at, unmarked_at}
use Rattle.counted_laws.proofs.Instances.{have_length}
use Rattle.counted_laws.proofs.Outcomes.{ends_as_core, all_placed as placed_as_they_are, nobody, empty_owns}
use Rattle.phase_laws.specs.Alone.{Spent, Context, SpentInAll}
use Rattle.phase_laws.specs.Spending.{Spending, nothing, both, total, buffers_of, body_spends, main_spends, whole_spends}
use Rattle.phase_laws.proofs.Functions.{function_spends, top}
use Rattle.phase_laws.proofs.Spent.{SameNumbers, release_spends, spent_both}

-- ---- the arguments

abbrev pub placing_all : List ArrayValue → Spending
placing_all ws = record { taken = total (λ (a : ArrayValue). buffers_of a.shape) ws; phases = [] }

-- placed arrays are read as they were, their references are held, and each that is not small has taken a buffer
abbrev pub Placed : ℕ → (ℕ → ℕ) → Heap → Spending → Ended (List Value) → List ArrayValue → Type 0
Placed n others h s m ws = Matches n others h m (Ok ws) × Spent s h m

-- each array that is not small takes a buffer
placed_spends : (small : Bool) (a : ArrayValue) (ws : List ArrayValue) (h : Heap) → ((k : Heap) → Spent (placing_all ws) k (place_all ws k)) → Spent (record { taken = cond small 0 1 + (placing_all ws).taken; phases = [] }) h (go_on (place_as small a h) (λ v. then_go (place_all ws) (λ vs. give (v ∷ vs))))
placed_spends true a ws h rest = go (place_all ws h) (rest h)
  where
    go : (m : Ended (List Value)) → Spent (placing_all ws) h m → Spent (record { taken = 0 + (placing_all ws).taken; phases = [] }) h (go_on m (λ vs. give (Small a ∷ vs)))
    go (Done vs k) s = let t = s.0 in (omega (arith, t), s.1, s.2)
    go (Failed f q) s = s
placed_spends false a ws h rest = go (place_all ws (take_buffer a.cells h)) (rest (take_buffer a.cells h))
  where
    go : (m : Ended (List Value)) → Spent (placing_all ws) (take_buffer a.cells h) m → Spent (record { taken = 1 + (placing_all ws).taken; phases = [] }) h (go_on m (λ vs. give (Ref (length h.buffers) a.base a.shape ∷ vs)))
    go (Done vs k) s = let t = s.0 in (omega (arith, t), s.1, s.2)
    go (Failed f q) s = s

all_spend : (ws : List ArrayValue) (h : Heap) → Spent (placing_all ws) h (place_all ws h)
all_spend [] h = (omega arith, refl, sym (append-nil h.phases))
all_spend (a ∷ ws) h = placed_spends (is_small a.shape) a ws h (all_spend ws)

pub all_placed : (ws : List ArrayValue) (h : Heap) (others : ℕ → ℕ) → Owns h [] others → Placed (length ws) others h (placing_all ws) (place_all ws h) ws
all_placed ws h others owns = (placed_as_they_are ws h others owns, all_spend ws h)

-- ---- the results

released_all : (vs : List Value) (h : Heap) → SameNumbers h (release_all vs h)
released_all [] h = (refl, refl, refl)
released_all (v ∷ vs) h =
    let first = release_spends v h in
    let rest = released_all vs (release v h) in
    (rest.0 ∙ first.0, rest.1 ∙ first.1, rest.2 ∙ first.2)

pub copied_spends : (s : Spending) (h : Heap) (m : Ended (List Value)) → Spent s h m → Spent s h (go_on m copied_out)
copied_spends s h (Done vs k) p =
    let same = released_all vs k in
    (same.0 ∙ p.0, same.1 ∙ p.1, same.2 ∙ p.2)
copied_spends s h (Failed f q) p = p

-- ---- the whole

placed_then : (n : ℕ) (ws : List ArrayValue) (rest : Spending) (next : List Value → Doing (List Value)) (m : Ended (List Value)) → Placed n nobody empty_heap (placing_all ws) m ws → ((vs : List Value) (k : Heap) → length vs ≡ n → Owns k vs nobody → map (read k) vs ≡ ws → Spent rest k (next vs k)) → Spent (both (placing_all ws) rest) empty_heap (go_on m (λ vs. then_go (next vs) copied_out))
placed_then n ws rest next (Done vs k) p go =
    let r = p.0 in
    spent_both (placing_all ws) rest empty_heap k vs (go_on (next vs k) copied_out) p.1 (copied_spends rest k (next vs k) (go vs k r.0 r.2 r.1))
placed_then n ws rest next (Failed f q) p go = elim p.0 [ ]

pub in_all : (s : Spending) (m : Ended (List ArrayValue)) → Spent s empty_heap m → GivesAllBack m → SpentInAll s m
in_all s (Done ws h) p even = let t = p.0 in (omega (arith, t), omega (arith, t, even), p.1, p.2)
in_all s (Failed f q) p even = p

module _ (code : CodeProgram) (counted : IsWellCounted code) (unmarked : IsUnmarked code) (args : List ArrayValue) (caps : Caps) where
  abbrev context : Context
  context = top code counted unmarked caps.turns caps.depth

  called : (f : CodeFunTerm) → slice_get code.functions code.main ≡ Some f → (fits : Bool) → all_have (code_param_types f) args ≡ fits → Spent (if fits then both (placing_all args) (body_spends caps.turns context.calls context.call_spends (Some f) args) else nothing) empty_heap ((if fits then then_go (place_all args) (λ vs. then_go (function_does caps.turns context.does_calls f vs) copied_out) else (λ h. Failed (record { kind = F7; site = f.site }) h.phases)) empty_heap)
  called f is false e = refl
  called f is true e =
      let size = have_length (code_param_types f) args e ∙ map_length (λ (p : Var × ArrayType). p.1) f.params ∙ sym (map_length (λ (p : Var × ArrayType). p.0) f.params) in
      placed_then (length args) args (body_spends caps.turns context.calls context.call_spends (Some f) args) (function_does caps.turns context.does_calls f) (place_all args empty_heap) (all_placed args empty_heap nobody empty_owns)
      (λ vs k z o w. subst (λ us. Spent (body_spends caps.turns context.calls context.call_spends (Some f) us) k (function_does caps.turns context.does_calls f vs k)) w
      (function_spends context f (counted_at (group_results (core_of_code code)) code.functions counted.functions code.main f is) (unmarked_at code.functions unmarked code.main f is) vs k nobody (z ∙ size) o))

  found : (o : Option CodeFunTerm) → slice_get code.functions code.main ≡ o → Spent (main_spends code caps.turns caps.depth o args) empty_heap (main_does caps.turns context.does_calls o args empty_heap)
  found None is = refl
  found (Some f) is = called f is (all_have (code_param_types f) args) refl

  pub run_spends : SpentInAll (whole_spends code args caps) (whole_run code args caps)
  run_spends =
      in_all (whole_spends code args caps) (whole_run code args caps) (found (slice_get code.functions code.main) refl) (ends_as_core code counted unmarked args caps).2
