-- A whole run ends as its core does, and leaves no buffer.
use Rattle.std.proofs.Common.{◌≡◌, ℕ, suc, ◌+◌, ◌%◌, ◌^◌, Bool, true, false, List, [], ◌∷◌, map, length, Option, Some, None, Ok, Err, refl, ap, ◌∙◌, sym, subst, arith}
use Rattle.std.specs.Prelude.{if◌then◌else◌, slice_get, option_map}
use Rattle.sac_base.specs.declared.faults.Caps.{Caps}
use Rattle.sac_base.specs.declared.faults.FaultKind.TheVariants.{F7}
use Rattle.sac_base.specs.declared.types.ArrayType.{ArrayType}
use Rattle.sac_base.specs.Arrays.{ArrayValue}
use Rattle.sac_base.specs.Outcomes.{fault}
use Rattle.sac_base.specs.Types.{all_have}
use Rattle.core_ir.specs.declared.tree.Var.{Var}
use Rattle.core_ir.specs.Meaning.{Answer, CallMeaning}
use Rattle.core_ir.specs.Outcome.{call_at, main_value, function_value, outcome}
use Rattle.counted_code.specs.Terms.{CodeFunTerm, CodeProgram, core_of_fun, core_of_code}
use Rattle.counted_code.specs.Values.{Heap, empty_heap, Value, Small, Ref, Ended, Done, Failed, Doing, give, go_on, then_go, read, count_of, is_small, release, release_all, place_as, place_all, take_buffer}
use Rattle.counted_code.specs.Machine.{DoesCalls}
use Rattle.counted_code.specs.Outcome.{code_param_types, function_does, call_does_at, copied_out, main_does, whole_run, outcome_of, cost_of}
use Rattle.counted_code.specs.Counts.{IsWellCounted, IsUnmarked, group_results}
use Rattle.counted_laws.specs.Simulation.{refers, Balanced, Owns, Matches, LeavesNothing, GivesAllBack}
use Rattle.counted_laws.proofs.Held.{backed_reads, released_owns, live_none, taken_balance}
use Rattle.counted_laws.proofs.Plains.{taken_cells, taken_owns, taken_same}
use Rattle.counted_laws.proofs.Instances.{have_length}
use Rattle.counted_laws.proofs.Functions.{slice_map, map_length, counted_at, unmarked_at, function_matches, top_matched}

-- ---- the arguments

-- placed arrays are read as they were, and their references are held
pub placed : (small : Bool) (a : ArrayValue) (ws : List ArrayValue) (h : Heap) (others : ℕ → ℕ) → Owns h [] others → ((k : Heap) (more : ℕ → ℕ) → Owns k [] more → Matches (length ws) more k (place_all ws k) (Ok ws)) → Matches (suc (length ws)) others h (go_on (place_as small a h) (λ v. then_go (place_all ws) (λ vs. give (v ∷ vs)))) (Ok (a ∷ ws))
placed true a ws h others owns rest = go (place_all ws h) (rest h others owns)
  where
    go : (m : Ended (List Value)) → Matches (length ws) others h m (Ok ws) → Matches (suc (length ws)) others h (go_on m (λ vs. give (Small a ∷ vs))) (Ok (a ∷ ws))
    go (Done vs k) r = (ap suc r.0, (λ i. a ∷ r.1 i), ((λ b. (let o = r.2.0 b in omega (arith, o))), r.2.1), r.3)
    go (Failed f p) r = elim r [ ]
placed false a ws h others owns rest = go (place_all ws k) (rest k more ((λ b. (let o = taken_owns h a.cells others owns b in omega (arith, o))), taken_balance h a.cells owns.1))
  where
    k : Heap
    k = take_buffer a.cells h

    more : ℕ → ℕ
    more b = refers b (Ref (length h.buffers) a.base a.shape) + others b

    go : (m : Ended (List Value)) → Matches (length ws) (λ b. refers b (Ref (length h.buffers) a.base a.shape) + others b) (take_buffer a.cells h) m (Ok ws) → Matches (suc (length ws)) others h (go_on m (λ vs. give (Ref (length h.buffers) a.base a.shape ∷ vs))) (Ok (a ∷ ws))
    go (Done vs l) r =
        let v : Value = Ref (length h.buffers) a.base a.shape in
        let kept = backed_reads (λ b. refers b v + others b) (take_buffer a.cells h) l v (λ b. omega arith) r.3 in
        let own = kept ∙ (λ i. record { base = a.base; shape = a.shape; cells = taken_cells h a.cells i }) in (
          ap suc r.0,
          (λ i. own i ∷ r.1 i),
          ((λ b. (let o = r.2.0 b in omega (arith, o))), r.2.1),
          (λ b le. r.3 b (omega (arith, le)) ∙ taken_same h a.cells others owns b le),
        )
    go (Failed f p) r = elim r [ ]

pub all_placed : (ws : List ArrayValue) (h : Heap) (others : ℕ → ℕ) → Owns h [] others → Matches (length ws) others h (place_all ws h) (Ok ws)
all_placed [] h others owns = (refl, refl, owns, (λ b le. refl))
all_placed (a ∷ ws) h others owns = placed (is_small a.shape) a ws h others owns (λ k more o. all_placed ws k more o)

-- ---- the results

pub released_counts : (vs : List Value) (h : Heap) (others : ℕ → ℕ) → Owns h vs others → (b : ℕ) → count_of (release_all vs h) b ≡ others b
released_counts [] h others owns b = let o = owns.0 b in omega (arith, o)
released_counts (v ∷ vs) h others owns b = released_counts vs (release v h) others (released_owns h v vs others owns) b

pub released_all : (vs : List Value) (h : Heap) (others : ℕ → ℕ) → Owns h vs others → Balanced (release_all vs h)
released_all [] h others owns = owns.1
released_all (v ∷ vs) h others owns = released_all vs (release v h) others (released_owns h v vs others owns)

-- nobody else holds anything
abbrev pub nobody : ℕ → ℕ
nobody b = 0

-- a run ends as the core does, leaves nothing, and gives back what it took
abbrev pub EndsAs : Ended (List ArrayValue) → Answer → Type 0
EndsAs m a = (outcome_of m ≡ a) × LeavesNothing m × GivesAllBack m

pub copied : (n : ℕ) (h : Heap) (m : Ended (List Value)) (a : Answer) → Matches n nobody h m a → EndsAs (go_on m copied_out) a
copied n h (Done vs k) (Ok ws) r =
    let none = released_counts vs k nobody r.2 in
    let all = released_all vs k nobody r.2 in
    let left = live_none (release_all vs k).buffers none in
    (ap Ok r.1, none, omega (arith, all, left))
copied n h (Failed f p) (Err g) r = (ap Err r, tt, tt)
copied n h (Done vs k) (Err g) r = elim r [ ]
copied n h (Failed f p) (Ok ws) r = elim r [ ]

-- ---- the whole

pub empty_owns : Owns empty_heap [] nobody
empty_owns = ((λ b. omega arith), refl)

-- the arguments are placed, and what follows ends as it means
pub after_placing : (n m : ℕ) (ws : List ArrayValue) (next : List Value → Doing (List Value)) (a : List ArrayValue → Answer) → Matches n nobody empty_heap (place_all ws empty_heap) (Ok ws) → ((vs : List Value) (k : Heap) → length vs ≡ n → Owns k vs nobody → map (read k) vs ≡ ws → Matches m nobody k (next vs k) (a (map (read k) vs))) → EndsAs (go_on (place_all ws empty_heap) (λ vs. then_go (next vs) copied_out)) (a ws)
after_placing n m ws next a placed rest = go (place_all ws empty_heap) placed
  where
    go : (p : Ended (List Value)) → Matches n nobody empty_heap p (Ok ws) → EndsAs (go_on p (λ vs. then_go (next vs) copied_out)) (a ws)
    go (Done vs k) r = subst (λ us. EndsAs (go_on (next vs k) copied_out) (a us)) r.1 (copied m k (next vs k) (a (map (read k) vs)) (rest vs k r.0 r.2 r.1))
    go (Failed f q) r = elim r [ ]

pub ends_as_core : (code : CodeProgram) → IsWellCounted code → IsUnmarked code → (args : List ArrayValue) (caps : Caps) → EndsAs (whole_run code args caps) (outcome (core_of_code code) args caps)
ends_as_core code counted unmarked args caps =
    subst (λ o. EndsAs (whole_run code args caps) (main_value caps.turns (call_at (core_of_code code) caps.turns caps.depth) o args)) (sym (slice_map code.functions code.main))
    (go (slice_get code.functions code.main) refl)
  where
    calls : CallMeaning
    calls = call_at (core_of_code code) caps.turns caps.depth

    does_calls : DoesCalls
    does_calls = call_does_at code caps.turns caps.depth

    called : (f : CodeFunTerm) → slice_get code.functions code.main ≡ Some f → (fits : Bool) → all_have (code_param_types f) args ≡ fits → EndsAs ((if fits then then_go (place_all args) (λ vs. then_go (function_does caps.turns (call_does_at code caps.turns caps.depth) f vs) copied_out) else (λ h. Failed (record { kind = F7; site = f.site }) h.phases)) empty_heap) (if fits then function_value caps.turns (call_at (core_of_code code) caps.turns caps.depth) (core_of_fun f) args else fault F7 f.site)
    called f is false e = (refl, tt, tt)
    called f is true e =
        let size = have_length (code_param_types f) args e ∙ map_length (λ (p : Var × ArrayType). p.1) f.params ∙ sym (map_length (λ (p : Var × ArrayType). p.0) f.params) in
        after_placing (length args) (length f.results) args (function_does caps.turns (call_does_at code caps.turns caps.depth) f) (function_value caps.turns (call_at (core_of_code code) caps.turns caps.depth) (core_of_fun f))
        (all_placed args empty_heap nobody empty_owns)
        (λ vs k z o read. function_matches (group_results (core_of_code code)) (call_does_at code caps.turns caps.depth) (call_at (core_of_code code) caps.turns caps.depth) caps.turns (top_matched code counted unmarked caps.turns caps.depth) f (counted_at (group_results (core_of_code code)) code.functions counted.functions code.main f is) (unmarked_at code.functions unmarked code.main f is) vs k nobody (z ∙ size) o)

    go : (o : Option CodeFunTerm) → slice_get code.functions code.main ≡ o → EndsAs (main_does caps.turns (call_does_at code caps.turns caps.depth) o args empty_heap) (main_value caps.turns (call_at (core_of_code code) caps.turns caps.depth) (option_map core_of_fun o) args)
    go None is = (refl, tt, tt)
    go (Some f) is = called f is (all_have (code_param_types f) args) refl

-- what a run takes and gives back, modulo 2 ^ 64
pub even_cost : (m : Ended (List ArrayValue)) → GivesAllBack m → (cost_of m).given ≡ (cost_of m).taken
even_cost (Done ws h) even = ap (λ n. n % 2 ^ 64) even
even_cost (Failed f phases) even = refl
