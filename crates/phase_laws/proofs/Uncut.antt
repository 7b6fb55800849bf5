-- Without a cut, the machine that runs phases is that of counted code.
use Rattle.std.proofs.Common.{◌≡◌, ℕ, zero, suc, List, map, length, Option, Some, None, refl, ◌∙◌}
use Rattle.std.specs.Prelude.{if◌then◌else◌, slice_get}
use Rattle.sac_base.specs.declared.faults.Caps.{Caps}
use Rattle.sac_base.specs.declared.faults.FaultKind.TheVariants.{F7}
use Rattle.sac_base.specs.declared.site.Site.{Site}
use Rattle.sac_base.specs.Arrays.{ArrayValue}
use Rattle.sac_base.specs.Parts.{condition}
use Rattle.sac_base.specs.Types.{all_have}
use Rattle.counted_code.specs.Machine.{Values, DoesCalls, no_values, bind_values, first_value, turns_do, does, right_does}
use Rattle.counted_code.specs.Outcome.{DoesRun, code_param_types, code_param_vars, results_do, function_does, body_does, call_does, inline_does, deeper_does, call_does_at, copied_out, main_does, whole_run}
use Rattle.counted_code.specs.Terms.{CodeTerm, CodeRightTerm, CodeFunTerm, CodeProgram, Giving, Binding, Keeping, Releasing, PlainCode, IfCode, LoopCode, CallCode, WithCode, PartedCode}
use Rattle.counted_code.specs.Values.{Heap, empty_heap, Value, fails, go_on, then_go, choose_does, place_all, read, keep, release}
use Rattle.phase_laws.specs.Phased.{phased, right_phased, function_phased, body_phased, inline_phased, deeper_phased, calls_phased, main_phased, phased_run}

module _ (calls : DoesCalls) (turns : ℕ) where
  mutual
    pub block_uncut : (t : CodeTerm) (e : Values) (h : Heap) → phased None calls calls turns t e h ≡ does calls turns t e h
    block_uncut (Giving xs) e h = refl
    block_uncut (Binding xs s r t) e h =
        λ i. go_on (right_uncut r s e h i) (λ vs k. block_uncut t (bind_values e xs vs) k i)
    block_uncut (Keeping x t) e h = block_uncut t e (keep (e x) h)
    block_uncut (Releasing x t) e h = block_uncut t e (release (e x) h)

    pub right_uncut : (r : CodeRightTerm) (s : Site) (e : Values) (h : Heap) → right_phased None calls calls turns r s e h ≡ right_does calls turns r s e h
    right_uncut (PlainCode p) s e h = refl
    right_uncut (IfCode x a b) s e h = λ i. choose_does s (condition (read h (e x))) (λ k. block_uncut a e k i) (λ k. block_uncut b e k i) h
    right_uncut (LoopCode first_body start params test body u) s e h =
        λ i. turns_do first_body turns s u (λ vs. first_value (λ k. block_uncut test (bind_values e params vs) k i)) (λ vs k. block_uncut body (bind_values e params vs) k i) (map e start) h
    right_uncut (CallCode g xs) s e h = refl
    right_uncut (WithCode op gens) s e h = refl
    right_uncut (PartedCode f b c op parts reuse) s e h = refl

function_uncut : (turns : ℕ) (calls : DoesCalls) (f : CodeFunTerm) (vs : List Value) (h : Heap) → function_phased None turns calls calls f vs h ≡ function_does turns calls f vs h
function_uncut turns calls f vs h = λ i. go_on (block_uncut calls turns f.body (bind_values no_values (code_param_vars f) vs) h i) (results_do f.results f.ends)

body_uncut : (turns : ℕ) (calls : DoesCalls) (o : Option CodeFunTerm) (vs : List Value) (s : Site) (h : Heap) → body_phased None turns calls calls o vs s h ≡ body_does turns calls o vs s h
body_uncut turns calls None vs s h = refl
body_uncut turns calls (Some f) vs s h = function_uncut turns calls f vs h

module _ (code : CodeProgram) (turns : ℕ) where
  inline_uncut : (cells_outer outer : DoesRun) → outer ≡ cells_outer → (nest : ℕ) → inline_phased None code turns cells_outer outer nest ≡ inline_does code turns cells_outer nest
  inline_uncut cells_outer outer same zero = refl
  inline_uncut cells_outer outer same (suc nest) =
      (λ i place vs s. body_phased None turns (call_does code cells_outer (inline_does code turns cells_outer nest)) (call_does code (same i) (inline_uncut cells_outer outer same nest i)) (slice_get code.functions place) vs s)
      ∙ (λ i place vs s h. body_uncut turns (call_does code cells_outer (inline_does code turns cells_outer nest)) (slice_get code.functions place) vs s h i)

  pub deeper_uncut : (left : ℕ) → deeper_phased None code turns left ≡ deeper_does code turns left
  deeper_uncut zero = refl
  deeper_uncut (suc left) =
      (λ i place vs s. body_phased None turns (call_does_at code turns left) (calls_uncut_by left (deeper_uncut left) i) (slice_get code.functions place) vs s)
      ∙ (λ i place vs s h. body_uncut turns (call_does_at code turns left) (slice_get code.functions place) vs s h i)
    where
      calls_uncut_by : (n : ℕ) → deeper_phased None code turns n ≡ deeper_does code turns n → calls_phased None code turns n ≡ call_does_at code turns n
      calls_uncut_by n same =
          λ i. call_does code (same i) (inline_uncut (deeper_does code turns n) (deeper_phased None code turns n) same (length code.functions) i)

  pub nested_uncut : (left nest : ℕ) → inline_phased None code turns (deeper_does code turns left) (deeper_phased None code turns left) nest ≡ inline_does code turns (deeper_does code turns left) nest
  nested_uncut left nest = inline_uncut (deeper_does code turns left) (deeper_phased None code turns left) (deeper_uncut left) nest

  calls_uncut : (left : ℕ) → calls_phased None code turns left ≡ call_does_at code turns left
  calls_uncut left =
      λ i. call_does code (deeper_uncut left i) (nested_uncut left (length code.functions) i)

pub run_uncut : (code : CodeProgram) (args : List ArrayValue) (caps : Caps) → phased_run None code args caps ≡ whole_run code args caps
run_uncut code args caps =
    (λ i. main_phased None caps.turns (call_does_at code caps.turns caps.depth) (calls_uncut code caps.turns caps.depth i) (slice_get code.functions code.main) args empty_heap)
    ∙ main_uncut (slice_get code.functions code.main)
  where
    placed : (f : CodeFunTerm) → then_go (place_all args) (λ vs. then_go (function_phased None caps.turns (call_does_at code caps.turns caps.depth) (call_does_at code caps.turns caps.depth) f vs) copied_out) ≡ then_go (place_all args) (λ vs. then_go (function_does caps.turns (call_does_at code caps.turns caps.depth) f vs) copied_out)
    placed f = λ i. then_go (place_all args) (λ vs. then_go (λ h. function_uncut caps.turns (call_does_at code caps.turns caps.depth) f vs h i) copied_out)

    main_uncut : (o : Option CodeFunTerm) → main_phased None caps.turns (call_does_at code caps.turns caps.depth) (call_does_at code caps.turns caps.depth) o args empty_heap ≡ main_does caps.turns (call_does_at code caps.turns caps.depth) o args empty_heap
    main_uncut None = refl
    main_uncut (Some f) = λ i. (if all_have (code_param_types f) args then placed f i else fails F7 f.site) empty_heap
