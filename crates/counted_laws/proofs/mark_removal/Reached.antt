-- What reaches no mark does the same in code without its marks.
use Rattle.std.proofs.Common.{◌≡◌, ℕ, zero, suc, Bool, List, map, length, Option, Some, None, refl, ap, ◌∙◌, sym}
use Rattle.std.specs.Prelude.{if◌then◌else◌, option_map, slice_get}
use Rattle.std.proofs.lemmas.List.{length-map}
use Rattle.std.proofs.lemmas.Option.{slice_get-map}
use Rattle.sac_base.specs.declared.site.Site.{Site}
use Rattle.core_ir.specs.Outcome.{chosen, group_at, instances}
use Rattle.core_facts.specs.calls.Nests.{CallsAll, CallsAllGens, CallsAllParts, StandsIn}
use Rattle.core_facts.proofs.calls.Agreeing.{weaker, weaker_gens, weaker_parts}
use Rattle.core_facts.proofs.calls.Nested.{chosen_in}
use Rattle.counted_code.specs.Machine.{no_values, bind_values, does, code_generators, code_cells}
use Rattle.counted_code.specs.Outcome.{DoesRun, code_param_vars, results_do, body_does, run_does, chosen_does, call_does, call_does_at, inline_does, deeper_does}
use Rattle.counted_code.specs.Terms.{CodeTerm, CodeGensTerm, CodePartsTerm, CodeFunTerm, CodeProgram, core_of, core_of_gens, core_of_parts, core_of_code}
use Rattle.counted_code.specs.Values.{Heap, Value, then_go, read}
use Rattle.counted_laws.specs.mark_removal.Reached.{IsOne, ReachesNone}
use Rattle.counted_laws.specs.mark_removal.Removal.{unmark_fun, without_marks}
use Rattle.counted_laws.specs.mark_removal.Statements.{calls_with}
use Rattle.counted_laws.proofs.mark_removal.Agreeing.{block_agrees, gens_agree, parts_agree}
use Rattle.counted_laws.proofs.mark_removal.Removed.{code_core, function_same}

module _ (code : CodeProgram) (reached : ℕ → Bool) (clear : ReachesNone code reached) where
  abbrev bare : CodeProgram
  bare = without_marks code

  -- some call of a reached group may take the function at the place
  abbrev MayRun : ℕ → Type 0
  MayRun place = (group : ℕ) × (IsOne reached group × StandsIn (group_at (core_of_code code) group) place)

  -- this function has no mark to lose
  there : (place : ℕ) → MayRun place → slice_get code.functions place ≡ slice_get bare.functions place
  there place r = sym (slice_get-map unmark_fun code.functions place ∙ go (slice_get code.functions place) refl)
    where
      go : (x : Option CodeFunTerm) → slice_get code.functions place ≡ x → option_map unmark_fun x ≡ x
      go None e = refl
      go (Some f) e = ap Some (function_same f (clear.unmarked r.0 place f r.1.0 r.1.1 e))

  -- functions that do the same where they may be called
  abbrev Agree : DoesRun → DoesRun → Type 0
  Agree M N = (place : ℕ) → MayRun place → M place ≡ N place

  same_run : (M N M' N' : DoesRun) (place : ℕ) (x : Option CodeFunTerm) → MayRun place → Agree M M' → Agree N N' → run_does M N place x ≡ run_does M' N' place x
  same_run M N M' N' place None r p q = refl
  same_run M N M' N' place (Some f) r p q = λ i vs s. if f.is_inline then q place r i vs s else p place r i vs s

  -- a call of a reached group
  same_call : (M N M' N' : DoesRun) (g : ℕ) → IsOne reached g → Agree M M' → Agree N N' → call_does code M N g ≡ call_does bare M' N' g
  same_call M N M' N' g m p q = λ i vs s h. whole vs s h i
    where
      at : (o : Option ℕ) (vs : List Value) (s : Site) (h : Heap) → ((place : ℕ) → o ≡ Some place → StandsIn (group_at (core_of_code code) g) place) → chosen_does code M N o vs s h ≡ chosen_does bare M' N' o vs s h
      at None vs s h stands = refl
      at (Some place) vs s h stands =
          let r : MayRun place = (g, (m, stands place refl)) in
          (λ i. same_run M N M' N' place (slice_get code.functions place) r p q i vs s h)
          ∙ (λ i. run_does M' N' place (there place r i) vs s h)

      whole : (vs : List Value) (s : Site) (h : Heap) → call_does code M N g vs s h ≡ call_does bare M' N' g vs s h
      whole vs s h =
          at (chosen (core_of_code code) g (map (read h) vs)) vs s h (λ place e. chosen_in (instances (core_of_code code).functions (group_at (core_of_code code) g)) (map (read h) vs) (core_of_code code).functions (group_at (core_of_code code) g) place e)
          ∙ (λ i. chosen_does bare M' N' (chosen (sym (code_core code) i) g (map (read h) vs)) vs s h)

  -- calls in blocks
  agreed : (M N M' N' : DoesRun) → Agree M M' → Agree N N' → (t : CodeTerm) → CallsAll (IsOne reached) (core_of t) → CallsAll (λ g. call_does code M N g ≡ call_does bare M' N' g) (core_of t)
  agreed M N M' N' p q t c = weaker (IsOne reached) (λ g. call_does code M N g ≡ call_does bare M' N' g) (λ g m. same_call M N M' N' g m p q) (core_of t) c

  module _ (turns : ℕ) where
    same_body : (M N M' N' : DoesRun) (place : ℕ) → MayRun place → Agree M M' → Agree N N'
        → body_does turns (call_does code M N) (slice_get code.functions place) ≡ body_does turns (call_does bare M' N') (slice_get bare.functions place)
    same_body M N M' N' place r p q =
        go (slice_get code.functions place) refl ∙ (λ i. body_does turns (call_does bare M' N') (there place r i))
      where
        go : (x : Option CodeFunTerm) → slice_get code.functions place ≡ x → body_does turns (call_does code M N) x ≡ body_does turns (call_does bare M' N') x
        go None e = refl
        go (Some f) e =
            let b = block_agrees (call_does code M N) (call_does bare M' N') turns f.body (agreed M N M' N' p q f.body (clear.calls r.0 place f r.1.0 r.1.1 e)) in
            λ i vs s h. then_go (b i (bind_values no_values (code_param_vars f) vs)) (results_do f.results f.ends) h

    same_inline : (M M' : DoesRun) (nest : ℕ) → Agree M M' → Agree (inline_does code turns M nest) (inline_does bare turns M' nest)
    same_inline M M' zero p place r = refl
    same_inline M M' (suc nest) p place r = same_body M (inline_does code turns M nest) M' (inline_does bare turns M' nest) place r p (same_inline M M' nest p)

    count : length code.functions ≡ length bare.functions
    count = sym (length-map code.functions unmark_fun)

    same_inlined : (M M' : DoesRun) → Agree M M' → Agree (inline_does code turns M (length code.functions)) (inline_does bare turns M' (length bare.functions))
    same_inlined M M' p place r = same_inline M M' (length code.functions) p place r ∙ (λ i. inline_does bare turns M' (count i) place)

    same_deeper : (left : ℕ) → Agree (deeper_does code turns left) (deeper_does bare turns left)
    same_deeper zero place r = refl
    same_deeper (suc left) place r =
        same_body (deeper_does code turns left) (inline_does code turns (deeper_does code turns left) (length code.functions)) (deeper_does bare turns left) (inline_does bare turns (deeper_does bare turns left) (length bare.functions))
        place r (same_deeper left) (same_inlined (deeper_does code turns left) (deeper_does bare turns left) (same_deeper left))

    module _ (left : ℕ) where
      pub level_same : (group : ℕ) → IsOne reached group → call_does_at code turns left group ≡ call_does_at bare turns left group
      level_same group m =
          same_call (deeper_does code turns left) (inline_does code turns (deeper_does code turns left) (length code.functions)) (deeper_does bare turns left) (inline_does bare turns (deeper_does bare turns left) (length bare.functions))
          group m (same_deeper left) (same_inlined (deeper_does code turns left) (deeper_does bare turns left) (same_deeper left))

      module _ (nest : ℕ) where
        pub calls_same : (group : ℕ) → IsOne reached group → calls_with code turns left nest group ≡ calls_with bare turns left nest group
        calls_same group m =
            same_call (deeper_does code turns left) (inline_does code turns (deeper_does code turns left) nest) (deeper_does bare turns left) (inline_does bare turns (deeper_does bare turns left) nest)
            group m (same_deeper left) (same_inline (deeper_does code turns left) (deeper_does bare turns left) nest (same_deeper left))

        abbrev Same : ℕ → Type 0
        Same g = calls_with code turns left nest g ≡ calls_with bare turns left nest g

        pub block_same : (t : CodeTerm) → CallsAll (IsOne reached) (core_of t) → does (calls_with code turns left nest) turns t ≡ does (calls_with bare turns left nest) turns t
        block_same t c = block_agrees (calls_with code turns left nest) (calls_with bare turns left nest) turns t (weaker (IsOne reached) Same calls_same (core_of t) c)

        pub gens_same : (gens : CodeGensTerm) → CallsAllGens (IsOne reached) (core_of_gens gens) → code_generators (calls_with code turns left nest) turns gens ≡ code_generators (calls_with bare turns left nest) turns gens
        gens_same gens c = gens_agree (calls_with code turns left nest) (calls_with bare turns left nest) turns gens (weaker_gens (IsOne reached) Same calls_same (core_of_gens gens) c)

        pub parts_same : (parts : CodePartsTerm) → CallsAllParts (IsOne reached) (core_of_parts parts) → code_cells (calls_with code turns left nest) turns parts ≡ code_cells (calls_with bare turns left nest) turns parts
        parts_same parts c = parts_agree (calls_with code turns left nest) (calls_with bare turns left nest) turns parts (weaker_parts (IsOne reached) Same calls_same (core_of_parts parts) c)
