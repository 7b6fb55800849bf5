-- Cores that have the same functions where main reaches have the same outcome.
use Rattle.std.proofs.Common.{◌≡◌, ℕ, zero, suc, Bool, List, length, Option, Some, None, refl, sym, ap, ◌∙◌}
use Rattle.std.specs.Prelude.{slice_get, if◌then◌else◌}
use Rattle.sac_base.specs.declared.faults.FaultKind.TheVariants.{F7}
use Rattle.sac_base.specs.declared.site.Site.{Site}
use Rattle.sac_base.specs.Arrays.{ArrayValue}
use Rattle.sac_base.specs.Outcomes.{and_then, fault}
use Rattle.sac_base.specs.Types.{all_have}
use Rattle.core_ir.specs.Meaning.{bind_all, no_variables}
use Rattle.core_ir.specs.Outcome.{RunMeaning, param_types, param_vars, results_in, function_value, body_of, instances, group_at, chosen, run_chosen, call_chosen, call_by, run_inline, run_deeper, call_at, main_value, SameOutcome, SameOutside}
use Rattle.core_ir.specs.Terms.{FunTerm, CoreTerm}
use Rattle.core_facts.specs.calls.Nests.{StandsIn}
use Rattle.core_facts.proofs.calls.Agreeing.{agreeing, weaker}
use Rattle.core_facts.proofs.calls.Nested.{same_chosen, chosen_in, same_count}
use Rattle.unreached_functions.specs.Closed.{IsMarked, IsClosed}

module _ (a b : CoreTerm) (groups functions : List Bool) (same : SameOutside a b) (closed : IsClosed a groups functions)
    (there : (place : ℕ) → IsMarked functions place → slice_get a.functions place ≡ slice_get b.functions place) where
  -- two meanings of functions agree where functions are marked
  abbrev Agree : RunMeaning → RunMeaning → Type 0
  Agree M N = (place : ℕ) → IsMarked functions place → (args : List ArrayValue) (site : Site) → M place args site ≡ N place args site

  same_run : (M N M' N' : RunMeaning) (place : ℕ) (x : Option FunTerm) (args : List ArrayValue) (site : Site) → IsMarked functions place → Agree M M' → Agree N N' → run_chosen M N place x args site ≡ run_chosen M' N' place x args site
  same_run M N M' N' place None args site m p q = refl
  same_run M N M' N' place (Some f) args site m p q = λ i. if f.is_inline then q place m args site i else p place m args site i

  -- a call of a marked group
  same_call : (M N M' N' : RunMeaning) (g : ℕ) → IsMarked groups g → Agree M M' → Agree N N' → call_by a M N g ≡ call_by b M' N' g
  same_call M N M' N' g m p q = λ i args site. whole args site i
    where
      at : (o : Option ℕ) (args : List ArrayValue) (site : Site) → ((place : ℕ) → o ≡ Some place → StandsIn (group_at a g) place) → call_chosen a M N o args site ≡ call_chosen b M' N' o args site
      at None args site s = refl
      at (Some place) args site s =
          let marked = closed.instances g place m (s place refl) in
          same_run M N M' N' place (slice_get a.functions place) args site marked p q
          ∙ (λ i. run_chosen M' N' place (there place marked i) args site)

      whole : (args : List ArrayValue) (site : Site) → call_by a M N g args site ≡ call_by b M' N' g args site
      whole args site =
          at (chosen a g args) args site (λ place e. chosen_in (instances a.functions (group_at a g)) args a.functions (group_at a g) place e)
          ∙ ap (λ o. call_chosen b M' N' o args site) (same_chosen a b same g args)

  module _ (turns : ℕ) where
    same_value : (M N M' N' : RunMeaning) (place : ℕ) (f : FunTerm) → IsMarked functions place → slice_get a.functions place ≡ Some f → Agree M M' → Agree N N' → (args : List ArrayValue)
        → function_value turns (call_by a M N) f args ≡ function_value turns (call_by b M' N') f args
    same_value M N M' N' place f m e p q args =
        let r = agreeing (call_by a M N) (call_by b M' N') turns f.body
        (weaker (IsMarked groups) (λ g. call_by a M N g ≡ call_by b M' N' g) (λ g marked. same_call M N M' N' g marked p q) f.body (closed.calls place f m e)) in
        λ i. and_then (r i (bind_all no_variables (param_vars f) args)) (results_in f.results f.ends)

    same_body : (M N M' N' : RunMeaning) (place : ℕ) → IsMarked functions place → Agree M M' → Agree N N' → (args : List ArrayValue) (site : Site)
        → body_of turns (call_by a M N) (slice_get a.functions place) args site ≡ body_of turns (call_by b M' N') (slice_get b.functions place) args site
    same_body M N M' N' place m p q args site = go (slice_get a.functions place) refl ∙ (λ i. body_of turns (call_by b M' N') (there place m i) args site)
      where
        go : (x : Option FunTerm) → slice_get a.functions place ≡ x
            → body_of turns (call_by a M N) (slice_get a.functions place) args site ≡ body_of turns (call_by b M' N') (slice_get a.functions place) args site
        go None e = (λ i. body_of turns (call_by a M N) (e i) args site) ∙ sym (λ i. body_of turns (call_by b M' N') (e i) args site)
        go (Some f) e = (λ i. body_of turns (call_by a M N) (e i) args site) ∙ same_value M N M' N' place f m e p q args ∙ sym (λ i. body_of turns (call_by b M' N') (e i) args site)

    same_inline : (M M' : RunMeaning) (n : ℕ) → Agree M M' → Agree (run_inline a turns M n) (run_inline b turns M' n)
    same_inline M M' zero p place m args site = refl
    same_inline M M' (suc n) p place m args site = same_body M (run_inline a turns M n) M' (run_inline b turns M' n) place m p (same_inline M M' n p) args site

    count : length a.functions ≡ length b.functions
    count = same_count a.functions b.functions same.heads

    same_inlined : (M M' : RunMeaning) → Agree M M' → Agree (run_inline a turns M (length a.functions)) (run_inline b turns M' (length b.functions))
    same_inlined M M' p place m args site = same_inline M M' (length a.functions) p place m args site ∙ (λ i. run_inline b turns M' (count i) place args site)

    same_deeper : (left : ℕ) → Agree (run_deeper a turns left) (run_deeper b turns left)
    same_deeper zero place m args site = refl
    same_deeper (suc left) place m args site =
        same_body (run_deeper a turns left) (run_inline a turns (run_deeper a turns left) (length a.functions)) (run_deeper b turns left) (run_inline b turns (run_deeper b turns left) (length b.functions))
        place m (same_deeper left) (same_inlined (run_deeper a turns left) (run_deeper b turns left) (same_deeper left)) args site

    same_main : (left : ℕ) (args : List ArrayValue) → main_value turns (call_at a turns left) (slice_get a.functions a.main) args ≡ main_value turns (call_at b turns left) (slice_get a.functions a.main) args
    same_main left args = go (slice_get a.functions a.main) refl
      where
        go : (x : Option FunTerm) → slice_get a.functions a.main ≡ x
            → main_value turns (call_at a turns left) (slice_get a.functions a.main) args ≡ main_value turns (call_at b turns left) (slice_get a.functions a.main) args
        go None e = (λ i. main_value turns (call_at a turns left) (e i) args) ∙ sym (λ i. main_value turns (call_at b turns left) (e i) args)
        go (Some f) e =
            let inside = same_value (run_deeper a turns left) (run_inline a turns (run_deeper a turns left) (length a.functions)) (run_deeper b turns left) (run_inline b turns (run_deeper b turns left) (length b.functions))
            a.main f closed.main e (same_deeper left) (same_inlined (run_deeper a turns left) (run_deeper b turns left) (same_deeper left)) args in
            (λ i. main_value turns (call_at a turns left) (e i) args)
            ∙ (λ i. if all_have (param_types f) args then inside i else fault F7 f.site)
            ∙ sym (λ i. main_value turns (call_at b turns left) (e i) args)

-- the same outcome
pub outcomes_reached : (a b : CoreTerm) (groups functions : List Bool) → SameOutside a b → IsClosed a groups functions → ((place : ℕ) → IsMarked functions place → slice_get a.functions place ≡ slice_get b.functions place) → SameOutcome a b
outcomes_reached a b groups functions same closed there args caps =
    same_main a b groups functions same closed there caps.turns caps.depth args
    ∙ (λ i. main_value caps.turns (call_at b caps.turns caps.depth) (there a.main closed.main i) args)
    ∙ (λ i. main_value caps.turns (call_at b caps.turns caps.depth) (slice_get b.functions (same.main i)) args)
