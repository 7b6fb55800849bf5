-- Calls of arrays give arrays of the declared types, at every depth.
use Rattle.std.proofs.Common.{◌≡◌, ℕ, zero, suc, Bool, true, false, List, length, Option, Some, None, Ok, refl, sym, ap, subst, ◌∙◌}
use Rattle.std.specs.Prelude.{slice_get, if◌then◌else◌, unwrap_or}
use Rattle.sac_base.specs.declared.faults.FaultKind.TheVariants.{F7, F10}
use Rattle.sac_base.specs.declared.site.Site.{Site}
use Rattle.sac_base.specs.declared.types.ArrayType.{ArrayType}
use Rattle.sac_base.specs.Arrays.{ArrayValue}
use Rattle.sac_base.specs.Outcomes.{fault}
use Rattle.sac_base.specs.Types.{all_have}
use Rattle.core_ir.specs.Terms.{FunTerm, CoreTerm}
use Rattle.core_ir.specs.Meaning.{CallMeaning, no_variables, bind_all, run}
use Rattle.core_ir.specs.Outcome.{RunMeaning, param_types, param_vars, results_in, body_of, instances, group_at, chosen, run_chosen, call_chosen, call_by, run_inline, run_deeper}
use Rattle.core_facts.proofs.Shapes.{ok_same, no_ok}
use Rattle.core_facts.proofs.Sound.{then_ok}
use Rattle.core_facts.specs.calls.Arrays.{AllFull, CallsKeepFull, InTypes, CallsKeep, KeepsArrays}
use Rattle.core_facts.proofs.calls.Full.{full_bound, block_full}
use Rattle.core_facts.proofs.calls.Nested.{chosen_in}
use Rattle.counted_laws.proofs.Instances.{found}

-- the instance that is taken has the arguments in its types
pub taken_fits : (core : CoreTerm) (g : ℕ) (args : List ArrayValue) (place : ℕ) (f : FunTerm) → chosen core g args ≡ Some place → slice_get core.functions place ≡ Some f → all_have (param_types f) args ≡ true
taken_fits core g args place f is at =
    let r = found core.functions args (instances core.functions (group_at core g)) (group_at core g) place is in
    subst (λ (h : FunTerm). all_have (param_types h) args ≡ true) (ap (λ o. unwrap_or o f) (sym r.there ∙ at)) r.fits

-- what a function gives is declared
abbrev Declared : CoreTerm → ℕ → List ArrayValue → Type 0
Declared core place vs = (f : FunTerm) × ((slice_get core.functions place ≡ Some f) × (all_have f.results vs ≡ true))

abbrev pub RunKeeps : CoreTerm → RunMeaning → Type 0
RunKeeps core M = (place : ℕ) (args vs : List ArrayValue) (site : Site) → M place args site ≡ Ok vs → (AllFull args → AllFull vs) × Declared core place vs

results_ok : (types : List ArrayType) (site : Site) (ws vs : List ArrayValue) → results_in types site ws ≡ Ok vs → (ws ≡ vs) × (all_have types ws ≡ true)
results_ok types site ws vs p = go (all_have types ws) refl p
  where
    go : (t : Bool) → all_have types ws ≡ t → (if t then Ok ws else fault F7 site) ≡ Ok vs → (ws ≡ vs) × (all_have types ws ≡ true)
    go true e m = (ok_same ws vs m, e)
    go false e m = absurd (no_ok (record { kind = F7; site = site }) vs m)

pub full_only : (core : CoreTerm) (calls : CallMeaning) → CallsKeep core calls → CallsKeepFull calls
full_only core calls k g args vs s d p = (k g args vs s p).0 d

module _ (core : CoreTerm) (turns : ℕ) (arrays : KeepsArrays core) where
  body_keeps : (calls : CallMeaning) (place : ℕ) (x : Option FunTerm) → CallsKeepFull calls → slice_get core.functions place ≡ x → (args vs : List ArrayValue) (site : Site) → body_of turns calls x args site ≡ Ok vs → (AllFull args → AllFull vs) × Declared core place vs
  body_keeps calls place None c e args vs site p = absurd (no_ok (record { kind = F7; site = site }) vs p)
  body_keeps calls place (Some f) c e args vs site p =
      let env = bind_all no_variables (param_vars f) args in
      let t = then_ok (run calls turns f.body env) (results_in f.results f.ends) vs p in
      let w = results_ok f.results f.ends t.0 vs t.2 in
      ((λ d. subst AllFull w.0 (block_full calls turns f.body env t.0 (arrays calls turns place f c e) (full_bound no_variables (param_vars f) args (λ y. refl) d) t.1)), (f, (e, (λ i. all_have f.results (sym w.0 i)) ∙ w.1)))

  pub call_keeps : (M N : RunMeaning) → RunKeeps core M → RunKeeps core N → CallsKeep core (call_by core M N)
  call_keeps M N m n g args vs s p = go (chosen core g args) refl p
    where
      at : (place : ℕ) (x : Option FunTerm) → run_chosen M N place x args s ≡ Ok vs → (AllFull args → AllFull vs) × Declared core place vs
      at place None q = absurd (no_ok (record { kind = F7; site = s }) vs q)
      at place (Some f) q = by f.is_inline q
        where
          by : (t : Bool) → (if t then N place args s else M place args s) ≡ Ok vs → (AllFull args → AllFull vs) × Declared core place vs
          by true r = n place args vs s r
          by false r = m place args vs s r

      go : (o : Option ℕ) → chosen core g args ≡ o → call_chosen core M N o args s ≡ Ok vs → (AllFull args → AllFull vs) × InTypes core g args vs
      go None is q = absurd (no_ok (record { kind = F7; site = s }) vs q)
      go (Some place) is q =
          let w = at place (slice_get core.functions place) q in
          (w.0, (place, (w.1.0, (chosen_in (instances core.functions (group_at core g)) args core.functions (group_at core g) place is, w.1.1.0, w.1.1.1, taken_fits core g args place w.1.0 is w.1.1.0))))

  pub inline_keeps : (M : RunMeaning) (n : ℕ) → RunKeeps core M → RunKeeps core (run_inline core turns M n)
  inline_keeps M zero m place args vs site p = absurd (no_ok (record { kind = F10; site = site }) vs p)
  inline_keeps M (suc n) m place args vs site p =
      let calls = call_by core M (run_inline core turns M n) in
      body_keeps calls place (slice_get core.functions place) (full_only core calls (call_keeps M (run_inline core turns M n) m (λ i a v s q. inline_keeps M n m i a v s q))) refl args vs site p

  pub level_keeps : (M : RunMeaning) → RunKeeps core M → CallsKeep core (call_by core M (run_inline core turns M (length core.functions)))
  level_keeps M m = call_keeps M (run_inline core turns M (length core.functions)) m (inline_keeps M (length core.functions) m)

  pub deeper_keeps : (left : ℕ) → RunKeeps core (run_deeper core turns left)
  deeper_keeps zero place args vs site p = absurd (no_ok (record { kind = F10; site = site }) vs p)
  deeper_keeps (suc left) place args vs site p =
      let M = run_deeper core turns left in
      let calls = call_by core M (run_inline core turns M (length core.functions)) in
      body_keeps calls place (slice_get core.functions place) (full_only core calls (level_keeps M (λ i a v s q. deeper_keeps left i a v s q))) refl args vs site p
