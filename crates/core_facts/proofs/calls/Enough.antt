-- Inline calls that may nest deep enough mean the same, however deep they may nest.
use Rattle.std.proofs.Common.{◌≡◌, ℕ, zero, suc, ◌<◌, true, List, [], ◌∷◌, Some, refl, sym, ◌∙◌, arith}
use Rattle.std.specs.Prelude.{slice_get}
use Rattle.sac_base.specs.declared.site.Site.{Site}
use Rattle.sac_base.specs.Arrays.{ArrayValue}
use Rattle.sac_base.specs.Outcomes.{and_then}
use Rattle.core_ir.specs.Terms.{FunTerm, CoreTerm}
use Rattle.core_ir.specs.Meaning.{bind_all, no_variables}
use Rattle.core_ir.specs.Outcome.{RunMeaning, param_vars, body_of, results_in, call_by, run_inline, SameHeads, SameOutside}
use Rattle.core_facts.specs.calls.Nests.{InlineBelow, CallsBelow}
use Rattle.core_facts.proofs.calls.Agreeing.{agreeing, weaker}
use Rattle.core_facts.proofs.calls.Nested.{same_call}

heads_itself : (fs : List FunTerm) → SameHeads fs fs
heads_itself [] = tt
heads_itself (f ∷ fs) = (record { site = refl; types = refl; inlines = refl }, heads_itself fs)

itself : (core : CoreTerm) → SameOutside core core
itself core = record { groups = refl; main = refl; heads = heads_itself core.functions }

module _ (core : CoreTerm) (turns : ℕ) (outer : RunMeaning) (backward : CallsBelow core) where
  -- a function's body means the same by calls that agree below its place
  pub body_by : (N N' : RunMeaning) (n place : ℕ) (f : FunTerm) → slice_get core.functions place ≡ Some f → Rattle.core_facts.specs.calls.Nests.CallsAll (InlineBelow core n) f.body
      → ((j : ℕ) (g : FunTerm) → j < n → slice_get core.functions j ≡ Some g → g.is_inline ≡ true → (args : List ArrayValue) (site : Site) → N j args site ≡ N' j args site)
      → (args : List ArrayValue) (site : Site) → body_of turns (call_by core outer N) (slice_get core.functions place) args site ≡ body_of turns (call_by core outer N') (slice_get core.functions place) args site
  body_by N N' n place f e calls q args site =
      let r = agreeing (call_by core outer N) (call_by core outer N') turns f.body (weaker (InlineBelow core n) (λ h. call_by core outer N h ≡ call_by core outer N' h) (λ h below. same_call core core (itself core) outer N outer N' h n below refl q) f.body calls) in
      (λ i. body_of turns (call_by core outer N) (e i) args site)
      ∙ (λ i. and_then (r i (bind_all no_variables (param_vars f) args)) (results_in f.results f.ends))
      ∙ sym (λ i. body_of turns (call_by core outer N') (e i) args site)

  pub enough : (m n place : ℕ) (f : FunTerm) → place < m → place < n → slice_get core.functions place ≡ Some f → f.is_inline ≡ true → (args : List ArrayValue) (site : Site) → run_inline core turns outer m place args site ≡ run_inline core turns outer n place args site
  enough zero n place f lt lt' e t args site = absurd (omega arith)
  enough (suc m) zero place f lt lt' e t args site = absurd (omega arith)
  enough (suc m) (suc n) place f lt lt' e t args site =
      body_by (run_inline core turns outer m) (run_inline core turns outer n) place place f e (backward place f e t)
      (λ j g below h s args site. enough m n j g (omega arith) (omega arith) h s args site) args site
