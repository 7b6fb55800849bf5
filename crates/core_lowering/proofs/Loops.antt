-- A loop of a source and a loop of the core that go the same way.
use Rattle.std.proofs.Common.{◌≡◌, ℕ, zero, suc, Bool, true, false, List, Option, Some, None, Ok, refl, sym, ◌∙◌}
use Rattle.sac_base.specs.declared.faults.FaultKind.TheVariants.{F9}
use Rattle.sac_base.specs.declared.site.Site.{Site}
use Rattle.sac_base.specs.Arrays.{ArrayValue}
use Rattle.sac_base.specs.Outcomes.{Ends, and_then, fault, choose}
use Rattle.sac_base.specs.Outcomes
use Rattle.sac_base.specs.Parts.{condition}
use Rattle.core_ir.specs.Meaning as core
use Rattle.source_meaning.specs.Meaning as source
use Rattle.core_lowering.proofs.Runs.{and_then_assoc}

-- after a choice
pub chosen : {A R : Type 0} (site : Site) (c : Option Bool) (x y : Ends A) (k : A → Ends R) → and_then (choose site c x y) k ≡ choose site c (and_then x k) (and_then y k)
chosen site None x y k = refl
chosen site (Some true) x y k = refl
chosen site (Some false) x y k = refl

-- choices of what comes to the same
pub choose_same : {R : Type 0} (site : Site) (c : Option Bool) (x y u v : Ends R) → (c ≡ Some true → x ≡ u) → (c ≡ Some false → y ≡ v) → choose site c x y ≡ choose site c u v
choose_same site None x y u v p q = refl
choose_same site (Some true) x y u v p q = p refl
choose_same site (Some false) x y u v p q = q refl

module _ {R : Type 0} (Inv : Outcomes.Env → List ArrayValue → Type 0) (site test_site : Site)
    (test : List ArrayValue → Ends ArrayValue) (body : List ArrayValue → Ends (List ArrayValue))
    (source_test : Outcomes.Env → Ends ArrayValue) (source_body : Outcomes.Env → Ends Outcomes.Env)
    (test_same : (env : Outcomes.Env) (vs : List ArrayValue) → Inv env vs → test vs ≡ source_test env)
    (body_same : (env : Outcomes.Env) (vs : List ArrayValue) (k : List ArrayValue → Ends R) (goal : Outcomes.Env → Ends R) → Inv env vs → ((env' : Outcomes.Env) (ws : List ArrayValue) → Inv env' ws → k ws ≡ goal env') → and_then (body vs) k ≡ and_then (source_body env) goal)
    (k : List ArrayValue → Ends R) (goal : Outcomes.Env → Ends R) (last : (env : Outcomes.Env) (vs : List ArrayValue) → Inv env vs → k vs ≡ goal env) where
  pub repeat_same : (left : ℕ) (env : Outcomes.Env) (vs : List ArrayValue) → Inv env vs → and_then (core.repeat left site test_site test body vs) k ≡ and_then (source.repeat left site test_site source_test source_body env) goal
  repeat_same zero env vs h =
      and_then_assoc (test vs) (λ c. choose test_site (condition c) (fault F9 site) (Ok vs)) k
      ∙ (λ i. and_then (test_same env vs h i) (λ c. (chosen test_site (condition c) (fault F9 site) (Ok vs) k
      ∙ choose_same test_site (condition c) (fault F9 site) (k vs) (fault F9 site) (goal env) (λ p. refl) (λ p. last env vs h)
      ∙ sym (chosen test_site (condition c) (fault F9 site) (Ok env) goal)) i))
      ∙ sym (and_then_assoc (source_test env) (λ c. choose test_site (condition c) (fault F9 site) (Ok env)) goal)
  repeat_same (suc left) env vs h =
      and_then_assoc (test vs) (λ c. choose test_site (condition c) (and_then (body vs) (core.repeat left site test_site test body)) (Ok vs)) k
      ∙ (λ i. and_then (test_same env vs h i) (λ c. (chosen test_site (condition c) (and_then (body vs) (core.repeat left site test_site test body)) (Ok vs) k
      ∙ choose_same test_site (condition c) _ (k vs) _ (goal env) (λ p.
      and_then_assoc (body vs) (core.repeat left site test_site test body) k
      ∙ body_same env vs (λ ws. and_then (core.repeat left site test_site test body ws) k) (λ env'. and_then (source.repeat left site test_site source_test source_body env') goal) h (λ env' ws g. repeat_same left env' ws g)
      ∙ sym (and_then_assoc (source_body env) (source.repeat left site test_site source_test source_body) goal)) (λ p. last env vs h)
      ∙ sym (chosen test_site (condition c) (and_then (source_body env) (source.repeat left site test_site source_test source_body)) (Ok env) goal)) i))
      ∙ sym (and_then_assoc (source_test env) (λ c. choose test_site (condition c) (and_then (source_body env) (source.repeat left site test_site source_test source_body)) (Ok env)) goal)
