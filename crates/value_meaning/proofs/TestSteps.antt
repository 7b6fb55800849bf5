-- What a test says, and what is done by it.
use Rattle.std.proofs.Common.{◌≡◌, ℕ, zero, suc, ◌-◌, ◌<◌, true, false, ap, ◌∙◌, arith, Ok, Err}
use Rattle.sac_base.specs.declared.site.Site.{Site}
use Rattle.sac_base.specs.declared.faults.Fault.{Fault}
use Rattle.sac_base.specs.declared.faults.FaultKind.TheVariants.{F9}
use Rattle.sac_base.specs.Arrays.{ArrayValue}
use Rattle.sac_base.specs.Outcomes.{Ends, Env, and_then, fault}
use Rattle.source_meaning.specs.Meaning.{repeat}
use Rattle.array_ops.proofs.Steps.{said, test_fault, test_true, test_false}

module _ (site test_site : Site) (test : Env → Ends ArrayValue) (body : Env → Ends Env) where
  pub turn_test_fault : (left : ℕ) (env : Env) (f : Fault) → said test_site (test env) ≡ Err f → repeat left site test_site test body env ≡ Err f
  turn_test_fault zero env f e = test_fault test_site (fault F9 site) (Ok env) (test env) f e
  turn_test_fault (suc left) env f e = test_fault test_site (and_then (body env) (repeat left site test_site test body)) (Ok env) (test env) f e

  pub turn_ends : (left : ℕ) (env : Env) → said test_site (test env) ≡ Ok false → repeat left site test_site test body env ≡ Ok env
  turn_ends zero env e = test_false test_site (fault F9 site) (Ok env) (test env) e
  turn_ends (suc left) env e = test_false test_site (and_then (body env) (repeat left site test_site test body)) (Ok env) (test env) e

  pub turn_over : (left : ℕ) (env : Env) → left ≡ 0 → said test_site (test env) ≡ Ok true → repeat left site test_site test body env ≡ fault F9 site
  turn_over zero env z e = test_true test_site (fault F9 site) (Ok env) (test env) e
  turn_over (suc left) env z e = absurd (omega arith)

  pub turn_goes : (left : ℕ) (env : Env) → 0 < left → said test_site (test env) ≡ Ok true → repeat left site test_site test body env ≡ and_then (body env) (repeat (left - 1) site test_site test body)
  turn_goes zero env h e = absurd (omega arith)
  turn_goes (suc left) env h e =
      let same : left ≡ suc left - 1 = omega arith in
      test_true test_site (and_then (body env) (repeat left site test_site test body)) (Ok env) (test env) e
      ∙ ap (λ n. and_then (body env) (repeat n site test_site test body)) same
