use Rattle.std.proofs.Common.{◌≡◌, ◌<◌, List, [], ◌∷◌, length, get_or, ap, sym, ◌∙◌, Ok, refl, arith}
use Rattle.sac_ast.specs.declared.Target.{Target}
use Rattle.sac_base.specs.Arrays.{ArrayValue}
use Rattle.source_meaning.specs.Environments.{env_of}
use Rattle.source_meaning.specs.Meaning.{names}
use Rattle.sac_base.specs.Outcomes.{Env, with_variable, with_variables}
use Rattle.source_meaning.proofs.calls.assign_one.Goals as goal

-- one value goes to the first target
first_target : (targets : List Target) (d : Target) (value : ArrayValue) (env : Env) → 0 < length targets → with_variables (names targets) (value ∷ []) env ≡ with_variable (get_or targets 0 d).name value env
first_target [] d value env h = absurd (omega arith)
first_target (t ∷ []) d value env h = refl
first_target (t ∷ u ∷ ts) d value env h = refl

pub returns-in_ok-assign-in-Some : goal.returns-in_ok-assign-in-Some
returns-in_ok-assign-in-Some c =
    let t = c.in-Some.target.now in
    let env = env_of c.args.env.now in
    ap Ok (first_target c.args.targets.now t c.args.value env c.in-Some.ensures.item.3.0
    ∙ ap (λ (u : Target). with_variable u.name c.args.value env) (sym c.in-Some.ensures.item.1)
    ∙ sym c.in_ok-assign-in-Some.ensures)
