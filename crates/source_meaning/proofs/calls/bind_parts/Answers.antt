use Rattle.std.proofs.Common.{◌≡◌, ◌∙◌, ◌≤◌, ℕ, List, [], ◌∷◌, length, min, drop, map, ℤ, ap, sym, refl, arith, Ok, inl, inr}
use Rattle.std.proofs.lemmas.Bool.{cases_lt}
use Rattle.std.proofs.lemmas.List.{drop_all}
use Rattle.sac_base.specs.declared.base.Base.TheVariants.{Int}
use Rattle.sac_base.specs.declared.name.Name.{Name}
use Rattle.sac_base.specs.Arrays.{scalar}
use Rattle.sac_base.specs.Outcomes.{Env, with_variables}
use Rattle.sac_ast.specs.declared.Target.{Target}
use Rattle.source_meaning.specs.Environments.{env_of}
use Rattle.source_meaning.specs.Meaning.{names}
use Rattle.source_meaning.proofs.calls.bind_parts.Goals as goal

no_values : (ns : List Name) (env : Env) → with_variables ns [] env ≡ env
no_values [] env = refl
no_values (n ∷ ns) env = refl

parts_end : (ts : List Target) (vs : List ℤ) (k : ℕ) (env : Env) → min (length ts) (length vs) ≤ k → with_variables (names (drop k ts)) (map (scalar Int) (drop k vs)) env ≡ env
parts_end ts vs k env h = elim (cases_lt (length ts) (length vs)) [
  | inl lt ↦ ap (λ xs. with_variables (names xs) (map (scalar Int) (drop k vs)) env) (drop_all k ts (omega arith))
  | inr le ↦ ap (λ xs. with_variables (names (drop k ts)) (map (scalar Int) xs) env) (drop_all k vs (omega arith)) ∙ no_values (names (drop k ts)) env
]

pub returns : goal.returns
returns c =
    let past : min (length c.args.targets.now) (length c.args.v.now) ≤ c.loop-k.k = omega (arith, c.min-k-end.ensures, c.loop-k-test.false) in
    ap Ok (sym c.loop-k.invariant ∙ parts_end c.args.targets.now c.args.v.now c.loop-k.k (env_of c.loop-k.env) past)
