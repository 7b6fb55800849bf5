-- The environment that the evaluator's variables stand for.
use Rattle.std.specs.Prelude.{List, Option, Some, None, find, option_map, bytes_eq}
use Rattle.std.specs.Borrow.{Bor}
use Rattle.sac_base.specs.Arrays.{ArrayValue}
use Rattle.source_meaning.specs.declared.environment.Environment.{Environment, Environment-F, fold-Environment}
use Rattle.source_meaning.specs.declared.environment.Binding.{Binding}
use Rattle.sac_base.specs.Outcomes.{Env, no_variables}

abbrev pub env_of_bindings : List Binding → Env
env_of_bindings bindings name =
    option_map (λ (b : Binding). b.value) (find (λ (b : Binding). bytes_eq b.name name) bindings)

abbrev pub or_else : Option ArrayValue → Option ArrayValue → Option ArrayValue
or_else None other = other
or_else (Some a) other = Some a

-- the inner scope's variables hide the outer ones
abbrev pub over : Env → Env → Env
over inner outer name = or_else (inner name) (outer name)

abbrev pub outer_of : Option (Bor Env) → Env
outer_of None = no_variables
outer_of (Some env) = env.now

abbrev pub env_step : Environment-F Env → Env
env_step e = over (env_of_bindings e.bindings.items) (outer_of e.outer)

abbrev pub env_of : Environment → Env
env_of = fold-Environment Env env_step
