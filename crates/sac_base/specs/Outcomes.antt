-- What an evaluation comes to, and the environment of variables.
use Rattle.std.specs.Prelude.{List, [], ◌∷◌, pos, Bool, true, false, Option, Some, None, Result, Ok, Err, if◌then◌else◌, bytes_eq}
use Rattle.sac_base.specs.declared.base.Base.TheVariants.{Int}
use Rattle.sac_base.specs.declared.site.Site.{Site}
use Rattle.sac_base.specs.declared.faults.Fault.{Fault}
use Rattle.sac_base.specs.declared.faults.FaultKind.{FaultKind}
use Rattle.sac_base.specs.declared.faults.FaultKind.TheVariants.{F3}
use Rattle.sac_base.specs.declared.name.Name.{Name}
use Rattle.sac_base.specs.Arrays.{ArrayValue, scalar}

-- an evaluation ends with a value or with a fault
abbrev pub Ends : Type 0 → Type 0
Ends A = Result A Fault

-- goes on with the value; the first fault ends the evaluation
abbrev pub and_then : {A B : Type 0} → Ends A → (A → Ends B) → Ends B
and_then (Ok a) next = next a
and_then (Err fault) next = Err fault

abbrev pub fault : {A : Type 0} → FaultKind → Site → Ends A
fault kind site = Err (record { kind = kind; site = site })

-- a fault of an array's operation gets its place in the source
abbrev pub at_site : {A : Type 0} → Site → Result A FaultKind → Ends A
at_site site (Ok a) = Ok a
at_site site (Err kind) = fault kind site

-- the array of each variable that is bound
abbrev pub Env : Type 0
Env = Name → Option ArrayValue

abbrev pub no_variables : Env
no_variables name = None

-- the environment in which the name has this value
abbrev pub with_variable : Name → ArrayValue → Env → Env
with_variable name value env other = if bytes_eq other name then Some value else env other

-- the number 0 stands for what an accepted program never reads: a variable that is not bound, a result that is not there
abbrev pub or_zero : Option ArrayValue → ArrayValue
or_zero None = scalar Int (pos 0)
or_zero (Some value) = value

abbrev pub first_result : List ArrayValue → ArrayValue
first_result [] = scalar Int (pos 0)
first_result (value ∷ values) = value

-- names bound to values one after another, as far as there are both
abbrev pub with_variables : List Name → List ArrayValue → Env → Env
with_variables [] values env = env
with_variables (name ∷ names) [] env = env
with_variables (name ∷ names) (value ∷ values) env = with_variables names values (with_variable name value env)

-- goes on by what a condition says
abbrev pub choose : {A : Type 0} → Site → Option Bool → Ends A → Ends A → Ends A
choose site None first second = fault F3 site
choose site (Some true) first second = first
choose site (Some false) first second = second
