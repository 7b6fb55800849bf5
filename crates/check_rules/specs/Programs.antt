-- What is found in a whole program: the same as the rules of acceptance, with the earliest violation in the place of all.
use Rattle.std.specs.Prelude.{List, [], ◌∷◌, ◌++◌, Bool, true, false, not, ◌&&◌, ◌||◌, if◌then◌else◌, bytes_eq, Option, Some, None, filter, length, ◌==◌}
use Rattle.std.specs.List.{list_all}
use Rattle.sac_base.specs.declared.base.Base.{Base}
use Rattle.sac_base.specs.declared.site.Site.{Site}
use Rattle.check_rules.specs.declared.code.CheckCode.TheVariants.{C3, C4, C6, C7, C8}
use Rattle.sac_ast.specs.Tree.{FunctionTree, ProgramTree}
use Rattle.sac_ast.specs.Bases.{first_named, bases_of_params, same_bases}
use Rattle.check_rules.specs.Accepted.{is_named, main_name, may_stand_together, same_truth, base_list, values_fit}
use Rattle.check_rules.specs.declared.violation.Violation.{Violation}
use Rattle.check_rules.specs.First.{earlier, unless}
use Rattle.check_rules.specs.Walk.{in_function}

abbrev pub named_stands : FunctionTree → FunctionTree → Bool
named_stands f g = not (bytes_eq g.name f.name) || may_stand_together f g

abbrev pub have_same_numbers : FunctionTree → FunctionTree → Bool
have_same_numbers g h = length g.params == length h.params && length g.results == length h.results

abbrev pub have_same_form : FunctionTree → FunctionTree → Bool
have_same_form g h = have_same_numbers g h && same_truth g.inline h.inline

abbrev pub bases_agree : FunctionTree → FunctionTree → Bool
bases_agree g h = not (same_bases (bases_of_params g) (bases_of_params h)) || same_bases (base_list g.results) (base_list h.results)

-- the functions of the list that have the name may stand beside it
abbrev pub stands_with : FunctionTree → List FunctionTree → Bool
stands_with f gs = list_all (may_stand_together f) (filter (is_named f.name) gs)

abbrev pub one_function : List FunctionTree → List FunctionTree → FunctionTree → Option Violation
one_function fs before f = earlier (unless (stands_with f before) C6 f.site) (in_function fs before f)

-- a function by what is found in its parts
abbrev pub ended_first : Option Violation → Option Violation → Option Violation → List (Option Base) → FunctionTree → Option Violation
ended_first twice body inside bases f =
    earlier (earlier (earlier (earlier twice body) inside) (unless (length bases == length f.results) C3 f.ends))
    (unless (values_fit bases f.results) C4 f.ends)

abbrev pub is_main_named : FunctionTree → Bool
is_main_named f = is_named main_name f

abbrev pub mains : List FunctionTree → List FunctionTree
mains fs = filter (is_named main_name) fs

-- a `main` where there was one before, and where there was none
abbrev pub second_main : List FunctionTree → Option Violation
second_main [] = None
second_main (g ∷ gs) = unless false C7 g.site

abbrev pub main_counted : List FunctionTree → Site → Option Violation
main_counted [] end = unless false C7 end
main_counted (g ∷ gs) end = second_main gs

abbrev pub mains_left : Bool → List FunctionTree → Site → Option Violation
mains_left true fs end = second_main (mains fs)
mains_left false fs end = main_counted (mains fs) end

-- no `main` is inline
abbrev pub inline_main : FunctionTree → Option Violation
inline_main g = if is_main_named g then unless (not g.inline) C8 g.site else None

abbrev pub inline_mains : List FunctionTree → Option Violation
inline_mains [] = None
inline_mains (g ∷ gs) = earlier (unless (not g.inline) C8 g.site) (inline_mains gs)

abbrev pub in_functions : List FunctionTree → List FunctionTree → List FunctionTree → Option Violation
in_functions fs before [] = None
in_functions fs before (f ∷ rest) =
    earlier (one_function fs before f) (in_functions fs (before ++ f ∷ []) rest)

abbrev pub in_program : ProgramTree → Option Violation
in_program p = earlier (in_functions p.functions [] p.functions) (earlier (main_counted (mains p.functions) p.end) (inline_mains (mains p.functions)))

-- the bases of the parameters of `main`
abbrev pub params_of : Option FunctionTree → List Base
params_of None = []
params_of (Some f) = bases_of_params f

abbrev pub main_bases : ProgramTree → List Base
main_bases p = params_of (first_named p.functions main_name)
