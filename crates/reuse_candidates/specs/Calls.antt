-- Known bases of the results of groups, in a table by their numbers.
use Rattle.std.specs.Prelude.{ℕ, List, [], map, Option, Some, slice_get, unwrap_or}
use Rattle.sac_base.specs.declared.base.Base.{Base}
use Rattle.sac_base.specs.declared.types.ArrayType.{ArrayType}
use Rattle.core_ir.specs.declared.tree.Core.{Core}
use Rattle.core_ir.specs.View.{fun_term}
use Rattle.counted_code.specs.declared.tree.Code.{Code}
use Rattle.counted_code.specs.View.{code_fun_term}
use Rattle.plain_facts.specs.Called.{shapes_of}
use Rattle.counted_marks.specs.Known.{Given}
use Rattle.reuse_candidates.specs.declared.calls.Calls.{Calls}

-- a group that is not there has none
abbrev pub bases_in : List (List (Option Base)) → ℕ → List (Option Base)
bases_in groups g = unwrap_or (slice_get groups g) []

abbrev pub bases_of_types : List ArrayType → List (Option Base)
bases_of_types ts = map (λ (ty : ArrayType). Some ty.base) ts

abbrev pub same_groups : Core → List (List ℕ)
same_groups core = map (λ g. g.items) core.groups.items

abbrev pub same_results : Core → List (List ArrayType)
same_results core = map (λ f. (fun_term f).results) core.functions.items

abbrev pub results_of : Code → List (List ArrayType)
results_of code = map (λ f. (code_fun_term f).results) code.functions.items

abbrev pub given_by : Calls → Given
given_by calls = record { shapes = shapes_of calls.shapes; bases = bases_in calls.bases }
