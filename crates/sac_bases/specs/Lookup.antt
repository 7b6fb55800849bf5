-- Words for looking up bases.
use Rattle.std.specs.Prelude.{ℕ, List, ◌++◌, Option, Some, None, slice_get}
use Rattle.sac_base.specs.declared.base.Base.{Base}
use Rattle.sac_ast.specs.Tree.{FunctionTree}
use Rattle.sac_ast.specs.Bases.{Bases, call_bases_in, in_maybe, in_bound, index_bases}
use Rattle.sac_ast.specs.declared.Generator.{Generator}
use Rattle.sac_ast.specs.View.{maybe, bound, index_view}

abbrev pub or_none : Option (Option Base) → Option Base
or_none None = None
or_none (Some b) = b

-- the base at a place, where it is there
abbrev pub base_at : List (Option Base) → ℕ → Option Base
base_at bs k = or_none (slice_get bs k)

-- the bindings of a generator's bounds, index, step and width, after those that are known
abbrev pub in_bounds_of : List FunctionTree → Generator → Bases → Bases
in_bounds_of fs g known =
    let calls = call_bases_in fs in
    let bounds = in_bound calls (bound g.upper) (in_bound calls (bound g.lower) known ++ index_bases (index_view g.index)) in
    in_maybe calls (maybe g.width) (in_maybe calls (maybe g.step) bounds)
