-- The meaning of with-loops as the evaluator computes it.
use Rattle.std.specs.Prelude.{Ok, List, ℤ, Option, Some, None, map}
use Rattle.sac_base.specs.declared.form.Form.{Form}
use Rattle.sac_base.specs.Arrays.{ArrayValue}
use Rattle.sac_base.specs.Outcomes.{Ends, Env, and_then}
use Rattle.sac_base.specs.WithLoops.{Bounds, Range, Operation, each}
use Rattle.sac_base.specs.WithLoops
use Rattle.sac_ast.specs.declared.Generator.{Generator}
use Rattle.sac_ast.specs.Tree.{Gen, Gens, BoundTree, MaybeExpr, OperationTree}
use Rattle.sac_ast.specs.View.{index_view}
use Rattle.sac_ast.specs.View
use Rattle.value_meaning.specs.declared.evaluate.Context.{Context}
use Rattle.value_meaning.specs.Evaluation.{bases_in, calls_in, cell_in}
use Rattle.source_meaning.specs.Meaning.{name_count, generator, generators, operation, default_base, bound, maybe}

abbrev pub bound_in : Context → BoundTree → Env → Ends (Option ArrayValue)
bound_in context = bound context.turns (bases_in context) (calls_in context)

abbrev pub maybe_in : Context → MaybeExpr → Env → Ends (Option ArrayValue)
maybe_in context = maybe context.turns (bases_in context) (calls_in context)

abbrev pub generator_in : Context → Gen → Env → Ends WithLoops.Generator
generator_in context = generator context.turns (bases_in context) (calls_in context)

abbrev pub generators_in : Context → Gens → Env → Ends (List WithLoops.Generator)
generators_in context = generators context.turns (bases_in context) (calls_in context)

-- the bounds, step and width of a generator
abbrev pub bounds_in : Context → Env → Generator → Ends Bounds
bounds_in context env g =
    and_then (bound_in context (View.bound g.lower) env) (λ l.
    and_then (bound_in context (View.bound g.upper) env) (λ u.
    and_then (maybe_in context (View.maybe g.step) env) (λ s.
    and_then (maybe_in context (View.maybe g.width) env) (λ w.
    Ok (record {
      lower = l;
      lower_closed = g.lower_closed;
      names = name_count (index_view g.index);
      upper = u;
      upper_closed = g.upper_closed;
      step = s;
      width = w;
      site = g.site;
    })))))

abbrev pub operation_in : Context → OperationTree → Gens → Env → Ends Operation
operation_in context op gs env = operation context.turns (bases_in context) (calls_in context) op (default_base (bases_in context) gs) env

-- a generator as far as its cells go
abbrev pub generator_of : Context → Env → Generator → WithLoops.Generator
generator_of context env g = record {
  bounds = record {
    lower = None;
    lower_closed = g.lower_closed;
    names = None;
    upper = None;
    upper_closed = g.upper_closed;
    step = None;
    width = None;
    site = g.site;
  };
  cell = λ v. cell_in context g v env;
}

abbrev pub checked_in : Context → Generator → List ℤ → Form → Env → Ends (Option ArrayValue)
checked_in context g v form env = WithLoops.held_cell form (Some (generator_of context env g)) v

abbrev pub held_in : Context → List Generator → List Range → List ℤ → Form → Env → Ends (Option ArrayValue)
held_in context gs ranges v form env = WithLoops.cell_at form (map (generator_of context env) gs) ranges v

abbrev pub cells_in : Context → List Generator → List Range → List (List ℤ) → Form → Env → Ends (List (Option ArrayValue))
cells_in context gs ranges indices form env = WithLoops.cells_of form (map (generator_of context env) gs) ranges indices
