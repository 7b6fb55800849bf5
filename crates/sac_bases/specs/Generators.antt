-- The bases of generators, each of which is looked at once.
use Rattle.std.specs.Prelude.{List, [], ◌∷◌, ◌&&◌, Option, Some, None}
use Rattle.sac_base.specs.declared.base.Base.{Base}
use Rattle.sac_base.specs.declared.base.Base.TheVariants.{Int}
use Rattle.sac_ast.specs.Tree.{Gen, gen, Gens, no_gens, gen_and}
use Rattle.sac_ast.specs.Bases.{Bases, CallBases, base, bound_base, maybe_base, are_int, may_match, where_holds}
use Rattle.sac_bases.specs.declared.base.Given.{Given}

module _ (calls : CallBases) (known : Bases) where
  abbrev pub one_given : Gen → Given
  one_given (gen lower lower_closed index upper upper_closed step width body cell site) =
      record {
        are_int = are_int (bound_base calls known lower) (bound_base calls known upper)
            (maybe_base calls known step (Some Int)) (maybe_base calls known width (Some Int));
        cell = base calls known cell;
      }

  abbrev pub all_given : Gens → List Given
  all_given no_gens = []
  all_given (gen_and g gs) = one_given g ∷ all_given gs

abbrev pub first_cell : List Given → Option Base
first_cell [] = Some Int
first_cell (g ∷ gs) = g.cell

abbrev pub fitting : Option Base → List Given → Option Base
fitting wanted [] = wanted
fitting wanted (g ∷ gs) = where_holds (g.are_int && may_match wanted g.cell) (fitting wanted gs)
