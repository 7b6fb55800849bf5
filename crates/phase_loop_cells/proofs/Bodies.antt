-- A cell of the body that computes it is the source's cell.
use Rattle.std.proofs.Common.{◌≡◌, ℤ, List, Option, Some, None, refl, sym, ap, ◌∙◌}
use Rattle.std.specs.Prelude.{option_map}
use Rattle.counted_code.specs.declared.tree.CodeGen.{CodeGen}
use Rattle.counted_code.specs.declared.tree.CodePart.{CodePart}
use Rattle.counted_code.specs.Machine.{Values}
use Rattle.run_loops.specs.declared.cell_loop.CellBody.{CellBody}
use Rattle.run_loops.specs.declared.cell_loop.CellSource.{CellSource}
use Rattle.run_loops.specs.declared.cell_loop.CellSource.TheVariants.{Generators, Parts}
use Rattle.run_loops.specs.declared.state.Context.{Context}
use Rattle.run_loops.specs.Loops.{body_of, body_source, gen_body, gen_source, held, held_body, part_body, part_held, part_source, source_at, source_of_body}
use Rattle.sac_base.specs.WithLoops.{Range}

module _ (context : Context) (e : Values) (v : List ℤ) where
  of_gen : (o : Option CodeGen) → option_map (gen_source context e v) o ≡ option_map (body_source context e v) (option_map gen_body o)
  of_gen None = refl
  of_gen (Some g) = refl

  of_part : (o : Option CodePart) → option_map (part_source context e v) o ≡ option_map (body_source context e v) (option_map part_body o)
  of_part None = refl
  of_part (Some p) = refl

  bodies_are : (source : CellSource) (ranges : List Range) → source_at context e source ranges v ≡ option_map (body_source context e v) (held_body source ranges v)
  bodies_are (Generators gens) ranges = of_gen (held gens.now ranges v)
  bodies_are (Parts parts) ranges = of_part (part_held parts.now v)

  pub source_is : (source : CellSource) (ranges : List Range) (body : Option CellBody) → option_map body_of body ≡ held_body source ranges v → source_of_body context e v body ≡ source_at context e source ranges v
  source_is source ranges body is = ap (option_map (body_source context e v)) is ∙ sym (bodies_are source ranges)
