-- With-loops and parted loops from the lists that their trees hold.
use Rattle.std.proofs.Common.{◌≡◌, List, [], ◌∷◌, map, refl, ap, ◌∙◌, None}
use Rattle.std.specs.Prelude.{option_map}
use Rattle.sac_base.specs.declared.site.Site.{Site}
use Rattle.core_ir.specs.Meaning.{operation}
use Rattle.counted_code.specs.declared.tree.CodeGen.{CodeGen}
use Rattle.counted_code.specs.declared.tree.CodePart.{CodePart}
use Rattle.counted_code.specs.declared.tree.CodeWith.{CodeWith, out-CodeWith}
use Rattle.counted_code.specs.declared.tree.CodeParted.{CodeParted, out-CodeParted}
use Rattle.counted_code.specs.Loops.{with_job, parted_job, loop_does}
use Rattle.counted_code.specs.Machine.{Values, reads, one_value, code_generators, code_cells}
use Rattle.counted_code.specs.Pieces.{gens_term, parts_term}
use Rattle.counted_code.specs.Values.{Heap}
use Rattle.counted_code.specs.View.{code_with_term, code_parted_term}
use Rattle.counted_code.proofs.Trees.{with_out, parted_out}
use Rattle.run_loops.specs.declared.state.Context.{Context}
use Rattle.run_loops.specs.Running.{calls_in, right_in, generator_in, cells_in}

module _ (context : Context) (e : Values) where
  gens_are : (gs : List CodeGen) (h : Heap) → code_generators (calls_in context) context.turns (gens_term gs) e h ≡ map (generator_in context e h) gs
  gens_are [] h = refl
  gens_are (g ∷ gs) h = ap (λ rest. generator_in context e h g ∷ rest) (gens_are gs h)

  parts_are : (ps : List CodePart) → code_cells (calls_in context) context.turns (parts_term ps) e ≡ map (cells_in context e) ps
  parts_are [] = refl
  parts_are (p ∷ ps) = ap (λ rest. cells_in context e p ∷ rest) (parts_are ps)

  pub with_means : (w : CodeWith) (s : Site) (m : Heap) → right_in context (code_with_term w) s e m ≡ one_value (loop_does (λ k. with_job (map (generator_in context e k) (out-CodeWith w).gens.items) (operation (out-CodeWith w).op s (reads k e))) None) m
  with_means w s m =
      let o = out-CodeWith w in
      ap (λ t. right_in context t s e m) (with_out w) ∙ (λ i. one_value (loop_does (λ k. with_job (gens_are o.gens.items k i) (operation o.op s (reads k e))) None) m)

  pub parted_means : (p : CodeParted) (s : Site) (m : Heap) → right_in context (code_parted_term p) s e m ≡ one_value (loop_does (λ k. parted_job (out-CodeParted p).frame (out-CodeParted p).base (out-CodeParted p).cell (out-CodeParted p).op (map (cells_in context e) (out-CodeParted p).parts.items) s (reads k e)) (option_map e (out-CodeParted p).reuse)) m
  parted_means p s m =
      let o = out-CodeParted p in
      ap (λ t. right_in context t s e m) (parted_out p) ∙ (λ i. one_value (loop_does (λ k. parted_job o.frame o.base o.cell o.op (parts_are o.parts.items i) s (reads k e)) (option_map e o.reuse)) m)
