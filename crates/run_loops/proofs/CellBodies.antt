-- Where the cells of a loop come from, and what computes them.
use Rattle.std.proofs.Common.{◌≡◌, ℕ, ◌<◌, ◌≤◌, refl, sym, subst, arith, Option, Some, None}
use Rattle.std.specs.Prelude.{List, ℤ, option_map}
use Rattle.sac_base.specs.WithLoops.{Range}
use Rattle.counted_code.specs.declared.tree.CodeBlock.{size-CodeBlock}
use Rattle.counted_code.specs.declared.tree.CodeGen.{CodeGen, size-CodeGen}
use Rattle.counted_code.specs.declared.tree.CodePart.{CodePart, size-CodePart}
use Rattle.counted_code.specs.Machine.{Values}
use Rattle.counted_code.specs.Values.{Heap}
use Rattle.run_loops.specs.declared.cell_loop.CellLoop.{CellLoop}
use Rattle.run_loops.specs.declared.cell_loop.CellSource.{CellSource}
use Rattle.run_loops.specs.declared.cell_loop.CellSource.TheVariants.{Generators, Parts}
use Rattle.run_loops.specs.declared.state.Context.{Context}
use Rattle.run_loops.specs.Jobs.{source_of}
use Rattle.run_loops.specs.Loops.{Body, body_source, gen_body, gen_source, held, held_body, loop_source, part_body, part_held, part_source, source_at}
use Rattle.counted_code.proofs.Sizes.{gens_size, parts_size, gen_body as gen_body_size, part_body as part_body_size}
use Rattle.run_loops.proofs.Measures.{source_size}
use Rattle.run_loops.proofs.WithHolders.{held_below, part_held_below, part_source_is, source_is}

-- the evaluator's cells come from where the machine's do
source_at_is : (context : Context) (e : Values) (k : Heap) (s : CellSource) (ranges : List Range) (v : List ℤ) → source_at context e s ranges v ≡ source_of context e k s ranges v
source_at_is context e k (Generators gens) ranges v = sym (source_is context e k gens.now ranges v)
source_at_is context e k (Parts parts) ranges v = sym (part_source_is context e parts.now v)

pub loop_source_is : (context : Context) (e : Values) (k : Heap) (w : CellLoop) (v : List ℤ) → loop_source context e w v ≡ source_of context e k w.source w.plan.now.ranges.items v
loop_source_is context e k w v = source_at_is context e k w.source w.plan.now.ranges.items v

-- they come from bodies
module _ (context : Context) (e : Values) (v : List ℤ) where
  of_gen : (o : Option CodeGen) → option_map (gen_source context e v) o ≡ option_map (body_source context e v) (option_map gen_body o)
  of_gen None = refl
  of_gen (Some g) = refl

  of_part : (o : Option CodePart) → option_map (part_source context e v) o ≡ option_map (body_source context e v) (option_map part_body o)
  of_part None = refl
  of_part (Some p) = refl

  pub bodies_are : (s : CellSource) (ranges : List Range) → source_at context e s ranges v ≡ option_map (body_source context e v) (held_body s ranges v)
  bodies_are (Generators gens) ranges = of_gen (held gens.now ranges v)
  bodies_are (Parts parts) ranges = of_part (part_held parts.now v)

-- bodies are smaller than where they come from
gen_smaller : (n : ℕ) (b : Body) (o : Option CodeGen) → ((g : CodeGen) → Some g ≡ o → size-CodeGen g ≤ n) → Some b ≡ option_map gen_body o → size-CodeBlock b.block < n
gen_smaller n b None below e = cc
gen_smaller n b (Some g) below e =
    let same : b ≡ gen_body g = cc in
    subst (λ (b : Body). size-CodeBlock b.block < n) (sym same) (omega (arith, gen_body_size g, below g refl))

part_smaller : (n : ℕ) (b : Body) (o : Option CodePart) → ((p : CodePart) → Some p ≡ o → size-CodePart p ≤ n) → Some b ≡ option_map part_body o → size-CodeBlock b.block < n
part_smaller n b None below e = cc
part_smaller n b (Some p) below e =
    let same : b ≡ part_body p = cc in
    subst (λ (b : Body). size-CodeBlock b.block < n) (sym same) (omega (arith, part_body_size p, below p refl))

pub body_smaller : (s : CellSource) (ranges : List Range) (v : List ℤ) (b : Body) → Some b ≡ held_body s ranges v → size-CodeBlock b.block < source_size s
body_smaller (Generators gens) ranges v b e = gen_smaller (gens_size gens.now) b (held gens.now ranges v) (λ g is. held_below gens.now ranges v g is) e
body_smaller (Parts parts) ranges v b e = part_smaller (parts_size parts.now) b (part_held parts.now v) (λ p is. part_held_below parts.now v p is) e
