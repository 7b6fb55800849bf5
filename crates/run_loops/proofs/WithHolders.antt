-- Which generator or part has an index.
use Rattle.std.proofs.Common.{◌≡◌, ℕ, zero, suc, subst, ◌+◌, ◌<◌, ◌≤◌, min, List, [], ◌∷◌, length, get_or, drop, map, Bool, true, false, refl, sym, ap, ◌∙◌, arith, Some, None}
use Rattle.std.specs.Prelude.{ℤ, option_map, if◌then◌else◌}
use Rattle.std.proofs.lemmas.List.{drop_more, drop_all}
use Rattle.sac_base.specs.Grids.{has_vector}
use Rattle.sac_base.specs.WithLoops.{Range, holds}
use Rattle.counted_code.specs.declared.tree.CodeGen.{CodeGen, size-CodeGen}
use Rattle.counted_code.specs.declared.tree.CodePart.{CodePart, size-CodePart}
use Rattle.counted_code.specs.Loops.{holder, part_holder}
use Rattle.counted_code.specs.Machine.{Values}
use Rattle.counted_code.specs.Values.{Heap}
use Rattle.run_loops.specs.declared.state.Context.{Context}
use Rattle.run_loops.specs.Running.{generator_in, cells_in}
use Rattle.run_loops.specs.Loops.{held, part_held, gen_source, part_source, source_in, part_source_in}
use Rattle.counted_code.proofs.Sizes.{gens_size, parts_size, gen_below, part_below}

-- ---- the machine's sources

module _ (context : Context) (e : Values) where
  pub source_is : (k : Heap) (gs : List CodeGen) (rs : List Range) (v : List ℤ) → holder (map (generator_in context e k) gs) rs v ≡ source_in context e gs rs v
  source_is k [] rs v = refl
  source_is k (g ∷ gs) [] v = refl
  source_is k (g ∷ gs) (r ∷ rs) v = by (holds r v) (source_is k gs rs v)
    where
      by : (b : Bool) → holder (map (generator_in context e k) gs) rs v ≡ source_in context e gs rs v → (if b then Some (gen_source context e v g) else holder (map (generator_in context e k) gs) rs v) ≡ option_map (gen_source context e v) (if b then Some g else held gs rs v)
      by true rest = refl
      by false rest = rest

  pub part_source_is : (ps : List CodePart) (v : List ℤ) → part_holder (map (cells_in context e) ps) v ≡ part_source_in context e ps v
  part_source_is [] v = refl
  part_source_is (p ∷ ps) v = by (has_vector p.grid v) (part_source_is ps v)
    where
      by : (b : Bool) → part_holder (map (cells_in context e) ps) v ≡ part_source_in context e ps v → (if b then Some (part_source context e v p) else part_holder (map (cells_in context e) ps) v) ≡ option_map (part_source context e v) (if b then Some p else part_held ps v)
      by true rest = refl
      by false rest = rest

-- ---- one step of the search

module _ (gs : List CodeGen) (rs : List Range) (v : List ℤ) (k : ℕ) (d : CodeGen) (e : Range) (inside : k < length gs) (within : k < length rs) where
  held_at : held (drop k gs) (drop k rs) v ≡ (if holds (get_or rs k e) v then Some (get_or gs k d) else held (drop (k + 1) gs) (drop (k + 1) rs) v)
  held_at = λ i. held (drop_more gs k d inside i) (drop_more rs k e within i) v

  pub held_here : holds (get_or rs k e) v ≡ true → held (drop k gs) (drop k rs) v ≡ Some (get_or gs k d)
  held_here h = held_at ∙ ap (λ b. if b then Some (get_or gs k d) else held (drop (k + 1) gs) (drop (k + 1) rs) v) h

  pub held_next : holds (get_or rs k e) v ≡ false → held (drop (k + 1) gs) (drop (k + 1) rs) v ≡ held (drop k gs) (drop k rs) v
  held_next h = sym (held_at ∙ ap (λ b. if b then Some (get_or gs k d) else held (drop (k + 1) gs) (drop (k + 1) rs) v) h)

held_none : (gs : List CodeGen) (v : List ℤ) → held gs [] v ≡ None
held_none [] v = refl
held_none (g ∷ gs) v = refl

pub held_past : (gs : List CodeGen) (rs : List Range) (v : List ℤ) (k : ℕ) → min (length gs) (length rs) ≤ k → held (drop k gs) (drop k rs) v ≡ None
held_past [] rs v k h = ap (λ gs. held gs (drop k rs) v) (drop_all k [] (omega arith))
held_past (g ∷ gs) [] v k h = ap (λ rs. held (drop k (g ∷ gs)) rs v) (drop_all k [] (omega arith)) ∙ held_none (drop k (g ∷ gs)) v
held_past (g ∷ gs) (r ∷ rs) v zero h = absurd (omega arith)
held_past (g ∷ gs) (r ∷ rs) v (suc k) h = held_past gs rs v k (omega arith)

module _ (ps : List CodePart) (v : List ℤ) (k : ℕ) (d : CodePart) (inside : k < length ps) where
  part_held_at : part_held (drop k ps) v ≡ (if has_vector (get_or ps k d).grid v then Some (get_or ps k d) else part_held (drop (k + 1) ps) v)
  part_held_at = ap (λ ps. part_held ps v) (drop_more ps k d inside)

  pub part_held_here : has_vector (get_or ps k d).grid v ≡ true → part_held (drop k ps) v ≡ Some (get_or ps k d)
  part_held_here h = part_held_at ∙ ap (λ b. if b then Some (get_or ps k d) else part_held (drop (k + 1) ps) v) h

  pub part_held_next : has_vector (get_or ps k d).grid v ≡ false → part_held (drop (k + 1) ps) v ≡ part_held (drop k ps) v
  part_held_next h = sym (part_held_at ∙ ap (λ b. if b then Some (get_or ps k d) else part_held (drop (k + 1) ps) v) h)

pub held_on : (gs : List CodeGen) (rs : List Range) (v : List ℤ) (k : ℕ) (e : Range) → k < length gs → k < length rs → holds (get_or rs k e) v ≡ false → held (drop (k + 1) gs) (drop (k + 1) rs) v ≡ held (drop k gs) (drop k rs) v
held_on [] rs v k e inside within h = absurd (omega arith)
held_on (g ∷ gs) rs v k e inside within h = held_next (g ∷ gs) rs v k g e inside within h

-- ---- what is found is one of the list

most_gens : (g : CodeGen) (gs : List CodeGen) → gens_size gs ≤ gens_size (g ∷ gs)
most_gens g gs = omega arith

pub held_below : (gs : List CodeGen) (rs : List Range) (v : List ℤ) (g : CodeGen) → Some g ≡ held gs rs v → size-CodeGen g ≤ gens_size gs
held_below [] rs v g e = cc
held_below (x ∷ gs) [] v g e = cc
held_below (x ∷ gs) (r ∷ rs) v g e = by (holds r v) (held_below gs rs v g) e
  where
    by : (b : Bool) → (Some g ≡ held gs rs v → size-CodeGen g ≤ gens_size gs) → Some g ≡ (if b then Some x else held gs rs v) → size-CodeGen g ≤ gens_size (x ∷ gs)
    by true rest e = let same : x ≡ g = cc in subst (λ g. size-CodeGen g ≤ gens_size (x ∷ gs)) same (gen_below (x ∷ gs) 0 x (omega arith))
    by false rest e = omega (arith, rest e, most_gens x gs)

most_parts : (p : CodePart) (ps : List CodePart) → parts_size ps ≤ parts_size (p ∷ ps)
most_parts p ps = omega arith

pub part_held_below : (ps : List CodePart) (v : List ℤ) (p : CodePart) → Some p ≡ part_held ps v → size-CodePart p ≤ parts_size ps
part_held_below [] v p e = cc
part_held_below (x ∷ ps) v p e = by (has_vector x.grid v) (part_held_below ps v p) e
  where
    by : (b : Bool) → (Some p ≡ part_held ps v → size-CodePart p ≤ parts_size ps) → Some p ≡ (if b then Some x else part_held ps v) → size-CodePart p ≤ parts_size (x ∷ ps)
    by true rest e = let same : x ≡ p = cc in subst (λ p. size-CodePart p ≤ parts_size (x ∷ ps)) same (part_below (x ∷ ps) 0 x (omega arith))
    by false rest e = omega (arith, rest e, most_parts x ps)
