-- Right sides, generators and parts with their marks.
use Rattle.std.proofs.Common.{◌≡◌, ℕ, ◌≤◌, Bool, List, [], ◌∷◌, length, map, take, take_all, refl, sym, ap, ◌∙◌, Vec, Global}
use Rattle.sac_base.specs.declared.site.Site.{Site}
use Rattle.core_ir.specs.declared.tree.Var.{Var}
use Rattle.counted_code.specs.declared.tree.CodeBlock.{CodeBlock}
use Rattle.counted_code.specs.declared.tree.CodeGen.{CodeGen}
use Rattle.counted_code.specs.declared.tree.CodePart.{CodePart}
use Rattle.counted_code.specs.declared.tree.CodeRight.{CodeRight}
use Rattle.counted_code.specs.declared.tree.CodeRight.TheBlock.{the_data, the_data-1, the_data-2, the_data-3, the_data-4, the_data-5, the_data-6, the_data-7}
use Rattle.counted_code.specs.declared.tree.CodeRight.TheVariants as right
use Rattle.counted_code.specs.declared.tree.CodeWith.{CodeWith, CodeWith-F, out-CodeWith, roll-CodeWith}
use Rattle.counted_code.specs.declared.tree.CodeParted.{CodeParted, CodeParted-F, out-CodeParted, roll-CodeParted}
use Rattle.counted_code.specs.Terms.{IfCode, LoopCode, WithCode, PartedCode, GenCode, PartCode, core_of, core_of_right}
use Rattle.counted_code.specs.View.{code_term, code_right_term, code_with_term, code_parted_term}
use Rattle.counted_marks.specs.Known.{Given, Known, in_loop}
use Rattle.counted_marks.specs.Marking.{marking, marking_gens, marking_parts, marking_right}
use Rattle.counted_code.specs.Pieces.{code_gen_term, code_part_term, code_gens_of, code_parts_of}
use Rattle.reuse_candidates.specs.Scopes.{Told, told_block, told_right}
use Rattle.counted_code.proofs.Trees.{if_term, loop_term, with_out, with_roll, parted_out, parted_roll}
use Rattle.buffer_reuse.specs.Marked.{marking_gen, marking_part}
use Rattle.buffer_reuse.specs.Rights.{either_told, start_told, with_told, parted_told}

module _ (g : Given) (k : Known) where
  -- ---- conditionals

  pub if_marked : (r : CodeRight) (x : Var) (a b a' b' : CodeBlock) (k' : Known) → r ≡ right.If x a b → k' ≡ k →
      code_term a' ≡ marking g (code_term a) k → code_term b' ≡ marking g (code_term b) k' → code_right_term (right.If x a' b') ≡ marking_right g (code_right_term r) k
  if_marked r x a b a' b' k' is same p q =
      if_term x a' b'
      ∙ (λ i. IfCode x (p i) ((q ∙ (λ j. marking g (code_term b) (same j))) i))
      ∙ (λ i. marking_right g (sym (if_term x a b) i) k)
      ∙ (λ i. marking_right g (code_right_term (sym is i)) k)

  pub if_told : (r : CodeRight) (x : Var) (a b : CodeBlock) (k' : Known) (t u v : Told) → r ≡ right.If x a b → k' ≡ k → v ≡ either_told t u →
      t ≡ told_block g (core_of (code_term a)) k → u ≡ told_block g (core_of (code_term b)) k' → v ≡ told_right g (core_of_right (code_right_term r)) k
  if_told r x a b k' t u v is same e p q =
      e
      ∙ (λ i. either_told (p i) ((q ∙ (λ j. told_block g (core_of (code_term b)) (same j))) i))
      ∙ (λ i. told_right g (core_of_right (sym (if_term x a b) i)) k)
      ∙ (λ i. told_right g (core_of_right (code_right_term (sym is i))) k)

  -- ---- loops

  pub loop_marked : (r : CodeRight) (first : Bool) (start params starts names : Vec Var Global) (test body test' body' : CodeBlock) (s : Site) (inner inner' : Known) → r ≡ right.Loop first start params test body s →
      starts.items ≡ start.items → names.items ≡ params.items → inner ≡ in_loop k params.items start.items → inner' ≡ inner → code_term test' ≡ marking g (code_term test) inner → code_term body' ≡ marking g (code_term body) inner' →
      code_right_term (right.Loop first starts names test' body' s) ≡ marking_right g (code_right_term r) k
  loop_marked r first start params starts names test body test' body' s inner inner' is copied named e e' p q =
      loop_term first starts names test' body' s
      ∙ (λ i. LoopCode first (copied i) (named i) ((p ∙ (λ j. marking g (code_term test) (e j))) i) ((q ∙ (λ j. marking g (code_term body) ((e' ∙ e) j))) i) s)
      ∙ (λ i. marking_right g (sym (loop_term first start params test body s) i) k)
      ∙ (λ i. marking_right g (code_right_term (sym is i)) k)

  pub loop_told : (r : CodeRight) (first : Bool) (start params : Vec Var Global) (test body : CodeBlock) (s : Site) (v : Told) → r ≡ right.Loop first start params test body s → v ≡ start_told k start.items →
      v ≡ told_right g (core_of_right (code_right_term r)) k
  loop_told r first start params test body s v is e =
      e
      ∙ (λ i. told_right g (core_of_right (sym (loop_term first start params test body s) i)) k)
      ∙ (λ i. told_right g (core_of_right (code_right_term (sym is i))) k)

  -- ---- with-loops and parted loops

  pub with_known : (r : CodeRight) (w : CodeWith) (v : Told) → r ≡ right.With w → v ≡ with_told k (out-CodeWith w).op → v ≡ told_right g (core_of_right (code_right_term r)) k
  with_known r w v is e =
      e
      ∙ (λ i. told_right g (core_of_right (sym (with_out w) i)) k)
      ∙ (λ i. told_right g (core_of_right (code_right_term (sym is i))) k)

  pub parted_known : (r : CodeRight) (p : CodeParted) (v : Told) → r ≡ right.Parted p → v ≡ parted_told (out-CodeParted p).frame (out-CodeParted p).base (out-CodeParted p).cell (out-CodeParted p).op →
      v ≡ told_right g (core_of_right (code_right_term r)) k
  parted_known r p v is e =
      e
      ∙ (λ i. told_right g (core_of_right (sym (parted_out p) i)) k)
      ∙ (λ i. told_right g (core_of_right (code_right_term (sym is i))) k)

  gens_marked : (gs : List CodeGen) → marking_gens g (code_gens_of (map code_gen_term gs)) k ≡ code_gens_of (map (λ x. marking_gen g (code_gen_term x) k) gs)
  gens_marked [] = refl
  gens_marked (x ∷ gs) = ap (λ rest. GenCode (code_gen_term x).head (marking_gen g (code_gen_term x) k).body rest) (gens_marked gs)

  parts_marked : (ps : List CodePart) → marking_parts g (code_parts_of (map code_part_term ps)) k ≡ code_parts_of (map (λ x. marking_part g (code_part_term x) k) ps)
  parts_marked [] = refl
  parts_marked (x ∷ ps) = ap (λ rest. PartCode (code_part_term x).head (marking_part g (code_part_term x) k).body rest) (parts_marked ps)

  -- after a walk over the generators, or the parts
  pub with_marked : (x : CodeWith-F the_data the_data-1 the_data-2 the_data-3 the_data-4 the_data-5 the_data-6 the_data-7) (w : CodeWith) (items : List CodeGen) (n : ℕ) → x.op ≡ (out-CodeWith w).op →
      map code_gen_term x.gens.items ≡ map (λ y. marking_gen g (code_gen_term y) k) (take n items) → length items ≤ n → items ≡ (out-CodeWith w).gens.items →
      code_with_term (roll-CodeWith x) ≡ marking_right g (code_with_term w) k
  with_marked x w items n op marked over all =
      with_roll x
      ∙ (λ i. WithCode (op i) (code_gens_of ((marked ∙ ap (map (λ y. marking_gen g (code_gen_term y) k)) (take_all n items over ∙ all)) i)))
      ∙ ap (WithCode (out-CodeWith w).op) (sym (gens_marked (out-CodeWith w).gens.items))
      ∙ (λ i. marking_right g (sym (with_out w) i) k)

  pub parted_marked : (x : CodeParted-F the_data the_data-1 the_data-2 the_data-3 the_data-4 the_data-5 the_data-6 the_data-7) (w : CodeParted) (items : List CodePart) (n : ℕ) →
      x.frame ≡ (out-CodeParted w).frame → x.base ≡ (out-CodeParted w).base → x.cell ≡ (out-CodeParted w).cell → x.op ≡ (out-CodeParted w).op → x.reuse ≡ (out-CodeParted w).reuse →
      map code_part_term x.parts.items ≡ map (λ y. marking_part g (code_part_term y) k) (take n items) → length items ≤ n → items ≡ (out-CodeParted w).parts.items →
      code_parted_term (roll-CodeParted x) ≡ marking_right g (code_parted_term w) k
  parted_marked x w items n frame base cell op reuse marked over all =
      parted_roll x
      ∙ (λ i. PartedCode (frame i) (base i) (cell i) (op i) (code_parts_of ((marked ∙ ap (map (λ y. marking_part g (code_part_term y) k)) (take_all n items over ∙ all)) i)) (reuse i))
      ∙ ap (λ ps. PartedCode (out-CodeParted w).frame (out-CodeParted w).base (out-CodeParted w).cell (out-CodeParted w).op ps (out-CodeParted w).reuse) (sym (parts_marked (out-CodeParted w).parts.items))
      ∙ (λ i. marking_right g (sym (parted_out w) i) k)
