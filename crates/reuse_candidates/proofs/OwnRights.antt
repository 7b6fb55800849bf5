-- Right sides with blocks: what is known of their values where they use an array at the own index alone.
use Rattle.std.specs.Prelude.{option_map}
use Rattle.std.proofs.Common.{◌≡◌, Bool, true, false, ◌&&◌, List, [], ◌∷◌, Option, Some, None, refl, sym, ap, ◌∙◌, Vec, Global}
use Rattle.sac_base.specs.declared.site.Site.{Site}
use Rattle.core_ir.specs.declared.tree.Var.{Var}
use Rattle.core_facts.specs.Facts.{Fact, block_facts, common_facts, known_shape, parted_shape, right_facts, shape_fact}
use Rattle.core_uses.specs.Tests.{none_is}
use Rattle.counted_code.specs.declared.tree.CodeBlock.{CodeBlock}
use Rattle.counted_code.specs.declared.tree.CodeRight.{CodeRight}
use Rattle.counted_code.specs.declared.tree.CodeRight.TheVariants as right
use Rattle.counted_code.specs.declared.tree.CodeWith.{CodeWith}
use Rattle.counted_code.specs.declared.tree.CodeParted.{CodeParted, out-CodeParted}
use Rattle.counted_code.specs.Terms.{IfCode, LoopCode, core_of, core_of_right}
use Rattle.counted_code.specs.View.{code_term, code_right_term, code_with_term, code_parted_term}
use Rattle.counted_code.proofs.Trees.{if_term, loop_term, with_out, parted_out}
use Rattle.plain_facts.specs.Called.{shapes_of}
use Rattle.reuse_candidates.specs.declared.cells.Search.{Search}
use Rattle.reuse_candidates.specs.Cells.{CellKnown, block_tells, in_turn, is_own, known_if, right_is_own, right_tells}
use Rattle.reuse_candidates.proofs.OwnTurns.{is_known, is_unknown}

both_own : (s a b : Bool) (fs gs : List Fact) → s ≡ true → a ≡ true → option_map (common_facts fs) (known_if b gs) ≡ known_if (s && (a && b)) (common_facts fs gs)
both_own s a true fs gs p q = λ i. known_if (sym p i && (sym q i && true)) (common_facts fs gs)
both_own s a false fs gs p q = λ i. known_if (sym p i && (sym q i && false)) (common_facts fs gs)

first_not : (s a b : Bool) (fs : List Fact) → a ≡ false → None ≡ known_if (s && (a && b)) fs
first_not true a b fs e = λ i. known_if (sym e i && b) fs
first_not false a b fs e = refl

module _ (s : Search) (k : CellKnown) where
  is_if : (r : CodeRight) (x : Var) (a b : CodeBlock) → r ≡ right.If x a b → code_right_term r ≡ IfCode x (code_term a) (code_term b)
  is_if r x a b e = ap code_right_term e ∙ if_term x a b

  is_loop : (r : CodeRight) (first : Bool) (start params : Vec Var Global) (test body : CodeBlock) (site : Site) → r ≡ right.Loop first start params test body site →
      code_right_term r ≡ LoopCode first start.items params.items (code_term test) (code_term body) site
  is_loop r first start params test body site e = ap code_right_term e ∙ loop_term first start params test body site

  -- ---- conditionals

  pub if_first : (r : CodeRight) (x : Var) (a b : CodeBlock) → r ≡ right.If x a b → None ≡ block_tells s (code_term a) k → None ≡ right_tells s (code_right_term r) k
  if_first r x a b e p =
      first_not (none_is s.array (x ∷ [])) (is_own s (code_term a) k) (is_own s (code_term b) k) _ (is_unknown _ _ p)
      ∙ (λ i. right_tells s (sym (is_if r x a b e) i) k)

  pub if_known : (r : CodeRight) (x : Var) (a b : CodeBlock) (k' : CellKnown) (fs : List Fact) (second o : Option (List Fact)) → r ≡ right.If x a b → none_is s.array (x ∷ []) ≡ true → Some fs ≡ block_tells s (code_term a) k →
      k' ≡ k → second ≡ block_tells s (code_term b) k' → o ≡ option_map (common_facts fs) second → o ≡ right_tells s (code_right_term r) k
  if_known r x a b k' fs second o e p first same two h =
      let w = is_known _ _ _ first in
      h
      ∙ (λ i. option_map (common_facts fs) ((two ∙ (λ j. block_tells s (code_term b) (same j))) i))
      ∙ both_own (none_is s.array (x ∷ [])) (is_own s (code_term a) k) (is_own s (code_term b) k) fs (block_facts (shapes_of s.called.now) (core_of (code_term b)) k.facts) p w.0
      ∙ (λ i. known_if (right_is_own s (IfCode x (code_term a) (code_term b)) k) (common_facts (w.1 i) (block_facts (shapes_of s.called.now) (core_of (code_term b)) k.facts)))
      ∙ (λ i. right_tells s (sym (is_if r x a b e) i) k)

  -- ---- loops

  pub loop_known : (r : CodeRight) (first : Bool) (start params : Vec Var Global) (test body : CodeBlock) (site : Site) (k1 k2 : CellKnown) (tested turned : Bool) (o : Option (List Fact)) → r ≡ right.Loop first start params test body site → none_is s.array start.items ≡ true →
      k1 ≡ in_turn k params.items → k2 ≡ k1 → tested ≡ is_own s (code_term test) k1 → turned ≡ is_own s (code_term body) k2 → o ≡ known_if (tested && turned) [] → o ≡ right_tells s (code_right_term r) k
  loop_known r first start params test body site k1 k2 tested turned o e p one two a b h =
      h
      ∙ (λ i. known_if (a i && b i) [])
      ∙ (λ i. known_if (is_own s (code_term test) (one i) && is_own s (code_term body) ((two ∙ one) i)) [])
      ∙ (λ i. known_if (sym p i && (is_own s (code_term test) (in_turn k params.items) && is_own s (code_term body) (in_turn k params.items))) [])
      ∙ (λ i. right_tells s (sym (is_loop r first start params test body site e) i) k)

  -- ---- with-loops and parted loops

  pub with_known : (r : CodeRight) (w : CodeWith) (own : Bool) (o : Option (List Fact)) → r ≡ right.With w → own ≡ right_is_own s (code_with_term w) k → o ≡ known_if own [] → o ≡ right_tells s (code_right_term r) k
  with_known r w own o e p h =
      h
      ∙ (λ i. known_if (p i) (right_facts (shapes_of s.called.now) (core_of_right (sym (with_out w) i)) k.facts))
      ∙ (λ i. right_tells s (code_right_term (sym e i)) k)

  pub parted_known : (r : CodeRight) (p : CodeParted) (own : Bool) (o : Option (List Fact)) → r ≡ right.Parted p → own ≡ right_is_own s (code_parted_term p) k →
      o ≡ known_if own (shape_fact (known_shape (parted_shape (out-CodeParted p).frame (out-CodeParted p).cell (out-CodeParted p).op)) ∷ []) → o ≡ right_tells s (code_right_term r) k
  parted_known r p own o e is h =
      h
      ∙ (λ i. known_if (is i) (right_facts (shapes_of s.called.now) (core_of_right (sym (parted_out p) i)) k.facts))
      ∙ (λ i. right_tells s (code_right_term (sym e i)) k)
