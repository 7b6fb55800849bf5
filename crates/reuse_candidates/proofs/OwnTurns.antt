-- One step of the walk through a loop's cells more, and its ends.
use Rattle.std.specs.Prelude.{unwrap_or, Vec, IfOk, OnOk, Result, Ok, Err}
use Rattle.std.specs.Option.{is_some}
use Rattle.std.specs.declared.alloc.Global.{Global}
use Rattle.std.proofs.Common.{◌≡◌, Bool, true, false, ◌&&◌, List, ◌∷◌, [], map, Option, Some, None, refl, sym, ap, ◌∙◌}
use Rattle.sac_base.specs.declared.site.Site.{Site}
use Rattle.core_ir.specs.declared.tree.Var.{Var}
use Rattle.core_facts.specs.Facts.{Fact, block_facts, right_facts}
use Rattle.counted_code.specs.declared.tree.CodeBlock.{CodeBlock}
use Rattle.counted_code.specs.declared.tree.CodeStep.{CodeStep}
use Rattle.counted_code.specs.Terms.{CodeTerm, CodeRightTerm, Giving, Binding, core_of, core_of_right}
use Rattle.counted_code.specs.View.{code_term, steps_before, step_term}
use Rattle.fact_table.specs.declared.known.Known.{Known}
use Rattle.fact_table.specs.Table.{fact_of}
use Rattle.plain_facts.specs.Called.{shapes_of}
use Rattle.fact_table.proofs.scoped_table.Marks.{earlier_on, none_gone}
use Rattle.reuse_candidates.specs.declared.cells.CellScope.{CellScope}
use Rattle.reuse_candidates.specs.declared.cells.Search.{Search}
use Rattle.reuse_candidates.specs.Cells.{CellKnown, block_tells, cell_mark, is_own, known_if, learned_in_cell, right_tells, seen, told_if, undone}

-- ---- what an answer says

pub is_known : (b : Bool) (fs gs : List Fact) → Some fs ≡ known_if b gs → (b ≡ true) × (fs ≡ gs)
is_known true fs gs e = (refl, ap (λ (o : Option (List Fact)). unwrap_or o []) e)
is_known false fs gs e = absurd (let q : ◌≡◌ {A = Option (List Fact)} (Some fs) None = e in cc)

pub is_unknown : (b : Bool) (gs : List Fact) → None ≡ known_if b gs → b ≡ false
is_unknown true gs e = absurd (let q : ◌≡◌ {A = Option (List Fact)} None (Some gs) = e in cc)
is_unknown false gs e = refl

-- whether there is one
pub some_is : (o : Option (Vec Known Global)) (b : Bool) (fs : List Fact) → seen o ≡ known_if b fs → is_some o ≡ b
some_is None true fs e = absurd (let q : ◌≡◌ {A = Option (List Fact)} None (Some fs) = e in cc)
some_is None false fs e = refl
some_is (Some v) true fs e = refl
some_is (Some v) false fs e = absurd (let q : ◌≡◌ {A = Option (List Fact)} (Some (map fact_of v.items)) None = e in cc)

-- what a call gives, if it gives something
pub on_ok : {A E : Type 0} (P Q : A → Type 0) (r : Result A E) → ((a : A) → P a → Q a) → IfOk r P → IfOk r Q
on_ok P Q (Ok a) f h = f a h
on_ok P Q (Err e) f h = h

pub if_done : {A E : Type 0} (P Q : Type 0) (r : Result A E) → (P → Q) → OnOk r P → OnOk r Q
if_done P Q (Ok a) f h = f h
if_done P Q (Err e) f h = h

-- ---- notes

pub cells_on : (a b c : CellScope) → undone (cell_mark a) b ≡ a → undone (cell_mark b) c ≡ b → undone (cell_mark a) c ≡ a
cells_on a b c p q =
    λ i. record {
      facts = earlier_on a.facts b.facts c.facts (ap (λ (s : CellScope). s.facts) p) (ap (λ (s : CellScope). s.facts) q) i;
      indices = earlier_on a.indices b.indices c.indices (ap (λ (s : CellScope). s.indices) p) (ap (λ (s : CellScope). s.indices) q) i;
    }

pub cells_stay : (a : CellScope) → undone (cell_mark a) a ≡ a
cells_stay a = λ i. record { facts = none_gone a.facts i; indices = none_gone a.indices i }

module _ (s : Search) where
  -- ---- steps

  -- one that is passed
  pub own_turn : (k k' : CellKnown) (x : CodeStep) (before rest : List CodeStep) (end : CodeTerm) (passed : Bool) (whole : Option (List Fact)) → before ≡ x ∷ rest → passed ≡ true →
      block_tells s (step_term x (steps_before rest end)) k ≡ told_if passed (block_tells s (steps_before rest end) k') → block_tells s (steps_before before end) k ≡ whole → block_tells s (steps_before rest end) k' ≡ whole
  own_turn k k' x before rest end passed whole b p e h =
      (λ i. told_if (sym p i) (block_tells s (steps_before rest end) k')) ∙ sym e ∙ (λ i. block_tells s (steps_before (sym b i) end) k) ∙ h

  -- one that is not
  pub own_stop : (k k' : CellKnown) (x : CodeStep) (before rest : List CodeStep) (end : CodeTerm) (passed : Bool) (whole : Option (List Fact)) → before ≡ x ∷ rest → passed ≡ false →
      block_tells s (step_term x (steps_before rest end)) k ≡ told_if passed (block_tells s (steps_before rest end) k') → block_tells s (steps_before before end) k ≡ whole → whole ≡ None
  own_stop k k' x before rest end passed whole b p e h =
      sym h ∙ (λ i. block_tells s (steps_before (b i) end) k) ∙ e ∙ (λ i. told_if (p i) (block_tells s (steps_before rest end) k'))

  -- the whole block
  pub whole_block : (b : CodeBlock) (k k' : CellKnown) (ss : List CodeStep) (rs : List Var) (passed : Bool) (o : Option (List Fact)) → ss ≡ b.steps.items → rs ≡ b.results.items →
      ((end : CodeTerm) → block_tells s (steps_before ss end) k ≡ told_if passed (block_tells s end k')) → o ≡ told_if passed (block_tells s (Giving rs) k') → o ≡ block_tells s (code_term b) k
  whole_block b k k' ss rs passed o l r t e = e ∙ sym (t (Giving rs)) ∙ (λ i. block_tells s (steps_before (l i) (Giving (r i))) k)

  -- ---- bindings

  pub bound : (k k' : CellKnown) (xs : List Var) (site : Site) (r : CodeRightTerm) (end : CodeTerm) (fs : List Fact) → Some fs ≡ right_tells s r k → k' ≡ learned_in_cell s.axes k xs (core_of_right r) fs →
      block_tells s (Binding xs site r end) k ≡ block_tells s end k'
  bound k k' xs site r end fs t e =
      let w = is_known _ _ _ t in
      (λ i. known_if (w.0 i && is_own s end (learned_in_cell s.axes k xs (core_of_right r) (sym w.1 i))) (block_facts (shapes_of s.called.now) (core_of end) (learned_in_cell s.axes k xs (core_of_right r) (sym w.1 i)).facts))
      ∙ (λ i. block_tells s end (sym e i))

  pub unbound : (k : CellKnown) (xs : List Var) (site : Site) (r : CodeRightTerm) (end : CodeTerm) → None ≡ right_tells s r k → block_tells s (Binding xs site r end) k ≡ None
  unbound k xs site r end t =
      λ i. known_if (is_unknown _ _ t i && is_own s end (learned_in_cell s.axes k xs (core_of_right r) (right_facts (shapes_of s.called.now) (core_of_right r) k.facts))) (block_facts (shapes_of s.called.now) (core_of (Binding xs site r end)) k.facts)
