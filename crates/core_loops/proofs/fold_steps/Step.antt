-- A fold step at its place.
use Rattle.std.proofs.Common.{◌≡◌, ℕ, true, ◌||◌, List, [], ◌∷◌, ◌++◌, Option, Ok, refl, sym, ap, subst, ◌∙◌, ℤ, All, inl, inr}
use Rattle.std.specs.Prelude.{if◌then◌else◌, zip}
use Rattle.std.proofs.lemmas.List.Elements.{All-head, All-tail}
use Rattle.sac_base.specs.declared.base.Base.{Base}
use Rattle.sac_base.specs.declared.faults.FaultKind.TheVariants.{F6}
use Rattle.sac_base.specs.declared.grid.Grid1.{Grid1}
use Rattle.sac_base.specs.Grids.{has_vector, members}
use Rattle.sac_base.specs.Outcomes.{and_then, fault}
use Rattle.sac_base.specs.WithLoops.{each}
use Rattle.core_ir.specs.declared.tree.Var.{Var}
use Rattle.core_ir.specs.declared.tree.PartedOp.{PartedOp}
use Rattle.core_ir.specs.declared.tree.PartedOp.TheVariants as parted
use Rattle.core_ir.specs.Binders.{is_in}
use Rattle.core_ir.specs.Scopes.{AgreeOn}
use Rattle.core_ir.specs.Terms.{BlockTerm, RightTerm, PartsTerm, PartHead, LetTerm, CoreTerm, Bind, NoParts, Part, Parted, chain}
use Rattle.core_ir.specs.Uses.{Avoids}
use Rattle.core_ir.specs.Meaning.{Env, CallMeaning, bind, bind_all, one, made_of, neutral_fits, cell_form, run, right_value, cells}
use Rattle.core_ir.specs.WellFormed.{Bases, IsFrame, Fit, Covered, IsResultFrame, PartedFits, part_grids}
use Rattle.core_ir.proofs.Edited.{then_same}
use Rattle.core_ir.proofs.Facts.{agree_after}
use Rattle.core_ir.proofs.Unused.{drop_unused}
use Rattle.core_ir.proofs.Variables.{in_front}
use Rattle.core_facts.specs.Facts.{Facts, note_all, right_facts, CallsFit}
use Rattle.core_loops.specs.folds.Cells.{IsBox, MakesArray}
use Rattle.core_loops.proofs.folds.Selected.{array_of, parted_made}
use Rattle.core_facts.specs.bases.Typed.{CallsTyped}
use Rattle.core_loops.specs.Pairs.{Makes, AvoidsLets}
use Rattle.core_loops.specs.Steps.{HeldIn, facts_after, NewParts, FoldsHere}
use Rattle.core_loops.proofs.fold_steps.Producer.{producer_cells}
use Rattle.core_loops.proofs.fold_steps.Places.{At, right_at, after_bind}
use Rattle.core_loops.proofs.fold_steps.Parts.{Within, parts_same}

-- what well-formedness says of a producer
abbrev ArrayFits : List Grid1 → List ℕ → List (List Grid1) → Type 0
ArrayFits frame cell grids = IsFrame frame × Fit frame grids × Covered frame grids × IsResultFrame frame cell

array_fits : (op : PartedOp) (frame : List Grid1) (cell : List ℕ) (grids : List (List Grid1)) → Makes op → PartedFits op frame cell grids → ArrayFits frame cell grids
array_fits parted.Genarray frame cell grids m h = h
array_fits (parted.Modarray x) frame cell grids m h = h
array_fits (parted.Fold o x) frame cell grids m h = absurd m

makes_array : (op : PartedOp) → Makes op → MakesArray op
makes_array parted.Genarray m = tt
makes_array (parted.Modarray x) m = tt
makes_array (parted.Fold o x) m = absurd m

-- and of any parted loop
frame_fits : (op : PartedOp) (frame : List Grid1) (cell : List ℕ) (grids : List (List Grid1)) → PartedFits op frame cell grids → IsFrame frame × Fit frame grids
frame_fits parted.Genarray frame cell grids h = (h.0, h.1)
frame_fits (parted.Modarray x) frame cell grids h = (h.0, h.1)
frame_fits (parted.Fold o x) frame cell grids h = h

held_inside : (frame : List Grid1) (parts : PartsTerm) (u : List ℤ) (h : PartHead) (b : BlockTerm) → All (Within frame) (part_grids parts) → HeldIn parts u h b → has_vector frame u ≡ true
held_inside frame NoParts u h b ins i = absurd i
held_inside frame (Part g c rest) u h b ins i = elim i [
  | inl y ↦ All-head (Within frame) g.grid (part_grids rest) ins u y.0
  | inr n ↦ held_inside frame rest u h b (All-tail (Within frame) g.grid (part_grids rest) ins) n.1
]

pub avoids_chain : (x : Var) (ls : List LetTerm) (b : BlockTerm) → AvoidsLets x ls → Avoids x b → Avoids x (chain ls b)
avoids_chain x [] b h k = k
avoids_chain x (l ∷ ls) b h k = (h.0, avoids_chain x ls b h.1 k)

module _ (core : CoreTerm) (calls : CallMeaning) (turns : ℕ) (typed : CallsTyped core calls) (called : ℕ → List (Option (List ℕ))) (fit : CallsFit called calls) where
  -- what stands behind bindings may be changed under the facts there, where environments agree on what stood before
  through : (own : List Var) (e1 : Env) (ts : List Base) (b c : BlockTerm) (ls : List LetTerm) (k : Facts) (scope : List Var) (g : Bases) (e : Env) → At core calls turns scope g ts k (chain ls b) e → ((y : Var) → is_in y own ≡ true → is_in y scope ≡ true) → AgreeOn own e e1
      → ((scope' : List Var) (g' : Bases) (e' : Env) → At core calls turns scope' g' ts (facts_after called ls k) b e' → ((y : Var) → is_in y own ≡ true → is_in y scope' ≡ true) → AgreeOn own e' e1 → run calls turns b e' ≡ run calls turns c e')
      → run calls turns (chain ls b) e ≡ run calls turns (chain ls c) e
  through own e1 ts b c [] k scope g e a sub near last = last scope g e a sub near
  through own e1 ts b c (l ∷ ls) k scope g e a sub near last =
      then_same (right_value calls turns l.right l.site e) (λ vs. run calls turns (chain ls b) (bind_all e l.targets vs)) (λ vs. run calls turns (chain ls c) (bind_all e l.targets vs))
      (λ vs q. through own e1 ts b c ls (note_all k l.targets (right_facts called l.right k)) (l.targets ++ scope) (zip l.targets a.bases.0 ++ g) (bind_all e l.targets vs)
      (after_bind core calls turns typed called fit l.targets l.site l.right (chain ls b) scope g ts k e vs a q)
      (λ y i. in_front y l.targets scope (sub y i)) (λ y i. agree_after l.targets scope vs e a.scoped.1 y (sub y i) ∙ near y i) last)

  pub fold_here : (above : ℕ) (k : Facts) (b c : BlockTerm) → FoldsHere called above k b c → (scope : List Var) (g : Bases) (ts : List Base) (e : Env) → At core calls turns scope g ts k b e → run calls turns b e ≡ run calls turns c e
  fold_here above k b c h scope g ts e given =
      let p = h.producer in
      let r : RightTerm = Parted p.frame p.base [] p.op p.parts in
      let X : BlockTerm = chain h.between (Bind (h.consumer ∷ []) h.site (Parted h.frame h.base [] h.op h.old) h.rest) in
      let Y : BlockTerm = chain h.between (Bind (h.consumer ∷ []) h.site (Parted h.frame h.base [] h.op h.new) h.rest) in
      let a : At core calls turns scope g ts k (Bind (p.var ∷ []) p.site r X) e = subst (λ x. At core calls turns scope g ts k x e) h.before given in
      let ra = right_at core calls turns typed called fit (p.var ∷ []) p.site r X scope g ts k e a in
      let makes = makes_array p.op h.foldable.makes in
      let fits = array_fits p.op p.frame [] (part_grids p.parts) h.foldable.makes ra.bases.2 in
      let box : IsBox p.frame = record { low = fits.3.low; dense = fits.0.dense } in
      let cs = producer_cells core calls turns typed called fit p.frame p.parts k g p.base e h.foldable.total ra.bases.1 ra.once ra.full a.typed a.sound fits.0.words fits.2 in
      let array = array_of p.frame p.base cs.0 in
      let made = parted_made p.frame p.base p.op (cells calls turns p.parts e) p.site e cs.0 makes cs.1 in
      let value : right_value calls turns r p.site e ≡ Ok (array ∷ []) = ap one made in
      let e1 = bind e p.var array in
      let inside : (u : List ℤ) (j : PartHead) (d : BlockTerm) → HeldIn p.parts u j d → has_vector p.frame u ≡ true = λ u j d i. held_inside p.frame p.parts u j d fits.1.inside i in
      let fresh = a.scoped.1.0 in
      let scoped = ra.scoped.1 in
      let last : (scope' : List Var) (g' : _) (e' : Env) → At core calls turns scope' g' ts (facts_after called h.between (note_all k (p.var ∷ []) (right_facts called r k))) (Bind (h.consumer ∷ []) h.site (Parted h.frame h.base [] h.op h.old) h.rest) e' → ((y : Var) → is_in y (p.var ∷ scope) ≡ true → is_in y scope' ≡ true) → AgreeOn (p.var ∷ scope) e' e1
      → run calls turns (Bind (h.consumer ∷ []) h.site (Parted h.frame h.base [] h.op h.old) h.rest) e' ≡ run calls turns (Bind (h.consumer ∷ []) h.site (Parted h.frame h.base [] h.op h.new) h.rest) e' =
      λ scope' g' e' q sub near.
      let rq = right_at core calls turns typed called fit (h.consumer ∷ []) h.site (Parted h.frame h.base [] h.op h.old) h.rest scope' g' ts (facts_after called h.between (note_all k (p.var ∷ []) (right_facts called r k))) e' q in
      let ff = frame_fits h.op h.frame [] (part_grids h.old) rq.bases.2 in
      let parts = subst (λ l. NewParts called l p h.old h.new) h.known h.parts in
      λ i. and_then (one (if neutral_fits (cell_form h.base []) h.op e' then and_then (each (λ v. parts_same calls turns called fit p scope e cs.0 fresh scoped box fits.0.words inside cs.1 scope' sub (facts_after called h.between (note_all k (p.var ∷ []) (right_facts called r k))) e' near q.sound (cell_form h.base []) h.frame h.old h.new v parts rq.scoped.1 rq.full ff.1.inside ff.0.words i) (members h.frame)) (λ found. Ok (made_of h.frame h.base [] h.op e' found)) else fault F6 h.site)) (λ vs. run calls turns h.rest (bind_all e' (h.consumer ∷ []) vs)) in
      let first : run calls turns (Bind (p.var ∷ []) p.site r X) e ≡ run calls turns X e1 = λ i. and_then (value i) (λ vs. run calls turns X (bind_all e (p.var ∷ []) vs)) in
      let middle : run calls turns X e1 ≡ run calls turns Y e1 =
      through (p.var ∷ scope) e1 ts (Bind (h.consumer ∷ []) h.site (Parted h.frame h.base [] h.op h.old) h.rest) (Bind (h.consumer ∷ []) h.site (Parted h.frame h.base [] h.op h.new) h.rest) h.between (note_all k (p.var ∷ []) (right_facts called r k)) (p.var ∷ scope) (zip (p.var ∷ []) a.bases.0 ++ g) e1
      (after_bind core calls turns typed called fit (p.var ∷ []) p.site r X scope g ts k e (array ∷ []) a value) (λ y i. i) (λ y i. refl) last in
      let second : run calls turns (Bind (p.var ∷ []) p.site r Y) e ≡ run calls turns Y e1 = λ i. and_then (value i) (λ vs. run calls turns Y (bind_all e (p.var ∷ []) vs)) in
      let gone : Avoids p.var Y = avoids_chain p.var h.between (Bind (h.consumer ∷ []) h.site (Parted h.frame h.base [] h.op h.new) h.rest) h.foldable.before ((h.foldable.operation, h.gone), h.foldable.after) in
      (λ i. run calls turns (h.before i) e) ∙ first ∙ middle ∙ sym second ∙ drop_unused calls turns p.var p.site r Y e array gone value ∙ (λ i. run calls turns (sym h.after i) e)
