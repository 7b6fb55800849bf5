-- The new parts of a consumer have the cells of the old ones.
use Rattle.std.proofs.Common.{◌≡◌, ℕ, Bool, true, false, ◌||◌, List, [], ◌∷◌, ◌++◌, map, length, Option, Some, None, Ok, Err, refl, sym, ap, subst, ◌∙◌, ℤ, All, FitsSigned, w32}
use Rattle.std.specs.Prelude.{if◌then◌else◌}
use Rattle.std.proofs.lemmas.List.Elements.{All-head, All-tail}
use Rattle.sac_base.specs.declared.base.Base.TheVariants.{Int}
use Rattle.sac_base.specs.declared.grid.Grid1.{Grid1}
use Rattle.sac_base.specs.Arrays.{ArrayValue, vector}
use Rattle.sac_base.specs.Grids.{has_vector}
use Rattle.sac_base.specs.Outcomes.{Ends, and_then}
use Rattle.core_ir.specs.declared.tree.Var.{Var}
use Rattle.core_ir.specs.Binders.{is_in}
use Rattle.core_ir.specs.Scopes.{Scoped, ScopedParts, AgreeOn}
use Rattle.core_ir.specs.Renaming.{Agree, under, Renamed}
use Rattle.core_ir.specs.Terms.{BlockTerm, PartsTerm, PartHead, NoParts, Part}
use Rattle.core_ir.specs.Meaning.{Env, CallMeaning, Answer, bind, first, held, cell_at, run, cells}
use Rattle.core_ir.specs.WellFormed.{part_grids}
use Rattle.core_ir.proofs.Facts.{agree_after}
use Rattle.core_ir.proofs.Renamed.{agree_bind, renamed}
use Rattle.core_ir.proofs.Variables.{in_front, or_false}
use Rattle.core_facts.specs.Facts.{Facts, AreSound, CallsFit, in_part}
use Rattle.core_facts.specs.Full.{FullInside, FullInsideParts}
use Rattle.core_facts.proofs.Settle.{has_length}
use Rattle.core_loops.specs.folds.Cells.{IsBox, HasCells}
use Rattle.core_loops.specs.Indices.{own_index}
use Rattle.core_loops.specs.Pairs.{Producer}
use Rattle.core_loops.specs.Steps.{itself, HeldIn, Folded, append_parts, any_has, PiecesFold, NewParts}
use Rattle.core_loops.proofs.index_facts.Indices.{says_own}
use Rattle.core_loops.proofs.fold_steps.Folded.{agree_itself, behind, Behind, folded}
use Rattle.core_loops.proofs.fold_steps.Producer.{entered}

-- the indices that have to lie in the frame
abbrev pub Within : List Grid1 → List Grid1 → Type 0
Within frame g = (index : List ℤ) → has_vector g index ≡ true → has_vector frame index ≡ true

module _ (calls : CallMeaning) (turns : ℕ) where
  none_here : (form : ArrayValue) (pieces others : PartsTerm) (f : Env) (v : List ℤ) → any_has pieces v ≡ false → cell_at form (cells calls turns (append_parts pieces others) f) v ≡ cell_at form (cells calls turns others f) v
  none_here form NoParts others f v h = refl
  none_here form (Part g d rest) others f v h =
      let w = or_false (has_vector g.grid v) (any_has rest v) h in
      (λ i. if w.0 i then and_then (first (run calls turns d (bind f g.index (vector Int v)))) (held form g.site) else cell_at form (cells calls turns (append_parts rest others) f) v)
      ∙ none_here form rest others f v w.1

  module _ (called : ℕ → List (Option (List ℕ))) (fit : CallsFit called calls) (p : Producer) (scope : List Var) (e : Env) (at : List ℤ → ℤ) (fresh : is_in p.var scope ≡ false) (scoped : ScopedParts scope p.parts) (box : IsBox p.frame)
      (words : (u : List ℤ) → has_vector p.frame u ≡ true → All (FitsSigned w32) u) (fits : (u : List ℤ) (h : PartHead) (b : BlockTerm) → HeldIn p.parts u h b → has_vector p.frame u ≡ true) (has : HasCells p.frame p.base (cells calls turns p.parts e) at)
      (σ : List Var) (sub : (y : Var) → is_in y (p.var ∷ scope) ≡ true → is_in y σ ≡ true) (k : Facts) (f : Env) (near : AgreeOn (p.var ∷ scope) f (behind calls turns called fit p scope e at fresh scoped box words fits has)) (sound : AreSound k f) where
    -- the cell of one piece
    piece_same : (h g : PartHead) (b c d : BlockTerm) (v : List ℤ) → Folded called p (length h.grid) g.grid b (in_part k h) (own_index (length h.grid) h.index) c → Renamed (under itself h.index g.index) c d → is_in h.index σ ≡ false → Scoped (h.index ∷ σ) b → FullInside calls turns b → has_vector g.grid v ≡ true → has_vector h.grid v ≡ true → All (FitsSigned w32) v
        → run calls turns b (bind f h.index (vector Int v)) ≡ run calls turns d (bind f g.index (vector Int v))
    piece_same h g b c d v fold same new sc w here inside fine =
        let long = has_length h.grid v inside in
        folded calls turns called fit p scope e at fresh scoped box words fits has (length h.grid) g.grid v here long b (in_part k h) (own_index (length h.grid) h.index) (h.index ∷ σ) c (bind f h.index (vector Int v)) fold sc
        (λ y i. in_front y (h.index ∷ []) σ (sub y i)) w (λ y i. agree_after (h.index ∷ []) σ (vector Int v ∷ []) f (new, tt) y (sub y i) ∙ near y i) (entered k f h v sound inside) (says_own (length h.grid) h.index f v long fine)
        ∙ renamed calls turns (under itself h.index g.index) (bind f h.index (vector Int v)) (bind f g.index (vector Int v)) c d (agree_bind itself f f h.index g.index (vector Int v) (agree_itself f)) same

    pieces_same : (form : ArrayValue) (h : PartHead) (b : BlockTerm) (pieces others : PartsTerm) (v : List ℤ) → PiecesFold called k p h b pieces → is_in h.index σ ≡ false → Scoped (h.index ∷ σ) b → FullInside calls turns b → has_vector h.grid v ≡ true → All (FitsSigned w32) v
        → cell_at form (cells calls turns (append_parts pieces others) f) v ≡ (if any_has pieces v then and_then (first (run calls turns b (bind f h.index (vector Int v)))) (held form h.site) else cell_at form (cells calls turns others f) v)
    pieces_same form h b NoParts others v pf new sc w inside fine = refl
    pieces_same form h b (Part g d rest) others v pf new sc w inside fine =
        go (has_vector g.grid v) (λ here. piece_same h g b pf.1.0 d v pf.1.1.0 pf.1.1.1 new sc w here inside fine) (pieces_same form h b rest others v pf.2 new sc w inside fine) refl
      where
        go : (t : Bool) → (has_vector g.grid v ≡ true → run calls turns b (bind f h.index (vector Int v)) ≡ run calls turns d (bind f g.index (vector Int v)))
            → cell_at form (cells calls turns (append_parts rest others) f) v ≡ (if any_has rest v then and_then (first (run calls turns b (bind f h.index (vector Int v)))) (held form h.site) else cell_at form (cells calls turns others f) v)
            → has_vector g.grid v ≡ t
            → (if t then and_then (first (run calls turns d (bind f g.index (vector Int v)))) (held form g.site) else cell_at form (cells calls turns (append_parts rest others) f) v) ≡ (if t || any_has rest v then and_then (first (run calls turns b (bind f h.index (vector Int v)))) (held form h.site) else cell_at form (cells calls turns others f) v)
        go true r q t = λ i. and_then (first (sym (r t) i)) (held form (pf.0 i))
        go false r q t = q

    pub parts_same : (form : ArrayValue) (frame : List Grid1) (old new : PartsTerm) (v : List ℤ) → NewParts called k p old new → ScopedParts σ old → FullInsideParts calls turns old → All (Within frame) (part_grids old) → ((u : List ℤ) → has_vector frame u ≡ true → All (FitsSigned w32) u)
        → cell_at form (cells calls turns old f) v ≡ cell_at form (cells calls turns new f) v
    parts_same form frame NoParts new v h sc w ins fine = λ i. cell_at form (cells calls turns (sym h i) f) v
    parts_same form frame (Part j b rest) new v h sc w ins fine =
        let pieces = h.0 in
        let others = h.1.0 in
        go (has_vector j.grid v) refl
        (λ inside. pieces_same form j b h.0 h.1.0 v h.1.1.1 sc.0 sc.1 w.0 inside (fine v (All-head (Within frame) j.grid (part_grids rest) ins v inside)))
        (parts_same form frame rest h.1.0 v h.1.1.3 sc.2 w.1 (All-tail (Within frame) j.grid (part_grids rest) ins) fine)
        ∙ (λ i. cell_at form (cells calls turns (sym h.1.1.0 i) f) v)
      where
        go : (t : Bool) → has_vector j.grid v ≡ t
            → (has_vector j.grid v ≡ true → cell_at form (cells calls turns (append_parts h.0 h.1.0) f) v ≡ (if any_has h.0 v then and_then (first (run calls turns b (bind f j.index (vector Int v)))) (held form j.site) else cell_at form (cells calls turns h.1.0 f) v))
            → cell_at form (cells calls turns rest f) v ≡ cell_at form (cells calls turns h.1.0 f) v
            → (if t then and_then (first (run calls turns b (bind f j.index (vector Int v)))) (held form j.site) else cell_at form (cells calls turns rest f) v) ≡ cell_at form (cells calls turns (append_parts h.0 h.1.0) f) v
        go true t m q = sym (m t ∙ (λ i. if (h.1.1.2 v ∙ t) i then and_then (first (run calls turns b (bind f j.index (vector Int v)))) (held form j.site) else cell_at form (cells calls turns h.1.0 f) v))
        go false t m q = q ∙ sym (none_here form h.0 h.1.0 f v (h.1.1.2 v ∙ t))
