-- A selection from a producer is replaced by the bindings of the producer's cell.
use Rattle.std.proofs.Common.{◌≡◌, ℕ, Bool, true, false, cond, eqb, List, [], ◌∷◌, ◌++◌, map, Option, Some, None, Ok, refl, sym, ap, subst, ◌∙◌, ℤ, inl, inr}
use Rattle.std.specs.Prelude.{if◌then◌else◌, ◌||◌}
use Rattle.std.specs.List.{list_any}
use Rattle.sac_base.specs.declared.base.Base.{Base}
use Rattle.sac_base.specs.declared.base.Base.TheVariants.{Int}
use Rattle.sac_base.specs.declared.grid.Grid1.{Grid1}
use Rattle.core_ir.specs.declared.tree.PartedOp.{PartedOp}
use Rattle.sac_base.specs.declared.faults.FaultKind.TheVariants.{F6}
use Rattle.sac_base.specs.declared.site.Site.{Site}
use Rattle.sac_base.specs.Arrays.{ArrayValue, scalar, vector, same_form}
use Rattle.sac_base.specs.Grids.{has_vector}
use Rattle.sac_base.specs.Outcomes.{Ends, and_then, fault, at_site, first_result}
use Rattle.sac_base.specs.Parts.{select}
use Rattle.core_ir.specs.declared.tree.Var.{Var}
use Rattle.core_ir.specs.Terms.{BlockTerm, LetTerm, PartsTerm, PartHead, Parted, Gives, Bind, Plain, Select, Copy, chain}
use Rattle.core_ir.specs.Meaning.{Env, Answer, CallMeaning, Cells, bind, bind_all, one, first, held, cell_at, cell_form, parted_value, run, right_value, cells}
use Rattle.core_ir.specs.Known.{Passed, Known, HoldPassed, Holds}
use Rattle.core_ir.specs.Renaming.{Link, Agree, Renamed}
use Rattle.core_ir.specs.Uses.{Avoids, AvoidsEach, targets_of}
use Rattle.core_loops.specs.folds.Cells.{IsBox, HasCells, MakesArray, HeldBy, PassedIn, PiecesOf}
use Rattle.core_loops.proofs.folds.Selected.{array_of, parted_made, selected_cell}
use Rattle.core_ir.proofs.Splice.{splice}
use Rattle.core_ir.proofs.Unused.{unused}
use Rattle.core_ir.proofs.Renamed.{renamed}
use Rattle.core_facts.proofs.Shapes.{ok_same, no_ok}
use Rattle.core_facts.proofs.Sound.{then_ok}

module _ (calls : CallMeaning) (turns : ℕ) where
  -- a block with one result gives one value
  gives_one : (ls : List LetTerm) (z : Var) (e : Env) (ws : List ArrayValue) → run calls turns (chain ls (Gives (z ∷ []))) e ≡ Ok ws → ws ≡ first_result ws ∷ []
  gives_one [] z e ws p = subst (λ vs. vs ≡ first_result vs ∷ []) (ok_same (e z ∷ []) ws p) refl
  gives_one (l ∷ ls) z e ws p =
      let t = then_ok (right_value calls turns l.right l.site e) (λ vs. run calls turns (chain ls (Gives (z ∷ []))) (bind_all e l.targets vs)) ws p in
      gives_one ls z (bind_all e l.targets t.0) ws t.2

  first_ok : (x : Answer) (c : ArrayValue) → first x ≡ Ok c → (ws : List ArrayValue) × (x ≡ Ok ws) × (first_result ws ≡ c)
  first_ok x c p =
      let t = then_ok x (λ vs. Ok (first_result vs)) c p in
      (t.0, t.1, ok_same (first_result t.0) c t.2)

  -- the value that a selection has is the cell of the producer's part, and the part's bindings with other variables give it
  pub replaced_selection : (link : Link) (body : BlockTerm) (p i t j z index : Var) (s s1 s2 : Site) (ls : List LetTerm) (rest : BlockTerm) (f : Env) (v : List ℤ) (c : ArrayValue)
      → f i ≡ vector Int v → select (f p) (vector Int v) ≡ Ok c
      → first (run calls turns body (bind f index (vector Int v))) ≡ Ok c
      → Renamed link body (chain ls (Gives (z ∷ []))) → Agree link (bind f index (vector Int v)) (bind f j (vector Int v))
      → AvoidsEach (targets_of ls) rest → Avoids j rest
      → run calls turns (Bind (t ∷ []) s (Plain (Select p i)) rest) f ≡ run calls turns (Bind (j ∷ []) s1 (Plain (Copy i)) (chain ls (Bind (t ∷ []) s2 (Plain (Copy z)) rest))) f
  replaced_selection link body p i t j z index s s1 s2 ls rest f v c at value cell same agree avoids alone =
      let g = bind f j (vector Int v) in
      let w = first_ok (run calls turns body (bind f index (vector Int v))) c cell in
      let inner : run calls turns (chain ls (Gives (z ∷ []))) g ≡ Ok w.0 = sym (renamed calls turns link (bind f index (vector Int v)) g body (chain ls (Gives (z ∷ []))) agree same) ∙ w.1 in
      let only : w.0 ≡ c ∷ [] = gives_one ls z g w.0 inner ∙ (λ k. w.2 k ∷ []) in
      let selected : right_value calls turns (Plain (Select p i)) s f ≡ Ok (c ∷ []) = (λ k. one (at_site s (select (f p) (at k)))) ∙ (λ k. one (at_site s (value k))) in
      let old : run calls turns (Bind (t ∷ []) s (Plain (Select p i)) rest) f ≡ run calls turns rest (bind f t c) = λ k. and_then (selected k) (λ vs. run calls turns rest (bind_all f (t ∷ []) vs)) in
      let below : run calls turns rest (bind g t c) ≡ run calls turns rest (bind f t c) = unused calls turns j rest (bind g t c) (bind f t c) alone (λ y n. λ k. cond (eqb t.0 y.0) c (cond (n k) (vector Int v) (f y))) in
      let new : run calls turns (Bind (j ∷ []) s1 (Plain (Copy i)) (chain ls (Bind (t ∷ []) s2 (Plain (Copy z)) rest))) f ≡ run calls turns rest (bind g t c) =
      (λ k. run calls turns (chain ls (Bind (t ∷ []) s2 (Plain (Copy z)) rest)) (bind f j (at k)))
      ∙ splice calls turns ls t z s2 rest g avoids
      ∙ (λ k. and_then (inner k) (λ ws. run calls turns rest (bind_all g (t ∷ []) ws)))
      ∙ (λ k. run calls turns rest (bind_all g (t ∷ []) (only k))) in
      old ∙ sym below ∙ sym new

-- ---- the part that holds an index

abbrev value_or : ArrayValue → Option ArrayValue → ArrayValue
value_or a None = a
value_or a (Some c) = c

held_itself : (form : ArrayValue) (s : Site) (a b : ArrayValue) → held form s a ≡ Ok (Some b) → a ≡ b
held_itself form s a b p = go (same_form a form) p
  where
    go : (t : Bool) → (if t then Ok (Some a) else fault F6 s) ≡ Ok (Some b) → a ≡ b
    go true m = ap (value_or a) (ok_same (Some a) (Some b) m)
    go false m = absurd (no_ok (record { kind = F6; site = s }) (Some b) m)

-- the cell at an index is that of the part that holds it
pub cell_of_part : (form : ArrayValue) (ps : List Cells) (v : List ℤ) (c : Cells) (a : ArrayValue) → HeldBy ps v c → cell_at form ps v ≡ Ok (Some a) → c.cell v ≡ Ok a
cell_of_part form [] v c a h p = absurd h
cell_of_part form (q ∷ ps) v c a h p = elim h [
  | inl y ↦
      let here : and_then (q.cell v) (held form q.site) ≡ Ok (Some a) = sym (λ i. if y.0 i then and_then (q.cell v) (held form q.site) else cell_at form ps v) ∙ p in
      let t = then_ok (q.cell v) (held form q.site) (Some a) here in
      sym (λ i. (y.1 i).cell v) ∙ t.1 ∙ (λ i. Ok (held_itself form q.site t.0 a t.2 i))
  | inr n ↦
      cell_of_part form ps v c a n.1 (sym (λ i. if n.0 i then and_then (q.cell v) (held form q.site) else cell_at form ps v) ∙ p)
]

-- ---- a part that is cut into several

cut_here : (form : ArrayValue) (p : Cells) (cs ps : List Cells) (v : List ℤ) → PiecesOf p cs v → cell_at form (cs ++ ps) v ≡ (if list_any (λ (c : Cells). has_vector c.grid v) cs then and_then (p.cell v) (held form p.site) else cell_at form ps v)
cut_here form p [] ps v h = refl
cut_here form p (c ∷ cs) ps v h = go (has_vector c.grid v) (cut_here form p cs ps v h.2)
  where
    go : (b : Bool) → cell_at form (cs ++ ps) v ≡ (if list_any (λ (c : Cells). has_vector c.grid v) cs then and_then (p.cell v) (held form p.site) else cell_at form ps v)
        → (if b then and_then (c.cell v) (held form c.site) else cell_at form (cs ++ ps) v) ≡ (if b || list_any (λ (c : Cells). has_vector c.grid v) cs then and_then (p.cell v) (held form p.site) else cell_at form ps v)
    go true r = λ i. and_then (h.1 i) (held form (h.0 i))
    go false r = r

-- a part may be cut into pieces that have its indices
pub cut_part : (form : ArrayValue) (p : Cells) (cs before after : List Cells) (v : List ℤ) → PiecesOf p cs v → list_any (λ (c : Cells). has_vector c.grid v) cs ≡ has_vector p.grid v → cell_at form (before ++ (p ∷ after)) v ≡ cell_at form (before ++ (cs ++ after)) v
cut_part form p cs [] after v h e = sym (cut_here form p cs after v h ∙ (λ i. if e i then and_then (p.cell v) (held form p.site) else cell_at form after v))
cut_part form p cs (b ∷ before) after v h e = λ i. if has_vector b.grid v then and_then (b.cell v) (held form b.site) else cut_part form p cs before after v h e i

-- ---- a selection inside a consumer

module _ (calls : CallMeaning) (turns : ℕ) where
  equation_of : (scope : List Var) (ps : List Passed) (l : LetTerm) (e : Env) → PassedIn ps l → HoldPassed calls turns scope ps e → right_value calls turns l.right l.site e ≡ Ok (map e l.targets)
  equation_of scope [] l e i h = absurd i
  equation_of scope (q ∷ ps) l e i h = elim i [
    | inl y ↦ subst (λ (m : LetTerm). right_value calls turns m.right m.site e ≡ Ok (map e m.targets)) y h.3
    | inr n ↦ equation_of scope ps l e n h.4
  ]

  one_ok : (x : Ends ArrayValue) (a b : ArrayValue) → x ≡ Ok a → one x ≡ Ok (b ∷ []) → a ≡ b
  one_ok x a b p q = ap first_result (ok_same (a ∷ []) (b ∷ []) (sym (ap one p) ∙ q))

  pub folded_at : (k : Known) (f : Env) (frame : List Grid1) (base : Base) (op : PartedOp) (parts : PartsTerm) (at : List ℤ → ℤ) (h : PartHead) (body : BlockTerm) (link : Link) (p i t j z : Var) (s0 s s1 s2 : Site) (ls : List LetTerm) (rest : BlockTerm) (v : List ℤ)
      → Holds calls turns k f → PassedIn k.passed (record { targets = p ∷ []; site = s0; right = Parted frame base [] op parts })
      → IsBox frame → MakesArray op → HasCells frame base (cells calls turns parts f) at
      → f i ≡ vector Int v → has_vector frame v ≡ true
      → HeldBy (cells calls turns parts f) v (record { grid = h.grid; site = h.site; cell = λ u. first (run calls turns body (bind f h.index (vector Int u))) })
      → Renamed link body (chain ls (Gives (z ∷ []))) → Agree link (bind f h.index (vector Int v)) (bind f j (vector Int v))
      → AvoidsEach (targets_of ls) rest → Avoids j rest
      → run calls turns (Bind (t ∷ []) s (Plain (Select p i)) rest) f ≡ run calls turns (Bind (j ∷ []) s1 (Plain (Copy i)) (chain ls (Bind (t ∷ []) s2 (Plain (Copy z)) rest))) f
  folded_at k f frame base op parts at h body link p i t j z s0 s s1 s2 ls rest v holds passed box makes has index inside held same agree avoids alone =
      let own = cells calls turns parts f in
      let l : LetTerm = record { targets = p ∷ []; site = s0; right = Parted frame base [] op parts } in
      let made = parted_made frame base op own s0 f at makes has in
      let is : array_of frame base at ≡ f p = one_ok (parted_value frame base [] op own s0 f) (array_of frame base at) (f p) made (equation_of k.scope k.passed l f passed holds.0) in
      let value : select (f p) (vector Int v) ≡ Ok (scalar base (at v)) = (λ i. select (sym is i) (vector Int v)) ∙ selected_cell frame base at v box inside in
      let cell = cell_of_part (cell_form base []) own v (record { grid = h.grid; site = h.site; cell = λ u. first (run calls turns body (bind f h.index (vector Int u))) }) (scalar base (at v)) held (has v inside) in
      replaced_selection calls turns link body p i t j z h.index s s1 s2 ls rest f v (scalar base (at v)) index value cell same agree avoids alone
