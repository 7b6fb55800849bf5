-- Parted loops give arrays that have as many cells as their shapes say.
use Rattle.std.proofs.Common.{◌≡◌, ℕ, ◌*◌, Bool, true, false, cond, List, [], ◌∷◌, ◌++◌, map, length, Option, Some, None, Ok, Err, refl, sym, ap, subst, ◌∙◌, ℤ, All}
use Rattle.std.specs.Prelude.{if◌then◌else◌, flat_map, filter, Contains}
use Rattle.std.proofs.lemmas.List.Elements.{All-nil, All-cons, All-contains}
use Rattle.std.proofs.lemmas.Slice.Eq.{bytes_eq-Decides}
use Rattle.sac_base.specs.declared.base.Base.{Base}
use Rattle.sac_base.specs.declared.faults.FaultKind.TheVariants.{F6}
use Rattle.sac_base.specs.declared.grid.Grid1.{Grid1}
use Rattle.sac_base.specs.declared.site.Site.{Site}
use Rattle.sac_base.specs.Arrays.{ArrayValue, IsFull, size, same_form, same_shape, same_base}
use Rattle.sac_base.specs.Grids.{has_vector, members, box_indices}
use Rattle.sac_base.specs.Outcomes.{Ends, and_then, fault}
use Rattle.sac_base.specs.WithLoops.{each}
use Rattle.sac_base.proofs.RowMajor.{size-append}
use Rattle.array_with_loops.proofs.CellSteps.{length_indices}
use Rattle.core_ir.specs.declared.tree.PartedOp.{PartedOp}
use Rattle.core_ir.specs.declared.tree.PartedOp.TheVariants as parted
use Rattle.core_ir.specs.Meaning.{Env, Cells, cell_at, cell_form, held, elements_of, extents, made_of, neutral_fits, parted_value}
use Rattle.core_facts.proofs.Shapes.{ok_same, no_ok}
use Rattle.core_facts.proofs.Sound.{then_ok}
use Rattle.core_loops.specs.folds.Cells.{IsBox}
use Rattle.core_loops.proofs.folds.Places.{members_are}
use Rattle.core_loops.proofs.values.Loops.{CellsFull, EachIn, each_all, plain_length, Fits, FullCell, just_cell, folded_full, and_right}

abbrev pub PartsFull : List Cells → Type 0
PartsFull [] = Unit {0}
PartsFull (p ∷ ps) = CellsFull p.cell × PartsFull ps

held_fits : (base : Base) (cell : List ℕ) (s : Site) (x : Ends ArrayValue) (o : Option ArrayValue) → ((c : ArrayValue) → x ≡ Ok c → IsFull c) → and_then x (held (cell_form base cell) s) ≡ Ok o → Fits cell o
held_fits base cell s (Err k) o h p = absurd (no_ok k o p)
held_fits base cell s (Ok a) o h p = go (same_form a (cell_form base cell)) refl p
  where
    go : (b : Bool) → same_form a (cell_form base cell) ≡ b → (if b then Ok (Some a) else fault F6 s) ≡ Ok o → Fits cell o
    go true e m = subst (Fits cell) (ok_same (Some a) o m) (h a refl, (bytes_eq-Decides a.shape cell).0 (and_right (same_base a.base base) (same_shape a.shape cell) e))
    go false e m = absurd (no_ok (record { kind = F6; site = s }) o m)

cell_fits : (base : Base) (cell : List ℕ) (ps : List Cells) (v : List ℤ) (o : Option ArrayValue) → PartsFull ps → cell_at (cell_form base cell) ps v ≡ Ok o → Fits cell o
cell_fits base cell [] v o h p = subst (Fits cell) (ok_same None o p) tt
cell_fits base cell (q ∷ ps) v o h p = go (has_vector q.grid v) (λ m. cell_fits base cell ps v o h.1 m) p
  where
    go : (b : Bool) → (cell_at (cell_form base cell) ps v ≡ Ok o → Fits cell o) → (if b then and_then (q.cell v) (held (cell_form base cell) q.site) else cell_at (cell_form base cell) ps v) ≡ Ok o → Fits cell o
    go true f m = held_fits base cell q.site (q.cell v) o (λ c e. h.0 v c e) m
    go false f m = f m

never_none : (A : Type 0) (a : ArrayValue) → ◌≡◌ {A = Option ArrayValue} (Some a) None → A
never_none A a p = absurd (cc)

held_some : (A : Type 0) (form : ArrayValue) (s : Site) (x : Ends ArrayValue) → and_then x (held form s) ≡ Ok None → A
held_some A form s (Err k) p = absurd (no_ok k None p)
held_some A form s (Ok a) p = go (same_form a form) p
  where
    go : (b : Bool) → (if b then Ok (Some a) else fault F6 s) ≡ Ok None → A
    go true m = never_none A a (ok_same (Some a) None m)
    go false m = absurd (no_ok (record { kind = F6; site = s }) None m)

abbrev pub grids : List Cells → List (List Grid1)
grids [] = []
grids (p ∷ ps) = p.grid ∷ grids ps

-- where there is no cell no part has the index
none_has : (form : ArrayValue) (ps : List Cells) (v : List ℤ) → cell_at form ps v ≡ Ok None → All (λ g. has_vector g v ≡ false) (grids ps)
none_has form [] v p = All-nil (λ g. has_vector g v ≡ false)
none_has form (q ∷ ps) v p = go (has_vector q.grid v) refl (λ m. none_has form ps v m) p
  where
    go : (b : Bool) → has_vector q.grid v ≡ b → (cell_at form ps v ≡ Ok None → All (λ g. has_vector g v ≡ false) (grids ps)) → (if b then and_then (q.cell v) (held form q.site) else cell_at form ps v) ≡ Ok None → All (λ g. has_vector g v ≡ false) (q.grid ∷ grids ps)
    go true e f m = held_some _ form q.site (q.cell v) m
    go false e f m = All-cons (λ g. has_vector g v ≡ false) q.grid (grids ps) e (f m)

abbrev pub Covers : List Grid1 → List Cells → Type 0
Covers frame ps = (v : List ℤ) → has_vector frame v ≡ true → (g : List Grid1) × (Contains (grids ps) g × (has_vector g v ≡ true))

both : {b : Bool} {A : Type 0} → b ≡ true → b ≡ false → A
both p q = absurd (let z = sym p ∙ q in cc)

some_length : (frame : List Grid1) (base : Base) (cell : List ℕ) (ps : List Cells) (v : List ℤ) (o : Option ArrayValue) → Covers frame ps → PartsFull ps → has_vector frame v ≡ true → cell_at (cell_form base cell) ps v ≡ Ok o → length (elements_of o) ≡ size cell
some_length frame base cell ps v (Some c) covers h q p = let f = cell_fits base cell ps v (Some c) h p in f.0 ∙ ap size f.1
some_length frame base cell ps v None covers h q p =
    let w = covers v q in
    both {b = has_vector w.0 v} w.1.1 (All-contains (λ g. has_vector g v ≡ false) (grids ps) w.0 (none_has (cell_form base cell) ps v p) w.1.0)

each_member : (p : List ℤ → Bool) (vs : List (List ℤ)) → EachIn (λ v. p v ≡ true) (filter p vs)
each_member p [] = tt
each_member p (v ∷ vs) = go (p v) refl (each_member p vs)
  where
    go : (b : Bool) → p v ≡ b → EachIn (λ v. p v ≡ true) (filter p vs) → EachIn (λ v. p v ≡ true) (cond b (v ∷ filter p vs) (filter p vs))
    go true e r = (e, r)
    go false e r = r

-- what makes the result full: a covered frame from 0 on, or a full neutral value
abbrev pub ResultFull : List Grid1 → PartedOp → List Cells → Env → Type 0
ResultFull frame parted.Genarray ps e = IsBox frame × Covers frame ps
ResultFull frame (parted.Modarray x) ps e = IsBox frame × Covers frame ps
ResultFull frame (parted.Fold o x) ps e = IsFull (e x)

array_length : (frame : List Grid1) (base : Base) (cell : List ℕ) (ps : List Cells) (found : List (Option ArrayValue)) → IsBox frame → Covers frame ps → PartsFull ps → each (cell_at (cell_form base cell) ps) (members frame) ≡ Ok found → length (flat_map elements_of found) ≡ size (extents frame ++ cell)
array_length frame base cell ps found box_frame covers h p =
    let a = each_all (cell_at (cell_form base cell) ps) (λ v. has_vector frame v ≡ true) (λ v o. length (elements_of o) ≡ size cell) (members frame) found (λ v o q m. some_length frame base cell ps v o covers h q m)
    (each_member (has_vector frame) (box_indices (map (λ (axis : Grid1). axis.lo) frame) (map (λ (axis : Grid1). axis.hi) frame))) p in
    plain_length elements_of (size cell) (members frame) found a ∙ ap (λ n. n * size cell) (ap length (members_are frame box_frame) ∙ length_indices (extents frame)) ∙ sym (size-append (extents frame) cell)

made_full : (frame : List Grid1) (base : Base) (cell : List ℕ) (op : PartedOp) (ps : List Cells) (e : Env) (found : List (Option ArrayValue)) → PartsFull ps → ResultFull frame op ps e → each (cell_at (cell_form base cell) ps) (members frame) ≡ Ok found → IsFull (made_of frame base cell op e found)
made_full frame base cell parted.Genarray ps e found h r p = array_length frame base cell ps found r.0 r.1 h p
made_full frame base cell (parted.Modarray x) ps e found h r p = array_length frame base cell ps found r.0 r.1 h p
made_full frame base cell (parted.Fold o x) ps e found h r p =
    folded_full o (e x) (members frame) found r
    (each_all (cell_at (cell_form base cell) ps) (λ v. has_vector frame v ≡ true) (λ v o. FullCell o) (members frame) found (λ v o q m. just_cell cell o (cell_fits base cell ps v o h m))
    (each_member (has_vector frame) (box_indices (map (λ (axis : Grid1). axis.lo) frame) (map (λ (axis : Grid1). axis.hi) frame))) p)

pub parted_loop_full : (frame : List Grid1) (base : Base) (cell : List ℕ) (op : PartedOp) (ps : List Cells) (s : Site) (e : Env) (v : ArrayValue) → PartsFull ps → ResultFull frame op ps e → parted_value frame base cell op ps s e ≡ Ok v → IsFull v
parted_loop_full frame base cell op ps s e v h r p = go (neutral_fits (cell_form base cell) op e) p
  where
    go : (b : Bool) → (if b then and_then (each (cell_at (cell_form base cell) ps) (members frame)) (λ found. Ok (made_of frame base cell op e found)) else fault F6 s) ≡ Ok v → IsFull v
    go true m =
        let t = then_ok (each (cell_at (cell_form base cell) ps) (members frame)) (λ found. Ok (made_of frame base cell op e found)) v m in
        subst IsFull (ok_same (made_of frame base cell op e t.0) v t.2) (made_full frame base cell op ps e t.0 h r t.1)
    go false m = absurd (no_ok (record { kind = F6; site = s }) v m)
