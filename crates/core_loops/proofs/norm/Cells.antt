-- The cells of a parted loop that stands for a with-loop.
use Rattle.std.proofs.Common.{◌≡◌, ℕ, suc, Bool, true, false, cond, List, [], ◌∷◌, map, length, Option, Some, None, Ok, Err, refl, sym, ap, ◌∙◌, ℤ}
use Rattle.std.specs.Prelude.{if◌then◌else◌, filter}
use Rattle.sac_base.specs.declared.base.Base.{Base}
use Rattle.sac_base.specs.declared.faults.FaultKind.TheVariants.{F6}
use Rattle.sac_base.specs.declared.grid.Grid1.{Grid1}
use Rattle.sac_base.specs.declared.site.Site.{Site}
use Rattle.sac_base.specs.Arrays.{ArrayValue, same_form}
use Rattle.sac_base.specs.Grids.{has_vector, members, box_indices}
use Rattle.sac_base.specs.Operators.{all_of, with_first}
use Rattle.sac_base.specs.Outcomes.{Ends, and_then, fault}
use Rattle.sac_base.specs.WithLoops.{Bounds, Generator, Operation, Plan, Range, holder, held_cell, fits_form, each, cells_of, finish, plan, with_value}
use Rattle.sac_base.specs.WithLoops
use Rattle.core_ir.specs.declared.tree.PartedOp.{PartedOp}
use Rattle.core_ir.specs.Meaning.{Env, Cells, cell_at, cell_form, held, made_of, parted_value}
use Rattle.core_facts.proofs.Shapes.{ok_same, no_ok}
use Rattle.core_ir.proofs.Edited.{then_same}
use Rattle.core_loops.specs.norm.Norm.{filled, or_else, held_by, PartFits, IsParted}

abbrev cell_of : ArrayValue → List ℤ → Option Cells → Ends (Option ArrayValue)
cell_of form v None = Ok None
cell_of form v (Some c) = and_then (c.cell v) (held form c.site)

by_part : (form : ArrayValue) (ps : List Cells) (v : List ℤ) → cell_at form ps v ≡ cell_of form v (held_by ps v)
by_part form [] v = refl
by_part form (p ∷ ps) v = go (has_vector p.grid v) (by_part form ps v)
  where
    go : (b : Bool) → cell_at form ps v ≡ cell_of form v (held_by ps v) → (if b then and_then (p.cell v) (held form p.site) else cell_at form ps v) ≡ cell_of form v (if b then Some p else held_by ps v)
    go true r = refl
    go false r = r

held_fills : (form : ArrayValue) (s : Site) (other : List ℤ → Option ArrayValue) (v : List ℤ) (x : Ends ArrayValue) → and_then x (held form s) ≡ and_then (and_then x (held form s)) (λ o. Ok (or_else other v o))
held_fills form s other v (Err k) = refl
held_fills form s other v (Ok a) = go (same_form a form)
  where
    go : (b : Bool) → (if b then Ok (Some a) else fault F6 s) ≡ and_then (if b then Ok (Some a) else fault F6 s) (λ o. Ok (or_else other v o))
    go true = refl
    go false = refl

abbrev with_cell : Base → List ℕ → Option Generator → List ℤ → Ends (Option ArrayValue)
with_cell base cell g v = held_cell (record { base = base; shape = cell }) g v

-- the cell at one index
one_index : (base : Base) (cell : List ℕ) (v : List ℤ) (g : Option Generator) (other : List ℤ → Option ArrayValue) (o : Option ArrayValue) (c : Option Cells) → other v ≡ o → PartFits (cell_form base cell) v g o c
    → cell_of (cell_form base cell) v c ≡ and_then (with_cell base cell g v) (λ o. Ok (or_else other v o))
one_index base cell v (Some g) other o (Some c) e h =
    (λ i. and_then (h.0 i) (held (cell_form base cell) (h.1 i))) ∙ held_fills (cell_form base cell) g.bounds.site other v (g.cell v)
one_index base cell v (Some g) other o None e h = absurd h
one_index base cell v None other (Some a) (Some c) e h =
    (λ i. and_then (h.0 i) (held (cell_form base cell) c.site)) ∙ (λ i. if h.1 i then Ok (Some a) else fault F6 c.site) ∙ (λ i. Ok (sym e i))
one_index base cell v None other (Some a) None e h = absurd h
one_index base cell v None other None (Some c) e h = absurd h
one_index base cell v None other None None e h = λ i. Ok (sym e i)

each_step : (a b : Ends (Option ArrayValue)) (as' bs : List (Ends (Option ArrayValue))) (fill : List ℤ → Option ArrayValue → Option ArrayValue) (v : List ℤ) (vs : List (List ℤ))
    → a ≡ and_then b (λ o. Ok (fill v o)) → all_of as' ≡ and_then (all_of bs) (λ os. Ok (filled fill vs os)) → all_of (a ∷ as') ≡ and_then (all_of (b ∷ bs)) (λ os. Ok (filled fill (v ∷ vs) os))
each_step a (Err k) as' bs fill v vs p q = λ i. all_of (p i ∷ as')
each_step a (Ok o) as' bs fill v vs p q = (λ i. all_of (p i ∷ as')) ∙ (λ i. with_first (fill v o) (q i)) ∙ go (all_of bs)
  where
    go : (r : Ends (List (Option ArrayValue))) → with_first (fill v o) (and_then r (λ os. Ok (filled fill vs os))) ≡ and_then (with_first o r) (λ os. Ok (filled fill (v ∷ vs) os))
    go (Ok os) = refl
    go (Err k) = refl

-- the cells of all members
all_indices : (f g : List ℤ → Ends (Option ArrayValue)) (fill : List ℤ → Option ArrayValue → Option ArrayValue) (p : List ℤ → Bool) (vs : List (List ℤ)) → ((v : List ℤ) → p v ≡ true → f v ≡ and_then (g v) (λ o. Ok (fill v o)))
    → each f (filter p vs) ≡ and_then (each g (filter p vs)) (λ os. Ok (filled fill (filter p vs) os))
all_indices f g fill p [] h = refl
all_indices f g fill p (v ∷ vs) h = go (p v) refl (all_indices f g fill p vs h)
  where
    go : (b : Bool) → p v ≡ b → each f (filter p vs) ≡ and_then (each g (filter p vs)) (λ os. Ok (filled fill (filter p vs) os))
        → each f (cond b (v ∷ filter p vs) (filter p vs)) ≡ and_then (each g (cond b (v ∷ filter p vs) (filter p vs))) (λ os. Ok (filled fill (cond b (v ∷ filter p vs) (filter p vs)) os))
    go true e r = each_step (f v) (g v) (map f (filter p vs)) (map g (filter p vs)) fill v (filter p vs) (h v e) r
    go false e r = r

first_length : (o : Ends (Option ArrayValue)) (rest : List (Ends (Option ArrayValue))) (found : List (Option ArrayValue)) → ((os : List (Option ArrayValue)) → all_of rest ≡ Ok os → length os ≡ length rest) → all_of (o ∷ rest) ≡ Ok found → length found ≡ suc (length rest)
first_length (Err k) rest found h p = absurd (no_ok k found p)
first_length (Ok o) rest found h p = go (all_of rest) h p
  where
    go : (r : Ends (List (Option ArrayValue))) → ((os : List (Option ArrayValue)) → r ≡ Ok os → length os ≡ length rest) → with_first o r ≡ Ok found → length found ≡ suc (length rest)
    go (Ok os) h p = ap length (sym (ok_same (o ∷ os) found p)) ∙ ap suc (h os refl)
    go (Err k) h p = absurd (no_ok k found p)

each_length : (f : List ℤ → Ends (Option ArrayValue)) (vs : List (List ℤ)) (found : List (Option ArrayValue)) → each f vs ≡ Ok found → length found ≡ length vs
each_length f [] found p = ap length (sym (ok_same [] found p))
each_length f (v ∷ vs) found p = first_length (f v) (map f vs) found (λ os q. each_length f vs os q ∙ sym (mapped vs)) p ∙ ap suc (mapped vs)
  where
    mapped : (ws : List (List ℤ)) → length (map f ws) ≡ length ws
    mapped [] = refl
    mapped (w ∷ ws) = ap suc (mapped ws)

then_assoc : {A B C : Type 0} (x : Ends A) (f : A → B) (g : B → Ends C) → and_then (and_then x (λ a. Ok (f a))) g ≡ and_then x (λ a. g (f a))
then_assoc (Ok a) f g = refl
then_assoc (Err k) f g = refl

-- the parted loop means what the with-loop means
pub parted_is_with : (gs : List Generator) (op : Operation) (p : Plan) (other : List ℤ → Option ArrayValue) (frame : List Grid1) (base : Base) (cell : List ℕ) (made : PartedOp) (parts : List Cells) (s : Site) (e : Env) → IsParted gs op p other frame base cell made parts e
    → parted_value frame base cell made parts s e ≡ with_value gs op
parted_is_with gs op p other frame base cell made parts s e h =
    let form = cell_form base cell in
    let fill = or_else other in
    let f = cell_at form parts in
    let g = WithLoops.cell_at (record { base = base; shape = cell }) gs p.ranges in
    let inner = box_indices (map (λ (a : Grid1). a.lo) frame) (map (λ (a : Grid1). a.hi) frame) in
    let cells : each f (members frame) ≡ and_then (each g (members frame)) (λ os. Ok (filled fill (members frame) os)) =
    all_indices f g fill (has_vector frame) inner (λ v q. by_part form parts v ∙ one_index base cell v (holder gs p.ranges v) other (other v) (held_by parts v) refl (h.fitting v q)) in
    let new : parted_value frame base cell made parts s e ≡ and_then (each g (members frame)) (λ os. Ok (made_of frame base cell made e (filled fill (members frame) os))) =
    (λ i. if h.neutral i then and_then (cells i) (λ found. Ok (made_of frame base cell made e found)) else fault F6 s) ∙ then_assoc (each g (members frame)) (filled fill (members frame)) (λ found. Ok (made_of frame base cell made e found)) in
    let old : with_value gs op ≡ and_then (each g (members frame)) (λ os. Ok (finish op p os)) =
    (λ i. and_then (h.planned i) (λ q. and_then (cells_of q.form gs q.ranges q.indices) (λ found. Ok (finish op q found))))
    ∙ (λ i. and_then (each (WithLoops.cell_at (h.form i) gs p.ranges) (h.indices i)) (λ found. Ok (finish op p found))) in
    new ∙ then_same (each g (members frame)) (λ os. Ok (made_of frame base cell made e (filled fill (members frame) os))) (λ os. Ok (finish op p os)) (λ os q. λ i. Ok (h.finished os (each_length g (members frame) os q) i)) ∙ sym old
