-- The grids of the new parts fit the frame, and cover it where the old ones did.
use Rattle.std.proofs.Common.{◌≡◌, ℕ, zero, suc, ◌+◌, ◌<◌, ◌≤◌, Bool, true, false, ◌&&◌, cond, List, [], ◌∷◌, length, All, Option, refl, sym, subst, ◌∙◌, arith, ℤ}
use Rattle.std.specs.Prelude.{AllPairs, Contains, get_or}
use Rattle.std.proofs.lemmas.List.Elements.{All-head, All-tail}
use Rattle.sac_base.specs.declared.grid.Grid1.{Grid1}
use Rattle.sac_base.specs.Grids.{AreDisjoint, has_vector, times_vector}
use Rattle.core_ir.specs.declared.tree.PartedOp.{PartedOp}
use Rattle.core_ir.specs.declared.tree.PartedOp.TheVariants as parted
use Rattle.core_ir.specs.Terms.{PartsTerm, NoParts, Part}
use Rattle.core_ir.specs.WellFormed.{Covered, Fit, PartedFits, part_grids}
use Rattle.core_facts.specs.Facts.{Facts}
use Rattle.core_loops.specs.Pairs.{Producer}
use Rattle.core_loops.specs.Steps.{append_parts, NewParts}
use Rattle.core_forms.proofs.norm.Grids.{fit, times_cons, AtMost, grid_of}
use Rattle.core_forms.specs.fold.Fresh.{FreshParts}

-- ---- as often in the new grids as in the old ones

more : (a b c d e : ℕ) → a ≡ c + b → b ≡ d + e → a ≡ (c + d) + e
more a b c d e p q = omega (arith, p, q)

append_times : (pieces others : PartsTerm) (v : List ℤ) → times_vector (part_grids (append_parts pieces others)) v ≡ times_vector (part_grids pieces) v + times_vector (part_grids others) v
append_times NoParts others v = omega arith
append_times (Part h b rest) others v =
    more (times_vector (part_grids (append_parts (Part h b rest) others)) v) (times_vector (part_grids (append_parts rest others)) v) (cond (has_vector h.grid v) 1 0) (times_vector (part_grids rest) v) (times_vector (part_grids others) v)
    (times_cons h.grid (part_grids (append_parts rest others)) v) (append_times rest others v)
    ∙ (λ i. sym (times_cons h.grid (part_grids rest) v) i + times_vector (part_grids others) v)

pub same_times :
    (called : ℕ → List (Option (List ℕ))) (later : Facts) (p : Producer) (low high : ℕ) (old new : PartsTerm) (f : NewParts called later p old new) → FreshParts called later p low high old new f → (v : List ℤ) →
    times_vector (part_grids new) v ≡ times_vector (part_grids old) v
same_times called later p low high NoParts new f e v = λ i. times_vector (part_grids (f i)) v
same_times called later p low high (Part h b rest) new f e v =
    (λ i. times_vector (part_grids (f.1.1.0 i)) v) ∙ append_times f.0 f.1.0 v ∙ (λ i. e.1 v i + same_times called later p low high rest f.1.0 f.1.1.3 e.3 v i)
    ∙ sym (times_cons h.grid (part_grids rest) v)

-- ---- grids that fit

apart_head : (g : List Grid1) (gs : List (List Grid1)) → AllPairs AreDisjoint (g ∷ gs) → All (AreDisjoint g) gs
apart_head g gs h k d l = h 0 (suc k) d (omega arith) (omega (arith, l))

apart_tail : (g : List Grid1) (gs : List (List Grid1)) → AllPairs AreDisjoint (g ∷ gs) → AllPairs AreDisjoint gs
apart_tail g gs h i j d l m = h (suc i) (suc j) d (omega (arith, l)) (omega (arith, m))

nothing : (n a t : ℕ) → n ≡ a + t → a ≡ 0 → t ≡ 0 → n ≡ 0
nothing n a t p q r = omega (arith, p, q, r)

none_there : (g : List Grid1) (gs : List (List Grid1)) (v : List ℤ) → All (AreDisjoint g) gs → has_vector g v ≡ true → times_vector gs v ≡ 0
none_there g [] v a e = refl
none_there g (h ∷ gs) v a e =
    nothing (times_vector (h ∷ gs) v) (cond (has_vector h v) 1 0) (times_vector gs v) (times_cons h gs v) (λ i. cond (other i) 1 0) (none_there g gs v (All-tail (AreDisjoint g) h gs a) e)
  where
    other : has_vector h v ≡ false
    other = sym (λ i. e i && has_vector h v) ∙ All-head (AreDisjoint g) h gs a v

one : (n t : ℕ) → n ≡ 1 + t → t ≡ 0 → n ≤ 1
one n t p q = omega (arith, p, q)

rest_only : (n t m : ℕ) → n ≡ 0 + t → t ≤ m → n ≤ m
rest_only n t m p q = omega (arith, p, q)

at_most : (frame : List Grid1) (gs : List (List Grid1)) → AllPairs AreDisjoint gs → All (λ (g : List Grid1). (index : List ℤ) → has_vector g index ≡ true → has_vector frame index ≡ true) gs → AtMost (has_vector frame) gs
at_most frame [] a i v = omega arith
at_most frame (g ∷ gs) a i v =
    go (has_vector g v) refl (at_most frame gs (apart_tail g gs a) (All-tail (λ (g : List Grid1). (index : List ℤ) → has_vector g index ≡ true → has_vector frame index ≡ true) g gs i) v)
  where
    go : (b : Bool) → has_vector g v ≡ b → times_vector gs v ≤ cond (has_vector frame v) 1 0 → times_vector (g ∷ gs) v ≤ cond (has_vector frame v) 1 0
    go true e rest =
        subst (λ (b : Bool). times_vector (g ∷ gs) v ≤ cond b 1 0) (sym (All-head (λ (g : List Grid1). (index : List ℤ) → has_vector g index ≡ true → has_vector frame index ≡ true) g gs i v e))
        (one (times_vector (g ∷ gs) v) (times_vector gs v) (times_cons g gs v ∙ (λ j. cond (e j) 1 0 + times_vector gs v)) (none_there g gs v (apart_head g gs a) e))
    go false e rest =
        rest_only (times_vector (g ∷ gs) v) (times_vector gs v) (cond (has_vector frame v) 1 0) (times_cons g gs v ∙ (λ j. cond (e j) 1 0 + times_vector gs v))
        rest

pub still_fit : (frame : List Grid1) (old new : List (List Grid1)) → ((v : List ℤ) → times_vector new v ≡ times_vector old v) → Fit frame old → Fit frame new
still_fit frame old new same h = fit frame new (λ v. subst (λ (n : ℕ). n ≤ cond (has_vector frame v) 1 0) (sym (same v)) (at_most frame old h.apart h.inside v))

-- ---- grids that cover

at_least : (gs : List (List Grid1)) (g : List Grid1) (v : List ℤ) → Contains gs g → has_vector g v ≡ true → 1 ≤ times_vector gs v
at_least gs g v c e = go gs c.0 c.1 c.2
  where
    more_than : (n a t : ℕ) → n ≡ a + t → 1 ≤ t → 1 ≤ n
    more_than n a t p q = omega (arith, p, q)

    first : (n t : ℕ) → n ≡ 1 + t → 1 ≤ n
    first n t p = omega (arith, p)

    go : (gs : List (List Grid1)) (k : ℕ) → k < length gs → get_or gs k g ≡ g → 1 ≤ times_vector gs v
    go [] k l q = absurd (omega (arith, l))
    go (h ∷ gs) zero l q = first (times_vector (h ∷ gs) v) (times_vector gs v) (times_cons h gs v ∙ (λ i. cond (((λ j. has_vector (q j) v) ∙ e) i) 1 0 + times_vector gs v))
    go (h ∷ gs) (suc k) l q = more_than (times_vector (h ∷ gs) v) (cond (has_vector h v) 1 0) (times_vector gs v) (times_cons h gs v) (go gs k (omega (arith, l)) q)

pub still_cover : (frame : List Grid1) (old new : List (List Grid1)) → ((v : List ℤ) → times_vector new v ≡ times_vector old v) → Covered frame old → Covered frame new
still_cover frame old new same h v e = let w = h v e in grid_of new v (subst (λ (n : ℕ). 1 ≤ n) (sym (same v)) (at_least old w.0 v w.1.0 w.1.1))

pub still_fits : (op : PartedOp) (frame : List Grid1) (cell : List ℕ) (old new : List (List Grid1)) → ((v : List ℤ) → times_vector new v ≡ times_vector old v) → PartedFits op frame cell old → PartedFits op frame cell new
still_fits parted.Genarray frame cell old new same h = (h.0, still_fit frame old new same h.1, still_cover frame old new same h.2, h.3)
still_fits (parted.Modarray x) frame cell old new same h = (h.0, still_fit frame old new same h.1, still_cover frame old new same h.2, h.3)
still_fits (parted.Fold o x) frame cell old new same h = (h.0, still_fit frame old new same h.1)
