-- Marked code uses an array as it did before.
use Rattle.std.proofs.Common.{◌≡◌, ℕ, Bool, true, false, cond, eqb, ◌&&◌, List, [], ◌∷◌, length, Option, Some, None, refl, ap, ◌∙◌, sym}
use Rattle.core_ir.specs.declared.tree.Var.{Var}
use Rattle.core_ir.specs.Scopes.{op_uses, parted_uses}
use Rattle.core_ir.specs.Terms.{RightTerm}
use Rattle.core_facts.specs.Facts.{Facts, note_all, right_facts}
use Rattle.core_facts.specs.Facts
use Rattle.core_loops.specs.Indices.{IndexFacts, Other, own_index, note_index, note_others, learn_index}
use Rattle.core_uses.specs.Tests.{none_is, head_avoided}
use Rattle.counted_code.specs.Terms.{CodeTerm, CodeRightTerm, CodeGensTerm, CodePartsTerm, Giving, Binding, Keeping, Releasing, PartedCode, core_of_right}
use Rattle.counted_laws.specs.mark_places.Places.{without_release, Marked, MarkedRight, MarkedGens, MarkedParts, giving, binding, taking, keeping, releasing, plain, branches, turns, call, cells, parts, no_gens, gen, no_parts, part}
use Rattle.counted_laws.proofs.mark_places.Cores.{right_same, parts_same}
use Rattle.counted_marks.specs.Marks.{own_only, own_right, own_gens, own_inner, own_parts}

module _ (called : ℕ → List (Option (List ℕ))) (v : Var) (n : ℕ) where
  -- a release is no use
  without_own : (w : Var) (t : CodeTerm) (k : Facts) (m : IndexFacts) → own_only called v n (without_release w t) k m ≡ own_only called v n t k m
  without_own w (Giving xs) k m = refl
  without_own w (Binding xs s r b) k m = refl
  without_own w (Keeping x b) k m = ap (λ o. none_is v (x ∷ []) && o) (without_own w b k m)
  without_own w (Releasing x b) k m = go (without_own w b k m) (eqb w.0 x.0)
    where
      go : own_only called v n (without_release w b) k m ≡ own_only called v n b k m → (same : Bool) → own_only called v n (cond same b (Releasing x (without_release w b))) k m ≡ own_only called v n b k m
      go rest true = refl
      go rest false = rest

  mutual
    pub own_same : {a b : CodeTerm} → Marked a b → (k : Facts) (m : IndexFacts) → own_only called v n b k m ≡ own_only called v n a k m
    own_same giving k m = refl
    own_same (binding {xs} {s} {r} {q} {b} {c = d} p rest) k m =
        (λ i. own_right_same p k m i && own_only called v n d (note_all k xs (right_facts called (right_same p i) k)) (learn_index n m xs (right_same p i) k))
        ∙ ap (λ o. own_right called v n r k m && o) (own_same rest (note_all k xs (right_facts called (core_of_right r) k)) (learn_index n m xs (core_of_right r) k))
    own_same (taking {xs} {s} {f} {t} {l} {o} {ps} {qs} {v = w} {b} {c = d} fresh next p rest) k m =
        let r = RightTerm.Parted f t l o in
        (λ i. (none_is v (parted_uses o) && own_inner_same p k m i) && own_only called v n (without_release w d) (note_all k xs (right_facts called (r (parts_same p i)) k)) (learn_index n m xs (r (parts_same p i)) k))
        ∙ ap (λ z. own_right called v n (PartedCode f t l o ps None) k m && z)
        (without_own w d (note_all k xs (right_facts called (core_of_right (PartedCode f t l o ps None)) k)) (learn_index n m xs (core_of_right (PartedCode f t l o ps None)) k)
        ∙ own_same rest (note_all k xs (right_facts called (core_of_right (PartedCode f t l o ps None)) k)) (learn_index n m xs (core_of_right (PartedCode f t l o ps None)) k))
    own_same (keeping {x} rest) k m = ap (λ o. none_is v (x ∷ []) && o) (own_same rest k m)
    own_same (releasing rest) k m = own_same rest k m

    own_right_same : {r q : CodeRightTerm} → MarkedRight r q → (k : Facts) (m : IndexFacts) → own_right called v n q k m ≡ own_right called v n r k m
    own_right_same plain k m = refl
    own_right_same (branches {x} p q) k m = λ i. none_is v (x ∷ []) && (own_same p k m i && own_same q k m i)
    own_right_same (turns {start = start} {params} p q) k m =
        λ i. none_is v start && (own_same p (note_all k params []) (note_others m params) i && own_same q (note_all k params []) (note_others m params) i)
    own_right_same call k m = refl
    own_right_same (cells {o} p) k m = ap (λ z. none_is v (op_uses o) && z) (own_gens_same p k m)
    own_right_same (parts {o = o} p) k m = ap (λ z. none_is v (parted_uses o) && z) (own_inner_same p k m)

    own_gens_same : {r q : CodeGensTerm} → MarkedGens r q → (k : Facts) (m : IndexFacts) → own_gens called v n q k m ≡ own_gens called v n r k m
    own_gens_same no_gens k m = refl
    own_gens_same (gen {h} p rest) k m =
        λ i. (head_avoided v h && own_same p (note_all k (h.index ∷ h.names) []) (note_others m (h.index ∷ h.names)) i) && own_gens_same rest k m i

    own_inner_same : {r q : CodePartsTerm} → MarkedParts r q → (k : Facts) (m : IndexFacts) → own_inner called v n q k m ≡ own_inner called v n r k m
    own_inner_same no_parts k m = refl
    own_inner_same (part {h} p rest) k m = λ i. own_same p (Facts.in_part k h) (note_index m h.index Other) i && own_inner_same rest k m i

pub own_parts_same : (called : ℕ → List (Option (List ℕ))) (v : Var) {r q : CodePartsTerm} → MarkedParts r q → (k : Facts) → own_parts called v q k ≡ own_parts called v r k
own_parts_same called v no_parts k = refl
own_parts_same called v (part {h} p rest) k =
    λ i. own_same called v (length h.grid) p (Facts.in_part k h) (own_index (length h.grid) h.index) i && own_parts_same called v rest k i
