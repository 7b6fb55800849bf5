-- A body that does not use the producer stays as it is.
use Rattle.std.proofs.Common.{◌≡◌, ℕ, List, [], ◌∷◌, Option, refl, subst, inl}
use Rattle.sac_base.specs.declared.grid.Grid1.{Grid1}
use Rattle.core_ir.specs.declared.tree.Var.{Var}
use Rattle.core_ir.specs.Terms.{BlockTerm, RightTerm, PartTerm, Gives, Bind, Plain}
use Rattle.core_ir.specs.Uses.{AvoidsAll, Avoids, AvoidsRight}
use Rattle.core_facts.specs.Facts.{Facts, note_all, right_facts}
use Rattle.core_forms.proofs.inlined_bodies.Names.{clash}
use Rattle.core_loops.specs.Indices.{IndexFacts, learn_index, note_others}
use Rattle.core_loops.specs.Pairs.{Producer}
use Rattle.core_loops.specs.Steps.{Folded, FoldedRight}
use Rattle.core_forms.specs.fold.Copied.{AllCopied, AllCopiedRight}
use Rattle.folded_parts.specs.Folding.{BlockFolded, RightFolded, ends, takes, keeps, stays, branches, turns}
use Rattle.fold_walk.proofs.fold_laws.Chosen.{chosen_is}

module _ (p : Var) (sources : List PartTerm) (holders : List ℕ) where
  mutual
    pub unchanged : {i n j m : ℕ} {b c : BlockTerm} → BlockFolded p sources holders i n b c j m → Avoids p b → c ≡ b
    unchanged ends h = refl
    unchanged (takes {i = i} {r = r} {index = index} {part = part} e g) h =
        let w = chosen_is p sources holders i r index part e in
        let u : AvoidsAll p (w.array ∷ index ∷ []) = subst (AvoidsRight p) w.selects h.0 in
        clash _ w.same u.0
    unchanged (keeps {xs = xs} {s = s} e f g) h = λ l. Bind xs s (unchanged_right f h.0 l) (unchanged g h.1 l)

    unchanged_right : {i n j m : ℕ} {r q : RightTerm} → RightFolded p sources holders i n r q j m → AvoidsRight p r → q ≡ r
    unchanged_right (stays w) h = refl
    unchanged_right (branches {x = x} f g) h = λ l. RightTerm.If x (unchanged f h.1 l) (unchanged g h.2 l)
    unchanged_right (turns {first = first} {start = start} {params = params} {s = s} f g) h = λ l. RightTerm.Loop first start params (unchanged f h.1 l) (unchanged g h.2 l) s

module _ (called : ℕ → List (Option (List ℕ))) (p : Producer) (axes : ℕ) (grid : List Grid1) (low high : ℕ) where
  -- as it is, it is a folded body
  abbrev pub Same : BlockTerm → Facts → IndexFacts → Type 0
  Same b k m = (f : Folded called p axes grid b k m b) × AllCopied called p axes grid low high b k m b f

  abbrev SameRight : RightTerm → Facts → IndexFacts → Type 0
  SameRight r k m = (f : FoldedRight called p axes grid r k m r) × AllCopiedRight called p axes grid low high r k m r f

  mutual
    pub same_folded : (b : BlockTerm) (k : Facts) (m : IndexFacts) → Same b k m
    same_folded (Gives xs) k m = (refl, tt)
    same_folded (Bind xs s r b) k m =
        let first = same_right r k m in
        let rest = same_folded b (note_all k xs (right_facts called r k)) (learn_index axes m xs r k) in
        (inl (r, (b, (refl, first.0, rest.0))), (first.1, rest.1))

    same_right : (r : RightTerm) (k : Facts) (m : IndexFacts) → SameRight r k m
    same_right (Plain q) k m = (refl, tt)
    same_right (RightTerm.If x a b) k m =
        let first = same_folded a k m in
        let rest = same_folded b k m in
        ((a, (b, (refl, first.0, rest.0))), (first.1, rest.1))
    same_right (RightTerm.Loop first start params a b s) k m =
        let one = same_folded a (note_all k params []) (note_others m params) in
        let rest = same_folded b (note_all k params []) (note_others m params) in
        ((a, (b, (refl, one.0, rest.0))), (one.1, rest.1))
    same_right (RightTerm.Call g xs) k m = (refl, tt)
    same_right (RightTerm.With o gens) k m = (refl, tt)
    same_right (RightTerm.Parted f t c o ps) k m = (refl, tt)
