-- Parts that are made of pieces one after another.
use Rattle.std.proofs.Common.{◌≡◌, ℕ, List, [], ◌∷◌, ◌++◌, map, refl, sym, ap, subst, ◌∙◌, append-nil, append_assoc}
use Rattle.std.specs.Prelude.{Vec}
use Rattle.std.specs.declared.alloc.Global.{Global}
use Rattle.sac_base.specs.declared.grid.Grid1.{Grid1}
use Rattle.core_ir.specs.declared.tree.CorePart.{CorePart}
use Rattle.core_ir.specs.declared.tree.Var.{Var}
use Rattle.core_ir.specs.Terms.{PartTerm}
use Rattle.core_ir.specs.View.{part_term}
use Rattle.folded_parts.specs.Making.{PieceMade, PiecesMade}
use Rattle.folded_parts.proofs.Turns.{map_snoc}

module _ (p : Var) (parts : List PartTerm) (old : PartTerm) where
  -- whatever the rest gives, the parts so far carry it
  abbrev pub Gathered : List (List Grid1 × Vec ℕ Global) → ℕ → List CorePart → List (List Grid1 × Vec ℕ Global) → ℕ → Type 0
  Gathered all n made rest m = (news : List PartTerm) (t : ℕ) → PiecesMade p parts old rest m news t → PiecesMade p parts old all n (map part_term made ++ news) t

  pub gathered_first : (all : List (List Grid1 × Vec ℕ Global)) (n : ℕ) (made : List CorePart) → made ≡ [] → Gathered all n made all n
  gathered_first all n made e news t h = subst (λ (ps : List CorePart). PiecesMade p parts old all n (map part_term ps ++ news) t) (sym e) h

  pub gathered_on :
      (all : List (List Grid1 × Vec ℕ Global)) (n : ℕ) (made made' : List CorePart) (rest rest' : List (List Grid1 × Vec ℕ Global)) (m m' : ℕ) (piece : List Grid1 × Vec ℕ Global) (new : CorePart) → Gathered all n made rest m →
      rest ≡ piece ∷ rest' → made' ≡ made ++ (new ∷ []) → PieceMade p parts (piece.1).items old piece.0 m (part_term new) m' → Gathered all n made' rest' m'
  gathered_on all n made made' rest rest' m m' piece new g e q f news t h =
      let one : PiecesMade p parts old rest m (part_term new ∷ news) t = subst (λ (zs : List (List Grid1 × Vec ℕ Global)). PiecesMade p parts old zs m (part_term new ∷ news) t) (sym e) (m', (f, h)) in
      let same : map part_term made ++ (part_term new ∷ news) ≡ map part_term made' ++ news =
      sym (append_assoc (map part_term made) (part_term new ∷ []) news) ∙ (λ i. sym (ap (map part_term) q ∙ map_snoc part_term made new) i ++ news) in
      subst (λ (ps : List PartTerm). PiecesMade p parts old all n ps t) same (g (part_term new ∷ news) t one)

  pub gathered_all : (all : List (List Grid1 × Vec ℕ Global)) (n : ℕ) (made : List CorePart) (rest : List (List Grid1 × Vec ℕ Global)) (m : ℕ) → Gathered all n made rest m → rest ≡ [] → PiecesMade p parts old all n (map part_term made) m
  gathered_all all n made rest m g e =
      subst (λ (ps : List PartTerm). PiecesMade p parts old all n ps m) (append-nil (map part_term made))
      (g [] m (subst (λ (zs : List (List Grid1 × Vec ℕ Global)). PiecesMade p parts old zs m [] m) (sym e) refl))
