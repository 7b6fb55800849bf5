-- What the parts of a fold step are copies of.
use Rattle.std.specs.Prelude.{◌≡◌, ◌⊎◌, ℕ, true, List, [], ◌∷◌, All, Option}
use mathlib.Core.Logic.{inl, inr}
use Rattle.sac_base.specs.declared.grid.Grid1.{Grid1}
use Rattle.core_ir.specs.declared.tree.Var.{Var}
use Rattle.core_ir.specs.Binders.{is_in, bound_in}
use Rattle.core_ir.specs.Terms.{BlockTerm, RightTerm, PartsTerm, PartHead, Gives, Bind, NoParts, Part, chain}
use Rattle.core_facts.specs.Facts.{Facts, note_all, right_facts}
use Rattle.core_loops.specs.Indices.{IndexFacts, note_others, learn_index}
use Rattle.core_loops.specs.Pairs.{Producer}
use Rattle.core_loops.specs.Steps.{TakenAt, Folded, FoldedRight}
use Rattle.core_forms.specs.norm.Alike.{Alike}
use Rattle.core_forms.specs.norm.Fresh.{IsBetween}

-- the loop has this part
abbrev pub HasPart : PartsTerm → PartHead → BlockTerm → Type 0
HasPart NoParts h b = ⊥
HasPart (Part g c rest) h b = ((g ≡ h) × (c ≡ b)) ⊎ HasPart rest h b

-- what stands for a selection is a copy of the body of a part, which binds as many variables, all new
pub record IsCopied (p : Producer) (grid : List Grid1) (low high : ℕ) (m : IndexFacts) (xs : List Var) (r : RightTerm) (d c : BlockTerm)
    (t : TakenAt p grid m xs r d c) : Type 0 where
  pub part : HasPart p.parts t.head t.body
  pub alike : Alike t.body (chain t.lets (Gives (t.result ∷ [])))
  pub new : All (IsBetween low high) (t.own ∷ bound_in (chain t.lets (Gives (t.result ∷ []))))

module _ (called : ℕ → List (Option (List ℕ))) (p : Producer) (n : ℕ) (grid : List Grid1) (low high : ℕ) where
  abbrev mutual
    -- so is each selection's in a folded body
    pub AllCopied : (b : BlockTerm) (k : Facts) (m : IndexFacts) (c : BlockTerm) → Folded called p n grid b k m c → Type 0
    AllCopied (Gives xs) k m c h = Unit {0}
    AllCopied (Bind xs s r b) k m c (inl h) =
        AllCopiedRight r k m h.0 h.1.1.1 × AllCopied b (note_all k xs (right_facts called r k)) (learn_index n m xs r k) h.1.0 h.1.1.2
    AllCopied (Bind xs s r b) k m c (inr h) =
        IsCopied p grid low high m xs r h.0 c h.1.0 × AllCopied b (note_all k xs (right_facts called r k)) (learn_index n m xs r k) h.0 h.1.1

    pub AllCopiedRight : (r : RightTerm) (k : Facts) (m : IndexFacts) (q : RightTerm) → FoldedRight called p n grid r k m q → Type 0
    AllCopiedRight (RightTerm.If x a b) k m q h = AllCopied a k m h.0 h.1.1.1 × AllCopied b k m h.1.0 h.1.1.2
    AllCopiedRight (RightTerm.Loop first start params test body s) k m q h =
        AllCopied test (note_all k params []) (note_others m params) h.0 h.1.1.1 × AllCopied body (note_all k params []) (note_others m params) h.1.0 h.1.1.2
    AllCopiedRight r k m q h = Unit {0}

-- the variable stands in the list, or it is new
abbrev pub IsOldOrNew : List Var → ℕ → ℕ → Var → Type 0
IsOldOrNew old low high x = (is_in x old ≡ true) ⊎ IsBetween low high x
