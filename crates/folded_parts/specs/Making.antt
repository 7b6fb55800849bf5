-- A new part of a consumer: a folded body with other variables.
use Rattle.std.specs.Prelude.{◌≡◌, ℕ, suc, ◌+◌, List, [], ◌∷◌, length, Vec}
use Rattle.std.specs.declared.alloc.Global.{Global}
use Rattle.sac_base.specs.declared.grid.Grid1.{Grid1}
use Rattle.core_ir.specs.declared.tree.Var.{Var}
use Rattle.core_ir.specs.Binders.{bound_in}
use Rattle.core_ir.specs.Terms.{BlockTerm, PartTerm}
use Rattle.core_subst.specs.copy.Mapped.{mapped}
use Rattle.core_subst.specs.Names.{variable}
use Rattle.parted_bodies.specs.Numbering.{named, numbered}
use Rattle.folded_parts.specs.Folding.{BlockFolded}

-- The part of a piece. The copies in the folded body have the numbers from n on, and all variables of the part those behind them.
pub record PieceMade (p : Var) (parts : List PartTerm) (holders : List ℕ) (old : PartTerm) (grid : List Grid1)
    (n : ℕ) (new : PartTerm) (after : ℕ) : Type 0 where
  pub body : BlockTerm
  pub passed : ℕ
  pub next : ℕ
  pub folded : BlockFolded p parts holders 0 n old.body body passed next
  pub made : new ≡ record {
    head = record { grid = grid; index = variable next; site = old.head.site };
    body = mapped (numbered (named (λ x. x) old.head.index (variable next)) (bound_in body) (suc next)) body;
  }
  pub up_to : after ≡ suc next + length (bound_in body)

-- pieces of a part: each is a grid, with the number of the producer's part for each selection
abbrev pub PiecesMade : Var → List PartTerm → PartTerm → List (List Grid1 × Vec ℕ Global) → ℕ → List PartTerm → ℕ → Type 0
PiecesMade p parts old [] n [] m = n ≡ m
PiecesMade p parts old (piece ∷ pieces) n (new ∷ news) m =
    (k : ℕ) × (PieceMade p parts (piece.1).items old piece.0 n new k × PiecesMade p parts old pieces k news m)
PiecesMade p parts old _ n _ m = ⊥
