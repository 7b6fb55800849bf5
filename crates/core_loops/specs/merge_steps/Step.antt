-- A merge step of a whole core: a loop whose cells are loops becomes one loop.
use Rattle.std.specs.Prelude.{◌≡◌, ◌⊎◌, ℕ, suc, true, false, eqb, List, [], ◌∷◌, ◌++◌, length, pos, Option, Some, slice_get}
use Rattle.sac_base.specs.declared.base.Base.{Base}
use Rattle.sac_base.specs.declared.base.Base.TheVariants.{Int}
use Rattle.sac_base.specs.declared.grid.Grid1.{Grid1}
use Rattle.sac_base.specs.declared.site.Site.{Site}
use Rattle.sac_base.specs.Arrays.{scalar}
use Rattle.core_ir.specs.declared.tree.Var.{Var}
use Rattle.core_ir.specs.declared.tree.PartedOp.TheVariants as parted
use Rattle.core_ir.specs.Binders.{is_in}
use Rattle.core_ir.specs.Edits.{Edited}
use Rattle.core_ir.specs.Renaming.{Renamed, under}
use Rattle.core_ir.specs.Terms.{PlainTerm, BlockTerm, RightTerm, PartsTerm, LetTerm, PartHead, FunTerm, CoreTerm, Gives, Bind, Plain, NoParts, Part}
use Rattle.core_ir.specs.Terms.{Parted, chain}
use Rattle.core_ir.specs.Uses.{AvoidsEach, AvoidsParts, targets_of}
use Rattle.core_facts.specs.Facts.{Facts}
use Rattle.core_facts.specs.constants.Called.{called, params_facts}
use Rattle.core_loops.specs.Pairs.{Nests, IsScalarisable}
use Rattle.core_loops.specs.Steps.{fact_ways, itself, append_parts}
use Rattle.core_facts.specs.calls.Replaced.{replaced_at}

-- bindings of the components of u from the j-th on, each by a constant and a selection
abbrev pub Picks : Var → ℕ → List Var → List LetTerm → Type 0
Picks u j [] ls = ls ≡ []
Picks u j (x ∷ xs) ls =
    (c : Var) × ((s : Site) × ((t : Site) ×
    ((more : List LetTerm) × ((ls ≡ record { targets = c ∷ []; site = s; right = Plain (PlainTerm.Const (scalar Int (pos j))) } ∷
    record { targets = x ∷ []; site = t; right = Plain (PlainTerm.Select u c) } ∷ more)
    × (eqb c.0 u.0 ≡ false) × (eqb x.0 u.0 ≡ false) × (is_in x (targets_of more) ≡ false) × Picks u (suc j) xs more))))

-- the first n components of u as the vector i, and the m others as the vector l
pub record IndicesMade (u i l : Var) (n m : ℕ) (makes : List LetTerm) : Type 0 where
  pub front : List Var
  pub back : List Var
  pub picks : List LetTerm
  pub first : Site
  pub second : Site
  pub in_front : length front ≡ n
  pub behind : length back ≡ m
  pub picked : Picks u 0 (front ++ back) picks
  pub alone : is_in i back ≡ false
  pub apart : eqb l.0 i.0 ≡ false
  pub made : makes ≡ picks ++ (record { targets = i ∷ []; site = first; right = Plain (PlainTerm.Literal front) } ∷
      record { targets = l ∷ []; site = second; right = Plain (PlainTerm.Literal back) } ∷ [])

-- the outer bindings, then the inner part's, with other variables, behind bindings that make the two old indices
pub record MergedBody (h : PartHead) (before after : List LetTerm) (g : PartHead) (c : BlockTerm) (j : PartHead) (d : BlockTerm) : Type 0 where
  pub outer : Var
  pub inner : Var
  pub makes : List LetTerm
  pub made : IndicesMade j.index outer inner (length h.grid) (length g.grid) makes
  pub body : BlockTerm
  pub whole : d ≡ chain makes body
  pub renamed : Renamed (under (under itself h.index outer) g.index inner) (chain (before ++ after) c) body
  pub avoids : AvoidsEach (j.index ∷ targets_of made.picks) body

-- one part for each inner part
abbrev pub InnerMerged : PartHead → List LetTerm → List LetTerm → PartsTerm → PartsTerm → Type 0
InnerMerged h before after NoParts pieces = pieces ≡ NoParts
InnerMerged h before after (Part g c rest) NoParts = ⊥
InnerMerged h before after (Part g c rest)
    (Part j d pieces) = (j.grid ≡ h.grid ++ g.grid) × (j.site ≡ g.site) × MergedBody h before after g c j d × InnerMerged h before after rest pieces

module _ (called : ℕ → List (Option (List ℕ))) (k : Facts) (frame : List Grid1) (base : Base) where
  abbrev pub MergedParts : (old : PartsTerm) (count : ℕ) → Nests called k frame base old count → PartsTerm → Type 0
  MergedParts NoParts count w new = new ≡ NoParts
  MergedParts (Part h b rest) count w new =
      (pieces : PartsTerm) × ((others : PartsTerm) ×
      ((new ≡ append_parts pieces others) × AvoidsParts w.1.1.0.z w.0 × InnerMerged h w.1.1.0.before w.1.1.0.after w.0 pieces ×
      MergedParts rest w.1.0 w.1.1.1 others))

-- one parted genarray becomes one over the product of the frames
pub record MergesHere (called : ℕ → List (Option (List ℕ))) (above : ℕ) (k : Facts) (b c : BlockTerm) : Type 0 where
  pub target : Var
  pub site : Site
  pub frame : List Grid1
  pub base : Base
  pub cell : List ℕ
  pub old : PartsTerm
  pub new : PartsTerm
  pub rest : BlockTerm
  pub scalarisable : IsScalarisable called above k base cell old
  pub parts : MergedParts called k scalarisable.frame base old scalarisable.count scalarisable.nests new
  pub before : b ≡ Bind (target ∷ []) site (Parted frame base cell parted.Genarray old) rest
  pub after : c ≡ Bind (target ∷ []) site (Parted (frame ++ scalarisable.frame) base [] parted.Genarray new) rest

-- one function is changed at one place; `above` is one more than the greatest number of a variable of a function
pub record MergeStep (above : FunTerm → ℕ) (a b : CoreTerm) : Type 0 where
  pub place : ℕ
  pub function : FunTerm
  pub body : BlockTerm
  pub found : slice_get a.functions place ≡ Some function
  pub edited : Edited Facts (fact_ways (called a)) (MergesHere (called a) (above function)) (params_facts function) function.body body
  pub changed : b ≡ record a { functions = replaced_at a.functions place (record function { body = body }) }
