-- A binding, a generator, a part and a function alone, without bindings that are not used and whose right side is known to have a value.
use Rattle.std.specs.Prelude.{◌≡◌, ℕ, Bool, List, [], ◌∷◌, ◌++◌, reverse, Option}
use Rattle.core_ir.specs.declared.tree.Var.{Var}
use Rattle.core_ir.specs.Terms.{BlockTerm, LetTerm, GenTerm, PartTerm, FunTerm, chain}
use Rattle.core_facts.specs.Facts.{Facts, note_all, in_part}
use Rattle.core_facts.specs.constants.Called.{params_facts}
use Rattle.core_subst.specs.Names.{used_in}
use Rattle.core_forms.specs.cleaning.Unused.{bind_if_needed, swept, swept_right}
use Rattle.removal_rules.specs.Uses.{among}

module _ (called : ℕ → List (Option (List ℕ))) where
  abbrev pub swept_let : LetTerm → Facts → LetTerm
  swept_let l k = record l { right = swept_right called l.right k }

  abbrev pub swept_gen : GenTerm → Facts → GenTerm
  swept_gen g k = record g { body = swept called g.body (note_all k (g.head.index ∷ g.head.names) []) }

  abbrev pub swept_part : PartTerm → Facts → PartTerm
  swept_part p k = record p { body = swept called p.body (in_part k p.head) }

  abbrev pub swept_function : FunTerm → FunTerm
  swept_function f = record f { body = swept called f.body (params_facts f) }

-- a binding, and whether it may go where its variable is not used
pub record PassedTerm : Type 0 where
  pub binding : LetTerm
  pub may_go : Bool

-- bindings before a block, without those that may go and whose variable is not used behind them
abbrev pub needed_before : List PassedTerm → BlockTerm → BlockTerm
needed_before [] end = end
needed_before (l ∷ ls) end = bind_if_needed l.may_go l.binding.targets l.binding.site l.binding.right (needed_before ls end)

-- With this binding before them the bindings that are needed, the latest in the block first, become others, whatever stands behind them; and where it was
-- known what is used there, it is known now.
abbrev pub IsStep : PassedTerm → List LetTerm → List LetTerm → (Var → Bool) → (Var → Bool) → Type 0
IsStep l old new was is =
    (end : BlockTerm) → was ≡ among (used_in (chain (reverse old) end))
    → (chain (reverse new) end ≡ bind_if_needed l.may_go l.binding.targets l.binding.site l.binding.right (chain (reverse old) end))
    × (is ≡ among (used_in (chain (reverse new) end)))
