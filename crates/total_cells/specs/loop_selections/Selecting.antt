-- Whether a block without with-loops and parted loops uses a variable in selections from it alone, as a test.
use Rattle.std.specs.Prelude.{Bool, false, ◌&&◌, List, [], ◌∷◌, ℤ, Option}
use Rattle.core_ir.specs.declared.tree.Var.{Var}
use Rattle.core_ir.specs.Terms.{PlainTerm, BlockTerm, RightTerm, Gives, Bind, Plain}
use Rattle.core_ir.specs.Scopes.{plain_uses}
use Rattle.core_loops.specs.Indices.{IndexFacts}
use Rattle.core_loops.specs.Pairs.{plain_offsets}
use Rattle.core_uses.specs.Tests.{none_is}

abbrev pub plain_selects : Var → PlainTerm → Bool
plain_selects p (PlainTerm.Select x y) = none_is p (y ∷ [])
plain_selects p q = none_is p (plain_uses q)

abbrev mutual
  pub is_selecting : Var → BlockTerm → Bool
  is_selecting p (Gives xs) = none_is p xs
  is_selecting p (Bind xs s r b) = is_selecting_right p r && is_selecting p b

  pub is_selecting_right : Var → RightTerm → Bool
  is_selecting_right p (Plain q) = plain_selects p q
  is_selecting_right p (RightTerm.If x a b) = none_is p (x ∷ []) && (is_selecting p a && is_selecting p b)
  is_selecting_right p (RightTerm.Loop first start params test body s) = none_is p start && (is_selecting p test && is_selecting p body)
  is_selecting_right p (RightTerm.Call g xs) = none_is p xs
  is_selecting_right p (RightTerm.With o gens) = false
  is_selecting_right p (RightTerm.Parted frame base cell o parts) = false

-- of right sides without blocks and calls, and of no other
abbrev pub is_selecting_plain : Var → RightTerm → Bool
is_selecting_plain p (Plain q) = plain_selects p q
is_selecting_plain p _ = false

abbrev pub right_offsets : Var → RightTerm → IndexFacts → List (Option (List ℤ))
right_offsets p (Plain q) m = plain_offsets p q m
right_offsets p _ m = []

-- both blocks of a loop
abbrev pub turns_select : Var → RightTerm → Bool
turns_select p (RightTerm.Loop first start params test body s) = is_selecting p test && is_selecting p body
turns_select p _ = false
