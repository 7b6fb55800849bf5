-- The height of a node, counted with a number of 32 bits.
use Rattle.std.specs.Prelude.{ℕ, ◌≡◌, ◌+◌, ◌≤◌}
use Rattle.sac_phrases.specs.declared.level.Level.{Level}
use Rattle.sac_phrases.specs.declared.level.Level.TheVariants.{Disjunction, Conjunction, Equality, Comparison, Sum, Product}

-- a node above children of this height has that height
abbrev pub IsAbove : ℕ → ℕ → Type 0
IsAbove node children = children ≤ 100 → node ≡ 1 + children

-- how far above the operands a level is
abbrev pub rank : Level → ℕ
rank Disjunction = 12
rank Conjunction = 11
rank Equality = 10
rank Comparison = 9
rank Sum = 8
rank Product = 7
