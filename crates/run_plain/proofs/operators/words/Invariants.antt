use Rattle.std.proofs.Common.{◌≡◌, ◌≤◌, length, take, map}
use Rattle.run_values.specs.Numbers.{numbers}
use Rattle.run_values.specs.Scopes.{current}
use Rattle.run_plain.proofs.Words.{word}
use Rattle.run_plain.proofs.operators.words.Given as goal

abbrev pub invariant-loop-x : goal.invariant-loop-x
invariant-loop-x l = (map (current l.frames) (take l.x-index l.xs) ≡ map (word l.base) (numbers l.few)) × (1 ≤ length l.xs)
