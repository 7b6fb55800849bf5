use Rattle.std.proofs.Common.{◌≡◌, drop, pos}
use Rattle.std.specs.List.{list_all}
use Rattle.std.specs.Ordering.{int_eq}
use Rattle.reuse_candidates.proofs.rules.are_zero.Given as goal

abbrev pub invariant-loop-number : goal.invariant-loop-number
invariant-loop-number l = list_all (λ z. int_eq z (pos 0)) (drop l.number-index l.numbers) ≡ list_all (λ z. int_eq z (pos 0)) l.numbers
