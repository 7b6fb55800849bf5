use Rattle.ref_rules.proofs.listed_uses.Recorded.{IsLastFrom}
use Rattle.ref_rules.proofs.listed_uses.list.Uses.used_before.Given as goal

abbrev pub invariant-loop-behind : goal.invariant-loop-behind
invariant-loop-behind l = IsLastFrom l.self-inside.entries.items l.fn.x l.end l.behind

abbrev pub decreases-loop-behind : goal.decreases-loop-behind
decreases-loop-behind l = l.behind
