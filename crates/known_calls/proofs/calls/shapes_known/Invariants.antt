use Rattle.std.proofs.Common.{◌≡◌, drop}
use Rattle.fact_table.specs.Table.{facts_of}
use Rattle.known_calls.specs.Known.{shapes_known}
use Rattle.known_calls.proofs.Finding.{prefixed}
use Rattle.known_calls.proofs.calls.shapes_known.Given as goal

abbrev pub invariant-loop-var : goal.invariant-loop-var
invariant-loop-var l = shapes_known (facts_of l.table) l.vars ≡ prefixed l.shapes.items (shapes_known (facts_of l.table) (drop l.var-index l.vars))
