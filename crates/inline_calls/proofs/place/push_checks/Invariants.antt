use Rattle.std.proofs.Common.{◌≡◌, ◌++◌, map, drop}
use Rattle.core_ir.specs.View.{let_term}
use Rattle.core_forms.specs.inlining.Inlined.{checks}
use Rattle.inline_calls.proofs.place.push_checks.Given as goal

abbrev pub invariant-loop-k : goal.invariant-loop-k
invariant-loop-k l = map let_term l.lets.items ++ checks l.site (drop l.k l.targets) (drop l.k l.types) (drop l.k l.sources) ≡ map let_term l.initial.lets.items ++ checks l.site l.targets l.types l.sources
