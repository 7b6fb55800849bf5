use Rattle.std.proofs.Common.{◌≡◌, ◌++◌, drop, map, Some}
use Rattle.sac_base.specs.declared.base.Base.TheVariants.{Int}
use Rattle.sac_ast.specs.declared.Known.{Known}
use Rattle.sac_ast.specs.declared.Target.{Target}
use Rattle.sac_bases.proofs.bindings.bind_parts.Given as goal

abbrev pub invariant-loop-target : goal.invariant-loop-target
invariant-loop-target l =
    l.known.all.items ++ map {B = Known} (λ (t : Target). record { name = t.name; base = Some Int }) (drop l.target-index l.targets)
    ≡ l.initial.known.all.items ++ map {B = Known} (λ (t : Target). record { name = t.name; base = Some Int }) l.targets
