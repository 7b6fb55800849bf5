use Rattle.std.proofs.Common.{rules, ap, arith, ◌∙◌, ◌≡◌, ◌≤◌, ◌+◌, ◌-◌, take}
use Rattle.run_values.specs.declared.value.RunValue.TheVariants.{Unbound}
use Rattle.run_values.specs.Scopes.{slots_of}
use Rattle.run_values.proofs.Outside.{trimmed}
use Rattle.run_values.proofs.frames.up_to_last.Goals as goal

pub loop-count-preserved : goal.loop-count-preserved
loop-count-preserved c =
    let n = c.loop-count.count in
    let xs = c.args.slots.now in
    let some : 1 ≤ n = search rules in
    let back : n - 1 + 1 ≡ n = omega (arith, some) in
    let free : slots_of xs (n - 1) ≡ Unbound = search rules in
    (omega (arith, c.loop-count.invariant.0), trimmed xs (n - 1) free (ap (λ k. slots_of (take k xs)) back ∙ c.loop-count.invariant.1))
