use Rattle.std.proofs.Common.{rules, ap, sym, arith, ◌+◌, ◌++◌, ◌<◌, ◌≤◌, ◌^◌}
use Rattle.std.proofs.lemmas.List.{get_or_past}
use Rattle.run_values.specs.declared.value.RunValue.TheVariants.{Unbound}
use Rattle.run_values.specs.Shown.{value_of}
use Rattle.run_values.proofs.frames.Frames.get.Goals as goal

pub returns-in-None : goal.returns-in-None
returns-in-None c =
    let f = c.args.self.now in
    let fits : c.count-count.result < 2 ^ 64 = search rules in
    let long : 2 ^ 64 ≤ f.base + c.args.x.0 = search rules in
    sym (ap value_of (get_or_past (f.outside.now ++ f.slots.items) (f.base + c.args.x.0) Unbound (omega (arith, c.count-count.ensures, fits, long))))
