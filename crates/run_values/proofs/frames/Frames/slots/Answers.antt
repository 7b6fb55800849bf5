use Rattle.std.proofs.Common.{◌+◌, ◌≤◌, ◌++◌, ap, length, arith}
use Rattle.std.proofs.lemmas.List.{get_or_past}
use Rattle.run_values.specs.declared.value.RunValue.TheVariants.{Unbound}
use Rattle.run_values.specs.Shown.{value_of}
use Rattle.run_values.proofs.frames.Frames.slots.Goals as goal

pub returns : goal.returns
returns c x past =
    let f = c.args.self.now in
    let less = c.saturating_sub.ensures in
    let behind : length (f.outside.now ++ f.slots.items) ≤ f.base + x.0 = omega (arith, past, less, c.count.ensures) in
    ap value_of (get_or_past (f.outside.now ++ f.slots.items) (f.base + x.0) Unbound behind)
