use Rattle.std.proofs.Common.{[], ap, arith, sym, ◌∙◌}
use Rattle.run_values.specs.Scopes.{seen, slots_of}
use Rattle.run_values.proofs.Slots.{none_copied}
use Rattle.run_values.proofs.frames.Frames.new.Goals as goal

pub returns-clause-current : goal.returns-clause-current
returns-clause-current c = c.over.ensures.current ∙ ap (λ zs. seen (slots_of zs) 0) c.new.ensures.items ∙ sym (none_copied [] 0 (omega arith))
