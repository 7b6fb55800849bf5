use Rattle.std.proofs.Common.{rules, is_some}
use Rattle.std.proofs.lemmas.Fn.{filter_same}
use Rattle.partable_loops.specs.Planned.{Label}
use Rattle.partable_loops.proofs.cuts.held.Goals as goal

pub returns : goal.returns
returns c = filter_same _ (λ (p : Label). is_some p.1) _ (λ x b f' k. search rules) _ _ c.retain.ensures.filtered
