use Rattle.std.proofs.Common.{rules, refl}
use Rattle.std.specs.Prelude.{◌&&◌}
use Rattle.std.proofs.lemmas.Fn.{filter_same}
use Rattle.sac_base.specs.Grids.{has_index}
use Rattle.grid_sets.proofs.Keeping.{kept_split}
use Rattle.grid_sets.proofs.pair.meet1.Goals as goal

pub returns-in-Ok-clause-members : goal.returns-in-Ok-clause-members
returns-in-Ok-clause-members c =
    kept_split (λ s t. s && t) c.args.a.now c.args.b.now c.in-Ok.pieces.items c.retain.new.self.items c.args.a.now.wide (λ t. refl)
    (filter_same _ (λ p. has_index c.args.a.now p.lo && has_index c.args.b.now p.lo) _ (λ x b f' k. search rules) _ _ c.retain.ensures.filtered)
    c.in-Ok.ensures.split c.in-Ok.ensures.uniform
