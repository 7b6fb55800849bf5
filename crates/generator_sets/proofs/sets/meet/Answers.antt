use Rattle.std.proofs.Common.{rules, refl}
use Rattle.std.specs.Prelude.{◌&&◌}
use Rattle.std.proofs.lemmas.Fn.{filter_same}
use Rattle.sac_base.specs.Grids.{has_vector}
use Rattle.generator_sets.specs.Pieces.{lows}
use Rattle.generator_sets.proofs.Kept.{kept_vectors}
use Rattle.generator_sets.proofs.sets.meet.Goals as goal

pub returns-in-Ok-clause-members : goal.returns-in-Ok-clause-members
returns-in-Ok-clause-members c =
    kept_vectors (λ s t. s && t) c.args.a.now c.args.b.now c.in-Ok.pieces.items c.retain.new.self.items (λ t. refl)
    (filter_same _ (λ p. has_vector c.args.a.now (lows p) && has_vector c.args.b.now (lows p)) _ (λ x b f' k. search rules) _ _ c.retain.ensures.filtered)
    c.in-Ok.ensures.split c.in-Ok.ensures.uniform
