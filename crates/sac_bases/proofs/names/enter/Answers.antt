use Rattle.std.proofs.Common.{ap, sym, ◌∙◌, Some}
use Rattle.std.proofs.lemmas.Map.Text.{hash_map_updates_str}
use Rattle.check_rules.specs.Accepted.{bind}
use Rattle.check_rules.specs.Tables.{entered}
use Rattle.check_rules.proofs.Places.{bound_new, none_copied}
use Rattle.sac_bases.proofs.names.enter.Goals as goal

pub returns-in_ok-insert-clause-entered : goal.returns-in_ok-insert-clause-entered
returns-in_ok-insert-clause-entered c = λ i other.
    (hash_map_updates_str c.as_str-text.result.now c.args.bases.now c.insert.new.self (Some c.args.base) c.in_ok-insert.ensures.updates other
    ∙ bound_new (entered c.args.bases.now) c.as_str-text.result.now c.args.base (sym c.get.ensures.value ∙ none_copied c.get.result c.if-is_none.ensures) other
    ∙ ap (λ text. bind text c.args.base (entered c.args.bases.now) other) c.as_str-text.ensures.bytes) i
