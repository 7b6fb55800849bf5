use Rattle.std.proofs.Common.{[], ◌∷◌, ap, ◌∙◌}
use Rattle.check_rules.specs.Accepted.{with_names}
use Rattle.check_rules.specs.Tables.{among}
use Rattle.check_rules.proofs.Places.{inserted}
use Rattle.check_rules.proofs.names.note.Goals as goal

pub returns-clause-names : goal.returns-clause-names
returns-clause-names c = λ i other. (ap (λ ks. among ks other) c.in_ok-added.ensures.keys ∙ inserted c.args.names.now.keys c.as_str.result other ∙ ap (λ text. with_names (text ∷ []) (among c.args.names.now.keys) other) c.as_str.ensures.bytes) i
