use Rattle.std.proofs.Common.{ap, ◌∙◌, Some}
use Rattle.std.proofs.lemmas.Map.Text.{hash_map_updates_str}
use Rattle.check_rules.specs.Tables.{place_of}
use Rattle.check_rules.specs.Groups.{with_last}
use Rattle.check_rules.proofs.functions.note_last.Goals as goal

pub returns : goal.returns
returns c = λ i other.
    (hash_map_updates_str c.as_str.result.now c.args.places.now c.insert.new.self (Some c.args.place) c.in_ok-insert.ensures.updates other
    ∙ ap (λ text. with_last text c.args.place (place_of c.args.places.now) other) c.as_str.ensures.bytes) i
