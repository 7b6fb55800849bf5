use Rattle.std.proofs.Common.{ap, sym, ◌∙◌, Some}
use Rattle.std.proofs.lemmas.Map.Text.{hash_map_updates_str}
use Rattle.check_rules.specs.Tables.{place_of}
use Rattle.check_rules.specs.Groups.{with_first}
use Rattle.check_rules.proofs.Places.{first_new, none_copied}
use Rattle.check_rules.proofs.functions.note_first.Goals as goal

pub returns-in_ok-insert : goal.returns-in_ok-insert
returns-in_ok-insert c = λ i other.
    (hash_map_updates_str c.as_str-text.result.now c.args.places.now c.insert.new.self (Some c.args.place) c.in_ok-insert.ensures.updates other
    ∙ first_new (place_of c.args.places.now) c.as_str-text.result.now c.args.place (sym c.get.ensures.value ∙ none_copied c.get.result c.if-is_none.ensures) other
    ∙ ap (λ text. with_first text c.args.place (place_of c.args.places.now) other) c.as_str-text.ensures.bytes) i
