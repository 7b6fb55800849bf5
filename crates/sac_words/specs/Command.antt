-- The command that reads the words: a file, a flag, and options that take one text each.
use Rattle.std.specs.Prelude.{codes, true, Some, List, [], ◌∷◌, fold}
use Rattle.clap.specs.Words.{App, Rule, Text, new_app, new_rule, with_rule}
use Rattle.clap.specs.declared.builder.action.ArgAction.TheVariants.{SetTrue}

abbrev pub required : Text → Rule
required name = record (new_rule name) { required = true }

abbrev pub choice : Text → Rule
choice name = record (new_rule name) { long = Some name }

abbrev pub flag : Text → Rule
flag name = record (new_rule name) { long = Some name; action = Some SetTrue }

abbrev pub sac_rules : List Rule
sac_rules =
    required (codes "FILE") ∷ choice (codes "input") ∷ choice (codes "workers") ∷ choice (codes "chunk") ∷ choice (codes "turns")
    ∷ choice (codes "depth") ∷ choice (codes "mode") ∷ flag (codes "report") ∷ choice (codes "gen") ∷ []

unfoldable pub sac_command : App
sac_command = fold with_rule (new_app (codes "sac")) sac_rules
