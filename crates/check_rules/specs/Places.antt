-- Where a phrase stands, as the rules of acceptance see it.
use Rattle.std.specs.Prelude.{take}
use Rattle.sac_ast.specs.View.{functions}
use Rattle.check_rules.specs.Accepted as accepted
use Rattle.check_rules.specs.declared.calls.Place.{Place}
use Rattle.check_rules.specs.Tables.{has}

abbrev pub place : Place → accepted.Place
place p = record {
  functions = functions p.functions.now.all.now;
  before = functions (take p.at p.functions.now.all.now);
  inline = p.inline;
  listed = has p.listed;
}
