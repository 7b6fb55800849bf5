use Rattle.std.proofs.Common.{◌≡◌, take}
use Rattle.check_rules.specs.Groups.{first_place}
use Rattle.sac_base.specs.declared.name.Name.{Name}
use Rattle.sac_ast.specs.View.{functions}
use Rattle.check_rules.specs.Accepted.{is_named}
use Rattle.check_rules.specs.Tables.{place_of}
use Rattle.check_rules.specs.Groups.{last_place}
use Rattle.check_rules.proofs.functions.Functions.new.Given as goal

abbrev pub invariant-loop-k : goal.invariant-loop-k
invariant-loop-k l = record {
  first : (name : Name) → place_of l.firsts name ≡ first_place (is_named name) (functions (take l.k l.all));
  last : (name : Name) → place_of l.lasts name ≡ last_place (is_named name) (functions (take l.k l.all));
}
