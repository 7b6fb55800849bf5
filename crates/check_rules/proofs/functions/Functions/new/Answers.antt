use Rattle.std.proofs.Common.{rules, ◌≤◌, ◌<◌, sym, ap, ◌∙◌, length}
use Rattle.check_rules.specs.Accepted.{is_named}
use Rattle.check_rules.specs.Tables.{place_of}
use Rattle.check_rules.specs.Groups.{first_place, last_place, with_first, with_last}
use Rattle.sac_ast.specs.declared.Function.{Function}
use Rattle.check_rules.proofs.Positions.{first_noted, last_noted, all_functions}
use Rattle.check_rules.proofs.functions.Functions.new.Goals as goal

pub loop-k-preserved : goal.loop-k-preserved
loop-k-preserved c =
    let below : c.loop-k.k < length c.args.all.now = search rules in
    record {
      first = first_noted c.args.all.now c.loop-k.k c.index-all-k.result (place_of c.loop-k.firsts) (place_of c.note_first.new.places) below c.index-all-k.is (c.in_ok-note_first.ensures ∙ ap (λ (f : Function). with_first f.name c.loop-k.k (place_of c.loop-k.firsts)) (sym c.index-all-k.is)) c.loop-k.invariant.first;
      last = last_noted c.args.all.now c.loop-k.k c.index-all-k-in-loop-k.result (place_of c.loop-k.lasts) (place_of c.note_last.new.places) below c.index-all-k-in-loop-k.is (c.in_ok-note_last.ensures ∙ ap (λ (f : Function). with_last f.name c.loop-k.k (place_of c.loop-k.lasts)) (sym c.index-all-k-in-loop-k.is)) c.loop-k.invariant.last;
    }

pub invariant_of-result : goal.invariant_of-result
invariant_of-result c =
    let past : length c.args.all.now ≤ c.loop-k.k = search rules in
    record {
      first = λ name. c.loop-k.invariant.first name ∙ ap (first_place (is_named name)) (all_functions c.args.all.now c.loop-k.k past);
      last = λ name. c.loop-k.invariant.last name ∙ ap (last_place (is_named name)) (all_functions c.args.all.now c.loop-k.k past);
    }
