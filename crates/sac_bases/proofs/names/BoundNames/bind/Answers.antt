use Rattle.std.proofs.Common.{◌<◌, ◌≤◌, ◌+◌, arith, sym, ap, ◌∙◌}
use Rattle.check_rules.specs.Tables.{entered}
use Rattle.sac_bases.specs.Tables.{first_binding}
use Rattle.sac_bases.proofs.Firsts.{first_kept, items_grow}
use Rattle.sac_bases.proofs.names.BoundNames.bind.Goals as goal

pub invariant_of-self-in-Break-branch-3 : goal.invariant_of-self-in-Break-branch-3
invariant_of-self-in-Break-branch-3 c = record {
  first = λ name.
      ap (λ f. f name) c.in_err-enter.ensures.unchanged
      ∙ c.args.self.now.first name
      ∙ ap (λ bindings. first_binding bindings name) (sym c.reserve.ensures.items);
}

pub invariant_of-self-2 : goal.invariant_of-self-2
invariant_of-self-2 c =
    let known = c.args.self.now in
    let done = c.push.ensures.succeeds (omega (arith, c.in_ok-reserve.ensures.ok)) in
    let more = items_grow known.all.items c.reserve.new.self.items c.push.new.self.items (record { name = c.in_ok-copy_name.field-0; base = c.args.base }) _ done c.reserve.ensures.items c.push.ensures.items in
    record {
      first = first_kept known.all.items c.push.new.self.items c.args.name.now c.in_ok-copy_name.field-0 c.args.base (entered known.bases) (entered c.enter.new.bases)
          c.in_ok-enter.ensures.entered known.first c.in_ok-copy_name.ensures more;
    }
