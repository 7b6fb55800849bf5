use Rattle.std.specs.Prelude.{option_to_list}
use Rattle.std.proofs.lemmas.Result.{on_ok_weaker}
use Rattle.removal_rules.specs.Uses.{used_of}
use Rattle.removal_rules.proofs.Sets.{after_all}
use Rattle.removal_rules.proofs.used.add_head.Goals as goal

pub returns : goal.returns
returns c =
    on_ok_weaker c.add_option-4.result
    (λ p. after_all (option_to_list c.args.lower) (option_to_list c.args.upper) (option_to_list c.args.step) (option_to_list c.args.width) (used_of c.args.used.now) _ _ _ _ c.in_ok-add_option.ensures c.in_ok-add_option-2.ensures c.in_ok-add_option-3.ensures p)
    c.add_option-4.ensures
