use Rattle.ref_counts.proofs.Placed.{results_done}
use Rattle.ref_counts.proofs.place.place_results.Goals as goal

pub returns : goal.returns
returns c es sound left =
    results_done c.push_keeps.result es c.args.from c.args.results.now c.new-dead.result.items c.take_unused.new.out.items c.deref.result.now c.new-live.result.items c.add_vars.new.out.items c.deref-2.result.now
    c.in_ok-more.more.items c.deref-3.result.now c.args.owned c.in_ok-left.left c.args.steps.now.items c.push_releases.new.steps.items c.push_keeps.new.steps.items sound left
    c.new-dead.ensures.items (c.in_ok-left.ensures es) c.deref.ensures.value c.in_ok-push_releases.ensures
    c.new-live.ensures.items c.in_ok-add_vars.ensures c.deref-2.ensures.value c.in_ok-more.ensures c.deref-3.ensures.value c.push_keeps.ensures
