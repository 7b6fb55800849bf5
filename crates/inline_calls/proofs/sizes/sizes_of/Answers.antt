use Rattle.std.proofs.Common.{◌≡◌, Some, subst, sym, arith}
use Rattle.std.specs.Prelude.{slice_get}
use Rattle.core_ir.specs.View.{core_term, fun_term}
use Rattle.inline_calls.proofs.Instances.{mapped_at, read_at}
use Rattle.inline_calls.proofs.Sizing.{size_pushed}
use Rattle.inline_calls.proofs.sizes.sizes_of.Goals as goal

pub loop-k-preserved : goal.loop-k-preserved
loop-k-preserved c =
    let items = c.args.core.now.functions.items in
    let v = c.loop-k.invariant in
    let f = c.index.result.now in
    let at = mapped_at fun_term items c.loop-k.k f (read_at items c.loop-k.k f (omega (arith, c.loop-k-test.true, c.len-k-end.ensures)) c.index.ensures) in
    record {
      sized = size_pushed (core_term c.args.core.now) c.loop-k.sizes.items c.push.new.self.items (fun_term f) c.size_of.result v.sized
          (subst (λ n. slice_get (core_term c.args.core.now).functions n ≡ Some (fun_term f)) (sym v.count) at) c.size_of.ensures c.in_ok-push.ensures.items;
      count = omega (arith, c.in_ok-push.ensures.len, v.count);
    }
