use Rattle.std.proofs.Common.{ap, refl, pos, replicate}
use Rattle.std.proofs.lemmas.List.{length-replicate}
use Rattle.buffer_heap.specs.Heaps.{Out}
use Rattle.counted_code.specs.Loops.{Fresh}
use Rattle.run_store.proofs.Wholes.{own_number, own_taken}
use Rattle.run_store.proofs.Placing.{others_claimed}
use Rattle.run_store.proofs.target.claim_buffer.Goals as goal

pub returns-clause-others : goal.returns-clause-others
returns-clause-others c b x is =
    others_claimed c.args.heap.now.own c.claim.new.self c.in_ok-id.id.place c.in_ok-id.ensures.vacant c.in_ok-id.ensures.others b x is

pub returns-clause-claimed : goal.returns-clause-claimed
returns-clause-claimed c m stands =
    let id = c.in_ok-id.id in
    let s = c.args.heap.now in
    let k = c.claim.new.self in
    let zs = replicate c.args.len (pos 0) in
    let has = length-replicate c.args.len (pos 0) in
    let claim = c.in_ok-id.ensures in
    record {
      target = ap Fresh (own_number s k m id.place id.born zs (Out c.args.len) has claim.holds claim.others claim.number.0 stands);
      rest = refl;
      heap = own_taken s k m id.place id.born zs (Out c.args.len) has claim.holds claim.others claim.number.0 stands
          claim.number.1 claim.counters.0 claim.counters.1 claim.counters.2;
    }
