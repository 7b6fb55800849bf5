use Rattle.std.proofs.Common.{◌≡◌, ◌≢◌, ◌<◌, length, refl, arith}
use Rattle.std.specs.Prelude.{slice_index}
use Rattle.std.proofs.lemmas.List.{get_or_read}
use Rattle.wl_core.proofs.Moves.{releases, times_few, count_some}
use Rattle.wl_core.proofs.events.release.Goals as goal

pub overflow_sub-index_mut : goal.overflow_sub-index_mut
overflow_sub-index_mut c =
    let u = c.args.setup.now in
    let b = c.args.state.now in
    let w = c.args.worker in
    let d = c.args.buffer in
    let worker : w < u.workers = c.if-worker-setup.false in
    let buffer : d < length u.counts.items = let l = c.requires.sized.counts in let n = c.if-b-len.false in let e = c.len.ensures in let o = b.counts.ok.0 in omega arith in
    let few = times_few u b c.requires w d worker buffer in
    let held : c.index_mut.result.now ≡ slice_index b.held.items w = get_or_read b.held.items w c.index_mut.result.now (let l = c.requires.sized.held in omega arith) c.index_mut.ensures.value 0 in
    let some : c.times-times.result ≢ 0 = c.if-times-eq0.false in
    let is = c.times-times.ensures in omega arith

pub overflow_sub-index_mut-2 : goal.overflow_sub-index_mut-2
overflow_sub-index_mut-2 c =
    let u = c.args.setup.now in
    let b = c.args.state.now in
    let w = c.args.worker in
    let d = c.args.buffer in
    let worker : w < u.workers = c.if-worker-setup.false in
    let buffer : d < length u.counts.items = let l = c.requires.sized.counts in let n = c.if-b-len.false in let e = c.len.ensures in let o = b.counts.ok.0 in omega arith in
    let some = count_some u b c.requires w d worker buffer in
    let is : c.index_mut-2.result.now ≡ slice_index b.counts.items d = get_or_read b.counts.items d c.index_mut-2.result.now (let l = c.requires.sized.counts in omega arith) c.index_mut-2.ensures.value 0 in
    omega arith

pub returns : goal.returns
returns c =
    let u = c.args.setup.now in
    let b = c.args.state.now in
    let w = c.args.worker in
    let d = c.args.buffer in
    let worker : w < u.workers = c.if-worker-setup.false in
    let buffer : d < length u.counts.items = let l = c.requires.sized.counts in let n = c.if-b-len.false in let e = c.len.ensures in let o = b.counts.ok.0 in omega arith in
    let held : c.index_mut.result.now ≡ slice_index b.held.items w = get_or_read b.held.items w c.index_mut.result.now (let l = c.requires.sized.held in omega arith) c.index_mut.ensures.value 0 in
    let count : c.index_mut-2.result.now ≡ slice_index b.counts.items d = get_or_read b.counts.items d c.index_mut-2.result.now (let l = c.requires.sized.counts in omega arith) c.index_mut-2.ensures.value 0 in
    releases u b c.requires w d c.times-times.result c.index_mut.result.now c.index_mut-2.result.now c.set.new.self _ _ worker buffer c.if-times-eq0.false held c.times-times.ensures count c.set.ensures refl refl
