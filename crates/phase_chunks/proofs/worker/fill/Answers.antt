use Rattle.std.proofs.Common.{◌≡◌, ℕ, ◌-◌, ◌*◌, length, take, ap, ◌∙◌, arith, rules}
use borrow.Rule.Slice.PartMut.{put_mid}
use Rattle.std.proofs.Math.Nat.{add-mul}
use Rattle.phase_team.proofs.Stored.{costs_both, part_written, room_left, rows_fit, stops_behind, stored_both}
use Rattle.phase_chunks.proofs.worker.fill.Goals as goal

pub fill_next-requires-clause-room : goal.fill_next-requires-clause-room
fill_next-requires-clause-room g c = λ κs outlives.
    let long : length c.loop-done.rows ≡ c.args.stretch.count * c.args.work.now.share.width = search rules in
    room_left c.loop-done.done c.args.stretch.count c.args.work.now.share.width c.loop-done.rows c.loop-done.invariant.most long

pub loop-done-preserved : goal.loop-done-preserved
loop-done-preserved g c =
    let cell = g.C.PhaseCells.cell c.args.work.now.cells.now in
    let cost = g.C.PhaseCells.cost c.args.work.now.cells.now in
    let spent = g.C.PhaseCells.spent c.args.work.now.cells.now in
    let i : ℕ = c.loop-done.done in
    let k : ℕ = c.in-Ok.more in
    let w : ℕ = c.args.work.now.share.width in
    let long : length c.loop-done.rows ≡ c.args.stretch.count * c.args.work.now.share.width = search rules in
    let next = c.in-Ok.ensures.stored in
    let len : length c.fill_next.new.rows ≡ (c.args.stretch.count - c.loop-done.done) * c.args.work.now.share.width = c.fill_next.auto.rows ∙ room_left i c.args.stretch.count w c.loop-done.rows c.loop-done.invariant.most long in
    let fits = rows_fit i c.args.stretch.count w c.loop-done.invariant.most in
    let written = part_written (i * w) (k * w) (length c.loop-done.rows - i * w) c.loop-done.rows c.fill_next.new.rows (omega arith) (let f = rows_fit k (c.args.stretch.count - i) w next.1 in omega arith) in
    record {
      most = omega (arith, next.1, c.loop-done.invariant.most);
      stored = stored_both cell c.args.stretch.start i k w (take (i * w) c.loop-done.rows) (take (k * w) c.fill_next.new.rows) _ c.loop-done.invariant.stored next.2
          (ap (λ (n : ℕ). take n (put_mid (i * w) (length c.loop-done.rows - i * w) c.loop-done.rows c.fill_next.new.rows)) (add-mul i k w) ∙ written);
      worker = c.fill_next.ensures.worker;
      spent = costs_both cost c.args.stretch.start i k (spent c.args.worker.now.context) (spent c.loop-done.worker.context) (spent c.fill_next.new.worker.context) c.loop-done.invariant.spent c.in-Ok.ensures.spent;
      seat = c.fill_next.ensures.seat ∙ c.loop-done.invariant.seat;
    }

pub returns-in-Err-clause-ran : goal.returns-in-Err-clause-ran
returns-in-Err-clause-ran g c =
    let cell = g.C.PhaseCells.cell c.args.work.now.cells.now in
    stops_behind cell c.args.stretch.start c.loop-done.done c.args.stretch.count c.args.work.now.share.width (take (c.loop-done.done * c.args.work.now.share.width) c.loop-done.rows) c.fill_next.new.rows (put_mid (c.loop-done.done * c.args.work.now.share.width) (length c.loop-done.rows - c.loop-done.done * c.args.work.now.share.width) c.loop-done.rows c.fill_next.new.rows) c.in-Err.stop c.loop-done.invariant.most c.loop-done.invariant.stored c.in-Err.ensures.stored
