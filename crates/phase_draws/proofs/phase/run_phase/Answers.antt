use Rattle.std.proofs.Common.{◌≡◌, ℕ, ◌+◌, ◌*◌, ◌<◌, ◌≤◌, List, length, refl, sym, ap, subst, ◌∙◌, arith, vec_len, vec_capacity}
use Rattle.chunk_reports.specs.Orders.{counting}
use Rattle.phase_chunks.specs.Chunks.{ChunkPart, ChunkReport}
use Rattle.phase_draws.specs.Reports.{AreDone, Grew, HasRowsFor, PartsFit}
use Rattle.phase_draws.proofs.Orderly.{done_sorted}
use Rattle.phase_draws.proofs.Phases.{filled, many, once, once_many, told_sorted}
use Rattle.phase_draws.proofs.Teams.{places_opened}
use Rattle.phase_draws.proofs.phase.run_phase.Goals as goal

pub run_team-held-requires-clause-suits : goal.run_team-held-requires-clause-suits
run_team-held-requires-clause-suits g c = λ κs outlives.
    let own = c.requires.suits in
    record {
      suits = record {
        shared_is = c.in-Ok-open_parts.ensures.opened.0 ∙ own.shared_is;
        width_is = own.width_is;
        size = own.size;
        few = own.few;
        within = own.within;
        takes = own.takes;
        held = own.held;
      };
      parts = subst (λ (l : List ChunkPart). PartsFit c.args.share l) (sym c.in-Ok-open_parts.ensures.parts) c.requires.parts;
    }

pub run_team-held-requires-clause-places : goal.run_team-held-requires-clause-places
run_team-held-requires-clause-places g c = λ κs outlives.
    let room = c.requires.rooms.2 in
    let most = c.requires.rooms.1 in
    let slots : List ChunkPart = c.args.begun.slots.items in
    places_opened (g.C.PhaseCells.cell c.args.phase.now.cells.now) c.args.share c.in-Ok-open_parts.opened.0 _ (vec_len c.args.begun.rooms.others + 1) slots _
    c.in-Ok-open_parts.ensures.opened.1 c.in-Ok-open_parts.ensures.parts refl (let e = room.count in omega arith) room.others room.empty
    (subst (λ (k : ℕ). k * length slots ≤ vec_capacity c.args.begun.rooms.reports) (sym room.count) room.all)

pub run_team-held-requires-clause-room : goal.run_team-held-requires-clause-room
run_team-held-requires-clause-room g c = λ κs outlives.
    let room = c.requires.rooms.2 in
    (room.mine, subst (λ (l : List ChunkPart). length l ≤ vec_capacity c.args.begun.rooms.mine) (sym c.in-Ok-open_parts.ensures.parts) room.own)

pub run_team-held-requires-clause-rows : goal.run_team-held-requires-clause-rows
run_team-held-requires-clause-rows g c = λ κs outlives.
    subst (λ (k : ℕ). HasRowsFor c.args.share.job c.args.share.width k (length c.args.rows.now)) (sym c.requires.rooms.2.count) c.requires.rooms.3

pub put_in_order-requires : goal.put_in_order-requires
put_in_order-requires g c =
    let rs : List ChunkReport = c.run_team-held.new.roster.reports.items in
    let frame = c.run_team-held.new.roster.frame in
    let are = c.run_team-held.ensures.back.frames in
    record { once = once_many rs (length frame.drawn) (length rs) (once rs frame are c.close.ensures.each_once) (sym (many rs frame (length frame.drawn) are refl)) }

pub returns-clause-ended : goal.returns-clause-ended
returns-clause-ended g c =
    let all = c.args.phase.now.cells.now in
    let cell = g.C.PhaseCells.cell all in
    let cost = g.C.PhaseCells.cost all in
    let kept = g.C.PhaseCells.kept all in
    let share = c.args.share in
    let slots : List ChunkPart = c.args.begun.slots.items in
    let rs : List ChunkReport = c.run_team-held.new.roster.reports.items in
    let qs : List ChunkReport = c.put_in_order.new.reports.items in
    let frame = c.run_team-held.new.roster.frame in
    let are = c.run_team-held.ensures.back.frames in
    let parts : c.in-Ok-open_parts.opened.0.parts ≡ slots = c.in-Ok-open_parts.ensures.parts in
    let some : 0 < frame.nones = (let e = c.run_team-held.ensures.frame.ended in omega arith) in
    let whole : length frame.drawn ≡ length slots = c.close.ensures.whole some ∙ ap (λ (l : List ChunkPart). length l) parts in
    let each = once_many rs (length frame.drawn) (length slots) (once rs frame are c.close.ensures.each_once) whole in
    let grew = subst (λ (l : List ChunkReport). Grew cell cost share l rs (kept c.args.home.now) (kept c.run_team-held.new.home) c.run_team-held.new.rows c.run_team-held.result) c.requires.rooms.2.empty c.run_team-held.ensures.grew in
    record {
      order = c.put_in_order.ensures.order ∙ ap (counting 0) (many rs frame (length slots) are whole);
      done = done_sorted cell share slots rs qs c.put_in_order.ensures.same (subst (λ (l : List ChunkPart). AreDone cell share l rs) parts c.run_team-held.ensures.back.done);
      told = told_sorted cell cost share c.requires.suits.takes (length slots) rs qs (kept c.args.home.now) (kept c.run_team-held.new.home) c.run_team-held.new.rows c.run_team-held.result
          grew c.put_in_order.ensures.same each (filled share slots c.requires.parts) c.requires.covers;
    }
