use Rattle.std.proofs.Common.{◌≡◌, ℕ, ◌-◌, ◌<◌, length, refl, ap, subst, ◌∙◌, arith, vec_len}
use Rattle.std.proofs.lemmas.Bool.Decides.{nat_tests}
use Rattle.phase_chunks.specs.Chunks.{HasThreeRows}
use Rattle.phase_draws.specs.Reports.{HasRowsFor}
use Rattle.phase_draws.specs.Crews.{AreRooms}
use Rattle.phase_draws.proofs.Teams.{back_here, back_nobody, back_settled, grew_both, grew_lost, grew_none, grew_team, places_popped, places_seated, room_for, room_last, rows_apart, rows_within, rows_of_both, run_of}
use Rattle.phase_draws.proofs.crew.+crew.Goals as goal

-- ---- a team

pub run_team-run_first-end-requires-clause-places : goal.run_team-run_first-end-requires-clause-places
run_team-run_first-end-requires-clause-places g t c κs within =
    let work = c.args.team.now.work in
    places_seated (g.C.PhaseCells.cell work.cells.now) work.share work.table.now c.args.roster.now c.seat-seat.new.frame c.requires.places c.seat-seat.ensures.frame

pub run_team-run_first-end-requires-clause-begins : goal.run_team-run_first-end-requires-clause-begins
run_team-run_first-end-requires-clause-begins g t c κs within =
    let is = c.seat-seat.ensures.seat in
    record {
      fresh = record { phase = ap (λ s. s.phase) is; holds = ap (λ s. s.holds) is };
      going = ap (λ s. s.ended) is;
      undrawn = ap (λ s. s.drawn) is;
      empty = c.requires.room.0;
      room = c.requires.room.1;
    }

pub run_team-settle_member-requires-clause-room : goal.run_team-settle_member-requires-clause-room
run_team-settle_member-requires-clause-room g t c κs within =
    let work = c.args.team.now.work in
    room_for (g.C.PhaseCells.cell work.cells.now) work.share work.table.now (vec_len c.args.roster.now.rooms) _ c.args.roster.now c.run_first-end.new.roster
    (length c.run_first-end.new.member.reports.items) refl c.requires.places c.run_first-end.ensures.back c.run_first-end.ensures.through.few

pub run_team-returns-in-Ok-clause-back : goal.run_team-returns-in-Ok-clause-back
run_team-returns-in-Ok-clause-back g t c =
    let work = c.args.team.now.work in
    let mine = c.run_first-end.ensures.through in
    back_settled (g.C.PhaseCells.cell work.cells.now) work.share work.table.now (vec_len c.args.roster.now.rooms) _ c.args.roster.now c.run_first-end.new.roster c.settle_member.new.roster
    c.run_first-end.new.member.reports refl c.run_first-end.ensures.back mine.done mine.few c.settle_member.ensures.reports c.settle_member.ensures.capacity c.settle_member.ensures.frames

pub run_team-returns-in-Err-clause-back : goal.run_team-returns-in-Err-clause-back
run_team-returns-in-Err-clause-back g t c =
    let work = c.args.team.now.work in
    let mine = c.run_first-end.ensures.through in
    back_settled (g.C.PhaseCells.cell work.cells.now) work.share work.table.now (vec_len c.args.roster.now.rooms) _ c.args.roster.now c.run_first-end.new.roster c.settle_member.new.roster
    c.run_first-end.new.member.reports refl c.run_first-end.ensures.back mine.done mine.few c.settle_member.ensures.reports c.settle_member.ensures.capacity c.settle_member.ensures.frames

pub run_team-returns-in-Ok-clause-grew : goal.run_team-returns-in-Ok-clause-grew
run_team-returns-in-Ok-clause-grew g t c =
    let work = c.args.team.now.work in
    let kept = g.C.PhaseCells.kept work.cells.now in
    let spent = g.C.PhaseCells.spent work.cells.now in
    grew_team (g.C.PhaseCells.cell work.cells.now) (g.C.PhaseCells.cost work.cells.now) work.share
    c.run_first-end.new.member.reports.items c.args.roster.now.reports.items c.run_first-end.new.roster.reports.items c.settle_member.new.roster.reports.items
    (kept c.args.home.now) (kept c.run_first-end.new.home) (kept c.settle_member.new.home) (spent c.args.context) (spent c.run_first-end.new.member.worker.context)
    c.run_first-end.new.rows c.run_first-end.result c.run_first-end.result
    c.run_first-end.ensures.grew c.settle_member.ensures.reports c.requires.unspent refl c.in-Ok.ensures.kept

pub run_team-settle_member-requires-clause-phase : goal.run_team-settle_member-requires-clause-phase
run_team-settle_member-requires-clause-phase g t c κs within =
    c.run_first-end.ensures.frame.phase ∙ ap (λ f. f.phase) c.seat-seat.ensures.frame ∙ c.requires.places.phase

pub run_team-returns-in-Ok-clause-frame : goal.run_team-returns-in-Ok-clause-frame
run_team-returns-in-Ok-clause-frame g t c =
    run_of c.args.roster.now.frame c.seat-seat.new.frame c.run_first-end.new.roster.frame c.settle_member.new.roster.frame
    c.seat-seat.ensures.frame c.run_first-end.ensures.frame c.settle_member.ensures.frame

pub run_team-returns-in-Err-clause-frame : goal.run_team-returns-in-Err-clause-frame
run_team-returns-in-Err-clause-frame g t c =
    run_of c.args.roster.now.frame c.seat-seat.new.frame c.run_first-end.new.roster.frame c.settle_member.new.roster.frame
    c.seat-seat.ensures.frame c.run_first-end.ensures.frame c.settle_member.ensures.frame

pub run_team-returns-in-Err-clause-grew : goal.run_team-returns-in-Err-clause-grew
run_team-returns-in-Err-clause-grew g t c =
    let work = c.args.team.now.work in
    let kept = g.C.PhaseCells.kept work.cells.now in
    let spent = g.C.PhaseCells.spent work.cells.now in
    grew_lost (g.C.PhaseCells.cell work.cells.now) (g.C.PhaseCells.cost work.cells.now) work.share
    c.run_first-end.new.member.reports.items c.args.roster.now.reports.items c.run_first-end.new.roster.reports.items c.settle_member.new.roster.reports.items
    (kept c.args.home.now) (kept c.run_first-end.new.home) (spent c.args.context) (spent c.run_first-end.new.member.worker.context)
    c.run_first-end.new.rows c.run_first-end.result c.run_first-end.ensures.grew c.settle_member.ensures.reports

-- ---- the others

pub run_others-run_team-requires-clause-places : goal.run_others-run_team-requires-clause-places
run_others-run_team-requires-clause-places g t c κs within =
    let work = c.args.team.now.work in
    places_popped (g.C.PhaseCells.cell work.cells.now) work.share work.table.now c.args.roster.now c.pop.new.self c.in-Some.room c.requires.places c.in-Some.ensures.items

pub run_others-run_team-requires-clause-room : goal.run_others-run_team-requires-clause-room
run_others-run_team-requires-clause-room g t c κs within =
    let n : ℕ = length c.args.team.now.work.table.now.parts in
    let last = room_last n c.pop.new.self.items c.in-Some.room (subst (λ l. AreRooms n l) c.in-Some.ensures.items c.requires.places.rooms) in
    (last.1, last.2)

pub run_others-returns-in_default-clause-grew : goal.run_others-returns-in_default-clause-grew
run_others-returns-in_default-clause-grew g t c =
    let work = c.args.team.now.work in
    grew_none (g.C.PhaseCells.cell work.cells.now) (g.C.PhaseCells.cost work.cells.now) work.share c.args.roster.now.reports.items (g.C.PhaseCells.kept work.cells.now c.args.home.now) c.args.rows.now

pub run_others-returns-in_default-clause-back : goal.run_others-returns-in_default-clause-back
run_others-returns-in_default-clause-back g t c =
    let work = c.args.team.now.work in
    back_nobody (g.C.PhaseCells.cell work.cells.now) work.share work.table.now c.args.roster.now c.pop.new.self (vec_len c.args.roster.now.rooms) c.requires.places

pub run_others-returns-in_default-clause-frame : goal.run_others-returns-in_default-clause-frame
run_others-returns-in_default-clause-frame g t c = back_here c.args.roster.now.frame

-- ---- the first worker

pub run_first-split_at_mut-own-requires : goal.run_first-split_at_mut-own-requires
run_first-split_at_mut-own-requires g t c =
    let share = c.args.team.now.work.share in
    let bound = rows_within share.job share.width (vec_len c.args.roster.now.rooms) (length c.args.rows.now) c.requires.rows in
    let is = c.own_room.ensures bound.0 (let le = bound.2 in omega arith) bound.1 in
    let few = is.1 in let le = bound.2 in omega arith

pub run_first-side_by_side-held-requires-clause-own : goal.run_first-side_by_side-held-requires-clause-own
run_first-side_by_side-held-requires-clause-own g t c κs within =
    let share = c.args.team.now.work.share in
    let bound = rows_within share.job share.width (vec_len c.args.roster.now.rooms) (length c.args.rows.now) c.requires.rows in
    let is = c.own_room.ensures bound.0 (let le = bound.2 in omega arith) bound.1 in
    let same : c.own_room.result ≡ length c.split_at_mut-own.result.0.now = omega arith in
    subst (λ (n : ℕ). HasThreeRows share.job share.width n) same is.0

pub run_first-side_by_side-held-requires-clause-rest : goal.run_first-side_by_side-held-requires-clause-rest
run_first-side_by_side-held-requires-clause-rest g t c κs within =
    let share = c.args.team.now.work.share in
    let bound = rows_within share.job share.width (vec_len c.args.roster.now.rooms) (length c.args.rows.now) c.requires.rows in
    let is = c.own_room.ensures bound.0 (let le = bound.2 in omega arith) bound.1 in
    let same : length c.args.rows.now - c.own_room.result ≡ length c.split_at_mut-own.result.1.now = omega arith in
    subst (λ (n : ℕ). HasRowsFor share.job share.width (vec_len c.args.roster.now.rooms) n) same
    (rows_apart share.job share.width (vec_len c.args.roster.now.rooms) (length c.args.rows.now) c.own_room.result c.requires.rows is.0)

pub run_first-merge_rows-requires : goal.run_first-merge_rows-requires
run_first-merge_rows-requires g t c =
    let share = c.args.team.now.work.share in
    let bound = rows_within share.job share.width (vec_len c.args.roster.now.rooms) (length c.args.rows.now) c.requires.rows in
    let is = c.own_room.ensures bound.0 (let le = bound.2 in omega arith) bound.1 in
    let some : 0 < vec_len c.args.roster.now.rooms = grind (arith, nat_tests, c.is_empty.ensures, c.if-is_empty.false) in
    let mine : c.own_room.result ≡ length c.side_by_side-held.new.own = omega arith in
    let others : length c.args.rows.now - c.own_room.result ≡ length c.side_by_side-held.new.rest = omega arith in
    rows_of_both share.job share.width (vec_len c.args.roster.now.rooms) (length c.side_by_side-held.new.own) (length c.side_by_side-held.new.rest) some
    (subst (λ (n : ℕ). HasThreeRows share.job share.width n) mine is.0)
    (subst (λ (n : ℕ). HasRowsFor share.job share.width (vec_len c.args.roster.now.rooms) n) others
    (rows_apart share.job share.width (vec_len c.args.roster.now.rooms) (length c.args.rows.now) c.own_room.result c.requires.rows is.0))

pub run_first-returns-clause-grew : goal.run_first-returns-clause-grew
run_first-returns-clause-grew g t c =
    let work = c.args.team.now.work in
    let share = work.share in
    let kept = g.C.PhaseCells.kept work.cells.now in
    let spent = g.C.PhaseCells.spent work.cells.now in
    let bound = rows_within share.job share.width (vec_len c.args.roster.now.rooms) (length c.args.rows.now) c.requires.rows in
    let is = c.own_room.ensures bound.0 (let le = bound.2 in omega arith) bound.1 in
    let some : 0 < vec_len c.args.roster.now.rooms = grind (arith, nat_tests, c.is_empty.ensures, c.if-is_empty.false) in
    let mine : c.own_room.result ≡ length c.side_by_side-held.new.own = omega arith in
    let others : length c.args.rows.now - c.own_room.result ≡ length c.side_by_side-held.new.rest = omega arith in
    let rows = rows_of_both share.job share.width (vec_len c.args.roster.now.rooms) (length c.side_by_side-held.new.own) (length c.side_by_side-held.new.rest) some
    (subst (λ (n : ℕ). HasThreeRows share.job share.width n) mine is.0)
    (subst (λ (n : ℕ). HasRowsFor share.job share.width (vec_len c.args.roster.now.rooms) n) others
    (rows_apart share.job share.width (vec_len c.args.roster.now.rooms) (length c.args.rows.now) c.own_room.result c.requires.rows is.0)) in
    grew_both (g.C.PhaseCells.cell work.cells.now) (g.C.PhaseCells.cost work.cells.now) share c.requires.suits.suits.takes
    c.side_by_side-held.new.member.reports.items c.args.roster.now.reports.items c.side_by_side-held.new.roster.reports.items
    (kept c.args.home.now) (kept c.side_by_side-held.new.home) (spent c.args.member.now.worker.context) (spent c.side_by_side-held.new.member.worker.context)
    c.side_by_side-held.new.own c.side_by_side-held.new.rest c.merge_rows.new.own c.side_by_side-held.result.0 c.in_ok-more.field-0 c.merge_rows.result c.side_by_side-held.result.1
    rows c.merge_rows.ensures c.in_ok-more.was c.side_by_side-held.ensures.told c.side_by_side-held.ensures.grew
