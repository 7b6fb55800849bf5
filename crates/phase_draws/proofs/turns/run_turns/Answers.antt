use Rattle.std.proofs.Common.{◌≡◌, ℕ, ◌*◌, Bool, List, [], ◌∷◌, ◌++◌, map, length, true, false, Result, IfOk, sym, ap, subst, ◌∙◌, arith}
use Rattle.sac_base.specs.declared.stop.Stop.{Stop}
use Rattle.std.specs.Prelude.{is_ok}
use Rattle.std.proofs.lemmas.List.{length-map, map_push, length_push}
use Rattle.phase_chunks.specs.Chunks.{cells_of, count_of, IsMore, ChunkReport}
use Rattle.phase_chunks.specs.Seats.{IsFresh}
use Rattle.phase_draws.specs.Crews.{drawn_by, IsGoing}
use Rattle.phase_draws.specs.Reports.{AllOk, AreCombined, AreDone, CostOf, IsReport}
use Rattle.phase_team.specs.Segments.{Costs}
use Rattle.count_table.proofs.Bounds.{bound, bound_under, bound_push}
use Rattle.phase_draws.proofs.Reported.{combined_if, costs_if, done_push, handed_report, is_ok_true, not_ok, ok_front, ok_last, report_is}
use Rattle.phase_draws.proofs.turns.run_turns.Goals as goal
use Rattle.phase_draws.proofs.turns.run_turns.Goals.{then-going, else-going}

pub run_drawn-report-requires-clause-within : goal.run_drawn-report-requires-clause-within
run_drawn-report-requires-clause-within g c κs within = (c.requires.suits.parts c.in-Some.drawn.chunk c.in-Some.drawn.part c.in-Some.ensures.part).0

pub push_reserved-requires : goal.push_reserved-requires
push_reserved-requires g c =
    let reports : c.if-going.member.reports ≡ c.loop-drawn.member.reports = elim c.if-going.branch [ then-going w ↦ ap (λ m. m.reports) w.member-is | else-going w ↦ ap (λ m. m.reports) w.member-is ] in
    let len = ap (λ v. v.len) reports in
    let cap = ap (λ v. v.cap) reports in
    let i = c.loop-drawn.invariant in
    let b = bound_under (drawn_by c.loop-drawn.member.worker.seat) c.in-Some.drawn.chunk c.in-Some.ensures.later in
    let n = ap (λ (l : List ℕ). length l) i.drawn in
    let m = length-map c.loop-drawn.member.reports.items (λ (r : ChunkReport). r.chunk) in
    let lt = c.in-Some.ensures.within in
    let k = c.loop-drawn.member.reports.ok in
    let room = i.room in
    let few = i.few in
    omega arith

pub loop-drawn-smaller : goal.loop-drawn-smaller
loop-drawn-smaller g c =
    let same : c.if-going.member.worker.seat ≡ c.draw_next.new.seat = elim c.if-going.branch [ then-going w ↦ ap (λ m. m.worker.seat) w.member-is ∙ w.run_drawn-report.ensures.seat | else-going w ↦ ap (λ m. m.worker.seat) w.member-is ] in
    let list : drawn_by c.if-going.member.worker.seat ≡ drawn_by c.loop-drawn.member.worker.seat ++ c.in-Some.drawn.chunk ∷ [] = ap drawn_by same ∙ c.in-Some.ensures.drawn in
    let b = bound_under (drawn_by c.loop-drawn.member.worker.seat) c.in-Some.drawn.chunk c.in-Some.ensures.later in
    let p = ap bound list ∙ bound_push (drawn_by c.loop-drawn.member.worker.seat) c.in-Some.drawn.chunk b in
    let lt = c.in-Some.ensures.within in
    omega arith

pub loop-drawn-preserved : goal.loop-drawn-preserved
loop-drawn-preserved g c =
    let i = c.loop-drawn.invariant in
    let cell = g.C.PhaseCells.cell c.args.team.now.work.cells.now in
    let cost = g.C.PhaseCells.cost c.args.team.now.work.cells.now in
    let spent = g.C.PhaseCells.spent c.args.team.now.work.cells.now in
    let first = spent c.args.member.now.worker.context in
    let share = c.args.team.now.work.share in
    let parts = c.args.team.now.work.table.now.parts in
    let rs : List ChunkReport = c.loop-drawn.member.reports.items in
    let r : ChunkReport = c.if-going.report in
    let chunk : ℕ = c.in-Some.drawn.chunk in
    let reports : c.if-going.member.reports ≡ c.loop-drawn.member.reports = elim c.if-going.branch [ then-going w ↦ ap (λ m. m.reports) w.member-is | else-going w ↦ ap (λ m. m.reports) w.member-is ] in
    let cap = ap (λ v. v.cap) reports in
    let items : c.push_reserved.new.self.items ≡ rs ++ r ∷ [] = c.push_reserved.ensures.items ∙ ap (λ v. v.items ++ r ∷ []) reports in
    let same : c.if-going.member.worker.seat ≡ c.draw_next.new.seat = elim c.if-going.branch [ then-going w ↦ ap (λ m. m.worker.seat) w.member-is ∙ w.run_drawn-report.ensures.seat | else-going w ↦ ap (λ m. m.worker.seat) w.member-is ] in
    let list : drawn_by c.if-going.member.worker.seat ≡ drawn_by c.loop-drawn.member.worker.seat ++ chunk ∷ [] = ap drawn_by same ∙ c.in-Some.ensures.drawn in
    let own : r.chunk ≡ chunk = elim c.if-going.branch [ then-going w ↦ ap (λ (x : ChunkReport). x.chunk) w.report-is ∙ w.run_drawn-report.ensures.chunk | else-going w ↦ ap (λ (x : ChunkReport). x.chunk) w.report-is ∙ w.handed_back-report.ensures.0 ] in
    let fits = (c.requires.suits.parts chunk c.in-Some.drawn.part c.in-Some.ensures.part).1 in
    let one : IsReport cell share parts r = elim c.if-going.branch [
      | then-going w ↦ subst (λ (x : ChunkReport). IsReport cell share parts x) (sym w.report-is)
          (report_is cell share parts w.run_drawn-report.result chunk c.in-Some.drawn.part w.run_drawn-report.ensures.chunk c.in-Some.ensures.part w.run_drawn-report.ensures.done)
      | else-going w ↦ subst (λ (x : ChunkReport). IsReport cell share parts x) (sym w.report-is)
          (handed_report cell share parts w.handed_back-report.result chunk (count_of share chunk * share.width) c.in-Some.drawn.part w.handed_back-report.ensures.0 w.handed_back-report.ensures.1 w.handed_back-report.ensures.2 c.in-Some.ensures.part fits)
    ] in
    let b = bound_under (drawn_by c.loop-drawn.member.worker.seat) chunk c.in-Some.ensures.later in
    let p = ap bound list ∙ bound_push (drawn_by c.loop-drawn.member.worker.seat) chunk b in
    let lt = c.in-Some.ensures.within in
    let few = i.few in
    let n = ap (λ (l : List ℕ). length l) list ∙ length_push (drawn_by c.loop-drawn.member.worker.seat) chunk in
    record {
      fresh = subst (λ s. IsFresh c.args.team.now.work.table.now s) (sym same) c.in-Some.ensures.fresh;
      more = subst (λ s. IsGoing false s) (sym same) c.in-Some.ensures.going;
      done = subst (λ (l : List ChunkReport). AreDone cell share parts l) (sym items) (done_push cell share parts rs r i.done one);
      drawn = ap (λ (l : List ChunkReport). map (λ (x : ChunkReport). x.chunk) l) items ∙ map_push (λ (x : ChunkReport). x.chunk) rs r ∙ (λ j. i.drawn j ++ own j ∷ []) ∙ sym list;
      worker = elim c.if-going.branch [
        | then-going w ↦ subst (λ x. g.C.PhaseCells.idle c.args.team.now.work.cells.now x) (ap (λ m. m.worker.context) (sym w.member-is)) w.run_drawn-report.ensures.worker
        | else-going w ↦ subst (λ x. g.C.PhaseCells.idle c.args.team.now.work.cells.now x) (ap (λ m. m.worker.context) (sym w.member-is)) i.worker
      ];
      told = λ all.
          let every : AllOk (rs ++ r ∷ []) = subst AllOk items all in
          let before = i.told (ok_front rs r every) in
          subst (λ (l : List ChunkReport). CostOf cost share l first (spent c.if-going.member.worker.context) × AreCombined cell share l c.if-going.held c.if-going.rows) (sym items) (elim c.if-going.branch [
            | then-going w ↦
                let end = ap (λ (x : ChunkReport). x.end) (sym w.report-is) in
                let costs = subst (λ (e : Result Bool Stop). IfOk e (λ held. Costs cost (chunk * share.size) (count_of share chunk) (spent c.loop-drawn.member.worker.context) (spent w.run_drawn-report.new.worker.context))) end w.run_drawn-report.ensures.spent in
                let more = subst (λ (e : Result Bool Stop). IfOk e (λ held. IsMore share.job share.width (cells_of cell share chunk) c.loop-drawn.held c.loop-drawn.rows w.run_drawn-report.new.held w.run_drawn-report.new.rows)) end w.run_drawn-report.ensures.combined in (
                  costs_if cost share rs r chunk first (spent c.loop-drawn.member.worker.context) (spent c.if-going.member.worker.context) own (ok_last rs r every) before.0
                      (subst (λ x. IfOk r.end (λ held. Costs cost (chunk * share.size) (count_of share chunk) (spent c.loop-drawn.member.worker.context) (spent x))) (ap (λ m. m.worker.context) (sym w.member-is)) costs),
                  combined_if cell share c.requires.suits.suits.takes rs r chunk c.loop-drawn.held c.if-going.held c.loop-drawn.rows c.if-going.rows own (ok_last rs r every) before.1
                      (subst (λ x. IfOk r.end (λ held. IsMore share.job share.width (cells_of cell share chunk) c.loop-drawn.held c.loop-drawn.rows x c.if-going.rows)) (sym w.held-is)
                      (subst (λ x. IfOk r.end (λ held. IsMore share.job share.width (cells_of cell share chunk) c.loop-drawn.held c.loop-drawn.rows w.run_drawn-report.new.held x)) (sym w.rows-is) more)),
                )
            | else-going w ↦ absurd (not_ok r.end (ap (λ (x : ChunkReport). x.end) w.report-is ∙ w.handed_back-report.ensures.2) (ok_last rs r every))
          ]);
      few = omega arith;
      within = omega arith;
      room = let k = i.room in let q = c.push_reserved.ensures.capacity in omega arith;
      stopped = λ e all.
          let every : AllOk (rs ++ r ∷ []) = subst AllOk items all in
          let holds : is_ok r.end ≡ true = is_ok_true r.end (ok_last rs r every) in
          let said : c.is_ok-going.result ≡ true = c.is_ok-going.ensures.value ∙ holds in
          let clash : false ≡ true = sym e ∙ said in
          absurd (cc);
    }

pub run_drawn-report-requires-clause-suits : goal.run_drawn-report-requires-clause-suits
run_drawn-report-requires-clause-suits g c κs within = c.requires.suits.suits
