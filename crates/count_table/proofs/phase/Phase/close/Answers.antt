use Rattle.std.proofs.Common.{ℕ, ◌+◌, ◌%◌, ◌^◌, ◌≡◌, cond, ltb, map, length, get_or, ap, ◌∙◌, sym, subst, List, arith, add-one, below_more, get_or-set_same, get_or-set_other}
use Rattle.std.proofs.lemmas.List.{ext_get_or}
use Rattle.std.specs.Slots.{slots_items}
use Rattle.count_table.specs.Views.{frame_of, times}
use Rattle.count_table.specs.Seats.{FrameState, PhaseId}
use Rattle.count_table.specs.Tallied.{totals_of}
use Rattle.count_table.proofs.Totals.{get_at}
use Rattle.count_table.proofs.Ending.{ends, draws_counted}
use Rattle.count_table.proofs.phase.Phase.close.Goals as goal

pub loop-b-preserved : goal.loop-b-preserved
loop-b-preserved g c =
    below_more _ _
    (λ k h. let ne : ¬ (k ≡ c.loop-b.b) = λ e. omega arith in get_or-set_other c.loop-b.into c.loop-b.b k c.word-in-loop-b.result 0 ne ∙ c.loop-b.invariant k h)
    (get_or-set_same c.loop-b.into c.loop-b.b c.word-in-loop-b.result 0 (omega arith)
    ∙ sym (get_at (slots_items c.close_with-closed.result.words) (c.loop-b.b + 1) c.word-in-loop-b.result c.word-in-loop-b.ensures))

pub returns-clause-counts : goal.returns-clause-counts
returns-clause-counts g c =
    let none_out = ap (λ (x : FrameState g.row.T.Denot). x.out) c.frame.view_is ∙ c.requires.left in
    let e = ends _ _ (frame_of c.frame.inside.seat.me.0) _ _ c.frame.invariant none_out c.close_with-closed.ensures.values.2 in
    let opening = ap (λ (x : FrameState g.row.T.Denot). x.opening) c.frame.view_is in
    let n : length (frame_of c.frame.inside.seat.me.0).opening ≡ c.args.self.buffers = ap (λ (x : FrameState g.row.T.Denot). x.phase.buffers) c.frame.view_is ∙ ap (λ (x : PhaseId g.row.T.Denot). x.buffers) c.requires.phase in
    ext_get_or 0 c.loop-b.into (frame_of c.frame.inside.seat.me.0).opening (c.loop-b.auto.into ∙ c.requires.room ∙ sym n)
    (λ i h. c.loop-b.invariant i (omega arith) ∙ ap (λ (k : ℕ). get_or (slots_items c.close_with-closed.result.words) k 0) (add-one i) ∙ e.counts i (let r = c.requires.room in omega arith))
    ∙ opening

pub returns-clause-tally : goal.returns-clause-tally
returns-clause-tally g c =
    let none_out = ap (λ (x : FrameState g.row.T.Denot). x.out) c.frame.view_is ∙ c.requires.left in
    let e = ends _ _ (frame_of c.frame.inside.seat.me.0) _ _ c.frame.invariant none_out c.close_with-closed.ensures.values.2 in
    let drawn = ap (λ (x : FrameState g.row.T.Denot). length x.drawn) c.frame.view_is in
    let chunks : length (frame_of c.frame.inside.seat.me.0).parts ≡ c.self.inside.chunks =
    ap (λ (x : FrameState g.row.T.Denot). length x.phase.parts) c.frame.view_is ∙ ap (λ (x : PhaseId g.row.T.Denot). length x.parts) c.requires.phase ∙ sym (ap (λ (x : PhaseId g.row.T.Denot). length x.parts) c.self.view_is) ∙ sym c.self.invariant.1 in
    let word = get_at (slots_items c.close_with-closed.result.words) 0 c.word.result c.word.ensures in
    let same = draws_counted _ _ c.word.result c.self.inside.chunks c.min.result e word chunks c.min.ensures ∙ drawn in
    ◌∙◌ {b = totals_of ((c.args.tally.now.phases + 1) % 2 ^ 64) ((c.args.tally.now.draws + c.min.result) % 2 ^ 64)} c.raise.ensures.raised
    (ap (λ (n : ℕ). totals_of ((c.args.tally.now.phases + 1) % 2 ^ 64) ((c.args.tally.now.draws + n) % 2 ^ 64)) same)

pub returns-clause-each_once : goal.returns-clause-each_once
returns-clause-each_once g c x =
    let none_out = ap (λ (x : FrameState g.row.T.Denot). x.out) c.frame.view_is ∙ c.requires.left in
    let e = ends _ _ (frame_of c.frame.inside.seat.me.0) _ _ c.frame.invariant none_out c.close_with-closed.ensures.values.2 in
    let drawn = ap (λ (y : FrameState g.row.T.Denot). y.drawn) c.frame.view_is in
    subst (λ (l : List (ℕ × ℕ)). times x (map (λ (p : ℕ × ℕ). p.0) l) ≡ cond (ltb x (length l)) 1 0) drawn (e.each_once x)

pub returns-clause-few : goal.returns-clause-few
returns-clause-few g c =
    let none_out = ap (λ (x : FrameState g.row.T.Denot). x.out) c.frame.view_is ∙ c.requires.left in
    let e = ends _ _ (frame_of c.frame.inside.seat.me.0) _ _ c.frame.invariant none_out c.close_with-closed.ensures.values.2 in
    let drawn = ap (λ (x : FrameState g.row.T.Denot). length x.drawn) c.frame.view_is in
    let chunks : length (frame_of c.frame.inside.seat.me.0).parts ≡ length c.args.self.parts = ap (λ (x : FrameState g.row.T.Denot). length x.phase.parts) c.frame.view_is ∙ ap (λ (x : PhaseId g.row.T.Denot). length x.parts) c.requires.phase in
    let few = e.few in
    omega arith

pub returns-clause-whole : goal.returns-clause-whole
returns-clause-whole g c some_ended =
    let none_out = ap (λ (x : FrameState g.row.T.Denot). x.out) c.frame.view_is ∙ c.requires.left in
    let e = ends _ _ (frame_of c.frame.inside.seat.me.0) _ _ c.frame.invariant none_out c.close_with-closed.ensures.values.2 in
    let ended = ap (λ (x : FrameState g.row.T.Denot). x.nones) c.frame.view_is in
    let drawn = ap (λ (x : FrameState g.row.T.Denot). length x.drawn) c.frame.view_is in
    let chunks : length (frame_of c.frame.inside.seat.me.0).parts ≡ length c.args.self.parts = ap (λ (x : FrameState g.row.T.Denot). length x.phase.parts) c.frame.view_is ∙ ap (λ (x : PhaseId g.row.T.Denot). length x.parts) c.requires.phase in
    sym drawn ∙ e.whole (omega arith) ∙ chunks
