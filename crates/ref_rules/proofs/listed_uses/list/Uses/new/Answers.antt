use Rattle.std.proofs.Common.{ℕ, ◌+◌, ◌<◌, Vec, Global, length, take, ap, arith, subst, sym, ◌∙◌}
use lib.Seq.{take_all}
use Rattle.ref_rules.specs.listed_uses.Latest.{AreLast}
use Rattle.ref_rules.proofs.listed_uses.Recorded.{all_chained, chained_more, head_chained, head_more, one_longer, use_chained, use_more}
use Rattle.ref_rules.proofs.listed_uses.list.Uses.new.Goals as goal
use Rattle.ref_rules.proofs.listed_uses.list.Uses.new.Goals.{in-Use+in_ok-push-in-Use+in_ok-insert-in-Use, in-Section+in_ok-push-in-Section}

pub loop-place-preserved : goal.loop-place-preserved
loop-place-preserved c =
    let es = c.args.entries.items in
    let at = c.loop-place in
    let lt : at.place < length es = omega (arith, c.loop-place-test.true, c.len-place-end.ensures) in
    let d = c.index.result.now in
    elim c.match-index.branch [
      | in-Use+in_ok-push-in-Use+in_ok-insert-in-Use w ↦
          let here = sym c.index.ensures ∙ w.in-Use.is in
          let earlier = ap (λ (v : Vec ℕ Global). v.items) w.earlier-is ∙ w.in_ok-push-in-Use.ensures.items in
          record {
            known = subst (λ m. AreLast m (take (at.place + 1) es)) (sym w.last-is) (use_more at.last w.insert.new.self es at.place d w.in-Use.x at.invariant.known lt here w.in_ok-insert-in-Use.ensures.updates.0);
            chained = chained_more at.earlier.items c.match-index.earlier.items es at.place w.behind_last.result earlier at.invariant.size
                (use_chained at.last es at.place d w.in-Use.x w.behind_last.result at.invariant.known lt here w.behind_last.ensures) at.invariant.chained;
            size = one_longer at.earlier.items c.match-index.earlier.items at.place w.behind_last.result earlier at.invariant.size;
          }
      | in-Section+in_ok-push-in-Section w ↦
          let here = sym c.index.ensures ∙ w.in-Section.is in
          let earlier = ap (λ (v : Vec ℕ Global). v.items) w.earlier-is ∙ w.in_ok-push-in-Section.ensures.items in
          record {
            known = subst (λ m. AreLast m (take (at.place + 1) es)) (sym w.last-is) (head_more at.last es at.place d w.in-Section.field-0 at.invariant.known lt here);
            chained = chained_more at.earlier.items c.match-index.earlier.items es at.place 0 earlier at.invariant.size
                (head_chained es at.place d w.in-Section.field-0 0 lt here) at.invariant.chained;
            size = one_longer at.earlier.items c.match-index.earlier.items at.place 0 earlier at.invariant.size;
          }
    ]

pub invariant_of-result : goal.invariant_of-result
invariant_of-result c =
    let es = c.args.entries.items in
    let at = c.loop-place in
    (subst (AreLast at.last) (take_all at.place es (omega arith)) at.invariant.known, all_chained at.earlier.items es at.place (omega arith) at.invariant.chained)
