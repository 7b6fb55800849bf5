use Rattle.std.proofs.Common.{◌+◌, ◌++◌, ◌∙◌, ap, sym, subst, map}
use Rattle.std.specs.Prelude.{Vec, option_to_list}
use Rattle.std.specs.declared.alloc.Global.{Global}
use Rattle.core_ir.specs.declared.tree.CorePart.{CorePart}
use Rattle.core_ir.specs.View.{part_term}
use Rattle.parted_bodies.specs.declared.names.Progress.{Progress}
use Rattle.fold_walk.proofs.Gathering.{MadeGoing, made_first, made_turn, made_stop, made_end, none_left}
use Rattle.fold_walk.proofs.making.all_parts.Goals.{in-Some+in_ok-new+in_ok-append, in_default}
use Rattle.fold_walk.proofs.making.all_parts.Goals as goal

pub loop-part-init : goal.loop-part-init
loop-part-init c =
    let p = c.args.producer.now in
    let sources = map part_term p.parts.now in
    subst (λ zs. MadeGoing p.var sources c.args.parts.now c.args.pieces.items c.args.progress.now.next (map part_term c.new-all.result.items) 0 zs c.args.progress.now.next) (sym c.into_iter-pieces.ensures.rest)
    (made_first p.var sources c.args.parts.now c.args.pieces.items c.args.progress.now.next c.new-all.result.items c.new-all.ensures.items c.requires)

pub loop-part-preserved : goal.loop-part-preserved
loop-part-preserved c =
    let p = c.args.producer.now in
    let sources = map part_term p.parts.now in
    let parts = c.args.parts.now in
    let i = c.loop-part.part-index in
    let start = c.args.progress.now.next in
    let old = c.loop-part.pieces.rest in
    let rest = c.next.new.self.rest.items in
    elim c.match-next.branch [
      | in-Some+in_ok-new+in_ok-append w ↦
          subst (λ (q : Progress). MadeGoing p.var sources parts c.args.pieces.items start (map part_term c.match-next.all.items) (i + 1) rest q.next) (sym w.progress-is)
          (subst (λ (v : Vec CorePart Global). MadeGoing p.var sources parts c.args.pieces.items start (map part_term v.items) (i + 1) rest w.folded_pieces.new.progress.next) (sym w.all-is)
          (made_turn p.var sources parts c.args.pieces.items start c.loop-part.all.items w.append.new.self.items w.in_ok-new.new.items i c.part-item.result old.items rest w.in-Some.of_part c.loop-part.progress.next w.folded_pieces.new.progress.next
          c.loop-part-test.true c.part-item.is (c.next.ensures.items ∙ ap (λ o. option_to_list o ++ rest) w.in-Some.is) w.in_ok-append.ensures.items w.in_ok-new.ensures c.loop-part.invariant))
      | in_default w ↦
          made_stop p.var sources parts c.args.pieces.items start (map part_term c.loop-part.all.items) i old.items c.loop-part.progress.next c.loop-part-test.true
          (none_left old.len old.items w.in_default.ensures.cases.0 old.ok.0) c.loop-part.invariant
    ]

pub returns : goal.returns
returns c =
    let p = c.args.producer.now in
    made_end p.var (map part_term p.parts.now) c.args.parts.now c.args.pieces.items c.args.progress.now.next (map part_term c.loop-part.all.items) c.loop-part.part-index c.loop-part.pieces.rest.items c.loop-part.progress.next
    c.loop-part-test.false c.loop-part.invariant
