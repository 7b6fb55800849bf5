use Rattle.std.proofs.Common.{◌∙◌, List, length, map, sym, subst, ap}
use Rattle.std.specs.Prelude.{IfNone, IfSome, Option, Vec}
use Rattle.std.specs.declared.alloc.Global.{Global}
use Rattle.core_ir.specs.declared.tree.CorePart.{CorePart}
use Rattle.core_ir.specs.declared.tree.PartedLoop.{out-PartedLoop}
use Rattle.core_ir.specs.View.{let_term, part_term}
use Rattle.fact_table.specs.Table.{facts_of}
use Rattle.plain_facts.specs.Called.{shapes_of}
use Rattle.fold_walk.specs.Making.{AllMade, CannotTake, PieceVec, PiecesPlanned}
use Rattle.fold_walk.specs.Walking.{state_of}
use Rattle.fold_walk.proofs.Consumers.{consumer_made, no_loop, no_take, piece_lengths}
use Rattle.fold_walk.proofs.level.fold_into.Goals as goal

pub returns-in_default-clause-none : goal.returns-in_default-clause-none
returns-in_default-clause-none c =
    let given = c.args.given.now in
    no_loop (shapes_of given.called.now) given.function (facts_of c.args.table.now) (state_of c.args.folding.now) c.args.producer.now (let_term c.args.user.now) c.in_default.ensures.none

pub returns-in_default-2-clause-none : goal.returns-in_default-2-clause-none
returns-in_default-2-clause-none c =
    let given = c.args.given.now in
    let called = shapes_of given.called.now in
    let later = facts_of c.args.table.now in
    let p = c.args.producer.now in
    let op = (out-PartedLoop c.in-Some.parted.now).op in
    let h = subst (λ (o : Option (Vec PieceVec Global)). IfNone o (CannotTake called later p op (map part_term c.deref.result.now))) c.in_default-2.is c.in_ok-pieces.ensures.none in
    no_take called given.function later (state_of c.args.folding.now) p (let_term c.args.user.now) c.in-Some.consumer c.in-Some.parted.now c.in-Some.ensures.some
    (subst (λ (ps : List CorePart). CannotTake called later p op (map part_term ps)) c.deref.ensures.value h)

pub all_parts-requires : goal.all_parts-requires
all_parts-requires c =
    let given = c.args.given.now in
    let called = shapes_of given.called.now in
    let later = facts_of c.args.table.now in
    let p = c.args.producer.now in
    let op = (out-PartedLoop c.in-Some.parted.now).op in
    let h = subst (λ (o : Option (Vec PieceVec Global)). IfSome o (λ pieces. PiecesPlanned called later p op (map part_term c.deref.result.now) pieces.items)) c.in-Some-2.is c.in_ok-pieces.ensures.some in
    ap length (c.deref-2.ensures.value ∙ sym c.deref.ensures.value) ∙ piece_lengths called later p op c.deref.result.now c.in-Some-2.pieces.items h

pub returns-clause-some : goal.returns-clause-some
returns-clause-some c =
    let given = c.args.given.now in
    let called = shapes_of given.called.now in
    let later = facts_of c.args.table.now in
    let p = c.args.producer.now in
    let loop = c.in-Some.parted.now in
    let op = (out-PartedLoop loop).op in
    let h = subst (λ (o : Option (Vec PieceVec Global)). IfSome o (λ pieces. PiecesPlanned called later p op (map part_term c.deref.result.now) pieces.items)) c.in-Some-2.is c.in_ok-pieces.ensures.some in
    let planned = subst (λ (ps : List CorePart). PiecesPlanned called later p op (map part_term ps) c.in-Some-2.pieces.items) c.deref.ensures.value h in
    let made = subst (λ (ps : List CorePart). AllMade p.var (map part_term p.parts.now) (map part_term ps) c.in-Some-2.pieces.items c.args.folding.now.progress.next (map part_term c.in_ok-parts.parts.items) c.all_parts.new.progress.next)
    c.deref-2.ensures.value c.in_ok-parts.ensures in
    consumer_made called given.function later (state_of c.args.folding.now) p (let_term c.args.user.now) c.in-Some.consumer loop c.in-Some-2.pieces.items c.in_ok-parts.parts.items (state_of c.log.new.self) c.all_parts.new.progress.next
    (let_term c.in_ok-with_parts.field-0) c.in-Some.ensures.some c.if-folding-gt-ROOM.false planned made c.in_ok-log.ensures c.in_ok-with_parts.ensures
