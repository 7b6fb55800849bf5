use Rattle.std.proofs.Common.{◌≡◌, ◌⊎◌, [], map, length, refl, sym, subst, rules, All, List}
use Rattle.sac_base.specs.declared.base.Base.TheVariants.{Int}
use Rattle.sac_base.specs.declared.grid.Grid1.{Grid1}
use Rattle.core_ir.specs.Terms.{gens_of}
use Rattle.core_ir.specs.View.{gen_term}
use Rattle.core_loops.specs.Loops.{AllLiteral}
use Rattle.core_loops.specs.norm.Norm.{NameFirst}
use Rattle.fact_table.specs.Table.{facts_of}
use Rattle.generator_sets.specs.Counts.{IsCanonicalCount}
use Rattle.core_loops.specs.Loops.{frame_spans}
use Rattle.partable_loops.specs.Framings.{IsVoid}
use Rattle.partable_loops.proofs.Boxes.{is_dense}
use Rattle.partable_loops.proofs.Verdict.{plan_fits, refutes_count, refutes_plan}
use Rattle.partable_loops.proofs.planning.planned.Goals as goal

pub returns-in_err-framed : goal.returns-in_err-framed
returns-in_err-framed c =
    let k = facts_of c.args.table.now in
    let gens = gens_of (map gen_term c.args.gens.now) in
    let literal = subst (AllLiteral k gens) (sym c.deref.ensures.value) c.in_ok-bounds.ensures in
    let refused = refutes_plan k c.args.above c.args.op gens c.in_err-framed.field-0.0 c.deref.result.now literal c.in_err-framed.ensures in
    search rules

pub cut-requires-clause-dense : goal.cut-requires-clause-dense
cut-requires-clause-dense c =
    let known = c.in_ok-framed.ensures (record { line = 0; col = 0 }) Int in
    is_dense c.in_ok-framed.framed.frame (frame_spans c.args.op known.frames.planned) known.frames.spans

pub cut-requires-clause-ranks : goal.cut-requires-clause-ranks
cut-requires-clause-ranks c =
    let known = c.in_ok-framed.ensures (record { line = 0; col = 0 }) Int in
    let frame = c.in_ok-framed.framed.frame in
    subst (λ gs. All (λ (g : List Grid1). length g ≡ length frame) gs ⊎ IsVoid frame) (sym c.deref-2.ensures.value) known.frames.ranks

pub returns-in_err-parts : goal.returns-in_err-parts
returns-in_err-parts c =
    let k = facts_of c.args.table.now in
    let gens = gens_of (map gen_term c.args.gens.now) in
    let f = c.in_ok-framed.framed in
    let literal = subst (AllLiteral k gens) (sym c.deref.ensures.value) c.in_ok-bounds.ensures in
    let refused = refutes_count k c.args.above c.args.op gens c.in_err-parts.field-0.0 c.deref.result.now f literal c.in_ok-framed.ensures
    (λ greatest count counted. c.in_err-parts.ensures.due greatest count (subst (λ gs. IsCanonicalCount gs 0 f.frame greatest count) (sym c.deref-2.ensures.value) counted)) in
    search rules

pub returns : goal.returns
returns c s base =
    let k = facts_of c.args.table.now in
    let gens = gens_of (map gen_term c.args.gens.now) in
    let f = c.in_ok-framed.framed in
    let parts = c.in_ok-parts.parts.items in
    let literal = subst (AllLiteral k gens) (sym c.deref.ensures.value) c.in_ok-bounds.ensures in
    let room = c.has_room.ensures.0 c.if-not-has_room.false in
    plan_fits k c.args.above s base gens c.deref.result.now f parts literal
    (record {
      due = λ greatest count counted. c.in_ok-parts.ensures.due greatest count (subst (λ gs. IsCanonicalCount gs 0 f.frame greatest count) (sym c.deref-2.ensures.value) counted);
      splits = c.in_ok-parts.ensures.splits;
      few = c.in_ok-parts.ensures.few;
      same = subst (λ gs. All (λ (g : List Grid1). length g ≡ length f.frame) gs ⊎ (parts ≡ [])) c.deref-2.ensures.value c.in_ok-parts.ensures.same;
      first = subst (λ gs. NameFirst gs parts) c.deref-2.ensures.value c.in_ok-parts.ensures.first;
    })
    room.0 room.1 c.args.op (record { frame = f.frame; cell = f.cell; parts = c.needed.result }) (c.in_ok-framed.ensures s base) refl refl c.needed.ensures
