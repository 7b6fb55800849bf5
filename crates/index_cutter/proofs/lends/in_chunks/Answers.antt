use Rattle.std.proofs.Common.{◌≡◌, ◌*◌, ◌^◌, ◌<◌, length, ℕ, sym, ap, ◌∙◌, subst, arith}
use Rattle.std.specs.Mem.{type_size}
use Rattle.buffer_parts.specs.Spans.{IsCut, KeepPlaces, joined}
use Rattle.index_cutter.proofs.Chunking.{none_cut, none_back, many_back, start_back, side_back, long_back}
use Rattle.index_cutter.proofs.lends.in_chunks.Given.{Over}
use Rattle.index_cutter.proofs.lends.in_chunks.Goals as goal
use denote.Param.{param}
use denote.RattleType.{RattleType}

pub returns-then-count-eq0-clause-parts : goal.returns-then-count-eq0-clause-parts
returns-then-count-eq0-clause-parts g c =
    let R = param 0 g.row.T in let whole = c.args.whole in let room = c.args.room in let back = c.f-state.result.0 in
    let uncounted : c.args.count ≡ 0 = omega arith in
    let cut = none_cut R whole c.args.size c.args.count room.items c.requires.room.0 uncounted c.requires.enough in
    let kept = c.requires.returns room c.f-state.result cut c.f-state.ensures in
    (room, back, cut, c.f-state.ensures, none_back R whole c.args.size c.args.count room.items back.items c.requires.room.0 uncounted c.requires.enough kept)

module _ (g : Over) (c : goal.After-f-parts g) where
  abbrev R : RattleType
  R = param 0 g.row.T

  cut : IsCut R c.args.whole c.args.size c.args.count c.cut.result.items
  cut = record { side = c.cut.ensures.side; cells = c.cut.ensures.cells; lengths = c.cut.ensures.lengths }

  kept : KeepPlaces c.cut.result.items c.f-parts.result.0.items
  kept = c.requires.returns c.cut.result c.f-parts.result cut c.f-parts.ensures

  some : 0 < length c.f-parts.result.0.items
  some =
      let many = many_back R c.args.whole c.args.size c.args.count c.cut.result.items c.f-parts.result.0.items cut kept in
      let counted : 0 < c.args.count = omega arith in
      omega arith

  long : length (joined c.f-parts.result.0.items) ≡ length c.args.whole.cells
  long = long_back R c.args.whole c.args.size c.args.count c.cut.result.items c.f-parts.result.0.items cut kept

pub join_all-requires-clause-some : goal.join_all-requires-clause-some
join_all-requires-clause-some g c = some g c

pub join_all-requires-clause-side : goal.join_all-requires-clause-side
join_all-requires-clause-side g c =
    side_back (R g c) c.args.whole c.args.size c.args.count c.cut.result.items c.f-parts.result.0.items (cut g c) (kept g c) (some g c)

pub join_all-requires-clause-small : goal.join_all-requires-clause-small
join_all-requires-clause-small g c = subst (λ (n : ℕ). n * type_size (R g c) < 2 ^ 63) (sym (long g c)) c.requires.small

pub join_all-requires-clause-counted : goal.join_all-requires-clause-counted
join_all-requires-clause-counted g c = subst (λ (n : ℕ). n < 2 ^ 64) (sym (long g c)) c.requires.counted

pub returns-clause-place : goal.returns-clause-place
returns-clause-place g c =
    let T = param 0 g.row.T in let parts = c.cut.result.items in let back = c.f-parts.result.0.items in
    let whole_cut : IsCut T c.args.whole c.args.size c.args.count parts = record { side = c.cut.ensures.side; cells = c.cut.ensures.cells; lengths = c.cut.ensures.lengths } in
    let all_kept : KeepPlaces parts back = c.requires.returns c.cut.result c.f-parts.result whole_cut c.f-parts.ensures in
    let many = many_back T c.args.whole c.args.size c.args.count parts back whole_cut all_kept in
    let counted : 0 < c.args.count = omega arith in (
      c.join_all.ensures.0 ∙ start_back T c.args.whole c.args.size c.args.count parts back whole_cut all_kept (omega arith),
      ap length c.join_all.ensures.1 ∙ long_back T c.args.whole c.args.size c.args.count parts back whole_cut all_kept,
    )
