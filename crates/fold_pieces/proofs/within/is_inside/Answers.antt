use Rattle.std.proofs.Common.{◌≡◌, true, false, sym, subst, refl, ◌∙◌}
use Rattle.std.specs.List.{All}
use Rattle.std.proofs.lemmas.List.{take_all}
use Rattle.std.proofs.lemmas.List.Elements.{All-more, All-map}
use Rattle.grid_spans.specs.moved.Within.{IsWithin}
use Rattle.fold_pieces.proofs.Insides.{IsIn, Here, here_in, here_out, at_place}
use Rattle.fold_pieces.proofs.within.is_inside.Goals as goal

pub loop-offset-preserved : goal.loop-offset-preserved
loop-offset-preserved c =
    let f = c.args.frame.now in
    let g = c.args.grid.now in
    let x = c.offset-item.result in
    let within = subst (λ by. IsWithin g by f) c.deref.ensures.value (c.is_within.ensures.0 c.if-not-is_within.false) in
    All-more (IsIn f g) c.args.offsets.now c.loop-offset.offset-index x c.loop-offset-test.true c.loop-offset.invariant (subst (IsIn f g) c.offset-item.is (here_in f g x within))

pub returns-then-not-is_within : goal.returns-then-not-is_within
returns-then-not-is_within c =
    let f = c.args.frame.now in
    let g = c.args.grid.now in
    let x = c.offset-item.result in (
      λ t. absurd (let e : false ≡ true = t in cc),
      λ all.
          let at = at_place f g c.args.offsets.now c.loop-offset.offset-index x all c.loop-offset-test.true c.offset-item.is in
          let e : true ≡ false = sym (c.is_within.ensures.1 (subst (λ by. IsWithin g by f) (sym c.deref.ensures.value) (here_out f g x at))) ∙ c.if-not-is_within.true in
          absurd (cc),
    )

pub returns : goal.returns
returns c =
    let f = c.args.frame.now in
    let g = c.args.grid.now in (
      λ t.
          All-map (Here f g) (λ v. v.items) c.args.offsets.now
          (subst (All (IsIn f g)) (take_all c.loop-offset.offset-index c.args.offsets.now c.loop-offset-test.false) c.loop-offset.invariant),
      λ all. refl,
    )
