use Rattle.std.proofs.Common.{rules, ◌≡◌, ◌+◌, ◌%◌, ◌^◌, [], ◌∷◌, ◌++◌, map, refl, sym, subst, arith, None}
use Rattle.std.specs.Prelude.{count_by, is_some}
use Rattle.buffer_heap.specs.Places.{AreNumbered, held_of}
use Rattle.buffer_heap.specs.declared.heap.Place.{Place}
use Rattle.buffer_heap.specs.declared.heap.TheConstants.{NO_PLACE}
use Rattle.buffer_heap.proofs.Lives.{even_stored, even_pushed}
use Rattle.buffer_heap.proofs.Numbers.{stored_numbered, pushed_numbered}
use Rattle.buffer_heap.proofs.Places.{stored, stored_others}
use Rattle.buffer_heap.proofs.heap.Heap.store.Goals as goal

pub returns-then-index-eq0-clause-holds : goal.returns-then-index-eq0-clause-holds
returns-then-index-eq0-clause-holds c =
    let q : Place = record { born = c.self.inside.births; count = 1; cells = c.args.cells; out_len = None; next = NO_PLACE } in
    stored c.self.inside c.self.inside.vacant q (search rules)

pub returns-then-index-eq0-clause-others : goal.returns-then-index-eq0-clause-others
returns-then-index-eq0-clause-others c =
    let q : Place = record { born = c.self.inside.births; count = 1; cells = c.args.cells; out_len = None; next = NO_PLACE } in
    stored_others c.self.inside c.args.self.now c.self.inside.vacant q c.self.view_is

pub invariant_of-self : goal.invariant_of-self
invariant_of-self c =
    let q : Place = record { born = c.self.inside.births; count = 1; cells = c.args.cells; out_len = None; next = NO_PLACE } in (
      even_stored c.self.inside c.self.inside.vacant c.index.result.now q (search rules) c.index.ensures c.if-index-eq0.true (omega arith) c.self.invariant.0,
      stored_numbered c.self.inside c.self.inside.vacant q refl c.self.invariant.1,
    )

pub invariant_of-self-2 : goal.invariant_of-self-2
invariant_of-self-2 c =
    let q : Place = record { born = c.self.inside.births; count = 1; cells = c.args.cells; out_len = None; next = NO_PLACE } in
    let items : c.push.new.self.items ≡ c.self.inside.places.items ++ q ∷ [] = c.in_ok-push.ensures.items in (
      subst (λ ps. (c.self.inside.taken + 1) % 2 ^ 64 ≡ (c.self.inside.given + count_by is_some (map held_of ps)) % 2 ^ 64) (sym items) (even_pushed c.self.inside q (omega arith) c.self.invariant.0),
      subst (λ ps. AreNumbered (c.self.inside.births + 1) (map held_of ps)) (sym items) (pushed_numbered c.self.inside q refl c.self.invariant.1),
    )
