use Rattle.std.proofs.Common.{◌≡◌, ◌∙◌, ap, length, rules, arith}
use Rattle.std.proofs.lemmas.List.{length-map}
use Rattle.std.proofs.lemmas.Option.{slice_get_within}
use Rattle.specialise.specs.declared.order.Key.{Key}
use Rattle.specialise.specs.Orders.{numbers}
use Rattle.specialise.proofs.Steps.{place_turn, number_at, set_long}
use Rattle.specialise.proofs.order.places_in.Goals as goal

pub loop-k-preserved : goal.loop-k-preserved
loop-k-preserved c =
    let keys = c.args.keys.now in
    let v = c.loop-k.invariant in
    let same : c.in_ok-place.place ≡ c.loop-k.k = search rules in
    record {
      long = ap length c.note_place.ensures ∙ set_long c.loop-k.places.items _ _ ∙ v.long;
      stand = place_turn keys c.loop-k.places.items c.note_place.new.places.items c.loop-k.k _ c.in_ok-place.place v.long (number_at keys c.loop-k.k (record { source = 0; number = 0 }) c.loop-k-test.true) same c.note_place.ensures v.stand;
    }

pub returns : goal.returns
returns c = λ i n e lt.
    let long = length-map c.args.keys.now (λ (k : Key). k.number) in
    c.loop-k.invariant.stand i n (omega (arith, slice_get_within (numbers c.args.keys.now) i n e, long, c.loop-k-test.false)) e (omega (arith, lt, long))
