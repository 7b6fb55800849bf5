use Rattle.std.proofs.Common.{◌≡◌, ℕ, ◌<◌, length, Some}
use Rattle.std.specs.Prelude.{slice_get}
use Rattle.specialise.specs.Orders.{numbers}
use Rattle.specialise.proofs.order.places_in.Given as goal

abbrev pub invariant-loop-k : goal.invariant-loop-k
invariant-loop-k l = record {
  long : length l.places.items ≡ length l.keys;
  stand : (i n : ℕ) → i < l.k → slice_get (numbers l.keys) i ≡ Some n → n < length l.keys → (place : ℕ) × ((slice_get l.places.items n ≡ Some place) × (slice_get (numbers l.keys) place ≡ Some n));
}
