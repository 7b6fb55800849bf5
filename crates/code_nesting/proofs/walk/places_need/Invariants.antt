use Rattle.std.proofs.Common.{ℕ, ◌≤◌, drop}
use Rattle.counted_code.specs.View.{code_program}
use Rattle.code_nesting.specs.Needs.{PlacesNeed}
use Rattle.code_nesting.proofs.walk.places_need.Given as goal

abbrev pub invariant-loop-place : goal.invariant-loop-place
invariant-loop-place l =
    (most : ℕ) → l.greatest ≤ most → PlacesNeed (code_program l.code) l.below l.here (drop l.place-index l.places) most
    → PlacesNeed (code_program l.code) l.below l.here l.places most
