use Rattle.std.proofs.Common.{rules, ◌≡◌, ℤ, List, [], ◌∷◌, ◌++◌, sym, subst}
use Rattle.buffer_parts.specs.Spans.{Span, KeepPlaces}
use Rattle.buffer_parts.proofs.Sides.{kept_same, kept_last}
use Rattle.call_tests.proofs.cutter.write_last.Goals.{in-Some, in_default}
use Rattle.call_tests.proofs.cutter.write_last.Goals as goal

pub returns : goal.returns
returns c =
    elim c.match-pop.branch [
      | in-Some w ↦
          let Parts = List (Span ℤ) in let before : Parts = c.args.parts.items in let after : Parts = c.match-pop.parts.items in
          let xs : Parts = c.pop.new.self.items in let z : Span ℤ = w.in-Some.last in let y : Span ℤ = w.with_first_written.result in
          let was : before ≡ xs ++ z ∷ [] = search rules in let is : after ≡ xs ++ y ∷ [] = search rules in
          subst (λ (l : Parts). KeepPlaces before l) (sym is) (subst (λ (l : Parts). KeepPlaces l (xs ++ y ∷ [])) (sym was) (kept_last z y w.with_first_written.ensures xs))
      | in_default w ↦
          let Parts = List (Span ℤ) in let before : Parts = c.args.parts.items in let after : Parts = c.match-pop.parts.items in
          let same : after ≡ before = search rules in subst (λ (l : Parts). KeepPlaces before l) (sym same) (kept_same before)
    ]
