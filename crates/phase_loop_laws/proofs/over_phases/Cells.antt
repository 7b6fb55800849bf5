-- One cell that stands alone, in a heap whose numbers may be any.
use Rattle.std.proofs.Common.{◌≡◌, ℕ, ◌+◌, List, [], ◌∷◌, ℤ, Option, Ok, Err, ap, subst, arith}
use Rattle.sac_base.specs.declared.form.Form.{Form}
use Rattle.sac_base.specs.Arrays.{ArrayValue}
use Rattle.sac_base.specs.Operators.{all_of}
use Rattle.sac_base.specs.Outcomes.{Ends}
use Rattle.counted_code.specs.Loops.{Source, Inside, cell_does}
use Rattle.counted_code.specs.Values.{Heap, Ended, Done, Failed, give, go_on}
use Rattle.phase_loop_laws.specs.Ordered.{StandsAlone}
use Rattle.phase_loop_laws.proofs.Cells.{EndsAs, cells_end}

none_more : (n : ℕ) → n + 0 ≡ n
none_more n = omega arith

-- the only cell of a run
only_cell : (n : ℕ) (k : Heap) (m : Ended (Option ArrayValue)) (c : Ends (Option ArrayValue)) → EndsAs n k (go_on m (λ d l. go_on (Done [] l) (λ ds. give (d ∷ ds)))) (all_of (c ∷ [])) → EndsAs n k m c
only_cell n k (Done d l) (Ok c) r = (ap (first_or d) r.0, r.1)
  where
    first_or : Option ArrayValue → List (Option ArrayValue) → Option ArrayValue
    first_or x [] = x
    first_or x (y ∷ ys) = y
only_cell n k (Failed f q) (Err g) r = r
only_cell n k (Done d l) (Err g) r = elim r [ ]
only_cell n k (Failed f q) (Ok c) r = elim r [ ]

pub one_cell : (k : Heap) (form : Form) (source : List ℤ → Option Source) (cell : List ℤ → Ends (Option ArrayValue)) (takes : List ℤ → ℕ) → StandsAlone k form source cell takes → (w : List ℤ) → EndsAs (takes w) k (cell_does form (source w) k) (cell w)
one_cell k form source cell takes stands w =
    only_cell (takes w) k (cell_does form (source w) k) (cell w)
    (subst (λ n. EndsAs n k (go_on (cell_does form (source w) k) (λ d l. go_on (Done [] l) (λ ds. give (d ∷ ds)))) (all_of (cell w ∷ []))) (none_more (takes w))
    (cells_end k form source cell takes stands Inside tt 0 (w ∷ [])))
