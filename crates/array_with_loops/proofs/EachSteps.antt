-- One step of what each of a list gives.
use Rattle.std.proofs.Common.{◌≡◌, ℕ, suc, ◌+◌, ◌<◌, ◌≤◌, List, [], ◌∷◌, length, get_or, drop, map, refl, sym, ap, ◌∙◌, Ok, Err}
use Rattle.std.proofs.lemmas.List.{drop_more, drop_all}
use Rattle.sac_base.specs.declared.faults.Fault.{Fault}
use Rattle.sac_base.specs.Operators.{all_of, with_first}
use Rattle.sac_base.specs.Outcomes.{Ends, and_then}
use Rattle.sac_base.specs.WithLoops.{each}

each_at : {A B : Type 0} (f : A → Ends B) (xs : List A) (k : ℕ) (d : A) (r : Ends B) → k < length xs → f (get_or xs k d) ≡ r → each f (drop k xs) ≡ all_of (r ∷ map f (drop (k + 1) xs))
each_at f xs k d r h e = ap (each f) (drop_more xs k d h) ∙ ap (λ r. all_of (r ∷ map f (drop (k + 1) xs))) e

module _ {A B C : Type 0} (f : A → Ends B) (xs : List A) where
  -- an element has a value
  pub each_step : (k : ℕ) (d : A) (b : B) (next next' : List B → Ends C) (all : Ends C) → k < length xs → f (get_or xs k d) ≡ Ok b → ((rest : List B) → next (b ∷ rest) ≡ next' rest) → and_then (each f (drop k xs)) next ≡ all → and_then (each f (drop (k + 1) xs)) next' ≡ all
  each_step k d b next next' all h e same inv =
      by (each f (drop (k + 1) xs)) ∙ ap (λ m. and_then m next) (sym (each_at f xs k d (Ok b) h e)) ∙ inv
    where
      by : (m : Ends (List B)) → and_then m next' ≡ and_then (with_first b m) next
      by (Ok rest) = sym (same rest)
      by (Err fault) = refl

  -- or a fault
  pub each_fault : (k : ℕ) (d : A) (fault : Fault) (next : List B → Ends C) (all : Ends C) → k < length xs → f (get_or xs k d) ≡ Err fault → and_then (each f (drop k xs)) next ≡ all → all ≡ Err fault
  each_fault k d fault next all h e inv = sym inv ∙ ap (λ m. and_then m next) (each_at f xs k d (Err fault) h e)

  pub each_end : (k : ℕ) (next : List B → Ends C) (all : Ends C) → length xs ≤ k → and_then (each f (drop k xs)) next ≡ all → all ≡ next []
  each_end k next all h inv = sym inv ∙ ap (λ ys. and_then (each f ys) next) (drop_all k xs h)

with_first_length : {B : Type 0} (b : B) (m : Ends (List B)) (bs : List B) (n : ℕ) → ((cs : List B) → m ≡ Ok cs → length cs ≡ n) → with_first b m ≡ Ok bs → length bs ≡ suc n
with_first_length b (Err fault) bs n inner e = cc
with_first_length b (Ok cs) [] n inner e = cc
with_first_length b (Ok cs) (c ∷ bs) n inner e = let same : cs ≡ bs = cc in ap suc (ap length (sym same) ∙ inner cs refl)

cons_length : {B : Type 0} (r : Ends B) (rs : List (Ends B)) (bs : List B) (n : ℕ) → ((cs : List B) → all_of rs ≡ Ok cs → length cs ≡ n) → all_of (r ∷ rs) ≡ Ok bs → length bs ≡ suc n
cons_length (Err fault) rs bs n inner e = cc
cons_length (Ok b) rs bs n inner e = with_first_length b (all_of rs) bs n inner e

-- as many values as elements
pub each_length : {A B : Type 0} (f : A → Ends B) (xs : List A) (bs : List B) → each f xs ≡ Ok bs → length bs ≡ length xs
each_length f [] [] e = refl
each_length f [] (b ∷ bs) e = cc
each_length f (x ∷ xs) bs e = cons_length (f x) (map f xs) bs (length xs) (λ cs h. each_length f xs cs h) e
