-- A list that grows by what each element of another gives.
use Rattle.std.proofs.Common.{◌≡◌, ℕ, suc, ◌+◌, ◌<◌, ◌≤◌, sym, ap, ◌∙◌, List, [], ◌∷◌, ◌++◌, length, drop, get_or, append_assoc, add-one, drop-cons}
use Rattle.std.specs.Prelude.{map}
use Rattle.std.specs.List.{flat_map}
use Rattle.std.proofs.lemmas.List.{drop_all, append-nil}

next_is : {X : Type 0} (xs : List X) (i : ℕ) (x : X) → x ≡ get_or xs i x → i < length xs → drop i xs ≡ x ∷ drop (i + 1) xs
next_is xs i x is low = drop-cons xs i x low ∙ ap (λ h. h ∷ drop (suc i) xs) (sym is) ∙ ap (λ n. x ∷ drop n xs) (sym (add-one i))

pub grown : {X A : Type 0} (f : X → List A) (xs : List X) (whole done next : List A) (i : ℕ) (x : X) → x ≡ get_or xs i x → i < length xs → next ≡ done ++ f x
    → done ++ flat_map f (drop i xs) ≡ whole → next ++ flat_map f (drop (i + 1) xs) ≡ whole
grown f xs whole done next i x is low e before =
    ap (λ l. l ++ flat_map f (drop (i + 1) xs)) e ∙ append_assoc done (f x) (flat_map f (drop (i + 1) xs))
    ∙ ap (λ l. done ++ flat_map f l) (sym (next_is xs i x is low)) ∙ before

pub all_grown : {X A : Type 0} (f : X → List A) (xs : List X) (whole done : List A) (i : ℕ) → length xs ≤ i → done ++ flat_map f (drop i xs) ≡ whole → done ≡ whole
all_grown f xs whole done i past e = sym (append-nil done) ∙ ap (λ l. done ++ flat_map f l) (sym (drop_all i xs past)) ∙ e

pub grown_map : {X A : Type 0} (f : X → A) (xs : List X) (whole done next : List A) (i : ℕ) (x : X) → x ≡ get_or xs i x → i < length xs → next ≡ done ++ f x ∷ []
    → done ++ map f (drop i xs) ≡ whole → next ++ map f (drop (i + 1) xs) ≡ whole
grown_map f xs whole done next i x is low e before =
    ap (λ l. l ++ map f (drop (i + 1) xs)) e ∙ append_assoc done (f x ∷ []) (map f (drop (i + 1) xs))
    ∙ ap (λ l. done ++ map f l) (sym (next_is xs i x is low)) ∙ before

pub all_mapped : {X A : Type 0} (f : X → A) (xs : List X) (whole done : List A) (i : ℕ) → length xs ≤ i → done ++ map f (drop i xs) ≡ whole → done ≡ whole
all_mapped f xs whole done i past e = sym (append-nil done) ∙ ap (λ l. done ++ map f l) (sym (drop_all i xs past)) ∙ e
