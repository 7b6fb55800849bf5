-- The places of functions, group by group.
use Rattle.std.proofs.Common.{◌≡◌, ℕ, suc, ◌<◌, List, [], ◌∷◌, ◌++◌, map, length, get_or, set, replicate, Bool, true, false, refl, ap, sym, ◌∙◌, Bor, arith}
use Rattle.std.specs.Prelude.{bytes_eq, if◌then◌else◌}
use Rattle.std.specs.List.{IsDistinct, AllByRecursion}
use Rattle.std.proofs.lemmas.List.{get_or-map, length-map, map-set}
use Rattle.std.proofs.lemmas.Slice.Eq.{bytes_eq-Decides}
use Rattle.sac_base.specs.declared.name.Name.{Name}
use Rattle.sac_ast.specs.Tree.{FunctionTree}
use Rattle.core_lowering.specs.Programs.{place_in, places_of}
use Rattle.core_scopes.specs.Looks.{texts}
use Rattle.single_assign.specs.Functions.{with_place}

-- each group, and behind it the places of its name in the functions that are left
abbrev pub joined : List FunctionTree → ℕ → List Name → List (List ℕ) → List (List ℕ)
joined fs k [] groups = []
joined fs k (y ∷ names) [] = []
joined fs k (y ∷ names) (g ∷ groups) = (g ++ places_of y k fs) ∷ joined fs k names groups

-- before the first function
pub joined_first : (fs : List FunctionTree) (names : List Name) → joined fs 0 names (replicate (length names) []) ≡ map (λ x. places_of x 0 fs) names
joined_first fs [] = refl
joined_first fs (y ∷ names) = ap (λ l. places_of y 0 fs ∷ l) (joined_first fs names)

append_none : (g : List ℕ) → g ++ [] ≡ g
append_none [] = refl
append_none (n ∷ g) = ap (λ l. n ∷ l) (append_none g)

suc_is : {n m : ℕ} → suc n ≡ suc m → n ≡ m
suc_is {n} {m} e = omega (arith, e)

zero_is_not : {n : ℕ} → 0 ≡ suc n → ⊥
zero_is_not e = omega (arith, e)

-- behind the last one
pub joined_last : (k : ℕ) (names : List Name) (groups : List (List ℕ)) → length groups ≡ length names → joined [] k names groups ≡ groups
joined_last k [] [] e = refl
joined_last k [] (g ∷ groups) e = absurd (zero_is_not (sym e))
joined_last k (y ∷ names) [] e = absurd (zero_is_not e)
joined_last k (y ∷ names) (g ∷ groups) e =
    (λ i. append_none g i ∷ joined [] k names groups) ∙ ap (λ l. g ∷ l) (joined_last k names groups (suc_is e))

behind : (g : List ℕ) (k : ℕ) (rest : List ℕ) → (g ++ k ∷ []) ++ rest ≡ g ++ (k ∷ rest)
behind [] k rest = refl
behind (n ∷ g) k rest = ap (λ l. n ∷ l) (behind g k rest)

either : (b : Bool) (g : List ℕ) (k : ℕ) (rest : List ℕ) → (if b then g ++ k ∷ [] else g) ++ rest ≡ g ++ (if b then k ∷ rest else rest)
either true g k rest = behind g k rest
either false g k rest = refl

-- one function further
pub joined_next : (f : FunctionTree) (fs : List FunctionTree) (k : ℕ) (names : List Name) (groups : List (List ℕ))
    → joined fs (suc k) names (with_place f.name k names groups) ≡ joined (f ∷ fs) k names groups
joined_next f fs k [] groups = refl
joined_next f fs k (y ∷ names) [] = refl
joined_next f fs k (y ∷ names) (g ∷ groups) =
    λ i. either (bytes_eq f.name y) g k (places_of y (suc k) fs) i ∷ joined_next f fs k names groups i

-- ---- one place more

pub as_many : (x : Name) (k : ℕ) (names : List Name) (groups : List (List ℕ)) → length groups ≡ length names → length (with_place x k names groups) ≡ length groups
as_many x k [] [] e = refl
as_many x k [] (g ∷ groups) e = absurd (zero_is_not (sym e))
as_many x k (y ∷ names) [] e = refl
as_many x k (y ∷ names) (g ∷ groups) e = ap suc (as_many x k names groups (suc_is e))

-- a name that is not among others changes no group of theirs
others_stay : (x : Name) (k : ℕ) (y : Bor (List ℕ)) (names : List (Bor (List ℕ))) (groups : List (List ℕ)) → x ≡ y.now → length groups ≡ length names
    → AllByRecursion (λ (z : Bor (List ℕ)). bytes_eq y.now z.now ≡ false) names → with_place x k (texts names) groups ≡ groups
others_stay x k y [] [] e len distinct = refl
others_stay x k y [] (g ∷ groups) e len distinct = absurd (zero_is_not (sym len))
others_stay x k y (z ∷ names) [] e len distinct = absurd (zero_is_not len)
others_stay x k y (z ∷ names) (g ∷ groups) e len distinct =
    (λ i. (if (ap (λ w. bytes_eq w z.now) e ∙ distinct.0) i then g ++ k ∷ [] else g) ∷ with_place x k (texts names) groups)
    ∙ ap (λ l. g ∷ l) (others_stay x k y names groups e (suc_is len) distinct.1)

-- a name that is nowhere changes no group
pub none_more : (x : Name) (k : ℕ) (names : List (Bor (List ℕ))) (groups : List (List ℕ)) → length groups ≡ length names → place_in (texts names) x ≡ length names
    → with_place x k (texts names) groups ≡ groups
none_more x k [] [] len e = refl
none_more x k [] (g ∷ groups) len e = absurd (zero_is_not (sym len))
none_more x k (z ∷ names) [] len e = absurd (zero_is_not len)
none_more x k (z ∷ names) (g ∷ groups) len e = by (bytes_eq x z.now) refl (none_more x k names groups (suc_is len))
  where
    by : (b : Bool) → bytes_eq x z.now ≡ b → (place_in (texts names) x ≡ length names → with_place x k (texts names) groups ≡ groups)
        → with_place x k (texts (z ∷ names)) (g ∷ groups) ≡ g ∷ groups
    by true h rest = absurd (zero_is_not ((λ i. if sym h i then 0 else suc (place_in (texts names) x)) ∙ e))
    by false h rest =
        (λ i. (if h i then g ++ k ∷ [] else g) ∷ with_place x k (texts names) groups)
        ∙ ap (λ l. g ∷ l) (rest (suc_is ((λ i. if sym h i then 0 else suc (place_in (texts names) x)) ∙ e)))

read_in : {A : Type 0} (f : A → List ℕ) (xs : List A) (i : ℕ) (x : A) → i < length xs → x ≡ get_or xs i x → f x ≡ get_or (map f xs) i []
read_in f xs i x low is = ap f is ∙ sym (get_or-map f xs i x [] low)

-- the group of a name is that at its place
pub one_more : (x : Name) (k : ℕ) (names : List (Bor (List ℕ))) (groups : List (List ℕ)) (g' : List ℕ) → length groups ≡ length names
    → IsDistinct (λ (y z : Bor (List ℕ)). bytes_eq y.now z.now) names → place_in (texts names) x < length names
    → g' ≡ get_or groups (place_in (texts names) x) [] ++ k ∷ []
    → set groups (place_in (texts names) x) g' ≡ with_place x k (texts names) groups
unfolding IsDistinct
one_more x k [] groups g' len distinct below is = absurd (omega (arith, below))
one_more x k (z ∷ names) [] g' len distinct below is = absurd (zero_is_not len)
one_more x k (z ∷ names) (g ∷ groups) g' len distinct below is = by (bytes_eq x z.now) refl distinct.0 (one_more x k names groups g' (suc_is len) distinct.1)
  where
    place : (b : Bool) → bytes_eq x z.now ≡ b → place_in (texts (z ∷ names)) x ≡ (if b then 0 else suc (place_in (texts names) x))
    place b h = λ i. if h i then 0 else suc (place_in (texts names) x)

    by : (b : Bool) → bytes_eq x z.now ≡ b → AllByRecursion (λ (y : Bor (List ℕ)). bytes_eq z.now y.now ≡ false) names
        → (place_in (texts names) x < length names → g' ≡ get_or groups (place_in (texts names) x) [] ++ k ∷ [] → set groups (place_in (texts names) x) g' ≡ with_place x k (texts names) groups)
        → set (g ∷ groups) (place_in (texts (z ∷ names)) x) g' ≡ with_place x k (texts (z ∷ names)) (g ∷ groups)
    by true h others rest =
        let e = (bytes_eq-Decides x z.now).0 h in
        (λ i. set (g ∷ groups) (place true h i) g')
        ∙ (λ i. (is ∙ ap (λ p. get_or (g ∷ groups) p [] ++ k ∷ []) (place true h)) i ∷ groups)
        ∙ sym ((λ i. (if h i then g ++ k ∷ [] else g) ∷ with_place x k (texts names) groups)
        ∙ ap (λ l. (g ++ k ∷ []) ∷ l) (others_stay x k z names groups e (suc_is len) others))
    by false h others rest =
        let low : place_in (texts names) x < length names = omega (arith, below, place false h) in
        (λ i. set (g ∷ groups) (place false h i) g')
        ∙ ap (λ l. g ∷ l) (rest low (is ∙ ap (λ p. get_or (g ∷ groups) p [] ++ k ∷ []) (place false h)))
        ∙ sym (λ i. (if h i then g ++ k ∷ [] else g) ∷ with_place x k (texts names) groups)

-- the same of groups as they are
pub put_in : {A : Type 0} (f : A → List ℕ) (x : Name) (k : ℕ) (names : List (Bor (List ℕ))) (groups : List A) (place : ℕ) (old new : A)
    → length groups ≡ length names → IsDistinct (λ (y z : Bor (List ℕ)). bytes_eq y.now z.now) names → place ≡ place_in (texts names) x → place < length names
    → old ≡ get_or groups place old → f new ≡ f old ++ k ∷ [] → map f (set groups place new) ≡ with_place x k (texts names) (map f groups)
put_in f x k names groups place old new len distinct at low is more =
    let same = length-map groups f in
    let low' : place < length groups = omega (arith, low, len) in
    let below : place_in (texts names) x < length names = omega (arith, low, at) in
    let put : f new ≡ get_or (map f groups) (place_in (texts names) x) [] ++ k ∷ [] =
    more ∙ ap (λ g. g ++ k ∷ []) (read_in f groups place old low' is ∙ ap (λ p. get_or (map f groups) p []) at) in
    map-set f groups place new
    ∙ ap (λ p. set (map f groups) p (f new)) at
    ∙ one_more x k names (map f groups) (f new) (same ∙ len) distinct below put
