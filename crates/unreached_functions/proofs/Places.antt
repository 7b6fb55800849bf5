-- Marks of places.
use Rattle.std.proofs.Common.{◌≡◌, ℕ, zero, suc, ◌+◌, ◌<◌, ◌≤◌, Bool, true, false, ◌⊎◌, inl, inr, List, [], ◌∷◌, map, length, get_or, Option, Some, None, refl, sym, ap, subst, ◌∙◌, arith}
use Rattle.std.specs.Prelude.{All, slice_get, unwrap_or}
use Rattle.std.proofs.lemmas.Bool.{cases_lt}
use Rattle.std.proofs.lemmas.Option.{slice_get_within}
use Rattle.core_ir.specs.Outcome.{group_at}
use Rattle.core_ir.specs.Terms.{FunTerm, CoreTerm}
use Rattle.core_facts.specs.calls.Nests.{CallsAll, StandsIn}
use Rattle.unreached_functions.specs.Closed.{IsMarked}

-- ---- one place

pub mark_there : (marks : List Bool) (k : ℕ) (x : Bool) → k < length marks → x ≡ get_or marks k x → x ≡ unwrap_or (slice_get marks k) false
mark_there [] k x l e = absurd (omega arith)
mark_there (m ∷ ms) zero x l e = e
mark_there (m ∷ ms) (suc k) x l e = mark_there ms k x (omega (arith, l)) e

pub mark_missing : (marks : List Bool) (k : ℕ) → length marks ≤ k → false ≡ unwrap_or (slice_get marks k) false
mark_missing [] k l = refl
mark_missing (m ∷ ms) zero l = absurd (omega arith)
mark_missing (m ∷ ms) (suc k) l = mark_missing ms k (omega (arith, l))

pub marked : (marks : List Bool) (k : ℕ) (b : Bool) → b ≡ unwrap_or (slice_get marks k) false → b ≡ true → IsMarked marks k
marked marks k b e t = go (slice_get marks k) refl (sym e ∙ t)
  where
    go : (o : Option Bool) → slice_get marks k ≡ o → unwrap_or o false ≡ true → slice_get marks k ≡ Some true
    go None p q = absurd (cc)
    go (Some x) p q = p ∙ ap Some q

pub unmarked : (marks : List Bool) (k : ℕ) (b : Bool) → b ≡ unwrap_or (slice_get marks k) false → b ≡ false → IsMarked marks k → ⊥
unmarked marks k b e t m = absurd (let q = sym t ∙ e ∙ ap (λ o. unwrap_or o false) m in cc)

pub no_mark : (marks : List Bool) (k : ℕ) (b : Bool) → b ≡ unwrap_or (slice_get marks k) false → (b ≡ true → ⊥) → IsMarked marks k → ⊥
no_mark marks k b e t m = t (e ∙ ap (λ o. unwrap_or o false) m)

-- ---- several places

abbrev pub MarkedBelow : List Bool → List ℕ → ℕ → Type 0
MarkedBelow marks places k = (j d : ℕ) → j < k → j < length places → IsMarked marks (get_or places j d)

at_same : (places : List ℕ) (k d e : ℕ) → k < length places → get_or places k d ≡ get_or places k e
at_same [] k d e l = absurd (omega arith)
at_same (p ∷ ps) zero d e l = refl
at_same (p ∷ ps) (suc k) d e l = at_same ps k d e (omega (arith, l))

pub none_below : (marks : List Bool) (places : List ℕ) → MarkedBelow marks places 0
none_below marks places j d l m = absurd (omega (arith, l))

pub one_more : (marks : List Bool) (places : List ℕ) (k p : ℕ) → MarkedBelow marks places k → k < length places → p ≡ get_or places k p → IsMarked marks p → MarkedBelow marks places (k + 1)
one_more marks places k p h l e m j d lt within = go (cases_lt j k)
  where
    go : (j < k) ⊎ (k ≤ j) → IsMarked marks (get_or places j d)
    go (inl q) = h j d q within
    go (inr q) =
        let here : j ≡ k = omega (arith, q, lt) in
        subst (IsMarked marks) (e ∙ at_same places k p d l ∙ ap (λ n. get_or places n d) (sym here)) m

pub all_below : (marks : List Bool) (places : List ℕ) (k : ℕ) → MarkedBelow marks places k → length places ≤ k → All (IsMarked marks) places
all_below marks places k h l j d m = h j d (omega (arith, l, m)) m

-- ---- groups

abbrev pub InstancesBelow : CoreTerm → List Bool → List Bool → ℕ → Type 0
InstancesBelow core groups functions k = (group place : ℕ) → group < k → IsMarked groups group → StandsIn (group_at core group) place → IsMarked functions place

member : (P : ℕ → Type 0) (places : List ℕ) (place : ℕ) → All P places → StandsIn places place → P place
member P [] place h s = absurd s
member P (p ∷ ps) place h (inl e) = subst P e (h 0 place (omega arith))
member P (p ∷ ps) place h (inr s) = member P ps place (λ j d l. h (suc j) d (omega (arith, l))) s

pub no_instance_yet : (core : CoreTerm) (groups functions : List Bool) → InstancesBelow core groups functions 0
no_instance_yet core groups functions group place l m s = absurd (omega (arith, l))

pub group_more : (core : CoreTerm) (groups functions : List Bool) (k : ℕ) → InstancesBelow core groups functions k → (IsMarked groups k → All (IsMarked functions) (group_at core k)) → InstancesBelow core groups functions (k + 1)
group_more core groups functions k h own group place lt m s = go (cases_lt group k)
  where
    go : (group < k) ⊎ (k ≤ group) → IsMarked functions place
    go (inl q) = h group place q m s
    go (inr q) =
        let here : group ≡ k = omega (arith, q, lt) in
        member (IsMarked functions) (group_at core k) place (own (subst (IsMarked groups) here m)) (subst (λ g. StandsIn (group_at core g) place) here s)

beyond : {A : Type 0} (xs : List A) (i : ℕ) → length xs ≤ i → slice_get xs i ≡ None
beyond [] i l = refl
beyond (x ∷ xs) zero l = absurd (omega arith)
beyond (x ∷ xs) (suc i) l = beyond xs i (omega (arith, l))

pub groups_all : (core : CoreTerm) (groups functions : List Bool) (k : ℕ) → InstancesBelow core groups functions k → length core.groups ≤ k → (group place : ℕ) → IsMarked groups group → StandsIn (group_at core group) place → IsMarked functions place
groups_all core groups functions k h l group place m s = go (cases_lt group k)
  where
    go : (group < k) ⊎ (k ≤ group) → IsMarked functions place
    go (inl q) = h group place q m s
    go (inr q) = absurd (subst (λ ps. StandsIn ps place) (ap (λ o. unwrap_or o []) (beyond core.groups group (omega (arith, q, l)))) s)

-- ---- functions

abbrev pub CallsMarkedBelow : CoreTerm → List Bool → List Bool → ℕ → Type 0
CallsMarkedBelow core groups functions k = (place : ℕ) (f : FunTerm) → place < k → IsMarked functions place → slice_get core.functions place ≡ Some f → CallsAll (IsMarked groups) f.body

pub no_function_yet : (core : CoreTerm) (groups functions : List Bool) → CallsMarkedBelow core groups functions 0
no_function_yet core groups functions place f l m e = absurd (omega (arith, l))

pub function_more : (core : CoreTerm) (groups functions : List Bool) (k : ℕ) → CallsMarkedBelow core groups functions k → ((f : FunTerm) → IsMarked functions k → slice_get core.functions k ≡ Some f → CallsAll (IsMarked groups) f.body) → CallsMarkedBelow core groups functions (k + 1)
function_more core groups functions k h own place f lt m e = go (cases_lt place k)
  where
    go : (place < k) ⊎ (k ≤ place) → CallsAll (IsMarked groups) f.body
    go (inl q) = h place f q m e
    go (inr q) =
        let here : place ≡ k = omega (arith, q, lt) in
        own f (subst (IsMarked functions) here m) (subst (λ n. slice_get core.functions n ≡ Some f) here e)

pub functions_all : (core : CoreTerm) (groups functions : List Bool) (k : ℕ) → CallsMarkedBelow core groups functions k → length core.functions ≤ k → (place : ℕ) (f : FunTerm) → IsMarked functions place → slice_get core.functions place ≡ Some f → CallsAll (IsMarked groups) f.body
functions_all core groups functions k h l place f m e = h place f (let w = slice_get_within core.functions place f e in omega (arith, w, l)) m e

-- the body of the function that stands there
pub own_calls : (fs : List FunTerm) (k : ℕ) (f g : FunTerm) (P : ℕ → Type 0) → slice_get fs k ≡ Some g → CallsAll P g.body → slice_get fs k ≡ Some f → CallsAll P f.body
own_calls fs k f g P e h d = subst (λ (o : FunTerm). CallsAll P o.body) (ap (λ o. unwrap_or o f) (sym e ∙ d)) h

-- the group that stands there
pub group_there : {A : Type 0} (f : A → List ℕ) (gs : List A) (k : ℕ) (g : A) → k < length gs → g ≡ get_or gs k g → f g ≡ unwrap_or (slice_get (map f gs) k) []
group_there f [] k g l e = absurd (omega arith)
group_there f (x ∷ gs) zero g l e = ap f e
group_there f (x ∷ gs) (suc k) g l e = group_there f gs k g (omega (arith, l)) e

pub mapped_at : {A B : Type 0} (f : A → B) (xs : List A) (i : ℕ) (x : A) → slice_get xs i ≡ Some x → slice_get (map f xs) i ≡ Some (f x)
mapped_at f [] i x e = absurd (let q : ◌≡◌ {A = Option _} None (Some x) = e in cc)
mapped_at f (y ∷ ys) zero x e = ap (λ o. Some (f (unwrap_or o y))) e
mapped_at f (y ∷ ys) (suc i) x e = mapped_at f ys i x e

pub read_at : {A : Type 0} (xs : List A) (i : ℕ) (x : A) → i < length xs → x ≡ get_or xs i x → slice_get xs i ≡ Some x
read_at [] i x l e = absurd (omega arith)
read_at (y ∷ ys) zero x l e = ap Some (sym e)
read_at (y ∷ ys) (suc i) x l e = read_at ys i x (omega (arith, l)) e

pub groups_count : {A B : Type 0} (f : A → B) (xs : List A) → length (map f xs) ≡ length xs
groups_count f [] = refl
groups_count f (x ∷ xs) = ap suc (groups_count f xs)
