-- The core of a program whose functions stand together is well formed.
use Rattle.std.proofs.Common.{◌≡◌, ℕ, zero, suc, ◌+◌, ◌<◌, ◌≤◌, Bool, true, false, ◌||◌, List, [], ◌∷◌, ◌++◌, map, length, Option, Some, None, refl, ap, sym, subst, ◌∙◌, arith}
use Rattle.std.specs.Prelude.{bytes_eq, slice_get, unwrap_or, option_map, position, is_some, IsTrue, All, AllPairs, Contains, if◌then◌else◌}
use Rattle.std.proofs.lemmas.Option.{slice_get-map}
use Rattle.sac_base.specs.declared.name.Name.{Name}
use Rattle.sac_base.specs.Types.{compatible}
use Rattle.sac_ast.specs.declared.Param.{Param}
use Rattle.sac_ast.specs.Tree.{FunctionTree, ProgramTree}
use Rattle.sac_ast.specs.Bases.{base_in}
use Rattle.core_ir.specs.Terms.{FunTerm}
use Rattle.core_ir.specs.WellFormed.{bases, calls_in, MayShareName, PlacesShare, CallsBackward, IsWellFormed}
use Rattle.source_meaning.specs.Calls.{param_names, is_main}
use Rattle.core_lowering.specs.Lowering.{has_name, pushed, lowered_block, lowered_all}
use Rattle.core_lowering.specs.Programs.{group_of, groups_of, function_names, place_in, places_of, lowered_params, name_base, lowered_function, lowered_program, IsDefiniteProgram}
use Rattle.core_lowering.specs.Standing.{CallsInFunction, all_names, MayStandTogether, StandsBefore, IsStanding}
use Rattle.core_lowering.specs.Typed.{AreTypedFunctions}
use Rattle.core_lowering.proofs.Scopes.{same_name, listed_once, never_listed}
use Rattle.core_lowering.proofs.Called.{FromNames, two, inner, calls_all, calls_block}
use Rattle.core_lowering.proofs.Chosen.{placed, unplaced, same_types, position_at}
use Rattle.core_lowering.proofs.WholeBases.{EachOf, all_each, same_bases_of, functions_well_formed}

-- ---- lists

-- each of a list, from its places
each_at : {A : Type 0} (P : A → Type 0) (xs : List A) → ((i : ℕ) (x : A) → slice_get xs i ≡ Some x → P x) → EachOf P xs
each_at P [] h = tt
each_at P (x ∷ xs) h = (h 0 x refl, each_at P xs (λ i y p. h (suc i) y p))

each_map : {A B : Type 0} (P : B → Type 0) (f : A → B) (xs : List A) → EachOf (λ x. P (f x)) xs → EachOf P (map f xs)
each_map P f [] e = tt
each_map P f (x ∷ xs) e = (e.0, each_map P f xs e.1)

each_same : {A : Type 0} (P Q : A → Type 0) (xs : List A) → ((x : A) → P x → Q x) → EachOf P xs → EachOf Q xs
each_same P Q [] h e = tt
each_same P Q (x ∷ xs) h e = (h x e.0, each_same P Q xs h e.1)

each_any : {A : Type 0} (P : A → Type 0) (xs : List A) → ((x : A) → P x) → EachOf P xs
each_any P [] h = tt
each_any P (x ∷ xs) h = (h x, each_any P xs h)

-- each with each later one
abbrev EachPair : {A : Type 0} → (A → A → Type 0) → List A → Type 0
EachPair R [] = Unit {0}
EachPair R (x ∷ xs) = EachOf (R x) xs × EachPair R xs

pairs_all : {A : Type 0} (R : A → A → Type 0) (xs : List A) → EachPair R xs → AllPairs R xs
pairs_all R [] e i j d p q = absurd (omega arith)
pairs_all R (x ∷ xs) e zero zero d p q = absurd (omega arith)
pairs_all R (x ∷ xs) e zero (suc j) d p q = all_each (R x) xs e.0 j d (omega arith)
pairs_all R (x ∷ xs) e (suc i) zero d p q = absurd (omega arith)
pairs_all R (x ∷ xs) e (suc i) (suc j) d p q = pairs_all R xs e.1 i j d (omega arith) (omega arith)

contained : {A : Type 0} (P : A → Type 0) (xs : List A) (x : A) → EachOf P xs → Contains xs x → P x
contained P xs x e c = subst P c.2 (all_each P xs e c.0 x c.1)

count_map : {A B : Type 0} (f : A → B) (xs : List A) → length (map f xs) ≡ length xs
count_map f [] = refl
count_map f (x ∷ xs) = ap suc (count_map f xs)

some_same : {A : Type 0} (a b : A) → Some a ≡ Some b → a ≡ b
some_same a b p = cc

-- ---- groups

place_small : (xs : List Name) (x : Name) → has_name xs x ≡ true → place_in xs x < length xs
place_small [] x h = absurd (cc)
place_small (y ∷ ys) x h = go (bytes_eq x y) refl (λ k. place_small ys x k)
  where
    go : (b : Bool) → bytes_eq x y ≡ b → (has_name ys x ≡ true → place_in ys x < length ys) → (if b then 0 else suc (place_in ys x)) < suc (length ys)
    go true e again = omega arith
    go false e again = let l = again (sym (λ i. e i || has_name ys x) ∙ h) in omega arith

group_small : (fs : List FunctionTree) (x : Name) → has_name (all_names fs) x ≡ true → group_of fs x < length (groups_of fs)
group_small fs x h =
    let l = place_small (function_names fs) x (listed_once (all_names fs) x h) in
    let c = count_map (λ y. places_of y 0 fs) (function_names fs) in
    omega arith

-- a place of an instance of the name, from a place on
record PlaceOf (fs : List FunctionTree) (x : Name) (i j : ℕ) : Type 0 where
  later : i ≤ j
  function : FunctionTree
  there : slice_get fs j ≡ Some function
  is_named : bytes_eq function.name x ≡ true

place_later : (fs : List FunctionTree) (x : Name) (i j : ℕ) → PlaceOf fs x (suc i) j → PlaceOf fs x i j
place_later fs x i j p = let l = p.later in record { later = omega arith; function = p.function; there = p.there; is_named = p.is_named }

abbrev Follows : List FunctionTree → ℕ → List FunctionTree → Type 0
Follows fs i gs = (k m : ℕ) → m ≡ i + k → slice_get fs m ≡ slice_get gs k

each_place : (fs : List FunctionTree) (x : Name) (i : ℕ) (gs : List FunctionTree) → Follows fs i gs → EachOf (PlaceOf fs x i) (places_of x i gs)
each_place fs x i [] h = tt
each_place fs x i (g ∷ gs) h = go (bytes_eq g.name x) refl (each_same (PlaceOf fs x (suc i)) (PlaceOf fs x i) (places_of x (suc i) gs) (λ j p. place_later fs x i j p) (each_place fs x (suc i) gs (λ k m e. h (suc k) m (omega arith))))
  where
    go : (b : Bool) → bytes_eq g.name x ≡ b → EachOf (PlaceOf fs x i) (places_of x (suc i) gs) → EachOf (PlaceOf fs x i) (if b then i ∷ places_of x (suc i) gs else places_of x (suc i) gs)
    go true e r = (record { later = omega arith; function = g; there = h 0 i (omega arith); is_named = e }, r)
    go false e r = r

-- two places of instances of the name, in order
record TwoPlaces (fs : List FunctionTree) (x : Name) (i j : ℕ) : Type 0 where
  first : FunctionTree
  second : FunctionTree
  order : i < j
  there : slice_get fs i ≡ Some first
  there_too : slice_get fs j ≡ Some second
  is_named : bytes_eq first.name x ≡ true
  is_named_too : bytes_eq second.name x ≡ true

two_places : (fs : List FunctionTree) (x : Name) (i : ℕ) (gs : List FunctionTree) → Follows fs i gs → EachPair (TwoPlaces fs x) (places_of x i gs)
two_places fs x i [] h = tt
two_places fs x i (g ∷ gs) h = go (bytes_eq g.name x) refl (two_places fs x (suc i) gs (λ k m e. h (suc k) m (omega arith))) (each_place fs x (suc i) gs (λ k m e. h (suc k) m (omega arith)))
  where
    go : (b : Bool) → bytes_eq g.name x ≡ b → EachPair (TwoPlaces fs x) (places_of x (suc i) gs) → EachOf (PlaceOf fs x (suc i)) (places_of x (suc i) gs) → EachPair (TwoPlaces fs x) (if b then i ∷ places_of x (suc i) gs else places_of x (suc i) gs)
    go true e r q = (
      each_same (PlaceOf fs x (suc i)) (TwoPlaces fs x i) (places_of x (suc i) gs)
          (λ j p. let l = p.later in record { first = g; second = p.function; order = omega arith; there = h 0 i (omega arith); there_too = p.there; is_named = e; is_named_too = p.is_named }) q,
      r,
    )
    go false e r q = r

from_start : (fs : List FunctionTree) → Follows fs 0 fs
from_start fs k m e = let same : m ≡ k = omega arith in ap (slice_get fs) same

get_small : {A : Type 0} (xs : List A) (i : ℕ) (x : A) → slice_get xs i ≡ Some x → i < length xs
get_small [] i x p = absurd (cc)
get_small (y ∷ xs) zero x p = omega arith
get_small (y ∷ xs) (suc i) x p = let l = get_small xs i x p in omega arith

-- ---- functions of a core

lowered_at : (fs : List FunctionTree) (i : ℕ) (f : FunctionTree) → slice_get fs i ≡ Some f → slice_get (map (lowered_function fs) fs) i ≡ Some (lowered_function fs f)
lowered_at fs i f p = slice_get-map (lowered_function fs) fs i ∙ ap (option_map (lowered_function fs)) p

-- what stands at a place of the core, from the source
record Source (fs : List FunctionTree) (i : ℕ) (h : FunTerm) : Type 0 where
  function : FunctionTree
  there : slice_get fs i ≡ Some function
  is : h ≡ lowered_function fs function

source_at : (fs : List FunctionTree) (i : ℕ) (h : FunTerm) → slice_get (map (lowered_function fs) fs) i ≡ Some h → Source fs i h
source_at fs i h p = go (slice_get fs i) refl
  where
    go : (o : Option FunctionTree) → slice_get fs i ≡ o → Source fs i h
    go None e = absurd (let q : None ≡ Some h = sym (slice_get-map (lowered_function fs) fs i ∙ ap (option_map (lowered_function fs)) e) ∙ p in cc)
    go (Some f) e = record { function = f; there = e; is = some_same h (lowered_function fs f) (sym p ∙ lowered_at fs i f e) }

params_count : (n : ℕ) (ps : List Param) → length (lowered_params n ps) ≡ length ps
params_count n [] = refl
params_count n (p ∷ ps) = ap suc (params_count (suc n) ps)

share : (fs : List FunctionTree) (f g : FunctionTree) → MayStandTogether f g → MayShareName (lowered_function fs f) (lowered_function fs g)
share fs f g m = record {
  params = params_count 0 f.params ∙ m.params ∙ sym (params_count 0 g.params);
  results = m.results;
  inlines = m.inlines;
  types = (λ i. compatible (same_types fs f i) (same_types fs g i)) ∙ m.types;
  bases = λ p. m.bases_too (sym (ap bases (same_types fs f) ∙ same_bases_of f) ∙ p ∙ (ap bases (same_types fs g) ∙ same_bases_of g));
}

places_share : (p : ProgramTree) → IsStanding p → (x : Name) (i j : ℕ) → TwoPlaces p.functions x i j → PlacesShare (lowered_program p).functions i j
places_share p s x i j t f g a b =
    let fs = p.functions in
    let same_first : lowered_function fs t.first ≡ f = some_same (lowered_function fs t.first) f (sym (lowered_at fs i t.first t.there) ∙ a) in
    let same_second : lowered_function fs t.second ≡ g = some_same (lowered_function fs t.second) g (sym (lowered_at fs j t.second t.there_too) ∙ b) in
    let names : t.first.name ≡ t.second.name = same_name t.first.name x t.is_named ∙ sym (same_name t.second.name x t.is_named_too) in
    subst (λ (h : FunTerm). MayShareName h g) same_first (subst (λ (h : FunTerm). MayShareName (lowered_function fs t.first) h) same_second (share fs t.first t.second (s.together i j t.first t.second t.order t.there t.there_too names)))

-- ---- calls

function_calls : (P : Name → Type 0) (fs : List FunctionTree) (f : FunctionTree) → CallsInFunction P f → FromNames P (group_of fs) (calls_in (lowered_function fs f).body)
function_calls P fs f d =
    let scope = pushed (param_names f) 0 [] in
    let n = length (param_names f) in
    let B = lowered_block (group_of fs) (base_in fs f) (name_base fs f) f.body scope n in
    let V = lowered_all (group_of fs) (base_in fs f) (name_base fs f) f.values B.scope B.next in
    inner P (group_of fs) (B.lets ++ V.lets) V.results (two P (group_of fs) B.lets V.lets
    (calls_block P (group_of fs) (base_in fs f) (name_base fs f) f.body scope n d.0)
    (calls_all P (group_of fs) (base_in fs f) (name_base fs f) f.values B.scope B.next d.1))

from_each : (P : Name → Type 0) (group : Name → ℕ) (Q : ℕ → Type 0) → ((x : Name) → P x → Q (group x)) → (gs : List ℕ) → FromNames P group gs → EachOf Q gs
from_each P group Q h [] d = tt
from_each P group Q h (g ∷ gs) d = (subst Q (sym d.0.1.1) (h d.0.0 d.0.1.0), from_each P group Q h gs d.1)

-- an inline instance in a group of the name stands before the place
group_before : (p : ProgramTree) (i : ℕ) (x : Name) → StandsBefore p.functions i x → (places : List ℕ) → slice_get (groups_of p.functions) (group_of p.functions x) ≡ Some places → (j : ℕ) (h : FunTerm) → Contains places j → slice_get (lowered_program p).functions j ≡ Some h → h.is_inline ≡ true → j < i
group_before p i x s places e j h c a q = go (has_name (all_names p.functions) x) refl
  where
    go : (b : Bool) → has_name (all_names p.functions) x ≡ b → j < i
    go true l =
        let fs = p.functions in
        let same : places ≡ places_of x 0 fs = some_same places (places_of x 0 fs) (sym e ∙ placed (λ y. places_of y 0 fs) (function_names fs) x (listed_once (all_names fs) x l)) in
        let o = contained (PlaceOf fs x 0) (places_of x 0 fs) j (each_place fs x 0 fs (from_start fs)) (subst (λ (xs : List ℕ). Contains xs j) same c) in
        let k : h ≡ lowered_function fs o.function = some_same h (lowered_function fs o.function) (sym a ∙ lowered_at fs j o.function o.there) in
        s j o.function o.there o.is_named (ap (λ (z : FunTerm). z.is_inline) (sym k) ∙ q)
    go false l = absurd (let n = unplaced (λ y. places_of y 0 p.functions) (function_names p.functions) x (never_listed (all_names p.functions) x l) in let m : None ≡ Some places = sym n ∙ e in cc)

calls_backward : (p : ProgramTree) → IsStanding p → CallsBackward (lowered_program p)
calls_backward p s i f there inline group c places e j h d a q =
    let fs = p.functions in
    let o = source_at fs i f there in
    let g = o.function in
    let inline' : g.inline ≡ true = ap (λ (z : FunTerm). z.is_inline) (sym o.is) ∙ inline in
    let before = function_calls (StandsBefore fs i) fs g (s.backward i g o.there inline') in
    let each = from_each (StandsBefore fs i) (group_of fs) (λ k. (ps : List ℕ) → slice_get (groups_of fs) k ≡ Some ps → (m : ℕ) (z : FunTerm) → Contains ps m → slice_get (lowered_program p).functions m ≡ Some z → z.is_inline ≡ true → m < i)
    (λ x t ps u m z v w r. group_before p i x t ps u m z v w r) (calls_in (lowered_function fs g).body) before in
    contained (λ k. (ps : List ℕ) → slice_get (groups_of fs) k ≡ Some ps → (m : ℕ) (z : FunTerm) → Contains ps m → slice_get (lowered_program p).functions m ≡ Some z → z.is_inline ≡ true → m < i)
    (calls_in (lowered_function fs g).body) group each (subst (λ (z : FunTerm). Contains (calls_in z.body) group) o.is c) places e j h d a q

-- ---- the whole

pairs_same : {A : Type 0} (R S : A → A → Type 0) (xs : List A) → ((x y : A) → R x y → S x y) → EachPair R xs → EachPair S xs
pairs_same R S [] h e = tt
pairs_same R S (x ∷ xs) h e = (each_same (R x) (S x) xs (λ y r. h x y r) e.0, pairs_same R S xs h e.1)

main_there : (p : ProgramTree) → IsStanding p → (o : Option ℕ) → position is_main p.functions ≡ o → IsTrue (is_some o) → (f : FunTerm) × ((slice_get (lowered_program p).functions (unwrap_or o 0) ≡ Some f) × (f.is_inline ≡ false))
main_there p s None e h = absurd (cc)
main_there p s (Some place) e h =
    let a = position_at is_main p.functions place e in
    (lowered_function p.functions a.function, (lowered_at p.functions place a.function a.there, s.main place a.function e a.there))

pub well_formed : (p : ProgramTree) → IsDefiniteProgram p → AreTypedFunctions p.functions p.functions → IsStanding p → IsWellFormed (lowered_program p)
well_formed p d t s =
    let fs = p.functions in
    let core = lowered_program p in
    record {
      few = (let c = count_map (lowered_function fs) fs in let l = s.few in omega arith);
      functions = functions_well_formed p d t;
      main = main_there p s (position is_main fs) refl d.main;
      groups = all_each (λ places. All (λ place. place < length core.functions) places) (groups_of fs) (each_map (λ places. All (λ place. place < length core.functions) places) (λ x. places_of x 0 fs) (function_names fs) (each_any (λ x. All (λ place. place < length core.functions) (places_of x 0 fs)) (function_names fs) (λ x. all_each (λ place. place < length core.functions) (places_of x 0 fs)
          (each_same (PlaceOf fs x 0) (λ place. place < length core.functions) (places_of x 0 fs) (λ j o. let c = count_map (lowered_function fs) fs in let l = get_small fs j o.function o.there in omega arith) (each_place fs x 0 fs (from_start fs))))));
      called = all_each (λ (f : FunTerm). All (λ group. group < length core.groups) (calls_in f.body)) core.functions (each_map (λ (f : FunTerm). All (λ group. group < length core.groups) (calls_in f.body)) (lowered_function fs) fs (each_at (λ f. All (λ group. group < length core.groups) (calls_in (lowered_function fs f).body)) fs (λ i f there. all_each (λ group. group < length core.groups) (calls_in (lowered_function fs f).body)
          (from_each (λ x. has_name (all_names fs) x ≡ true) (group_of fs) (λ group. group < length core.groups) (λ x h. group_small fs x h) (calls_in (lowered_function fs f).body) (function_calls (λ x. has_name (all_names fs) x ≡ true) fs f (s.called i f there))))));
      names = all_each (λ places. AllPairs (PlacesShare core.functions) places) (groups_of fs) (each_map (λ places. AllPairs (PlacesShare core.functions) places) (λ x. places_of x 0 fs) (function_names fs) (each_any (λ x. AllPairs (PlacesShare core.functions) (places_of x 0 fs)) (function_names fs) (λ x. pairs_all (PlacesShare core.functions) (places_of x 0 fs)
          (pairs_same (TwoPlaces fs x) (PlacesShare core.functions) (places_of x 0 fs) (λ i j o. places_share p s x i j o) (two_places fs x 0 fs (from_start fs))))));
      backward = calls_backward p s;
    }
