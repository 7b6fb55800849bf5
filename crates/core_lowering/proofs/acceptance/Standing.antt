-- The functions of an accepted program stand together as the core asks.
use Rattle.std.proofs.Common.{◌≡◌, ℕ, zero, suc, ◌+◌, ◌<◌, ◌≤◌, ◌^◌, ◌⊎◌, inl, inr, Bool, true, false, not, ◌||◌, ◌&&◌, List, [], ◌∷◌, ◌++◌, length, Option, Some, is_some, if◌then◌else◌, refl, ap, sym, subst, ◌∙◌, append_assoc, arith}
use Rattle.std.specs.Prelude.{bytes_eq, ◌==◌, filter, flat_map, slice_get}
use Rattle.std.specs.List.{list_all}
use Rattle.std.proofs.lemmas.Bool.{eqb-true, eq-eqb}
use Rattle.sac_base.specs.declared.base.Base.{Base}
use Rattle.sac_base.specs.declared.base.Base.TheVariants.{Int, Bool as Truth}
use Rattle.sac_base.specs.declared.name.Name.{Name}
use Rattle.sac_base.specs.declared.site.Site.{Site}
use Rattle.sac_base.specs.declared.types.ArrayType.{ArrayType}
use Rattle.sac_base.specs.declared.types.Part.{Part}
use Rattle.sac_base.specs.declared.types.Part.TheVariants.{Known as Exactly, Rank, Plus, Star}
use Rattle.sac_base.specs.Arrays.{same_base}
use Rattle.sac_base.specs.Types.{parts_overlap, apart, strictly_below, compatible}
use Rattle.check_rules.specs.declared.code.CheckCode.TheVariants.{C2, C3, C4, C6, C8}
use Rattle.sac_ast.specs.Tree.{FunctionTree, ProgramTree}
use Rattle.sac_ast.specs.Bases.{first_named, same_bases, bases_of_params, all_known}
use Rattle.check_rules.specs.Accepted.{Place, unless, is_named, is_inline, count_named, numbers_fit, some_takes, stands_earlier, call_rules, main_name, main_count, main_rules, may_stand_together, same_truth, base_list, param_types, values_fit, repeated_params, clash_rules, in_function, in_functions, names_in, known_params, none_known, IsAccepted}
use Rattle.check_rules.specs.Accepted as a
use Rattle.source_meaning.specs.Calls.{is_main}
use Rattle.core_lowering.specs.Lowering.{has_name}
use Rattle.core_lowering.specs.Standing.{CallsInFunction, all_names, MayStandTogether, StandsBefore, IsStanding}
use Rattle.core_lowering.proofs.Scopes.{same_name}
use Rattle.core_lowering.proofs.Chosen.{position_at}
use Rattle.core_lowering.proofs.acceptance.Clean.{nil2, nil3, nil4, nil5, holds, both}
use Rattle.core_lowering.proofs.acceptance.Told.{itself, flip}
use Rattle.core_lowering.proofs.acceptance.Mains.{outer, not_inline}
use Rattle.core_lowering.proofs.acceptance.EachCall.{calls_block, calls_all}

-- ---- the order of two types does not matter

eqb_flip : (m n : ℕ) → (m == n) ≡ (n == m)
eqb_flip m n = go (m == n) refl (n == m) refl
  where
    go : (b : Bool) → (m == n) ≡ b → (c : Bool) → (n == m) ≡ c → b ≡ c
    go true e true q = refl
    go false e false q = refl
    go true e false q = sym (eq-eqb n m (sym (eqb-true m n e))) ∙ q
    go false e true q = sym e ∙ eq-eqb m n (sym (eqb-true n m q))

parts_flip : (p q : Part) → parts_overlap p q ≡ parts_overlap q p
parts_flip (Exactly xs) (Exactly ys) = flip ys xs
parts_flip (Exactly xs) (Rank n) = refl
parts_flip (Exactly xs) Plus = refl
parts_flip (Exactly xs) Star = refl
parts_flip (Rank m) (Exactly ys) = refl
parts_flip (Rank m) (Rank n) = eqb_flip m n
parts_flip (Rank m) Plus = refl
parts_flip (Rank m) Star = refl
parts_flip Plus (Exactly ys) = refl
parts_flip Plus (Rank n) = refl
parts_flip Plus Plus = refl
parts_flip Plus Star = refl
parts_flip Star (Exactly ys) = refl
parts_flip Star (Rank n) = refl
parts_flip Star Plus = refl
parts_flip Star Star = refl

base_flip : (s t : Base) → same_base s t ≡ same_base t s
base_flip Int Int = refl
base_flip Truth Truth = refl
base_flip Int Truth = refl
base_flip Truth Int = refl

apart_flip : (xs ys : List ArrayType) → apart xs ys ≡ apart ys xs
apart_flip [] [] = refl
apart_flip [] (y ∷ ys) = refl
apart_flip (x ∷ xs) [] = refl
apart_flip (x ∷ xs) (y ∷ ys) = λ i. not (base_flip x.base y.base i && parts_flip x.part y.part i) || apart_flip xs ys i

or_flip : (x y : Bool) → (x || y) ≡ (y || x)
or_flip true true = refl
or_flip true false = refl
or_flip false true = refl
or_flip false false = refl

compatible_flip : (xs ys : List ArrayType) → compatible xs ys ≡ compatible ys xs
compatible_flip xs ys = λ i. apart_flip xs ys i || or_flip (strictly_below xs ys) (strictly_below ys xs) i

-- ---- instances of one name

five : (x y z u v : Bool) → (x && y && z && u && v) ≡ true → (x ≡ true) × (y ≡ true) × (z ≡ true) × (u ≡ true) × (v ≡ true)
five true true true true v h = (refl, refl, refl, refl, h)
five false y z u v h = absurd (cc)
five true false z u v h = absurd (cc)
five true true false u v h = absurd (cc)
five true true true false v h = absurd (cc)

truth_same : (x y : Bool) → same_truth x y ≡ true → y ≡ x
truth_same true y h = h
truth_same false true h = absurd (cc)
truth_same false false h = refl

list_itself : (bs : List Base) → same_bases bs bs ≡ true
list_itself [] = refl
list_itself (Int ∷ bs) = list_itself bs
list_itself (Truth ∷ bs) = list_itself bs

same_list : (ts us : List Base) → same_bases ts us ≡ true → ts ≡ us
same_list [] [] h = refl
same_list [] (u ∷ us) h = absurd (cc)
same_list (t ∷ ts) [] h = absurd (cc)
same_list (Int ∷ ts) (Int ∷ us) h = ap (λ (l : List Base). Int ∷ l) (same_list ts us h)
same_list (Truth ∷ ts) (Truth ∷ us) h = ap (λ (l : List Base). Truth ∷ l) (same_list ts us h)
same_list (Int ∷ ts) (Truth ∷ us) h = absurd (cc)
same_list (Truth ∷ ts) (Int ∷ us) h = absurd (cc)

implied_here : (x y : Bool) → (not x || y) ≡ true → x ≡ true → y ≡ true
implied_here true y h e = h
implied_here false y h e = absurd (cc)

may_share : (f g : FunctionTree) → may_stand_together g f ≡ true → MayStandTogether f g
may_share f g h =
    let same_params = same_bases (bases_of_params g) (bases_of_params f) in
    let same_results = same_bases (base_list g.results) (base_list f.results) in
    let r = five (length g.params == length f.params) (length g.results == length f.results) (same_truth g.inline f.inline) (compatible (param_types g) (param_types f)) (not same_params || same_results) h in
    record {
      params = sym (eqb-true (length g.params) (length f.params) r.0);
      results = sym (eqb-true (length g.results) (length f.results) r.1);
      inlines = truth_same g.inline f.inline r.2;
      types = compatible_flip (param_types f) (param_types g) ∙ r.3;
      bases_too = λ e. sym (same_list (base_list g.results) (base_list f.results)
          (implied_here same_params same_results r.4 (ap (same_bases (bases_of_params g)) e ∙ list_itself (bases_of_params g))));
    }

-- ---- the functions before one

record CleanAt (fs : List FunctionTree) (i : ℕ) (f : FunctionTree) : Type 0 where
  before : List FunctionTree
  rest : List FunctionTree
  whole : fs ≡ before ++ f ∷ rest
  count : length before ≡ i
  apart_from : clash_rules before f ≡ []
  inside : in_function fs before f ≡ []

longer : (gs : List FunctionTree) (g : FunctionTree) → length (gs ++ g ∷ []) ≡ suc (length gs)
longer [] g = refl
longer (x ∷ gs) g = ap suc (longer gs g)

clean_at : (fs before rest : List FunctionTree) (k i : ℕ) (f : FunctionTree) → fs ≡ before ++ rest → in_functions fs before rest ≡ [] → slice_get rest k ≡ Some f → length before + k ≡ i → CleanAt fs i f
clean_at fs before [] k i f e h s n = absurd (cc)
clean_at fs before (g ∷ rest) zero i f e h s n =
    let alike : g ≡ f = cc in
    let r = nil3 (clash_rules before g) (in_function fs before g) (in_functions fs (before ++ g ∷ []) rest) h in
    record {
      before = before;
      rest = rest;
      whole = e ∙ ap (λ (x : FunctionTree). before ++ x ∷ rest) alike;
      count = omega (arith, n);
      apart_from = subst (λ (x : FunctionTree). clash_rules before x ≡ []) alike r.0;
      inside = subst (λ (x : FunctionTree). in_function fs before x ≡ []) alike r.1;
    }
clean_at fs before (g ∷ rest) (suc k) i f e h s n =
    let r = nil3 (clash_rules before g) (in_function fs before g) (in_functions fs (before ++ g ∷ []) rest) h in
    clean_at fs (before ++ g ∷ []) rest k i f (e ∙ sym (append_assoc before (g ∷ []) rest)) r.2 s (omega (arith, longer before g, n))

get_front : (before tail : List FunctionTree) (i : ℕ) → i < length before → slice_get (before ++ tail) i ≡ slice_get before i
get_front [] tail i l = absurd (omega arith)
get_front (g ∷ before) tail zero l = refl
get_front (g ∷ before) tail (suc i) l = get_front before tail i (omega arith)

standing_at : (q : FunctionTree → Bool) (n : Name) (gs : List FunctionTree) (k : ℕ) (f : FunctionTree) → list_all q (filter (is_named n) gs) ≡ true → slice_get gs k ≡ Some f → bytes_eq f.name n ≡ true → q f ≡ true
standing_at q n [] k f h s m = absurd (cc)
standing_at q n (g ∷ gs) zero f h s m =
    let alike : g ≡ f = cc in
    let named : bytes_eq g.name n ≡ true = ap (λ (x : FunctionTree). bytes_eq x.name n) alike ∙ m in
    let here = subst (λ (b : Bool). list_all q (if b then g ∷ filter (is_named n) gs else filter (is_named n) gs) ≡ true) named h in
    ap q (sym alike) ∙ (both (q g) (list_all q (filter (is_named n) gs)) here).0
standing_at q n (g ∷ gs) (suc k) f h s m = go (bytes_eq g.name n) h (λ w. standing_at q n gs k f w s m)
  where
    go : (b : Bool) → list_all q (if b then g ∷ filter (is_named n) gs else filter (is_named n) gs) ≡ true → (list_all q (filter (is_named n) gs) ≡ true → q f ≡ true) → q f ≡ true
    go true w again = again (both (q g) (list_all q (filter (is_named n) gs)) w).1
    go false w again = again w

together_at : (fs : List FunctionTree) → in_functions fs [] fs ≡ [] → (i j : ℕ) (f g : FunctionTree) → i < j → slice_get fs i ≡ Some f → slice_get fs j ≡ Some g → f.name ≡ g.name → MayStandTogether f g
together_at fs h i j f g l s t e =
    let C = clean_at fs [] fs j j g refl h t (omega arith) in
    let n = C.count in
    let front : slice_get C.before i ≡ Some f = sym (get_front C.before (g ∷ C.rest) i (omega (arith, n, l))) ∙ ap (λ (gs : List FunctionTree). slice_get gs i) (sym C.whole) ∙ s in
    may_share f g (standing_at (may_stand_together g) g.name C.before i f (holds (list_all (may_stand_together g) (filter (is_named g.name) C.before)) C6 g.site C.apart_from) front (ap (bytes_eq f.name) (sym e) ∙ itself f.name))

-- ---- called names

named_listed : (gs : List FunctionTree) (name : Name) → is_some (first_named gs name) ≡ true → has_name (all_names gs) name ≡ true
named_listed [] name h = absurd (cc)
named_listed (g ∷ gs) name h = go (bytes_eq g.name name) refl h (named_listed gs name)
  where
    go : (b : Bool) → bytes_eq g.name name ≡ b → is_some (if b then Some g else first_named gs name) ≡ true → (is_some (first_named gs name) ≡ true → has_name (all_names gs) name ≡ true) → (bytes_eq name g.name || has_name (all_names gs) name) ≡ true
    go true e k again = λ i. (flip name g.name ∙ e) i || has_name (all_names gs) name
    go false e k again = (λ i. (flip name g.name ∙ e) i || has_name (all_names gs) name) ∙ again k

calls_of : (fs before : List FunctionTree) (f : FunctionTree) (P : Name → Type 0)
    → ((name : Name) (bs : List (Option Base)) (results : ℕ) (site : Site) → call_rules (record { functions = fs; before = before; inline = f.inline; listed = names_in f }) name bs results site ≡ [] → P name)
    → in_function fs before f ≡ [] → CallsInFunction P f
calls_of fs before f P rule h =
    let place : Place = record { functions = fs; before = before; inline = f.inline; listed = names_in f } in
    let start = a.with_names (a.param_names f.params) a.no_names in
    let known = known_params f.params none_known in
    let body = a.in_block place f.body start known in
    let values = a.in_values place f.values (a.bound_behind f.body start) body.known in
    let r = nil5 (repeated_params f.params) body.violations values.violations (unless (length values.bases == length f.results) C3 f.ends) (unless (values_fit values.bases f.results) C4 f.ends) h in
    (calls_block place P rule f.body start known r.1, calls_all place P rule f.values (a.bound_behind f.body start) body.known r.2)

-- ---- inline functions

record FirstAt (gs : List FunctionTree) (name : Name) (j : ℕ) (o : Option FunctionTree) : Type 0 where
  at : ℕ
  function : FunctionTree
  no_later : at ≤ j
  there : slice_get gs at ≡ Some function
  is : o ≡ Some function
  named : bytes_eq function.name name ≡ true

first_at : (gs : List FunctionTree) (name : Name) (j : ℕ) (h : FunctionTree) → slice_get gs j ≡ Some h → bytes_eq h.name name ≡ true → FirstAt gs name j (first_named gs name)
first_at [] name j h s m = absurd (cc)
first_at (g ∷ gs) name zero h s m =
    let alike : g ≡ h = cc in
    let named : bytes_eq g.name name ≡ true = ap (λ (x : FunctionTree). bytes_eq x.name name) alike ∙ m in
    record { at = 0; function = g; no_later = omega arith; there = refl; is = ap (λ (b : Bool). if b then Some g else first_named gs name) named; named = named }
first_at (g ∷ gs) name (suc j) h s m = go (bytes_eq g.name name) refl (first_at gs name j h s m)
  where
    go : (b : Bool) → bytes_eq g.name name ≡ b → FirstAt gs name j (first_named gs name) → FirstAt (g ∷ gs) name (suc j) (if b then Some g else first_named gs name)
    go true e w = record { at = 0; function = g; no_later = omega arith; there = refl; is = refl; named = e }
    go false e w = let l = w.no_later in record { at = suc w.at; function = w.function; no_later = omega arith; there = w.there; is = w.is; named = w.named }

some_counted : (gs : List FunctionTree) (name : Name) (j : ℕ) (h : FunctionTree) → slice_get gs j ≡ Some h → bytes_eq h.name name ≡ true → 0 < count_named gs name
some_counted [] name j h s m = absurd (cc)
some_counted (g ∷ gs) name zero h s m =
    let alike : g ≡ h = cc in
    let named : bytes_eq g.name name ≡ true = ap (λ (x : FunctionTree). bytes_eq x.name name) alike ∙ m in
    subst (λ (b : Bool). 0 < length (if b then g ∷ filter (is_named name) gs else filter (is_named name) gs)) (sym named) (omega arith)
some_counted (g ∷ gs) name (suc j) h s m = go (bytes_eq g.name name) (some_counted gs name j h s m)
  where
    go : (b : Bool) → 0 < length (filter (is_named name) gs) → 0 < length (if b then g ∷ filter (is_named name) gs else filter (is_named name) gs)
    go true w = omega arith
    go false w = w

counted_before : (before tail : List FunctionTree) (name : Name) (j : ℕ) (h : FunctionTree) → slice_get (before ++ tail) j ≡ Some h → bytes_eq h.name name ≡ true → count_named (before ++ tail) name ≡ count_named before name → j < length before
counted_before [] tail name j h s m e = absurd (let w = some_counted tail name j h s m in omega (arith, e, w))
counted_before (g ∷ before) tail name zero h s m e = omega arith
counted_before (g ∷ before) tail name (suc j) h s m e = go (bytes_eq g.name name) e (counted_before before tail name j h s m)
  where
    go : (b : Bool) → length (if b then g ∷ filter (is_named name) (before ++ tail) else filter (is_named name) (before ++ tail)) ≡ length (if b then g ∷ filter (is_named name) before else filter (is_named name) before)
        → (length (filter (is_named name) (before ++ tail)) ≡ length (filter (is_named name) before) → j < length before) → suc j < suc (length before)
    go true q again = let w = again (omega (arith, q)) in omega (arith, w)
    go false q again = let w = again q in omega (arith, w)

third_of : (x y z : Bool) → x ≡ true → y ≡ true → (not x || not y || z) ≡ true → z ≡ true
third_of true true z e q h = h
third_of true false z e q h = absurd (cc)
third_of false y z e q h = absurd (cc)

inline_before : (fs : List FunctionTree) → in_functions fs [] fs ≡ [] → (i : ℕ) (f : FunctionTree) (C : CleanAt fs i f) (inner : f.inline ≡ true) → (name : Name) (bs : List (Option Base)) (results : ℕ) (site : Site)
    → call_rules (record { functions = fs; before = C.before; inline = f.inline; listed = names_in f }) name bs results site ≡ [] → StandsBefore fs i name
inline_before fs c i f C inner name bs results site h j g s m k =
    let place : Place = record { functions = fs; before = C.before; inline = f.inline; listed = names_in f } in
    let o = first_named fs name in
    let q = nil4 (unless (is_some o) C2 site) (unless (numbers_fit o (length bs) results) C3 site) (unless (not (is_some o) || some_takes fs name (all_known bs)) C4 site) (unless (stands_earlier place name) C8 site) h in
    let F = first_at fs name j g s m in
    let first_inline : F.function.inline ≡ true = which F (before_or_same F.at j F.no_later) in
    let e = third_of f.inline (is_inline o) (count_named fs name == count_named C.before name) inner (ap is_inline F.is ∙ first_inline) (holds (stands_earlier place name) C8 site q.3) in
    let n = C.count in
    let same : count_named (C.before ++ f ∷ C.rest) name ≡ count_named C.before name = ap (λ (gs : List FunctionTree). count_named gs name) (sym C.whole) ∙ eqb-true (count_named fs name) (count_named C.before name) e in
    let w = counted_before C.before (f ∷ C.rest) name j g (ap (λ (gs : List FunctionTree). slice_get gs j) (sym C.whole) ∙ s) m same in
    omega (arith, n, w)
  where
    before_or_same : (x y : ℕ) → x ≤ y → (x < y) ⊎ (x ≡ y)
    before_or_same x y l = grind arith

    which : (F : FirstAt fs name j (first_named fs name)) → (F.at < j) ⊎ (F.at ≡ j) → F.function.inline ≡ true
    which F (inl l) = (together_at fs c F.at j F.function g l F.there s (same_name F.function.name name F.named ∙ sym (same_name g.name name m))).inlines ∙ k
    which F (inr e) = let alike : F.function ≡ g = (let t = F.there in let u : slice_get fs F.at ≡ slice_get fs j = ap (slice_get fs) e in cc) in ap (λ (x : FunctionTree). x.inline) alike ∙ k

-- ---- programs

pub accepted_standing : (p : ProgramTree) → length p.functions < 2 ^ 32 → IsAccepted p → IsStanding p
accepted_standing p few h =
    let fs = p.functions in
    let mains = filter (is_named main_name) fs in
    let r = nil2 (in_functions fs [] fs) (main_rules fs p.end) h in
    let m = nil2 (main_count mains p.end) (flat_map outer mains) r.1 in
    record {
      few = few;
      main = λ place f e s.
          let w = position_at is_main fs place e in
          let t = w.there in
          let alike : w.function ≡ f = cc in
          not_inline fs place f m.1 s (ap is_main (sym alike) ∙ w.passes);
      called = λ i f s.
          let C = clean_at fs [] fs i i f refl r.0 s (omega arith) in
          calls_of fs C.before f (λ x. has_name (all_names fs) x ≡ true) (λ name bs results site q.
          named_listed fs name (holds (is_some (first_named fs name)) C2 site (nil4 (unless (is_some (first_named fs name)) C2 site) (unless (numbers_fit (first_named fs name) (length bs) results) C3 site) (unless (not (is_some (first_named fs name)) || some_takes fs name (all_known bs)) C4 site) (unless (stands_earlier (record { functions = fs; before = C.before; inline = f.inline; listed = names_in f }) name) C8 site) q).0)) C.inside;
      backward = λ i f s inner.
          let C = clean_at fs [] fs i i f refl r.0 s (omega arith) in
          calls_of fs C.before f (StandsBefore fs i) (inline_before fs r.0 i f C inner) C.inside;
      together = together_at fs r.0;
    }
