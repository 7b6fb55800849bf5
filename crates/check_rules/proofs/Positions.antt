-- Where items stand in a list.
use Rattle.std.proofs.Common.{◌≡◌, ℕ, zero, suc, ◌+◌, ◌<◌, ◌≤◌, List, [], ◌∷◌, ◌++◌, length, take, drop, get_or, Bool, true, false, Option, Some, None, refl, sym, ap, ◌∙◌, true≢false, slice_get, bytes_eq, is_some, if◌then◌else◌, ◌&&◌, arith, option_copied}
use Rattle.std.specs.Prelude.{not, ◌||◌, find, option_map, nat_lt, filter, ◌==◌}
use Rattle.sac_base.specs.declared.base.Base.{Base}
use Rattle.sac_base.specs.declared.name.Name.{Name}
use Rattle.sac_ast.specs.declared.Function.{Function}
use Rattle.sac_ast.specs.Tree.{FunctionTree}
use Rattle.sac_ast.specs.View.{function, functions}
use Rattle.sac_ast.specs.Bases.{first_named, counts_beside, bases_of_params, all_known, takes_bases, instance_by}
use Rattle.check_rules.specs.Accepted.{is_named, count_named, is_inline, numbers_fit, some_takes, Place}
use Rattle.check_rules.specs.Groups.{next_place, first_place, or_here, last_place, is_below, kept_first, with_first, with_last, takes_beside, has_each}
use Rattle.check_rules.specs.First.{earlier, unless}
use Rattle.check_rules.specs.Walk.{call_rules}
use Rattle.std.proofs.lemmas.List.{map-append, take_more, take_all, length-map, length-take-le}
use Rattle.std.proofs.lemmas.Option.{slice_get_past, slice_get-get_or}
use Rattle.std.specs.Prelude.{IfSome}
use Rattle.std.specs.List.{list_any}
use Rattle.std.proofs.Math.Dec.{eqb-suc-suc, eqb-suc-zero, leb-suc-suc}
use Rattle.sac_base.specs.declared.site.Site.{Site}
use Rattle.check_rules.specs.declared.code.CheckCode.TheVariants.{C2, C3, C4, C8}
use borrow.Author.Tests.{ltb-true, ltb-false, le-ltb, lt-ltb}
use denote.Ref.{Bor}

abbrev first_behind : Option ℕ → Bool → ℕ → Option ℕ
first_behind (Some k) here n = Some k
first_behind None true n = Some n
first_behind None false n = None

module _ {A : Type 0} where
  abbrev pub at_place : List A → Option ℕ → Option A
  at_place xs None = None
  at_place xs (Some k) = slice_get xs k

  abbrev pub found_from : (A → Bool) → List A → Option ℕ → Option A
  found_from test xs None = None
  found_from test xs (Some k) = find test (drop k xs)

  pub find_is : (test : A → Bool) (xs : List A) → find test xs ≡ at_place xs (first_place test xs)
  find_is test [] = refl
  find_is test (x ∷ xs) = by (test x) (first_place test xs) (find_is test xs)
    where
      by : (b : Bool) (r : Option ℕ) → find test xs ≡ at_place xs r → (if b then Some x else find test xs) ≡ at_place (x ∷ xs) (if b then Some 0 else next_place r)
      by true r h = refl
      by false None h = h
      by false (Some k) h = h

  pub find_later : (test more : A → Bool) → ((x : A) → more x ≡ true → test x ≡ true) → (xs : List A) → find more xs ≡ found_from more xs (first_place test xs)
  find_later test more implies [] = refl
  find_later test more implies (x ∷ xs) = by (test x) refl (more x) refl (first_place test xs) (find_later test more implies xs)
    where
      by : (b : Bool) → test x ≡ b → (c : Bool) → more x ≡ c → (r : Option ℕ) → find more xs ≡ found_from more xs r
          → (if c then Some x else find more xs) ≡ found_from more (x ∷ xs) (if b then Some 0 else next_place r)
      by true e c f r h = ap (λ c. if c then Some x else find more xs) (sym f)
      by false e true f r h = absurd (true≢false (sym (implies x f) ∙ e))
      by false e false f None h = h
      by false e false f (Some k) h = h

  pub position_behind : (test : A → Bool) (xs : List A) (x : A) → first_place test (xs ++ x ∷ []) ≡ first_behind (first_place test xs) (test x) (length xs)
  position_behind test [] x = by (test x)
    where
      by : (b : Bool) → (if b then Some 0 else next_place None) ≡ first_behind None b 0
      by true = refl
      by false = refl
  position_behind test (y ∷ xs) x = ap (λ r. if test y then Some 0 else next_place r) (position_behind test xs x) ∙ by (test y) (first_place test xs) (test x)
    where
      by : (b : Bool) (r : Option ℕ) (c : Bool) → (if b then Some 0 else next_place (first_behind r c (length xs))) ≡ first_behind (if b then Some 0 else next_place r) c (suc (length xs))
      by true r c = refl
      by false (Some k) c = refl
      by false None true = refl
      by false None false = refl

  pub last_behind : (test : A → Bool) (xs : List A) (x : A) → last_place test (xs ++ x ∷ []) ≡ (if test x then Some (length xs) else last_place test xs)
  last_behind test [] x = by (test x)
    where
      by : (b : Bool) → or_here None b ≡ (if b then Some 0 else None)
      by true = refl
      by false = refl
  last_behind test (y ∷ xs) x = ap (λ r. or_here r (test y)) (last_behind test xs x) ∙ by (test x) (last_place test xs) (test y)
    where
      by : (b : Bool) (r : Option ℕ) (c : Bool) → or_here (if b then Some (length xs) else r) c ≡ (if b then Some (suc (length xs)) else or_here r c)
      by true r c = refl
      by false r c = refl

-- ---- the functions of a program

pub next_functions : (fs : List Function) (k : ℕ) (d : Function) → k < length fs → functions (take (k + 1) fs) ≡ functions (take k fs) ++ function (get_or fs k d) ∷ []
next_functions fs k d h = ap functions (take_more fs k d h) ∙ map-append function (take k fs) (get_or fs k d ∷ [])

length_so_far : (fs : List Function) (k : ℕ) → k ≤ length fs → length (functions (take k fs)) ≡ k
length_so_far fs k h = length-map (take k fs) function ∙ length-take-le k fs h

pub first_noted : (fs : List Function) (k : ℕ) (f : Function) (old new : Name → Option ℕ) → k < length fs → f ≡ get_or fs k f → new ≡ with_first f.name k old
    → ((name : Name) → old name ≡ first_place (is_named name) (functions (take k fs))) → (name : Name) → new name ≡ first_place (is_named name) (functions (take (k + 1) fs))
first_noted fs k f old new h e more before name =
    ap (λ (p : Name → Option ℕ). p name) more
    ∙ ap (λ r. if bytes_eq f.name name then kept_first r k else r) (before name)
    ∙ by (bytes_eq f.name name) (first_place (is_named name) (functions (take k fs)))
    ∙ ap (first_behind (first_place (is_named name) (functions (take k fs))) (bytes_eq f.name name)) (sym (length_so_far fs k (omega arith)))
    ∙ sym (position_behind (is_named name) (functions (take k fs)) (function f))
    ∙ ap (first_place (is_named name)) (sym (next_functions fs k f h ∙ ap (λ x. functions (take k fs) ++ function x ∷ []) (sym e)))
  where
    by : (b : Bool) (r : Option ℕ) → (if b then kept_first r k else r) ≡ first_behind r b k
    by true None = refl
    by true (Some j) = refl
    by false None = refl
    by false (Some j) = refl

pub last_noted : (fs : List Function) (k : ℕ) (f : Function) (old new : Name → Option ℕ) → k < length fs → f ≡ get_or fs k f → new ≡ with_last f.name k old
    → ((name : Name) → old name ≡ last_place (is_named name) (functions (take k fs))) → (name : Name) → new name ≡ last_place (is_named name) (functions (take (k + 1) fs))
last_noted fs k f old new h e more before name =
    ap (λ (p : Name → Option ℕ). p name) more
    ∙ (λ i. if bytes_eq f.name name then Some (sym (length_so_far fs k (omega arith)) i) else before name i)
    ∙ sym (last_behind (is_named name) (functions (take k fs)) (function f))
    ∙ ap (last_place (is_named name)) (sym (next_functions fs k f h ∙ ap (λ x. functions (take k fs) ++ function x ∷ []) (sym e)))

pub all_functions : (fs : List Function) (k : ℕ) → length fs ≤ k → functions (take k fs) ≡ functions fs
all_functions fs k h = ap functions (take_all k fs h)

pub function_at : (fs : List Function) (k : ℕ) → option_map function (slice_get fs k) ≡ slice_get (functions fs) k
function_at [] zero = refl
function_at [] (suc k) = refl
function_at (f ∷ fs) zero = refl
function_at (f ∷ fs) (suc k) = function_at fs k

pub functions_behind : (fs : List Function) (k : ℕ) → functions (drop k fs) ≡ drop k (functions fs)
functions_behind fs zero = refl
functions_behind [] (suc k) = refl
functions_behind (f ∷ fs) (suc k) = functions_behind fs k

pub taken_later : (first : Option FunctionTree) (name : Name) (bs : List (Option Base)) (fs : List FunctionTree)
    → find (takes_beside first name bs) fs ≡ found_from (takes_beside first name bs) fs (first_place (is_named name) fs)
taken_later first name bs fs = find_later (is_named name) (takes_beside first name bs) (λ f h. by (bytes_eq f.name name) f h) fs
  where
    by : (b : Bool) (f : FunctionTree) → (b && counts_beside first f && has_each (bases_of_params f) bs) ≡ true → b ≡ true
    by true f h = refl
    by false f h = h

pub option_same : {A B : Type 0} (f : A → B) (r : Option (Bor A)) → option_map (λ (x : Bor A). f x.now) r ≡ option_map f (option_copied r)
option_same f None = refl
option_same f (Some x) = refl

pub read_at : (fs : List Function) (k : ℕ) (r : Option (Bor Function)) → is_some r ≡ nat_lt k (length fs) → IfSome r (λ x. x.now ≡ get_or fs k x.now) → option_map (λ (f : Bor Function). function f.now) r ≡ slice_get (functions fs) k
read_at fs k None e h = sym (ap (option_map function) (slice_get_past fs k (at_least (sym e)))) ∙ function_at fs k
  where
    at_least : nat_lt k (length fs) ≡ false → length fs ≤ k
    at_least f = omega (arith, ltb-false k (length fs) f)
read_at fs k (Some x) e h = ap (λ f. Some (function f)) h ∙ ap (option_map function) (sym (slice_get-get_or fs k x.now (within (sym e)))) ∙ function_at fs k
  where
    within : nat_lt k (length fs) ≡ true → k < length fs
    within f = omega (arith, ltb-true k (length fs) f)

-- ---- calls

abbrev none_placed : Option ℕ → Bool
none_placed None = true
none_placed (Some k) = false

none_counted : (fs : List FunctionTree) (name : Name) → (count_named fs name == 0) ≡ none_placed (last_place (is_named name) fs)
none_counted [] name = refl
none_counted (f ∷ fs) name = by (bytes_eq f.name name) (last_place (is_named name) fs) (none_counted fs name)
  where
    by : (b : Bool) (r : Option ℕ) → (count_named fs name == 0) ≡ none_placed r → (length (if b then f ∷ filter (is_named name) fs else filter (is_named name) fs) == 0) ≡ none_placed (or_here r b)
    by true None h = eqb-suc-zero (count_named fs name)
    by true (Some k) h = eqb-suc-zero (count_named fs name)
    by false None h = h
    by false (Some k) h = h

pub counts_below : (fs : List FunctionTree) (n : ℕ) (name : Name) → (count_named fs name == count_named (take n fs) name) ≡ is_below (last_place (is_named name) fs) n
counts_below [] zero name = refl
counts_below [] (suc n) name = refl
counts_below (f ∷ fs) zero name = none_counted (f ∷ fs) name ∙ nothing_below (last_place (is_named name) (f ∷ fs))
  where
    nothing_below : (r : Option ℕ) → none_placed r ≡ is_below r 0
    nothing_below None = refl
    nothing_below (Some k) = sym (le-ltb k 0 (omega arith))
counts_below (f ∷ fs) (suc n) name = by (bytes_eq f.name name) (last_place (is_named name) fs) (counts_below fs n name)
  where
    by : (b : Bool) (r : Option ℕ) → (count_named fs name == count_named (take n fs) name) ≡ is_below r n
        → (length (if b then f ∷ filter (is_named name) fs else filter (is_named name) fs) == length (if b then f ∷ filter (is_named name) (take n fs) else filter (is_named name) (take n fs))) ≡ is_below (or_here r b) (suc n)
    by true None h = eqb-suc-suc (count_named fs name) (count_named (take n fs) name) ∙ h ∙ sym (lt-ltb 0 (suc n) (omega arith))
    by true (Some k) h = eqb-suc-suc (count_named fs name) (count_named (take n fs) name) ∙ h ∙ sym (leb-suc-suc (suc k) n)
    by false None h = h
    by false (Some k) h = h ∙ sym (leb-suc-suc (suc k) n)

-- the rules of a call, by its tests
pub rules_from : (p : Place) (name : Name) (args : List (Option Base)) (results : ℕ) (site : Site) (first : Option FunctionTree) (t n b o : Bool)
    → first ≡ first_named p.functions name → t ≡ is_some first → n ≡ numbers_fit first (length args) results → b ≡ (not (is_some first) || some_takes p.functions name (all_known args))
    → o ≡ (not p.inline || not (is_inline first) || (count_named p.functions name == count_named p.before name))
    → earlier (earlier (earlier (unless t C2 site) (unless n C3 site)) (unless b C4 site)) (unless o C8 site) ≡ call_rules p name args results site
rules_from p name args results site first t n b o ef et en eb eo =
    (λ i. earlier (earlier (earlier (unless (et i) C2 site) (unless (en i) C3 site)) (unless (eb i) C4 site)) (unless (eo i) C8 site))
    ∙ ap (λ (first : Option FunctionTree). earlier (earlier (earlier (unless (is_some first) C2 site) (unless (numbers_fit first (length args) results) C3 site)) (unless (not (is_some first) || some_takes p.functions name (all_known args)) C4 site))
    (unless (not p.inline || not (is_inline first) || (count_named p.functions name == count_named p.before name)) C8 site)) ef

pub some_found : (fs : List FunctionTree) (name : Name) (bs : Option (List Base)) → (not (is_some bs) || is_some (instance_by fs name bs)) ≡ some_takes fs name bs
some_found fs name None = refl
some_found fs name (Some bs) = found fs
  where
    found : (gs : List FunctionTree) → is_some (find (takes_bases fs name bs) gs) ≡ list_any (takes_bases fs name bs) gs
    found [] = refl
    found (g ∷ gs) = by (takes_bases fs name bs g) (found gs)
      where
        by : (b : Bool) → is_some (find (takes_bases fs name bs) gs) ≡ list_any (takes_bases fs name bs) gs → is_some (if b then Some g else find (takes_bases fs name bs) gs) ≡ (b || list_any (takes_bases fs name bs) gs)
        by true h = refl
        by false h = h
