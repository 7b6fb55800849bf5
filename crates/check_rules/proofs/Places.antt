-- Names in sets, and the places of names on a stack.
use Rattle.std.proofs.Common.{◌≡◌, ℕ, zero, suc, ◌+◌, ◌<◌, ◌≤◌, List, [], ◌∷◌, ◌++◌, length, take, drop, get_or, Bool, true, false, ◌||◌, ◌&&◌, if◌then◌else◌, Option, Some, None, refl, sym, ap, ◌∙◌, subst, slice_get, is_some, option_copied, true≢false, bytes_eq}
use Rattle.std.specs.List.{list_any}
use Rattle.std.proofs.lemmas.Slice.Eq.{bytes_eq-Decides}
use Rattle.std.proofs.lemmas.List.Folds.{list_any-append}
use Rattle.std.proofs.lemmas.List.{drop_more, drop_all}
use Rattle.indexmap.specs.IndexSet.{insert_key}
use Rattle.sac_base.specs.declared.name.Name.{Name}
use Rattle.indexmap.specs.IndexMap.{IndexMap}
use Rattle.sac_base.specs.declared.base.Base.{Base}
use Rattle.check_rules.specs.Accepted.{with_names, target_names, param_names, Names, Known, bind, bound_first}
use Rattle.sac_ast.specs.declared.Target.{Target}
use Rattle.sac_ast.specs.declared.Param.{Param}
use Rattle.check_rules.specs.Groups.{with_first, kept_first}
use Rattle.check_rules.specs.Tables.{among, with_common, place_of, IsPlaced}
use denote.Ref.{Bor}

-- ---- texts

pub same_text : (a b : List ℕ) → bytes_eq a b ≡ true → a ≡ b
same_text a b h = (bytes_eq-Decides a b).0 h

pub text_itself : (a : List ℕ) → bytes_eq a a ≡ true
text_itself a = (bytes_eq-Decides a a).1 refl

pub text_turned : (a b : List ℕ) → bytes_eq a b ≡ bytes_eq b a
text_turned a b = by (bytes_eq a b) (bytes_eq b a) refl refl
  where
    by : (x y : Bool) → bytes_eq a b ≡ x → bytes_eq b a ≡ y → x ≡ y
    by true true e f = refl
    by false false e f = refl
    by true false e f = absurd (true≢false (sym (text_itself a) ∙ ap (λ t. bytes_eq t a) (same_text a b e) ∙ f))
    by false true e f = absurd (true≢false (sym (text_itself b) ∙ ap (λ t. bytes_eq t b) (same_text b a f) ∙ e))

or_false : (a b : Bool) → (a || b) ≡ (b || a)
or_false true true = refl
or_false true false = refl
or_false false true = refl
or_false false false = refl

or_none : (a : Bool) → (a || false) ≡ a
or_none true = refl
or_none false = refl

or_there : (a b : Bool) → (a ≡ true → b ≡ true) → b ≡ (a || b)
or_there true b h = h refl
or_there false b h = refl

or_true : (a b : Bool) → b ≡ true → (a || b) ≡ true
or_true true b h = refl
or_true false b h = h

and_turned : (a b : Bool) → (a && b) ≡ (b && a)
and_turned true true = refl
and_turned true false = refl
and_turned false true = refl
and_turned false false = refl

pub none_copied : {A : Type 0} (r : Option (Bor A)) → is_some r ≡ false → option_copied r ≡ None
none_copied None h = refl
none_copied (Some x) h = absurd (true≢false h)

-- ---- sets

among_found : (texts : List (Bor (List ℕ))) (name : Name) (text : List ℕ) → bytes_eq name text ≡ true → list_any (λ (k : Bor (List ℕ)). bytes_eq text k.now) texts ≡ true → among texts name ≡ true
among_found texts name text e h = ap (among texts) (same_text name text e) ∙ h

-- a set with one more name
pub inserted : (texts : List (Bor (List ℕ))) (text : Bor (List ℕ)) (other : Name)
    → among (insert_key (λ (x y : Bor (List ℕ)). bytes_eq x.now y.now) texts text) other ≡ with_names (text.now ∷ []) (among texts) other
inserted texts text other = by (among texts text.now) refl
  where
    by : (b : Bool) → among texts text.now ≡ b → among (if b then texts else texts ++ text ∷ []) other ≡ ((bytes_eq other text.now || false) || among texts other)
    by true e =
        or_there (bytes_eq other text.now) (among texts other) (λ h. among_found texts other text.now h e)
        ∙ ap (λ b. b || among texts other) (sym (or_none (bytes_eq other text.now)))
    by false e = list_any-append (λ (k : Bor (List ℕ)). bytes_eq other k.now) texts (text ∷ []) ∙ or_false (among texts other) (bytes_eq other text.now || false)

-- ---- bindings

cond_is : {A : Type 0} (b c : Bool) (x y z : A) → b ≡ c → (b ≡ true → x ≡ z) → (if b then x else y) ≡ (if c then z else y)
cond_is true true x y z e h = h refl
cond_is false false x y z e h = refl
cond_is true false x y z e h = absurd (true≢false e)
cond_is false true x y z e h = absurd (true≢false (sym e))

pub bound_new : (known : Known) (name : Name) (b : Option Base) → known name ≡ None → (other : Name) → (if bytes_eq name other then Some b else known other) ≡ bind name b known other
bound_new known name b none other =
    cond_is (bytes_eq name other) (bytes_eq other name) (Some b) (known other) (bound_first (known other) b) (text_turned name other)
    (λ e. ap (λ r. bound_first r b) (sym none ∙ ap known (same_text name other e)))

pub bound_before : (known : Known) (name : Name) (b : Option Base) → is_some (known name) ≡ true → known ≡ bind name b known
bound_before known name b there = λ i other. by (bytes_eq other name) refl (known other) refl i
  where
    by : {other : Name} (c : Bool) → bytes_eq other name ≡ c → (r : Option (Option Base)) → known other ≡ r → known other ≡ (if c then bound_first (known other) b else known other)
    by {other} true e None f = absurd (true≢false (sym there ∙ ap is_some (ap known (sym (same_text other name e)) ∙ f)))
    by {other} true e (Some x) f = f ∙ ap (λ r. bound_first r b) (sym f)
    by {other} false e r f = refl

-- ---- items of lists

get_kept : {A : Type 0} (xs ys : List A) (k : ℕ) (x : A) → slice_get xs k ≡ Some x → slice_get (xs ++ ys) k ≡ Some x
get_kept [] ys k x h = cc
get_kept (y ∷ xs) ys zero x h = h
get_kept (y ∷ xs) ys (suc k) x h = get_kept xs ys k x h

get_on_top : {A : Type 0} (xs : List A) (y : A) (k : ℕ) (x : A) → slice_get xs k ≡ None → slice_get (xs ++ y ∷ []) k ≡ Some x → (k ≡ length xs) × (x ≡ y)
get_on_top [] y zero x h e = (refl, cc)
get_on_top [] y (suc k) x h e = cc
get_on_top (z ∷ xs) y zero x h e = cc
get_on_top (z ∷ xs) y (suc k) x h e = let later = get_on_top xs y k x h e in (ap suc later.0, later.1)

get_below : {A : Type 0} (xs : List A) (mark k : ℕ) (x : A) → slice_get (take mark xs) k ≡ Some x → slice_get xs k ≡ Some x
get_below [] zero k x h = h
get_below [] (suc mark) k x h = h
get_below (y ∷ xs) zero k x h = cc
get_below (y ∷ xs) (suc mark) zero x h = h
get_below (y ∷ xs) (suc mark) (suc k) x h = get_below xs mark k x h

-- ---- places

any_at : (texts : List (Bor (List ℕ))) (name : Name) → among texts name ≡ true → (k : ℕ) × (text : Bor (List ℕ)) × (slice_get texts k ≡ Some text) × (bytes_eq name text.now ≡ true)
any_at [] name h = absurd (true≢false (sym h))
any_at (t ∷ ts) name h = by (bytes_eq name t.now) refl (any_at ts name)
  where
    by : (b : Bool) → bytes_eq name t.now ≡ b → (among ts name ≡ true → (k : ℕ) × (text : Bor (List ℕ)) × (slice_get ts k ≡ Some text) × (bytes_eq name text.now ≡ true))
        → (k : ℕ) × (text : Bor (List ℕ)) × (slice_get (t ∷ ts) k ≡ Some text) × (bytes_eq name text.now ≡ true)
    by true e rest = (0, t, refl, e)
    by false e rest = let later = rest (sym (ap (λ b. b || among ts name) e) ∙ h) in (suc later.0, later.1, later.2, later.3)

at_any : (texts : List (Bor (List ℕ))) (name : Name) (k : ℕ) (text : Bor (List ℕ)) → slice_get texts k ≡ Some text → bytes_eq name text.now ≡ true → among texts name ≡ true
at_any [] name k text h e = cc
at_any (t ∷ ts) name zero text h e = let same : t ≡ text = cc in ap (λ b. b || among ts name) (ap (λ (x : Bor (List ℕ)). bytes_eq name x.now) same ∙ e)
at_any (t ∷ ts) name (suc k) text h e = or_true (bytes_eq name t.now) (among ts name) (at_any ts name k text h e)

-- the text at a place is the name
abbrev pub stands_at : Name → Option (Bor (List ℕ)) → Bool
stands_at name None = false
stands_at name (Some text) = bytes_eq text.now name

abbrev pub stands_by : List (Bor (List ℕ)) → Name → Option ℕ → Bool
stands_by texts name None = false
stands_by texts name (Some k) = stands_at name (slice_get texts k)

module _ {S : Type 0} (texts : List (Bor (List ℕ))) (places : IndexMap (Bor (List ℕ)) ℕ S) (placed : IsPlaced texts places) where
  pub among_is : (name : Name) → stands_by texts name (place_of places name) ≡ among texts name
  among_is name = by (among texts name) refl
    where
      there : among texts name ≡ true → stands_by texts name (place_of places name) ≡ true
      there h =
          let found = any_at texts name h in
          let same = same_text name found.1.now found.3 in
          let placed' = ap (place_of places) same ∙ placed found.0 found.1 found.2 in
          ap (stands_by texts name) placed' ∙ ap (stands_at name) found.2 ∙ text_turned found.1.now name ∙ found.3

      at_place : (r : Option (Bor (List ℕ))) (k : ℕ) → slice_get texts k ≡ r → among texts name ≡ false → stands_at name r ≡ false
      at_place None k e h = refl
      at_place (Some text) k e h = is (bytes_eq text.now name) refl
        where
          is : (b : Bool) → bytes_eq text.now name ≡ b → b ≡ false
          is true f = absurd (true≢false (sym (at_any texts name k text e (text_turned name text.now ∙ f)) ∙ h))
          is false f = refl

      nowhere : (r : Option ℕ) → among texts name ≡ false → stands_by texts name r ≡ false
      nowhere None h = refl
      nowhere (Some k) h = at_place (slice_get texts k) k refl h

      by : (b : Bool) → among texts name ≡ b → stands_by texts name (place_of places name) ≡ b
      by true h = there h
      by false h = nowhere (place_of places name) h

  module _ (name : List ℕ) (more : IndexMap (Bor (List ℕ)) ℕ S) (absent : among texts name ≡ false)
      (updated : (other : List ℕ) → place_of more other ≡ (if bytes_eq name other then Some (length texts) else place_of places other)) where
    -- a name that is not on the stack has its place beside it
    pub placed_beside : IsPlaced texts more
    placed_beside k text e = updated text.now ∙ ap (λ b. if b then Some (length texts) else place_of places text.now) other ∙ placed k text e
      where
        other : bytes_eq name text.now ≡ false
        other = is (bytes_eq name text.now) refl
          where
            is : (b : Bool) → bytes_eq name text.now ≡ b → b ≡ false
            is true f = absurd (true≢false (sym (at_any texts name k text e f) ∙ absent))
            is false f = refl

    pub placed_on_top : (text : Bor (List ℕ)) → text.now ≡ name → IsPlaced (texts ++ text ∷ []) more
    placed_on_top text same k t e = by (slice_get texts k) refl
      where
        by : (r : Option (Bor (List ℕ))) → slice_get texts k ≡ r → place_of more t.now ≡ Some k
        by (Some u) f = placed_beside k t (f ∙ sym (get_kept texts (text ∷ []) k u f) ∙ e)
        by None f =
            let top = get_on_top texts text k t f e in
            updated t.now ∙ ap (λ b. if b then Some (length texts) else place_of places t.now) (ap (bytes_eq name) (ap (λ (x : Bor (List ℕ)). x.now) top.1 ∙ same) ∙ text_itself name) ∙ ap (λ n. Some n) (sym top.0)

    pub placed_either : (text : Bor (List ℕ)) → (after : List (Bor (List ℕ))) (b : Bool) → text.now ≡ name → after ≡ (if b then texts ++ text ∷ [] else texts) → IsPlaced after more
    placed_either text after true same e = subst (λ (ts : List (Bor (List ℕ))). IsPlaced ts more) (sym e) (placed_on_top text same)
    placed_either text after false same e = subst (λ (ts : List (Bor (List ℕ))). IsPlaced ts more) (sym e) placed_beside

-- what is left of a stack
pub placed_below : {S : Type 0} (texts : List (Bor (List ℕ))) (places : IndexMap (Bor (List ℕ)) ℕ S) (mark : ℕ) → IsPlaced texts places → IsPlaced (take mark texts) places
placed_below texts places mark placed k text e = placed k text (get_below texts mark k text e)

-- ---- loops over names

drop_at : (texts : List (Bor (List ℕ))) (k : ℕ) (text : Bor (List ℕ)) (other : Name) → k < length texts → text ≡ get_or texts k text
    → among (drop k texts) other ≡ (bytes_eq other text.now || among (drop (k + 1) texts) other)
drop_at texts k text other h e = ap (λ ts. among ts other) (drop_more texts k text h ∙ ap (λ t. t ∷ drop (k + 1) texts) (sym e))

shuffled : (b h rest : Bool) → (((b || false) || h) || rest) ≡ (h || (b || rest))
shuffled true true rest = refl
shuffled true false rest = refl
shuffled false h rest = refl

pub since_step : (keys texts : List (Bor (List ℕ))) (k : ℕ) (text : Bor (List ℕ)) (other : Name) → k < length texts → text ≡ get_or texts k text
    → (among (insert_key (λ (x y : Bor (List ℕ)). bytes_eq x.now y.now) keys text) other || among (drop (k + 1) texts) other) ≡ (among keys other || among (drop k texts) other)
since_step keys texts k text other h e =
    ap (λ b. b || among (drop (k + 1) texts) other) (inserted keys text other)
    ∙ shuffled (bytes_eq other text.now) (among keys other) (among (drop (k + 1) texts) other)
    ∙ ap (λ b. among keys other || b) (sym (drop_at texts k text other h e))

pub since_end : (keys texts : List (Bor (List ℕ))) (k : ℕ) (other : Name) → length texts ≤ k → (among keys other || among (drop k texts) other) ≡ among keys other
since_end keys texts k other h = ap (λ ts. among keys other || among ts other) (drop_all k texts h) ∙ or_none (among keys other)

common_found : (b t rest f : Bool) → (b ≡ true → f ≡ true) → (((b || false) || t) || (rest && f)) ≡ (t || ((b || rest) && f))
common_found true true rest f h = refl
common_found true false rest f h = sym (h refl)
common_found false t rest f h = refl

common_missed : (b t rest f : Bool) → (b ≡ true → f ≡ false) → (t || (rest && f)) ≡ (t || ((b || rest) && f))
common_missed true t true f h = refl
common_missed true t false f h = ap (λ x. t || x) (sym (h refl))
common_missed false t rest f h = refl

module _ (first : Names) (texts : List (Bor (List ℕ))) (k : ℕ) (text : Bor (List ℕ)) (h : k < length texts) (e : text ≡ get_or texts k text) (other : Name) where
  first_at : (b : Bool) → first text.now ≡ b → bytes_eq other text.now ≡ true → first other ≡ b
  first_at b f same = ap first (same_text other text.now same) ∙ f

  pub common_step : (old new : Names) → first text.now ≡ true → new ≡ with_names (text.now ∷ []) old → with_common first (among (drop (k + 1) texts)) new other ≡ with_common first (among (drop k texts)) old other
  common_step old new f more =
      ap (λ (names : Names). names other || (first other && among (drop (k + 1) texts) other)) more
      ∙ ap (λ b. ((bytes_eq other text.now || false) || old other) || b) (and_turned (first other) (among (drop (k + 1) texts) other))
      ∙ common_found (bytes_eq other text.now) (old other) (among (drop (k + 1) texts) other) (first other) (first_at true f)
      ∙ ap (λ b. old other || b) (and_turned (bytes_eq other text.now || among (drop (k + 1) texts) other) (first other))
      ∙ ap (λ b. old other || (first other && b)) (sym (drop_at texts k text other h e))

  pub common_skip : (old : Names) → first text.now ≡ false → with_common first (among (drop (k + 1) texts)) old other ≡ with_common first (among (drop k texts)) old other
  common_skip old f =
      ap (λ b. old other || b) (and_turned (first other) (among (drop (k + 1) texts) other))
      ∙ common_missed (bytes_eq other text.now) (old other) (among (drop (k + 1) texts) other) (first other) (first_at false f)
      ∙ ap (λ b. old other || b) (and_turned (bytes_eq other text.now || among (drop (k + 1) texts) other) (first other))
      ∙ ap (λ b. old other || (first other && b)) (sym (drop_at texts k text other h e))

pub common_end : (first old : Names) (texts : List (Bor (List ℕ))) (k : ℕ) (other : Name) → length texts ≤ k → with_common first (among (drop k texts)) old other ≡ old other
common_end first old texts k other h = ap (λ ts. old other || (first other && among ts other)) (drop_all k texts h) ∙ ap (λ b. old other || b) (and_turned (first other) false) ∙ or_none (old other)

-- a list that begins with one that begins with a third begins with it
pub kept_twice : {A : Type 0} (xs ys zs : List A) → take (length xs) ys ≡ xs → take (length ys) zs ≡ ys → take (length xs) zs ≡ xs
kept_twice [] ys zs e f = refl
kept_twice (x ∷ xs) [] zs e f = cc
kept_twice (x ∷ xs) (y ∷ ys) [] e f = cc
kept_twice (x ∷ xs) (y ∷ ys) (z ∷ zs) e f =
    let heads : x ≡ y = cc in
    let tails : take (length xs) ys ≡ xs = cc in
    let more : take (length ys) zs ≡ ys = cc in
    let head : z ≡ x = cc in
    λ i. head i ∷ kept_twice xs ys zs tails more i

moved : (a b c : Bool) → ((a || b) || c) ≡ (b || ((a || false) || c))
moved true true c = refl
moved true false c = refl
moved false b c = refl

pub with_cons : (name : Name) (rest : List Name) (names : Names) → with_names (name ∷ rest) names ≡ with_names rest (with_names (name ∷ []) names)
with_cons name rest names = λ i other. moved (bytes_eq other name) (list_any (bytes_eq other) rest) (names other) i

next_targets : (targets : List Target) (k : ℕ) (t : Target) → k < length targets → t ≡ get_or targets k t → target_names (drop k targets) ≡ t.name ∷ target_names (drop (k + 1) targets)
next_targets targets k t h e = ap target_names (drop_more targets k t h ∙ ap (λ x. x ∷ drop (k + 1) targets) (sym e))

pub targets_step : (targets : List Target) (k : ℕ) (t : Target) (old new : Names) → k < length targets → t ≡ get_or targets k t → new ≡ with_names (t.name ∷ []) old
    → with_names (target_names (drop (k + 1) targets)) new ≡ with_names (target_names (drop k targets)) old
targets_step targets k t old new h e more =
    ap (with_names (target_names (drop (k + 1) targets))) more
    ∙ sym (with_cons t.name (target_names (drop (k + 1) targets)) old)
    ∙ ap (λ names. with_names names old) (sym (next_targets targets k t h e))

pub targets_end : (targets : List Target) (k : ℕ) (names : Names) → length targets ≤ k → with_names (target_names (drop k targets)) names ≡ names
targets_end targets k names h = ap (λ (ts : List Target). with_names (target_names ts) names) (drop_all k targets h)

next_params : (params : List Param) (k : ℕ) (t : Param) → k < length params → t ≡ get_or params k t → param_names (drop k params) ≡ t.name ∷ param_names (drop (k + 1) params)
next_params params k t h e = ap param_names (drop_more params k t h ∙ ap (λ x. x ∷ drop (k + 1) params) (sym e))

pub params_step : (params : List Param) (k : ℕ) (t : Param) (old new : Names) → k < length params → t ≡ get_or params k t → new ≡ with_names (t.name ∷ []) old
    → with_names (param_names (drop (k + 1) params)) new ≡ with_names (param_names (drop k params)) old
params_step params k t old new h e more =
    ap (with_names (param_names (drop (k + 1) params))) more
    ∙ sym (with_cons t.name (param_names (drop (k + 1) params)) old)
    ∙ ap (λ names. with_names names old) (sym (next_params params k t h e))

pub params_end : (params : List Param) (k : ℕ) (names : Names) → length params ≤ k → with_names (param_names (drop k params)) names ≡ names
params_end params k names h = ap (λ (ts : List Param). with_names (param_names ts) names) (drop_all k params h)

pub first_new : (places : Name → Option ℕ) (name : Name) (k : ℕ) → places name ≡ None → (other : Name) → (if bytes_eq name other then Some k else places other) ≡ with_first name k places other
first_new places name k none other = by (bytes_eq name other) refl
  where
    by : (b : Bool) → bytes_eq name other ≡ b → (if b then Some k else places other) ≡ (if b then kept_first (places other) k else places other)
    by true e = ap (λ r. kept_first r k) (sym none ∙ ap places (same_text name other e))
    by false e = refl
