-- The instance that a call takes in a core is the one that it takes in the source.
use Rattle.std.proofs.Common.{◌≡◌, ℕ, suc, ◌+◌, Bool, true, false, not, ◌&&◌, ◌||◌, cond, List, [], ◌∷◌, ◌++◌, map, length, Option, Some, None, refl, ap, sym, ◌∙◌, arith}
use Rattle.std.specs.Prelude.{bytes_eq, slice_get, unwrap_or, option_map, position, if◌then◌else◌, nat_lt}
use Rattle.std.specs.List.{list_all, position_or_len}
use Rattle.std.proofs.lemmas.Bool.Decides.{nat_tests}
use Rattle.std.proofs.lemmas.Option.{slice_get-map}
use Rattle.sac_base.specs.declared.name.Name.{Name}
use Rattle.sac_base.specs.declared.types.ArrayType.{ArrayType}
use Rattle.sac_base.specs.Arrays.{ArrayValue}
use Rattle.sac_base.specs.Types.{all_have, all_below}
use Rattle.sac_ast.specs.declared.Param.{Param}
use Rattle.sac_ast.specs.Tree.{FunctionTree, ProgramTree}
use Rattle.core_ir.specs.declared.tree.Var.{Var}
use Rattle.core_ir.specs.Outcome.{Instance, instance_of, instances, least_among, group_at}
use Rattle.core_ir.specs.Outcome as core
use Rattle.source_meaning.specs.Calls.{param_types, fits}
use Rattle.source_meaning.specs.Calls as source
use Rattle.core_lowering.specs.Lowering.{has_name}
use Rattle.core_lowering.specs.Programs.{function_names, place_in, group_of, places_of, groups_of, lowered_params, lowered_function, lowered_program}
use Rattle.core_lowering.specs.Standing.{all_names}
use Rattle.core_lowering.proofs.Scopes.{same_name, or_none, listed_once, never_listed}

-- ---- positions

lt_step : (a b : ℕ) → nat_lt (1 + a) (suc b) ≡ nat_lt a b
lt_step a b = grind (arith, nat_tests)

lt_first : (b : ℕ) → nat_lt 0 (suc b) ≡ true
lt_first b = grind (arith, nat_tests)

later_position : (a b : ℕ) → cond (nat_lt (1 + a) (suc b)) (Some (1 + a)) None ≡ option_map suc (cond (nat_lt a b) (Some a) None)
later_position a b =
    let one_more : 1 + a ≡ suc a = omega arith in
    (λ i. cond (lt_step a b i) (Some (one_more i)) None) ∙ go (nat_lt a b)
  where
    go : (c : Bool) → cond c (Some (suc a)) None ≡ option_map suc (cond c (Some a) None)
    go true = refl
    go false = refl

pub position_step : {A : Type 0} (p : A → Bool) (x : A) (xs : List A) → position p (x ∷ xs) ≡ cond (p x) (Some 0) (option_map suc (position p xs))
position_step p x xs = go (p x)
  where
    go : (b : Bool) → cond (nat_lt (cond (not b) (1 + position_or_len p xs) 0) (suc (length xs))) (Some (cond (not b) (1 + position_or_len p xs) 0)) None ≡ cond b (Some 0) (option_map suc (position p xs))
    go true = λ i. cond (lt_first (length xs) i) (Some 0) None
    go false = later_position (position_or_len p xs) (length xs)

-- ---- the group of a name

pub bytes_back : (x y : Name) → bytes_eq x y ≡ false → bytes_eq y x ≡ false
bytes_back x y h = go (bytes_eq y x) refl
  where
    go : (b : Bool) → bytes_eq y x ≡ b → bytes_eq y x ≡ false
    go true e = absurd (let p : bytes_eq x y ≡ bytes_eq y y = ap (λ z. bytes_eq z y) (sym (same_name y x e)) in let q : bytes_eq y y ≡ bytes_eq y x = ap (bytes_eq y) (same_name y x e) in cc)
    go false e = e

pub placed : {B : Type 0} (g : Name → B) (xs : List Name) (x : Name) → has_name xs x ≡ true → slice_get (map g xs) (place_in xs x) ≡ Some (g x)
placed g [] x h = absurd (cc)
placed g (y ∷ ys) x h = go (bytes_eq x y) refl (λ k. placed g ys x k)
  where
    go : (b : Bool) → bytes_eq x y ≡ b → (has_name ys x ≡ true → slice_get (map g ys) (place_in ys x) ≡ Some (g x)) → slice_get (g y ∷ map g ys) (if b then 0 else suc (place_in ys x)) ≡ Some (g x)
    go true e again = ap (λ z. Some (g z)) (sym (same_name x y e))
    go false e again = again (sym (λ i. e i || has_name ys x) ∙ h)

pub unplaced : {B : Type 0} (g : Name → B) (xs : List Name) (x : Name) → has_name xs x ≡ false → slice_get (map g xs) (place_in xs x) ≡ None
unplaced g [] x h = refl
unplaced g (y ∷ ys) x h = go (bytes_eq x y) refl (unplaced g ys x (or_none (bytes_eq x y) (has_name ys x) h).1)
  where
    go : (b : Bool) → bytes_eq x y ≡ b → slice_get (map g ys) (place_in ys x) ≡ None → slice_get (g y ∷ map g ys) (if b then 0 else suc (place_in ys x)) ≡ None
    go true e again = absurd (let p = (or_none (bytes_eq x y) (has_name ys x) h).0 in cc)
    go false e again = again

no_places : (fs : List FunctionTree) (x : Name) (i : ℕ) → has_name (all_names fs) x ≡ false → places_of x i fs ≡ []
no_places [] x i h = refl
no_places (f ∷ fs) x i h =
    let p = or_none (bytes_eq x f.name) (has_name (all_names fs) x) h in
    (λ j. if bytes_back x f.name p.0 j then i ∷ places_of x (suc i) fs else places_of x (suc i) fs) ∙ no_places fs x (suc i) p.1

pub group_places : (p : ProgramTree) (x : Name) → group_at (lowered_program p) (group_of p.functions x) ≡ places_of x 0 p.functions
group_places p x = go (has_name (all_names p.functions) x) refl
  where
    go : (b : Bool) → has_name (all_names p.functions) x ≡ b → unwrap_or (slice_get (groups_of p.functions) (group_of p.functions x)) [] ≡ places_of x 0 p.functions
    go true e = ap (λ o. unwrap_or o []) (placed (λ y. places_of y 0 p.functions) (function_names p.functions) x (listed_once (all_names p.functions) x e))
    go false e =
        ap (λ o. unwrap_or o []) (unplaced (λ y. places_of y 0 p.functions) (function_names p.functions) x (never_listed (all_names p.functions) x e))
        ∙ sym (no_places p.functions x 0 e)

-- ---- instances

params_types : (n : ℕ) (ps : List Param) → map (λ (q : Var × ArrayType). q.1) (lowered_params n ps) ≡ map (λ (q : Param). q.ty) ps
params_types n [] = refl
params_types n (q ∷ ps) = ap (λ l. q.ty ∷ l) (params_types (suc n) ps)

pub same_types : (fs : List FunctionTree) (f : FunctionTree) → core.param_types (lowered_function fs f) ≡ param_types f
same_types fs f = params_types 0 f.params

-- the instances of a name among functions from a place on
abbrev named_from : Name → ℕ → List FunctionTree → List Instance
named_from x i [] = []
named_from x i (f ∷ fs) = if bytes_eq f.name x then record { place = i; types = param_types f } ∷ named_from x (suc i) fs else named_from x (suc i) fs

one_instance : (fs : List FunctionTree) (i : ℕ) (f : FunctionTree) (rest : List Instance) → instance_of i (Some (lowered_function fs f)) ++ rest ≡ record { place = i; types = param_types f } ∷ rest
one_instance fs i f rest = λ j. record { place = i; types = same_types fs f j } ∷ rest

instances_from : (fs : List FunctionTree) (x : Name) (i : ℕ) (gs : List FunctionTree) → ((k m : ℕ) → m ≡ i + k → slice_get fs m ≡ slice_get gs k) → instances (map (lowered_function fs) fs) (places_of x i gs) ≡ named_from x i gs
instances_from fs x i [] h = refl
instances_from fs x i (g ∷ gs) h = go (bytes_eq g.name x) (instances_from fs x (suc i) gs (λ k m e. h (suc k) m (omega arith)))
  where
    go : (b : Bool) → instances (map (lowered_function fs) fs) (places_of x (suc i) gs) ≡ named_from x (suc i) gs → instances (map (lowered_function fs) fs) (if b then i ∷ places_of x (suc i) gs else places_of x (suc i) gs) ≡ (if b then record { place = i; types = param_types g } ∷ named_from x (suc i) gs else named_from x (suc i) gs)
    go true rest =
        (λ j. instance_of i ((slice_get-map (lowered_function fs) fs i ∙ ap (option_map (lowered_function fs)) (h 0 i (omega arith))) j) ++ rest j)
        ∙ one_instance fs i g (named_from x (suc i) gs)
    go false rest = rest

pub same_instances : (p : ProgramTree) (x : Name) → instances (lowered_program p).functions (group_at (lowered_program p) (group_of p.functions x)) ≡ named_from x 0 p.functions
same_instances p x =
    ap (instances (lowered_program p).functions) (group_places p x)
    ∙ instances_from p.functions x 0 p.functions (λ k m e. ap (slice_get p.functions) (e ∙ (omega arith)))

-- ---- the least one

all_named : (x : Name) (args : List ArrayValue) (types : List ArrayType) (i : ℕ) (gs : List FunctionTree) → list_all (λ (j : Instance). not (all_have j.types args) || all_below types j.types) (named_from x i gs) ≡ list_all (λ g. not (fits x args g) || all_below types (param_types g)) gs
all_named x args types i [] = refl
all_named x args types i (g ∷ gs) = go (bytes_eq g.name x) (all_named x args types (suc i) gs)
  where
    go : (b : Bool) → list_all (λ (j : Instance). not (all_have j.types args) || all_below types j.types) (named_from x (suc i) gs) ≡ list_all (λ g. not (fits x args g) || all_below types (param_types g)) gs → list_all (λ (j : Instance). not (all_have j.types args) || all_below types j.types) (if b then record { place = i; types = param_types g } ∷ named_from x (suc i) gs else named_from x (suc i) gs) ≡ ((not (b && all_have (param_types g) args) || all_below types (param_types g)) && list_all (λ g. not (fits x args g) || all_below types (param_types g)) gs)
    go true rest = ap (λ c. (not (all_have (param_types g) args) || all_below types (param_types g)) && c) rest
    go false rest = rest

module _ (fs : List FunctionTree) (x : Name) (args : List ArrayValue) where
  least_from : (i : ℕ) (gs : List FunctionTree) → least_among (named_from x 0 fs) args (named_from x i gs) ≡ option_map (λ k. i + k) (position (source.is_least fs x args) gs)
  least_from i [] = refl
  least_from i (g ∷ gs) = step (least_from (suc i) gs ∙ shift i (position (source.is_least fs x args) gs)) (bytes_eq g.name x) refl ∙ ap (option_map (λ k. i + k)) (sym (position_step (source.is_least fs x args) g gs))
    where
      shift : (i : ℕ) (o : Option ℕ) → option_map (λ k. suc i + k) o ≡ option_map (λ k. i + k) (option_map suc o)
      shift i None = refl
      shift i (Some k) = ap Some (omega arith)

      first : least_among (named_from x 0 fs) args (named_from x (suc i) gs) ≡ option_map (λ k. i + k) (option_map suc (position (source.is_least fs x args) gs)) → (b c : Bool) → b ≡ c → (if b then Some i else least_among (named_from x 0 fs) args (named_from x (suc i) gs)) ≡ option_map (λ k. i + k) (cond c (Some 0) (option_map suc (position (source.is_least fs x args) gs)))
      first later true true e = ap Some (omega arith)
      first later false false e = later
      first later true false e = absurd (cc)
      first later false true e = absurd (cc)

      step : least_among (named_from x 0 fs) args (named_from x (suc i) gs) ≡ option_map (λ k. i + k) (option_map suc (position (source.is_least fs x args) gs)) → (b : Bool) → bytes_eq g.name x ≡ b → least_among (named_from x 0 fs) args (if b then record { place = i; types = param_types g } ∷ named_from x (suc i) gs else named_from x (suc i) gs) ≡ option_map (λ k. i + k) (cond (source.is_least fs x args g) (Some 0) (option_map suc (position (source.is_least fs x args) gs)))
      step later true e = first later (core.is_least (named_from x 0 fs) args (record { place = i; types = param_types g })) (source.is_least fs x args g) (λ j. (sym e j && all_have (param_types g) args) && all_named x args (param_types g) 0 fs j)
      step later false e = first later false (source.is_least fs x args g) (sym (λ j. (e j && all_have (param_types g) args) && list_all (λ h. not (fits x args h) || all_below (param_types g) (param_types h)) fs))

  -- the place of the least instance
  pub least_same : least_among (named_from x 0 fs) args (named_from x 0 fs) ≡ source.chosen fs x args
  least_same = least_from 0 fs ∙ unshifted (position (source.is_least fs x args) fs)
    where
      unshifted : (o : Option ℕ) → option_map (λ k. 0 + k) o ≡ o
      unshifted None = refl
      unshifted (Some k) = ap Some (omega arith)

pub same_chosen : (p : ProgramTree) (x : Name) (args : List ArrayValue) → core.chosen (lowered_program p) (group_of p.functions x) args ≡ source.chosen p.functions x args
same_chosen p x args = (λ i. least_among (same_instances p x i) args (same_instances p x i)) ∙ least_same p.functions x args

-- ---- what is chosen

pub record At (fs : List FunctionTree) (p : FunctionTree → Bool) (place : ℕ) : Type 0 where
  pub function : FunctionTree
  pub there : slice_get fs place ≡ Some function
  pub passes : p function ≡ true

pub position_at : (p : FunctionTree → Bool) (fs : List FunctionTree) (place : ℕ) → position p fs ≡ Some place → At fs p place
position_at p [] place e = absurd (cc)
position_at p (f ∷ fs) place e = go (λ m k. position_at p fs m k) (p f) refl (position p fs) refl (sym (position_step p f fs) ∙ e)
  where
    go : ((m : ℕ) → position p fs ≡ Some m → At fs p m) → (b : Bool) → p f ≡ b → (o : Option ℕ) → position p fs ≡ o → cond b (Some 0) (option_map suc o) ≡ Some place → At (f ∷ fs) p place
    go again true q o r k = let same : 0 ≡ place = cc in record { function = f; there = ap (slice_get (f ∷ fs)) (sym same); passes = q }
    go again false q None r k = absurd (cc)
    go again false q (Some m) r k =
        let same : suc m ≡ place = cc in
        let a = again m r in
        record { function = a.function; there = ap (slice_get (f ∷ fs)) (sym same) ∙ a.there; passes = a.passes }
