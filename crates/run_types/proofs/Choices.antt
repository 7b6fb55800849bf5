-- The choice of a function among places.
use Rattle.std.proofs.Common.{◌≡◌, ℕ, zero, suc, ◌+◌, ◌<◌, ◌≤◌, List, [], ◌∷◌, ◌++◌, length, get_or, drop, map, Bool, true, false, refl, sym, ap, ◌∙◌, subst, arith, Option, Some, None, Vec, Bor}
use Rattle.std.specs.Prelude.{slice_get, unwrap_or, option_map, ◌&&◌, ◌||◌, not, if◌then◌else◌}
use Rattle.std.specs.declared.alloc.Global.{Global}
use Rattle.std.specs.List.{list_all}
use Rattle.std.specs.Slice.{IsItemAt}
use Rattle.std.proofs.lemmas.List.{drop_more, drop_all, length-map}
use Rattle.std.proofs.lemmas.Option.{slice_get-get_or, slice_get-map, slice_get_past}
use Rattle.sac_base.specs.declared.types.ArrayType.{ArrayType}
use Rattle.sac_base.specs.Arrays.{ArrayValue}
use Rattle.core_ir.specs.Terms.{FunTerm}
use Rattle.core_ir.specs.Outcome.{Instance, instances, instance_of, is_least, least_among}
use Rattle.counted_code.specs.declared.tree.CodeFun.{CodeFun}
use Rattle.counted_code.specs.Terms.{core_of_fun}
use Rattle.counted_code.specs.View.{code_fun_term}
use Rattle.run_types.specs.Choosing.{functions_of, types_of, least_at, beside_at, is_beside}

get_or-map : {A B : Type 0} (f : A → B) (xs : List A) (i : ℕ) (d : A) → get_or (map f xs) i (f d) ≡ f (get_or xs i d)
get_or-map f [] i d = refl
get_or-map f (x ∷ xs) zero d = refl
get_or-map f (x ∷ xs) (suc i) d = get_or-map f xs i d

-- the function at a place
module _ (fs : List CodeFun) (i : ℕ) (d : CodeFun) (h : i < length fs) where
  function_at : slice_get (functions_of fs) i ≡ Some (core_of_fun (code_fun_term (get_or fs i d)))
  function_at =
      let terms = map code_fun_term fs in
      slice_get-get_or (functions_of fs) i (core_of_fun (code_fun_term d)) (omega (arith, h, length-map fs code_fun_term, length-map terms core_of_fun))
      ∙ ap Some (get_or-map core_of_fun terms i (code_fun_term d) ∙ ap core_of_fun (get_or-map code_fun_term fs i d))

  pub least_of : (all : List Instance) (args : List ArrayValue) → least_at all args i (slice_get (functions_of fs) i) ≡ is_least all args (record { place = i; types = types_of (get_or fs i d).params.items })
  least_of all args = ap (least_at all args i) function_at

  pub beside_of : (types : List ArrayType) (args : List ArrayValue) → beside_at types args (slice_get (functions_of fs) i) ≡ is_beside types args (types_of (get_or fs i d).params.items)
  beside_of types args = ap (beside_at types args) function_at

-- an instance that does not fit, and one that does
pub beside_unfit : (r fits lies : Bool) → r ≡ false → r ≡ fits → not r ≡ (not fits || lies)
beside_unfit r fits lies e is = ap not e ∙ ap (λ b. not b || lies) (sym e ∙ is)

pub beside_fit : (r fits lies : Bool) → r ≡ true → r ≡ fits → lies ≡ (not fits || lies)
beside_fit r fits lies e is = ap (λ b. not b || lies) (sym e ∙ is)

-- the places of a group
abbrev places_of : Vec ℕ Global → List ℕ
places_of g = g.items

module _ (gs : List (Vec ℕ Global)) (i : ℕ) (o : Option (Bor (Vec ℕ Global))) (found : IsItemAt gs i o) where
  pub group_there : (g : Bor (Vec ℕ Global)) → o ≡ Some g → unwrap_or (slice_get (map places_of gs) i) [] ≡ g.now.items
  group_there g is =
      let item = subst (IsItemAt gs i) is found in
      ap (λ o. unwrap_or o []) (slice_get-map places_of gs i ∙ ap (λ o. option_map places_of o) (slice_get-get_or gs i g.now item.3.0))
      ∙ ap places_of (sym item.1)

  pub no_group : o ≡ None → unwrap_or (slice_get (map places_of gs) i) [] ≡ []
  no_group is =
      let past = (subst (IsItemAt gs i) is found).3 in
      ap (λ o. unwrap_or o []) (slice_get_past (map places_of gs) i (omega (arith, past, length-map gs places_of)))

module _ (fs : List FunTerm) (ps : List ℕ) (k : ℕ) (h : k < length ps) where
  module _ (all : List Instance) (args : List ArrayValue) where
    one_more : (p : ℕ) (o : Option FunTerm) (rest : List Instance) → least_among all args (instance_of p o ++ rest) ≡ (if least_at all args p o then Some p else least_among all args rest)
    one_more p None rest = refl
    one_more p (Some f) rest = refl

    split : least_among all args (instances fs (drop k ps)) ≡ (if least_at all args (get_or ps k 0) (slice_get fs (get_or ps k 0)) then Some (get_or ps k 0) else least_among all args (instances fs (drop (k + 1) ps)))
    split = ap (λ qs. least_among all args (instances fs qs)) (drop_more ps k 0 h) ∙ one_more (get_or ps k 0) (slice_get fs (get_or ps k 0)) (instances fs (drop (k + 1) ps))

    pub least_here : true ≡ least_at all args (get_or ps k 0) (slice_get fs (get_or ps k 0)) → Some (get_or ps k 0) ≡ least_among all args (instances fs (drop k ps))
    least_here e = sym (split ∙ ap (λ b. if b then Some (get_or ps k 0) else least_among all args (instances fs (drop (k + 1) ps))) (sym e))

    pub least_next : false ≡ least_at all args (get_or ps k 0) (slice_get fs (get_or ps k 0)) → least_among all args (instances fs (drop (k + 1) ps)) ≡ least_among all args (instances fs (drop k ps))
    least_next e = sym (split ∙ ap (λ b. if b then Some (get_or ps k 0) else least_among all args (instances fs (drop (k + 1) ps))) (sym e))

  module _ (types : List ArrayType) (args : List ArrayValue) where
    one_beside : (p : ℕ) (o : Option FunTerm) (rest : List Instance) → list_all (λ (j : Instance). is_beside types args j.types) (instance_of p o ++ rest) ≡ (beside_at types args o && list_all (λ (j : Instance). is_beside types args j.types) rest)
    one_beside p None rest = refl
    one_beside p (Some f) rest = refl

    split_beside : list_all (λ (j : Instance). is_beside types args j.types) (instances fs (drop k ps)) ≡ (beside_at types args (slice_get fs (get_or ps k 0)) && list_all (λ (j : Instance). is_beside types args j.types) (instances fs (drop (k + 1) ps)))
    split_beside = ap (λ qs. list_all (λ (j : Instance). is_beside types args j.types) (instances fs qs)) (drop_more ps k 0 h) ∙ one_beside (get_or ps k 0) (slice_get fs (get_or ps k 0)) (instances fs (drop (k + 1) ps))

    pub beside_stops : false ≡ beside_at types args (slice_get fs (get_or ps k 0)) → list_all (λ (j : Instance). is_beside types args j.types) (instances fs (drop k ps)) ≡ false
    beside_stops e = split_beside ∙ ap (λ b. b && list_all (λ (j : Instance). is_beside types args j.types) (instances fs (drop (k + 1) ps))) (sym e)

    pub beside_next : true ≡ beside_at types args (slice_get fs (get_or ps k 0)) → list_all (λ (j : Instance). is_beside types args j.types) (instances fs (drop (k + 1) ps)) ≡ list_all (λ (j : Instance). is_beside types args j.types) (instances fs (drop k ps))
    beside_next e = sym (split_beside ∙ ap (λ b. b && list_all (λ (j : Instance). is_beside types args j.types) (instances fs (drop (k + 1) ps))) (sym e))

-- no place is left
module _ (fs : List FunTerm) (ps : List ℕ) (k : ℕ) (h : length ps ≤ k) where
  pub least_end : (all : List Instance) (args : List ArrayValue) → None ≡ least_among all args (instances fs (drop k ps))
  least_end all args = sym (ap (λ qs. least_among all args (instances fs qs)) (drop_all k ps h))

  pub beside_end : (types : List ArrayType) (args : List ArrayValue) → true ≡ list_all (λ (j : Instance). is_beside types args j.types) (instances fs (drop k ps))
  beside_end types args = sym (ap (λ qs. list_all (λ (j : Instance). is_beside types args j.types) (instances fs qs)) (drop_all k ps h))
