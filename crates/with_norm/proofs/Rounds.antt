-- What a round keeps, and rounds after one another.
use Rattle.std.proofs.Common.{◌≡◌, ℕ, zero, suc, ◌+◌, ◌<◌, ◌≤◌, List, [], ◌∷◌, ◌++◌, map, length, get_or, All, Contains, Option, Some, refl, sym, ap, subst, ◌∙◌, ◌⊎◌, inl, inr, append_assoc, arith}
use Rattle.std.specs.Prelude.{slice_get, unwrap_or}
use Rattle.std.specs.List.{AllPairs}
use Rattle.std.proofs.Math.Nat.{le-max_right}
use Rattle.std.proofs.lemmas.List.{get_or_default}
use Rattle.std.proofs.lemmas.List.Elements.{All-nil, All-cons, All-head, All-tail}
use Rattle.sac_base.specs.declared.base.Base.{Base}
use Rattle.sac_base.specs.declared.types.ArrayType.{ArrayType}
use Rattle.core_ir.specs.declared.tree.Var.{Var}
use Rattle.core_ir.specs.Binders.{bound_in}
use Rattle.core_ir.specs.Outcome.{SameHeads, param_types, param_vars}
use Rattle.core_ir.specs.Terms.{BlockTerm, FunTerm, CoreTerm}
use Rattle.core_ir.specs.WellFormed.{GroupBases, IsFunction, IsWellFormed, PlacesShare, bases}
use Rattle.core_facts.specs.calls.Replaced.{replaced_at}
use Rattle.core_facts.specs.constants.Called.{called, params_facts}
use Rattle.core_subst.specs.Names.{above, above_all, above_function}
use Rattle.core_forms.proofs.inlined_bodies.Counts.{all_at}
use Rattle.core_forms.proofs.inlined_bodies.Names.{distinct_right, fresh_below, fresh_left, fresh_more, fresh_right, own_fresh, own_vars}
use Rattle.core_forms.proofs.inlined_bodies.Stepped.{old_at, stepped}
use Rattle.core_loops.proofs.norm_steps.Tables.{has_table}
use Rattle.core_forms.specs.norm.Copied.{IsPlaced}
use Rattle.core_forms.specs.norm.Walks.{no_step, FunctionWalk, BlockWalk, core_weight}
use Rattle.core_forms.proofs.norm.Laws.{all_by}
use Rattle.core_forms.proofs.norm.Whole.{walks_keep, go_on}
use Rattle.core_forms.proofs.norm.Replaced.{at_length, put_at, same_called, same_core, same_heads}
use Rattle.variable_bases.specs.declared.signatures.Signatures.{Signatures}
use Rattle.partable_loops.specs.Planned.{IsPlannable}
use Rattle.variable_bases.specs.Instances.{AreUnique, HasInstances, OnlyInstances}
use Rattle.variable_bases.specs.Table.{base_in}
use Rattle.norm_walk.specs.Replacing.{EachWith}
use Rattle.norm_walk.proofs.Walking.{rises, still}
use Rattle.with_norm.specs.Normed.{FunctionNormed, AllNormed, AllNormal, IsNormal, Round, Kept, Normalised}
use Rattle.with_norm.proofs.Left.{none_left}
use Rattle.with_norm.proofs.Walks.{walk_is}

-- ---- one after another

nothing_more : (n : ℕ) → n + 0 ≤ n
nothing_more n = omega arith

sum_less : (a b c n m : ℕ) → b + n ≤ a → c + m ≤ b → c + (n + m) ≤ a
sum_less a b c n m p q = omega (arith, p, q)

pub kept_itself : (a : CoreTerm) → IsWellFormed a → Kept a a 0
kept_itself a well = record { outcome = λ args caps full. refl; well = well; lighter = nothing_more (core_weight a); steps = no_step }

pub kept_on : (a b c : CoreTerm) (n m : ℕ) → Kept a b n → Kept b c m → Kept a c (n + m)
kept_on a b c n m p q = record {
  outcome = λ args caps full. p.outcome args caps full ∙ q.outcome args caps full;
  well = q.well;
  lighter = sum_less (core_weight a) (core_weight b) (core_weight c) n m p.lighter q.lighter;
  steps = go_on n m a b c p.steps q.steps;
}

-- ---- a function at a place

module _ (a : CoreTerm) (n : ℕ) (f : FunTerm) (c : BlockTerm) (found : slice_get a.functions n ≡ Some f) where
  group_back : (g : ℕ) (us vs : List Base) → GroupBases (stepped a n f c) g us vs → GroupBases a g us vs
  group_back g us vs h =
      let q = h.1.1.1 in
      let w = old_at a n f c found h.1.0 h.1.1.0 q.2 in
      (h.0, (h.1.0, (w.0, (q.0, q.1, w.1.0, ap (λ (ps : List (Var × ArrayType)). bases (map (λ (p : Var × ArrayType). p.1) ps)) w.1.1.params ∙ q.3, ap bases w.1.1.results ∙ q.4))))

-- ---- one function

most_of : (a b n : ℕ) → a ≤ b → b ≤ n → a ≤ n
most_of a b n p q = omega (arith, p, q)

module _ (calls : ℕ → List (Option (List ℕ))) (signatures : Signatures) where
  function_kept :
      (a : CoreTerm) (n before after : ℕ) (f g : FunTerm) → slice_get a.functions n ≡ Some f → calls ≡ called a → HasInstances signatures a → IsWellFormed a →
      (h : FunctionNormed calls signatures before after f g) → (count : ℕ) × ((after ≡ count + before) × Kept a (stepped a n f h.body) count)
  function_kept a n before after f g found same has well h =
      let is : IsFunction a f = all_at (IsFunction a) a.functions n f well.functions found in
      let table = has_table a f is in
      let m = table.0 in
      let tells = h.tells a has m table.1 is.agreeing table.2 in
      let low : above_function f ≤ h.first = omega (arith, h.above) in
      let own = fresh_more (own_vars f) (above_function f) h.first low (own_fresh f) in
      let params = fresh_left (param_vars f) (bound_in f.body) h.first own in
      let bound = fresh_right (param_vars f) (bound_in f.body) h.first own in
      let placed : IsPlaced h.first (param_vars f) f.body = record {
        scoped = is.scoped;
        once = distinct_right (param_vars f) (bound_in f.body) is.once;
        scope_below = all_by h.first (param_vars f) (λ y q. fresh_below (param_vars f) h.first y params q);
        bound_below = all_by h.first (bound_in f.body) (λ y q. fresh_below (bound_in f.body) h.first y bound q);
      } in
      let walk = walk_is calls m h.first (base_in h.table) tells (params_facts f) (record { next = h.first; replaced = before }) (record { next = h.last; replaced = after }) f.body h.body h.walked.walked (param_vars f) placed in
      let whole : FunctionWalk a (stepped a n f h.body) walk.0 = record {
        place = n;
        function = f;
        body = h.body;
        found = found;
        table = m;
        params = table.1;
        agreeing = is.agreeing;
        follows = table.2;
        low = h.first;
        high = h.last;
        below = low;
        walk = subst (λ (k : ℕ → List (Option (List ℕ))). BlockWalk k h.first m (params_facts f) walk.0 h.first h.last f.body h.body) same walk.1.1;
        changed = refl;
      } in
      let kept = walks_keep a (stepped a n f h.body) walk.0 whole well in
      (walk.0, (walk.1.0, record { outcome = kept.0; well = kept.1; lighter = kept.2; steps = kept.3 }))

  sum_is : (m k n c d : ℕ) → k ≡ c + n → m ≡ d + k → m ≡ (c + d) + n
  sum_is m k n c d p q = omega (arith, p, q)

  none_more : (n : ℕ) → n ≡ 0 + n
  none_more n = omega arith

  -- ---- all functions

  functions_kept :
      (a : CoreTerm) (done fs gs : List FunTerm) (n m : ℕ) → a.functions ≡ done ++ fs → calls ≡ called a → HasInstances signatures a → IsWellFormed a →
      AllNormed calls signatures n fs gs m → (count : ℕ) × ((m ≡ count + n) × Kept a (record a { functions = done ++ gs }) count)
  functions_kept a done [] [] n m e same has well h =
      let stays : a ≡ record a { functions = done ++ [] } = λ i. record a { functions = e i } in
      (0, (h ∙ none_more n, subst (λ (x : CoreTerm). Kept a x 0) stays (kept_itself a well)))
  functions_kept a done [] (g ∷ gs) n m e same has well h = absurd h
  functions_kept a done (f ∷ fs) [] n m e same has well h = absurd h
  functions_kept a done (f ∷ fs) (g ∷ gs) n m e same has well h =
      let place = length done in
      let found : slice_get a.functions place ≡ Some f = (λ i. slice_get (e i) place) ∙ at_length done fs f in
      let one = h.1.0 in
      let first = function_kept a place n h.0 f g found same has well one in
      let b = stepped a place f one.body in
      let new = record f { body = one.body } in
      let next : b.functions ≡ (done ++ (new ∷ [])) ++ fs = (λ i. replaced_at (e i) place new) ∙ put_at done fs f new ∙ sym (append_assoc done (new ∷ []) fs) in
      let rest = functions_kept b (done ++ (new ∷ [])) fs gs h.0 m next (same ∙ sym (same_called a place f one.body found)) (λ group us vs w. has group us vs (group_back a place f one.body found group us vs w)) first.1.1.well h.1.1 in
      let end : (done ++ (new ∷ [])) ++ gs ≡ done ++ (g ∷ gs) = append_assoc done (new ∷ []) gs ∙ ap (λ (x : FunTerm). done ++ (x ∷ gs)) (sym one.new) in
      (first.0 + rest.0, (sum_is m h.0 n first.0 rest.0 first.1.0 rest.1.0, subst (λ (x : List FunTerm). Kept a (record a { functions = x }) (first.0 + rest.0)) end (kept_on a b (record a { functions = (done ++ (new ∷ [])) ++ gs }) first.0 rest.0 first.1.1 rest.1.1)))

-- ---- outside

heads_on : (calls : ℕ → List (Option (List ℕ))) (signatures : Signatures) (es fs gs : List FunTerm) (n m : ℕ) → SameHeads es fs → AllNormed calls signatures n fs gs m → SameHeads es gs
heads_on calls signatures [] [] [] n m s h = tt
heads_on calls signatures [] [] (g ∷ gs) n m s h = absurd h
heads_on calls signatures [] (f ∷ fs) gs n m s h = absurd s
heads_on calls signatures (e ∷ es) [] gs n m s h = absurd s
heads_on calls signatures (e ∷ es) (f ∷ fs) [] n m s h = absurd h
heads_on calls signatures (e ∷ es) (f ∷ fs) (g ∷ gs) n m s h = (
  subst (Rattle.core_ir.specs.Outcome.SameHead e) (sym h.1.0.new) (record { site = s.0.site; types = s.0.types; inlines = s.0.inlines }),
  heads_on calls signatures es fs gs h.0 m s.1 h.1.1,
)

-- ---- rounds

pub normalised_itself : (a : CoreTerm) → Normalised a a 0
normalised_itself a = record { outside = record { groups = refl; main = refl; heads = same_heads a.functions }; kept = kept_itself a }

zero_right : (m c : ℕ) → m ≡ c + 0 → c ≡ m
zero_right m c e = omega (arith, e)

round_kept : (a b : CoreTerm) (count : ℕ) → Round a b count → IsWellFormed a → Kept a b count
round_kept a b count h well =
    let k = functions_kept (called a) h.signatures a [] a.functions b.functions 0 count refl refl h.has well h.functions in
    subst (λ (n : ℕ). Kept a b n) (zero_right count k.0 k.1.0) (subst (λ (x : CoreTerm). Kept a x k.0) (same_core a b h.groups h.main) k.1.1)

pub round_on : (a b c : CoreTerm) (n m : ℕ) → Normalised a b n → Round b c m → Normalised a c (n + m)
round_on a b c n m p h = record {
  outside = record {
    groups = p.outside.groups ∙ sym h.groups;
    main = p.outside.main ∙ sym h.main;
    heads = heads_on (called b) h.signatures a.functions b.functions c.functions 0 m p.outside.heads h.functions;
  };
  kept = λ well. let one = p.kept well in kept_on a b c n m one (round_kept b c m h one.well);
}

-- ---- a round that replaced none

order : (m n : ℕ) → (m ≡ n) ⊎ ((m < n) ⊎ (n < m))
order zero zero = inl refl
order zero (suc n) = inr (inl (omega arith))
order (suc m) zero = inr (inr (omega arith))
order (suc m) (suc n) = elim (order m n) [
  | inl e ↦ inl (ap suc e)
  | inr r ↦ elim r [
    | inl l ↦ inr (inl (omega (arith, l)))
    | inr l ↦ inr (inr (omega (arith, l)))
  ]
]

-- functions of one group whose parameters have equal bases give equal bases
same_gives : (core : CoreTerm) (places : List ℕ) (i j : ℕ) (f g : FunTerm) → AllPairs (PlacesShare core.functions) places → Contains places i → Contains places j →
    slice_get core.functions i ≡ Some f → slice_get core.functions j ≡ Some g → bases (param_types f) ≡ bases (param_types g) → bases f.results ≡ bases g.results
same_gives core places i j f g share c d at to same =
    let m = c.0 in
    let n = d.0 in
    let first : get_or places m 0 ≡ i = get_or_default places m 0 i c.1 ∙ c.2 in
    let second : get_or places n 0 ≡ j = get_or_default places n 0 j d.1 ∙ d.2 in
    elim (order m n) [
      | inl e ↦ let one : f ≡ g = ap (λ o. unwrap_or o f) (sym at ∙ ap (slice_get core.functions) (sym first ∙ ap (λ k. get_or places k 0) e ∙ second) ∙ to) in
          ap (λ (x : FunTerm). bases x.results) one
      | inr r ↦ elim r [
        | inl l ↦ (share m n 0 l d.1 f g (ap (slice_get core.functions) first ∙ at) (ap (slice_get core.functions) second ∙ to)).bases same
        | inr l ↦ sym ((share n m 0 l c.1 g f (ap (slice_get core.functions) second ∙ to) (ap (slice_get core.functions) first ∙ at)).bases (sym same))
      ]
    ]

pub unique : (core : CoreTerm) (signatures : Signatures) → IsWellFormed core → OnlyInstances signatures core → AreUnique signatures
unique core signatures well only group takes gives others one two =
    let a = only group takes gives one in
    let b = only group takes others two in
    let places : a.0 ≡ b.0 = ap (λ o. unwrap_or o a.0) (sym a.1.1.1.0 ∙ b.1.1.1.0) in
    let share = all_at (AllPairs (PlacesShare core.functions)) core.groups group a.0 well.names a.1.1.1.0 in
    sym a.1.1.1.4
    ∙ same_gives core a.0 a.1.0 b.1.0 a.1.1.0 b.1.1.0 share a.1.1.1.1 (subst (λ (ps : List ℕ). Contains ps b.1.0) (sym places) b.1.1.1.1) a.1.1.1.2 b.1.1.1.2 (a.1.1.1.3 ∙ sym b.1.1.1.3)
    ∙ b.1.1.1.4

module _ (calls : ℕ → List (Option (List ℕ))) (signatures : Signatures) where
  after_function : {n k : ℕ} {f g : FunTerm} → FunctionNormed calls signatures n k f g → n ≤ k
  after_function h = rises calls (base_in h.table) h.first h.walked.walked

  after_all : (fs gs : List FunTerm) (n m : ℕ) → AllNormed calls signatures n fs gs m → n ≤ m
  after_all [] [] n m h = omega (arith, h)
  after_all [] (g ∷ gs) n m h = absurd h
  after_all (f ∷ fs) [] n m h = absurd h
  after_all (f ∷ fs) (g ∷ gs) n m h = let one = after_function h.1.0 in let rest = after_all fs gs h.0 m h.1.1 in omega (arith, one, rest)

  no_more : (n k m : ℕ) → n ≤ k → k ≤ m → m ≡ n → k ≡ n
  no_more n k m p q e = omega (arith, p, q, e)

  function_stays : {n k : ℕ} {f g : FunTerm} → FunctionNormed calls signatures n k f g → k ≡ n → g ≡ f
  function_stays {f = f} h e = h.new ∙ (λ i. record f { body = sym ((still calls (base_in h.table) h.first h.walked.walked e).1) i })

  all_stay : (fs gs : List FunTerm) (n m : ℕ) → AllNormed calls signatures n fs gs m → m ≡ n → gs ≡ fs
  all_stay [] [] n m h e = refl
  all_stay [] (g ∷ gs) n m h e = absurd h
  all_stay (f ∷ fs) [] n m h e = absurd h
  all_stay (f ∷ fs) (g ∷ gs) n m h e =
      let none = no_more n h.0 m (after_function h.1.0) (after_all fs gs h.0 m h.1.1) e in
      λ i. function_stays h.1.0 none i ∷ all_stay fs gs h.0 m h.1.1 (e ∙ sym none) i

  function_normal : (a : CoreTerm) (n k : ℕ) (f g : FunTerm) → calls ≡ called a → HasInstances signatures a → AreUnique signatures → IsFunction a f → FunctionNormed calls signatures n k f g → k ≡ n
      → IsNormal a f
  function_normal a n k f g same has alone is h e may =
      let m = has_table a f is in
      let told = h.sources a has alone m.0 m.1 is.agreeing m.2 may in
      let low : above f.body ≤ h.first = let p = le-max_right (above_all (param_vars f)) (above f.body) in omega (arith, p, h.above) in
      let left = none_left calls (base_in h.table) h.first f.body (params_facts f) low told (h.walked.none e) in
      subst (λ (first : ℕ). EachWith (λ k s op gens. IsPlannable k first s op gens → ⊥) (called a) f.body (params_facts f)) h.above
      (subst (λ (c : ℕ → List (Option (List ℕ))). EachWith (λ k s op gens. IsPlannable k h.first s op gens → ⊥) c f.body (params_facts f)) same left)

  all_normal : (a : CoreTerm) (fs gs : List FunTerm) (n m : ℕ) → calls ≡ called a → HasInstances signatures a → AreUnique signatures → All (IsFunction a) fs → AllNormed calls signatures n fs gs m → m ≡ n
      → All (IsNormal a) fs
  all_normal a [] gs n m same has alone are h e = All-nil (IsNormal a)
  all_normal a (f ∷ fs) [] n m same has alone are h e = absurd h
  all_normal a (f ∷ fs) (g ∷ gs) n m same has alone are h e =
      let none = no_more n h.0 m (after_function h.1.0) (after_all fs gs h.0 m h.1.1) e in
      All-cons (IsNormal a) f fs (function_normal a n h.0 f g same has alone (All-head (IsFunction a) f fs are) h.1.0 none)
      (all_normal a fs gs h.0 m same has alone (All-tail (IsFunction a) f fs are) h.1.1 (e ∙ sym none))

round_stays : (a b : CoreTerm) (count : ℕ) → Round a b count → count ≡ 0 → a ≡ b
round_stays a b count h e =
    (λ i. record a { functions = sym (all_stay (called a) h.signatures a.functions b.functions 0 count h.functions e) i }) ∙ same_core a b h.groups h.main

-- the last round finds nothing
pub ends_normal : (a b c : CoreTerm) (n m : ℕ) → Normalised a b n → Round b c m → m ≡ 0 → IsWellFormed a → AllNormal c
ends_normal a b c n m p h e well =
    let now = (p.kept well).well in
    subst AllNormal (round_stays b c m h e)
    (all_normal (called b) h.signatures b b.functions c.functions 0 m refl h.has (unique b h.signatures now h.only) now.functions h.functions e)
