-- What a round keeps, and rounds after one another.
use Rattle.std.proofs.Common.{◌≡◌, ℕ, ◌+◌, ◌≤◌, List, [], ◌∷◌, ◌++◌, length, All, Option, Some, refl, sym, ap, subst, ◌∙◌, ◌⊎◌, append_assoc, arith}
use Rattle.std.specs.Prelude.{slice_get}
use Rattle.std.proofs.lemmas.List.Elements.{All-nil, All-cons}
use Rattle.core_ir.specs.Binders.{bound_in}
use Rattle.core_ir.specs.Outcome.{SameHead, SameHeads, param_vars}
use Rattle.core_ir.specs.Terms.{BlockTerm, FunTerm, CoreTerm}
use Rattle.core_ir.specs.WellFormed.{IsFunction, IsWellFormed}
use Rattle.core_facts.specs.calls.Replaced.{replaced_at}
use Rattle.core_facts.specs.constants.Called.{called, params_facts}
use Rattle.core_subst.specs.Names.{above_function}
use Rattle.core_forms.proofs.inlined_bodies.Counts.{all_at}
use Rattle.core_forms.proofs.inlined_bodies.Names.{distinct_right, fresh_below, fresh_left, fresh_more, fresh_right, own_fresh, own_vars}
use Rattle.core_forms.proofs.inlined_bodies.Stepped.{stepped}
use Rattle.core_forms.specs.norm.Copied.{IsPlaced}
use Rattle.core_forms.specs.norm.Walks.{core_weight}
use Rattle.core_forms.proofs.norm.Laws.{all_by}
use Rattle.core_forms.proofs.norm.Replaced.{at_length, put_at, same_called, same_core, same_heads}
use Rattle.core_forms.specs.merge.Walks.{BlockMerges, FunctionMerges, core_parted, no_step}
use Rattle.core_forms.proofs.merge.Whole.{go_on, merges_keep}
use Rattle.merge_walk.specs.NoneLeft.{NoneMergeable}
use Rattle.scalarise.specs.Scalarised.{AllMerged, FunctionMerged, Kept, NoneLeft, NoneLeftIn, Round, Scalarised}
use Rattle.scalarise.proofs.Walks.{still, walk_is}

-- ---- one after another

nothing_more : (n : ℕ) → n + 0 ≤ n
nothing_more n = omega arith

no_less : (n : ℕ) → n ≤ n
no_less n = omega arith

as_much : (a b : ℕ) → b ≡ a → b ≤ a
as_much a b e = omega (arith, e)

up_to : (a b c : ℕ) → b ≤ a → c ≤ b → c ≤ a
up_to a b c p q = omega (arith, p, q)

sum_less : (a b c n m : ℕ) → b + n ≤ a → c + m ≤ b → c + (n + m) ≤ a
sum_less a b c n m p q = omega (arith, p, q)

kept_itself : (a : CoreTerm) → IsWellFormed a → Kept a a 0
kept_itself a well = record { outcome = λ args caps full. refl; well = well; weight = no_less (core_weight a); parted = nothing_more (core_parted a); steps = no_step }

kept_on : (a b c : CoreTerm) (n m : ℕ) → Kept a b n → Kept b c m → Kept a c (n + m)
kept_on a b c n m p q = record {
  outcome = λ args caps full. p.outcome args caps full ∙ q.outcome args caps full;
  well = q.well;
  weight = up_to (core_weight a) (core_weight b) (core_weight c) p.weight q.weight;
  parted = sum_less (core_parted a) (core_parted b) (core_parted c) n m p.parted q.parted;
  steps = go_on n m a b c p.steps q.steps;
}

-- ---- one function

module _ (calls : ℕ → List (Option (List ℕ))) where
  function_kept :
      (a : CoreTerm) (n before after : ℕ) (f g : FunTerm) → slice_get a.functions n ≡ Some f → calls ≡ called a → IsWellFormed a →
      (h : FunctionMerged calls before after f g) → Kept a (stepped a n f h.body) h.walked.count
  function_kept a n before after f g found same well h =
      let is : IsFunction a f = all_at (IsFunction a) a.functions n f well.functions found in
      let low : above_function f ≤ h.first = omega (arith, h.above) in
      let own = fresh_more (own_vars f) (above_function f) h.first low (own_fresh f) in
      let params = fresh_left (param_vars f) (bound_in f.body) h.first own in
      let bound = fresh_right (param_vars f) (bound_in f.body) h.first own in
      let placed : IsPlaced h.first (param_vars f) f.body = record {
        scoped = is.scoped;
        once = distinct_right (param_vars f) (bound_in f.body) is.once;
        scope_below = all_by h.first (param_vars f) (λ y q. fresh_below (param_vars f) h.first y params q);
        bound_below = all_by h.first (bound_in f.body) (λ y q. fresh_below (bound_in f.body) h.first y bound q);
      } in
      let walk = walk_is calls (params_facts f) h.walked.count h.first h.last f.body h.body h.walked.walk (param_vars f) placed in
      let whole : FunctionMerges a (stepped a n f h.body) h.walked.count = record {
        place = n;
        function = f;
        body = h.body;
        found = found;
        low = h.first;
        high = h.last;
        below = low;
        walk = subst (λ (k : ℕ → List (Option (List ℕ))). BlockMerges k (params_facts f) h.walked.count h.first h.last f.body h.body) same walk;
        changed = refl;
      } in
      let kept = merges_keep a (stepped a n f h.body) h.walked.count whole well in
      record {
        outcome = kept.0;
        well = kept.1;
        weight = as_much (core_weight a) (core_weight (stepped a n f h.body)) kept.2;
        parted = kept.3;
        steps = kept.4;
      }

  sum_is : (m k n c d : ℕ) → k ≡ n + c → m ≡ k + d → m ≡ n + (c + d)
  sum_is m k n c d p q = omega (arith, p, q)

  none_more : (n : ℕ) → n ≡ n + 0
  none_more n = omega arith

  -- ---- all functions

  functions_kept :
      (a : CoreTerm) (before fs gs : List FunTerm) (n m : ℕ) → a.functions ≡ before ++ fs → calls ≡ called a → IsWellFormed a →
      AllMerged calls n fs gs m → (count : ℕ) × ((m ≡ n + count) × Kept a (record a { functions = before ++ gs }) count)
  functions_kept a before [] [] n m e same well h =
      let stays : a ≡ record a { functions = before ++ [] } = λ i. record a { functions = e i } in
      (0, (h ∙ none_more n, subst (λ (x : CoreTerm). Kept a x 0) stays (kept_itself a well)))
  functions_kept a before [] (g ∷ gs) n m e same well h = absurd h
  functions_kept a before (f ∷ fs) [] n m e same well h = absurd h
  functions_kept a before (f ∷ fs) (g ∷ gs) n m e same well h =
      let place = length before in
      let found : slice_get a.functions place ≡ Some f = (λ i. slice_get (e i) place) ∙ at_length before fs f in
      let one = h.1.0 in
      let first = function_kept a place n h.0 f g found same well one in
      let b = stepped a place f one.body in
      let new = record f { body = one.body } in
      let next : b.functions ≡ (before ++ (new ∷ [])) ++ fs = (λ i. replaced_at (e i) place new) ∙ put_at before fs f new ∙ sym (append_assoc before (new ∷ []) fs) in
      let rest = functions_kept b (before ++ (new ∷ [])) fs gs h.0 m next (same ∙ sym (same_called a place f one.body found)) first.well h.1.1 in
      let end : (before ++ (new ∷ [])) ++ gs ≡ before ++ (g ∷ gs) = append_assoc before (new ∷ []) gs ∙ ap (λ (x : FunTerm). before ++ (x ∷ gs)) (sym one.new) in
      let count = one.walked.count in (
        count + rest.0,
        (
          sum_is m h.0 n count rest.0 one.walked.counted rest.1.0,
          subst (λ (x : List FunTerm). Kept a (record a { functions = x }) (count + rest.0)) end (kept_on a b (record a { functions = (before ++ (new ∷ [])) ++ gs }) count rest.0 first rest.1.1),
        ),
      )

-- ---- outside

heads_on : (calls : ℕ → List (Option (List ℕ))) (es fs gs : List FunTerm) (n m : ℕ) → SameHeads es fs → AllMerged calls n fs gs m → SameHeads es gs
heads_on calls [] [] [] n m s h = tt
heads_on calls [] [] (g ∷ gs) n m s h = absurd h
heads_on calls [] (f ∷ fs) gs n m s h = absurd s
heads_on calls (e ∷ es) [] gs n m s h = absurd s
heads_on calls (e ∷ es) (f ∷ fs) [] n m s h = absurd h
heads_on calls (e ∷ es) (f ∷ fs) (g ∷ gs) n m s h = (
  subst (SameHead e) (sym h.1.0.new) (record { site = s.0.site; types = s.0.types; inlines = s.0.inlines }),
  heads_on calls es fs gs h.0 m s.1 h.1.1,
)

-- ---- a round that merged none

module _ (calls : ℕ → List (Option (List ℕ))) where
  after_function : {n k : ℕ} {f g : FunTerm} → FunctionMerged calls n k f g → n ≤ k
  after_function h = let e = h.walked.counted in omega (arith, e)

  after_all : (fs gs : List FunTerm) (n m : ℕ) → AllMerged calls n fs gs m → n ≤ m
  after_all [] [] n m h = omega (arith, h)
  after_all [] (g ∷ gs) n m h = absurd h
  after_all (f ∷ fs) [] n m h = absurd h
  after_all (f ∷ fs) (g ∷ gs) n m h = let one = after_function h.1.0 in let rest = after_all fs gs h.0 m h.1.1 in omega (arith, one, rest)

  no_more : (n k m : ℕ) → n ≤ k → k ≤ m → m ≡ n → k ≡ n
  no_more n k m p q e = omega (arith, p, q, e)

  none_counted : (n k c : ℕ) → k ≡ n + c → k ≡ n → c ≡ 0
  none_counted n k c p e = omega (arith, p, e)

  function_stays : {n k : ℕ} {f g : FunTerm} → FunctionMerged calls n k f g → k ≡ n → g ≡ f
  function_stays {n = n} {k = k} {f = f} h e =
      let body = still calls (params_facts f) h.walked.walk (none_counted n k h.walked.count h.walked.counted e) in
      h.new ∙ (λ i. record f { body = body i })

  all_stay : (fs gs : List FunTerm) (n m : ℕ) → AllMerged calls n fs gs m → m ≡ n → gs ≡ fs
  all_stay [] [] n m h e = refl
  all_stay [] (g ∷ gs) n m h e = absurd h
  all_stay (f ∷ fs) [] n m h e = absurd h
  all_stay (f ∷ fs) (g ∷ gs) n m h e =
      let none = no_more n h.0 m (after_function h.1.0) (after_all fs gs h.0 m h.1.1) e in
      λ i. function_stays h.1.0 none i ∷ all_stay fs gs h.0 m h.1.1 (e ∙ sym none) i

  function_none : (a : CoreTerm) (n k : ℕ) (f g : FunTerm) → calls ≡ called a → FunctionMerged calls n k f g → k ≡ n → NoneLeftIn a f
  function_none a n k f g same h e =
      let none = none_counted n k h.walked.count h.walked.counted e in
      let body = still calls (params_facts f) h.walked.walk none in
      subst (λ (c : ℕ → List (Option (List ℕ))). NoneMergeable c (above_function f) f.body (params_facts f)) same
      (subst (λ (m : ℕ). NoneMergeable calls m f.body (params_facts f)) h.above (subst (λ (b : BlockTerm). NoneMergeable calls h.first b (params_facts f)) body (h.walked.none none)))

  all_none : (a : CoreTerm) (fs gs : List FunTerm) (n m : ℕ) → calls ≡ called a → AllMerged calls n fs gs m → m ≡ n → All (NoneLeftIn a) fs
  all_none a [] gs n m same h e = All-nil (NoneLeftIn a)
  all_none a (f ∷ fs) [] n m same h e = absurd h
  all_none a (f ∷ fs) (g ∷ gs) n m same h e =
      let none = no_more n h.0 m (after_function h.1.0) (after_all fs gs h.0 m h.1.1) e in
      All-cons (NoneLeftIn a) f fs (function_none a n h.0 f g same h.1.0 none) (all_none a fs gs h.0 m same h.1.1 (e ∙ sym none))

-- ---- rounds

zero_left : (m c : ℕ) → m ≡ 0 + c → c ≡ m
zero_left m c e = omega (arith, e)

first_none : (n m : ℕ) → n + m ≡ 0 → n ≡ 0
first_none n m e = omega (arith, e)

second_none : (n m : ℕ) → n + m ≡ 0 → m ≡ 0
second_none n m e = omega (arith, e)

round_stays : (a b : CoreTerm) (count : ℕ) → Round a b count → count ≡ 0 → b ≡ a
round_stays a b count h e =
    sym (same_core a b h.groups h.main) ∙ (λ i. record a { functions = all_stay (called a) a.functions b.functions 0 count h.functions e i })

round_kept : (a b : CoreTerm) (count : ℕ) → Round a b count → IsWellFormed a → Kept a b count
round_kept a b count h well =
    let k = functions_kept (called a) a [] a.functions b.functions 0 count refl refl well h.functions in
    subst (λ (n : ℕ). Kept a b n) (zero_left count k.0 k.1.0) (subst (λ (x : CoreTerm). Kept a x k.0) (same_core a b h.groups h.main) k.1.1)

pub scalarised_itself : (a : CoreTerm) → Scalarised a a 0
scalarised_itself a = record { outside = record { groups = refl; main = refl; heads = same_heads a.functions }; same = λ e. refl; kept = kept_itself a }

pub round_on : (a b c : CoreTerm) (n m : ℕ) → Scalarised a b n → Round b c m → Scalarised a c (n + m)
round_on a b c n m p h = record {
  outside = record {
    groups = p.outside.groups ∙ sym h.groups;
    main = p.outside.main ∙ sym h.main;
    heads = heads_on (called b) a.functions b.functions c.functions 0 m p.outside.heads h.functions;
  };
  same = λ e. round_stays b c m h (second_none n m e) ∙ p.same (first_none n m e);
  kept = λ well. let one = p.kept well in kept_on a b c n m one (round_kept b c m h one.well);
}

-- the last round leaves none
pub ends : (b c : CoreTerm) (m : ℕ) → Round b c m → m ≡ 0 → NoneLeft c
ends b c m h e = subst NoneLeft (sym (round_stays b c m h e)) (all_none (called b) b b.functions c.functions 0 m refl h.functions e)
