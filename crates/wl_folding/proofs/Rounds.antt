-- What a round keeps, rounds after one another, and what a round leaves that folded nothing.
use Rattle.std.proofs.Common.{◌≡◌, ℕ, suc, ◌+◌, ◌≤◌, List, [], ◌∷◌, ◌++◌, length, All, Option, Some, refl, sym, ap, subst, ◌∙◌, ◌⊎◌, append_assoc, append-nil, arith}
use Rattle.std.specs.Prelude.{slice_get}
use Rattle.std.proofs.lemmas.List.{length-append}
use Rattle.std.proofs.lemmas.List.Elements.{All-nil, All-cons}
use Rattle.core_ir.specs.Outcome.{SameHead, SameHeads}
use Rattle.core_ir.specs.Terms.{FunTerm, CoreTerm}
use Rattle.core_ir.specs.WellFormed.{IsWellFormed}
use Rattle.core_facts.specs.calls.Replaced.{replaced_at}
use Rattle.core_facts.specs.constants.Called.{called, params_facts}
use Rattle.core_subst.specs.Names.{above_function}
use Rattle.core_forms.proofs.inlined_bodies.Stepped.{stepped}
use Rattle.core_forms.specs.norm.Walks.{core_weight}
use Rattle.core_forms.proofs.norm.Replaced.{at_length, put_at, same_called, same_core, same_heads}
use Rattle.core_forms.specs.fold.Walks.{Entry, Pair, FoldSteps, no_fold, entries_at, parted_count}
use Rattle.core_forms.proofs.fold.Whole.{folds_keep, go_on}
use Rattle.fold_walk.specs.fold_laws.Walks.{PairsFolded, FunctionFolded}
use Rattle.fold_walk.proofs.fold_laws.Walks.{function_fresh}
use Rattle.fold_walk.specs.declared.state.Fold.{Fold}
use Rattle.core_walk.specs.Editing.{EachBinding}
use Rattle.fold_walk.specs.Left.{NoPairAt}
use Rattle.wl_folding.specs.Folded.{AllWalked, CoreFolded, FunctionWalked, HasNoPair, HasNoPairs, Kept, Round, entries_of, entry_of}
use Rattle.wl_folding.proofs.Walks.{logged, as_many, same_entries, pairs_of, unchanged}

-- ---- one after another

nothing_more : (n : ℕ) → n + 0 ≡ n
nothing_more n = omega arith

itself_most : (n : ℕ) → n ≤ n
itself_most n = omega arith

up_to : (a b c : ℕ) → a ≤ b → b ≤ c → a ≤ c
up_to a b c p q = omega (arith, p, q)

sum_is : (a b c n m k : ℕ) → b + n ≡ a → c + m ≡ b → k ≡ n + m → c + k ≡ a
sum_is a b c n m k p q r = omega (arith, p, q, r)

entries_append : (xs ys : List Fold) → entries_of (xs ++ ys) ≡ entries_of xs ++ entries_of ys
entries_append [] ys = refl
entries_append (x ∷ xs) ys = ap (λ (es : List Entry). entry_of x ∷ es) (entries_append xs ys)

kept_itself : (a : CoreTerm) → IsWellFormed a → Kept a a []
kept_itself a well = record {
  outcome = λ args caps full. refl;
  well = well;
  weight = itself_most (core_weight a);
  parted = nothing_more (parted_count a);
  steps = no_fold;
}

kept_on : (a b c : CoreTerm) (xs ys : List Fold) → Kept a b xs → Kept b c ys → Kept a c (xs ++ ys)
kept_on a b c xs ys p q = record {
  outcome = λ args caps full. p.outcome args caps full ∙ q.outcome args caps full;
  well = q.well;
  weight = up_to (core_weight c) (core_weight b) (core_weight a) q.weight p.weight;
  parted = sum_is (parted_count a) (parted_count b) (parted_count c) (length xs) (length ys) (length (xs ++ ys)) p.parted q.parted (length-append xs ys);
  steps = subst (λ (es : List Entry). FoldSteps es a c) (sym (entries_append xs ys)) (go_on (entries_of xs) (entries_of ys) a b c p.steps q.steps);
}

-- ---- one function

at_most : (a b : ℕ) → a ≡ b → b ≤ a
at_most a b e = omega (arith, e)

module _ (calls : ℕ → List (Option (List ℕ))) where
  -- the pairs that were folded in a function
  function_pairs : (place : ℕ) (before after : List Fold) (f g : FunTerm) → (h : FunctionWalked calls place before after f g) → (pairs : List Pair) × ((after ≡ before ++ logged place pairs)
      × PairsFolded calls (params_facts f) pairs h.first h.last f.body h.body)
  function_pairs place before after f g h = pairs_of calls place h.walked.walked

  function_kept :
      (a : CoreTerm) (place : ℕ) (before after : List Fold) (f g : FunTerm) → slice_get a.functions place ≡ Some f → calls ≡ called a → IsWellFormed a →
      (h : FunctionWalked calls place before after f g) → (found : List Fold) × ((after ≡ before ++ found) × Kept a (stepped a place f h.body) found)
  function_kept a place before after f g found same well h =
      let one = function_pairs place before after f g h in
      let pairs = one.0 in
      let b = stepped a place f h.body in
      let whole : FunctionFolded a b place pairs = record {
        function = f;
        body = h.body;
        found = found;
        low = h.first;
        high = h.last;
        below = at_most h.first (above_function f) h.above;
        walk = subst (λ (c : ℕ → List (Option (List ℕ))). PairsFolded c (params_facts f) pairs h.first h.last f.body h.body) same one.1.1;
        changed = refl;
      } in
      let fresh = function_fresh a b place pairs whole well in
      let keeps = folds_keep a b pairs fresh.0 well in (
        logged place pairs,
        (
          one.1.0,
          record {
            outcome = keeps.0;
            well = keeps.1;
            weight = keeps.2;
            parted = (λ i. parted_count b + as_many place pairs i) ∙ keeps.3;
            steps = subst (λ (es : List Entry). FoldSteps es a b) ((λ i. entries_at (fresh.1 i) pairs) ∙ sym (same_entries place pairs)) keeps.4;
          },
        ),
      )

  -- ---- all functions

  log_on : (before between after xs ys : List Fold) → between ≡ before ++ xs → after ≡ between ++ ys → after ≡ before ++ (xs ++ ys)
  log_on before between after xs ys p q = q ∙ ap (λ (l : List Fold). l ++ ys) p ∙ append_assoc before xs ys

  functions_kept :
      (a : CoreTerm) (done fs gs : List FunTerm) (place : ℕ) (before after : List Fold) → a.functions ≡ done ++ fs → place ≡ length done → calls ≡ called a → IsWellFormed a →
      AllWalked calls place before fs gs after → (found : List Fold) × ((after ≡ before ++ found) × Kept a (record a { functions = done ++ gs }) found)
  functions_kept a done [] [] place before after e at same well h =
      let stays : a ≡ record a { functions = done ++ [] } = λ i. record a { functions = e i } in
      ([], (h ∙ sym (append-nil before), subst (λ (x : CoreTerm). Kept a x []) stays (kept_itself a well)))
  functions_kept a done [] (g ∷ gs) place before after e at same well h = absurd h
  functions_kept a done (f ∷ fs) [] place before after e at same well h = absurd h
  functions_kept a done (f ∷ fs) (g ∷ gs) place before after e at same well h =
      let found : slice_get a.functions place ≡ Some f = (λ i. slice_get (e i) (at i)) ∙ at_length done fs f in
      let one = h.1.0 in
      let first = function_kept a place before h.0 f g found same well one in
      let b = stepped a place f one.body in
      let new = record f { body = one.body } in
      let next : b.functions ≡ (done ++ (new ∷ [])) ++ fs = (λ i. replaced_at (e i) (at i) new) ∙ put_at done fs f new ∙ sym (append_assoc done (new ∷ []) fs) in
      let behind : suc place ≡ length (done ++ (new ∷ [])) = next_place place (length done) (length (done ++ (new ∷ []))) at (length-append done (new ∷ [])) in
      let rest = functions_kept b (done ++ (new ∷ [])) fs gs (suc place) h.0 after next behind (same ∙ sym (same_called a place f one.body found)) first.1.1.well h.1.1 in
      let end : (done ++ (new ∷ [])) ++ gs ≡ done ++ (g ∷ gs) = append_assoc done (new ∷ []) gs ∙ ap (λ (x : FunTerm). done ++ (x ∷ gs)) (sym one.new) in (
        first.0 ++ rest.0,
        (
          log_on before h.0 after first.0 rest.0 first.1.0 rest.1.0,
          subst (λ (x : List FunTerm). Kept a (record a { functions = x }) (first.0 ++ rest.0)) end
              (kept_on a b (record a { functions = (done ++ (new ∷ [])) ++ gs }) first.0 rest.0 first.1.1 rest.1.1),
        ),
      )
    where
      next_place : (p n m : ℕ) → p ≡ n → m ≡ n + 1 → suc p ≡ m
      next_place p n m e l = omega (arith, e, l)

-- ---- outside

heads_on : (calls : ℕ → List (Option (List ℕ))) (es fs gs : List FunTerm) (place : ℕ) (before after : List Fold) → SameHeads es fs → AllWalked calls place before fs gs after → SameHeads es gs
heads_on calls [] [] [] place before after s h = tt
heads_on calls [] [] (g ∷ gs) place before after s h = absurd h
heads_on calls [] (f ∷ fs) gs place before after s h = absurd s
heads_on calls (e ∷ es) [] gs place before after s h = absurd s
heads_on calls (e ∷ es) (f ∷ fs) [] place before after s h = absurd h
heads_on calls (e ∷ es) (f ∷ fs) (g ∷ gs) place before after s h = (
  subst (SameHead e) (sym h.1.0.new) (record { site = s.0.site; types = s.0.types; inlines = s.0.inlines }),
  heads_on calls es fs gs (suc place) h.0 after s.1 h.1.1,
)

-- ---- a round that folded nothing

no_entry : (xs ys : List Fold) → xs ++ ys ≡ xs → ys ≡ []
no_entry xs [] e = refl
no_entry xs (y ∷ ys) e = absurd (let n = ap length e in let m = length-append xs (y ∷ ys) in too_long (length xs) (length (xs ++ (y ∷ ys))) (length ys) n m)
  where
    too_long : (n m k : ℕ) → m ≡ n → m ≡ n + suc k → ⊥
    too_long n m k p q = omega (arith, p, q)

first_none : (before between after xs ys : List Fold) → between ≡ before ++ xs → after ≡ between ++ ys → after ≡ before → between ≡ before
first_none before between after xs ys p q e =
    let both : xs ++ ys ≡ [] = no_entry before (xs ++ ys) (sym (q ∙ ap (λ (l : List Fold). l ++ ys) p ∙ append_assoc before xs ys) ∙ e) in
    p ∙ ap (λ (l : List Fold). before ++ l) (first_empty xs ys both) ∙ append-nil before
  where
    first_empty : (xs ys : List Fold) → xs ++ ys ≡ [] → xs ≡ []
    first_empty [] ys e = refl
    first_empty (x ∷ xs) ys e = absurd (let n : length (x ∷ (xs ++ ys)) ≡ 0 = ap length e in omega (arith, n))

no_pair : (place : ℕ) (pairs : List Pair) → logged place pairs ≡ [] → pairs ≡ []
no_pair place [] e = refl
no_pair place (p ∷ pairs) e = absurd (let n : length (logged place (p ∷ pairs)) ≡ 0 = ap length e in omega (arith, n))

module _ (calls : ℕ → List (Option (List ℕ))) where
  all_pairs : (fs gs : List FunTerm) (place : ℕ) (before after : List Fold) → AllWalked calls place before fs gs after → (found : List Fold) × (after ≡ before ++ found)
  all_pairs [] [] place before after h = ([], h ∙ sym (append-nil before))
  all_pairs [] (g ∷ gs) place before after h = absurd h
  all_pairs (f ∷ fs) [] place before after h = absurd h
  all_pairs (f ∷ fs) (g ∷ gs) place before after h =
      let one = function_pairs calls place before h.0 f g h.1.0 in
      let rest = all_pairs fs gs (suc place) h.0 after h.1.1 in
      (logged place one.0 ++ rest.0, log_on calls before h.0 after (logged place one.0) rest.0 one.1.0 rest.1)

  none_first : (f g : FunTerm) (fs gs : List FunTerm) (place : ℕ) (before after : List Fold) → (h : AllWalked calls place before (f ∷ fs) (g ∷ gs) after) → after ≡ before → h.0 ≡ before
  none_first f g fs gs place before after h e =
      let one = function_pairs calls place before h.0 f g h.1.0 in
      let rest = all_pairs fs gs (suc place) h.0 after h.1.1 in
      first_none before h.0 after (logged place one.0) rest.0 one.1.0 rest.1 e

  function_stays : (place : ℕ) (before after : List Fold) (f g : FunTerm) → FunctionWalked calls place before after f g → after ≡ before → g ≡ f
  function_stays place before after f g h e =
      let one = function_pairs calls place before after f g h in
      let none = no_pair place one.0 (no_entry before (logged place one.0) (sym one.1.0 ∙ e)) in
      h.new ∙ (λ i. record f { body = unchanged calls (params_facts f) one.0 h.first h.last f.body h.body one.1.1 none i })

  all_stay : (fs gs : List FunTerm) (place : ℕ) (before after : List Fold) → AllWalked calls place before fs gs after → after ≡ before → gs ≡ fs
  all_stay [] [] place before after h e = refl
  all_stay [] (g ∷ gs) place before after h e = absurd h
  all_stay (f ∷ fs) [] place before after h e = absurd h
  all_stay (f ∷ fs) (g ∷ gs) place before after h e =
      let none = none_first f g fs gs place before after h e in
      λ i. function_stays place before h.0 f g h.1.0 none i ∷ all_stay fs gs (suc place) h.0 after h.1.1 (e ∙ sym none) i

  function_done : (a : CoreTerm) (place : ℕ) (before after : List Fold) (f g : FunTerm) → calls ≡ called a → FunctionWalked calls place before after f g → after ≡ before → HasNoPair a f
  function_done a place before after f g same h e =
      subst (λ (n : ℕ). EachBinding (called a) (NoPairAt (called a) n) f.body (params_facts f)) h.above
      (subst (λ (c : ℕ → List (Option (List ℕ))). EachBinding c (NoPairAt c h.first) f.body (params_facts f)) same (h.walked.none e))

  all_done : (a : CoreTerm) (fs gs : List FunTerm) (place : ℕ) (before after : List Fold) → calls ≡ called a → AllWalked calls place before fs gs after → after ≡ before → All (HasNoPair a) fs
  all_done a [] gs place before after same h e = All-nil (HasNoPair a)
  all_done a (f ∷ fs) [] place before after same h e = absurd h
  all_done a (f ∷ fs) (g ∷ gs) place before after same h e =
      let none = none_first f g fs gs place before after h e in
      All-cons (HasNoPair a) f fs (function_done a place before h.0 f g same h.1.0 none) (all_done a fs gs (suc place) h.0 after same h.1.1 (e ∙ sym none))

-- ---- rounds

round_kept : (a b : CoreTerm) (folds : List Fold) → Round a b folds → IsWellFormed a → Kept a b folds
round_kept a b folds h well =
    let k = functions_kept (called a) a [] a.functions b.functions 0 [] folds refl refl refl well h.functions in
    subst (λ (l : List Fold). Kept a b l) (sym k.1.0) (subst (λ (x : CoreTerm). Kept a x k.0) (same_core a b h.groups h.main) k.1.1)

round_stays : (a b : CoreTerm) (folds : List Fold) → Round a b folds → folds ≡ [] → a ≡ b
round_stays a b folds h e = (λ i. record a { functions = sym (all_stay (called a) a.functions b.functions 0 [] folds h.functions e) i }) ∙ same_core a b h.groups h.main

pub folded_itself : (a : CoreTerm) (folds : List Fold) → folds ≡ [] → CoreFolded a a folds
folded_itself a folds e = subst (CoreFolded a a) (sym e) (record { outside = record { groups = refl; main = refl; heads = same_heads a.functions }; kept = kept_itself a; unchanged = λ n. refl })

none_then : (xs ys : List Fold) → xs ++ ys ≡ [] → ys ≡ []
none_then [] ys e = e
none_then (x ∷ xs) ys e = absurd (let n : length (x ∷ (xs ++ ys)) ≡ 0 = ap length e in omega (arith, n))

none_before : (xs ys : List Fold) → xs ++ ys ≡ [] → xs ≡ []
none_before [] ys e = refl
none_before (x ∷ xs) ys e = absurd (let n : length (x ∷ (xs ++ ys)) ≡ 0 = ap length e in omega (arith, n))

pub round_on : (a b c : CoreTerm) (xs ys folds : List Fold) → CoreFolded a b xs → Round b c ys → folds ≡ xs ++ ys → CoreFolded a c folds
round_on a b c xs ys folds p h e = subst (CoreFolded a c) (sym e) (record {
  outside = record {
    groups = p.outside.groups ∙ sym h.groups;
    main = p.outside.main ∙ sym h.main;
    heads = heads_on (called b) a.functions b.functions c.functions 0 [] ys p.outside.heads h.functions;
  };
  kept = λ well. let one = p.kept well in kept_on a b c xs ys one (round_kept b c ys h one.well);
  unchanged = λ n. sym (round_stays b c ys h (none_then xs ys n)) ∙ p.unchanged (none_before xs ys n);
})

-- the last round finds nothing
pub ends_done : (b c : CoreTerm) (folds : List Fold) → Round b c folds → folds ≡ [] → HasNoPairs c
ends_done b c folds h e = subst HasNoPairs (round_stays b c folds h e) (all_done (called b) b b.functions c.functions 0 [] folds refl h.functions e)
