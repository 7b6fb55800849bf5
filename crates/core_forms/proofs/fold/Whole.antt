-- Many pairs of one function of a core.
use Rattle.std.proofs.Common.{◌≡◌, ℕ, suc, ◌+◌, ◌≤◌, List, [], ◌∷◌, ◌++◌, length, Option, refl, sym, subst, ◌∙◌, arith}
use Rattle.core_ir.specs.Edits.{Edited}
use Rattle.core_ir.specs.Terms.{BlockTerm, FunTerm, CoreTerm}
use Rattle.core_ir.specs.WellFormed.{IsWellFormed}
use Rattle.core_facts.specs.calls.Arrays.{SameOutcomeOnArrays}
use Rattle.core_facts.specs.calls.Replaced.{replaced_at}
use Rattle.core_facts.specs.Facts.{Facts}
use Rattle.core_loops.specs.Steps.{fact_ways}
use Rattle.core_facts.specs.constants.Called.{called, params_facts}
use Rattle.core_subst.specs.Names.{above_function}
use Rattle.core_forms.proofs.inlined_bodies.Stepped.{stepped}
use Rattle.core_forms.specs.norm.Walks.{core_weight}
use Rattle.core_forms.proofs.norm.Replaced.{replaced_same, replaced_twice}
use Rattle.core_forms.proofs.norm.Whole.{up_to}
use Rattle.core_forms.proofs.norm.Grids.{same_most}
use Rattle.core_forms.specs.fold.Fresh.{FreshFoldOf}
use Rattle.core_forms.specs.fold.Walks.{Entry, Pair, BlockFolds, done, step, FunctionFolds, FoldSteps, no_fold, one_fold, entries_at, parted_count}
use Rattle.core_forms.proofs.fold.Stepped.{State, well_after, fold_of, counts_after, called_after, state_after, outcome_of}

-- ---- what many steps keep

pub record Result (a b : CoreTerm) (f : FunTerm) (place : ℕ) (pairs : List Pair) (high : ℕ) : Type 0 where
  pub outcome : SameOutcomeOnArrays a b
  pub well : IsWellFormed b
  pub lighter : core_weight b ≤ core_weight a
  pub fewer : parted_count b + length pairs ≡ parted_count a
  pub steps : FoldSteps (entries_at place pairs) a b
  pub below : above_function f ≤ high

nothing_more : (n : ℕ) → n + 0 ≡ n
nothing_more n = omega arith

one_less : (a b c n : ℕ) → b + 1 ≡ a → c + n ≡ b → c + suc n ≡ a
one_less a b c n p q = omega (arith, p, q)

module _ (k : Facts) (calls : ℕ → List (Option (List ℕ))) where
  all_kept :
      {pairs : List Pair} {low high : ℕ} {b d : BlockTerm} → BlockFolds calls k pairs low high b d → (a : CoreTerm) (n : ℕ) (f : FunTerm) → calls ≡ called a → k ≡ params_facts f → b ≡ f.body → State low a n f →
      Result a (stepped a n f d) (record f { body = d }) n pairs high
  all_kept (done {low = low} {high = high} {b = b} l) a n f c p e s =
      let own : f ≡ record f { body = b } = λ i. record f { body = sym e i } in
      let stays : a ≡ stepped a n f b = λ i. record a { functions = (sym (replaced_same a.functions n f s.found) ∙ (λ j. replaced_at a.functions n (own j))) i } in
      subst (λ (x : CoreTerm). Result a x (record f { body = b }) n [] high) stays
      (record {
        outcome = λ args caps full. refl;
        well = s.well;
        lighter = same_most (core_weight a) (core_weight a) refl;
        fewer = nothing_more (parted_count a);
        steps = no_fold;
        below = subst (λ (g : FunTerm). above_function g ≤ high) own (up_to (above_function f) low high s.below l);
      })
  all_kept (step {p = pair} {ps = pairs} {low = low} {mid = mid} {high = high} {b = b} {c = x} {d = d} h rest) a n f c p e s =
      let given : Edited Facts (fact_ways (called a)) (FreshFoldOf (called a) pair.producer pair.consumer low mid) (params_facts f) f.body x =
      subst (λ (z : BlockTerm). Edited Facts (fact_ways (called a)) (FreshFoldOf (called a) pair.producer pair.consumer low mid) (params_facts f) z x) e
      (subst (λ (z : Facts). Edited Facts (fact_ways (called a)) (FreshFoldOf (called a) pair.producer pair.consumer low mid) z b x) p
      (subst (λ (z : ℕ → List (Option (List ℕ))). Edited Facts (fact_ways z) (FreshFoldOf z pair.producer pair.consumer low mid) k b x) c h)) in
      let y = stepped a n f x in
      let g = record f { body = x } in
      let r = all_kept rest y n g (c ∙ sym (called_after pair low mid a n f x s given)) p refl (state_after pair low mid a n f x s given) in
      let one = fold_of pair low mid a n f x s given in
      let well = well_after pair low mid a n f x s given in
      let counts = counts_after pair low mid a n f x s given in
      let same : stepped y n g d ≡ stepped a n f d = λ i. record a { functions = replaced_twice a.functions n g (record f { body = d }) i } in
      subst (λ (z : CoreTerm). Result a z (record f { body = d }) n (pair ∷ pairs) high) same
      (record {
        outcome = λ args caps full. outcome_of (n, pair) a y one s.well well args caps full ∙ r.outcome args caps full;
        well = r.well;
        lighter = up_to (core_weight (stepped y n g d)) (core_weight y) (core_weight a) r.lighter (same_most (core_weight y) (core_weight a) counts.1);
        fewer = one_less (parted_count a) (parted_count y) (parted_count (stepped y n g d)) (length pairs) counts.0 r.fewer;
        steps = one_fold one r.steps;
        below = r.below;
      })

kept : (a b : CoreTerm) (pairs : List Pair) (walk : FunctionFolds a b pairs) → IsWellFormed a → Result a (stepped a walk.place walk.function walk.body) (record (walk.function) { body = walk.body }) walk.place pairs walk.high
kept a b pairs walk well =
    all_kept (params_facts walk.function) (called a) walk.walk a walk.place walk.function refl refl refl (record { well = well; found = walk.found; below = walk.below })

pub folds_keep : (a b : CoreTerm) (pairs : List Pair) (walk : FunctionFolds a b pairs) → IsWellFormed a →
    SameOutcomeOnArrays a b × IsWellFormed b × (core_weight b ≤ core_weight a) × (parted_count b + length pairs ≡ parted_count a) × FoldSteps (entries_at walk.place pairs) a b
folds_keep a b pairs walk well =
    let r = kept a b pairs walk well in
    subst
    (λ (x : CoreTerm).
    SameOutcomeOnArrays a x × IsWellFormed x × (core_weight x ≤ core_weight a) × (parted_count x + length pairs ≡ parted_count a) × FoldSteps (entries_at walk.place pairs) a x) (sym walk.changed)
    (r.outcome, r.well, r.lighter, r.fewer, r.steps)

pub numbers_below : (a b : CoreTerm) (pairs : List Pair) (walk : FunctionFolds a b pairs) → IsWellFormed a → above_function (record (walk.function) { body = walk.body }) ≤ walk.high
numbers_below a b pairs walk well = (kept a b pairs walk well).below

pub go_on : (xs ys : List Entry) (a b c : CoreTerm) → FoldSteps xs a b → FoldSteps ys b c → FoldSteps (xs ++ ys) a c
go_on xs ys a b c no_fold t = t
go_on xs ys a b c (one_fold {entries = rest} {b = x} s more) t = one_fold s (go_on rest ys x b c more t)
