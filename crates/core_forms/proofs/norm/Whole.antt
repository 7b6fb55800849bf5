-- Many steps in one function of a core.
use Rattle.std.proofs.Common.{◌≡◌, ℕ, suc, ◌+◌, ◌<◌, ◌≤◌, List, [], ◌∷◌, Option, refl, sym, subst, ◌∙◌, arith}
use Rattle.core_ir.specs.Edits.{Edited}
use Rattle.core_ir.specs.Terms.{BlockTerm, FunTerm, CoreTerm}
use Rattle.core_ir.specs.WellFormed.{IsWellFormed}
use Rattle.core_facts.specs.calls.Arrays.{SameOutcomeOnArrays}
use Rattle.core_facts.specs.calls.Replaced.{replaced_at}
use Rattle.core_facts.specs.Facts.{Facts}
use Rattle.core_loops.specs.Steps.{fact_ways}
use Rattle.core_facts.specs.constants.Called.{called, params_facts}
use Rattle.core_subst.specs.Names.{above_function}
use Rattle.core_loops.specs.norm_steps.Step.{BaseTable}
use Rattle.core_loops.proofs.norm_steps.Whole.{norm_outcome}
use Rattle.core_forms.proofs.inlined_bodies.Stepped.{stepped}
use Rattle.core_forms.specs.norm.Fresh.{FreshHere}
use Rattle.core_forms.specs.norm.Walks.{done, step, BlockWalk, FunctionWalk, NormSteps, no_step, one_more, core_weight}
use Rattle.core_forms.proofs.norm.Replaced.{replaced_same, replaced_twice}
use Rattle.core_forms.proofs.norm.Stepped.{State, well_after, norm_step, weight_after, called_after, state_after}

-- ---- what many steps keep

pub record Result (a b : CoreTerm) (f : FunTerm) (count high : ℕ) : Type 0 where
  pub outcome : SameOutcomeOnArrays a b
  pub well : IsWellFormed b
  pub lighter : core_weight b + count ≤ core_weight a
  pub steps : NormSteps count a b
  pub below : above_function f ≤ high

nothing_more : (n : ℕ) → n + 0 ≤ n
nothing_more n = omega arith

pub up_to : (a b c : ℕ) → a ≤ b → b ≤ c → a ≤ c
up_to a b c p q = omega arith

pub one_less : (a b c n : ℕ) → b < a → c + n ≤ b → c + suc n ≤ a
one_less a b c n p q = omega arith

module _ (first : ℕ) (m : BaseTable) (k : Facts) (calls : ℕ → List (Option (List ℕ))) where
  all_kept :
      {count low high : ℕ} {b d : BlockTerm} → BlockWalk calls first m k count low high b d → (a : CoreTerm) (n : ℕ) (f : FunTerm) → calls ≡ called a → k ≡ params_facts f →
      b ≡ f.body → State first low m a n f → Result a (stepped a n f d) (record f { body = d }) count high
  all_kept (done {low = low} {high = high} {a = b} l) a n f c p e s =
      let own : f ≡ record f { body = b } = λ i. record f { body = sym e i } in
      let stays : a ≡ stepped a n f b = λ i. record a { functions = (sym (replaced_same a.functions n f s.found) ∙ (λ j. replaced_at a.functions n (own j))) i } in
      subst (λ (x : CoreTerm). Result a x (record f { body = b }) 0 high) stays
      (record {
        outcome = λ args caps full. refl;
        well = s.well;
        lighter = nothing_more (core_weight a);
        steps = no_step;
        below = subst (λ (g : FunTerm). above_function g ≤ high) own (up_to (above_function f) low high s.below l);
      })
  all_kept (step {count = count} {low = low} {mid = mid} {high = high} {a = b} {b = x} {c = d} h rest) a n f c p e s =
      let given : Edited Facts (fact_ways (called a)) (FreshHere first low mid m) (params_facts f) f.body x =
      subst (λ (z : BlockTerm). Edited Facts (fact_ways (called a)) (FreshHere first low mid m) (params_facts f) z x) e
      (subst (λ (z : Facts). Edited Facts (fact_ways (called a)) (FreshHere first low mid m) z b x) p
      (subst (λ (z : ℕ → List (Option (List ℕ))). Edited Facts (fact_ways z) (FreshHere first low mid m) k b x) c h)) in
      let y = stepped a n f x in
      let g = record f { body = x } in
      let r = all_kept rest y n g (c ∙ sym (called_after first low mid m a n f x s given)) p refl (state_after first low mid m a n f x s given) in
      let one = norm_step first low mid m a n f x s given in
      let well = well_after first low mid m a n f x s given in
      let same : stepped y n g d ≡ stepped a n f d = λ i. record a { functions = replaced_twice a.functions n g (record f { body = d }) i } in
      subst (λ (z : CoreTerm). Result a z (record f { body = d }) (suc count) high) same
      (record {
        outcome = λ args caps full. norm_outcome above_function a y one s.well well args caps full ∙ r.outcome args caps full;
        well = r.well;
        lighter = one_less (core_weight a) (core_weight y) (core_weight (stepped y n g d)) count (weight_after first low mid m a n f x s given) r.lighter;
        steps = one_more one r.steps;
        below = r.below;
      })

kept : (a b : CoreTerm) (count : ℕ) (walk : FunctionWalk a b count) → IsWellFormed a → Result a (stepped a walk.place walk.function walk.body) (record (walk.function) { body = walk.body }) count walk.high
kept a b count walk well =
    all_kept walk.low walk.table (params_facts walk.function) (called a) walk.walk a walk.place walk.function refl refl refl
    (record { well = well; found = walk.found; below = walk.below; rise = itself walk.low; table = walk.table; same = λ x l. refl; params = walk.params; agreeing = walk.agreeing; follows = walk.follows })
  where
    itself : (n : ℕ) → n ≤ n
    itself n = omega arith

pub walks_keep : (a b : CoreTerm) (count : ℕ) → FunctionWalk a b count → IsWellFormed a → SameOutcomeOnArrays a b × IsWellFormed b × (core_weight b + count ≤ core_weight a) × NormSteps count a b
walks_keep a b count walk well =
    let r = kept a b count walk well in
    subst (λ (x : CoreTerm). SameOutcomeOnArrays a x × IsWellFormed x × (core_weight x + count ≤ core_weight a) × NormSteps count a x) (sym walk.changed) (r.outcome, r.well, r.lighter, r.steps)

pub numbers_below : (a b : CoreTerm) (count : ℕ) (walk : FunctionWalk a b count) → IsWellFormed a → above_function (record (walk.function) { body = walk.body }) ≤ walk.high
numbers_below a b count walk well = (kept a b count walk well).below

pub go_on : (n m : ℕ) (a b c : CoreTerm) → NormSteps n a b → NormSteps m b c → NormSteps (n + m) a c
go_on n m a b c no_step t = subst (λ (k : ℕ). NormSteps k a c) (omega arith) t
go_on n m a b c (one_more {count = k} {b = x} s rest) t = subst (λ (k : ℕ). NormSteps k a c) (omega arith) (one_more s (go_on k m x b c rest t))
