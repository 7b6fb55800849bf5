-- Many pairs of a function, one after another.
use Rattle.std.proofs.Common.{◌≡◌, ℕ, ◌≤◌, List, Option, refl, sym, subst, ◌∙◌, arith}
use Rattle.core_ir.specs.Binders.{bound_in}
use Rattle.core_ir.specs.Edits.{Edited}
use Rattle.core_ir.specs.Outcome.{param_vars}
use Rattle.core_ir.specs.Terms.{BlockTerm, FunTerm, CoreTerm}
use Rattle.core_ir.specs.WellFormed.{IsFunction, IsWellFormed, bases, param_bases}
use Rattle.core_facts.specs.Facts.{Facts}
use Rattle.core_forms.proofs.inlined_bodies.Counts.{all_at}
use Rattle.core_forms.proofs.inlined_bodies.Names.{distinct_right, fresh_left, fresh_more, fresh_right, own_fresh, own_vars}
use Rattle.core_forms.proofs.inlined_bodies.Stepped.{stepped}
use Rattle.core_loops.specs.Steps.{fact_ways}
use Rattle.core_facts.specs.constants.Called.{called, params_facts}
use Rattle.core_subst.specs.Names.{above_function}
use Rattle.core_forms.specs.fold.Fresh.{FreshFoldOf}
use Rattle.core_forms.specs.fold.Walks.{BlockFolds, done, step, FunctionFolds, Pair}
use Rattle.core_forms.proofs.fold.Stepped.{State, called_after, state_after}
use Rattle.fold_walk.specs.fold_laws.Made.{FoldMadeOf}
use Rattle.fold_walk.specs.fold_laws.Walks.{PairsFolded, stays, folds, FunctionFolded}
use Rattle.fold_walk.proofs.fold_laws.Place.{fresh_of}
use Rattle.fold_walk.proofs.fold_laws.Placing.{placed}

module _ (calls : ℕ → List (Option (List ℕ))) (k : Facts) where
  -- one pair of a function's body
  one_fresh :
      (p : Pair) (low mid : ℕ) (b c : BlockTerm) → Edited Facts (fact_ways calls) (FoldMadeOf calls p.producer p.consumer low mid) k b c → (a : CoreTerm) (n : ℕ) (f : FunTerm) → b ≡ f.body → State low a n f →
      Edited Facts (fact_ways calls) (FreshFoldOf calls p.producer p.consumer low mid) k b c
  one_fresh p low mid b c h a n f e s =
      let is : IsFunction a f = all_at (IsFunction a) a.functions n f s.well.functions s.found in
      let fresh = fresh_more (own_vars f) (above_function f) low s.below (own_fresh f) in
      let vars = param_vars f in
      subst (λ (x : BlockTerm). Edited Facts (fact_ways calls) (FoldMadeOf calls p.producer p.consumer low mid) k x c → Edited Facts (fact_ways calls) (FreshFoldOf calls p.producer p.consumer low mid) k x c) (sym e)
      (λ h. placed a calls low (FoldMadeOf calls p.producer p.consumer low mid) (FreshFoldOf calls p.producer p.consumer low mid) (λ k b c h. fresh_of a calls p.producer p.consumer low mid k b c h) h vars is.scoped
      (fresh_left vars (bound_in f.body) low fresh) (fresh_right vars (bound_in f.body) low fresh) (distinct_right vars (bound_in f.body) is.once) (param_bases f) (bases f.results) is.agreeing) h

  itself_most : (n : ℕ) → n ≤ n
  itself_most n = omega arith

  pub all_fresh :
      {pairs : List Pair} {low high : ℕ} {b d : BlockTerm} → PairsFolded calls k pairs low high b d → (a : CoreTerm) (n : ℕ) (f : FunTerm) → calls ≡ called a → k ≡ params_facts f → b ≡ f.body → State low a n f →
      BlockFolds calls k pairs low high b d
  all_fresh (stays {n = low}) a n f c p e s = done (itself_most low)
  all_fresh (folds {p = pair} {low = low} {mid = mid} {b = b} {c = x} h rest) a n f c p e s =
      let one = one_fresh pair low mid b x h a n f e s in
      let given : Edited Facts (fact_ways (called a)) (FreshFoldOf (called a) pair.producer pair.consumer low mid) (params_facts f) f.body x =
      subst (λ (z : BlockTerm). Edited Facts (fact_ways (called a)) (FreshFoldOf (called a) pair.producer pair.consumer low mid) (params_facts f) z x) e
      (subst (λ (z : Facts). Edited Facts (fact_ways (called a)) (FreshFoldOf (called a) pair.producer pair.consumer low mid) z b x) p
      (subst (λ (z : ℕ → List (Option (List ℕ))). Edited Facts (fact_ways z) (FreshFoldOf z pair.producer pair.consumer low mid) k b x) c one)) in
      step one (all_fresh rest (stepped a n f x) n (record f { body = x }) (c ∙ sym (called_after pair low mid a n f x s given)) p refl (state_after pair low mid a n f x s given))

pub function_fresh : (a b : CoreTerm) (place : ℕ) (pairs : List Pair) → FunctionFolded a b place pairs → IsWellFormed a → (walk : FunctionFolds a b pairs) × (walk.place ≡ place)
function_fresh a b place pairs h well = (
  record {
    place = place;
    function = h.function;
    body = h.body;
    found = h.found;
    low = h.low;
    high = h.high;
    below = h.below;
    walk = all_fresh (called a) (params_facts h.function) h.walk a place h.function refl refl refl (record { well = well; found = h.found; below = h.below });
    changed = h.changed;
  },
  refl,
)
