-- One fold step with new variables: the core is well formed.
use Rattle.std.proofs.Common.{◌≡◌, ℕ, ◌+◌, ◌≤◌, List, Option, Some, refl, arith}
use Rattle.std.specs.Prelude.{slice_get}
use Rattle.core_ir.specs.declared.tree.Var.{Var}
use Rattle.core_ir.specs.Binders.{bound_in}
use Rattle.core_ir.specs.Edits.{Edited}
use Rattle.core_ir.specs.Outcome.{param_vars}
use Rattle.core_ir.specs.Scopes.{Scoped}
use Rattle.core_ir.specs.Terms.{BlockTerm, FunTerm, CoreTerm}
use Rattle.core_ir.specs.WellFormed.{bases, param_bases, BlockBases, IsFunction, IsWellFormed}
use Rattle.core_facts.proofs.bases.Backward.{below}
use Rattle.core_facts.specs.calls.Arrays.{SameOutcomeOnArrays}
use Rattle.core_facts.specs.calls.Nests.{CallsAll, InlineBelow}
use Rattle.core_facts.specs.Facts.{Facts}
use Rattle.core_loops.specs.Loops.{weight, parted_in}
use Rattle.core_loops.specs.Steps.{fact_ways, FoldsHere}
use Rattle.core_facts.specs.constants.Called.{called, params_facts}
use Rattle.core_subst.specs.Names.{above, above_function}
use Rattle.core_loops.proofs.norm_steps.Tables.{has_table}
use Rattle.core_loops.specs.fold_steps.Step.{FoldStep}
use Rattle.core_loops.proofs.fold_steps.Whole.{fold_outcome}
use Rattle.core_forms.proofs.inlined_bodies.Names.{Names}
use Rattle.core_forms.proofs.inlined_bodies.Stepped.{stepped, group_moved, well_stepped}
use Rattle.core_forms.specs.norm.Walks.{functions_weight, core_weight}
use Rattle.core_forms.proofs.norm.Changing.{IsBelow, falls_by_one, is_below, names_of_all, stays, total_at}
use Rattle.core_forms.proofs.norm.Walking.{by_other, scoped_kept, calls_kept, bases_kept}
use Rattle.core_forms.proofs.norm.Replaced.{found_after, low_params, above_after, still_backward, same_called}
use Rattle.core_forms.specs.fold.Fresh.{FreshFold, FreshFoldOf, Folds}
use Rattle.core_forms.specs.fold.Walks.{Entry, Pair, FoldOf, functions_parted, parted_count}
use Rattle.core_forms.proofs.fold.Laws.{fewer, still_rises, names_after, unnamed}
use Rattle.core_forms.proofs.fold.Places.{place_scoped, place_bases, place_calls}

-- ---- a smaller bound

abbrev lowered : (calls : ℕ → List (Option (List ℕ))) (above less : ℕ) (k : Facts) (b c : BlockTerm) → less ≤ above → FoldsHere calls above k b c → FoldsHere calls less k b c
lowered calls above less k b c l h =
    let f = h.foldable in
    record {
      producer = h.producer;
      between = h.between;
      consumer = h.consumer;
      site = h.site;
      frame = h.frame;
      base = h.base;
      op = h.op;
      old = h.old;
      new = h.new;
      rest = h.rest;
      later = h.later;
      known = h.known;
      foldable = record {
        makes = f.makes;
        total = f.total;
        selected = f.selected;
        count = f.count;
        folds = f.folds;
        used = f.used;
        few = f.few;
        before = f.before;
        operation = f.operation;
        after = f.after;
        numbers = omega (arith, l, f.numbers);
      };
      parts = h.parts;
      gone = h.gone;
      before = h.before;
      after = h.after;
    }

folds : (calls : ℕ → List (Option (List ℕ))) (x y : Var) (low high less : ℕ) → less ≤ low → (k : Facts) (b c : BlockTerm) → FreshFoldOf calls x y low high k b c → Folds calls x y less k b c
folds calls x y low high less l k b c h = (lowered calls low less k b c l h.0.step, (h.1.0, h.1.1))

-- ---- one step

pub record State (low : ℕ) (a : CoreTerm) (n : ℕ) (f : FunTerm) : Type 0 where
  pub well : IsWellFormed a
  pub found : slice_get a.functions n ≡ Some f
  pub below : above_function f ≤ low

module _ (pair : Pair) (low high : ℕ) (a : CoreTerm) (n : ℕ) (f : FunTerm) (c : BlockTerm) (state : State low a n f) (given : Edited Facts (fact_ways (called a)) (FreshFoldOf (called a) pair.producer pair.consumer low high) (params_facts f) f.body c) where
  abbrev next : CoreTerm
  next = stepped a n f c

  abbrev own : FunTerm
  own = record f { body = c }

  edited : Edited Facts (fact_ways (called a)) (FreshFold (called a) low high) (params_facts f) f.body c
  edited = unnamed (called a) pair.producer pair.consumer low high (params_facts f) f.body c given

  function : IsBelow low a f
  function = is_below low a n f state.well state.found state.below

  pub rise : low ≤ high
  rise = still_rises (called a) low high (params_facts f) f.body c edited

  names : Names (bound_in f.body) (bound_in c) low high
  names = names_after (called a) low high (params_facts f) f.body c edited

  pub scoped : Scoped (param_vars f) c
  scoped = scoped_kept Facts (fact_ways (called a)) (FreshFold (called a) low high) low (λ k b c h. place_scoped (called a) low high k b c h) edited (param_vars f) function.is.scoped function.params_fresh function.bound_fresh

  pub based : BlockBases next (param_bases f) c (bases f.results)
  based =
      let t = has_table a f function.is in
      (bases_kept Facts (fact_ways (called a)) (FreshFold (called a) low high) 0 low t.0 a next (group_moved a n f c state.found)
      (λ k x y h g ts d w v l q o. place_bases (called a) low high k x y h t.0 a next (group_moved a n f c state.found) g ts d w v l q o)
      edited (param_bases f) (bases f.results) function.is.agreeing t.1 t.2 (low_params f low function.params_fresh) function.bound_fresh function.body_once).0

  pub function_after : IsFunction next own
  function_after = record { once = (names_of_all low high f c rise names).once function.is.once function.fresh; scoped = scoped; agreeing = based }

  -- ---- calls

  new_below : (place : ℕ) → CallsAll (InlineBelow a place) f.body → CallsAll (InlineBelow a place) c
  new_below place h = calls_kept Facts (fact_ways (called a)) (FreshFold (called a) low high) (InlineBelow a place) (λ k b c h. place_calls (called a) low high k b c h (InlineBelow a place)) edited h

  pub well_after : IsWellFormed next
  well_after = well_stepped a n f c state.found state.well (still_backward a n f c state.found state.well new_below) function_after

  -- ---- the step

  pub fold_of : FoldOf (n, pair) a next
  fold_of = record {
    function = f;
    body = c;
    found = state.found;
    edited = by_other Facts (fact_ways (called a)) (FreshFoldOf (called a) pair.producer pair.consumer low high) (Folds (called a) pair.producer pair.consumer (above_function f))
        (folds (called a) pair.producer pair.consumer low high (above_function f) state.below) given;
    changed = refl;
  }

  pub counts_after : (parted_count next + 1 ≡ parted_count a) × (core_weight next ≡ core_weight a)
  counts_after =
      let less = fewer (called a) low high (params_facts f) f.body c edited in (
        falls_by_one (parted_count next) (parted_in f.body) (parted_count a) (parted_in c) (total_at parted_in functions_parted (λ x fs. refl) a.functions n f own state.found) less.0,
        stays (core_weight next) (weight f.body) (core_weight a) (weight c) (total_at weight functions_weight (λ x fs. refl) a.functions n f own state.found) less.1,
      )

  pub called_after : called next ≡ called a
  called_after = same_called a n f c state.found

  pub state_after : State high next n own
  state_after = record { well = well_after; found = found_after a.functions n f own state.found; below = above_after f c low high rise function.params_fresh function.bound_fresh names scoped }

-- ---- a fold step on a pair is a fold step

pub as_step : (entry : Entry) (a b : CoreTerm) → FoldOf entry a b → FoldStep above_function a b
as_step entry a b h = record {
  place = entry.0;
  function = h.function;
  body = h.body;
  found = h.found;
  edited = by_other Facts (fact_ways (called a)) (Folds (called a) entry.1.producer entry.1.consumer (above_function h.function)) (FoldsHere (called a) (above_function h.function)) (λ k b c r. r.0) h.edited;
  changed = h.changed;
}

pub outcome_of : (entry : Entry) (a b : CoreTerm) → FoldOf entry a b → IsWellFormed a → IsWellFormed b → SameOutcomeOnArrays a b
outcome_of entry a b h well other = fold_outcome above_function a b (as_step entry a b h) well other
