-- One merge step with new variables: the core is well formed, no heavier, and has fewer parted loops.
use Rattle.std.proofs.Common.{◌≡◌, ℕ, ◌<◌, ◌≤◌, List, Option, Some, refl, arith}
use Rattle.std.specs.Prelude.{slice_get}
use Rattle.core_ir.specs.Binders.{bound_in}
use Rattle.core_ir.specs.Edits.{Edited}
use Rattle.core_ir.specs.Outcome.{param_vars}
use Rattle.core_ir.specs.Scopes.{Scoped}
use Rattle.core_ir.specs.Terms.{BlockTerm, FunTerm, CoreTerm}
use Rattle.core_ir.specs.WellFormed.{bases, param_bases, BlockBases, IsFunction, IsWellFormed}
use Rattle.core_facts.proofs.bases.Backward.{below}
use Rattle.core_facts.specs.calls.Nests.{CallsAll, InlineBelow}
use Rattle.core_facts.specs.Facts.{Facts}
use Rattle.core_loops.specs.Loops.{parted_in, weight}
use Rattle.core_loops.specs.Steps.{fact_ways}
use Rattle.core_facts.specs.constants.Called.{called, params_facts}
use Rattle.core_subst.specs.Names.{above_function}
use Rattle.core_loops.specs.merge_steps.Step.{MergesHere, MergeStep}
use Rattle.core_loops.proofs.norm_steps.Tables.{has_table}
use Rattle.core_forms.proofs.inlined_bodies.Names.{Names}
use Rattle.core_forms.proofs.inlined_bodies.Stepped.{stepped, group_moved, well_stepped}
use Rattle.core_forms.specs.norm.Walks.{functions_weight, core_weight}
use Rattle.core_forms.proofs.norm.Changing.{IsBelow, falls, is_below, names_of_all, stays, total_at}
use Rattle.core_forms.proofs.norm.Walking.{by_other, scoped_kept, calls_kept, bases_kept}
use Rattle.core_forms.proofs.norm.Replaced.{found_after, low_params, above_after, still_backward, same_called}
use Rattle.core_forms.specs.merge.Fresh.{MergesFresh}
use Rattle.core_forms.specs.merge.Walks.{functions_parted, core_parted}
use Rattle.core_forms.proofs.merge.Laws.{fewer, names_after, place_bases, place_calls, place_scoped, still_rises}

-- ---- a smaller bound

merges_here : (calls : ℕ → List (Option (List ℕ))) (low high less : ℕ) → less ≤ low → (k : Facts) (b c : BlockTerm) → MergesFresh calls low high k b c → MergesHere calls less k b c
merges_here calls low high less l k b c h =
    let s = h.step in
    let p = s.scalarisable in
    record {
      target = s.target;
      site = s.site;
      frame = s.frame;
      base = s.base;
      cell = s.cell;
      old = s.old;
      new = s.new;
      rest = s.rest;
      scalarisable = record { some = p.some; frame = p.frame; count = p.count; nests = p.nests; shape = p.shape; index = p.index; few = p.few; numbers = omega (arith, l, p.numbers) };
      parts = s.parts;
      before = s.before;
      after = s.after;
    }

-- ---- one step

pub record State (low : ℕ) (a : CoreTerm) (n : ℕ) (f : FunTerm) : Type 0 where
  pub well : IsWellFormed a
  pub found : slice_get a.functions n ≡ Some f
  pub below : above_function f ≤ low

module _ (low high : ℕ) (a : CoreTerm) (n : ℕ) (f : FunTerm) (c : BlockTerm) (state : State low a n f) (edited : Edited Facts (fact_ways (called a)) (MergesFresh (called a) low high) (params_facts f) f.body c) where
  abbrev next : CoreTerm
  next = stepped a n f c

  abbrev own : FunTerm
  own = record f { body = c }

  function : IsBelow low a f
  function = is_below low a n f state.well state.found state.below

  pub rise : low ≤ high
  rise = still_rises (called a) low high (params_facts f) f.body c edited

  names : Names (bound_in f.body) (bound_in c) low high
  names = names_after (called a) low high (params_facts f) f.body c edited

  pub scoped : Scoped (param_vars f) c
  scoped = scoped_kept Facts (fact_ways (called a)) (MergesFresh (called a) low high) low (λ k b c h. place_scoped (called a) low high k b c h) edited (param_vars f) function.is.scoped function.params_fresh function.bound_fresh

  based : BlockBases next (param_bases f) c (bases f.results)
  based =
      let k = has_table a f function.is in
      let r =
      bases_kept Facts (fact_ways (called a)) (MergesFresh (called a) low high) 0 low k.0 a next (group_moved a n f c state.found)
      (λ j x y h g ts d w v l q o. place_bases (called a) low high j x y h a next (group_moved a n f c state.found) k.0 g ts d w v l q o)
      edited (param_bases f) (bases f.results) function.is.agreeing k.1 k.2 (low_params f low function.params_fresh) function.bound_fresh function.body_once in
      r.0

  pub function_after : IsFunction next own
  function_after = record { once = (names_of_all low high f c rise names).once function.is.once function.fresh; scoped = scoped; agreeing = based }

  -- ---- calls

  new_below : (place : ℕ) → CallsAll (InlineBelow a place) f.body → CallsAll (InlineBelow a place) c
  new_below place h = calls_kept Facts (fact_ways (called a)) (MergesFresh (called a) low high) (InlineBelow a place) (λ k b c h. place_calls (called a) low high k b c h (InlineBelow a place)) edited h

  pub well_after : IsWellFormed next
  well_after = well_stepped a n f c state.found state.well (still_backward a n f c state.found state.well new_below) function_after

  -- ---- the step

  pub merge_step : MergeStep above_function a next
  merge_step = record {
    place = n;
    function = f;
    body = c;
    found = state.found;
    edited = by_other Facts (fact_ways (called a)) (MergesFresh (called a) low high) (MergesHere (called a) (above_function f)) (merges_here (called a) low high (above_function f) state.below) edited;
    changed = refl;
  }

  pub weight_after : core_weight next ≡ core_weight a
  weight_after =
      stays (core_weight next) (weight f.body) (core_weight a) (weight c) (total_at weight functions_weight (λ x fs. refl) a.functions n f own state.found)
      (fewer (called a) low high (params_facts f) f.body c edited).0

  pub parted_after : core_parted next < core_parted a
  parted_after =
      falls (core_parted next) (parted_in f.body) (core_parted a) (parted_in c) (total_at parted_in functions_parted (λ x fs. refl) a.functions n f own state.found)
      (fewer (called a) low high (params_facts f) f.body c edited).1

  pub called_after : called next ≡ called a
  called_after = same_called a n f c state.found

  pub state_after : State high next n own
  state_after = record { well = well_after; found = found_after a.functions n f own state.found; below = above_after f c low high rise function.params_fresh function.bound_fresh names scoped }
