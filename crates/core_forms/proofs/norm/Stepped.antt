-- One normalising step with new variables: the core is well formed, lighter, and has a table of bases that keeps the old ones.
use Rattle.std.proofs.Common.{◌≡◌, ℕ, ◌<◌, ◌≤◌, Some, refl, sym, ◌∙◌, arith}
use Rattle.std.specs.Prelude.{slice_get}
use Rattle.sac_base.specs.declared.site.Site.{Site}
use Rattle.core_ir.specs.declared.tree.Var.{Var}
use Rattle.core_ir.specs.declared.tree.CoreOp.{CoreOp}
use Rattle.core_ir.specs.declared.tree.CoreOp.TheVariants as making
use Rattle.core_ir.specs.Binders.{bound_in}
use Rattle.core_ir.specs.Edits.{Edited}
use Rattle.core_ir.specs.Outcome.{param_vars}
use Rattle.core_ir.specs.Terms.{BlockTerm, RightTerm, GensTerm, PartsTerm, FunTerm, CoreTerm}
use Rattle.core_ir.specs.WellFormed.{bases, param_bases, BlockBases, IsFunction, IsWellFormed}
use Rattle.core_facts.proofs.bases.Backward.{below}
use Rattle.core_facts.specs.calls.Nests.{CallsAll, InlineBelow}
use Rattle.core_facts.specs.Facts.{Facts}
use Rattle.core_loops.specs.Loops.{IsPartable, weight}
use Rattle.core_loops.specs.Steps.{fact_ways}
use Rattle.core_facts.specs.constants.Called.{called, params_facts}
use Rattle.core_subst.specs.Names.{above, above_function}
use Rattle.core_loops.specs.norm_steps.Step.{BaseTable, Within, Follows, WithParted, NormHere, NormStep}
use Rattle.core_loops.proofs.norm_steps.Tables.{has_table}
use Rattle.core_forms.proofs.inlined_bodies.Names.{Names}
use Rattle.core_forms.proofs.inlined_bodies.Stepped.{stepped, group_moved, well_stepped}
use Rattle.core_forms.specs.norm.Alike.{LabelledAlike}
use Rattle.core_forms.specs.norm.Fresh.{FreshHere, base_var, labels_of, parts_of}
use Rattle.core_forms.specs.norm.Walks.{functions_weight, core_weight}
use Rattle.core_forms.proofs.norm.Below.{OldBases, joined, joined_low, joined_within, joined_follows}
use Rattle.core_forms.proofs.norm.Changing.{IsBelow, falls, is_below, names_of_all, total_at}
use Rattle.core_forms.proofs.norm.Laws.{lighter, still_rises, names_after}
use Rattle.core_forms.proofs.norm.Places.{place_scoped, place_bases, place_calls}
use Rattle.core_forms.proofs.norm.Replaced.{found_after, low_params, above_after, still_backward, same_called}
use Rattle.core_forms.proofs.norm.Walking.{by_other, scoped_kept, calls_kept, bases_kept}

-- ---- another table, and a smaller bound

abbrev retabled :
    (m t : BaseTable) (k : Facts) (above : ℕ) (s : Site) (op : CoreOp) (gens : GensTerm) (right : RightTerm) → t (base_var op) ≡ m (base_var op) →
    WithParted m k above s op gens right → WithParted t k above s op gens right
retabled m t k above s (making.Genarray x y) gens right e h = (h.0, h.1 ∙ sym e)
retabled m t k above s (making.Modarray x) gens right e h = (h.0, h.1 ∙ sym e)
retabled m t k above s (making.Fold o x) gens right e h = (h.0, h.1 ∙ sym e)

still_alike :
    (m t : BaseTable) (k : Facts) (above : ℕ) (s : Site) (op : CoreOp) (gens : GensTerm) (right : RightTerm) (e : t (base_var op) ≡ m (base_var op)) (h : WithParted m k above s op gens right) (parts : PartsTerm) →
    LabelledAlike gens (labels_of m k above s op gens right h) parts → LabelledAlike gens (labels_of t k above s op gens right (retabled m t k above s op gens right e h)) parts
still_alike m t k above s (making.Genarray x y) gens right e h parts a = a
still_alike m t k above s (making.Modarray x) gens right e h parts a = a
still_alike m t k above s (making.Fold o x) gens right e h parts a = a

pub with_table :
    (first low high : ℕ) (m t : BaseTable) → ((x : Var) → x.0 < first → t x ≡ m x) → (k : Facts) (b c : BlockTerm) → FreshHere first low high m k b c → FreshHere first low high t k b c
with_table first low high m t same k b c h =
    let s = h.step in
    let e = same (base_var s.op) h.known in
    record {
      step = record { targets = s.targets; site = s.site; op = s.op; gens = s.gens; right = s.right; rest = s.rest; parted = retabled m t k low s.site s.op s.gens s.right e s.parted; before = s.before; after = s.after };
      rises = h.rises;
      known = h.known;
      once = h.once;
      between = h.between;
      alike = still_alike m t k low s.site s.op s.gens s.right e s.parted (parts_of s.right) h.alike;
      fits = h.fits;
      few = h.few;
    }

abbrev lowered : (k : Facts) (above less : ℕ) (s : Site) (op : CoreOp) (gens : GensTerm) → less ≤ above → IsPartable k above s op gens → IsPartable k less s op gens
lowered k above less s op gens l p = record {
  base = p.base;
  bounds = p.bounds;
  literal = p.literal;
  operation = p.operation;
  known = p.known;
  planned = p.planned;
  valid = p.valid;
  frame = p.frame;
  dense = p.dense;
  spans = p.spans;
  indices = p.indices;
  grids = p.grids;
  cut = p.cut;
  ranges = p.ranges;
  greatest = p.greatest;
  count = p.count;
  counted = p.counted;
  fine = p.fine;
  few = p.few;
  numbers = omega (arith, l, p.numbers);
  room = p.room;
}

with_less :
    (m : BaseTable) (k : Facts) (above less : ℕ) (s : Site) (op : CoreOp) (gens : GensTerm) (right : RightTerm) → less ≤ above → WithParted m k above s op gens right → WithParted m k less s op gens right
with_less m k above less s (making.Genarray x y) gens right l h =
    let p = h.0 in (
      record { partable = lowered k above less s (making.Genarray x y) gens l p.partable; cell = p.cell; known = p.known; form = p.form; whole = p.whole; count = p.count; labels = p.labels; cover = p.cover; first = p.first; parts = p.parts; labelled = p.labelled; made = p.made },
      h.1,
    )
with_less m k above less s (making.Modarray x) gens right l h =
    let p = h.0 in (
      record { partable = lowered k above less s (making.Modarray x) gens l p.partable; shape = p.shape; cell = p.cell; known = p.known; form = p.form; whole = p.whole; count = p.count; old = p.old; labels = p.labels; cover = p.cover; first = p.first; parts = p.parts; labelled = p.labelled; made = p.made },
      h.1,
    )
with_less m k above less s (making.Fold o x) gens right l h =
    let p = h.0 in (
      record { partable = lowered k above less s (making.Fold o x) gens l p.partable; cell = p.cell; known = p.known; form = p.form; count = p.count; labels = p.labels; cover = p.cover; first = p.first; parts = p.parts; labelled = p.labelled; made = p.made },
      h.1,
    )

norm_here : (first low high less : ℕ) (m : BaseTable) → less ≤ low → (k : Facts) (b c : BlockTerm) → FreshHere first low high m k b c → NormHere less m k b c
norm_here first low high less m l k b c h =
    let s = h.step in
    record { targets = s.targets; site = s.site; op = s.op; gens = s.gens; right = s.right; rest = s.rest; parted = with_less m k low less s.site s.op s.gens s.right l s.parted; before = s.before; after = s.after }

-- ---- one step

pub record State (first low : ℕ) (m : BaseTable) (a : CoreTerm) (n : ℕ) (f : FunTerm) : Type 0 where
  pub well : IsWellFormed a
  pub found : slice_get a.functions n ≡ Some f
  pub below : above_function f ≤ low
  pub rise : first ≤ low
  pub table : BaseTable
  pub same : (x : Var) → x.0 < first → table x ≡ m x
  pub params : Within table (param_bases f)
  pub agreeing : BlockBases a (param_bases f) f.body (bases f.results)
  pub follows : Follows a table f.body (param_bases f) (bases f.results) agreeing

module _ (first low high : ℕ) (m : BaseTable) (a : CoreTerm) (n : ℕ) (f : FunTerm) (c : BlockTerm) (state : State first low m a n f) (given : Edited Facts (fact_ways (called a)) (FreshHere first low high m) (params_facts f) f.body c) where
  abbrev t : BaseTable
  t = state.table

  abbrev next : CoreTerm
  next = stepped a n f c

  abbrev own : FunTerm
  own = record f { body = c }

  edited : Edited Facts (fact_ways (called a)) (FreshHere first low high t) (params_facts f) f.body c
  edited = by_other Facts (fact_ways (called a)) (FreshHere first low high m) (FreshHere first low high t) (with_table first low high m t state.same) given

  function : IsBelow low a f
  function = is_below low a n f state.well state.found state.below

  pub rise : low ≤ high
  rise = still_rises (called a) first low high t (params_facts f) f.body c edited

  names : Names (bound_in f.body) (bound_in c) low high
  names = names_after (called a) first low high t (params_facts f) f.body c edited

  pub scoped : Rattle.core_ir.specs.Scopes.Scoped (param_vars f) c
  scoped = scoped_kept Facts (fact_ways (called a)) (FreshHere first low high t) low (λ k b c h. place_scoped first low high t k b c h) edited (param_vars f) function.is.scoped function.params_fresh function.bound_fresh

  pub based : (e : BlockBases next (param_bases f) c (bases f.results)) × OldBases next first t c (param_bases f) (bases f.results) e
  based =
      bases_kept Facts (fact_ways (called a)) (FreshHere first low high t) first low t a next (group_moved a n f c state.found)
      (λ k x y h g ts d w v l q o. place_bases first low high t k x y h a next (group_moved a n f c state.found) state.rise g ts d w v l q o)
      edited (param_bases f) (bases f.results) state.agreeing state.params state.follows (low_params f low function.params_fresh) function.bound_fresh function.body_once

  pub function_after : IsFunction next own
  function_after = record { once = (names_of_all low high f c rise names).once function.is.once function.fresh; scoped = scoped; agreeing = based.0 }

  -- ---- calls

  new_below : (place : ℕ) → CallsAll (InlineBelow a place) f.body → CallsAll (InlineBelow a place) c
  new_below place h = calls_kept Facts (fact_ways (called a)) (FreshHere first low high t) (InlineBelow a place) (λ k b c h. place_calls first low high t k b c h (InlineBelow a place)) edited h

  pub well_after : IsWellFormed next
  well_after = well_stepped a n f c state.found state.well (still_backward a n f c state.found state.well new_below) function_after

  -- ---- the step

  pub norm_step : NormStep above_function a next
  norm_step = record {
    place = n;
    function = f;
    body = c;
    found = state.found;
    table = t;
    params = state.params;
    agreeing = state.agreeing;
    follows = state.follows;
    edited = by_other Facts (fact_ways (called a)) (FreshHere first low high t) (NormHere (above_function f) t) (norm_here first low high (above_function f) t state.below) edited;
    changed = refl;
  }

  pub weight_after : core_weight next < core_weight a
  weight_after =
      falls (core_weight next) (weight f.body) (core_weight a) (weight c) (total_at weight functions_weight (λ x fs. refl) a.functions n f own state.found)
      (lighter (called a) first low high t (params_facts f) f.body c edited)

  pub called_after : called next ≡ called a
  called_after = same_called a n f c state.found

  further : (x y z : ℕ) → x ≤ y → y ≤ z → x ≤ z
  further x y z p q = omega arith

  pub state_after : State first high m next n own
  unfolding based function_after
  state_after =
      let k = has_table next own function_after in record {
        well = well_after;
        found = found_after a.functions n f own state.found;
        below = above_after f c low high rise function.params_fresh function.bound_fresh names scoped;
        rise = further first low high state.rise rise;
        table = joined first t k.0;
        same = λ x l. joined_low first t k.0 x l ∙ state.same x l;
        params = joined_within first t k.0 (param_bases f) state.params k.1;
        agreeing = function_after.agreeing;
        follows = joined_follows first t k.0 next c (param_bases f) (bases f.results) based.0 based.1 k.2;
      }
