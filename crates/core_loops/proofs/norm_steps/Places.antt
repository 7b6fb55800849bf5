-- A change that keeps the meaning under the facts, scope and table of bases at its place keeps that of the whole.
use Rattle.std.proofs.Common.{◌≡◌, ℕ, Bool, true, false, cond, eqb, List, [], ◌∷◌, ◌++◌, map, Option, Some, Ok, refl, sym, ap, subst, ◌∙◌, ℤ}
use Rattle.std.specs.Prelude.{if◌then◌else◌, zip}
use Rattle.sac_base.specs.declared.base.Base.{Base}
use Rattle.sac_base.specs.declared.base.Base.TheVariants.{Int, Bool as Truth}
use Rattle.sac_base.specs.declared.faults.FaultKind.TheVariants.{F6}
use Rattle.sac_base.specs.declared.site.Site.{Site}
use Rattle.sac_base.specs.Arrays.{vector}
use Rattle.sac_base.specs.Grids.{members}
use Rattle.sac_base.specs.Outcomes.{and_then, fault, choose}
use Rattle.sac_base.specs.Parts.{condition}
use Rattle.sac_base.specs.WithLoops.{with_value, each}
use Rattle.core_ir.specs.declared.tree.Var.{Var}
use Rattle.core_ir.specs.Binders.{bound_in, bound_in_gens, bound_in_parts}
use Rattle.core_ir.specs.Edits.{Edited, EditedRight, EditedGens, EditedParts, here, later, inside, in_then, in_else, in_test, in_body, in_gens, in_parts, this_gen, later_gen, this_part, later_part}
use Rattle.core_ir.specs.Terms.{BlockTerm, RightTerm, GensTerm, PartsTerm, CoreTerm}
use Rattle.core_ir.specs.Meaning.{Env, CallMeaning, bind, bind_all, first, one, made_of, neutral_fits, cell_form, generator, operation, with_index, run, right_value, generators, cells}
use Rattle.core_ir.specs.WellFormed.{Bases, base_of, ints}
use Rattle.core_ir.proofs.Variables.{same_number}
use Rattle.core_ir.proofs.Edited.{then_same, SameCells, same_cells-refl, same_cell_at}
use Rattle.core_facts.specs.Facts.{Facts, CallsFit}
use Rattle.core_facts.proofs.Settle.{loop_same}
use Rattle.core_facts.specs.bases.Typed.{CallsTyped}
use Rattle.core_facts.proofs.bases.Bound.{distinct_left, distinct_right}
use Rattle.core_loops.specs.Steps.{fact_ways}
use Rattle.core_loops.proofs.fold_steps.Places.{At, RightAt, GensAt, PartsAt, right_at, after_bind, Fits, at_test, at_body, still_fits, start_fits, at_gen, at_part}
use Rattle.core_loops.specs.norm_steps.Step.{BaseTable, Within, AllNumbers, Follows, FollowsRight, FollowsGens, FollowsParts}

-- ---- tables

pub within_one : (m : BaseTable) (g : Bases) (x : Var) (u : Base) → Within m g → u ≡ m x → Within m ((x, u) ∷ g)
within_one m g x u w e y t p = go (eqb x.0 y.0) refl
  where
    go : (b : Bool) → eqb x.0 y.0 ≡ b → t ≡ m y
    go true q = sym (ap (λ o. Rattle.std.specs.Prelude.unwrap_or o t) ((λ i. cond (sym q i) (Some u) (base_of g y)) ∙ p)) ∙ e ∙ ap m (same_number x y q)
    go false q = w y t ((λ i. cond (sym q i) (Some u) (base_of g y)) ∙ p)

pub within_all : (m : BaseTable) (g : Bases) (xs : List Var) → Within m g → Within m (zip xs (map m xs) ++ g)
within_all m g [] w = w
within_all m g (x ∷ xs) w = within_one m (zip xs (map m xs) ++ g) x (m x) (within_all m g xs w) refl

pub within_zip : (m : BaseTable) (g : Bases) (xs : List Var) (us : List Base) → Within m g → us ≡ map m xs → Within m (zip xs us ++ g)
within_zip m g xs us w e = subst (λ ts. Within m (zip xs ts ++ g)) (sym e) (within_all m g xs w)

pub within_ints : (m : BaseTable) (g : Bases) (xs : List Var) → Within m g → AllNumbers m xs → Within m (ints xs ++ g)
within_ints m g [] w h = w
within_ints m g (x ∷ xs) w h = within_one m (ints xs ++ g) x Int (within_ints m g xs w h.1) h.0

module _ (core : CoreTerm) (calls : CallMeaning) (turns : ℕ) (typed : CallsTyped core calls) (called : ℕ → List (Option (List ℕ))) (fit : CallsFit called calls) (m : BaseTable) where
  module _ (Rule : Facts → BlockTerm → BlockTerm → Type 0) (kept : (k : Facts) (b c : BlockTerm) → Rule k b c → (scope : List Var) (g : Bases) (ts : List Base) (e : Env) → (a : At core calls turns scope g ts k b e) → Within m g → Follows core m b g ts a.bases → run calls turns b e ≡ run calls turns c e) where
    mutual
      pub changed : {k : Facts} {b c : BlockTerm} → Edited Facts (fact_ways called) Rule k b c → (scope : List Var) (g : Bases) (ts : List Base) (e : Env) → (a : At core calls turns scope g ts k b e) → Within m g → Follows core m b g ts a.bases → run calls turns b e ≡ run calls turns c e
      changed (here {known = k} {b = b} {c = c} h) scope g ts e a w f = kept k b c h scope g ts e a w f
      changed (later {known = k} {xs = xs} {s = s} {r = r} {b = b} {c = c} h) scope g ts e a w f =
          then_same (right_value calls turns r s e) (λ vs. run calls turns b (bind_all e xs vs)) (λ vs. run calls turns c (bind_all e xs vs))
          (λ vs q. changed h (xs ++ scope) (zip xs a.bases.0 ++ g) ts (bind_all e xs vs) (after_bind core calls turns typed called fit xs s r b scope g ts k e vs a q) (within_zip m g xs a.bases.0 w f.0) f.2)
      changed (inside {known = k} {xs = xs} {s = s} {r = r} {b = b} h) scope g ts e a w f =
          λ i. and_then (changed_right h s scope g a.bases.0 e (right_at core calls turns typed called fit xs s r b scope g ts k e a) w f.1 i) (λ vs. run calls turns b (bind_all e xs vs))

      pub changed_right : {k : Facts} {r q : RightTerm} → EditedRight Facts (fact_ways called) Rule k r q → (s : Site) (scope : List Var) (g : Bases) (ts : List Base) (e : Env) → (a : RightAt core calls turns scope g ts k r e) → Within m g → FollowsRight core m r g ts a.bases → right_value calls turns r s e ≡ right_value calls turns q s e
      changed_right (in_then {x = x} {a = u} {b = b} h) s scope g ts e a w f =
          λ i. choose s (condition (e x)) (changed h scope g ts e (record { bases = a.bases.1; once = distinct_left (bound_in u) (bound_in b) a.once; scoped = a.scoped.1; full = a.full.0; typed = a.typed; sound = a.sound }) w f.0 i) (run calls turns b e)
      changed_right (in_else {x = x} {a = u} {b = b} h) s scope g ts e a w f =
          λ i. choose s (condition (e x)) (run calls turns u e) (changed h scope g ts e (record { bases = a.bases.2; once = distinct_right (bound_in u) (bound_in b) a.once; scoped = a.scoped.2; full = a.full.1; typed = a.typed; sound = a.sound }) w f.1 i)
      changed_right (in_test {known = k} {first = fb} {start = start} {params = params} {a = t} {b = b} {c = c} {s = u} h) s scope g ts e a w f =
          loop_same (Fits core calls turns typed called fit fb start params t b u scope g ts k e a) fb turns s u (λ vs. first (run calls turns t (bind_all e params vs))) (λ vs. first (run calls turns c (bind_all e params vs)))
          (λ vs. run calls turns b (bind_all e params vs)) (λ vs. run calls turns b (bind_all e params vs))
          (λ vs d. ap first (changed h (params ++ scope) (zip params ts ++ g) (Truth ∷ []) (bind_all e params vs) (at_test core calls turns typed called fit fb start params t b u scope g ts k e a vs d) (within_zip m g params ts w f.0) f.1))
          (λ vs d. refl)
          (still_fits core calls turns typed called fit fb start params t b u scope g ts k e a) (map e start) (start_fits core calls turns typed called fit fb start params t b u scope g ts k e a)
      changed_right (in_body {known = k} {first = fb} {start = start} {params = params} {a = t} {b = b} {c = c} {s = u} h) s scope g ts e a w f =
          loop_same (Fits core calls turns typed called fit fb start params t b u scope g ts k e a) fb turns s u (λ vs. first (run calls turns t (bind_all e params vs))) (λ vs. first (run calls turns t (bind_all e params vs)))
          (λ vs. run calls turns b (bind_all e params vs)) (λ vs. run calls turns c (bind_all e params vs))
          (λ vs d. refl)
          (λ vs d. changed h (params ++ scope) (zip params ts ++ g) ts (bind_all e params vs) (at_body core calls turns typed called fit fb start params t b u scope g ts k e a vs d) (within_zip m g params ts w f.0) f.2)
          (still_fits core calls turns typed called fit fb start params t b u scope g ts k e a) (map e start) (start_fits core calls turns typed called fit fb start params t b u scope g ts k e a)
      changed_right (in_gens {op = op} h) s scope g ts e a w f =
          λ i. one (with_value (changed_gens h scope g a.bases.0 e (record { bases = a.bases.1.1; once = a.once; scoped = a.scoped.1; full = a.full; typed = a.typed; sound = a.sound }) w f i) (operation op s e))
      changed_right (in_parts {f = f} {t = t} {cell = shape} {op = op} h) s scope g ts e a w z =
          λ i. one (if neutral_fits (cell_form t shape) op e then and_then (each (λ index. same_cell_at (cell_form t shape) _ _ index (changed_parts h scope g t e (record { bases = a.bases.1; once = a.once; scoped = a.scoped.1; full = a.full; typed = a.typed; sound = a.sound }) w z) i) (members f)) (λ found. Ok (made_of f t shape op e found)) else fault F6 s)

      pub changed_gens : {k : Facts} {r q : GensTerm} → EditedGens Facts (fact_ways called) Rule k r q → (scope : List Var) (g : Bases) (t : Base) (e : Env) → (a : GensAt core calls turns scope g t k r e) → Within m g → FollowsGens core m r g t a.bases → generators calls turns r e ≡ generators calls turns q e
      changed_gens (this_gen {known = k} {h = j} {b = b} {rest = rest} h) scope g t e a w f =
          λ i. generator j (λ index. first (changed h ((j.index ∷ j.names) ++ scope) (ints (j.index ∷ j.names) ++ g) (t ∷ []) (with_index e j index) (at_gen core calls turns typed called fit j b rest scope g t k e index a) (within_ints m g (j.index ∷ j.names) w f.0) f.1 i)) e ∷ generators calls turns rest e
      changed_gens (later_gen {h = j} {b = b} {g = r} h) scope g t e a w f =
          λ i. generator j (λ index. first (run calls turns b (with_index e j index))) e ∷ changed_gens h scope g t e (record { bases = a.bases.5; once = distinct_right (bound_in b) (bound_in_gens r) (distinct_right (j.index ∷ j.names) (bound_in b ++ bound_in_gens r) a.once); scoped = a.scoped.3; full = a.full.1; typed = a.typed; sound = a.sound }) w f.2 i

      pub changed_parts : {k : Facts} {r q : PartsTerm} → EditedParts Facts (fact_ways called) Rule k r q → (scope : List Var) (g : Bases) (t : Base) (e : Env) → (a : PartsAt core calls turns scope g t k r e) → Within m g → FollowsParts core m r g t a.bases → SameCells (cells calls turns r e) (cells calls turns q e)
      changed_parts (this_part {known = k} {h = j} {b = b} {rest = rest} h) scope g t e a w f = (
        refl,
        refl,
        (λ index q. ap first (changed h (j.index ∷ scope) ((j.index, Int) ∷ g) (t ∷ []) (bind e j.index (vector Int index)) (at_part core calls turns typed called fit j b rest scope g t k e index a q) (within_one m g j.index Int w f.0) f.1)),
        same_cells-refl (cells calls turns rest e),
      )
      changed_parts (later_part {h = j} {b = b} {p = r} h) scope g t e a w f =
          (refl, refl, (λ index q. refl), changed_parts h scope g t e (record { bases = a.bases.1; once = distinct_right (bound_in b) (bound_in_parts r) a.once.1; scoped = a.scoped.2; full = a.full.1; typed = a.typed; sound = a.sound }) w f.2)
