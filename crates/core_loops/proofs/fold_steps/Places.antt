-- A change that keeps the meaning under the facts, bases and scope at its place keeps that of the whole.
use Rattle.std.proofs.Common.{◌≡◌, ℕ, Bool, true, List, [], ◌∷◌, ◌++◌, map, Option, Ok, refl, ap, ◌∙◌, ℤ}
use Rattle.std.specs.Prelude.{if◌then◌else◌, zip}
use Rattle.sac_base.specs.declared.base.Base.{Base}
use Rattle.sac_base.specs.declared.base.Base.TheVariants.{Int, Bool as Truth}
use Rattle.sac_base.specs.declared.faults.FaultKind.TheVariants.{F6}
use Rattle.sac_base.specs.declared.site.Site.{Site}
use Rattle.sac_base.specs.Arrays.{ArrayValue, scalar, vector}
use Rattle.sac_base.specs.Grids.{has_vector, members}
use Rattle.sac_base.specs.Outcomes.{and_then, fault, choose}
use Rattle.sac_base.specs.Parts.{condition}
use Rattle.sac_base.specs.WithLoops.{with_value, each}
use Rattle.core_ir.specs.declared.tree.Var.{Var}
use Rattle.core_ir.specs.Binders.{bound_in, bound_in_right, bound_in_gens, bound_in_parts}
use Rattle.core_ir.specs.Edits.{Edited, EditedRight, EditedGens, EditedParts, here, later, inside, in_then, in_else, in_test, in_body, in_gens, in_parts, this_gen, later_gen, this_part, later_part}
use Rattle.core_ir.specs.Scopes.{Scoped, ScopedRight, ScopedGens, ScopedParts}
use Rattle.core_ir.specs.Terms.{BlockTerm, RightTerm, GensTerm, PartsTerm, GenHead, PartHead, CoreTerm, Bind, Gen, Part}
use Rattle.core_ir.specs.Meaning.{Env, CallMeaning, bind, bind_all, first, one, made_of, neutral_fits, cell_form, generator, operation, with_index, run, right_value, generators, cells}
use Rattle.core_ir.specs.WellFormed.{Bases, BlockBases, RightBases, GensBases, PartsBases, ints, Distinct}
use Rattle.core_ir.proofs.Edited.{then_same, SameCells, same_cells-refl, same_cell_at}
use Rattle.core_facts.specs.Facts.{Facts, note_all, in_part, DescribeAll, AreSound, right_facts, CallsFit, block_facts}
use Rattle.core_facts.specs.Full.{FullInside, FullInsideRight, FullInsideGens, FullInsideParts}
use Rattle.core_facts.proofs.Sound.{noted, right_sound, block_sound, all_full, described}
use Rattle.core_facts.proofs.Settle.{loop_same, vector_full, scalars_full}
use Rattle.core_facts.specs.bases.Typed.{HaveBases, Typed, CallsTyped}
use Rattle.core_facts.proofs.bases.Bound.{distinct_left, distinct_right, bound_zip, bound_index, typed_one, values_typed}
use Rattle.core_facts.proofs.bases.Whole.{block_typed, right_typed}
use Rattle.core_loops.specs.Steps.{fact_ways}
use Rattle.core_loops.proofs.fold_steps.Producer.{entered}

-- a block at its place: what is known of it and of the environment
pub record At (core : CoreTerm) (calls : CallMeaning) (turns : ℕ) (scope : List Var) (g : Bases) (ts : List Base) (k : Facts) (b : BlockTerm) (e : Env) : Type 0 where
  pub bases : BlockBases core g b ts
  pub once : Distinct (bound_in b)
  pub scoped : Scoped scope b
  pub full : FullInside calls turns b
  pub typed : Typed g e
  pub sound : AreSound k e

pub record RightAt (core : CoreTerm) (calls : CallMeaning) (turns : ℕ) (scope : List Var) (g : Bases) (ts : List Base) (k : Facts) (r : RightTerm) (e : Env) : Type 0 where
  pub bases : RightBases core g r ts
  pub once : Distinct (bound_in_right r)
  pub scoped : ScopedRight scope r
  pub full : FullInsideRight calls turns r
  pub typed : Typed g e
  pub sound : AreSound k e

pub record GensAt (core : CoreTerm) (calls : CallMeaning) (turns : ℕ) (scope : List Var) (g : Bases) (t : Base) (k : Facts) (r : GensTerm) (e : Env) : Type 0 where
  pub bases : GensBases core g r t
  pub once : Distinct (bound_in_gens r)
  pub scoped : ScopedGens scope r
  pub full : FullInsideGens calls turns r
  pub typed : Typed g e
  pub sound : AreSound k e

pub record PartsAt (core : CoreTerm) (calls : CallMeaning) (turns : ℕ) (scope : List Var) (g : Bases) (t : Base) (k : Facts) (r : PartsTerm) (e : Env) : Type 0 where
  pub bases : PartsBases core g r t
  pub once : Distinct (bound_in_parts r)
  pub scoped : ScopedParts scope r
  pub full : FullInsideParts calls turns r
  pub typed : Typed g e
  pub sound : AreSound k e

module _ (core : CoreTerm) (calls : CallMeaning) (turns : ℕ) (typed : CallsTyped core calls) (called : ℕ → List (Option (List ℕ))) (fit : CallsFit called calls) where
  abbrev pub right_at : (xs : List Var) (s : Site) (r : RightTerm) (b : BlockTerm) (scope : List Var) (g : Bases) (ts : List Base) (k : Facts) (e : Env) → (a : At core calls turns scope g ts k (Bind xs s r b) e) → RightAt core calls turns scope g a.bases.0 k r e
  right_at xs s r b scope g ts k e a = record {
    bases = a.bases.1.0;
    once = distinct_left (bound_in_right r) (bound_in b) (distinct_right xs (bound_in_right r ++ bound_in b) a.once);
    scoped = a.scoped.0;
    full = a.full.1;
    typed = a.typed;
    sound = a.sound;
  }

  -- behind a binding
  abbrev pub after_bind : (xs : List Var) (s : Site) (r : RightTerm) (b : BlockTerm) (scope : List Var) (g : Bases) (ts : List Base) (k : Facts) (e : Env) (vs : List ArrayValue) → (a : At core calls turns scope g ts k (Bind xs s r b) e) → right_value calls turns r s e ≡ Ok vs → At core calls turns (xs ++ scope) (zip xs a.bases.0 ++ g) ts (note_all k xs (right_facts called r k)) b (bind_all e xs vs)
  after_bind xs s r b scope g ts k e vs a q =
      let rest = distinct_right xs (bound_in_right r ++ bound_in b) a.once in
      record {
        bases = a.bases.1.2;
        once = distinct_right (bound_in_right r) (bound_in b) rest;
        scoped = a.scoped.2;
        full = a.full.2;
        typed = bound_zip g e xs a.bases.0 vs a.typed (distinct_left xs (bound_in_right r ++ bound_in b) a.once) a.bases.1.1 (right_typed core calls turns typed r s g a.bases.0 e vs a.bases.1.0 (distinct_left (bound_in_right r) (bound_in b) rest) a.typed q);
        sound = noted k e xs (right_facts called r k) vs a.sound (right_sound calls turns called fit r s k e vs a.full.0 a.full.1 a.sound q);
      }

  -- ---- the places in a loop, in a generator and in a part

  module _ (fb : Bool) (start params : List Var) (t b : BlockTerm) (u : Site) (scope : List Var) (g : Bases) (ts : List Base) (k : Facts) (e : Env) (a : RightAt core calls turns scope g ts k (RightTerm.Loop fb start params t b u) e) where
    -- the values of a loop's parameters
    abbrev pub Fits : List ArrayValue → Type 0
    Fits vs = DescribeAll [] vs × HaveBases ts vs

    pub rest_once : Distinct (bound_in t ++ bound_in b)
    rest_once = distinct_right params (bound_in t ++ bound_in b) a.once

    pub params_typed : (vs : List ArrayValue) → Fits vs → Typed (zip params ts ++ g) (bind_all e params vs)
    params_typed vs d = bound_zip g e params ts vs a.typed (distinct_left params (bound_in t ++ bound_in b) a.once) a.bases.1 d.1

    abbrev pub at_test : (vs : List ArrayValue) → Fits vs → At core calls turns (params ++ scope) (zip params ts ++ g) (Truth ∷ []) (note_all k params []) t (bind_all e params vs)
    at_test vs d = record {
      bases = a.bases.2;
      once = distinct_left (bound_in t) (bound_in b) rest_once;
      scoped = a.scoped.2;
      full = a.full.0;
      typed = params_typed vs d;
      sound = noted k e params [] vs a.sound d.0;
    }

    abbrev pub at_body : (vs : List ArrayValue) → Fits vs → At core calls turns (params ++ scope) (zip params ts ++ g) ts (note_all k params []) b (bind_all e params vs)
    at_body vs d = record {
      bases = a.bases.3;
      once = distinct_right (bound_in t) (bound_in b) rest_once;
      scoped = a.scoped.3;
      full = a.full.1;
      typed = params_typed vs d;
      sound = noted k e params [] vs a.sound d.0;
    }

    pub still_fits : (vs ws : List ArrayValue) → Fits vs → run calls turns b (bind_all e params vs) ≡ Ok ws → Fits ws
    still_fits vs ws d q = (
      all_full (block_facts called b (note_all k params [])) ws (block_sound calls turns called fit b (note_all k params []) (bind_all e params vs) ws a.full.1 (noted k e params [] vs a.sound d.0) q),
      block_typed core calls turns typed b (zip params ts ++ g) ts (bind_all e params vs) ws a.bases.3 (distinct_right (bound_in t) (bound_in b) rest_once) (params_typed vs d) q,
    )

    pub start_fits : Fits (map e start)
    start_fits = (all_full (map k start) (map e start) (described k e start a.sound), values_typed g e start ts a.typed a.bases.0)

  abbrev pub at_gen : (j : GenHead) (b : BlockTerm) (rest : GensTerm) (scope : List Var) (g : Bases) (t : Base) (k : Facts) (e : Env) (index : List ℤ) → (a : GensAt core calls turns scope g t k (Gen j b rest) e) →
      At core calls turns ((j.index ∷ j.names) ++ scope) (ints (j.index ∷ j.names) ++ g) (t ∷ []) (note_all k (j.index ∷ j.names) []) b (with_index e j index)
  at_gen j b rest scope g t k e index a = record {
    bases = a.bases.4;
    once = distinct_left (bound_in b) (bound_in_gens rest) (distinct_right (j.index ∷ j.names) (bound_in b ++ bound_in_gens rest) a.once);
    scoped = a.scoped.2;
    full = a.full.0;
    typed = bound_index g e j.index j.names index a.typed (distinct_left (j.index ∷ j.names) (bound_in b ++ bound_in_gens rest) a.once);
    sound = noted k e (j.index ∷ j.names) [] (vector Int index ∷ map (scalar Int) index) a.sound (vector_full index, scalars_full index);
  }

  abbrev pub at_part : (j : PartHead) (b : BlockTerm) (rest : PartsTerm) (scope : List Var) (g : Bases) (t : Base) (k : Facts) (e : Env) (index : List ℤ) → (a : PartsAt core calls turns scope g t k (Part j b rest) e) → has_vector j.grid index ≡ true →
      At core calls turns (j.index ∷ scope) ((j.index, Int) ∷ g) (t ∷ []) (in_part k j) b (bind e j.index (vector Int index))
  at_part j b rest scope g t k e index a q = record {
    bases = a.bases.0;
    once = distinct_left (bound_in b) (bound_in_parts rest) a.once.1;
    scoped = a.scoped.1;
    full = a.full.0;
    typed = typed_one g e j.index Int (vector Int index) a.typed refl;
    sound = entered k e j index a.sound q;
  }

  module _ (Rule : Facts → BlockTerm → BlockTerm → Type 0) (kept : (k : Facts) (b c : BlockTerm) → Rule k b c → (scope : List Var) (g : Bases) (ts : List Base) (e : Env) → At core calls turns scope g ts k b e → run calls turns b e ≡ run calls turns c e) where
    mutual
      pub changed : {k : Facts} {b c : BlockTerm} → Edited Facts (fact_ways called) Rule k b c → (scope : List Var) (g : Bases) (ts : List Base) (e : Env) → At core calls turns scope g ts k b e → run calls turns b e ≡ run calls turns c e
      changed (here {known = k} {b = b} {c = c} h) scope g ts e a = kept k b c h scope g ts e a
      changed (later {known = k} {xs = xs} {s = s} {r = r} {b = b} {c = c} h) scope g ts e a =
          then_same (right_value calls turns r s e) (λ vs. run calls turns b (bind_all e xs vs)) (λ vs. run calls turns c (bind_all e xs vs))
          (λ vs q. changed h (xs ++ scope) (zip xs a.bases.0 ++ g) ts (bind_all e xs vs) (after_bind xs s r b scope g ts k e vs a q))
      changed (inside {known = k} {xs = xs} {s = s} {r = r} {b = b} h) scope g ts e a =
          λ i. and_then (changed_right h s scope g a.bases.0 e (right_at xs s r b scope g ts k e a) i) (λ vs. run calls turns b (bind_all e xs vs))

      pub changed_right : {k : Facts} {r q : RightTerm} → EditedRight Facts (fact_ways called) Rule k r q → (s : Site) (scope : List Var) (g : Bases) (ts : List Base) (e : Env) → RightAt core calls turns scope g ts k r e → right_value calls turns r s e ≡ right_value calls turns q s e
      changed_right (in_then {x = x} {a = u} {b = b} h) s scope g ts e a =
          λ i. choose s (condition (e x)) (changed h scope g ts e (record { bases = a.bases.1; once = distinct_left (bound_in u) (bound_in b) a.once; scoped = a.scoped.1; full = a.full.0; typed = a.typed; sound = a.sound }) i) (run calls turns b e)
      changed_right (in_else {x = x} {a = u} {b = b} h) s scope g ts e a =
          λ i. choose s (condition (e x)) (run calls turns u e) (changed h scope g ts e (record { bases = a.bases.2; once = distinct_right (bound_in u) (bound_in b) a.once; scoped = a.scoped.2; full = a.full.1; typed = a.typed; sound = a.sound }) i)
      changed_right (in_test {known = k} {first = fb} {start = start} {params = params} {a = t} {b = b} {c = c} {s = u} h) s scope g ts e a =
          loop_same (Fits fb start params t b u scope g ts k e a) fb turns s u (λ vs. first (run calls turns t (bind_all e params vs))) (λ vs. first (run calls turns c (bind_all e params vs)))
          (λ vs. run calls turns b (bind_all e params vs)) (λ vs. run calls turns b (bind_all e params vs))
          (λ vs d. ap first (changed h (params ++ scope) (zip params ts ++ g) (Truth ∷ []) (bind_all e params vs) (at_test fb start params t b u scope g ts k e a vs d)))
          (λ vs d. refl)
          (still_fits fb start params t b u scope g ts k e a) (map e start) (start_fits fb start params t b u scope g ts k e a)
      changed_right (in_body {known = k} {first = fb} {start = start} {params = params} {a = t} {b = b} {c = c} {s = u} h) s scope g ts e a =
          loop_same (Fits fb start params t b u scope g ts k e a) fb turns s u (λ vs. first (run calls turns t (bind_all e params vs))) (λ vs. first (run calls turns t (bind_all e params vs)))
          (λ vs. run calls turns b (bind_all e params vs)) (λ vs. run calls turns c (bind_all e params vs))
          (λ vs d. refl)
          (λ vs d. changed h (params ++ scope) (zip params ts ++ g) ts (bind_all e params vs) (at_body fb start params t b u scope g ts k e a vs d))
          (still_fits fb start params t b u scope g ts k e a) (map e start) (start_fits fb start params t b u scope g ts k e a)
      changed_right (in_gens {op = op} h) s scope g ts e a =
          λ i. one (with_value (changed_gens h scope g a.bases.0 e (record { bases = a.bases.1.1; once = a.once; scoped = a.scoped.1; full = a.full; typed = a.typed; sound = a.sound }) i) (operation op s e))
      changed_right (in_parts {f = f} {t = t} {cell = shape} {op = op} h) s scope g ts e a =
          λ i. one (if neutral_fits (cell_form t shape) op e then and_then (each (λ index. same_cell_at (cell_form t shape) _ _ index (changed_parts h scope g t e (record { bases = a.bases.1; once = a.once; scoped = a.scoped.1; full = a.full; typed = a.typed; sound = a.sound })) i) (members f)) (λ found. Ok (made_of f t shape op e found)) else fault F6 s)

      pub changed_gens : {k : Facts} {r q : GensTerm} → EditedGens Facts (fact_ways called) Rule k r q → (scope : List Var) (g : Bases) (t : Base) (e : Env) → GensAt core calls turns scope g t k r e → generators calls turns r e ≡ generators calls turns q e
      changed_gens (this_gen {known = k} {h = j} {b = b} {rest = rest} h) scope g t e a =
          λ i. generator j (λ index. first (changed h ((j.index ∷ j.names) ++ scope) (ints (j.index ∷ j.names) ++ g) (t ∷ []) (with_index e j index) (at_gen j b rest scope g t k e index a) i)) e ∷ generators calls turns rest e
      changed_gens (later_gen {h = j} {b = b} {g = r} h) scope g t e a =
          λ i. generator j (λ index. first (run calls turns b (with_index e j index))) e ∷ changed_gens h scope g t e (record { bases = a.bases.5; once = distinct_right (bound_in b) (bound_in_gens r) (distinct_right (j.index ∷ j.names) (bound_in b ++ bound_in_gens r) a.once); scoped = a.scoped.3; full = a.full.1; typed = a.typed; sound = a.sound }) i

      pub changed_parts : {k : Facts} {r q : PartsTerm} → EditedParts Facts (fact_ways called) Rule k r q → (scope : List Var) (g : Bases) (t : Base) (e : Env) → PartsAt core calls turns scope g t k r e → SameCells (cells calls turns r e) (cells calls turns q e)
      changed_parts (this_part {known = k} {h = j} {b = b} {rest = rest} h) scope g t e a = (
        refl,
        refl,
        (λ index q. ap first (changed h (j.index ∷ scope) ((j.index, Int) ∷ g) (t ∷ []) (bind e j.index (vector Int index)) (at_part j b rest scope g t k e index a q))),
        same_cells-refl (cells calls turns rest e),
      )
      changed_parts (later_part {h = j} {b = b} {p = r} h) scope g t e a =
          (refl, refl, (λ index q. refl), changed_parts h scope g t e (record { bases = a.bases.1; once = distinct_right (bound_in b) (bound_in_parts r) a.once.1; scoped = a.scoped.2; full = a.full.1; typed = a.typed; sound = a.sound }))
