-- A block at its place: what is known of it and of the environment there, and that another block may stand there that means the same.
use Rattle.std.proofs.Common.{◌≡◌, ℕ, Bool, List, [], ◌∷◌, ◌++◌, map, length, Option, Some, Ok, refl, sym, ap, ◌∙◌, ℤ}
use Rattle.std.specs.Prelude.{if◌then◌else◌, zip}
use Rattle.sac_base.specs.declared.base.Base.{Base}
use Rattle.sac_base.specs.declared.base.Base.TheVariants.{Int, Bool as Truth}
use Rattle.sac_base.specs.declared.faults.FaultKind.TheVariants.{F6}
use Rattle.sac_base.specs.declared.grid.Grid1.{Grid1}
use Rattle.sac_base.specs.declared.site.Site.{Site}
use Rattle.sac_base.specs.Arrays.{ArrayValue, scalar, vector}
use Rattle.sac_base.specs.Grids.{members}
use Rattle.sac_base.specs.Outcomes.{and_then, fault, choose}
use Rattle.sac_base.specs.Parts.{condition}
use Rattle.sac_base.specs.WithLoops.{with_value, each}
use Rattle.core_ir.specs.declared.tree.Var.{Var}
use Rattle.core_ir.specs.declared.tree.CoreOp.{CoreOp}
use Rattle.core_ir.specs.declared.tree.PartedOp.{PartedOp}
use Rattle.core_ir.specs.Binders.{bound_in, bound_in_right, bound_in_gens, bound_in_parts}
use Rattle.core_ir.specs.Meaning.{Env, CallMeaning, bind, bind_all, first, one, made_of, neutral_fits, cell_form, generator, operation, with_index, run, right_value, generators, cells}
use Rattle.core_ir.specs.Terms.{BlockTerm, RightTerm, GensTerm, PartsTerm, GenHead, PartHead, CoreTerm, Bind, Gen, Part}
use Rattle.core_ir.specs.WellFormed.{Bases, BlockBases, RightBases, GensBases, PartsBases, Distinct, ints}
use Rattle.core_ir.proofs.Edited.{SameCells, same_cell_at}
use Rattle.core_facts.specs.Facts.{Facts, AreSound, CallsFit, DescribeAll, block_facts, in_part, note_all, right_facts, shape_fact}
use Rattle.core_facts.specs.Full.{FullInside, FullInsideRight, FullInsideGens, FullInsideParts}
use Rattle.core_facts.proofs.Settle.{has_length, loop_same, scalars_full, vector_full}
use Rattle.core_facts.proofs.Sound.{all_full, block_sound, described, noted, noted_one, right_sound}
use Rattle.core_facts.specs.bases.Typed.{CallsTyped, HaveBases, Typed}
use Rattle.core_facts.proofs.bases.Bound.{bound_index, bound_zip, distinct_left, distinct_right, typed_one, values_typed}
use Rattle.core_facts.proofs.bases.Whole.{block_typed, right_typed}

pub record At (core : CoreTerm) (calls : CallMeaning) (turns : ℕ) (g : Bases) (ts : List Base) (k : Facts) (b : BlockTerm) (e : Env) : Type 0 where
  pub bases : BlockBases core g b ts
  pub once : Distinct (bound_in b)
  pub full : FullInside calls turns b
  pub typed : Typed g e
  pub sound : AreSound k e

pub record RightAt (core : CoreTerm) (calls : CallMeaning) (turns : ℕ) (g : Bases) (ts : List Base) (k : Facts) (r : RightTerm) (e : Env) : Type 0 where
  pub bases : RightBases core g r ts
  pub once : Distinct (bound_in_right r)
  pub full : FullInsideRight calls turns r
  pub typed : Typed g e
  pub sound : AreSound k e

pub record GensAt (core : CoreTerm) (calls : CallMeaning) (turns : ℕ) (g : Bases) (t : Base) (k : Facts) (r : GensTerm) (e : Env) : Type 0 where
  pub bases : GensBases core g r t
  pub once : Distinct (bound_in_gens r)
  pub full : FullInsideGens calls turns r
  pub typed : Typed g e
  pub sound : AreSound k e

pub record PartsAt (core : CoreTerm) (calls : CallMeaning) (turns : ℕ) (g : Bases) (t : Base) (k : Facts) (r : PartsTerm) (e : Env) : Type 0 where
  pub bases : PartsBases core g r t
  pub once : Distinct (bound_in_parts r)
  pub full : FullInsideParts calls turns r
  pub typed : Typed g e
  pub sound : AreSound k e

module _ (core : CoreTerm) (calls : CallMeaning) (turns : ℕ) (typed : CallsTyped core calls) (called : ℕ → List (Option (List ℕ))) (fit : CallsFit called calls) where
  -- at a binding
  pub right_at : (xs : List Var) (s : Site) (r : RightTerm) (b : BlockTerm) (g : Bases) (ts : List Base) (k : Facts) (e : Env) → (a : At core calls turns g ts k (Bind xs s r b) e) → RightAt core calls turns g a.bases.0 k r e
  right_at xs s r b g ts k e a = record {
    bases = a.bases.1.0;
    once = distinct_left (bound_in_right r) (bound_in b) (distinct_right xs (bound_in_right r ++ bound_in b) a.once);
    full = a.full.1;
    typed = a.typed;
    sound = a.sound;
  }

  -- behind a binding
  pub after_bind : (xs : List Var) (s : Site) (r : RightTerm) (b : BlockTerm) (g : Bases) (ts : List Base) (k : Facts) (e : Env) (vs : List ArrayValue) → (a : At core calls turns g ts k (Bind xs s r b) e) → right_value calls turns r s e ≡ Ok vs → At core calls turns (zip xs a.bases.0 ++ g) ts (note_all k xs (right_facts called r k)) b (bind_all e xs vs)
  after_bind xs s r b g ts k e vs a q =
      let rest = distinct_right xs (bound_in_right r ++ bound_in b) a.once in
      record {
        bases = a.bases.1.2;
        once = distinct_right (bound_in_right r) (bound_in b) rest;
        full = a.full.2;
        typed = bound_zip g e xs a.bases.0 vs a.typed (distinct_left xs (bound_in_right r ++ bound_in b) a.once) a.bases.1.1 (right_typed core calls turns typed r s g a.bases.0 e vs a.bases.1.0 (distinct_left (bound_in_right r) (bound_in b) rest) a.typed q);
        sound = noted k e xs (right_facts called r k) vs a.sound (right_sound calls turns called fit r s k e vs a.full.0 a.full.1 a.sound q);
      }

  -- ---- another block at each place, which means the same

  abbrev pub SameAt : (c b : BlockTerm) (g : Bases) (ts : List Base) (k : Facts) → Type 0
  SameAt c b g ts k = (e : Env) → At core calls turns g ts k b e → run calls turns c e ≡ run calls turns b e

  pub same_if : (x : Var) (b c b' c' : BlockTerm) (s : Site) (g : Bases) (ts : List Base) (k : Facts) (e : Env) → SameAt b' b g ts k → SameAt c' c g ts k → RightAt core calls turns g ts k (RightTerm.If x b c) e →
      right_value calls turns (RightTerm.If x b' c') s e ≡ right_value calls turns (RightTerm.If x b c) s e
  same_if x b c b' c' s g ts k e same other a =
      let p = same e (record { bases = a.bases.1; once = distinct_left (bound_in b) (bound_in c) a.once; full = a.full.0; typed = a.typed; sound = a.sound }) in
      let q = other e (record { bases = a.bases.2; once = distinct_right (bound_in b) (bound_in c) a.once; full = a.full.1; typed = a.typed; sound = a.sound }) in
      λ i. choose s (condition (e x)) (p i) (q i)

  pub same_loop : (fb : Bool) (start params : List Var) (test body test' body' : BlockTerm) (u s : Site) (g : Bases) (ts : List Base) (k : Facts) (e : Env) → SameAt test' test (zip params ts ++ g) (Truth ∷ []) (note_all k params []) →
      SameAt body' body (zip params ts ++ g) ts (note_all k params []) → RightAt core calls turns g ts k (RightTerm.Loop fb start params test body u) e →
      right_value calls turns (RightTerm.Loop fb start params test' body' u) s e ≡ right_value calls turns (RightTerm.Loop fb start params test body u) s e
  same_loop fb start params test body test' body' u s g ts k e same other a =
      let n = note_all k params [] in
      let rest = distinct_right params (bound_in test ++ bound_in body) a.once in
      let p = distinct_left params (bound_in test ++ bound_in body) a.once in
      sym (loop_same (λ vs. DescribeAll [] vs × HaveBases ts vs) fb turns s u
      (λ vs. first (run calls turns test (bind_all e params vs))) (λ vs. first (run calls turns test' (bind_all e params vs)))
      (λ vs. run calls turns body (bind_all e params vs)) (λ vs. run calls turns body' (bind_all e params vs))
      (λ vs d. ap first (sym (same (bind_all e params vs) (record {
        bases = a.bases.2;
        once = distinct_left (bound_in test) (bound_in body) rest;
        full = a.full.0;
        typed = bound_zip g e params ts vs a.typed p a.bases.1 d.1;
        sound = noted k e params [] vs a.sound d.0;
      }))))
      (λ vs d. sym (other (bind_all e params vs) (record {
        bases = a.bases.3;
        once = distinct_right (bound_in test) (bound_in body) rest;
        full = a.full.1;
        typed = bound_zip g e params ts vs a.typed p a.bases.1 d.1;
        sound = noted k e params [] vs a.sound d.0;
      })))
      (λ vs ws d q. (
        all_full (block_facts called body n) ws (block_sound calls turns called fit body n (bind_all e params vs) ws a.full.1 (noted k e params [] vs a.sound d.0) q),
        block_typed core calls turns typed body (zip params ts ++ g) ts (bind_all e params vs) ws a.bases.3 (distinct_right (bound_in test) (bound_in body) rest) (bound_zip g e params ts vs a.typed p a.bases.1 d.1) q,
      ))
      (map e start) (all_full (map k start) (map e start) (described k e start a.sound), values_typed g e start ts a.typed a.bases.0))

  pub same_with : (op : CoreOp) (gens gens' : GensTerm) (s : Site) (g : Bases) (ts : List Base) (k : Facts) (e : Env) → ((t : Base) → GensAt core calls turns g t k gens e → generators calls turns gens' e ≡ generators calls turns gens e) →
      RightAt core calls turns g ts k (RightTerm.With op gens) e → right_value calls turns (RightTerm.With op gens') s e ≡ right_value calls turns (RightTerm.With op gens) s e
  same_with op gens gens' s g ts k e same a =
      λ i. one (with_value (same a.bases.0 (record { bases = a.bases.1.1; once = a.once; full = a.full; typed = a.typed; sound = a.sound }) i) (operation op s e))

  pub same_parted : (f : List Grid1) (t : Base) (shape : List ℕ) (op : PartedOp) (parts parts' : PartsTerm) (s : Site) (g : Bases) (ts : List Base) (k : Facts) (e : Env) →
      (PartsAt core calls turns g t k parts e → SameCells (cells calls turns parts' e) (cells calls turns parts e)) → RightAt core calls turns g ts k (RightTerm.Parted f t shape op parts) e →
      right_value calls turns (RightTerm.Parted f t shape op parts') s e ≡ right_value calls turns (RightTerm.Parted f t shape op parts) s e
  same_parted f t shape op parts parts' s g ts k e same a =
      let there = same (record { bases = a.bases.1; once = a.once; full = a.full; typed = a.typed; sound = a.sound }) in
      λ i. one (if neutral_fits (cell_form t shape) op e then and_then (each (λ index. same_cell_at (cell_form t shape) _ _ index there i) (members f)) (λ found. Ok (made_of f t shape op e found)) else fault F6 s)

  pub same_gen : (j : GenHead) (b b' : BlockTerm) (rest rest' : GensTerm) (g : Bases) (t : Base) (k : Facts) (e : Env) → SameAt b' b (ints (j.index ∷ j.names) ++ g) (t ∷ []) (note_all k (j.index ∷ j.names) []) →
      (GensAt core calls turns g t k rest e → generators calls turns rest' e ≡ generators calls turns rest e) → GensAt core calls turns g t k (Gen j b rest) e → generators calls turns (Gen j b' rest') e ≡ generators calls turns (Gen j b rest) e
  same_gen j b b' rest rest' g t k e same others a =
      let inner = distinct_right (j.index ∷ j.names) (bound_in b ++ bound_in_gens rest) a.once in
      let there = others (record { bases = a.bases.5; once = distinct_right (bound_in b) (bound_in_gens rest) inner; full = a.full.1; typed = a.typed; sound = a.sound }) in
      λ i. generator j (λ index. first (same (with_index e j index) (record {
        bases = a.bases.4;
        once = distinct_left (bound_in b) (bound_in_gens rest) inner;
        full = a.full.0;
        typed = bound_index g e j.index j.names index a.typed (distinct_left (j.index ∷ j.names) (bound_in b ++ bound_in_gens rest) a.once);
        sound = noted k e (j.index ∷ j.names) [] (vector Int index ∷ map (scalar Int) index) a.sound (vector_full index, scalars_full index);
      }) i)) e ∷ there i

  pub same_part : (j : PartHead) (b b' : BlockTerm) (rest rest' : PartsTerm) (g : Bases) (t : Base) (k : Facts) (e : Env) → SameAt b' b ((j.index, Int) ∷ g) (t ∷ []) (in_part k j) →
      (PartsAt core calls turns g t k rest e → SameCells (cells calls turns rest' e) (cells calls turns rest e)) → PartsAt core calls turns g t k (Part j b rest) e → SameCells (cells calls turns (Part j b' rest') e) (cells calls turns (Part j b rest) e)
  same_part j b b' rest rest' g t k e same others a = (
    refl,
    refl,
    (λ index q. ap first (same (bind e j.index (vector Int index)) (record {
      bases = a.bases.0;
      once = distinct_left (bound_in b) (bound_in_parts rest) a.once.1;
      full = a.full.0;
      typed = typed_one g e j.index Int (vector Int index) a.typed refl;
      sound = noted_one k e j.index (shape_fact (Some (length j.grid ∷ []))) (vector Int index) a.sound (record { shape = λ i. has_length j.grid index q i ∷ []; literal = tt; full = vector_full index });
    }))),
    others (record { bases = a.bases.1; once = distinct_right (bound_in b) (bound_in_parts rest) a.once.1; full = a.full.1; typed = a.typed; sound = a.sound }),
  )
