-- Where calls are inlined, counts agree, and the numbers of variables are below those that are put in.
use Rattle.std.proofs.Common.{◌≡◌, ℕ, zero, suc, ◌+◌, ◌<◌, ◌≤◌, List, [], ◌∷◌, ◌++◌, map, length, get_or, zip, Option, Some, refl, sym, ap, subst, ◌∙◌, arith}
use Rattle.std.specs.Prelude.{max, All, Contains, slice_get, unwrap_or}
use Rattle.std.proofs.lemmas.Option.{slice_get_within}
use Rattle.sac_base.specs.declared.base.Base.{Base}
use Rattle.sac_base.specs.declared.types.ArrayType.{ArrayType}
use Rattle.core_ir.specs.declared.tree.Var.{Var}
use Rattle.core_ir.specs.Outcome.{param_types}
use Rattle.core_ir.specs.Scopes.{op_uses, parted_uses}
use Rattle.core_ir.specs.Terms.{BlockTerm, RightTerm, GensTerm, PartsTerm, FunTerm, CoreTerm, Gives, Bind}
use Rattle.core_ir.specs.WellFormed.{Bases, HasBases, bases, ints, BlockBases, RightBases, GensBases, PartsBases, IsFunction}
use Rattle.core_subst.specs.Names.{above, above_all, above_head, above_right, above_gens, above_parts, above_function}
use Rattle.core_forms.specs.inlining.Inlined.{results, CanInline}
use Rattle.core_forms.specs.declared.inlined_bodies.growth.Growth.{Growth}
use Rattle.core_forms.specs.inlined_bodies.Inlining.{IsInstance, grown, weight, BlockInlined, RightInlined, GensInlined, PartsInlined, ends, placed, kept, plain, left, branches, turns, generated, divided, no_gens, a_gen, no_parts, a_part}
use Rattle.core_forms.specs.inlined_bodies.Functions.{Anywhere}
use Rattle.sac_base.specs.declared.base.Base.TheVariants.{Int, Bool as Truth}

pub lower : (a b n : ℕ) → max a b ≤ n → a ≤ n
lower a b n h = omega arith

pub upper : (a b n : ℕ) → max a b ≤ n → b ≤ n
upper a b n h = omega arith

pub most : (a b n : ℕ) → a ≤ n → b ≤ n → max a b ≤ n
most a b n p q = omega arith

pub trans : (a b c : ℕ) → a ≤ b → b ≤ c → a ≤ c
trans a b c p q = omega arith

added : (a b : ℕ) → a ≤ a + b
added a b = omega arith

-- the growth only rises
pub record Rises (s t : Growth) : Type 0 where
  pub count : s.count ≤ t.count
  pub above : s.above ≤ t.above

pub rises_all : (s m t : Growth) → Rises s m → Rises m t → Rises s t
rises_all s m t p q = record { count = trans s.count m.count t.count p.count q.count; above = trans s.above m.above t.above p.above q.above }

stays : (s : Growth) → Rises s s
stays s = record { count = omega arith; above = omega arith }

pub grows : (s : Growth) (f : FunTerm) → Rises s (grown s f)
grows s f = record { count = added s.count (weight f); above = added s.above (above_function f) }

module _ (core : CoreTerm) (May : ℕ → FunTerm → List Var → List Var → BlockTerm → Type 0) where
  mutual
    pub rises : {s t : Growth} {b c : BlockTerm} → BlockInlined core May s b c t → Rises s t
    rises (ends {s = s}) = stays s
    rises (placed {s = s} {t = t} {f = f} i r m d) = rises_all s (grown s f) t (grows s f) (rises d)
    rises (kept {s = s} {m = m} {t = t} d e) = rises_all s m t (rises_right d) (rises e)

    pub rises_right : {s t : Growth} {b c : RightTerm} → RightInlined core May s b c t → Rises s t
    rises_right (plain {s = s}) = stays s
    rises_right (left {s = s} l) = stays s
    rises_right (branches {s = s} {m = m} {t = t} d e) = rises_all s m t (rises d) (rises e)
    rises_right (turns {s = s} {m = m} {t = t} d e) = rises_all s m t (rises d) (rises e)
    rises_right (generated d) = rises_gens d
    rises_right (divided d) = rises_parts d

    pub rises_gens : {s t : Growth} {b c : GensTerm} → GensInlined core May s b c t → Rises s t
    rises_gens (no_gens {s = s}) = stays s
    rises_gens (a_gen {s = s} {m = m} {t = t} d e) = rises_all s m t (rises d) (rises_gens e)

    pub rises_parts : {s t : Growth} {b c : PartsTerm} → PartsInlined core May s b c t → Rises s t
    rises_parts (no_parts {s = s}) = stays s
    rises_parts (a_part {s = s} {m = m} {t = t} d e) = rises_all s m t (rises d) (rises_parts e)

-- ---- a call of a group with one instance

pub mapped_length : {A B : Type 0} (f : A → B) (xs : List A) → length (map f xs) ≡ length xs
mapped_length f [] = refl
mapped_length f (x ∷ xs) = ap suc (mapped_length f xs)

pub bases_length : (g : Bases) (xs : List Var) (ts : List Base) → HasBases g xs ts → length xs ≡ length ts
bases_length g [] [] h = refl
bases_length g (x ∷ xs) (t ∷ ts) h = ap suc (bases_length g xs ts h.1)
bases_length g [] (t ∷ ts) h = absurd h
bases_length g (x ∷ xs) [] h = absurd h

pub at_index : {A : Type 0} (xs : List A) (i : ℕ) (x : A) → slice_get xs i ≡ Some x → get_or xs i x ≡ x
at_index [] i x p = refl
at_index (y ∷ ys) zero x p = ap (λ o. unwrap_or o x) p
at_index (y ∷ ys) (suc i) x p = at_index ys i x p

pub all_at : {A : Type 0} (P : A → Type 0) (xs : List A) (i : ℕ) (x : A) → All P xs → slice_get xs i ≡ Some x → P x
all_at P xs i x h e = subst P (at_index xs i x e) (h i x (slice_get_within xs i x e))

only : (place other : ℕ) → Contains (place ∷ []) other → other ≡ place
only place other c = go c.0 c.1 c.2
  where
    go : (k : ℕ) → k < 1 → get_or (place ∷ []) k other ≡ other → other ≡ place
    go zero h e = sym e
    go (suc k) h e = absurd (omega arith)

some_function : (f g : FunTerm) → ◌≡◌ {A = Option FunTerm} (Some f) (Some g) → f ≡ g
some_function f g p = ap (λ o. unwrap_or o f) p

module _ (core : CoreTerm) where
  results_length : (b : BlockTerm) (g : Bases) (ts : List Base) → BlockBases core g b ts → length (results b) ≡ length ts
  results_length (Gives xs) g ts h = bases_length g xs ts h
  results_length (Bind xs s r b) g ts h = results_length b (zip xs h.0 ++ g) ts h.1.2

  -- the arguments have the bases of the instance's parameters, and the targets those of its results
  pub at_call : (g : Bases) (group place : ℕ) (xs : List Var) (vs : List Base) (f : FunTerm) → RightBases core g (RightTerm.Call group xs) vs → IsInstance core group place f → HasBases g xs (bases (param_types f)) × (bases f.results ≡ vs)
  at_call g group place xs vs f h i =
      let places = h.1.1.0 in
      let q = h.1.1.1.1.1 in
      let single : places ≡ place ∷ [] = sym (ap (λ o. unwrap_or o []) q.0) ∙ i.alone in
      let same : h.1.1.1.0 ≡ place = only place h.1.1.1.0 (subst (λ (ps : List ℕ). Contains ps h.1.1.1.0) single q.1) in
      let own : h.1.1.1.1.0 ≡ f = some_function h.1.1.1.1.0 f (sym q.2 ∙ ap (slice_get core.functions) same ∙ i.found) in
      (subst (λ (us : List Base). HasBases g xs us) (sym q.3 ∙ ap (λ (k : FunTerm). bases (param_types k)) own) h.1.0, ap (λ (k : FunTerm). bases k.results) (sym own) ∙ q.4)

  module _ (well : All (IsFunction core) core.functions) where
    pub can_inline : (g : Bases) (group place : ℕ) (ts xs : List Var) (vs : List Base) (f : FunTerm) (rest : BlockTerm) (by : ℕ) → RightBases core g (RightTerm.Call group xs) vs → length ts ≡ length vs → IsInstance core group place f
        → max (above_all ts) (max (above_all xs) (above rest)) ≤ by → CanInline by f ts xs rest
    can_inline g group place ts xs vs f rest by h l i a =
        let w = at_call g group place xs vs f h i in
        let is = all_at (IsFunction core) core.functions place f well i.found in
        record {
          scoped = is.scoped;
          takes = bases_length g xs (bases (param_types f)) w.0 ∙ mapped_length (λ (t : ArrayType). t.base) (param_types f) ∙ mapped_length (λ (p : Var × ArrayType). p.1) f.params;
          gives = l ∙ ap length (sym w.1) ∙ mapped_length (λ (t : ArrayType). t.base) f.results;
          ends = results_length f.body _ (bases f.results) is.agreeing ∙ mapped_length (λ (t : ArrayType). t.base) f.results;
          targets = lower (above_all ts) _ by a;
          sources = lower (above_all xs) (above rest) by (upper (above_all ts) _ by a);
          behind = upper (above_all xs) (above rest) by (upper (above_all ts) _ by a);
        }

    mutual
      pub counted : {s t : Growth} {b c : BlockTerm} → BlockInlined core Anywhere s b c t → (g : Bases) (us : List Base) → BlockBases core g b us → above b ≤ s.above → BlockInlined core CanInline s b c t
      counted ends g us h a = ends
      counted (placed {s = s} {group = group} {place = place} {f = f} {ts = ts} {xs = xs} {rest = rest} i fits may d) g us h a =
          placed i fits (can_inline g group place ts xs h.0 f rest s.above h.1.0 h.1.1 i a)
          (counted d (zip ts h.0 ++ g) us h.1.2 (trans (above rest) s.above (s.above + above_function f) (upper (above_all xs) (above rest) s.above (upper (above_all ts) _ s.above a)) (added s.above (above_function f))))
      counted (kept {s = s} {m = m} {xs = xs} {r = r} {rest = rest} d e) g us h a =
          let q = upper (above_all xs) _ s.above a in
          kept (counted_right d g h.0 h.1.0 (lower (above_right r) (above rest) s.above q)) (counted e (zip xs h.0 ++ g) us h.1.2 (trans (above rest) s.above m.above (upper (above_right r) (above rest) s.above q) (rises_right core Anywhere d).above))

      counted_right : {s t : Growth} {b c : RightTerm} → RightInlined core Anywhere s b c t → (g : Bases) (us : List Base) → RightBases core g b us → above_right b ≤ s.above → RightInlined core CanInline s b c t
      counted_right plain g us h a = plain
      counted_right (left l) g us h a = left l
      counted_right (branches {s = s} {m = m} {x = x} {a = p} {b = q} d e) g us h a =
          let k = upper (suc x.0) _ s.above a in
          branches (counted d g us h.1 (lower (above p) (above q) s.above k)) (counted e g us h.2 (trans (above q) s.above m.above (upper (above p) (above q) s.above k) (rises core Anywhere d).above))
      counted_right (turns {s = s} {m = m} {start = start} {params = params} {a = p} {b = q} d e) g us h a =
          let k = upper (above_all params) _ s.above (upper (above_all start) _ s.above a) in
          turns (counted d (zip params us ++ g) (Truth ∷ []) h.2 (lower (above p) (above q) s.above k)) (counted e (zip params us ++ g) us h.3 (trans (above q) s.above m.above (upper (above p) (above q) s.above k) (rises core Anywhere d).above))
      counted_right (generated {s = s} {op = op} {g = gs} d) g us h a = generated (counted_gens d g h.0 h.1.1 (upper (above_all (op_uses op)) (above_gens gs) s.above a))
      counted_right (divided {s = s} {base = base} {op = op} {p = ps} d) g us h a = divided (counted_parts d g base h.1 (upper (above_all (parted_uses op)) (above_parts ps) s.above a))

      counted_gens : {s t : Growth} {b c : GensTerm} → GensInlined core Anywhere s b c t → (g : Bases) (u : Base) → GensBases core g b u → above_gens b ≤ s.above → GensInlined core CanInline s b c t
      counted_gens no_gens g u h a = no_gens
      counted_gens (a_gen {s = s} {m = m} {h = k} {b = p} {g = q} d e) g u h a =
          let z = upper (above_all (k.index ∷ k.names)) _ s.above (upper (above_head k) _ s.above a) in
          a_gen (counted d (ints (k.index ∷ k.names) ++ g) (u ∷ []) h.4 (lower (above p) (above_gens q) s.above z)) (counted_gens e g u h.5 (trans (above_gens q) s.above m.above (upper (above p) (above_gens q) s.above z) (rises core Anywhere d).above))

      counted_parts : {s t : Growth} {b c : PartsTerm} → PartsInlined core Anywhere s b c t → (g : Bases) (u : Base) → PartsBases core g b u → above_parts b ≤ s.above → PartsInlined core CanInline s b c t
      counted_parts no_parts g u h a = no_parts
      counted_parts (a_part {s = s} {m = m} {h = k} {b = p} {p = q} d e) g u h a =
          let z = upper (suc k.index.0) _ s.above a in
          a_part (counted d ((k.index, Int) ∷ g) (u ∷ []) h.0 (lower (above p) (above_parts q) s.above z)) (counted_parts e g u h.1 (trans (above_parts q) s.above m.above (upper (above p) (above_parts q) s.above z) (rises core Anywhere d).above))
