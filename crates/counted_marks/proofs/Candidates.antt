-- The test of candidates, and the least of those that it holds of.
use Rattle.std.proofs.Common.{◌≡◌, ℕ, Bool, true, false, cond, eqb, not, List, [], ◌∷◌, Option, Some, None, refl, ap, ◌∙◌, sym, subst, true≢false, inl, inr}
use Rattle.std.specs.Prelude.{◌&&◌, ◌||◌, ◌⊎◌, nat_lt, if◌then◌else◌, unwrap_or}
use Rattle.std.proofs.lemmas.Slice.Eq.{bytes_eq-Decides}
use Rattle.sac_base.specs.declared.base.Base.{Base}
use Rattle.sac_base.specs.declared.base.Base.TheVariants.{Int, Bool as Truth}
use Rattle.sac_base.specs.declared.grid.Grid1.{Grid1}
use Rattle.sac_base.specs.Arrays.{same_base, same_shape}
use Rattle.core_ir.specs.declared.tree.Var.{Var}
use Rattle.core_ir.specs.declared.tree.PartedOp.{PartedOp}
use Rattle.core_ir.specs.declared.tree.PartedOp.TheVariants as parted
use Rattle.core_ir.specs.Binders.{is_in}
use Rattle.core_ir.specs.Meaning.{extents}
use Rattle.core_facts.specs.Facts.{is_shape}
use Rattle.core_loops.specs.Pairs.{Makes}
use Rattle.core_uses.specs.Tests.{none_is}
use Rattle.counted_code.specs.Loops.{parted_folds}
use Rattle.counted_code.specs.Terms.{CodeTerm, CodePartsTerm, Giving, Binding, Keeping, Releasing}
use Rattle.counted_code.specs.Values.{is_small}
use Rattle.counted_laws.proofs.placing.Lists.{same_var, self, not_true, and_left, and_right, is_false, or_left, or_right}
use Rattle.counted_laws.specs.mark_places.Places.{releases_next}
use Rattle.counted_marks.specs.Known.{Given, Known}
use Rattle.counted_marks.specs.Marks.{MayReuse, IsCandidate, own_parts}
use Rattle.counted_marks.specs.Marking.{is_base, is_known_shape, makes_buffer, may_reuse, is_candidate, released_next, lesser, least}

-- ---- bases and shapes

is_same : (a b : Base) → same_base a b ≡ true → a ≡ b
is_same Int Int p = refl
is_same Truth Truth p = refl
is_same Int Truth p = elim (true≢false (sym p)) [ ]
is_same Truth Int p = elim (true≢false (sym p)) [ ]

base_itself : (a : Base) → same_base a a ≡ true
base_itself Int = refl
base_itself Truth = refl

base_is : (t : Base) (o : Option Base) → is_base t o ≡ true → o ≡ Some t
base_is t None p = elim (true≢false (sym p)) [ ]
base_is t (Some u) p = ap Some (is_same u t p)

shape_is : (s : List ℕ) (o : Option (List ℕ)) → is_known_shape s o ≡ true → o ≡ Some s
shape_is s None p = elim (true≢false (sym p)) [ ]
shape_is s (Some u) p = ap Some ((bytes_eq-Decides u s).0 p)

makes_is : (o : PartedOp) → not (parted_folds o) ≡ true → Makes o
makes_is parted.Genarray p = tt
makes_is (parted.Modarray x) p = tt
makes_is (parted.Fold f x) p = elim (true≢false (sym p)) [ ]

both_true : (a b : Bool) → a ≡ true → b ≡ true → (a && b) ≡ true
both_true true b p q = q
both_true false b p q = elim (true≢false (sym p)) [ ]

not_false : (a : Bool) → a ≡ false → not a ≡ true
not_false true p = elim (true≢false p) [ ]
not_false false p = refl

-- ---- variables that are none of a list

turned : (x y : Var) → eqb x.0 y.0 ≡ true → eqb y.0 x.0 ≡ true
turned x y p = subst (λ (z : Var). eqb z.0 x.0 ≡ true) (same_var x y p) (self x)

other : (x y : Var) → eqb x.0 y.0 ≡ false → eqb y.0 x.0 ≡ false
other x y p = is_false (eqb y.0 x.0) (λ q. true≢false (sym (turned y x q) ∙ p))

none_in : (v : Var) (xs : List Var) → none_is v xs ≡ true → is_in v xs ≡ false
none_in v [] p = refl
none_in v (x ∷ xs) p =
    ap (λ b. b || is_in v xs) (other v x (not_true (eqb v.0 x.0) (and_left (not (eqb v.0 x.0)) (none_is v xs) p)))
    ∙ none_in v xs (and_right (not (eqb v.0 x.0)) (none_is v xs) p)

none_of : (v : Var) (xs : List Var) → is_in v xs ≡ false → none_is v xs ≡ true
none_of v [] p = refl
none_of v (x ∷ xs) p = go (eqb x.0 v.0) refl p (none_of v xs)
  where
    go : (b : Bool) → eqb x.0 v.0 ≡ b → (b || is_in v xs) ≡ false → (is_in v xs ≡ false → none_is v xs ≡ true) → (not (eqb v.0 x.0) && none_is v xs) ≡ true
    go true e q rest = elim (true≢false q) [ ]
    go false e q rest = both_true (not (eqb v.0 x.0)) (none_is v xs) (not_false (eqb v.0 x.0) (other x v e)) (rest q)

-- ---- the test

module _ (g : Given) (k : Known) (frame : List Grid1) (base : Base) (cell : List ℕ) (op : PartedOp) (parts : CodePartsTerm) (v : Var) where
  may_is : may_reuse g k frame base cell op parts v ≡ true → MayReuse g k frame base cell op parts v
  may_is p =
      let made = and_left (makes_buffer frame cell op) (is_base base (k.bases v) && (is_known_shape (extents frame) (k.facts v).shape && own_parts g.shapes v parts k.facts)) p in
      let fits = and_right (makes_buffer frame cell op) (is_base base (k.bases v) && (is_known_shape (extents frame) (k.facts v).shape && own_parts g.shapes v parts k.facts)) p in
      let formed = and_right (is_base base (k.bases v)) (is_known_shape (extents frame) (k.facts v).shape && own_parts g.shapes v parts k.facts) fits in
      let large = and_right (not (parted_folds op)) (same_shape cell [] && (is_shape (extents frame) && not (is_small (extents frame)))) made in
      let sized = and_right (same_shape cell []) (is_shape (extents frame) && not (is_small (extents frame))) large in
      record {
        makes = makes_is op (and_left (not (parted_folds op)) (same_shape cell [] && (is_shape (extents frame) && not (is_small (extents frame)))) made);
        scalars = (bytes_eq-Decides cell []).0 (and_left (same_shape cell []) (is_shape (extents frame) && not (is_small (extents frame))) large);
        array = and_left (is_shape (extents frame)) (not (is_small (extents frame))) sized;
        buffer = not_true (is_small (extents frame)) (and_right (is_shape (extents frame)) (not (is_small (extents frame))) sized);
        typed = base_is base (k.bases v) (and_left (is_base base (k.bases v)) (is_known_shape (extents frame) (k.facts v).shape && own_parts g.shapes v parts k.facts) fits);
        shape = shape_is (extents frame) (k.facts v).shape (and_left (is_known_shape (extents frame) (k.facts v).shape) (own_parts g.shapes v parts k.facts) formed);
        own = and_right (is_known_shape (extents frame) (k.facts v).shape) (own_parts g.shapes v parts k.facts) formed;
      }

  is_made : (o : PartedOp) → Makes o → not (parted_folds o) ≡ true
  is_made parted.Genarray m = refl
  is_made (parted.Modarray x) m = refl
  is_made (parted.Fold f x) m = elim m [ ]

  is_may : MayReuse g k frame base cell op parts v → may_reuse g k frame base cell op parts v ≡ true
  is_may m =
      both_true (makes_buffer frame cell op) (is_base base (k.bases v) && (is_known_shape (extents frame) (k.facts v).shape && own_parts g.shapes v parts k.facts))
      (both_true (not (parted_folds op)) (same_shape cell [] && (is_shape (extents frame) && not (is_small (extents frame)))) (is_made op m.makes)
      (both_true (same_shape cell []) (is_shape (extents frame) && not (is_small (extents frame))) ((bytes_eq-Decides cell []).1 m.scalars)
      (both_true (is_shape (extents frame)) (not (is_small (extents frame))) m.array (not_false (is_small (extents frame)) m.buffer))))
      (both_true (is_base base (k.bases v)) (is_known_shape (extents frame) (k.facts v).shape && own_parts g.shapes v parts k.facts) (ap (is_base base) m.typed ∙ base_itself base)
      (both_true (is_known_shape (extents frame) (k.facts v).shape) (own_parts g.shapes v parts k.facts) (ap (is_known_shape (extents frame)) m.shape ∙ (bytes_eq-Decides (extents frame) (extents frame)).1 refl) m.own))

  module _ (targets : List Var) (rest : CodeTerm) where
    pub candidate_is : is_candidate g k targets frame base cell op parts rest v ≡ true → IsCandidate g k targets frame base cell op parts rest v
    candidate_is p =
        let later = and_right (none_is v targets) (releases_next v rest && may_reuse g k frame base cell op parts v) p in
        record {
          before = none_in v targets (and_left (none_is v targets) (releases_next v rest && may_reuse g k frame base cell op parts v) p);
          may = may_is (and_right (releases_next v rest) (may_reuse g k frame base cell op parts v) later);
          released = and_left (releases_next v rest) (may_reuse g k frame base cell op parts v) later;
        }

    pub is_it : IsCandidate g k targets frame base cell op parts rest v → is_candidate g k targets frame base cell op parts rest v ≡ true
    is_it c =
        both_true (none_is v targets) (releases_next v rest && may_reuse g k frame base cell op parts v) (none_of v targets c.before)
        (both_true (releases_next v rest) (may_reuse g k frame base cell op parts v) c.released (is_may c.may))

-- ---- the least

pub released_there : (v : Var) (t : CodeTerm) → releases_next v t ≡ true → is_in v (released_next t) ≡ true
released_there v (Giving xs) p = elim (true≢false (sym p)) [ ]
released_there v (Binding xs s r b) p = elim (true≢false (sym p)) [ ]
released_there v (Keeping x b) p = go (eqb v.0 x.0) p (released_there v b)
  where
    go : (same : Bool) → cond same false (releases_next v b) ≡ true → (releases_next v b ≡ true → is_in v (released_next b) ≡ true) → is_in v (released_next b) ≡ true
    go true q rest = elim (true≢false (sym q)) [ ]
    go false q rest = rest q
released_there v (Releasing x b) p = go (eqb v.0 x.0) refl p (released_there v b)
  where
    go : (same : Bool) → eqb v.0 x.0 ≡ same → cond same true (releases_next v b) ≡ true → (releases_next v b ≡ true → is_in v (released_next b) ≡ true) → (eqb x.0 v.0 || is_in v (released_next b)) ≡ true
    go true e q rest = or_left (eqb x.0 v.0) (is_in v (released_next b)) (turned v x e)
    go false e q rest = or_right (eqb x.0 v.0) (is_in v (released_next b)) (rest q)

module _ (holds : Var → Bool) where
  -- whatever was found before, something is found
  abbrev Found : Option Var → Type 0
  Found None = ⊥
  Found (Some v) = Unit {0}

  lesser_found : (x : Var) (o : Option Var) → Found (lesser x o)
  lesser_found x None = tt
  lesser_found x (Some y) = go (nat_lt x.0 y.0)
    where
      go : (b : Bool) → Found (if b then Some x else Some y)
      go true = tt
      go false = tt

  still_found : (xs : List Var) (o : Option Var) → Found o → Found (least holds o xs)
  still_found [] o f = f
  still_found (x ∷ xs) o f = still_found xs (if holds x then lesser x o else o) (more (holds x))
    where
      more : (b : Bool) → Found (if b then lesser x o else o)
      more true = lesser_found x o
      more false = f

  -- where none is found it holds of none
  pub none_holds : (xs : List Var) (o : Option Var) → least holds o xs ≡ None → (v : Var) → is_in v xs ≡ true → holds v ≡ false
  none_holds [] o e v i = elim (true≢false (sym i)) [ ]
  none_holds (x ∷ xs) o e v i = go (holds x) refl e (λ f j. none_holds xs o f v j) (eqb x.0 v.0) refl i
    where
      go : (b : Bool) → holds x ≡ b → least holds (if b then lesser x o else o) xs ≡ None → (least holds o xs ≡ None → is_in v xs ≡ true → holds v ≡ false) → (same : Bool) → eqb x.0 v.0 ≡ same → (same || is_in v xs) ≡ true → holds v ≡ false
      go true h f rest same s j = elim (subst Found f (still_found xs (lesser x o) (lesser_found x o))) [ ]
      go false h f rest true s j = subst (λ z. holds z ≡ false) (same_var x v s) h
      go false h f rest false s j = rest f j

  -- what is found was there before, or it holds of it
  pub found_holds : (xs : List Var) (o : Option Var) → ((v : Var) → o ≡ Some v → holds v ≡ true) → (v : Var) → least holds o xs ≡ Some v → holds v ≡ true
  found_holds [] o was v e = was v e
  found_holds (x ∷ xs) o was v e = found_holds xs (if holds x then lesser x o else o) (more (holds x) refl) v e
    where
      some : (u w : Var) → Some u ≡ Some w → u ≡ w
      some u w p = ap (λ (q : Option Var). unwrap_or q u) p

      less : (y u : Var) → (Some y ≡ Some u → holds u ≡ true) → holds x ≡ true → (b : Bool) → (if b then Some x else Some y) ≡ Some u → holds u ≡ true
      less y u was h true q = subst (λ z. holds z ≡ true) (some x u q) h
      less y u was h false q = was q

      first : (o : Option Var) → ((u : Var) → o ≡ Some u → holds u ≡ true) → holds x ≡ true → (u : Var) → lesser x o ≡ Some u → holds u ≡ true
      first None was h u p = subst (λ z. holds z ≡ true) (some x u p) h
      first (Some y) was h u p = less y u (was u) h (nat_lt x.0 y.0) p

      more : (b : Bool) → holds x ≡ b → (u : Var) → (if b then lesser x o else o) ≡ Some u → holds u ≡ true
      more true h u p = first o was h u p
      more false h u p = was u p
