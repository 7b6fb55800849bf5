-- Bindings that are not used and whose right side is known to have a value may go.
use Rattle.std.proofs.Common.{◌≡◌, ℕ, Bool, true, false, not, ◌&&◌, ◌||◌, cond, eqb, List, [], ◌∷◌, ◌++◌, Option, Some, None, Ok, refl, sym, ap, subst, ◌∙◌}
use Rattle.std.specs.Prelude.{if◌then◌else◌, option_to_list, zip}
use Rattle.sac_base.specs.declared.base.Base.{Base}
use Rattle.sac_base.specs.declared.base.Base.TheVariants.{Int, Bool as Truth}
use Rattle.sac_base.specs.declared.site.Site.{Site}
use Rattle.sac_base.specs.Arrays.{ArrayValue}
use Rattle.sac_base.specs.Operators.{unary}
use Rattle.sac_base.specs.Outcomes.{and_then, at_site}
use Rattle.sac_base.specs.Parts.{dim, shape_vector}
use Rattle.core_ir.specs.declared.tree.Var.{Var}
use Rattle.core_ir.specs.declared.tree.CoreOp.{CoreOp}
use Rattle.core_ir.specs.declared.tree.CoreOp.TheVariants as making
use Rattle.core_ir.specs.declared.tree.PartedOp.{PartedOp}
use Rattle.core_ir.specs.declared.tree.PartedOp.TheVariants as parted
use Rattle.core_ir.specs.Binders.{is_in, NoneIn, bound_in, bound_in_right, bound_in_gens, bound_in_parts}
use Rattle.core_ir.specs.Meaning.{Env, CallMeaning, bind_all, first, one, run, right_value, generators, cells}
use Rattle.core_ir.specs.Scopes.{AllIn, Scoped, ScopedRight, ScopedGens, ScopedParts, head_uses, op_uses, parted_uses, plain_uses}
use Rattle.core_ir.specs.Terms.{PlainTerm, BlockTerm, RightTerm, GensTerm, PartsTerm, CoreTerm, Gives, Bind, Plain, NoGens, Gen, NoParts, Part}
use Rattle.core_ir.specs.Uses.{AvoidsAll, Avoids, AvoidsRight, AvoidsGens, AvoidsParts}
use Rattle.core_ir.specs.WellFormed.{AllHave, Bases, BlockBases, GensBases, HasBases, LiteralBase, OperationBase, OptionHas, PartedBase, PartedFits, PartsBases, PlainBases, RightBases, base_of, calls_in, calls_in_right, calls_in_gens, calls_in_parts, ints, part_grids}
use Rattle.core_ir.proofs.Edited.{then_same, SameCells}
use Rattle.core_ir.proofs.Unused.{drop_unused}
use Rattle.core_ir.proofs.Variables.{in_front, in_more, in_neither, or_false}
use Rattle.core_subst.specs.Names.{used_in, used_in_right, used_in_gens, used_in_parts}
use Rattle.core_facts.specs.Facts.{Facts, CallsFit, in_part, note_all, right_facts}
use Rattle.core_facts.specs.bases.Typed.{CallsTyped}
use Rattle.core_loops.proofs.index_facts.Total.{plain_total}
use Rattle.core_forms.proofs.cleaning.Places.{At, RightAt, GensAt, PartsAt, right_at, after_bind, same_if, same_loop, same_with, same_parted, same_gen, same_part}
use Rattle.core_forms.specs.cleaning.Unused.{never_faults, is_total, no_indices, is_removable, is_unused, swept, swept_right, swept_gens, swept_parts}
use Rattle.core_forms.proofs.cleaning.Lists.{clash, itself, behind_first, in_left, turned, zip_elsewhere, Sub, all_of, joined, behind_all}

-- ---- what it says that a binding goes

both_true : (b c : Bool) → (b && c) ≡ true → (b ≡ true) × (c ≡ true)
both_true true c h = (refl, h)
both_true false c h = absurd (cc)

is_false : (b : Bool) → not b ≡ true → b ≡ false
is_false false h = refl
is_false true h = absurd (cc)

-- the right side has a value
has_value : (calls : CallMeaning) (turns : ℕ) (r : RightTerm) (s : Site) (e : Env) → never_faults r ≡ true → (v : ArrayValue) × (right_value calls turns r s e ≡ Ok (v ∷ []))
has_value calls turns (Plain (PlainTerm.Const a)) s e h = (a, refl)
has_value calls turns (Plain (PlainTerm.Copy x)) s e h = (e x, refl)
has_value calls turns (Plain (PlainTerm.Unary o x)) s e h = (unary o (e x), refl)
has_value calls turns (Plain (PlainTerm.Dim x)) s e h = (dim (e x), refl)
has_value calls turns (Plain (PlainTerm.ShapeOf x)) s e h = (shape_vector (e x), refl)
has_value calls turns (Plain (PlainTerm.Binary o x y)) s e h = absurd (cc)
has_value calls turns (Plain (PlainTerm.Literal xs)) s e h = absurd (cc)
has_value calls turns (Plain (PlainTerm.Reshape x y)) s e h = absurd (cc)
has_value calls turns (Plain (PlainTerm.Select x y)) s e h = absurd (cc)
has_value calls turns (Plain (PlainTerm.Replace x y z)) s e h = absurd (cc)
has_value calls turns (Plain (PlainTerm.Always kind)) s e h = absurd (cc)
has_value calls turns (Plain (PlainTerm.Check x ty)) s e h = absurd (cc)
has_value calls turns (RightTerm.If x a b) s e h = absurd (cc)
has_value calls turns (RightTerm.Loop first start params test body u) s e h = absurd (cc)
has_value calls turns (RightTerm.Call g xs) s e h = absurd (cc)
has_value calls turns (RightTerm.With o gens) s e h = absurd (cc)
has_value calls turns (RightTerm.Parted frame base cell o parts) s e h = absurd (cc)

-- and calls nothing
no_calls : (r : RightTerm) (k : Facts) → is_removable r k ≡ true → calls_in_right r ≡ []
no_calls (Plain p) k h = refl
no_calls (RightTerm.If x a b) k h = absurd (cc)
no_calls (RightTerm.Loop first start params test body u) k h = absurd (cc)
no_calls (RightTerm.Call g xs) k h = absurd (cc)
no_calls (RightTerm.With o gens) k h = absurd (cc)
no_calls (RightTerm.Parted frame base cell o parts) k h = absurd (cc)

-- its variable is not used
unused_by : (xs us : List Var) (y : Var) → is_unused xs us ≡ true → is_in y xs ≡ true → is_in y us ≡ false
unused_by [] us y h p = absurd (cc)
unused_by (x ∷ z ∷ zs) us y h p = absurd (cc)
unused_by (x ∷ []) us y h p = go (eqb x.0 y.0) refl
  where
    go : (b : Bool) → eqb x.0 y.0 ≡ b → is_in y us ≡ false
    go true e = ap (λ z. is_in z us) (sym (Rattle.core_ir.proofs.Variables.same_number x y e)) ∙ is_false (is_in x us) h
    go false e = clash (eqb x.0 y.0 || false) p (λ i. e i || false)

avoids_all : (x : Var) (ys : List Var) → is_in x ys ≡ false → AvoidsAll x ys
avoids_all x [] n = tt
avoids_all x (y ∷ ys) n = let w = or_false (eqb y.0 x.0) (is_in x ys) n in (turned x y w.0, avoids_all x ys w.1)

mutual
  avoids : (x : Var) (b : BlockTerm) → is_in x (used_in b) ≡ false → Avoids x b
  avoids x (Gives ys) n = avoids_all x ys n
  avoids x (Bind ys s r b) n = let w = in_neither x (used_in_right r) (used_in b) n in (avoids_right x r w.0, avoids x b w.1)

  avoids_right : (x : Var) (r : RightTerm) → is_in x (used_in_right r) ≡ false → AvoidsRight x r
  avoids_right x (Plain p) n = avoids_all x (plain_uses p) n
  avoids_right x (RightTerm.If y a b) n =
      let w = or_false (eqb y.0 x.0) (is_in x (used_in a ++ used_in b)) n in
      let v = in_neither x (used_in a) (used_in b) w.1 in
      (turned x y w.0, avoids x a v.0, avoids x b v.1)
  avoids_right x (RightTerm.Loop first start params test body s) n =
      let w = in_neither x start (used_in test ++ used_in body) n in
      let v = in_neither x (used_in test) (used_in body) w.1 in
      (avoids_all x start w.0, avoids x test v.0, avoids x body v.1)
  avoids_right x (RightTerm.Call g ys) n = avoids_all x ys n
  avoids_right x (RightTerm.With op gens) n =
      let w = in_neither x (op_uses op) (used_in_gens gens) n in (avoids_all x (op_uses op) w.0, avoids_gens x gens w.1)
  avoids_right x (RightTerm.Parted f b c op parts) n =
      let w = in_neither x (parted_uses op) (used_in_parts parts) n in (avoids_all x (parted_uses op) w.0, avoids_parts x parts w.1)

  avoids_gens : (x : Var) (gs : GensTerm) → is_in x (used_in_gens gs) ≡ false → AvoidsGens x gs
  avoids_gens x NoGens n = tt
  avoids_gens x (Gen h b rest) n =
      let w = in_neither x (head_uses h) (used_in b ++ used_in_gens rest) n in
      let v = in_neither x (used_in b) (used_in_gens rest) w.1 in
      (avoids_all x (head_uses h) w.0, avoids x b v.0, avoids_gens x rest v.1)

  avoids_parts : (x : Var) (ps : PartsTerm) → is_in x (used_in_parts ps) ≡ false → AvoidsParts x ps
  avoids_parts x NoParts n = tt
  avoids_parts x (Part h b rest) n =
      let w = in_neither x (used_in b) (used_in_parts rest) n in (avoids x b w.0, avoids_parts x rest w.1)

-- what is known shows that a right side has a value
total_value :
    (core : CoreTerm) (calls : CallMeaning) (turns : ℕ) (r : RightTerm) (s : Site) (g : Bases) (ts : List Base) (k : Facts) (e : Env) → is_total r k ≡ true →
    RightAt core calls turns g ts k r e → (v : ArrayValue) × (right_value calls turns r s e ≡ Ok (v ∷ []))
total_value core calls turns (Plain p) s g ts k e h a =
    let v = plain_total [] [] p g ts k no_indices e refl h a.bases a.typed a.sound (λ x. tt) in (v.0, λ i. one (at_site s (v.1 i)))
total_value core calls turns (RightTerm.If x b c) s g ts k e h a = absurd (cc)
total_value core calls turns (RightTerm.Loop first start params test body u) s g ts k e h a = absurd (cc)
total_value core calls turns (RightTerm.Call group xs) s g ts k e h a = absurd (cc)
total_value core calls turns (RightTerm.With o gens) s g ts k e h a = absurd (cc)
total_value core calls turns (RightTerm.Parted frame t cell o parts) s g ts k e h a = absurd (cc)

gone_value :
    (core : CoreTerm) (calls : CallMeaning) (turns : ℕ) (r : RightTerm) (s : Site) (g : Bases) (ts : List Base) (k : Facts) (e : Env) → is_removable r k ≡ true →
    RightAt core calls turns g ts k r e → (v : ArrayValue) × (right_value calls turns r s e ≡ Ok (v ∷ []))
gone_value core calls turns r s g ts k e h a = go (never_faults r) refl
  where
    go : (b : Bool) → never_faults r ≡ b → (v : ArrayValue) × (right_value calls turns r s e ≡ Ok (v ∷ []))
    go true p = has_value calls turns r s e p
    go false p = total_value core calls turns r s g ts k e (ap (λ b. b || is_total r k) (sym p) ∙ h) a

-- the binding may go
gone :
    (calls : CallMeaning) (turns : ℕ) (xs : List Var) (s : Site) (r : RightTerm) (c : BlockTerm) (e : Env) → (v : ArrayValue) × (right_value calls turns r s e ≡ Ok (v ∷ [])) →
    is_unused xs (used_in c) ≡ true → run calls turns c e ≡ run calls turns (Bind xs s r c) e
gone calls turns [] s r c e v h = absurd (cc)
gone calls turns (x ∷ y ∷ ys) s r c e v h = absurd (cc)
gone calls turns (x ∷ []) s r c e v h =
    sym (drop_unused calls turns x s r c e v.0 (avoids x c (unused_by (x ∷ []) (used_in c) x h (itself x []))) v.1)

-- ---- the meaning

either_same :
    (calls : CallMeaning) (turns : ℕ) (b : Bool) (c d : BlockTerm) (e : Env) (answer : Rattle.core_ir.specs.Meaning.Answer) →
    (b ≡ true → run calls turns c e ≡ answer) → run calls turns d e ≡ answer → run calls turns (if b then c else d) e ≡ answer
either_same calls turns true c d e answer p q = p refl
either_same calls turns false c d e answer p q = q

module _ (core : CoreTerm) (calls : CallMeaning) (turns : ℕ) (typed : CallsTyped core calls) (called : ℕ → List (Option (List ℕ))) (fit : CallsFit called calls) where
  mutual
    pub block_same : (b : BlockTerm) (g : Bases) (ts : List Base) (k : Facts) (e : Env) → At core calls turns g ts k b e → run calls turns (swept called b k) e ≡ run calls turns b e
    block_same (Gives xs) g ts k e a = refl
    block_same (Bind xs s r b) g ts k e a =
        let n = note_all k xs (right_facts called r k) in
        let c = swept called b n in
        let behind = used_in c in
        let here = right_at core calls turns typed called fit xs s r b g ts k e a in
        let rest = then_same (right_value calls turns r s e) (λ vs. run calls turns c (bind_all e xs vs)) (λ vs. run calls turns b (bind_all e xs vs))
        (λ vs q. block_same b (zip xs a.bases.0 ++ g) ts n (bind_all e xs vs) (after_bind core calls turns typed called fit xs s r b g ts k e vs a q)) in
        either_same calls turns (is_removable r k && is_unused xs behind) c (Bind xs s (swept_right called r k) c) e (run calls turns (Bind xs s r b) e)
        (λ h. let w = both_true (is_removable r k) (is_unused xs behind) h in gone calls turns xs s r c e (gone_value core calls turns r s g a.bases.0 k e w.0 here) w.1 ∙ rest)
        ((λ i. and_then (right_same r s g a.bases.0 k e here i) (λ vs. run calls turns c (bind_all e xs vs))) ∙ rest)

    right_same : (r : RightTerm) (s : Site) (g : Bases) (ts : List Base) (k : Facts) (e : Env) → RightAt core calls turns g ts k r e → right_value calls turns (swept_right called r k) s e ≡ right_value calls turns r s e
    right_same (Plain p) s g ts k e a = refl
    right_same (RightTerm.If x b c) s g ts k e a = same_if core calls turns typed called fit x b c (swept called b k) (swept called c k) s g ts k e (block_same b g ts k) (block_same c g ts k) a
    right_same (RightTerm.Loop fb start params test body u) s g ts k e a =
        let n = note_all k params [] in
        same_loop core calls turns typed called fit fb start params test body (swept called test n) (swept called body n) u s g ts k e (block_same test (zip params ts ++ g) (Truth ∷ []) n) (block_same body (zip params ts ++ g) ts n) a
    right_same (RightTerm.Call group xs) s g ts k e a = refl
    right_same (RightTerm.With op gens) s g ts k e a = same_with core calls turns typed called fit op gens (swept_gens called gens k) s g ts k e (λ t. gens_same gens g t k e) a
    right_same (RightTerm.Parted f t shape op parts) s g ts k e a = same_parted core calls turns typed called fit f t shape op parts (swept_parts called parts k) s g ts k e (parts_same parts g t k e) a

    gens_same : (gs : GensTerm) (g : Bases) (t : Base) (k : Facts) (e : Env) → GensAt core calls turns g t k gs e → generators calls turns (swept_gens called gs k) e ≡ generators calls turns gs e
    gens_same NoGens g t k e a = refl
    gens_same (Gen j b rest) g t k e a =
        let n = note_all k (j.index ∷ j.names) [] in
        same_gen core calls turns typed called fit j b (swept called b n) rest (swept_gens called rest k) g t k e (block_same b (ints (j.index ∷ j.names) ++ g) (t ∷ []) n) (gens_same rest g t k e) a

    parts_same : (ps : PartsTerm) (g : Bases) (t : Base) (k : Facts) (e : Env) → PartsAt core calls turns g t k ps e → SameCells (cells calls turns (swept_parts called ps k) e) (cells calls turns ps e)
    parts_same NoParts g t k e a = tt
    parts_same (Part j b rest) g t k e a =
        same_part core calls turns typed called fit j b (swept called b (in_part k j)) rest (swept_parts called rest k) g t k e (block_same b ((j.index, Int) ∷ g) (t ∷ []) (in_part k j)) (parts_same rest g t k e) a

-- ---- calls

either_calls : (b : Bool) (c d : BlockTerm) (gs : List ℕ) → (b ≡ true → calls_in c ≡ gs) → calls_in d ≡ gs → calls_in (if b then c else d) ≡ gs
either_calls true c d gs p q = p refl
either_calls false c d gs p q = q

mutual
  pub calls_kept : (called : ℕ → List (Option (List ℕ))) (b : BlockTerm) (k : Facts) → calls_in (swept called b k) ≡ calls_in b
  calls_kept called (Gives xs) k = refl
  calls_kept called (Bind xs s r b) k =
      let n = note_all k xs (right_facts called r k) in
      let c = swept called b n in
      let behind = used_in c in
      either_calls (is_removable r k && is_unused xs behind) c (Bind xs s (swept_right called r k) c) (calls_in_right r ++ calls_in b)
      (λ h. calls_kept called b n ∙ ap (λ gs. gs ++ calls_in b) (sym (no_calls r k (both_true (is_removable r k) (is_unused xs behind) h).0)))
      (λ i. calls_kept_right called r k i ++ calls_kept called b n i)

  calls_kept_right : (called : ℕ → List (Option (List ℕ))) (r : RightTerm) (k : Facts) → calls_in_right (swept_right called r k) ≡ calls_in_right r
  calls_kept_right called (Plain p) k = refl
  calls_kept_right called (RightTerm.If x a b) k = λ i. calls_kept called a k i ++ calls_kept called b k i
  calls_kept_right called (RightTerm.Loop first start params test body s) k = λ i. calls_kept called test (note_all k params []) i ++ calls_kept called body (note_all k params []) i
  calls_kept_right called (RightTerm.Call g xs) k = refl
  calls_kept_right called (RightTerm.With o gens) k = calls_kept_gens called gens k
  calls_kept_right called (RightTerm.Parted frame t c o parts) k = calls_kept_parts called parts k

  calls_kept_gens : (called : ℕ → List (Option (List ℕ))) (gs : GensTerm) (k : Facts) → calls_in_gens (swept_gens called gs k) ≡ calls_in_gens gs
  calls_kept_gens called NoGens k = refl
  calls_kept_gens called (Gen h b rest) k = λ i. calls_kept called b (note_all k (h.index ∷ h.names) []) i ++ calls_kept_gens called rest k i

  calls_kept_parts : (called : ℕ → List (Option (List ℕ))) (ps : PartsTerm) (k : Facts) → calls_in_parts (swept_parts called ps k) ≡ calls_in_parts ps
  calls_kept_parts called NoParts k = refl
  calls_kept_parts called (Part h b rest) k = λ i. calls_kept called b (in_part k h) i ++ calls_kept_parts called rest k i

-- ---- bound variables

either_sub : (b : Bool) (c d : BlockTerm) (ys : List Var) → Sub (bound_in c) ys → Sub (bound_in d) ys → Sub (bound_in (if b then c else d)) ys
either_sub true c d ys p q = p
either_sub false c d ys p q = q

mutual
  pub bound_less : (called : ℕ → List (Option (List ℕ))) (b : BlockTerm) (k : Facts) → Sub (bound_in (swept called b k)) (bound_in b)
  bound_less called (Gives xs) k = all_of []
  bound_less called (Bind xs s r b) k =
      let n = note_all k xs (right_facts called r k) in
      let c = swept called b n in
      let behind = used_in c in
      either_sub (is_removable r k && is_unused xs behind) c (Bind xs s (swept_right called r k) c) (xs ++ (bound_in_right r ++ bound_in b))
      (behind_all xs (behind_all (bound_in_right r) (bound_less called b n)))
      (joined (all_of xs) (joined (bound_less_right called r k) (bound_less called b n)))

  bound_less_right : (called : ℕ → List (Option (List ℕ))) (r : RightTerm) (k : Facts) → Sub (bound_in_right (swept_right called r k)) (bound_in_right r)
  bound_less_right called (Plain p) k = all_of []
  bound_less_right called (RightTerm.If x a b) k = joined (bound_less called a k) (bound_less called b k)
  bound_less_right called (RightTerm.Loop first start params test body s) k = joined (all_of params) (joined (bound_less called test (note_all k params [])) (bound_less called body (note_all k params [])))
  bound_less_right called (RightTerm.Call g xs) k = all_of []
  bound_less_right called (RightTerm.With o gens) k = bound_less_gens called gens k
  bound_less_right called (RightTerm.Parted frame t c o parts) k = bound_less_parts called parts k

  bound_less_gens : (called : ℕ → List (Option (List ℕ))) (gs : GensTerm) (k : Facts) → Sub (bound_in_gens (swept_gens called gs k)) (bound_in_gens gs)
  bound_less_gens called NoGens k = all_of []
  bound_less_gens called (Gen h b rest) k = joined (all_of (h.index ∷ h.names)) (joined (bound_less called b (note_all k (h.index ∷ h.names) [])) (bound_less_gens called rest k))

  bound_less_parts : (called : ℕ → List (Option (List ℕ))) (ps : PartsTerm) (k : Facts) → Sub (bound_in_parts (swept_parts called ps k)) (bound_in_parts ps)
  bound_less_parts called NoParts k = all_of []
  bound_less_parts called (Part h b rest) k = joined (all_of (h.index ∷ [])) (joined (bound_less called b (in_part k h)) (bound_less_parts called rest k))

grids_kept : (called : ℕ → List (Option (List ℕ))) (ps : PartsTerm) (k : Facts) → part_grids (swept_parts called ps k) ≡ part_grids ps
grids_kept called NoParts k = refl
grids_kept called (Part h b rest) k = ap (λ gs. h.grid ∷ gs) (grids_kept called rest k)

-- ---- scopes: what is used stays in scope

abbrev Within : List Var → List Var → Type 0
Within new scope = (y : Var) → is_in y new ≡ true → is_in y scope ≡ true

abbrev Serves : List Var → List Var → List Var → Type 0
Serves us scope new = (y : Var) → is_in y us ≡ true → is_in y scope ≡ true → is_in y new ≡ true

serves_left : (xs ys scope new : List Var) → Serves (xs ++ ys) scope new → Serves xs scope new
serves_left xs ys scope new h = λ y u p. h y (in_left y xs ys u) p

serves_right : (xs ys scope new : List Var) → Serves (xs ++ ys) scope new → Serves ys scope new
serves_right xs ys scope new h = λ y u p. h y (in_front y xs ys u) p

serves_below : (zs us scope new : List Var) → Serves us scope new → Serves us (zs ++ scope) (zs ++ new)
serves_below zs us scope new h = λ y u p. in_more y zs new ∙ go y u (is_in y zs) (sym (in_more y zs scope) ∙ p)
  where
    go : (y : Var) → is_in y us ≡ true → (b : Bool) → (b || is_in y scope) ≡ true → (b || is_in y new) ≡ true
    go y u true p = refl
    go y u false p = h y u p

within_below : (zs new scope : List Var) → Within new scope → Within (zs ++ new) (zs ++ scope)
within_below zs new scope h = λ y p. in_more y zs scope ∙ go y (is_in y zs) (sym (in_more y zs new) ∙ p)
  where
    go : (y : Var) (b : Bool) → (b || is_in y new) ≡ true → (b || is_in y scope) ≡ true
    go y true p = refl
    go y false p = h y p

all_served : (xs scope new : List Var) → Serves xs scope new → AllIn xs scope → AllIn xs new
all_served [] scope new h a = tt
all_served (x ∷ xs) scope new h a = (h x (itself x xs) a.0, all_served xs scope new (λ y u p. h y (behind_first y x xs u) p) a.1)

not_within : (x : Var) (new scope : List Var) → Within new scope → is_in x scope ≡ false → is_in x new ≡ false
not_within x new scope w n = go (is_in x new) refl
  where
    go : (b : Bool) → is_in x new ≡ b → is_in x new ≡ false
    go true e = clash (is_in x scope) (w x e) n
    go false e = e

none_within : (xs new scope : List Var) → Within new scope → NoneIn xs scope → NoneIn xs new
none_within [] new scope w n = tt
none_within (x ∷ xs) new scope w n = (not_within x new scope w n.0, none_within xs new scope w n.1)

-- what stands behind a binding that goes uses none of its variables
serves_without : (xs us scope new : List Var) → ((y : Var) → is_in y xs ≡ true → is_in y us ≡ false) → Serves us scope new → Serves us (xs ++ scope) new
serves_without xs us scope new n h = λ y u p. go y u (is_in y xs) refl (sym (in_more y xs scope) ∙ p)
  where
    go : (y : Var) → is_in y us ≡ true → (b : Bool) → is_in y xs ≡ b → (b || is_in y scope) ≡ true → is_in y new ≡ true
    go y u true e p = clash (is_in y us) u (n y e)
    go y u false e p = h y u p

either_scoped : (b : Bool) (c d : BlockTerm) (scope new : List Var) → Serves (used_in (if b then c else d)) scope new → (b ≡ true → Serves (used_in c) scope new → Scoped new c) → (Serves (used_in d) scope new → Scoped new d) → Scoped new (if b then c else d)
either_scoped true c d scope new h p q = p refl h
either_scoped false c d scope new h p q = q h

mutual
  pub scoped_kept : (called : ℕ → List (Option (List ℕ))) (b : BlockTerm) (k : Facts) (scope new : List Var) → Scoped scope b → Within new scope → Serves (used_in (swept called b k)) scope new → Scoped new (swept called b k)
  scoped_kept called (Gives xs) k scope new h w u = all_served xs scope new u h
  scoped_kept called (Bind xs s r b) k scope new h w u =
      let n = note_all k xs (right_facts called r k) in
      let c = swept called b n in
      let behind = used_in c in
      let t = is_removable r k && is_unused xs behind in
      either_scoped t c (Bind xs s (swept_right called r k) c) scope new u
      (λ m v. scoped_kept called b n (xs ++ scope) new h.2 (λ y p. in_front y xs scope (w y p))
      (serves_without xs (used_in c) scope new (λ y p. unused_by xs (used_in c) y (both_true (is_removable r k) (is_unused xs behind) m).1 p) v))
      (λ v. (
        scoped_kept_right called r k scope new h.0 w (serves_left (used_in_right (swept_right called r k)) (used_in c) scope new v),
        none_within xs new scope w h.1,
        scoped_kept called b n (xs ++ scope) (xs ++ new) h.2 (within_below xs new scope w) (serves_below xs (used_in c) scope new (serves_right (used_in_right (swept_right called r k)) (used_in c) scope new v)),
      ))

  scoped_kept_right : (called : ℕ → List (Option (List ℕ))) (r : RightTerm) (k : Facts) (scope new : List Var) → ScopedRight scope r → Within new scope → Serves (used_in_right (swept_right called r k)) scope new → ScopedRight new (swept_right called r k)
  scoped_kept_right called (Plain p) k scope new h w u = all_served (plain_uses p) scope new u h
  scoped_kept_right called (RightTerm.If x a b) k scope new h w u =
      let a' = used_in (swept called a k) in
      let b' = used_in (swept called b k) in
      let v = serves_right (x ∷ []) (a' ++ b') scope new u in (
        u x (itself x (a' ++ b')) h.0,
        scoped_kept called a k scope new h.1 w (serves_left a' b' scope new v),
        scoped_kept called b k scope new h.2 w (serves_right a' b' scope new v),
      )
  scoped_kept_right called (RightTerm.Loop first start params test body s) k scope new h w u =
      let t = used_in (swept called test (note_all k params [])) in
      let b = used_in (swept called body (note_all k params [])) in
      let v = serves_right start (t ++ b) scope new u in
      let inside = within_below params new scope w in (
        all_served start scope new (serves_left start (t ++ b) scope new u) h.0,
        none_within params new scope w h.1,
        scoped_kept called test (note_all k params []) (params ++ scope) (params ++ new) h.2 inside (serves_below params t scope new (serves_left t b scope new v)),
        scoped_kept called body (note_all k params []) (params ++ scope) (params ++ new) h.3 inside (serves_below params b scope new (serves_right t b scope new v)),
      )
  scoped_kept_right called (RightTerm.Call g xs) k scope new h w u = all_served xs scope new u h
  scoped_kept_right called (RightTerm.With o gens) k scope new h w u =
      let us = used_in_gens (swept_gens called gens k) in
      (all_served (op_uses o) scope new (serves_left (op_uses o) us scope new u) h.0, scoped_kept_gens called gens k scope new h.1 w (serves_right (op_uses o) us scope new u))
  scoped_kept_right called (RightTerm.Parted f t c o parts) k scope new h w u =
      let us = used_in_parts (swept_parts called parts k) in
      (all_served (parted_uses o) scope new (serves_left (parted_uses o) us scope new u) h.0, scoped_kept_parts called parts k scope new h.1 w (serves_right (parted_uses o) us scope new u))

  scoped_kept_gens : (called : ℕ → List (Option (List ℕ))) (gs : GensTerm) (k : Facts) (scope new : List Var) → ScopedGens scope gs → Within new scope → Serves (used_in_gens (swept_gens called gs k)) scope new → ScopedGens new (swept_gens called gs k)
  scoped_kept_gens called NoGens k scope new h w u = tt
  scoped_kept_gens called (Gen j b rest) k scope new h w u =
      let xs = j.index ∷ j.names in
      let c = used_in (swept called b (note_all k (j.index ∷ j.names) [])) in
      let us = used_in_gens (swept_gens called rest k) in
      let v = serves_right (head_uses j) (c ++ us) scope new u in (
        all_served (head_uses j) scope new (serves_left (head_uses j) (c ++ us) scope new u) h.0,
        none_within xs new scope w h.1,
        scoped_kept called b (note_all k (j.index ∷ j.names) []) (xs ++ scope) (xs ++ new) h.2 (within_below xs new scope w) (serves_below xs c scope new (serves_left c us scope new v)),
        scoped_kept_gens called rest k scope new h.3 w (serves_right c us scope new v),
      )

  scoped_kept_parts : (called : ℕ → List (Option (List ℕ))) (ps : PartsTerm) (k : Facts) (scope new : List Var) → ScopedParts scope ps → Within new scope → Serves (used_in_parts (swept_parts called ps k)) scope new → ScopedParts new (swept_parts called ps k)
  scoped_kept_parts called NoParts k scope new h w u = tt
  scoped_kept_parts called (Part j b rest) k scope new h w u =
      let c = used_in (swept called b (in_part k j)) in
      let us = used_in_parts (swept_parts called rest k) in (
        not_within j.index new scope w h.0,
        scoped_kept called b (in_part k j) (j.index ∷ scope) (j.index ∷ new) h.1 (within_below (j.index ∷ []) new scope w) (serves_below (j.index ∷ []) c scope new (serves_left c us scope new u)),
        scoped_kept_parts called rest k scope new h.2 w (serves_right c us scope new u),
      )

-- ---- bases: what is used keeps its base

abbrev Has : List Var → Bases → Bases → Type 0
Has us g new = (y : Var) (t : Base) → is_in y us ≡ true → base_of g y ≡ Some t → base_of new y ≡ Some t

has_left : (xs ys : List Var) (g new : Bases) → Has (xs ++ ys) g new → Has xs g new
has_left xs ys g new h = λ y t u p. h y t (in_left y xs ys u) p

has_right : (xs ys : List Var) (g new : Bases) → Has (xs ++ ys) g new → Has ys g new
has_right xs ys g new h = λ y t u p. h y t (in_front y xs ys u) p

has_one : (z : Var × Base) (g new : Bases) (us : List Var) → Has us g new → Has us (z ∷ g) (z ∷ new)
has_one z g new us h = λ y t u p. go y t u (eqb z.0.0 y.0) p
  where
    go : (y : Var) (t : Base) → is_in y us ≡ true → (b : Bool) → cond b (Some z.1) (base_of g y) ≡ Some t → cond b (Some z.1) (base_of new y) ≡ Some t
    go y t u true p = p
    go y t u false p = h y t u p

has_below : (zs g new : Bases) (us : List Var) → Has us g new → Has us (zs ++ g) (zs ++ new)
has_below [] g new us h = h
has_below (z ∷ zs) g new us h = has_one z (zs ++ g) (zs ++ new) us (has_below zs g new us h)

has_without : (xs : List Var) (ts : List Base) (us : List Var) (g new : Bases) → ((y : Var) → is_in y xs ≡ true → is_in y us ≡ false) → Has us g new → Has us (zip xs ts ++ g) new
has_without xs ts us g new n h = λ y t u p. go y t u p (is_in y xs) refl
  where
    go : (y : Var) (t : Base) → is_in y us ≡ true → base_of (zip xs ts ++ g) y ≡ Some t → (b : Bool) → is_in y xs ≡ b → base_of new y ≡ Some t
    go y t u p true e = clash (is_in y us) u (n y e)
    go y t u p false e = h y t u (sym (zip_elsewhere xs ts g y e) ∙ p)

-- the same one after another
abbrev HasEach : List Var → Bases → Bases → Type 0
HasEach [] g new = Unit {0}
HasEach (x ∷ xs) g new = ((t : Base) → base_of g x ≡ Some t → base_of new x ≡ Some t) × HasEach xs g new

each_has : (us : List Var) (g new : Bases) → Has us g new → HasEach us g new
each_has [] g new h = tt
each_has (x ∷ xs) g new h = (λ t p. h x t (itself x xs) p, each_has xs g new (λ y t u p. h y t (behind_first y x xs u) p))

module _ (g new : Bases) where
  bases_kept : (xs : List Var) (ts : List Base) → HasEach xs g new → HasBases g xs ts → HasBases new xs ts
  bases_kept [] [] k h = tt
  bases_kept (x ∷ xs) (t ∷ ts) k h = (k.0 t h.0, bases_kept xs ts k.1 h.1)
  bases_kept [] (t ∷ ts) k h = absurd h
  bases_kept (x ∷ xs) [] k h = absurd h

  all_kept : (xs : List Var) (t : Base) → HasEach xs g new → AllHave g xs t → AllHave new xs t
  all_kept [] t k h = tt
  all_kept (x ∷ xs) t k h = (k.0 t h.0, all_kept xs t k.1 h.1)

  option_kept : (x : Option Var) (t : Base) → Has (option_to_list x) g new → OptionHas g x t → OptionHas new x t
  option_kept None t k h = tt
  option_kept (Some x) t k h = k x t (itself x []) h

  literal_kept : (xs : List Var) (t : Base) → HasEach xs g new → LiteralBase g xs t → LiteralBase new xs t
  literal_kept [] t k h = h
  literal_kept (x ∷ xs) t k h = all_kept (x ∷ xs) t k h

  plain_kept : (p : PlainTerm) (ts : List Base) → HasEach (plain_uses p) g new → PlainBases g p ts → PlainBases new p ts
  plain_kept (PlainTerm.Const a) ts k h = h
  plain_kept (PlainTerm.Copy x) ts k h = (h.0, k.0 h.0 h.1, h.2)
  plain_kept (PlainTerm.Unary o x) ts k h = (h.0, (h.1.0, k.0 h.0 h.1.1, h.1.2, h.1.3))
  plain_kept (PlainTerm.Binary o x y) ts k h = (h.0, (h.1.0, k.0 h.0 h.1.1, k.1.0 h.0 h.1.2, h.1.3, h.1.4))
  plain_kept (PlainTerm.Literal xs) ts k h = (h.0, literal_kept xs h.0 k h.1, h.2)
  plain_kept (PlainTerm.Dim x) ts k h = (h.0, k.0 h.0 h.1, h.2)
  plain_kept (PlainTerm.ShapeOf x) ts k h = (h.0, k.0 h.0 h.1, h.2)
  plain_kept (PlainTerm.Reshape x y) ts k h = (h.0, k.0 Int h.1, k.1.0 h.0 h.2, h.3)
  plain_kept (PlainTerm.Select x y) ts k h = (h.0, k.0 h.0 h.1, k.1.0 Int h.2, h.3)
  plain_kept (PlainTerm.Replace x y z) ts k h = (h.0, k.0 h.0 h.1, k.1.0 Int h.2, k.1.1.0 h.0 h.3, h.4)
  plain_kept (PlainTerm.Always kind) ts k h = tt
  plain_kept (PlainTerm.Check x ty) ts k h = (k.0 ty.base h.0, h.1)

  operation_kept : (o : CoreOp) (t : Base) → HasEach (op_uses o) g new → OperationBase g o t → OperationBase new o t
  operation_kept (making.Genarray x y) t k h = (k.0 Int h.0, k.1.0 t h.1)
  operation_kept (making.Modarray x) t k h = k.0 t h
  operation_kept (making.Fold o x) t k h = (k.0 t h.0, h.1)

  parted_kept : (o : PartedOp) (t : Base) → HasEach (parted_uses o) g new → PartedBase g o t → PartedBase new o t
  parted_kept parted.Genarray t k h = tt
  parted_kept (parted.Modarray x) t k h = k.0 t h
  parted_kept (parted.Fold o x) t k h = (k.0 t h.0, h.1)

module _ (core : CoreTerm) where
  either_based : (b : Bool) (c d : BlockTerm) (g new : Bases) (ts : List Base) → Has (used_in (if b then c else d)) g new → (b ≡ true → Has (used_in c) g new → BlockBases core new c ts) → (Has (used_in d) g new → BlockBases core new d ts) → BlockBases core new (if b then c else d) ts
  either_based true c d g new ts h p q = p refl h
  either_based false c d g new ts h p q = q h

  mutual
    pub block_kept : (called : ℕ → List (Option (List ℕ))) (b : BlockTerm) (k : Facts) (g new : Bases) (ts : List Base) → BlockBases core g b ts → Has (used_in (swept called b k)) g new → BlockBases core new (swept called b k) ts
    block_kept called (Gives xs) k g new ts h u = bases_kept g new xs ts (each_has xs g new u) h
    block_kept called (Bind xs s r b) k g new ts h u =
        let n = note_all k xs (right_facts called r k) in
        let c = swept called b n in
        let behind = used_in c in
        let t = is_removable r k && is_unused xs behind in
        either_based t c (Bind xs s (swept_right called r k) c) g new ts u
        (λ m v. block_kept called b n (zip xs h.0 ++ g) new ts h.1.2
        (has_without xs h.0 (used_in c) g new (λ y p. unused_by xs (used_in c) y (both_true (is_removable r k) (is_unused xs behind) m).1 p) v))
        (λ v. (
          h.0,
          (
            right_kept called r k g new h.0 h.1.0 (has_left (used_in_right (swept_right called r k)) (used_in c) g new v),
            h.1.1,
            block_kept called b n (zip xs h.0 ++ g) (zip xs h.0 ++ new) ts h.1.2 (has_below (zip xs h.0) g new (used_in c) (has_right (used_in_right (swept_right called r k)) (used_in c) g new v)),
          ),
        ))

    right_kept : (called : ℕ → List (Option (List ℕ))) (r : RightTerm) (k : Facts) (g new : Bases) (ts : List Base) → RightBases core g r ts → Has (used_in_right (swept_right called r k)) g new → RightBases core new (swept_right called r k) ts
    right_kept called (Plain p) k g new ts h u = plain_kept g new p ts (each_has (plain_uses p) g new u) h
    right_kept called (RightTerm.If x a b) k g new ts h u =
        let a' = used_in (swept called a k) in
        let b' = used_in (swept called b k) in
        let v = has_right (x ∷ []) (a' ++ b') g new u in (
          u x Truth (itself x (a' ++ b')) h.0,
          block_kept called a k g new ts h.1 (has_left a' b' g new v),
          block_kept called b k g new ts h.2 (has_right a' b' g new v),
        )
    right_kept called (RightTerm.Loop first start params test body s) k g new ts h u =
        let t = used_in (swept called test (note_all k params [])) in
        let b = used_in (swept called body (note_all k params [])) in
        let v = has_right start (t ++ b) g new u in (
          bases_kept g new start ts (each_has start g new (has_left start (t ++ b) g new u)) h.0,
          h.1,
          block_kept called test (note_all k params []) (zip params ts ++ g) (zip params ts ++ new) (Truth ∷ []) h.2 (has_below (zip params ts) g new t (has_left t b g new v)),
          block_kept called body (note_all k params []) (zip params ts ++ g) (zip params ts ++ new) ts h.3 (has_below (zip params ts) g new b (has_right t b g new v)),
        )
    right_kept called (RightTerm.Call group xs) k g new ts h u = (h.0, (bases_kept g new xs h.0 (each_has xs g new u) h.1.0, h.1.1))
    right_kept called (RightTerm.With o gens) k g new ts h u =
        let us = used_in_gens (swept_gens called gens k) in (
          h.0,
          (
            operation_kept g new o h.0 (each_has (op_uses o) g new (has_left (op_uses o) us g new u)) h.1.0,
            gens_kept called gens k g new h.0 h.1.1 (has_right (op_uses o) us g new u),
            h.1.2,
          ),
        )
    right_kept called (RightTerm.Parted frame t cell o parts) k g new ts h u =
        let us = used_in_parts (swept_parts called parts k) in (
          parted_kept g new o t (each_has (parted_uses o) g new (has_left (parted_uses o) us g new u)) h.0,
          parts_kept called parts k g new t h.1 (has_right (parted_uses o) us g new u),
          subst (λ gs. PartedFits o frame cell gs) (sym (grids_kept called parts k)) h.2,
          h.3,
        )

    gens_kept : (called : ℕ → List (Option (List ℕ))) (gs : GensTerm) (k : Facts) (g new : Bases) (t : Base) → GensBases core g gs t → Has (used_in_gens (swept_gens called gs k)) g new → GensBases core new (swept_gens called gs k) t
    gens_kept called NoGens k g new t h u = tt
    gens_kept called (Gen j b rest) k g new t h u =
        let xs = j.index ∷ j.names in
        let c = used_in (swept called b (note_all k (j.index ∷ j.names) [])) in
        let us = used_in_gens (swept_gens called rest k) in
        let v = has_right (head_uses j) (c ++ us) g new u in
        let low = option_to_list j.lower in
        let up = option_to_list j.upper in
        let step = option_to_list j.step in
        let width = option_to_list j.width in
        let heads = has_left (low ++ (up ++ (step ++ width))) (c ++ us) g new u in
        let heads' = has_right low (up ++ (step ++ width)) g new heads in
        let heads'' = has_right up (step ++ width) g new heads' in (
          option_kept g new j.lower Int (has_left low (up ++ (step ++ width)) g new heads) h.0,
          option_kept g new j.upper Int (has_left up (step ++ width) g new heads') h.1,
          option_kept g new j.step Int (has_left step width g new heads'') h.2,
          option_kept g new j.width Int (has_right step width g new heads'') h.3,
          block_kept called b (note_all k (j.index ∷ j.names) []) (ints xs ++ g) (ints xs ++ new) (t ∷ []) h.4 (has_below (ints xs) g new c (has_left c us g new v)),
          gens_kept called rest k g new t h.5 (has_right c us g new v),
        )

    parts_kept : (called : ℕ → List (Option (List ℕ))) (ps : PartsTerm) (k : Facts) (g new : Bases) (t : Base) → PartsBases core g ps t → Has (used_in_parts (swept_parts called ps k)) g new → PartsBases core new (swept_parts called ps k) t
    parts_kept called NoParts k g new t h u = tt
    parts_kept called (Part j b rest) k g new t h u =
        let c = used_in (swept called b (in_part k j)) in
        let us = used_in_parts (swept_parts called rest k) in (
          block_kept called b (in_part k j) ((j.index, Int) ∷ g) ((j.index, Int) ∷ new) (t ∷ []) h.0 (has_below ((j.index, Int) ∷ []) g new c (has_left c us g new u)),
          parts_kept called rest k g new t h.1 (has_right c us g new u),
        )
