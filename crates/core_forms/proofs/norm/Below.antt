-- Tables that have the bases of the variables below a number.
use Rattle.std.proofs.Common.{◌≡◌, ℕ, ◌<◌, ◌≤◌, true, List, [], ◌∷◌, ◌++◌, map, refl, sym, subst, ◌∙◌, ◌⊎◌, inl, inr, arith}
use Rattle.std.specs.Prelude.{zip}
use Rattle.std.proofs.lemmas.Bool.{cases_lt}
use Rattle.sac_base.specs.declared.base.Base.{Base}
use Rattle.sac_base.specs.declared.base.Base.TheVariants.{Int, Bool as Truth}
use Rattle.core_ir.specs.declared.tree.Var.{Var}
use Rattle.core_ir.specs.Binders.{is_in, bound_in, bound_in_right, bound_in_gens, bound_in_parts}
use Rattle.core_ir.specs.Terms.{BlockTerm, RightTerm, GensTerm, PartsTerm, CoreTerm, Gives, Bind, Plain, NoGens, Gen, NoParts, Part}
use Rattle.core_ir.specs.WellFormed.{Bases, ints, GroupBases, BlockBases, RightBases, GensBases, PartsBases}
use Rattle.core_loops.specs.norm_steps.Step.{BaseTable, Within, AllNumbers, Follows, FollowsRight, FollowsGens, FollowsParts}
use Rattle.core_forms.proofs.inlined_bodies.Names.{in_left, itself, behind_first}
use Rattle.core_forms.proofs.norm.Scopes.{in_right}

-- a variable below the number has the table's base
abbrev pub Old : ℕ → BaseTable → Var → Base → Type 0
Old n m x t = x.0 < n → t ≡ m x

abbrev pub AllOld : ℕ → BaseTable → List Var → List Base → Type 0
AllOld n m [] ts = Unit {0}
AllOld n m (x ∷ xs) [] = Unit {0}
AllOld n m (x ∷ xs) (t ∷ ts) = Old n m x t × AllOld n m xs ts

abbrev pub OldNumbers : ℕ → BaseTable → List Var → Type 0
OldNumbers n m [] = Unit {0}
OldNumbers n m (x ∷ xs) = Old n m x Int × OldNumbers n m xs

-- where bases agree, those of variables below the number are the table's
module _ (core : CoreTerm) (n : ℕ) (m : BaseTable) where
  abbrev mutual
    pub OldBases : (b : BlockTerm) (g : Bases) (ts : List Base) → BlockBases core g b ts → Type 0
    OldBases (Gives xs) g ts d = Unit {0}
    OldBases (Bind xs s r b) g ts d = AllOld n m xs d.0 × OldRight r g d.0 d.1.0 × OldBases b (zip xs d.0 ++ g) ts d.1.2

    pub OldRight : (r : RightTerm) (g : Bases) (ts : List Base) → RightBases core g r ts → Type 0
    OldRight (Plain p) g ts d = Unit {0}
    OldRight (RightTerm.If x a b) g ts d = OldBases a g ts d.1 × OldBases b g ts d.2
    OldRight (RightTerm.Loop first start params test body s) g ts d =
        AllOld n m params ts × OldBases test (zip params ts ++ g) (Truth ∷ []) d.2 × OldBases body (zip params ts ++ g) ts d.3
    OldRight (RightTerm.Call group xs) g ts d = Unit {0}
    OldRight (RightTerm.With o gens) g ts d = OldGens gens g d.0 d.1.1
    OldRight (RightTerm.Parted frame t cell o parts) g ts d = OldParts parts g t d.1

    pub OldGens : (r : GensTerm) (g : Bases) (t : Base) → GensBases core g r t → Type 0
    OldGens NoGens g t d = Unit {0}
    OldGens (Gen h b rest) g t d = OldNumbers n m (h.index ∷ h.names) × OldBases b (ints (h.index ∷ h.names) ++ g) (t ∷ []) d.4 × OldGens rest g t d.5

    pub OldParts : (r : PartsTerm) (g : Bases) (t : Base) → PartsBases core g r t → Type 0
    OldParts NoParts g t d = Unit {0}
    OldParts (Part h b rest) g t d = Old n m h.index Int × OldBases b ((h.index, Int) ∷ g) (t ∷ []) d.0 × OldParts rest g t d.1

-- ---- in another core, of whose groups the bases are the same

module _ (n : ℕ) (m : BaseTable) where
  own_bases : (xs : List Var) → AllOld n m xs (map m xs)
  own_bases [] = tt
  own_bases (x ∷ xs) = ((λ l. refl), own_bases xs)

  pub olds : (xs : List Var) (ts : List Base) → ts ≡ map m xs → AllOld n m xs ts
  olds xs ts p = subst (AllOld n m xs) (sym p) (own_bases xs)

  pub old_numbers : (xs : List Var) → AllNumbers m xs → OldNumbers n m xs
  old_numbers [] h = tt
  old_numbers (x ∷ xs) h = ((λ l. h.0), old_numbers xs h.1)

  module _ (core next : CoreTerm) (into : (group : ℕ) (us ts : List Base) → GroupBases core group us ts → GroupBases next group us ts) where
    mutual
      pub moved : (b : BlockTerm) (g : Bases) (ts : List Base) (d : BlockBases core g b ts) → Follows core m b g ts d → (e : BlockBases next g b ts) × OldBases next n m b g ts e
      moved (Gives xs) g ts d f = (d, tt)
      moved (Bind xs s r b) g ts d f =
          let u = moved_right r g d.0 d.1.0 f.1 in
          let v = moved b (zip xs d.0 ++ g) ts d.1.2 f.2 in
          ((d.0, (u.0, d.1.1, v.0)), (olds xs d.0 f.0, u.1, v.1))

      pub moved_right : (r : RightTerm) (g : Bases) (ts : List Base) (d : RightBases core g r ts) → FollowsRight core m r g ts d → (e : RightBases next g r ts) × OldRight next n m r g ts e
      moved_right (Plain p) g ts d f = (d, tt)
      moved_right (RightTerm.If x a b) g ts d f =
          let u = moved a g ts d.1 f.0 in
          let v = moved b g ts d.2 f.1 in
          ((d.0, u.0, v.0), (u.1, v.1))
      moved_right (RightTerm.Loop first start params test body s) g ts d f =
          let u = moved test (zip params ts ++ g) (Truth ∷ []) d.2 f.1 in
          let v = moved body (zip params ts ++ g) ts d.3 f.2 in
          ((d.0, d.1, u.0, v.0), (olds params ts f.0, u.1, v.1))
      moved_right (RightTerm.Call group xs) g ts d f = ((d.0, (d.1.0, into group d.0 ts d.1.1)), tt)
      moved_right (RightTerm.With o gens) g ts d f = let u = moved_gens gens g d.0 d.1.1 f in ((d.0, (d.1.0, u.0, d.1.2)), u.1)
      moved_right (RightTerm.Parted frame t cell o parts) g ts d f = let u = moved_parts parts g t d.1 f in ((d.0, u.0, d.2, d.3), u.1)

      pub moved_gens : (r : GensTerm) (g : Bases) (t : Base) (d : GensBases core g r t) → FollowsGens core m r g t d → (e : GensBases next g r t) × OldGens next n m r g t e
      moved_gens NoGens g t d f = (tt, tt)
      moved_gens (Gen h b rest) g t d f =
          let u = moved b (ints (h.index ∷ h.names) ++ g) (t ∷ []) d.4 f.1 in
          let v = moved_gens rest g t d.5 f.2 in
          ((d.0, d.1, d.2, d.3, u.0, v.0), (old_numbers (h.index ∷ h.names) f.0, u.1, v.1))

      pub moved_parts : (r : PartsTerm) (g : Bases) (t : Base) (d : PartsBases core g r t) → FollowsParts core m r g t d → (e : PartsBases next g r t) × OldParts next n m r g t e
      moved_parts NoParts g t d f = (tt, tt)
      moved_parts (Part h b rest) g t d f =
          let u = moved b ((h.index, Int) ∷ g) (t ∷ []) d.0 f.1 in
          let v = moved_parts rest g t d.1 f.2 in
          ((u.0, v.0), ((λ l. f.0), u.1, v.1))

-- ---- where all variables are new

-- no variable of the list is below the number
abbrev pub AllNew : ℕ → List Var → Type 0
AllNew n xs = (y : Var) → is_in y xs ≡ true → n ≤ y.0

not_both : (n k : ℕ) → n ≤ k → k < n → ⊥
not_both n k p q = omega arith

module _ (n : ℕ) where
  new_left : (xs ys : List Var) → AllNew n (xs ++ ys) → AllNew n xs
  new_left xs ys h = λ y p. h y (in_left y xs ys p)

  new_right : (xs ys : List Var) → AllNew n (xs ++ ys) → AllNew n ys
  new_right xs ys h = λ y p. h y (in_right y xs ys p)

  module _ (m : BaseTable) where
    new_olds : (xs : List Var) (ts : List Base) → AllNew n xs → AllOld n m xs ts
    new_olds [] ts h = tt
    new_olds (x ∷ xs) [] h = tt
    new_olds (x ∷ xs) (t ∷ ts) h = ((λ l. absurd (not_both n x.0 (h x (itself x xs)) l)), new_olds xs ts (λ y p. h y (behind_first y x xs p)))

    new_numbers : (xs : List Var) → AllNew n xs → OldNumbers n m xs
    new_numbers [] h = tt
    new_numbers (x ∷ xs) h = ((λ l. absurd (not_both n x.0 (h x (itself x xs)) l)), new_numbers xs (λ y p. h y (behind_first y x xs p)))

    module _ (core : CoreTerm) where
      mutual
        pub all_new : (b : BlockTerm) (g : Bases) (ts : List Base) (d : BlockBases core g b ts) → AllNew n (bound_in b) → OldBases core n m b g ts d
        all_new (Gives xs) g ts d h = tt
        all_new (Bind xs s r b) g ts d h =
            let rest = new_right xs (bound_in_right r ++ bound_in b) h in (
              new_olds xs d.0 (new_left xs (bound_in_right r ++ bound_in b) h),
              all_new_right r g d.0 d.1.0 (new_left (bound_in_right r) (bound_in b) rest),
              all_new b (zip xs d.0 ++ g) ts d.1.2 (new_right (bound_in_right r) (bound_in b) rest),
            )

        pub all_new_right : (r : RightTerm) (g : Bases) (ts : List Base) (d : RightBases core g r ts) → AllNew n (bound_in_right r) → OldRight core n m r g ts d
        all_new_right (Plain p) g ts d h = tt
        all_new_right (RightTerm.If x a b) g ts d h = (all_new a g ts d.1 (new_left (bound_in a) (bound_in b) h), all_new b g ts d.2 (new_right (bound_in a) (bound_in b) h))
        all_new_right (RightTerm.Loop first start params test body s) g ts d h =
            let rest = new_right params (bound_in test ++ bound_in body) h in (
              new_olds params ts (new_left params (bound_in test ++ bound_in body) h),
              all_new test (zip params ts ++ g) (Truth ∷ []) d.2 (new_left (bound_in test) (bound_in body) rest),
              all_new body (zip params ts ++ g) ts d.3 (new_right (bound_in test) (bound_in body) rest),
            )
        all_new_right (RightTerm.Call group xs) g ts d h = tt
        all_new_right (RightTerm.With o gens) g ts d h = all_new_gens gens g d.0 d.1.1 h
        all_new_right (RightTerm.Parted frame t cell o parts) g ts d h = all_new_parts parts g t d.1 h

        pub all_new_gens : (r : GensTerm) (g : Bases) (t : Base) (d : GensBases core g r t) → AllNew n (bound_in_gens r) → OldGens core n m r g t d
        all_new_gens NoGens g t d h = tt
        all_new_gens (Gen j b rest) g t d h =
            let xs = j.index ∷ j.names in
            let more = new_right xs (bound_in b ++ bound_in_gens rest) h in (
              new_numbers xs (new_left xs (bound_in b ++ bound_in_gens rest) h),
              all_new b (ints xs ++ g) (t ∷ []) d.4 (new_left (bound_in b) (bound_in_gens rest) more),
              all_new_gens rest g t d.5 (new_right (bound_in b) (bound_in_gens rest) more),
            )

        pub all_new_parts : (r : PartsTerm) (g : Bases) (t : Base) (d : PartsBases core g r t) → AllNew n (bound_in_parts r) → OldParts core n m r g t d
        all_new_parts NoParts g t d h = tt
        all_new_parts (Part j b rest) g t d h =
            let xs = j.index ∷ [] in
            let more = new_right xs (bound_in b ++ bound_in_parts rest) h in (
              (λ l. absurd (not_both n j.index.0 (h j.index (itself j.index (bound_in b ++ bound_in_parts rest))) l)),
              all_new b ((j.index, Int) ∷ g) (t ∷ []) d.0 (new_left (bound_in b) (bound_in_parts rest) more),
              all_new_parts rest g t d.1 (new_right (bound_in b) (bound_in_parts rest) more),
            )

-- ---- two tables

abbrev chosen : {A B : Type 0} → A ⊎ B → Base → Base → Base
chosen (inl p) t u = t
chosen (inr p) t u = u

-- the one table below the number, the other from it on
abbrev pub joined : ℕ → BaseTable → BaseTable → BaseTable
joined n m k x = chosen (cases_lt x.0 n) (m x) (k x)

module _ (n : ℕ) (m k : BaseTable) where
  pub joined_one : (x : Var) (t : Base) → Old n m x t → t ≡ k x → t ≡ joined n m k x
  joined_one x t f p = go (cases_lt x.0 n)
    where
      go : (w : (x.0 < n) ⊎ (n ≤ x.0)) → t ≡ chosen w (m x) (k x)
      go (inl l) = f l
      go (inr l) = p

  pub joined_low : (x : Var) → x.0 < n → joined n m k x ≡ m x
  joined_low x l = go (cases_lt x.0 n)
    where
      go : (w : (x.0 < n) ⊎ (n ≤ x.0)) → chosen w (m x) (k x) ≡ m x
      go (inl p) = refl
      go (inr p) = absurd (not_both n x.0 p l)

  joined_bases : (xs : List Var) → AllOld n m xs (map k xs) → map k xs ≡ map (joined n m k) xs
  joined_bases [] h = refl
  joined_bases (x ∷ xs) h = λ i. joined_one x (k x) h.0 refl i ∷ joined_bases xs h.1 i

  joined_all : (xs : List Var) (ts : List Base) → AllOld n m xs ts → ts ≡ map k xs → ts ≡ map (joined n m k) xs
  joined_all xs ts h p = p ∙ joined_bases xs (subst (AllOld n m xs) p h)

  joined_numbers : (xs : List Var) → OldNumbers n m xs → AllNumbers k xs → AllNumbers (joined n m k) xs
  joined_numbers [] h p = tt
  joined_numbers (x ∷ xs) h p = (joined_one x Int h.0 p.0, joined_numbers xs h.1 p.1)

  pub joined_within : (g : Bases) → Within m g → Within k g → Within (joined n m k) g
  joined_within g p q x t h = joined_one x t (λ l. p x t h) (q x t h)

  module _ (core : CoreTerm) where
    mutual
      pub joined_follows : (b : BlockTerm) (g : Bases) (ts : List Base) (d : BlockBases core g b ts) → OldBases core n m b g ts d → Follows core k b g ts d → Follows core (joined n m k) b g ts d
      joined_follows (Gives xs) g ts d h f = tt
      joined_follows (Bind xs s r b) g ts d h f =
          (joined_all xs d.0 h.0 f.0, joined_right r g d.0 d.1.0 h.1 f.1, joined_follows b (zip xs d.0 ++ g) ts d.1.2 h.2 f.2)

      joined_right : (r : RightTerm) (g : Bases) (ts : List Base) (d : RightBases core g r ts) → OldRight core n m r g ts d → FollowsRight core k r g ts d → FollowsRight core (joined n m k) r g ts d
      joined_right (Plain p) g ts d h f = tt
      joined_right (RightTerm.If x a b) g ts d h f = (joined_follows a g ts d.1 h.0 f.0, joined_follows b g ts d.2 h.1 f.1)
      joined_right (RightTerm.Loop first start params test body s) g ts d h f =
          (joined_all params ts h.0 f.0, joined_follows test (zip params ts ++ g) (Truth ∷ []) d.2 h.1 f.1, joined_follows body (zip params ts ++ g) ts d.3 h.2 f.2)
      joined_right (RightTerm.Call group xs) g ts d h f = tt
      joined_right (RightTerm.With o gens) g ts d h f = joined_gens gens g d.0 d.1.1 h f
      joined_right (RightTerm.Parted frame t cell o parts) g ts d h f = joined_parts parts g t d.1 h f

      joined_gens : (r : GensTerm) (g : Bases) (t : Base) (d : GensBases core g r t) → OldGens core n m r g t d → FollowsGens core k r g t d → FollowsGens core (joined n m k) r g t d
      joined_gens NoGens g t d h f = tt
      joined_gens (Gen j b rest) g t d h f =
          (joined_numbers (j.index ∷ j.names) h.0 f.0, joined_follows b (ints (j.index ∷ j.names) ++ g) (t ∷ []) d.4 h.1 f.1, joined_gens rest g t d.5 h.2 f.2)

      joined_parts : (r : PartsTerm) (g : Bases) (t : Base) (d : PartsBases core g r t) → OldParts core n m r g t d → FollowsParts core k r g t d → FollowsParts core (joined n m k) r g t d
      joined_parts NoParts g t d h f = tt
      joined_parts (Part j b rest) g t d h f =
          (joined_one j.index Int h.0 f.0, joined_follows b ((j.index, Int) ∷ g) (t ∷ []) d.0 h.1 f.1, joined_parts rest g t d.1 h.2 f.2)
