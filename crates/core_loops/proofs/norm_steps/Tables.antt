-- Each function whose bases agree has a table of bases.
use Rattle.std.proofs.Common.{◌≡◌, ℕ, Bool, true, false, ◌||◌, cond, eqb, List, [], ◌∷◌, ◌++◌, map, length, Option, Some, None, refl, sym, ap, subst, ◌∙◌, arith}
use Rattle.std.specs.Prelude.{zip, unwrap_or}
use Rattle.std.proofs.lemmas.Bool.{eq-eqb}
use Rattle.sac_base.specs.declared.base.Base.{Base}
use Rattle.sac_base.specs.declared.base.Base.TheVariants.{Int, Bool as Truth}
use Rattle.sac_base.specs.declared.types.ArrayType.{ArrayType}
use Rattle.core_ir.specs.declared.tree.Var.{Var}
use Rattle.core_ir.specs.Binders.{is_in, bound_in, bound_in_right, bound_in_gens, bound_in_parts}
use Rattle.core_ir.specs.Outcome.{param_vars}
use Rattle.core_ir.specs.Terms.{BlockTerm, RightTerm, GensTerm, PartsTerm, FunTerm, CoreTerm, Gives, Bind, Plain, With, NoGens, Gen, NoParts, Part}
use Rattle.core_ir.specs.WellFormed.{Bases, base_of, BlockBases, RightBases, GensBases, PartsBases, ints, Distinct, IsFunction, bases, param_bases}
use Rattle.core_ir.proofs.Variables.{same_number}
use Rattle.core_loops.specs.norm_steps.Step.{BaseTable, Within, AllNumbers, Follows, FollowsRight, FollowsGens, FollowsParts}

abbrev names : Bases → List Var
names ps = map (λ (p : Var × Base). p.0) ps

abbrev Agrees : BaseTable → Bases → Type 0
Agrees m [] = Unit {0}
Agrees m (p ∷ ps) = (m p.0 ≡ p.1) × Agrees m ps

names_append : (ps qs : Bases) → names (ps ++ qs) ≡ names ps ++ names qs
names_append [] qs = refl
names_append (p ∷ ps) qs = λ i. p.0 ∷ names_append ps qs i

left : (m : BaseTable) (ps qs : Bases) → Agrees m (ps ++ qs) → Agrees m ps
left m [] qs h = tt
left m (p ∷ ps) qs h = (h.0, left m ps qs h.1)

right : (m : BaseTable) (ps qs : Bases) → Agrees m (ps ++ qs) → Agrees m qs
right m [] qs h = h
right m (p ∷ ps) qs h = right m ps qs h.1

zip_names : (xs : List Var) (us : List Base) → length xs ≡ length us → names (zip xs us) ≡ xs
zip_names [] us l = refl
zip_names (x ∷ xs) [] l = absurd (omega (arith, l))
zip_names (x ∷ xs) (u ∷ us) l = λ i. x ∷ zip_names xs us (omega (arith, l)) i

zip_agrees : (m : BaseTable) (xs : List Var) (us : List Base) → length xs ≡ length us → Agrees m (zip xs us) → us ≡ map m xs
zip_agrees m [] [] l h = refl
zip_agrees m [] (u ∷ us) l h = absurd (omega (arith, l))
zip_agrees m (x ∷ xs) [] l h = absurd (omega (arith, l))
zip_agrees m (x ∷ xs) (u ∷ us) l h = λ i. sym h.0 i ∷ zip_agrees m xs us (omega (arith, l)) h.1 i

ints_names : (xs : List Var) → names (ints xs) ≡ xs
ints_names [] = refl
ints_names (x ∷ xs) = λ i. x ∷ ints_names xs i

ints_agree : (m : BaseTable) (xs : List Var) → Agrees m (ints xs) → AllNumbers m xs
ints_agree m [] h = tt
ints_agree m (x ∷ xs) h = (sym h.0, ints_agree m xs h.1)

-- the bases of all variables of a term
module _ (core : CoreTerm) where
  abbrev mutual
    collect : (b : BlockTerm) (g : Bases) (ts : List Base) → BlockBases core g b ts → Bases
    collect (Gives xs) g ts d = []
    collect (Bind xs s r b) g ts d = zip xs d.0 ++ (collect_right r g d.0 d.1.0 ++ collect b (zip xs d.0 ++ g) ts d.1.2)

    collect_right : (r : RightTerm) (g : Bases) (ts : List Base) → RightBases core g r ts → Bases
    collect_right (Plain p) g ts d = []
    collect_right (RightTerm.If x a b) g ts d = collect a g ts d.1 ++ collect b g ts d.2
    collect_right (RightTerm.Loop fb start params test body s) g ts d = zip params ts ++ (collect test (zip params ts ++ g) (Truth ∷ []) d.2 ++ collect body (zip params ts ++ g) ts d.3)
    collect_right (RightTerm.Call group xs) g ts d = []
    collect_right (RightTerm.With o gens) g ts d = collect_gens gens g d.0 d.1.1
    collect_right (RightTerm.Parted frame t cell o parts) g ts d = collect_parts parts g t d.1

    collect_gens : (r : GensTerm) (g : Bases) (t : Base) → GensBases core g r t → Bases
    collect_gens NoGens g t d = []
    collect_gens (Gen h b rest) g t d = ints (h.index ∷ h.names) ++ (collect b (ints (h.index ∷ h.names) ++ g) (t ∷ []) d.4 ++ collect_gens rest g t d.5)

    collect_parts : (r : PartsTerm) (g : Bases) (t : Base) → PartsBases core g r t → Bases
    collect_parts NoParts g t d = []
    collect_parts (Part h b rest) g t d = ((h.index, Int) ∷ []) ++ (collect b ((h.index, Int) ∷ g) (t ∷ []) d.0 ++ collect_parts rest g t d.1)

  three : (ps qs rs : Bases) (xs ys zs : List Var) → names ps ≡ xs → names qs ≡ ys → names rs ≡ zs → names (ps ++ (qs ++ rs)) ≡ xs ++ (ys ++ zs)
  three ps qs rs xs ys zs p q r = names_append ps (qs ++ rs) ∙ ap (λ x. names ps ++ x) (names_append qs rs) ∙ (λ i. p i ++ (q i ++ r i))

  mutual
    collected : (b : BlockTerm) (g : Bases) (ts : List Base) (d : BlockBases core g b ts) → names (collect b g ts d) ≡ bound_in b
    collected (Gives xs) g ts d = refl
    collected (Bind xs s r b) g ts d = three (zip xs d.0) (collect_right r g d.0 d.1.0) (collect b (zip xs d.0 ++ g) ts d.1.2) xs (bound_in_right r) (bound_in b) (zip_names xs d.0 d.1.1) (collected_right r g d.0 d.1.0) (collected b (zip xs d.0 ++ g) ts d.1.2)

    collected_right : (r : RightTerm) (g : Bases) (ts : List Base) (d : RightBases core g r ts) → names (collect_right r g ts d) ≡ bound_in_right r
    collected_right (Plain p) g ts d = refl
    collected_right (RightTerm.If x a b) g ts d = names_append (collect a g ts d.1) (collect b g ts d.2) ∙ (λ i. collected a g ts d.1 i ++ collected b g ts d.2 i)
    collected_right (RightTerm.Loop fb start params test body s) g ts d =
        three (zip params ts) (collect test (zip params ts ++ g) (Truth ∷ []) d.2) (collect body (zip params ts ++ g) ts d.3) params (bound_in test) (bound_in body) (zip_names params ts d.1) (collected test (zip params ts ++ g) (Truth ∷ []) d.2) (collected body (zip params ts ++ g) ts d.3)
    collected_right (RightTerm.Call group xs) g ts d = refl
    collected_right (RightTerm.With o gens) g ts d = collected_gens gens g d.0 d.1.1
    collected_right (RightTerm.Parted frame t cell o parts) g ts d = collected_parts parts g t d.1

    collected_gens : (r : GensTerm) (g : Bases) (t : Base) (d : GensBases core g r t) → names (collect_gens r g t d) ≡ bound_in_gens r
    collected_gens NoGens g t d = refl
    collected_gens (Gen h b rest) g t d =
        three (ints (h.index ∷ h.names)) (collect b (ints (h.index ∷ h.names) ++ g) (t ∷ []) d.4) (collect_gens rest g t d.5) (h.index ∷ h.names) (bound_in b) (bound_in_gens rest) (ints_names (h.index ∷ h.names)) (collected b (ints (h.index ∷ h.names) ++ g) (t ∷ []) d.4) (collected_gens rest g t d.5)

    collected_parts : (r : PartsTerm) (g : Bases) (t : Base) (d : PartsBases core g r t) → names (collect_parts r g t d) ≡ bound_in_parts r
    collected_parts NoParts g t d = refl
    collected_parts (Part h b rest) g t d =
        three ((h.index, Int) ∷ []) (collect b ((h.index, Int) ∷ g) (t ∷ []) d.0) (collect_parts rest g t d.1) (h.index ∷ []) (bound_in b) (bound_in_parts rest) refl (collected b ((h.index, Int) ∷ g) (t ∷ []) d.0) (collected_parts rest g t d.1)

  module _ (m : BaseTable) where
    mutual
      follow : (b : BlockTerm) (g : Bases) (ts : List Base) (d : BlockBases core g b ts) → Agrees m (collect b g ts d) → Follows core m b g ts d
      follow (Gives xs) g ts d h = tt
      follow (Bind xs s r b) g ts d h =
          let rest = right m (zip xs d.0) (collect_right r g d.0 d.1.0 ++ collect b (zip xs d.0 ++ g) ts d.1.2) h in (
            zip_agrees m xs d.0 d.1.1 (left m (zip xs d.0) (collect_right r g d.0 d.1.0 ++ collect b (zip xs d.0 ++ g) ts d.1.2) h),
            follow_right r g d.0 d.1.0 (left m (collect_right r g d.0 d.1.0) (collect b (zip xs d.0 ++ g) ts d.1.2) rest),
            follow b (zip xs d.0 ++ g) ts d.1.2 (right m (collect_right r g d.0 d.1.0) (collect b (zip xs d.0 ++ g) ts d.1.2) rest),
          )

      follow_right : (r : RightTerm) (g : Bases) (ts : List Base) (d : RightBases core g r ts) → Agrees m (collect_right r g ts d) → FollowsRight core m r g ts d
      follow_right (Plain p) g ts d h = tt
      follow_right (RightTerm.If x a b) g ts d h = (follow a g ts d.1 (left m (collect a g ts d.1) (collect b g ts d.2) h), follow b g ts d.2 (right m (collect a g ts d.1) (collect b g ts d.2) h))
      follow_right (RightTerm.Loop fb start params test body s) g ts d h =
          let t = collect test (zip params ts ++ g) (Truth ∷ []) d.2 in
          let c = collect body (zip params ts ++ g) ts d.3 in
          let rest = right m (zip params ts) (t ++ c) h in
          (zip_agrees m params ts d.1 (left m (zip params ts) (t ++ c) h), follow test (zip params ts ++ g) (Truth ∷ []) d.2 (left m t c rest), follow body (zip params ts ++ g) ts d.3 (right m t c rest))
      follow_right (RightTerm.Call group xs) g ts d h = tt
      follow_right (RightTerm.With o gens) g ts d h = follow_gens gens g d.0 d.1.1 h
      follow_right (RightTerm.Parted frame t cell o parts) g ts d h = follow_parts parts g t d.1 h

      follow_gens : (r : GensTerm) (g : Bases) (t : Base) (d : GensBases core g r t) → Agrees m (collect_gens r g t d) → FollowsGens core m r g t d
      follow_gens NoGens g t d h = tt
      follow_gens (Gen j b rest) g t d h =
          let is = ints (j.index ∷ j.names) in
          let c = collect b (is ++ g) (t ∷ []) d.4 in
          let q = collect_gens rest g t d.5 in
          let more = right m is (c ++ q) h in
          (ints_agree m (j.index ∷ j.names) (left m is (c ++ q) h), follow b (is ++ g) (t ∷ []) d.4 (left m c q more), follow_gens rest g t d.5 (right m c q more))

      follow_parts : (r : PartsTerm) (g : Bases) (t : Base) (d : PartsBases core g r t) → Agrees m (collect_parts r g t d) → FollowsParts core m r g t d
      follow_parts NoParts g t d h = tt
      follow_parts (Part j b rest) g t d h =
          let c = collect b ((j.index, Int) ∷ g) (t ∷ []) d.0 in
          let q = collect_parts rest g t d.1 in
          (sym h.0, follow b ((j.index, Int) ∷ g) (t ∷ []) d.0 (left m c q h.1), follow_parts rest g t d.1 (right m c q h.1))

-- ---- the table of a list of bases

abbrev table : Bases → BaseTable
table ps y = unwrap_or (base_of ps y) Int

shifted : (p : Var × Base) (qs ps : Bases) → is_in p.0 (names qs) ≡ false → Agrees (table ps) qs → Agrees (table (p ∷ ps)) qs
shifted p [] ps n h = tt
shifted p (q ∷ qs) ps n h = (go (eqb p.0.0 q.0.0) refl, shifted p qs ps (Rattle.core_ir.proofs.Variables.or_false (eqb q.0.0 p.0.0) (is_in p.0 (names qs)) n).1 h.1)
  where
    go : (b : Bool) → eqb p.0.0 q.0.0 ≡ b → unwrap_or (cond (eqb p.0.0 q.0.0) (Some p.1) (base_of ps q.0)) Int ≡ q.1
    go true e = absurd (let z : true ≡ false = sym (eq-eqb q.0.0 p.0.0 (ap (λ (x : Var). x.0) (sym (same_number p.0 q.0 e)))) ∙ (Rattle.core_ir.proofs.Variables.or_false (eqb q.0.0 p.0.0) (is_in p.0 (names qs)) n).0 in cc)
    go false e = (λ i. unwrap_or (cond (e i) (Some p.1) (base_of ps q.0)) Int) ∙ h.0

table_agrees : (ps : Bases) → Distinct (names ps) → Agrees (table ps) ps
table_agrees [] d = tt
table_agrees (p ∷ ps) d = ((λ i. unwrap_or (cond (eq-eqb p.0.0 p.0.0 refl i) (Some p.1) (base_of ps p.0)) Int), shifted p ps ps d.0 (table_agrees ps d.1))

within_left : (ps qs : Bases) → Within (table (ps ++ qs)) ps
within_left [] qs x t h = absurd (let z : ◌≡◌ {A = Option Base} None (Some t) = h in cc)
within_left (p ∷ ps) qs x t h = go (eqb p.0.0 x.0) refl (λ m. within_left ps qs x t m)
  where
    go : (b : Bool) → eqb p.0.0 x.0 ≡ b → (base_of ps x ≡ Some t → t ≡ unwrap_or (base_of (ps ++ qs) x) Int) → t ≡ unwrap_or (cond (eqb p.0.0 x.0) (Some p.1) (base_of (ps ++ qs) x)) Int
    go true e f = sym (ap (λ o. unwrap_or o Int) ((λ i. cond (sym e i) (Some p.1) (base_of ps x)) ∙ h)) ∙ (λ i. unwrap_or (cond (sym e i) (Some p.1) (base_of (ps ++ qs) x)) Int)
    go false e f = f ((λ i. cond (sym e i) (Some p.1) (base_of ps x)) ∙ h) ∙ (λ i. unwrap_or (cond (sym e i) (Some p.1) (base_of (ps ++ qs) x)) Int)

param_names : (ps : List (Var × ArrayType)) → names (map (λ (p : Var × ArrayType). (p.0, p.1.base)) ps) ≡ map (λ (p : Var × ArrayType). p.0) ps
param_names [] = refl
param_names (p ∷ ps) = λ i. p.0 ∷ param_names ps i

pub has_table : (core : CoreTerm) (f : FunTerm) → (is : IsFunction core f) → (m : BaseTable) × Within m (param_bases f) × Follows core m f.body (param_bases f) (bases f.results) is.agreeing
has_table core f is =
    let all = collect core f.body (param_bases f) (bases f.results) is.agreeing in
    let same : names (param_bases f ++ all) ≡ param_vars f ++ bound_in f.body = names_append (param_bases f) all ∙ (λ i. param_names f.params i ++ collected core f.body (param_bases f) (bases f.results) is.agreeing i) in
    let m = table (param_bases f ++ all) in
    (m, within_left (param_bases f) all, follow core m f.body (param_bases f) (bases f.results) is.agreeing (right m (param_bases f) all (table_agrees (param_bases f ++ all) (subst Distinct (sym same) is.once))))
