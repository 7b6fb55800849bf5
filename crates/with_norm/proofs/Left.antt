-- What a walk leaves that replaced none.
use Rattle.std.proofs.Common.{◌≡◌, ℕ, suc, ◌<◌, ◌≤◌, List, [], ◌∷◌, ◌++◌, All, Option, Some, refl, subst, arith}
use Rattle.std.specs.Prelude.{max}
use Rattle.std.proofs.Math.Nat.{le-max_left, le-max_right}
use Rattle.std.proofs.lemmas.List.Elements.{All-nil, All-cons, All-head, All-tail}
use Rattle.sac_base.specs.declared.base.Base.{Base}
use Rattle.sac_base.specs.declared.site.Site.{Site}
use Rattle.core_ir.specs.declared.tree.Var.{Var}
use Rattle.core_ir.specs.declared.tree.CoreOp.{CoreOp}
use Rattle.core_ir.specs.declared.tree.CoreOp.TheVariants as making
use Rattle.core_ir.specs.Scopes.{op_uses, parted_uses}
use Rattle.core_ir.specs.Terms.{BlockTerm, RightTerm, GensTerm, PartsTerm, Gives, Bind, Plain, NoGens, Gen, NoParts, Part}
use Rattle.core_facts.specs.Facts.{Facts, note_all, right_facts, in_part}
use Rattle.core_subst.specs.Names.{above, above_all, above_right, above_gens, above_parts, above_head}
use Rattle.partable_loops.specs.Planned.{IsPlannable}
use Rattle.variable_bases.specs.Sources.{source, sources, sources_right, sources_gens, sources_parts}
use Rattle.parted_bodies.specs.Making.{base_var}
use Rattle.core_walk.specs.Editing.{EachInRight, EachInGens, EachInParts}
use Rattle.norm_walk.specs.Replacing.{IsLeft, EachWith, WithFirst}

front : {X : Type 0} (P : X → Type 0) (xs ys : List X) → All P (xs ++ ys) → All P xs
front P [] ys h = All-nil P
front P (x ∷ xs) ys h = All-cons P x xs (All-head P x (xs ++ ys) h) (front P xs ys (All-tail P x (xs ++ ys) h))

back : {X : Type 0} (P : X → Type 0) (xs ys : List X) → All P (xs ++ ys) → All P ys
back P [] ys h = h
back P (x ∷ xs) ys h = back P xs ys (All-tail P x (xs ++ ys) h)

first_less : (a b n : ℕ) → max a b ≤ n → a ≤ n
first_less a b n p = let q = le-max_left a b in omega (arith, p, q)

then_less : (a b n : ℕ) → max a b ≤ n → b ≤ n
then_less a b n p = let q = le-max_right a b in omega (arith, p, q)

base_below : (op : CoreOp) (n : ℕ) → above_all (op_uses op) ≤ n → (base_var op).0 < n
base_below (making.Genarray x y) n p = first_less (suc y.0) 0 n (then_less (suc x.0) (max (suc y.0) 0) n p)
base_below (making.Modarray x) n p = first_less (suc x.0) 0 n p
base_below (making.Fold o x) n p = first_less (suc x.0) 0 n p

same_source : (op : CoreOp) → source op ≡ base_var op
same_source (making.Genarray x y) = refl
same_source (making.Modarray x) = refl
same_source (making.Fold o x) = refl

module _ (called : ℕ → List (Option (List ℕ))) (bases : Var → Option Base) (first : ℕ) where
  abbrev Told : Var → Type 0
  Told x = (t : Base) × (bases x ≡ Some t)

  abbrev NotPlannable : Facts → Site → CoreOp → GensTerm → Type 0
  NotPlannable k s op gens = IsPlannable k first s op gens → ⊥

  none_first : (xs : List Var) (s : Site) (r : RightTerm) (b : BlockTerm) (k : Facts) → above_right r ≤ first → All Told (sources_right r)
      → WithFirst (IsLeft bases first first) k (Bind xs s r b) → WithFirst NotPlannable k (Bind xs s r b)
  none_first xs s (Plain p) b k low told h = tt
  none_first xs s (RightTerm.If x a c) b k low told h = tt
  none_first xs s (RightTerm.Loop begin start params test body t) b k low told h = tt
  none_first xs s (RightTerm.Call g ys) b k low told h = tt
  none_first xs s (RightTerm.With op gens) b k low told h =
      let one = subst Told (same_source op) (All-head Told (source op) (sources_gens gens) told) in
      h one.0 one.1 (base_below op first (first_less (above_all (op_uses op)) (above_gens gens) first low))
  none_first xs s (RightTerm.Parted frame base cell op parts) b k low told h = tt

  -- where the base of each is known and its variable is one of the function's, none can become a parted loop
  mutual
    pub none_left : (b : BlockTerm) (k : Facts) → above b ≤ first → All Told (sources b) → EachWith (IsLeft bases first first) called b k → EachWith NotPlannable called b k
    none_left (Gives xs) k low told h = tt
    none_left (Bind xs s r b) k low told h =
        let rest = then_less (above_all xs) (max (above_right r) (above b)) first low in (
          none_right r k (first_less (above_right r) (above b) first rest) (front Told (sources_right r) (sources b) told) h.0,
          none_first xs s r b k (first_less (above_right r) (above b) first rest) (front Told (sources_right r) (sources b) told) h.1,
          none_left b (note_all k xs (right_facts called r k)) (then_less (above_right r) (above b) first rest) (back Told (sources_right r) (sources b) told) h.2,
        )

    none_right : (r : RightTerm) (k : Facts) → above_right r ≤ first → All Told (sources_right r) → EachInRight called (WithFirst (IsLeft bases first first)) r k
        → EachInRight called (WithFirst NotPlannable) r k
    none_right (Plain p) k low told h = tt
    none_right (RightTerm.If x a b) k low told h =
        let rest = then_less (suc x.0) (max (above a) (above b)) first low in (
          none_left a k (first_less (above a) (above b) first rest) (front Told (sources a) (sources b) told) h.0,
          none_left b k (then_less (above a) (above b) first rest) (back Told (sources a) (sources b) told) h.1,
        )
    none_right (RightTerm.Loop begin start params test body t) k low told h =
        let rest = then_less (above_all params) (max (above test) (above body)) first (then_less (above_all start) (max (above_all params) (max (above test) (above body))) first low) in (
          none_left test (note_all k params []) (first_less (above test) (above body) first rest) (front Told (sources test) (sources body) told) h.0,
          none_left body (note_all k params []) (then_less (above test) (above body) first rest) (back Told (sources test) (sources body) told) h.1,
        )
    none_right (RightTerm.Call g xs) k low told h = tt
    none_right (RightTerm.With op gens) k low told h =
        none_gens gens k (then_less (above_all (op_uses op)) (above_gens gens) first low) (All-tail Told (source op) (sources_gens gens) told) h
    none_right (RightTerm.Parted frame base cell op parts) k low told h = none_parts parts k (then_less (above_all (parted_uses op)) (above_parts parts) first low) told h

    none_gens : (gens : GensTerm) (k : Facts) → above_gens gens ≤ first → All Told (sources_gens gens) → EachInGens called (WithFirst (IsLeft bases first first)) gens k
        → EachInGens called (WithFirst NotPlannable) gens k
    none_gens NoGens k low told h = tt
    none_gens (Gen g b more) k low told h =
        let rest = then_less (above_all (g.index ∷ g.names)) (max (above b) (above_gens more)) first
        (then_less (above_head g) (max (above_all (g.index ∷ g.names)) (max (above b) (above_gens more))) first low) in (
          none_left b (note_all k (g.index ∷ g.names) []) (first_less (above b) (above_gens more) first rest) (front Told (sources b) (sources_gens more) told) h.0,
          none_gens more k (then_less (above b) (above_gens more) first rest) (back Told (sources b) (sources_gens more) told) h.1,
        )

    none_parts : (parts : PartsTerm) (k : Facts) → above_parts parts ≤ first → All Told (sources_parts parts) → EachInParts called (WithFirst (IsLeft bases first first)) parts k
        → EachInParts called (WithFirst NotPlannable) parts k
    none_parts NoParts k low told h = tt
    none_parts (Part g b more) k low told h =
        let rest = then_less (suc g.index.0) (max (above b) (above_parts more)) first low in (
          none_left b (in_part k g) (first_less (above b) (above_parts more) first rest) (front Told (sources b) (sources_parts more) told) h.0,
          none_parts more k (then_less (above b) (above_parts more) first rest) (back Told (sources b) (sources_parts more) told) h.1,
        )
