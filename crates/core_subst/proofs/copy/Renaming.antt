-- A block with other variables, one for one, is the block renamed.
use Rattle.std.proofs.Common.{◌≡◌, ℕ, suc, Bool, true, false, not, ◌&&◌, eqb, List, [], ◌∷◌, ◌++◌, map, length, Option, Some, None, refl, ap, sym, subst, ◌∙◌}
use Rattle.std.specs.Prelude.{if◌then◌else◌, option_map}
use Rattle.std.proofs.lemmas.Bool.{eqb-true, eq-eqb}
use Rattle.std.proofs.lemmas.List.{map-append}
use Rattle.core_ir.specs.declared.tree.Var.{Var}
use Rattle.core_ir.specs.declared.tree.CoreOp.{CoreOp}
use Rattle.core_ir.specs.declared.tree.CoreOp.TheVariants as making
use Rattle.core_ir.specs.declared.tree.PartedOp.{PartedOp}
use Rattle.core_ir.specs.declared.tree.PartedOp.TheVariants as parted
use Rattle.core_ir.specs.Binders.{bound_in, bound_in_right, bound_in_gens, bound_in_parts}
use Rattle.core_ir.specs.Meaning.{Env, CallMeaning, run, name_count}
use Rattle.core_ir.specs.Renaming.{Link, Agree, Linked, LinkedOption, under, under_all, Renamed, RenamedRight, RenamedGens, RenamedParts, RenamedPlain, RenamedCoreOp, RenamedPartedOp}
use Rattle.core_ir.specs.Terms.{PlainTerm, BlockTerm, RightTerm, GensTerm, PartsTerm, Gives, Bind, Plain, NoGens, Gen, NoParts, Part}
use Rattle.core_ir.proofs.Variables.{same_number}
use Rattle.core_subst.specs.Substitution.{plain_with, core_op_with, parted_op_with}
use Rattle.core_subst.specs.copy.Mapped.{mapped, mapped_right, mapped_gens, mapped_parts}

-- what the blocks bind
module _ (f : Var → Var) where
  mutual
    pub bound_mapped : (b : BlockTerm) → bound_in (mapped f b) ≡ map f (bound_in b)
    bound_mapped (Gives xs) = refl
    bound_mapped (Bind xs s r b) =
        (λ i. map f xs ++ (bound_mapped_right r i ++ bound_mapped b i))
        ∙ (λ i. map f xs ++ sym (map-append f (bound_in_right r) (bound_in b)) i)
        ∙ sym (map-append f xs (bound_in_right r ++ bound_in b))

    bound_mapped_right : (r : RightTerm) → bound_in_right (mapped_right f r) ≡ map f (bound_in_right r)
    bound_mapped_right (Plain p) = refl
    bound_mapped_right (RightTerm.If x a b) = (λ i. bound_mapped a i ++ bound_mapped b i) ∙ sym (map-append f (bound_in a) (bound_in b))
    bound_mapped_right (RightTerm.Loop first start params test body s) =
        (λ i. map f params ++ (bound_mapped test i ++ bound_mapped body i))
        ∙ (λ i. map f params ++ sym (map-append f (bound_in test) (bound_in body)) i)
        ∙ sym (map-append f params (bound_in test ++ bound_in body))
    bound_mapped_right (RightTerm.Call g xs) = refl
    bound_mapped_right (RightTerm.With op gens) = bound_mapped_gens gens
    bound_mapped_right (RightTerm.Parted frame base cell op parts) = bound_mapped_parts parts

    bound_mapped_gens : (g : GensTerm) → bound_in_gens (mapped_gens f g) ≡ map f (bound_in_gens g)
    bound_mapped_gens NoGens = refl
    bound_mapped_gens (Gen h b rest) =
        (λ i. map f (h.index ∷ h.names) ++ (bound_mapped b i ++ bound_mapped_gens rest i))
        ∙ (λ i. map f (h.index ∷ h.names) ++ sym (map-append f (bound_in b) (bound_in_gens rest)) i)
        ∙ sym (map-append f (h.index ∷ h.names) (bound_in b ++ bound_in_gens rest))

    bound_mapped_parts : (p : PartsTerm) → bound_in_parts (mapped_parts f p) ≡ map f (bound_in_parts p)
    bound_mapped_parts NoParts = refl
    bound_mapped_parts (Part h b rest) =
        (λ i. map f (h.index ∷ []) ++ (bound_mapped b i ++ bound_mapped_parts rest i))
        ∙ (λ i. map f (h.index ∷ []) ++ sym (map-append f (bound_in b) (bound_in_parts rest)) i)
        ∙ sym (map-append f (h.index ∷ []) (bound_in b ++ bound_in_parts rest))

-- variables are kept apart
module _ (f : Var → Var) (apart : (x y : Var) → eqb (f x).0 (f y).0 ≡ eqb x.0 y.0) where
  abbrev pub link : Link
  link x y = eqb (f x).0 y.0

  linked_here : (x : Var) → link x (f x) ≡ true
  linked_here x = eq-eqb (f x).0 (f x).0 refl

  below_one : (x a b : Var) → under link x (f x) a b ≡ link a b
  below_one x a b = go (eqb x.0 a.0) refl
    where
      go : (t : Bool) → eqb x.0 a.0 ≡ t → (if eqb x.0 a.0 then eqb (f x).0 b.0 else (not (eqb (f x).0 b.0) && eqb (f a).0 b.0)) ≡ eqb (f a).0 b.0
      go true e =
          (λ i. if e i then eqb (f x).0 b.0 else (not (eqb (f x).0 b.0) && eqb (f a).0 b.0))
          ∙ (λ i. eqb (eqb-true (f x).0 (f a).0 (apart x a ∙ e) i) b.0)
      go false e =
          (λ i. if e i then eqb (f x).0 b.0 else (not (eqb (f x).0 b.0) && eqb (f a).0 b.0))
          ∙ turn (eqb (f x).0 b.0) refl
        where
          clash : {A : Type 0} → eqb x.0 a.0 ≡ true → eqb x.0 a.0 ≡ false → A
          clash p q = absurd (let r = sym p ∙ q in cc)

          other : (u : Bool) → eqb (f a).0 b.0 ≡ u → eqb (f x).0 b.0 ≡ true → false ≡ eqb (f a).0 b.0
          other true p h = clash (sym (apart x a) ∙ eq-eqb (f x).0 (f a).0 (eqb-true (f x).0 b.0 h ∙ sym (eqb-true (f a).0 b.0 p))) e
          other false p h = sym p

          turn : (u : Bool) → eqb (f x).0 b.0 ≡ u → (not (eqb (f x).0 b.0) && eqb (f a).0 b.0) ≡ eqb (f a).0 b.0
          turn true h = (λ i. not (h i) && eqb (f a).0 b.0) ∙ other (eqb (f a).0 b.0) refl h
          turn false h = λ i. not (h i) && eqb (f a).0 b.0

  below_here : (x : Var) → under link x (f x) ≡ link
  below_here x = λ i a b. below_one x a b i

  below_all : (xs : List Var) → under_all link xs (map f xs) ≡ link
  below_all [] = refl
  below_all (x ∷ xs) = (λ i. under_all (below_here x i) xs (map f xs)) ∙ below_all xs

  linked_all : (xs : List Var) → Linked link xs (map f xs)
  linked_all [] = tt
  linked_all (x ∷ xs) = (linked_here x, linked_all xs)

  linked_option : (x : Option Var) → LinkedOption link x (option_map f x)
  linked_option None = tt
  linked_option (Some x) = linked_here x

  same_length : (xs : List Var) → length xs ≡ length (map f xs)
  same_length [] = refl
  same_length (x ∷ xs) = ap suc (same_length xs)

  same_count : (xs : List Var) → name_count xs ≡ name_count (map f xs)
  same_count [] = refl
  same_count (x ∷ xs) = ap Some (same_length (x ∷ xs))

  plain_renamed : (p : PlainTerm) → RenamedPlain link p (plain_with f p)
  plain_renamed (PlainTerm.Const a) = refl
  plain_renamed (PlainTerm.Copy x) = linked_here x
  plain_renamed (PlainTerm.Unary o x) = (refl, linked_here x)
  plain_renamed (PlainTerm.Binary o x y) = (refl, linked_here x, linked_here y)
  plain_renamed (PlainTerm.Literal xs) = linked_all xs
  plain_renamed (PlainTerm.Dim x) = linked_here x
  plain_renamed (PlainTerm.ShapeOf x) = linked_here x
  plain_renamed (PlainTerm.Reshape x y) = (linked_here x, linked_here y)
  plain_renamed (PlainTerm.Select x y) = (linked_here x, linked_here y)
  plain_renamed (PlainTerm.Replace x y z) = (linked_here x, linked_here y, linked_here z)
  plain_renamed (PlainTerm.Always k) = refl
  plain_renamed (PlainTerm.Check x t) = (refl, linked_here x)

  op_renamed : (o : CoreOp) → RenamedCoreOp link o (core_op_with f o)
  op_renamed (making.Genarray x y) = (linked_here x, linked_here y)
  op_renamed (making.Modarray x) = linked_here x
  op_renamed (making.Fold o x) = (refl, linked_here x)

  parted_renamed : (o : PartedOp) → RenamedPartedOp link o (parted_op_with f o)
  parted_renamed parted.Genarray = tt
  parted_renamed (parted.Modarray x) = linked_here x
  parted_renamed (parted.Fold o x) = (refl, linked_here x)

  mutual
    pub renamed : (b : BlockTerm) → Renamed link b (mapped f b)
    renamed (Gives xs) = linked_all xs
    renamed (Bind xs s r b) = (refl, renamed_right r, subst (λ (S : Link). Renamed S b (mapped f b)) (sym (below_all xs)) (renamed b))

    renamed_right : (r : RightTerm) → RenamedRight link r (mapped_right f r)
    renamed_right (Plain p) = plain_renamed p
    renamed_right (RightTerm.If x a b) = (linked_here x, renamed a, renamed b)
    renamed_right (RightTerm.Loop first start params test body s) =
        (refl, refl, linked_all start, subst (λ (S : Link). Renamed S test (mapped f test)) (sym (below_all params)) (renamed test), subst (λ (S : Link). Renamed S body (mapped f body)) (sym (below_all params)) (renamed body))
    renamed_right (RightTerm.Call g xs) = (refl, linked_all xs)
    renamed_right (RightTerm.With op gens) = (op_renamed op, renamed_gens gens)
    renamed_right (RightTerm.Parted frame base cell op parts) = (refl, refl, refl, parted_renamed op, renamed_parts parts)

    renamed_gens : (g : GensTerm) → RenamedGens link g (mapped_gens f g)
    renamed_gens NoGens = tt
    renamed_gens (Gen h b rest) = (
      (refl, refl, refl, same_count h.names, linked_option h.lower, linked_option h.upper, linked_option h.step, linked_option h.width),
      subst (λ (S : Link). Renamed S b (mapped f b)) (sym (below_all (h.index ∷ h.names))) (renamed b),
      renamed_gens rest,
    )

    renamed_parts : (p : PartsTerm) → RenamedParts link p (mapped_parts f p)
    renamed_parts NoParts = tt
    renamed_parts (Part h b rest) = (refl, refl, subst (λ (S : Link). Renamed S b (mapped f b)) (sym (below_here h.index)) (renamed b), renamed_parts rest)

  pub agree : (e : Env) → Agree link (λ x. e (f x)) e
  agree e x y h = ap e (same_number (f x) y h)
