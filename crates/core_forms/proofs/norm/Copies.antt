-- A block with other variables is a copy of the block where they are kept apart.
use Rattle.std.proofs.Common.{◌≡◌, suc, Bool, true, false, not, ◌&&◌, ◌||◌, eqb, List, [], ◌∷◌, ◌++◌, map, length, Option, Some, None, refl, sym, ap, ◌∙◌}
use Rattle.std.specs.Prelude.{if◌then◌else◌, option_map, option_to_list}
use Rattle.std.proofs.lemmas.Bool.{eq-eqb}
use Rattle.core_ir.specs.declared.tree.Var.{Var}
use Rattle.core_ir.specs.declared.tree.CoreOp.{CoreOp}
use Rattle.core_ir.specs.declared.tree.CoreOp.TheVariants as making
use Rattle.core_ir.specs.declared.tree.PartedOp.{PartedOp}
use Rattle.core_ir.specs.declared.tree.PartedOp.TheVariants as parted
use Rattle.core_ir.specs.Binders.{is_in, bound_in, bound_in_right, bound_in_gens, bound_in_parts}
use Rattle.core_ir.specs.Meaning.{name_count}
use Rattle.core_ir.specs.Renaming.{Link, Linked, LinkedOption, under, under_all, Renamed, RenamedRight, RenamedGens, RenamedParts, RenamedPlain, RenamedCoreOp, RenamedPartedOp, RenamedGenHead}
use Rattle.core_ir.specs.Scopes.{AllIn, Scoped, ScopedRight, ScopedGens, ScopedParts, plain_uses, op_uses, parted_uses, head_uses}
use Rattle.core_ir.specs.Terms.{PlainTerm, BlockTerm, RightTerm, GensTerm, PartsTerm, GenHead, Gives, Bind, Plain, NoGens, Gen, NoParts, Part}
use Rattle.core_ir.proofs.Variables.{in_more, same_number}
use Rattle.core_subst.specs.Substitution.{plain_with, core_op_with, parted_op_with}
use Rattle.core_subst.specs.copy.Mapped.{mapped, mapped_right, mapped_gens, mapped_parts, mapped_gen_head}
use Rattle.core_forms.proofs.inlined_bodies.Names.{in_left, itself, behind_first}
use Rattle.core_forms.specs.norm.Alike.{Alike, AlikeRight, AlikeGens, AlikeParts}
use Rattle.core_forms.proofs.norm.Scopes.{in_right, turned}

-- ---- equally many variables are bound

module _ (f : Var → Var) where
  map_length : (xs : List Var) → length (map f xs) ≡ length xs
  map_length [] = refl
  map_length (x ∷ xs) = ap suc (map_length xs)

  mutual
    pub alike : (b : BlockTerm) → Alike b (mapped f b)
    alike (Gives xs) = tt
    alike (Bind xs s r b) = (map_length xs, alike_right r, alike b)

    alike_right : (r : RightTerm) → AlikeRight r (mapped_right f r)
    alike_right (Plain p) = tt
    alike_right (RightTerm.If x a b) = (alike a, alike b)
    alike_right (RightTerm.Loop first start params test body s) = (map_length params, alike test, alike body)
    alike_right (RightTerm.Call g xs) = tt
    alike_right (RightTerm.With op gens) = alike_gens gens
    alike_right (RightTerm.Parted frame base cell op parts) = alike_parts parts

    alike_gens : (g : GensTerm) → AlikeGens g (mapped_gens f g)
    alike_gens NoGens = tt
    alike_gens (Gen h b rest) = (alike b, alike_gens rest)

    alike_parts : (p : PartsTerm) → AlikeParts p (mapped_parts f p)
    alike_parts NoParts = tt
    alike_parts (Part h b rest) = (alike b, alike_parts rest)

-- ---- links

-- all of the first list are in the second
abbrev pub Inside : List Var → List Var → Type 0
Inside xs all = (y : Var) → is_in y xs ≡ true → is_in y all ≡ true

pub inside_left : (xs ys all : List Var) → Inside (xs ++ ys) all → Inside xs all
inside_left xs ys all h = λ y p. h y (in_left y xs ys p)

pub inside_right : (xs ys all : List Var) → Inside (xs ++ ys) all → Inside ys all
inside_right xs ys all h = λ y p. h y (in_right y xs ys p)

pub inside_both : (xs ys all : List Var) → Inside xs all → Inside ys all → Inside (xs ++ ys) all
inside_both xs ys all h k = λ y p. go y (is_in y xs) refl (sym (in_more y xs ys) ∙ p)
  where
    go : (y : Var) (b : Bool) → is_in y xs ≡ b → (is_in y xs || is_in y ys) ≡ true → is_in y all ≡ true
    go y true e p = h y e
    go y false e p = k y (sym (λ i. e i || is_in y ys) ∙ p)

module _ (f : Var → Var) (all : List Var) (apart : (x y : Var) → is_in x all ≡ true → is_in y all ≡ true → eqb (f x).0 (f y).0 ≡ eqb x.0 y.0) where
  -- each variable in scope is linked with the one that stands for it
  abbrev pub Links : Link → List Var → Type 0
  Links S scope = (x : Var) → is_in x scope ≡ true → S x (f x) ≡ true

  pub links_one : (S : Link) (scope : List Var) (x : Var) → is_in x all ≡ true → Inside scope all → Links S scope → Links (under S x (f x)) (x ∷ scope)
  links_one S scope x at inside k z h = go (eqb x.0 z.0) refl h
    where
      go : (b : Bool) → eqb x.0 z.0 ≡ b → (b || is_in z scope) ≡ true → (if eqb x.0 z.0 then eqb (f x).0 (f z).0 else (not (eqb (f x).0 (f z).0) && S z (f z))) ≡ true
      go true e m = (λ i. if e i then eqb (f x).0 (f z).0 else (not (eqb (f x).0 (f z).0) && S z (f z))) ∙ eq-eqb (f x).0 (f z).0 (ap (λ (y : Var). (f y).0) (same_number x z e))
      go false e m =
          (λ i. if e i then eqb (f x).0 (f z).0 else (not (eqb (f x).0 (f z).0) && S z (f z)))
          ∙ (λ i. not ((apart x z at (inside z m) ∙ e) i) && S z (f z))
          ∙ k z m

  links_all : (S : Link) (scope xs : List Var) → Inside xs all → Inside scope all → Links S scope → Links (under_all S xs (map f xs)) (xs ++ scope)
  links_all S scope [] p q k z h = k z h
  links_all S scope (x ∷ xs) p q k z h =
      links_all (under S x (f x)) (x ∷ scope) xs (λ y m. p y (behind_first y x xs m)) (inside_both (x ∷ []) scope all (λ y m. p y (in_left y (x ∷ []) xs m)) q) (links_one S scope x (p x (itself x xs)) q k) z
      (sym (turned z x xs scope) ∙ h)

  module _ (S : Link) (scope : List Var) (k : Links S scope) where
    linked_all : (xs : List Var) → AllIn xs scope → Linked S xs (map f xs)
    linked_all [] h = tt
    linked_all (x ∷ xs) h = (k x h.0, linked_all xs h.1)

    linked_plain : (p : PlainTerm) → AllIn (plain_uses p) scope → RenamedPlain S p (plain_with f p)
    linked_plain (PlainTerm.Const a) h = refl
    linked_plain (PlainTerm.Copy x) h = k x h.0
    linked_plain (PlainTerm.Unary o x) h = (refl, k x h.0)
    linked_plain (PlainTerm.Binary o x y) h = (refl, k x h.0, k y h.1.0)
    linked_plain (PlainTerm.Literal xs) h = linked_all xs h
    linked_plain (PlainTerm.Dim x) h = k x h.0
    linked_plain (PlainTerm.ShapeOf x) h = k x h.0
    linked_plain (PlainTerm.Reshape x y) h = (k x h.0, k y h.1.0)
    linked_plain (PlainTerm.Select x y) h = (k x h.0, k y h.1.0)
    linked_plain (PlainTerm.Replace x y z) h = (k x h.0, k y h.1.0, k z h.1.1.0)
    linked_plain (PlainTerm.Always u) h = refl
    linked_plain (PlainTerm.Check x t) h = (refl, k x h.0)

    linked_op : (o : CoreOp) → AllIn (op_uses o) scope → RenamedCoreOp S o (core_op_with f o)
    linked_op (making.Genarray x y) h = (k x h.0, k y h.1.0)
    linked_op (making.Modarray x) h = k x h.0
    linked_op (making.Fold o x) h = (refl, k x h.0)

    linked_parted : (o : PartedOp) → AllIn (parted_uses o) scope → RenamedPartedOp S o (parted_op_with f o)
    linked_parted parted.Genarray h = tt
    linked_parted (parted.Modarray x) h = k x h.0
    linked_parted (parted.Fold o x) h = (refl, k x h.0)

    option_first : (x : Option Var) (us : List Var) → AllIn (option_to_list x ++ us) scope → LinkedOption S x (option_map f x) × AllIn us scope
    option_first None us h = (tt, h)
    option_first (Some x) us h = (k x h.0, h.1)

    option_last : (x : Option Var) → AllIn (option_to_list x) scope → LinkedOption S x (option_map f x)
    option_last None h = tt
    option_last (Some x) h = k x h.0

    same_count : (xs : List Var) → name_count xs ≡ name_count (map f xs)
    same_count [] = refl
    same_count (x ∷ xs) = ap Some (sym (map_length f (x ∷ xs)))

    linked_head : (h : GenHead) → AllIn (head_uses h) scope → RenamedGenHead S h (mapped_gen_head f h)
    linked_head h m =
        let a = option_first h.lower _ m in
        let b = option_first h.upper _ a.1 in
        let c = option_first h.step _ b.1 in
        (refl, refl, refl, same_count h.names, a.0, b.0, c.0, option_last h.width c.1)

  mutual
    pub renamed : (S : Link) (scope : List Var) (b : BlockTerm) → Scoped scope b → Inside (bound_in b) all → Inside scope all → Links S scope → Renamed S b (mapped f b)
    renamed S scope (Gives xs) s i j k = linked_all S scope k xs s
    renamed S scope (Bind xs t r b) s i j k =
        let own = inside_left xs (bound_in_right r ++ bound_in b) all i in
        let rest = inside_right xs (bound_in_right r ++ bound_in b) all i in (
          refl,
          renamed_right S scope r s.0 (inside_left (bound_in_right r) (bound_in b) all rest) j k,
          renamed (under_all S xs (map f xs)) (xs ++ scope) b s.2 (inside_right (bound_in_right r) (bound_in b) all rest) (inside_both xs scope all own j) (links_all S scope xs own j k),
        )

    renamed_right : (S : Link) (scope : List Var) (r : RightTerm) → ScopedRight scope r → Inside (bound_in_right r) all → Inside scope all → Links S scope → RenamedRight S r (mapped_right f r)
    renamed_right S scope (Plain p) s i j k = linked_plain S scope k p s
    renamed_right S scope (RightTerm.If x a b) s i j k =
        (k x s.0, renamed S scope a s.1 (inside_left (bound_in a) (bound_in b) all i) j k, renamed S scope b s.2 (inside_right (bound_in a) (bound_in b) all i) j k)
    renamed_right S scope (RightTerm.Loop fb start params test body t) s i j k =
        let own = inside_left params (bound_in test ++ bound_in body) all i in
        let rest = inside_right params (bound_in test ++ bound_in body) all i in
        let T = under_all S params (map f params) in
        let l = links_all S scope params own j k in
        let m = inside_both params scope all own j in (
          refl,
          refl,
          linked_all S scope k start s.0,
          renamed T (params ++ scope) test s.2 (inside_left (bound_in test) (bound_in body) all rest) m l,
          renamed T (params ++ scope) body s.3 (inside_right (bound_in test) (bound_in body) all rest) m l,
        )
    renamed_right S scope (RightTerm.Call g xs) s i j k = (refl, linked_all S scope k xs s)
    renamed_right S scope (RightTerm.With op gens) s i j k = (linked_op S scope k op s.0, renamed_gens S scope gens s.1 i j k)
    renamed_right S scope (RightTerm.Parted frame base cell op parts) s i j k = (refl, refl, refl, linked_parted S scope k op s.0, renamed_parts S scope parts s.1 i j k)

    renamed_gens : (S : Link) (scope : List Var) (g : GensTerm) → ScopedGens scope g → Inside (bound_in_gens g) all → Inside scope all → Links S scope → RenamedGens S g (mapped_gens f g)
    renamed_gens S scope NoGens s i j k = tt
    renamed_gens S scope (Gen h b rest) s i j k =
        let xs = h.index ∷ h.names in
        let own = inside_left xs (bound_in b ++ bound_in_gens rest) all i in
        let more = inside_right xs (bound_in b ++ bound_in_gens rest) all i in (
          linked_head S scope k h s.0,
          renamed (under_all S xs (map f xs)) (xs ++ scope) b s.2 (inside_left (bound_in b) (bound_in_gens rest) all more) (inside_both xs scope all own j) (links_all S scope xs own j k),
          renamed_gens S scope rest s.3 (inside_right (bound_in b) (bound_in_gens rest) all more) j k,
        )

    renamed_parts : (S : Link) (scope : List Var) (p : PartsTerm) → ScopedParts scope p → Inside (bound_in_parts p) all → Inside scope all → Links S scope → RenamedParts S p (mapped_parts f p)
    renamed_parts S scope NoParts s i j k = tt
    renamed_parts S scope (Part h b rest) s i j k =
        let xs = h.index ∷ [] in
        let own = inside_left xs (bound_in b ++ bound_in_parts rest) all i in
        let more = inside_right xs (bound_in b ++ bound_in_parts rest) all i in (
          refl,
          refl,
          renamed (under_all S xs (map f xs)) (xs ++ scope) b s.1 (inside_left (bound_in b) (bound_in_parts rest) all more) (inside_both xs scope all own j) (links_all S scope xs own j k),
          renamed_parts S scope rest s.2 (inside_right (bound_in b) (bound_in_parts rest) all more) j k,
        )

pub copies_renamed :
    (S : Link) (f : Var → Var) (scope : List Var) (b : BlockTerm) → Scoped scope b →
    ((x y : Var) → is_in x (bound_in b ++ scope) ≡ true → is_in y (bound_in b ++ scope) ≡ true → eqb (f x).0 (f y).0 ≡ eqb x.0 y.0) →
    ((x : Var) → is_in x scope ≡ true → S x (f x) ≡ true) → Renamed S b (mapped f b)
copies_renamed S f scope b s apart k = renamed f (bound_in b ++ scope) apart S scope b s (λ y h. in_left y (bound_in b) scope h) (λ y h. in_right y (bound_in b) scope h) k
