-- Numbers in order are distinct, and components of an index stand for names above a copy.
use Rattle.std.proofs.Common.{◌≡◌, ℕ, suc, ◌+◌, ◌<◌, ◌≤◌, Bool, true, false, ◌||◌, eqb, List, [], ◌∷◌, ◌++◌, map, length, All, Option, Some, None, refl, sym, ap, ◌∙◌, arith}
use Rattle.std.proofs.lemmas.Bool.{eqb-true, eq-eqb}
use Rattle.std.proofs.lemmas.List.Elements.{All-nil, All-cons}
use Rattle.core_ir.specs.declared.tree.Var.{Var}
use Rattle.core_ir.specs.Binders.{is_in, bound_in, bound_in_right, bound_in_gens, bound_in_parts}
use Rattle.core_ir.specs.WellFormed.{Distinct}
use Rattle.core_ir.proofs.Variables.{same_number}
use Rattle.core_forms.proofs.inlined_bodies.Names.{not_in, clash, in_left, behind_first}
use Rattle.core_forms.specs.norm.Copied.{AreFrom, components}
use Rattle.core_forms.specs.norm.Fresh.{IsBetween}
use Rattle.std.specs.Prelude.{if◌then◌else◌, not, ◌&&◌, option_map, option_to_list}
use Rattle.sac_base.specs.declared.site.Site.{Site}
use Rattle.core_ir.specs.declared.tree.CoreOp.{CoreOp}
use Rattle.core_ir.specs.declared.tree.CoreOp.TheVariants as making
use Rattle.core_ir.specs.declared.tree.PartedOp.{PartedOp}
use Rattle.core_ir.specs.declared.tree.PartedOp.TheVariants as parted
use Rattle.core_ir.specs.Renaming.{Link, under}
use Rattle.core_ir.specs.Scopes.{AllIn, Scoped, ScopedRight, ScopedGens, ScopedParts, plain_uses, op_uses, parted_uses, head_uses}
use Rattle.core_ir.specs.Terms.{PlainTerm, BlockTerm, RightTerm, GensTerm, PartsTerm, GenHead, Gives, Bind, Plain, NoGens, Gen, NoParts, Part}
use Rattle.core_ir.specs.Uses.{AvoidsAll, Avoids, AvoidsRight, AvoidsGens, AvoidsParts}
use Rattle.core_subst.specs.Substitution.{plain_with, core_op_with, parted_op_with}
use Rattle.core_subst.specs.copy.Mapped.{mapped, mapped_right, mapped_gens, mapped_parts, mapped_gen_head}
use Rattle.core_loops.specs.Steps.{itself}
use Rattle.core_loops.specs.norm_steps.Genarray.{NamedBody}
use Rattle.core_forms.specs.norm.Alike.{NamedAlike}
use Rattle.core_forms.proofs.norm.Copies.{alike, Inside, inside_left, inside_right, inside_both, links_one, renamed}
use Rattle.core_forms.proofs.norm.Scopes.{in_right, flipped, flipped_in}

less_one : (n y : ℕ) → suc n ≤ y → n ≤ y
less_one n y h = omega arith

at_least : (n : ℕ) (xs : List Var) → AreFrom n xs → (y : Var) → is_in y xs ≡ true → n ≤ y.0
at_least n [] h y m = clash false m refl
at_least n (x ∷ xs) h y m = go (eqb x.0 y.0) refl m (λ k. at_least (suc n) xs h.1 y k)
  where
    go : (b : Bool) → eqb x.0 y.0 ≡ b → (b || is_in y xs) ≡ true → (is_in y xs ≡ true → suc n ≤ y.0) → n ≤ y.0
    go true e k rec = let p = eqb-true x.0 y.0 e in let q = h.0 in omega (arith, p, q)
    go false e k rec = less_one n y.0 (rec k)

not_next : (n y : ℕ) → y ≡ n → suc n ≤ y → ⊥
not_next n y p q = omega (arith, p, q)

pub order_distinct : (n : ℕ) (xs : List Var) → AreFrom n xs → Distinct xs
order_distinct n [] h = tt
order_distinct n (x ∷ xs) h = (not_in x xs (λ m. not_next n x.0 h.0 (at_least (suc n) xs h.1 x m)), order_distinct (suc n) xs h.1)

here_between : (n k y : ℕ) → y ≡ n → (n ≤ y) × (y < n + suc k)
here_between n k y p = (omega (arith, p), omega (arith, p))

later_between : (n k y : ℕ) → (suc n ≤ y) × (y < suc n + k) → (n ≤ y) × (y < n + suc k)
later_between n k y h = let p = h.0 in let q = h.1 in (omega (arith, p), omega (arith, q))

pub order_between : (n : ℕ) (xs : List Var) → AreFrom n xs → (y : Var) → is_in y xs ≡ true → (n ≤ y.0) × (y.0 < n + length xs)
order_between n [] h y m = clash false m refl
order_between n (x ∷ xs) h y m = go (eqb x.0 y.0) refl m (λ k. order_between (suc n) xs h.1 y k)
  where
    go : (b : Bool) → eqb x.0 y.0 ≡ b → (b || is_in y xs) ≡ true → (is_in y xs ≡ true → (suc n ≤ y.0) × (y.0 < suc n + length xs)) → (n ≤ y.0) × (y.0 < n + suc (length xs))
    go true e k rec = here_between n (length xs) y.0 (sym (eqb-true x.0 y.0 e) ∙ h.0)
    go false e k rec = later_between n (length xs) y.0 (rec k)

all_by_member : (P : Var → Type 0) (xs : List Var) → ((y : Var) → is_in y xs ≡ true → P y) → All P xs
all_by_member P [] f = All-nil P
all_by_member P (x ∷ xs) f = All-cons P x xs (f x (Rattle.core_forms.proofs.inlined_bodies.Names.itself x xs)) (all_by_member P xs (λ y h. f y (Rattle.core_forms.proofs.inlined_bodies.Names.behind_first y x xs h)))

pub in_order : (n : ℕ) (xs : List Var) → AreFrom n xs → Distinct xs × All (IsBetween n (n + length xs)) xs
in_order n xs h = (order_distinct n xs h, all_by_member (IsBetween n (n + length xs)) xs (order_between n xs h))

-- ---- a variable for which no other stands is not used in a copy

module _ (f : Var → Var) (all : List Var) (c : Var) (other : (x : Var) → is_in x all ≡ true → eqb c.0 (f x).0 ≡ false) where
  module _ (scope : List Var) (j : Inside scope all) where
    avoids_all : (xs : List Var) → AllIn xs scope → AvoidsAll c (map f xs)
    avoids_all [] h = tt
    avoids_all (x ∷ xs) h = (other x (j x h.0), avoids_all xs h.1)

    avoids_plain : (p : PlainTerm) → AllIn (plain_uses p) scope → AvoidsAll c (plain_uses (plain_with f p))
    avoids_plain (PlainTerm.Const a) h = tt
    avoids_plain (PlainTerm.Copy x) h = avoids_all (x ∷ []) h
    avoids_plain (PlainTerm.Unary o x) h = avoids_all (x ∷ []) h
    avoids_plain (PlainTerm.Binary o x y) h = avoids_all (x ∷ y ∷ []) h
    avoids_plain (PlainTerm.Literal xs) h = avoids_all xs h
    avoids_plain (PlainTerm.Dim x) h = avoids_all (x ∷ []) h
    avoids_plain (PlainTerm.ShapeOf x) h = avoids_all (x ∷ []) h
    avoids_plain (PlainTerm.Reshape x y) h = avoids_all (x ∷ y ∷ []) h
    avoids_plain (PlainTerm.Select x y) h = avoids_all (x ∷ y ∷ []) h
    avoids_plain (PlainTerm.Replace x y z) h = avoids_all (x ∷ y ∷ z ∷ []) h
    avoids_plain (PlainTerm.Always k) h = tt
    avoids_plain (PlainTerm.Check x t) h = avoids_all (x ∷ []) h

    avoids_op : (o : CoreOp) → AllIn (op_uses o) scope → AvoidsAll c (op_uses (core_op_with f o))
    avoids_op (making.Genarray x y) h = avoids_all (x ∷ y ∷ []) h
    avoids_op (making.Modarray x) h = avoids_all (x ∷ []) h
    avoids_op (making.Fold o x) h = avoids_all (x ∷ []) h

    avoids_parted : (o : PartedOp) → AllIn (parted_uses o) scope → AvoidsAll c (parted_uses (parted_op_with f o))
    avoids_parted parted.Genarray h = tt
    avoids_parted (parted.Modarray x) h = avoids_all (x ∷ []) h
    avoids_parted (parted.Fold o x) h = avoids_all (x ∷ []) h

    avoids_option : (x : Option Var) (us vs : List Var) → AllIn (option_to_list x ++ us) scope → (AllIn us scope → AvoidsAll c vs) → AvoidsAll c (option_to_list (option_map f x) ++ vs)
    avoids_option None us vs h k = k h
    avoids_option (Some x) us vs h k = (other x (j x h.0), k h.1)

    avoids_last : (x : Option Var) → AllIn (option_to_list x) scope → AvoidsAll c (option_to_list (option_map f x))
    avoids_last None h = tt
    avoids_last (Some x) h = (other x (j x h.0), tt)

    avoids_head : (h : GenHead) → AllIn (head_uses h) scope → AvoidsAll c (head_uses (mapped_gen_head f h))
    avoids_head h m = avoids_option h.lower _ _ m (λ m. avoids_option h.upper _ _ m (λ m. avoids_option h.step _ _ m (λ m. avoids_last h.width m)))

  mutual
    avoids : (scope : List Var) (b : BlockTerm) → Scoped scope b → Inside (bound_in b) all → Inside scope all → Avoids c (mapped f b)
    avoids scope (Gives xs) s i j = avoids_all scope j xs s
    avoids scope (Bind xs t r b) s i j =
        let own = inside_left xs (bound_in_right r ++ bound_in b) all i in
        let rest = inside_right xs (bound_in_right r ++ bound_in b) all i in
        (avoids_right scope r s.0 (inside_left (bound_in_right r) (bound_in b) all rest) j, avoids (xs ++ scope) b s.2 (inside_right (bound_in_right r) (bound_in b) all rest) (inside_both xs scope all own j))

    avoids_right : (scope : List Var) (r : RightTerm) → ScopedRight scope r → Inside (bound_in_right r) all → Inside scope all → AvoidsRight c (mapped_right f r)
    avoids_right scope (Plain p) s i j = avoids_plain scope j p s
    avoids_right scope (RightTerm.If x a b) s i j =
        (other x (j x s.0), avoids scope a s.1 (inside_left (bound_in a) (bound_in b) all i) j, avoids scope b s.2 (inside_right (bound_in a) (bound_in b) all i) j)
    avoids_right scope (RightTerm.Loop fb start params test body t) s i j =
        let own = inside_left params (bound_in test ++ bound_in body) all i in
        let rest = inside_right params (bound_in test ++ bound_in body) all i in
        let m = inside_both params scope all own j in
        (avoids_all scope j start s.0, avoids (params ++ scope) test s.2 (inside_left (bound_in test) (bound_in body) all rest) m, avoids (params ++ scope) body s.3 (inside_right (bound_in test) (bound_in body) all rest) m)
    avoids_right scope (RightTerm.Call g xs) s i j = avoids_all scope j xs s
    avoids_right scope (RightTerm.With op gens) s i j = (avoids_op scope j op s.0, avoids_gens scope gens s.1 i j)
    avoids_right scope (RightTerm.Parted frame base cell op parts) s i j = (avoids_parted scope j op s.0, avoids_parts scope parts s.1 i j)

    avoids_gens : (scope : List Var) (g : GensTerm) → ScopedGens scope g → Inside (bound_in_gens g) all → Inside scope all → AvoidsGens c (mapped_gens f g)
    avoids_gens scope NoGens s i j = tt
    avoids_gens scope (Gen h b rest) s i j =
        let xs = h.index ∷ h.names in
        let own = inside_left xs (bound_in b ++ bound_in_gens rest) all i in
        let more = inside_right xs (bound_in b ++ bound_in_gens rest) all i in
        (avoids_head scope j h s.0, avoids (xs ++ scope) b s.2 (inside_left (bound_in b) (bound_in_gens rest) all more) (inside_both xs scope all own j), avoids_gens scope rest s.3 (inside_right (bound_in b) (bound_in_gens rest) all more) j)

    avoids_parts : (scope : List Var) (p : PartsTerm) → ScopedParts scope p → Inside (bound_in_parts p) all → Inside scope all → AvoidsParts c (mapped_parts f p)
    avoids_parts scope NoParts s i j = tt
    avoids_parts scope (Part h b rest) s i j =
        let xs = h.index ∷ [] in
        let own = inside_left xs (bound_in b ++ bound_in_parts rest) all i in
        let more = inside_right xs (bound_in b ++ bound_in_parts rest) all i in
        (avoids (xs ++ scope) b s.1 (inside_left (bound_in b) (bound_in_parts rest) all more) (inside_both xs scope all own j), avoids_parts scope rest s.2 (inside_right (bound_in b) (bound_in_parts rest) all more) j)

-- ---- components

module _ (f : Var → Var) (s : Site) (index : Var) (all : List Var) (apart : (x y : Var) → is_in x all ≡ true → is_in y all ≡ true → eqb (f x).0 (f y).0 ≡ eqb x.0 y.0) (body : BlockTerm) (full : List Var) (scoped : Scoped full body) (bound : Inside (bound_in body) all) (inside : Inside full all) (there : is_in index all ≡ true) where
  abbrev i : Var
  i = f index

  -- no constant stands for another variable
  abbrev Alone : List Var → Type 0
  Alone cs = (c x : Var) → is_in c cs ≡ true → is_in x all ≡ true → eqb c.0 (f x).0 ≡ false

  other_constant : (c d : Var) (cs : List Var) → is_in c (d ∷ cs) ≡ false → eqb c.0 d.0 ≡ false
  other_constant c d cs h = go (eqb c.0 d.0) refl
    where
      go : (b : Bool) → eqb c.0 d.0 ≡ b → eqb c.0 d.0 ≡ false
      go true e = clash (is_in c (d ∷ cs)) (λ j. eq-eqb d.0 c.0 (sym (eqb-true c.0 d.0 e)) j || is_in c cs) h
      go false e = e

  rest_of : (c d : Var) (cs : List Var) → is_in c (d ∷ cs) ≡ false → is_in c cs ≡ false
  rest_of c d cs h = (Rattle.core_ir.proofs.Variables.or_false (eqb d.0 c.0) (is_in c cs) h).1

  unused : (c : Var) → ((x : Var) → is_in x all ≡ true → eqb c.0 (f x).0 ≡ false) → (j : ℕ) (xs cs : List Var) → is_in c cs ≡ false → Avoids c (components s i j f xs cs (mapped f body))
  unused c other j [] cs h = avoids f all c other full body scoped bound inside
  unused c other j (x ∷ xs) [] h = avoids f all c other full body scoped bound inside
  unused c other j (x ∷ xs) (d ∷ cs) h = (tt, ((other index there, (other_constant c d cs h, tt)), unused c other (suc j) xs cs (rest_of c d cs h)))

  named_copy :
      (S : Link) (j : ℕ) (xs cs scope : List Var) → ((x : Var) → is_in x scope ≡ true → S x (f x) ≡ true) → Inside xs all → Inside scope all → ((a : Var) → is_in a full ≡ true → is_in a (flipped xs scope) ≡ true) →
      ((z : Var) → is_in z xs ≡ true → eqb z.0 index.0 ≡ false) → length cs ≡ length xs → Distinct cs → Alone cs → NamedBody S i j xs body (components s i j f xs cs (mapped f body))
  named_copy S j [] cs scope k p q own away l d alone = renamed f all apart S full body scoped bound inside (λ x h. k x (own x h))
  named_copy S j (x ∷ xs) [] scope k p q own away l d alone = absurd (omega (arith, l))
  named_copy S j (x ∷ xs) (c ∷ cs) scope k p q own away l d alone =
      let at = p x (Rattle.core_forms.proofs.inlined_bodies.Names.itself x xs) in
      let first = Rattle.core_forms.proofs.inlined_bodies.Names.itself c cs in (
        c,
        (
          f x,
          (
            s,
            (
              s,
              (
                components s i (suc j) f xs cs (mapped f body),
                (
                  refl,
                  alone c index first there,
                  apart x index at there ∙ away x (Rattle.core_forms.proofs.inlined_bodies.Names.itself x xs),
                  unused c (λ z h. alone c z first h) (suc j) xs cs d.0,
                  named_copy (under S x (f x)) (suc j) xs cs (x ∷ scope) (links_one f all apart S scope x at q k) (λ y h. p y (behind_first y x xs h))
                      (inside_both (x ∷ []) scope all (λ y m. p y (in_left y (x ∷ []) xs m)) q) own (λ z h. away z (behind_first z x xs h)) (omega (arith, l)) d.1 (λ b z h m. alone b z (behind_first b c cs h) m),
                ),
              ),
            ),
          ),
        ),
      )

named_alike : (f : Var → Var) (s : Site) (i : Var) (j : ℕ) (xs cs : List Var) (body : BlockTerm) → length cs ≡ length xs → NamedAlike xs body (components s i j f xs cs (mapped f body))
named_alike f s i j [] cs body l = alike f body
named_alike f s i j (x ∷ xs) [] body l = absurd (omega (arith, l))
named_alike f s i j (x ∷ xs) (c ∷ cs) body l = named_alike f s i (suc j) xs cs body (omega (arith, l))

-- the link of the index
first_link :
    (index : Var) (outer : List Var) (f : Var → Var) → ((x : Var) → is_in x outer ≡ true → f x ≡ x) → ((z : Var) → is_in z outer ≡ true → eqb (f index).0 (f z).0 ≡ eqb index.0 z.0) → (x : Var) →
    is_in x (index ∷ outer) ≡ true → under itself index (f index) x (f x) ≡ true
first_link index outer f same apart x h = go (eqb index.0 x.0) refl h
  where
    go : (b : Bool) → eqb index.0 x.0 ≡ b → (b || is_in x outer) ≡ true → (if eqb index.0 x.0 then eqb (f index).0 (f x).0 else (not (eqb (f index).0 (f x).0) && eqb x.0 (f x).0)) ≡ true
    go true e m = (λ i. if e i then eqb (f index).0 (f x).0 else (not (eqb (f index).0 (f x).0) && eqb x.0 (f x).0)) ∙ eq-eqb (f index).0 (f x).0 (ap (λ (y : Var). (f y).0) (same_number index x e))
    go false e m =
        (λ i. if e i then eqb (f index).0 (f x).0 else (not (eqb (f index).0 (f x).0) && eqb x.0 (f x).0))
        ∙ (λ i. not ((apart x m ∙ e) i) && eqb x.0 (f x).0)
        ∙ eq-eqb x.0 (f x).0 (ap (λ (y : Var). y.0) (sym (same x m)))

apart_from : (index : Var) (xs : List Var) → is_in index xs ≡ false → (z : Var) → is_in z xs ≡ true → eqb z.0 index.0 ≡ false
apart_from index xs d z h = go (eqb z.0 index.0) refl
  where
    go : (b : Bool) → eqb z.0 index.0 ≡ b → eqb z.0 index.0 ≡ false
    go true e = clash (is_in index xs) ((λ j. is_in (sym (same_number z index e) j) xs) ∙ h) d
    go false e = e

pub copies_named :
    (f : Var → Var) (s : Site) (index : Var) (xs cs outer : List Var) (body : BlockTerm) → Scoped ((index ∷ xs) ++ outer) body →
    ((x y : Var) → is_in x (bound_in body ++ ((index ∷ xs) ++ outer)) ≡ true → is_in y (bound_in body ++ ((index ∷ xs) ++ outer)) ≡ true → eqb (f x).0 (f y).0 ≡ eqb x.0 y.0) →
    Distinct (index ∷ xs) → length cs ≡ length xs → Distinct cs → ((x : Var) → is_in x outer ≡ true → f x ≡ x) →
    ((c x : Var) → is_in c cs ≡ true → is_in x (bound_in body ++ ((index ∷ xs) ++ outer)) ≡ true → eqb c.0 (f x).0 ≡ false) →
    NamedBody (under itself index (f index)) (f index) 0 xs body (components s (f index) 0 f xs cs (mapped f body)) × NamedAlike xs body (components s (f index) 0 f xs cs (mapped f body))
copies_named f s index xs cs outer body scoped apart d l dc same alone =
    let full = (index ∷ xs) ++ outer in
    let all = bound_in body ++ full in
    let there : is_in index all ≡ true = in_right index (bound_in body) full (Rattle.core_forms.proofs.inlined_bodies.Names.itself index (xs ++ outer)) in
    let inside : Inside full all = λ y h. in_right y (bound_in body) full h in (
      named_copy f s index all apart body full scoped (λ y h. in_left y (bound_in body) full h) inside there (under itself index (f index)) 0 xs cs (index ∷ outer)
          (first_link index outer f same (λ z h. apart index z there (inside z (in_right z (index ∷ xs) outer h))))
          (λ y h. inside y (behind_first y index (xs ++ outer) (in_left y xs outer h)))
          (inside_both (index ∷ []) outer all (λ y m. inside y (in_left y (index ∷ []) (xs ++ outer) m)) (λ y h. inside y (in_right y (index ∷ xs) outer h)))
          (λ a h. sym (flipped_in a (index ∷ xs) outer) ∙ h) (apart_from index xs d.0) l dc alone,
      named_alike f s (f index) 0 xs cs body l,
    )
