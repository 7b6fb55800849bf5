-- Copies are scoped, and so are blocks in which a with-loop became a parted loop with new variables.
use Rattle.std.proofs.Common.{◌≡◌, ℕ, zero, suc, Bool, true, false, not, ◌&&◌, ◌||◌, eqb, List, [], ◌∷◌, ◌++◌, Option, Some, None, refl, sym, subst, ◌∙◌, inl, inr}
use Rattle.std.specs.Prelude.{if◌then◌else◌, option_to_list}
use Rattle.core_ir.specs.declared.tree.Var.{Var}
use Rattle.core_ir.specs.declared.tree.CoreOp.{CoreOp}
use Rattle.core_ir.specs.declared.tree.CoreOp.TheVariants as making
use Rattle.core_ir.specs.declared.tree.PartedOp.{PartedOp}
use Rattle.core_ir.specs.declared.tree.PartedOp.TheVariants as parted
use Rattle.core_ir.specs.Binders.{is_in, bound_in, bound_in_right, bound_in_gens, bound_in_parts}
use Rattle.core_ir.specs.Renaming.{Link, Linked, LinkedOption, Renamed, RenamedRight, RenamedGens, RenamedParts, RenamedPlain, RenamedCoreOp, RenamedPartedOp, under, under_all}
use Rattle.core_ir.specs.Scopes.{AllIn, Scoped, ScopedRight, ScopedGens, ScopedParts, plain_uses, op_uses, parted_uses, head_uses}
use Rattle.core_ir.specs.Terms.{PlainTerm, BlockTerm, RightTerm, GensTerm, PartsTerm, GenHead, PartHead, Gives, Bind, Plain, NoGens, Gen, NoParts, Part}
use Rattle.core_ir.specs.WellFormed.{Distinct}
use Rattle.core_ir.proofs.Variables.{in_more, same_number}
use Rattle.core_loops.specs.Steps.{itself}
use Rattle.core_loops.specs.norm_steps.Genarray.{GenAt, NamedBody}
use Rattle.core_forms.proofs.inlined_bodies.Names.{clash, in_none, in_left, behind_first, none_by, distinct_left, distinct_right, distinct_apart}
use Rattle.core_forms.proofs.inlined_bodies.Names as names
use Rattle.core_forms.proofs.norm.Made.{Made, MadeParts}

-- none of the first list is in the second
abbrev pub Away : List Var → List Var → Type 0
Away xs zs = (y : Var) → is_in y xs ≡ true → is_in y zs ≡ false

pub in_right : (y : Var) (xs zs : List Var) → is_in y zs ≡ true → is_in y (xs ++ zs) ≡ true
in_right y xs zs h = in_more y xs zs ∙ Rattle.core_ir.proofs.Variables.or_right (is_in y xs) (is_in y zs) h

pub away_left : (xs ys zs : List Var) → Away (xs ++ ys) zs → Away xs zs
away_left xs ys zs h = λ y p. h y (in_left y xs ys p)

pub away_right : (xs ys zs : List Var) → Away (xs ++ ys) zs → Away ys zs
away_right xs ys zs h = λ y p. h y (in_right y xs ys p)

-- below binders that are new
away_below : (xs ys wider : List Var) → Distinct (xs ++ ys) → Away (xs ++ ys) wider → Away ys (xs ++ wider)
away_below xs ys wider d h = λ y p. in_none y xs wider (names.not_in y xs (λ q. clash (is_in y ys) p (distinct_apart xs ys d y q))) (h y (in_right y xs ys p))

-- ---- what a link carries

-- what is linked with a variable in scope is in the other scope
abbrev pub Carries : Link → List Var → List Var → Type 0
Carries S scope wider = (x y : Var) → S x y ≡ true → is_in x scope ≡ true → is_in y wider ≡ true

pub carries_one : (S : Link) (scope wider : List Var) (x y : Var) → Carries S scope wider → Carries (under S x y) (x ∷ scope) (y ∷ wider)
carries_one S scope wider x y k a b h m = go (eqb x.0 a.0) (eqb y.0 b.0) h m
  where
    go : (p q : Bool) → (if p then q else (not q && S a b)) ≡ true → (p || is_in a scope) ≡ true → (q || is_in b wider) ≡ true
    go p true h m = refl
    go true false h m = clash false h refl
    go false false h m = k a b h m

pub turned : (a x : Var) (xs scope : List Var) → is_in a (x ∷ (xs ++ scope)) ≡ is_in a (xs ++ (x ∷ scope))
turned a x xs scope = (λ i. eqb x.0 a.0 || in_more a xs scope i) ∙ shuffle (eqb x.0 a.0) (is_in a xs) (is_in a scope) ∙ sym (in_more a xs (x ∷ scope))
  where
    shuffle : (p q r : Bool) → (p || (q || r)) ≡ (q || (p || r))
    shuffle true true r = refl
    shuffle true false r = refl
    shuffle false q r = refl

pub carries_all : (S : Link) (scope wider : List Var) (xs ys : List Var) → Carries S scope wider → Carries (under_all S xs ys) (xs ++ scope) (ys ++ wider)
carries_all S scope wider [] [] k a b h m = k a b h m
carries_all S scope wider (x ∷ xs) (y ∷ ys) k a b h m =
    turned b y ys wider ∙ carries_all (under S x y) (x ∷ scope) (y ∷ wider) xs ys (carries_one S scope wider x y k) a b h (sym (turned a x xs scope) ∙ m)
carries_all S scope wider [] (y ∷ ys) k a b h m = clash false h refl
carries_all S scope wider (x ∷ xs) [] k a b h m = clash false h refl

module _ (S : Link) (scope wider : List Var) (k : Carries S scope wider) where
  linked_in : (xs ys : List Var) → Linked S xs ys → AllIn xs scope → AllIn ys wider
  linked_in [] [] h m = tt
  linked_in (x ∷ xs) (y ∷ ys) h m = (k x y h.0 m.0, linked_in xs ys h.1 m.1)
  linked_in [] (y ∷ ys) h m = absurd h
  linked_in (x ∷ xs) [] h m = absurd h

  plain_in : (p q : PlainTerm) → RenamedPlain S p q → AllIn (plain_uses p) scope → AllIn (plain_uses q) wider
  plain_in (PlainTerm.Const a) (PlainTerm.Const b) h m = tt
  plain_in (PlainTerm.Copy x) (PlainTerm.Copy y) h m = (k x y h m.0, tt)
  plain_in (PlainTerm.Unary o x) (PlainTerm.Unary o' y) h m = (k x y h.1 m.0, tt)
  plain_in (PlainTerm.Binary o x x') (PlainTerm.Binary o' y y') h m = (k x y h.1 m.0, (k x' y' h.2 m.1.0, tt))
  plain_in (PlainTerm.Literal xs) (PlainTerm.Literal ys) h m = linked_in xs ys h m
  plain_in (PlainTerm.Dim x) (PlainTerm.Dim y) h m = (k x y h m.0, tt)
  plain_in (PlainTerm.ShapeOf x) (PlainTerm.ShapeOf y) h m = (k x y h m.0, tt)
  plain_in (PlainTerm.Reshape x x') (PlainTerm.Reshape y y') h m = (k x y h.0 m.0, (k x' y' h.1 m.1.0, tt))
  plain_in (PlainTerm.Select x x') (PlainTerm.Select y y') h m = (k x y h.0 m.0, (k x' y' h.1 m.1.0, tt))
  plain_in (PlainTerm.Replace x x' x'') (PlainTerm.Replace y y' y'') h m = (k x y h.0 m.0, (k x' y' h.1 m.1.0, (k x'' y'' h.2 m.1.1.0, tt)))
  plain_in (PlainTerm.Always u) (PlainTerm.Always l) h m = tt
  plain_in (PlainTerm.Check x t) (PlainTerm.Check y u) h m = (k x y h.1 m.0, tt)
  plain_in _ _ h m = absurd h

  op_in : (o p : CoreOp) → RenamedCoreOp S o p → AllIn (op_uses o) scope → AllIn (op_uses p) wider
  op_in (making.Genarray x x') (making.Genarray y y') h m = (k x y h.0 m.0, (k x' y' h.1 m.1.0, tt))
  op_in (making.Modarray x) (making.Modarray y) h m = (k x y h m.0, tt)
  op_in (making.Fold o x) (making.Fold o' y) h m = (k x y h.1 m.0, tt)
  op_in _ _ h m = absurd h

  parted_in : (o p : PartedOp) → RenamedPartedOp S o p → AllIn (parted_uses o) scope → AllIn (parted_uses p) wider
  parted_in parted.Genarray parted.Genarray h m = tt
  parted_in (parted.Modarray x) (parted.Modarray y) h m = (k x y h m.0, tt)
  parted_in (parted.Fold o x) (parted.Fold o' y) h m = (k x y h.1 m.0, tt)
  parted_in _ _ h m = absurd h

  option_in : (x y : Option Var) (us vs : List Var) → LinkedOption S x y → AllIn (option_to_list x ++ us) scope → (AllIn us scope → AllIn vs wider) → AllIn (option_to_list y ++ vs) wider
  option_in None None us vs h m r = r m
  option_in (Some x) (Some y) us vs h m r = (k x y h m.0, r m.1)
  option_in None (Some y) us vs h m r = absurd h
  option_in (Some x) None us vs h m r = absurd h

  last_in : (x y : Option Var) → LinkedOption S x y → AllIn (option_to_list x) scope → AllIn (option_to_list y) wider
  last_in None None h m = tt
  last_in (Some x) (Some y) h m = (k x y h m.0, tt)
  last_in None (Some y) h m = absurd h
  last_in (Some x) None h m = absurd h

  head_in : (h g : GenHead) → Rattle.core_ir.specs.Renaming.RenamedGenHead S h g → AllIn (head_uses h) scope → AllIn (head_uses g) wider
  head_in h g r m = option_in h.lower g.lower _ _ r.4 m (λ m. option_in h.upper g.upper _ _ r.5 m (λ m. option_in h.step g.step _ _ r.6 m (λ m. last_in h.width g.width r.7 m)))

-- ---- copies

mutual
  pub copy_scoped : (S : Link) (b c : BlockTerm) (scope wider : List Var) → Renamed S b c → Carries S scope wider → Scoped scope b → Distinct (bound_in c) → Away (bound_in c) wider → Scoped wider c
  copy_scoped S (Gives xs) (Gives ys) scope wider h k s d w = linked_in S scope wider k xs ys h s
  copy_scoped S (Bind xs t r b) (Bind ys u q c) scope wider h k s d w =
      let inner = away_right ys (bound_in_right q ++ bound_in c) wider w in
      let dr = distinct_right ys (bound_in_right q ++ bound_in c) d in (
        copy_scoped_right S r q scope wider h.1 k s.0 (distinct_left (bound_in_right q) (bound_in c) dr) (away_left (bound_in_right q) (bound_in c) wider inner),
        none_by ys wider (away_left ys (bound_in_right q ++ bound_in c) wider w),
        copy_scoped (under_all S xs ys) b c (xs ++ scope) (ys ++ wider) h.2 (carries_all S scope wider xs ys k) s.2 (distinct_right (bound_in_right q) (bound_in c) dr)
            (away_right (bound_in_right q) (bound_in c) (ys ++ wider) (away_below ys (bound_in_right q ++ bound_in c) wider d w)),
      )
  copy_scoped S (Gives xs) (Bind ys t q c) scope wider h k s d w = absurd h
  copy_scoped S (Bind xs t r b) (Gives ys) scope wider h k s d w = absurd h

  copy_scoped_right : (S : Link) (r q : RightTerm) (scope wider : List Var) → RenamedRight S r q → Carries S scope wider → ScopedRight scope r → Distinct (bound_in_right q) → Away (bound_in_right q) wider → ScopedRight wider q
  copy_scoped_right S (Plain p) (Plain q) scope wider h k s d w = plain_in S scope wider k p q h s
  copy_scoped_right S (RightTerm.If x a b) (RightTerm.If y c e) scope wider h k s d w = (
    k x y h.0 s.0,
    copy_scoped S a c scope wider h.1 k s.1 (distinct_left (bound_in c) (bound_in e) d) (away_left (bound_in c) (bound_in e) wider w),
    copy_scoped S b e scope wider h.2 k s.2 (distinct_right (bound_in c) (bound_in e) d) (away_right (bound_in c) (bound_in e) wider w),
  )
  copy_scoped_right S (RightTerm.Loop f xs ps a b u) (RightTerm.Loop g ys qs c e v) scope wider h k s d w =
      let rest = bound_in c ++ bound_in e in
      let dr = distinct_right qs rest d in
      let wr = away_below qs rest wider d w in
      let kr = carries_all S scope wider ps qs k in (
        linked_in S scope wider k xs ys h.2 s.0,
        none_by qs wider (away_left qs rest wider w),
        copy_scoped (under_all S ps qs) a c (ps ++ scope) (qs ++ wider) h.3 kr s.2 (distinct_left (bound_in c) (bound_in e) dr) (away_left (bound_in c) (bound_in e) (qs ++ wider) wr),
        copy_scoped (under_all S ps qs) b e (ps ++ scope) (qs ++ wider) h.4 kr s.3 (distinct_right (bound_in c) (bound_in e) dr) (away_right (bound_in c) (bound_in e) (qs ++ wider) wr),
      )
  copy_scoped_right S (RightTerm.Call g xs) (RightTerm.Call g' ys) scope wider h k s d w = linked_in S scope wider k xs ys h.1 s
  copy_scoped_right S (RightTerm.With o g) (RightTerm.With p g') scope wider h k s d w = (op_in S scope wider k o p h.0 s.0, copy_scoped_gens S g g' scope wider h.1 k s.1 d w)
  copy_scoped_right S (RightTerm.Parted fr b c o p) (RightTerm.Parted fr' b' c' o' q) scope wider h k s d w =
      (parted_in S scope wider k o o' h.3 s.0, copy_scoped_parts S p q scope wider h.4 k s.1 d w)
  copy_scoped_right S _ _ scope wider h k s d w = absurd h

  copy_scoped_gens : (S : Link) (g c : GensTerm) (scope wider : List Var) → RenamedGens S g c → Carries S scope wider → ScopedGens scope g → Distinct (bound_in_gens c) → Away (bound_in_gens c) wider → ScopedGens wider c
  copy_scoped_gens S NoGens NoGens scope wider h k s d w = tt
  copy_scoped_gens S (Gen x b r) (Gen y c q) scope wider h k s d w =
      let ys = y.index ∷ y.names in
      let rest = bound_in c ++ bound_in_gens q in
      let dr = distinct_right ys rest d in (
        head_in S scope wider k x y h.0 s.0,
        none_by ys wider (away_left ys rest wider w),
        copy_scoped (under_all S (x.index ∷ x.names) ys) b c ((x.index ∷ x.names) ++ scope) (ys ++ wider) h.1 (carries_all S scope wider (x.index ∷ x.names) ys k) s.2
            (distinct_left (bound_in c) (bound_in_gens q) dr) (away_left (bound_in c) (bound_in_gens q) (ys ++ wider) (away_below ys rest wider d w)),
        copy_scoped_gens S r q scope wider h.2 k s.3 (distinct_right (bound_in c) (bound_in_gens q) dr) (away_right (bound_in c) (bound_in_gens q) wider (away_right ys rest wider w)),
      )
  copy_scoped_gens S _ _ scope wider h k s d w = absurd h

  copy_scoped_parts : (S : Link) (g c : PartsTerm) (scope wider : List Var) → RenamedParts S g c → Carries S scope wider → ScopedParts scope g → Distinct (bound_in_parts c) → Away (bound_in_parts c) wider → ScopedParts wider c
  copy_scoped_parts S NoParts NoParts scope wider h k s d w = tt
  copy_scoped_parts S (Part x b r) (Part y c q) scope wider h k s d w =
      let ys = y.index ∷ [] in
      let rest = bound_in c ++ bound_in_parts q in
      let dr = distinct_right ys rest d in (
        w y.index (names.itself y.index rest),
        copy_scoped (under_all S (x.index ∷ []) ys) b c ((x.index ∷ []) ++ scope) (ys ++ wider) h.2 (carries_all S scope wider (x.index ∷ []) ys k) s.1
            (distinct_left (bound_in c) (bound_in_parts q) dr) (away_left (bound_in c) (bound_in_parts q) (ys ++ wider) (away_below ys rest wider d w)),
        copy_scoped_parts S r q scope wider h.3 k s.2 (distinct_right (bound_in c) (bound_in_parts q) dr) (away_right (bound_in c) (bound_in_parts q) wider (away_right ys rest wider w)),
      )
  copy_scoped_parts S _ _ scope wider h k s d w = absurd h

-- ---- parts

-- the variables, each put before those in scope
abbrev pub flipped : List Var → List Var → List Var
flipped [] scope = scope
flipped (x ∷ xs) scope = flipped xs (x ∷ scope)

pub flipped_in : (a : Var) (xs scope : List Var) → is_in a (xs ++ scope) ≡ is_in a (flipped xs scope)
flipped_in a [] scope = refl
flipped_in a (x ∷ xs) scope = turned a x xs scope ∙ flipped_in a xs (x ∷ scope)

named_scoped :
    (S : Link) (i : Var) (j : ℕ) (xs : List Var) (body b : BlockTerm) (own scope wider : List Var) → NamedBody S i j xs body b → Carries S scope wider →
    is_in i wider ≡ true → ((a : Var) → is_in a own ≡ true → is_in a (flipped xs scope) ≡ true) → Scoped own body → Distinct (bound_in b) → Away (bound_in b) wider → Scoped wider b
named_scoped S i j [] body b own scope wider n k at f s d w = copy_scoped S body b own wider n (λ x y h m. k x y h (f x m)) s d w
named_scoped S i j (x ∷ xs) body b own scope wider n k at f s d w =
    let c = n.0 in
    let y = n.1.0 in
    let rest = n.1.1.1.1.0 in
    let q = n.1.1.1.1.1 in
    let dq : Distinct (c ∷ (y ∷ bound_in rest)) = subst (λ (z : BlockTerm). Distinct (bound_in z)) q.0 d in
    let wq : Away (c ∷ (y ∷ bound_in rest)) wider = subst (λ (z : BlockTerm). Away (bound_in z) wider) q.0 w in
    let w1 : Away (y ∷ bound_in rest) (c ∷ wider) = away_below (c ∷ []) (y ∷ bound_in rest) wider dq wq in
    let w2 : Away (bound_in rest) (y ∷ (c ∷ wider)) = away_below (y ∷ []) (bound_in rest) (c ∷ wider) dq.1 w1 in
    let more : Carries S scope (c ∷ wider) = λ a z h m. behind_first z c wider (k a z h m) in
    subst (Scoped wider) (sym q.0) (
      tt,
      (wq c (names.itself c (y ∷ bound_in rest)), tt),
      (
        (behind_first i c wider at, (names.itself c wider, tt)),
        (w1 y (names.itself y (bound_in rest)), tt),
        named_scoped (under S x y) i (suc j) xs body rest own (x ∷ scope) (y ∷ (c ∷ wider)) q.4 (carries_one S scope (c ∷ wider) x y more)
            (behind_first i y (c ∷ wider) (behind_first i c wider at)) f s dq.1.1 w2,
      ),
    )

gen_scoped : (gens : GensTerm) (n : ℕ) (h : GenHead) (b : BlockTerm) (scope : List Var) → GenAt gens n h b → ScopedGens scope gens → Scoped ((h.index ∷ h.names) ++ scope) b
gen_scoped NoGens n h b scope p s = absurd p
gen_scoped (Gen x y rest) zero h b scope p s =
    subst (λ (g : GenHead). Scoped ((g.index ∷ g.names) ++ scope) b) p.0 (subst (Scoped ((x.index ∷ x.names) ++ scope)) p.1 s.2)
gen_scoped (Gen x y rest) (suc n) h b scope p s = gen_scoped rest n h b scope p s.3

same_carries : (scope : List Var) → Carries itself scope scope
same_carries scope x y h m = (λ i. is_in (sym (same_number x y h) i) scope) ∙ m

made_scoped :
    (axes : ℕ) (v : Var) (gens : GensTerm) (h : PartHead) (b : BlockTerm) (scope : List Var) → Made axes v gens h b → is_in v scope ≡ true → ScopedGens scope gens →
    Distinct (bound_in b) → Away (bound_in b) (h.index ∷ scope) → Scoped (h.index ∷ scope) b
made_scoped axes v gens h b scope (inl c) at s d w =
    named_scoped (under itself c.head.index h.index) h.index 0 c.head.names c.body b ((c.head.index ∷ c.head.names) ++ scope) (c.head.index ∷ scope) (h.index ∷ scope) c.named
    (carries_one itself scope scope c.head.index h.index (same_carries scope)) (names.itself h.index scope)
    (λ a m. sym (flipped_in a (c.head.index ∷ c.head.names) scope) ∙ m) (gen_scoped gens c.place c.head c.body scope c.stands s) d w
made_scoped axes v gens h b scope (inr (inl e)) at s d w = subst (Scoped (h.index ∷ scope)) (sym e.0) (behind_first v h.index scope at, tt)
made_scoped axes v gens h b scope (inr (inr e)) at s d w =
    let z = e.0 in
    let q = e.1.1 in
    subst (Scoped (h.index ∷ scope)) (sym q.0) (
      (behind_first v h.index scope at, (names.itself h.index scope, tt)),
      (w z (subst (λ (c : BlockTerm). is_in z (bound_in c) ≡ true) (sym q.0) (names.itself z [])), tt),
      (names.itself z (h.index ∷ scope), tt),
    )

pub parts_scoped :
    (axes : ℕ) (v : Var) (gens : GensTerm) (parts : PartsTerm) (scope : List Var) → MadeParts axes v gens parts → is_in v scope ≡ true → ScopedGens scope gens →
    Distinct (bound_in_parts parts) → Away (bound_in_parts parts) scope → ScopedParts scope parts
parts_scoped axes v gens NoParts scope h at s d w = tt
parts_scoped axes v gens (Part x b rest) scope h at s d w =
    let own = x.index ∷ [] in
    let more = bound_in b ++ bound_in_parts rest in
    let dr = distinct_right own more d in (
      w x.index (names.itself x.index more),
      made_scoped axes v gens x b scope h.0 at s (distinct_left (bound_in b) (bound_in_parts rest) dr) (away_left (bound_in b) (bound_in_parts rest) (own ++ scope) (away_below own more scope d w)),
      parts_scoped axes v gens rest scope h.1 at s (distinct_right (bound_in b) (bound_in_parts rest) dr) (away_right (bound_in b) (bound_in_parts rest) scope (away_right own more scope w)),
    )
