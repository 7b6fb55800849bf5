-- A term in scope means the same under environments that agree on its scope.
use Rattle.std.proofs.Common.{◌≡◌, ℕ, Bool, true, false, ◌||◌, ◌&&◌, eqb, List, [], ◌∷◌, ◌++◌, Option, Some, None, refl, sym, ap, ◌∙◌}
use Rattle.std.specs.Prelude.{option_to_list}
use Rattle.sac_base.specs.declared.site.Site.{Site}
use Rattle.core_ir.specs.declared.tree.Var.{Var}
use Rattle.core_ir.specs.declared.tree.CoreOp.{CoreOp}
use Rattle.core_ir.specs.declared.tree.CoreOp.TheVariants as making
use Rattle.core_ir.specs.declared.tree.PartedOp.{PartedOp}
use Rattle.core_ir.specs.declared.tree.PartedOp.TheVariants as parted
use Rattle.core_ir.specs.Terms.{PlainTerm, BlockTerm, RightTerm, GensTerm, PartsTerm, GenHead, Gives, Bind, Plain, NoGens, Gen, NoParts, Part}
use Rattle.core_ir.specs.Meaning.{Env, CallMeaning, run, right_value}
use Rattle.core_ir.specs.Binders.{is_in}
use Rattle.core_ir.specs.Scopes.{AllIn, AgreeOn, plain_uses, op_uses, parted_uses, head_uses, Scoped, ScopedRight, ScopedGens, ScopedParts}
use Rattle.core_ir.specs.Renaming.{Link, Linked, LinkedOption, under, under_all, RenamedPlain, RenamedCoreOp, RenamedPartedOp, RenamedGenHead, Renamed, RenamedRight, RenamedGens, RenamedParts}
use Rattle.core_ir.proofs.Renamed.{under_here, under_there, renamed, renamed_right}
use Rattle.std.proofs.lemmas.Bool.{eq-eqb}
use Rattle.core_ir.proofs.Variables.{same_number, in_more}

-- the link is of each variable in scope with itself
abbrev pub SelfOn : List Var → Link → Type 0
SelfOn scope S = (y : Var) → is_in y scope ≡ true → S y y ≡ true

on_right : (a b : Bool) → a ≡ false → (a || b) ≡ true → b ≡ true
on_right a b p q = sym (λ i. p i || b) ∙ q

on_under : (x : Var) (scope : List Var) (S : Link) → SelfOn scope S → SelfOn (x ∷ scope) (under S x x)
on_under x scope S h y k = go (eqb x.0 y.0) refl
  where
    go : (b : Bool) → eqb x.0 y.0 ≡ b → under S x x y y ≡ true
    go true e = under_here S x x y y e e
    go false e = under_there S x x y y e e (h y (on_right (eqb x.0 y.0) _ e k))

-- scopes as sets
same_scope : (scope scope' : List Var) (S : Link) → ((y : Var) → is_in y scope' ≡ true → is_in y scope ≡ true) → SelfOn scope S → SelfOn scope' S
same_scope scope scope' S m h y k = h y (m y k)

swap : (x y : Var) (xs scope : List Var) → is_in y ((x ∷ xs) ++ scope) ≡ true → is_in y (xs ++ (x ∷ scope)) ≡ true
swap x y xs scope k = in_more y xs (x ∷ scope) ∙ turn (eqb x.0 y.0) (is_in y xs) (is_in y scope) (sym (ap (λ b. eqb x.0 y.0 || b) (in_more y xs scope)) ∙ k)
  where
    turn : (a b c : Bool) → (a || (b || c)) ≡ true → (b || (a || c)) ≡ true
    turn true true c h = refl
    turn true false c h = refl
    turn false true c h = refl
    turn false false c h = h

on_under_all : (xs scope : List Var) (S : Link) → SelfOn scope S → SelfOn (xs ++ scope) (under_all S xs xs)
on_under_all [] scope S h = h
on_under_all (x ∷ xs) scope S h = same_scope (xs ++ (x ∷ scope)) ((x ∷ xs) ++ scope) (under_all (under S x x) xs xs) (λ y k. swap x y xs scope k) (on_under_all xs (x ∷ scope) (under S x x) (on_under x scope S h))

linked_on : (scope : List Var) (S : Link) (ys : List Var) → SelfOn scope S → AllIn ys scope → Linked S ys ys
linked_on scope S [] h a = tt
linked_on scope S (y ∷ ys) h a = (h y a.0, linked_on scope S ys h a.1)

plain_on : (scope : List Var) (S : Link) (p : PlainTerm) → SelfOn scope S → AllIn (plain_uses p) scope → RenamedPlain S p p
plain_on scope S (PlainTerm.Const a) h n = refl
plain_on scope S (PlainTerm.Copy y) h n = h y n.0
plain_on scope S (PlainTerm.Unary o y) h n = (refl, h y n.0)
plain_on scope S (PlainTerm.Binary o y z) h n = (refl, h y n.0, h z n.1.0)
plain_on scope S (PlainTerm.Literal ys) h n = linked_on scope S ys h n
plain_on scope S (PlainTerm.Dim y) h n = h y n.0
plain_on scope S (PlainTerm.ShapeOf y) h n = h y n.0
plain_on scope S (PlainTerm.Reshape y z) h n = (h y n.0, h z n.1.0)
plain_on scope S (PlainTerm.Select y z) h n = (h y n.0, h z n.1.0)
plain_on scope S (PlainTerm.Replace y z w) h n = (h y n.0, h z n.1.0, h w n.1.1.0)
plain_on scope S (PlainTerm.Always k) h n = refl
plain_on scope S (PlainTerm.Check y t) h n = (refl, h y n.0)

core_op_on : (scope : List Var) (S : Link) (o : CoreOp) → SelfOn scope S → AllIn (op_uses o) scope → RenamedCoreOp S o o
core_op_on scope S (making.Genarray y z) h n = (h y n.0, h z n.1.0)
core_op_on scope S (making.Modarray y) h n = h y n.0
core_op_on scope S (making.Fold o y) h n = (refl, h y n.0)

parted_op_on : (scope : List Var) (S : Link) (o : PartedOp) → SelfOn scope S → AllIn (parted_uses o) scope → RenamedPartedOp S o o
parted_op_on scope S parted.Genarray h n = tt
parted_op_on scope S (parted.Modarray y) h n = h y n.0
parted_op_on scope S (parted.Fold o y) h n = (refl, h y n.0)

all_front : (ys zs scope : List Var) → AllIn (ys ++ zs) scope → AllIn ys scope
all_front [] zs scope h = tt
all_front (y ∷ ys) zs scope h = (h.0, all_front ys zs scope h.1)

all_back : (ys zs scope : List Var) → AllIn (ys ++ zs) scope → AllIn zs scope
all_back [] zs scope h = h
all_back (y ∷ ys) zs scope h = all_back ys zs scope h.1

option_on : (scope : List Var) (S : Link) (o : Option Var) → SelfOn scope S → AllIn (option_to_list o) scope → LinkedOption S o o
option_on scope S None h n = tt
option_on scope S (Some y) h n = h y n.0

head_on : (scope : List Var) (S : Link) (g : GenHead) → SelfOn scope S → AllIn (head_uses g) scope → RenamedGenHead S g g
head_on scope S g h n =
    let n1 = all_back (option_to_list g.lower) _ scope n in
    let n2 = all_back (option_to_list g.upper) _ scope n1 in
    (refl, refl, refl, refl, option_on scope S g.lower h (all_front (option_to_list g.lower) _ scope n), option_on scope S g.upper h (all_front (option_to_list g.upper) _ scope n1), option_on scope S g.step h (all_front (option_to_list g.step) _ scope n2), option_on scope S g.width h (all_back (option_to_list g.step) _ scope n2))

mutual
  renamed_on : (scope : List Var) (S : Link) (b : BlockTerm) → SelfOn scope S → Scoped scope b → Renamed S b b
  renamed_on scope S (Gives ys) h n = linked_on scope S ys h n
  renamed_on scope S (Bind ys s r b) h n = (refl, right_on scope S r h n.0, renamed_on (ys ++ scope) (under_all S ys ys) b (on_under_all ys scope S h) n.2)

  right_on : (scope : List Var) (S : Link) (r : RightTerm) → SelfOn scope S → ScopedRight scope r → RenamedRight S r r
  right_on scope S (Plain p) h n = plain_on scope S p h n
  right_on scope S (RightTerm.If y a b) h n = (h y n.0, renamed_on scope S a h n.1, renamed_on scope S b h n.2)
  right_on scope S (RightTerm.Loop f start params a b s) h n =
      let k = on_under_all params scope S h in
      (refl, refl, linked_on scope S start h n.0, renamed_on (params ++ scope) (under_all S params params) a k n.2, renamed_on (params ++ scope) (under_all S params params) b k n.3)
  right_on scope S (RightTerm.Call g ys) h n = (refl, linked_on scope S ys h n)
  right_on scope S (RightTerm.With o gens) h n = (core_op_on scope S o h n.0, gens_on scope S gens h n.1)
  right_on scope S (RightTerm.Parted f b c o parts) h n = (refl, refl, refl, parted_op_on scope S o h n.0, parts_on scope S parts h n.1)

  gens_on : (scope : List Var) (S : Link) (g : GensTerm) → SelfOn scope S → ScopedGens scope g → RenamedGens S g g
  gens_on scope S NoGens h n = tt
  gens_on scope S (Gen g b rest) h n =
      (head_on scope S g h n.0, renamed_on ((g.index ∷ g.names) ++ scope) (under_all (under S g.index g.index) g.names g.names) b (on_under_all (g.index ∷ g.names) scope S h) n.2, gens_on scope S rest h n.3)

  parts_on : (scope : List Var) (S : Link) (g : PartsTerm) → SelfOn scope S → ScopedParts scope g → RenamedParts S g g
  parts_on scope S NoParts h n = tt
  parts_on scope S (Part g b rest) h n = (refl, refl, renamed_on (g.index ∷ scope) (under S g.index g.index) b (on_under g.index scope S h) n.1, parts_on scope S rest h n.2)

-- the link of the variables in scope
abbrev scope_link : List Var → Link
scope_link scope y z = is_in y scope && eqb y.0 z.0

in_link : (scope : List Var) (y : Var) → is_in y scope ≡ true → scope_link scope y y ≡ true
in_link scope y k = (λ i. k i && eqb y.0 y.0) ∙ eq-eqb y.0 y.0 refl

of_link : (scope : List Var) (y z : Var) → scope_link scope y z ≡ true → (y ≡ z) × (is_in y scope ≡ true)
of_link scope y z h = go (is_in y scope) refl
  where
    go : (b : Bool) → is_in y scope ≡ b → (y ≡ z) × (is_in y scope ≡ true)
    go false e = absurd (let k : (false && eqb y.0 z.0) ≡ true = sym (λ i. e i && eqb y.0 z.0) ∙ h in cc)
    go true e = (same_number y z (sym (λ i. e i && eqb y.0 z.0) ∙ h), e)

pub same_on : (calls : CallMeaning) (turns : ℕ) (scope : List Var) (b : BlockTerm) (e f : Env) → Scoped scope b → AgreeOn scope e f → run calls turns b e ≡ run calls turns b f
same_on calls turns scope b e f n h =
    renamed calls turns (scope_link scope) e f b b (λ y z p. let q = of_link scope y z p in h y q.1 ∙ ap f q.0) (renamed_on scope (scope_link scope) b (in_link scope) n)

pub same_on_right : (calls : CallMeaning) (turns : ℕ) (scope : List Var) (r : RightTerm) (s : Site) (e f : Env) → ScopedRight scope r → AgreeOn scope e f → right_value calls turns r s e ≡ right_value calls turns r s f
same_on_right calls turns scope r s e f n h =
    renamed_right calls turns (scope_link scope) e f r r s s (λ y z p. let q = of_link scope y z p in h y q.1 ∙ ap f q.0) refl (right_on scope (scope_link scope) r (in_link scope) n)
