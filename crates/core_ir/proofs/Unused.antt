-- A variable that is not used has no say.
use Rattle.std.proofs.Common.{◌≡◌, ℕ, Bool, true, false, not, ◌&&◌, cond, eqb, List, [], ◌∷◌, ◌++◌, Option, Some, None, Ok, refl, sym, ap, ◌∙◌}
use Rattle.std.specs.Prelude.{option_to_list}
use Rattle.sac_base.specs.Arrays.{ArrayValue}
use Rattle.sac_base.specs.declared.site.Site.{Site}
use Rattle.core_ir.specs.declared.tree.Var.{Var}
use Rattle.core_ir.specs.declared.tree.CoreOp.{CoreOp}
use Rattle.core_ir.specs.declared.tree.CoreOp.TheVariants as making
use Rattle.core_ir.specs.declared.tree.PartedOp.{PartedOp}
use Rattle.core_ir.specs.declared.tree.PartedOp.TheVariants as parted
use Rattle.core_ir.specs.Terms.{PlainTerm, BlockTerm, RightTerm, GensTerm, PartsTerm, GenHead, Gives, Bind, Plain, NoGens, Gen, NoParts, Part}
use Rattle.sac_base.specs.Outcomes.{and_then}
use Rattle.core_ir.specs.Meaning.{Env, CallMeaning, bind, bind_all, run, right_value}
use Rattle.core_ir.specs.Scopes.{plain_uses, op_uses, parted_uses, head_uses}
use Rattle.core_ir.proofs.Variables.{same_number}
use Rattle.std.proofs.lemmas.Bool.{eq-eqb}
use Rattle.core_ir.specs.Uses.{AvoidsAll, Avoids, AvoidsRight, AvoidsGens, AvoidsParts}
use Rattle.core_ir.specs.Renaming.{Link, Linked, LinkedOption, under, under_all, RenamedPlain, RenamedCoreOp, RenamedPartedOp, RenamedGenHead, Renamed, RenamedRight, RenamedGens, RenamedParts}
use Rattle.core_ir.proofs.Renamed.{under_here, under_there, renamed}

-- the link is of each variable with itself, but for x
abbrev pub SelfBut : Var → Link → Type 0
SelfBut x S = (y : Var) → eqb x.0 y.0 ≡ false → S y y ≡ true

self_under : (x z : Var) (S : Link) → SelfBut x S → SelfBut x (under S z z)
self_under x z S h y n = go (eqb z.0 y.0) refl
  where
    go : (b : Bool) → eqb z.0 y.0 ≡ b → under S z z y y ≡ true
    go true e = under_here S z z y y e e
    go false e = under_there S z z y y e e (h y n)

self_under_all : (x : Var) (zs : List Var) (S : Link) → SelfBut x S → SelfBut x (under_all S zs zs)
self_under_all x [] S h = h
self_under_all x (z ∷ zs) S h = self_under_all x zs (under S z z) (self_under x z S h)

linked_self : (x : Var) (S : Link) (ys : List Var) → SelfBut x S → AvoidsAll x ys → Linked S ys ys
linked_self x S [] h a = tt
linked_self x S (y ∷ ys) h a = (h y a.0, linked_self x S ys h a.1)

plain_self : (x : Var) (S : Link) (p : PlainTerm) → SelfBut x S → AvoidsAll x (plain_uses p) → RenamedPlain S p p
plain_self x S (PlainTerm.Const a) h n = refl
plain_self x S (PlainTerm.Copy y) h n = h y n.0
plain_self x S (PlainTerm.Unary o y) h n = (refl, h y n.0)
plain_self x S (PlainTerm.Binary o y z) h n = (refl, h y n.0, h z n.1.0)
plain_self x S (PlainTerm.Literal ys) h n = linked_self x S ys h n
plain_self x S (PlainTerm.Dim y) h n = h y n.0
plain_self x S (PlainTerm.ShapeOf y) h n = h y n.0
plain_self x S (PlainTerm.Reshape y z) h n = (h y n.0, h z n.1.0)
plain_self x S (PlainTerm.Select y z) h n = (h y n.0, h z n.1.0)
plain_self x S (PlainTerm.Replace y z w) h n = (h y n.0, h z n.1.0, h w n.1.1.0)
plain_self x S (PlainTerm.Always k) h n = refl
plain_self x S (PlainTerm.Check y t) h n = (refl, h y n.0)

core_op_self : (x : Var) (S : Link) (o : CoreOp) → SelfBut x S → AvoidsAll x (op_uses o) → RenamedCoreOp S o o
core_op_self x S (making.Genarray y z) h n = (h y n.0, h z n.1.0)
core_op_self x S (making.Modarray y) h n = h y n.0
core_op_self x S (making.Fold o y) h n = (refl, h y n.0)

parted_op_self : (x : Var) (S : Link) (o : PartedOp) → SelfBut x S → AvoidsAll x (parted_uses o) → RenamedPartedOp S o o
parted_op_self x S parted.Genarray h n = tt
parted_op_self x S (parted.Modarray y) h n = h y n.0
parted_op_self x S (parted.Fold o y) h n = (refl, h y n.0)

avoids_front : (x : Var) (ys zs : List Var) → AvoidsAll x (ys ++ zs) → AvoidsAll x ys
avoids_front x [] zs h = tt
avoids_front x (y ∷ ys) zs h = (h.0, avoids_front x ys zs h.1)

avoids_back : (x : Var) (ys zs : List Var) → AvoidsAll x (ys ++ zs) → AvoidsAll x zs
avoids_back x [] zs h = h
avoids_back x (y ∷ ys) zs h = avoids_back x ys zs h.1

option_self : (x : Var) (S : Link) (o : Option Var) → SelfBut x S → AvoidsAll x (option_to_list o) → LinkedOption S o o
option_self x S None h n = tt
option_self x S (Some y) h n = h y n.0

head_self : (x : Var) (S : Link) (g : GenHead) → SelfBut x S → AvoidsAll x (head_uses g) → RenamedGenHead S g g
head_self x S g h n =
    let n1 = avoids_back x (option_to_list g.lower) _ n in
    let n2 = avoids_back x (option_to_list g.upper) _ n1 in
    (refl, refl, refl, refl, option_self x S g.lower h (avoids_front x (option_to_list g.lower) _ n), option_self x S g.upper h (avoids_front x (option_to_list g.upper) _ n1), option_self x S g.step h (avoids_front x (option_to_list g.step) _ n2), option_self x S g.width h (avoids_back x (option_to_list g.step) _ n2))

mutual
  renamed_self : (x : Var) (S : Link) (b : BlockTerm) → SelfBut x S → Avoids x b → Renamed S b b
  renamed_self x S (Gives ys) h n = linked_self x S ys h n
  renamed_self x S (Bind ys s r b) h n = (refl, right_self x S r h n.0, renamed_self x (under_all S ys ys) b (self_under_all x ys S h) n.1)

  right_self : (x : Var) (S : Link) (r : RightTerm) → SelfBut x S → AvoidsRight x r → RenamedRight S r r
  right_self x S (Plain p) h n = plain_self x S p h n
  right_self x S (RightTerm.If y a b) h n = (h y n.0, renamed_self x S a h n.1, renamed_self x S b h n.2)
  right_self x S (RightTerm.Loop f start params a b s) h n =
      let k = self_under_all x params S h in
      (refl, refl, linked_self x S start h n.0, renamed_self x (under_all S params params) a k n.1, renamed_self x (under_all S params params) b k n.2)
  right_self x S (RightTerm.Call g ys) h n = (refl, linked_self x S ys h n)
  right_self x S (RightTerm.With o gens) h n = (core_op_self x S o h n.0, gens_self x S gens h n.1)
  right_self x S (RightTerm.Parted f b c o parts) h n = (refl, refl, refl, parted_op_self x S o h n.0, parts_self x S parts h n.1)

  gens_self : (x : Var) (S : Link) (g : GensTerm) → SelfBut x S → AvoidsGens x g → RenamedGens S g g
  gens_self x S NoGens h n = tt
  gens_self x S (Gen g b rest) h n =
      (head_self x S g h n.0, renamed_self x (under_all (under S g.index g.index) g.names g.names) b (self_under_all x g.names _ (self_under x g.index S h)) n.1, gens_self x S rest h n.2)

  parts_self : (x : Var) (S : Link) (g : PartsTerm) → SelfBut x S → AvoidsParts x g → RenamedParts S g g
  parts_self x S NoParts h n = tt
  parts_self x S (Part g b rest) h n = (refl, refl, renamed_self x (under S g.index g.index) b (self_under x g.index S h) n.0, parts_self x S rest h n.1)

-- the link of the variables other than x
abbrev other_than : Var → Link
other_than x y z = not (eqb x.0 y.0) && eqb y.0 z.0

others : (x y : Var) → eqb x.0 y.0 ≡ false → other_than x y y ≡ true
others x y n = (λ i. not (n i) && eqb y.0 y.0) ∙ eq-eqb y.0 y.0 refl

are_others : (x y z : Var) → other_than x y z ≡ true → (y ≡ z) × (eqb x.0 y.0 ≡ false)
are_others x y z h = go (eqb x.0 y.0) refl
  where
    go : (b : Bool) → eqb x.0 y.0 ≡ b → (y ≡ z) × (eqb x.0 y.0 ≡ false)
    go true e = absurd (let k : (not true && eqb y.0 z.0) ≡ true = sym (λ i. not (e i) && eqb y.0 z.0) ∙ h in cc)
    go false e = (same_number y z (sym (λ i. not (e i) && eqb y.0 z.0) ∙ h), e)

-- a block that does not use x means the same whatever x is
pub unused : (calls : CallMeaning) (turns : ℕ) (x : Var) (b : BlockTerm) (e f : Env) → Avoids x b → ((y : Var) → eqb x.0 y.0 ≡ false → e y ≡ f y) → run calls turns b e ≡ run calls turns b f
unused calls turns x b e f n h =
    renamed calls turns (other_than x) e f b b (λ y z p. let q = are_others x y z p in h y q.1 ∙ ap f q.0) (renamed_self x (other_than x) b (others x) n)

-- a binding that does not fault, of a variable that is not used, may go
pub drop_unused : (calls : CallMeaning) (turns : ℕ) (x : Var) (s : Site) (r : RightTerm) (b : BlockTerm) (e : Env) (v : ArrayValue) → Avoids x b → right_value calls turns r s e ≡ Ok (v ∷ []) → run calls turns (Bind (x ∷ []) s r b) e ≡ run calls turns b e
drop_unused calls turns x s r b e v n p =
    (λ i. and_then (p i) (λ vs. run calls turns b (bind_all e (x ∷ []) vs)))
    ∙ unused calls turns x b (bind e x v) e n (λ y k. λ i. cond (k i) v (e y))
