-- The test decides whether a block only selects.
use Rattle.std.proofs.Common.{◌≡◌, ◌↔◌, IsTrue, ℕ, suc, ◌+◌, ◌*◌, Bool, true, false, ◌&&◌, [], ◌∷◌, refl, ◌∙◌, arith}
use Rattle.core_ir.specs.declared.tree.Var.{Var}
use Rattle.core_ir.specs.Terms.{PlainTerm, BlockTerm, RightTerm, Gives, Bind, Plain}
use Rattle.core_ir.specs.Scopes.{plain_uses}
use Rattle.core_loops.specs.Loops.{weight, weight_right, weight_gens, parted_in, parted_in_right, parted_in_parts}
use Rattle.core_loops.specs.Pairs.{Selects, SelectsRight, OnlySelected}
use Rattle.core_uses.specs.Tests.{none_is}
use Rattle.core_uses.proofs.Decided.{list_decided}
use Rattle.total_cells.specs.loop_selections.Selecting.{plain_selects, is_selecting, is_selecting_right}

both_is : (a b : Bool) → (a && b) ≡ true → (a ≡ true) × (b ≡ true)
both_is true b p = (refl, p)
both_is false b p = absurd (let q : ◌≡◌ {A = Bool} false true = p in cc)

is_both : (a b : Bool) → a ≡ true → b ≡ true → (a && b) ≡ true
is_both a b p q = (λ i. p i && b) ∙ q

never : {P : Type 0} → ◌≡◌ {A = Bool} false true → P
never p = absurd (let q : ◌≡◌ {A = Bool} false true = p in cc)

plain_in : (p : Var) (q : PlainTerm) → plain_selects p q ≡ true → OnlySelected p q
plain_in p (PlainTerm.Const a) h = (list_decided p (plain_uses (PlainTerm.Const a))).0 h
plain_in p (PlainTerm.Copy x) h = (list_decided p (plain_uses (PlainTerm.Copy x))).0 h
plain_in p (PlainTerm.Unary o x) h = (list_decided p (plain_uses (PlainTerm.Unary o x))).0 h
plain_in p (PlainTerm.Binary o x y) h = (list_decided p (plain_uses (PlainTerm.Binary o x y))).0 h
plain_in p (PlainTerm.Literal xs) h = (list_decided p (plain_uses (PlainTerm.Literal xs))).0 h
plain_in p (PlainTerm.Dim x) h = (list_decided p (plain_uses (PlainTerm.Dim x))).0 h
plain_in p (PlainTerm.ShapeOf x) h = (list_decided p (plain_uses (PlainTerm.ShapeOf x))).0 h
plain_in p (PlainTerm.Reshape x y) h = (list_decided p (plain_uses (PlainTerm.Reshape x y))).0 h
plain_in p (PlainTerm.Select x y) h = (list_decided p (y ∷ [])).0 h
plain_in p (PlainTerm.Replace x y z) h = (list_decided p (plain_uses (PlainTerm.Replace x y z))).0 h
plain_in p (PlainTerm.Always k) h = (list_decided p (plain_uses (PlainTerm.Always k))).0 h
plain_in p (PlainTerm.Check x t) h = (list_decided p (plain_uses (PlainTerm.Check x t))).0 h

plain_out : (p : Var) (q : PlainTerm) → OnlySelected p q → plain_selects p q ≡ true
plain_out p (PlainTerm.Const a) h = (list_decided p (plain_uses (PlainTerm.Const a))).1 h
plain_out p (PlainTerm.Copy x) h = (list_decided p (plain_uses (PlainTerm.Copy x))).1 h
plain_out p (PlainTerm.Unary o x) h = (list_decided p (plain_uses (PlainTerm.Unary o x))).1 h
plain_out p (PlainTerm.Binary o x y) h = (list_decided p (plain_uses (PlainTerm.Binary o x y))).1 h
plain_out p (PlainTerm.Literal xs) h = (list_decided p (plain_uses (PlainTerm.Literal xs))).1 h
plain_out p (PlainTerm.Dim x) h = (list_decided p (plain_uses (PlainTerm.Dim x))).1 h
plain_out p (PlainTerm.ShapeOf x) h = (list_decided p (plain_uses (PlainTerm.ShapeOf x))).1 h
plain_out p (PlainTerm.Reshape x y) h = (list_decided p (plain_uses (PlainTerm.Reshape x y))).1 h
plain_out p (PlainTerm.Select x y) h = (list_decided p (y ∷ [])).1 h
plain_out p (PlainTerm.Replace x y z) h = (list_decided p (plain_uses (PlainTerm.Replace x y z))).1 h
plain_out p (PlainTerm.Always k) h = (list_decided p (plain_uses (PlainTerm.Always k))).1 h
plain_out p (PlainTerm.Check x t) h = (list_decided p (plain_uses (PlainTerm.Check x t))).1 h

zero_left : (m n : ℕ) → m + n ≡ 0 → m ≡ 0
zero_left m n e = omega (arith, e)

zero_right : (m n : ℕ) → m + n ≡ 0 → n ≡ 0
zero_right m n e = omega (arith, e)

zero_both : (m n : ℕ) → m ≡ 0 → n ≡ 0 → m + n ≡ 0
zero_both m n e f = omega (arith, e, f)

abbrev Flat : Var → BlockTerm → Type 0
Flat p b = Selects p b × (weight b ≡ 0) × (parted_in b ≡ 0)

abbrev FlatRight : Var → RightTerm → Type 0
FlatRight p r = SelectsRight p r × (weight_right r ≡ 0) × (parted_in_right r ≡ 0)

mutual
  block_in : (p : Var) (b : BlockTerm) → is_selecting p b ≡ true → Flat p b
  block_in p (Gives xs) h = ((list_decided p xs).0 h, refl, refl)
  block_in p (Bind xs s r b) h =
      let w = both_is (is_selecting_right p r) (is_selecting p b) h in
      let x = right_in p r w.0 in
      let y = block_in p b w.1 in
      ((x.0, y.0), zero_both (weight_right r) (weight b) x.1 y.1, zero_both (parted_in_right r) (parted_in b) x.2 y.2)

  right_in : (p : Var) (r : RightTerm) → is_selecting_right p r ≡ true → FlatRight p r
  right_in p (Plain q) h = (plain_in p q h, refl, refl)
  right_in p (RightTerm.If x a b) h =
      let w = both_is (none_is p (x ∷ [])) (is_selecting p a && is_selecting p b) h in
      let v = both_is (is_selecting p a) (is_selecting p b) w.1 in
      let y = block_in p a v.0 in
      let z = block_in p b v.1 in
      (((list_decided p (x ∷ [])).0 w.0, y.0, z.0), zero_both (weight a) (weight b) y.1 z.1, zero_both (parted_in a) (parted_in b) y.2 z.2)
  right_in p (RightTerm.Loop first start params test body s) h =
      let w = both_is (none_is p start) (is_selecting p test && is_selecting p body) h in
      let v = both_is (is_selecting p test) (is_selecting p body) w.1 in
      let y = block_in p test v.0 in
      let z = block_in p body v.1 in
      (((list_decided p start).0 w.0, y.0, z.0), zero_both (weight test) (weight body) y.1 z.1, zero_both (parted_in test) (parted_in body) y.2 z.2)
  right_in p (RightTerm.Call g xs) h = ((list_decided p xs).0 h, refl, refl)
  right_in p (RightTerm.With o gens) h = never h
  right_in p (RightTerm.Parted frame base cell o parts) h = never h

mutual
  block_out : (p : Var) (b : BlockTerm) → Flat p b → is_selecting p b ≡ true
  block_out p (Gives xs) f = (list_decided p xs).1 f.0
  block_out p (Bind xs s r b) f =
      is_both (is_selecting_right p r) (is_selecting p b)
      (right_out p r (f.0.0, zero_left (weight_right r) (weight b) f.1, zero_left (parted_in_right r) (parted_in b) f.2))
      (block_out p b (f.0.1, zero_right (weight_right r) (weight b) f.1, zero_right (parted_in_right r) (parted_in b) f.2))

  right_out : (p : Var) (r : RightTerm) → FlatRight p r → is_selecting_right p r ≡ true
  right_out p (Plain q) f = plain_out p q f.0
  right_out p (RightTerm.If x a b) f =
      is_both (none_is p (x ∷ [])) (is_selecting p a && is_selecting p b) ((list_decided p (x ∷ [])).1 f.0.0)
      (is_both (is_selecting p a) (is_selecting p b)
      (block_out p a (f.0.1, zero_left (weight a) (weight b) f.1, zero_left (parted_in a) (parted_in b) f.2))
      (block_out p b (f.0.2, zero_right (weight a) (weight b) f.1, zero_right (parted_in a) (parted_in b) f.2)))
  right_out p (RightTerm.Loop first start params test body s) f =
      is_both (none_is p start) (is_selecting p test && is_selecting p body) ((list_decided p start).1 f.0.0)
      (is_both (is_selecting p test) (is_selecting p body)
      (block_out p test (f.0.1, zero_left (weight test) (weight body) f.1, zero_left (parted_in test) (parted_in body) f.2))
      (block_out p body (f.0.2, zero_right (weight test) (weight body) f.1, zero_right (parted_in test) (parted_in body) f.2)))
  right_out p (RightTerm.Call g xs) f = (list_decided p xs).1 f.0
  right_out p (RightTerm.With o gens) f = let e : 1 + 65 * weight_gens gens ≡ 0 = f.1 in absurd (omega (arith, e))
  right_out p (RightTerm.Parted frame base cell o parts) f = let e : suc (parted_in_parts parts) ≡ 0 = f.2 in absurd (omega (arith, e))

pub selecting_decided : (p : Var) (b : BlockTerm) → IsTrue (is_selecting p b) ↔ Selects p b × (weight b ≡ 0) × (parted_in b ≡ 0)
selecting_decided p b = (block_in p b, block_out p b)
