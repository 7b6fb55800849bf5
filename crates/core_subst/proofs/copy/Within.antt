-- Raised variables whose numbers have 32 bits.
use Rattle.std.proofs.Common.{◌≡◌, ℕ, suc, ◌+◌, ◌≤◌, ◌<◌, ◌^◌, Bool, true, false, eqb, List, [], ◌∷◌, map, Option, Some, None, refl, ap, sym, ◌∙◌, arith}
use Rattle.std.specs.Prelude.{max, nat_lt, if◌then◌else◌, option_map, unwrap_or}
use Rattle.std.proofs.lemmas.Bool.{eqb-true, eq-eqb}
use Rattle.core_ir.specs.declared.tree.Var.{Var}
use Rattle.core_ir.specs.declared.tree.CoreOp.{CoreOp}
use Rattle.core_ir.specs.declared.tree.CoreOp.TheVariants as making
use Rattle.core_ir.specs.declared.tree.PartedOp.{PartedOp}
use Rattle.core_ir.specs.declared.tree.PartedOp.TheVariants as parted
use Rattle.core_ir.specs.Binders.{bound_in}
use Rattle.core_ir.specs.Meaning.{Env, CallMeaning, run}
use Rattle.core_ir.specs.Scopes.{plain_uses, op_uses, parted_uses}
use Rattle.core_ir.specs.Terms.{PlainTerm, BlockTerm, RightTerm, GensTerm, PartsTerm, GenHead, Gives, Bind, Plain, NoGens, Gen, NoParts, Part}
use Rattle.core_subst.specs.Names.{above_all, above_option, above_head, above, above_right, above_gens, above_parts, variable, variable_at}
use Rattle.core_subst.specs.Substitution.{plain_with, core_op_with, parted_op_with, gen_head_with}
use Rattle.core_subst.specs.copy.Mapped.{raised, raised_within, mapped, mapped_right, mapped_gens, mapped_parts, mapped_gen_head, MeansRaised}
use Rattle.core_subst.proofs.copy.Renaming.{renamed, agree, bound_mapped}

left : (a b n : ℕ) → max a b ≤ n → a ≤ n
left a b n h = omega arith

right : (a b n : ℕ) → max a b ≤ n → b ≤ n
right a b n h = omega arith

-- functions that agree on the variables of a term give the same term
module _ (f g : Var → Var) (n : ℕ) (same : (x : Var) → suc x.0 ≤ n → f x ≡ g x) where
  pub all_same : (xs : List Var) → above_all xs ≤ n → map f xs ≡ map g xs
  all_same [] h = refl
  all_same (x ∷ xs) h = λ i. same x (left (suc x.0) (above_all xs) n h) i ∷ all_same xs (right (suc x.0) (above_all xs) n h) i

  one_same : (x : Var) → above_all (x ∷ []) ≤ n → f x ≡ g x
  one_same x h = same x (left (suc x.0) 0 n h)

  two_same : (x y : Var) → above_all (x ∷ y ∷ []) ≤ n → (f x ≡ g x) × (f y ≡ g y)
  two_same x y h = (same x (left (suc x.0) _ n h), one_same y (right (suc x.0) _ n h))

  option_same : (x : Option Var) → above_option x ≤ n → option_map f x ≡ option_map g x
  option_same None h = refl
  option_same (Some x) h = ap Some (same x h)

  plain_same : (p : PlainTerm) → above_all (plain_uses p) ≤ n → plain_with f p ≡ plain_with g p
  plain_same (PlainTerm.Const a) h = refl
  plain_same (PlainTerm.Copy x) h = ap PlainTerm.Copy (one_same x h)
  plain_same (PlainTerm.Unary o x) h = ap (PlainTerm.Unary o) (one_same x h)
  plain_same (PlainTerm.Binary o x y) h = let w = two_same x y h in λ i. PlainTerm.Binary o (w.0 i) (w.1 i)
  plain_same (PlainTerm.Literal xs) h = ap PlainTerm.Literal (all_same xs h)
  plain_same (PlainTerm.Dim x) h = ap PlainTerm.Dim (one_same x h)
  plain_same (PlainTerm.ShapeOf x) h = ap PlainTerm.ShapeOf (one_same x h)
  plain_same (PlainTerm.Reshape x y) h = let w = two_same x y h in λ i. PlainTerm.Reshape (w.0 i) (w.1 i)
  plain_same (PlainTerm.Select x y) h = let w = two_same x y h in λ i. PlainTerm.Select (w.0 i) (w.1 i)
  plain_same (PlainTerm.Replace x y z) h = let w = two_same y z (right (suc x.0) _ n h) in λ i. PlainTerm.Replace (same x (left (suc x.0) _ n h) i) (w.0 i) (w.1 i)
  plain_same (PlainTerm.Always k) h = refl
  plain_same (PlainTerm.Check x t) h = ap (λ y. PlainTerm.Check y t) (one_same x h)

  op_same : (o : CoreOp) → above_all (op_uses o) ≤ n → core_op_with f o ≡ core_op_with g o
  op_same (making.Genarray x y) h = let w = two_same x y h in λ i. making.Genarray (w.0 i) (w.1 i)
  op_same (making.Modarray x) h = ap making.Modarray (one_same x h)
  op_same (making.Fold o x) h = ap (making.Fold o) (one_same x h)

  parted_same : (o : PartedOp) → above_all (parted_uses o) ≤ n → parted_op_with f o ≡ parted_op_with g o
  parted_same parted.Genarray h = refl
  parted_same (parted.Modarray x) h = ap parted.Modarray (one_same x h)
  parted_same (parted.Fold o x) h = ap (parted.Fold o) (one_same x h)

  head_same : (h : GenHead) → above_head h ≤ n → above_all (h.index ∷ h.names) ≤ n → mapped_gen_head f h ≡ mapped_gen_head g h
  head_same h a b =
      let l = option_same h.lower (left (above_option h.lower) _ n a) in
      let r = right (above_option h.lower) _ n a in
      let u = option_same h.upper (left (above_option h.upper) _ n r) in
      let q = right (above_option h.upper) _ n r in
      let s = option_same h.step (left (above_option h.step) _ n q) in
      let w = option_same h.width (right (above_option h.step) _ n q) in
      let x = same h.index (left (suc h.index.0) _ n b) in
      let y = all_same h.names (right (suc h.index.0) _ n b) in
      λ i. record h { lower = l i; upper = u i; step = s i; width = w i; index = x i; names = y i }

  mutual
    pub mapped_same : (b : BlockTerm) → above b ≤ n → mapped f b ≡ mapped g b
    mapped_same (Gives xs) h = ap Gives (all_same xs h)
    mapped_same (Bind xs s r b) h =
        let q = right (above_all xs) _ n h in
        λ i. Bind (all_same xs (left (above_all xs) _ n h) i) s (right_same r (left (above_right r) _ n q) i) (mapped_same b (right (above_right r) _ n q) i)

    right_same : (r : RightTerm) → above_right r ≤ n → mapped_right f r ≡ mapped_right g r
    right_same (Plain p) h = ap Plain (plain_same p h)
    right_same (RightTerm.If x a b) h =
        let q = right (suc x.0) _ n h in
        λ i. RightTerm.If (same x (left (suc x.0) _ n h) i) (mapped_same a (left (above a) _ n q) i) (mapped_same b (right (above a) _ n q) i)
    right_same (RightTerm.Loop first start params test body s) h =
        let q = right (above_all start) _ n h in
        let r = right (above_all params) _ n q in
        λ i. RightTerm.Loop first (all_same start (left (above_all start) _ n h) i) (all_same params (left (above_all params) _ n q) i) (mapped_same test (left (above test) _ n r) i) (mapped_same body (right (above test) _ n r) i) s
    right_same (RightTerm.Call g xs) h = ap (RightTerm.Call g) (all_same xs h)
    right_same (RightTerm.With op gens) h =
        λ i. RightTerm.With (op_same op (left (above_all (op_uses op)) _ n h) i) (gens_same gens (right (above_all (op_uses op)) _ n h) i)
    right_same (RightTerm.Parted frame base cell op parts) h =
        λ i. RightTerm.Parted frame base cell (parted_same op (left (above_all (parted_uses op)) _ n h) i) (parts_same parts (right (above_all (parted_uses op)) _ n h) i)

    gens_same : (gs : GensTerm) → above_gens gs ≤ n → mapped_gens f gs ≡ mapped_gens g gs
    gens_same NoGens h = refl
    gens_same (Gen k b rest) h =
        let q = right (above_head k) _ n h in
        let r = right (above_all (k.index ∷ k.names)) _ n q in
        λ i. Gen (head_same k (left (above_head k) _ n h) (left (above_all (k.index ∷ k.names)) _ n q) i) (mapped_same b (left (above b) _ n r) i) (gens_same rest (right (above b) _ n r) i)

    parts_same : (p : PartsTerm) → above_parts p ≤ n → mapped_parts f p ≡ mapped_parts g p
    parts_same NoParts h = refl
    parts_same (Part k b rest) h =
        let q = right (suc k.index.0) _ n h in
        λ i. Part (record k { index = same k.index (left (suc k.index.0) _ n h) i }) (mapped_same b (left (above b) _ n q) i) (parts_same rest (right (above b) _ n q) i)

-- ---- raised numbers

pub raised_apart : (by : ℕ) (x y : Var) → eqb (raised by x).0 (raised by y).0 ≡ eqb x.0 y.0
raised_apart by x y = go (eqb x.0 y.0) refl
  where
    go : (t : Bool) → eqb x.0 y.0 ≡ t → eqb (x.0 + by) (y.0 + by) ≡ eqb x.0 y.0
    go true e = (λ i. eqb (eqb-true x.0 y.0 e i + by) (y.0 + by)) ∙ eq-eqb (y.0 + by) (y.0 + by) refl ∙ sym e
    go false e = turn (eqb (x.0 + by) (y.0 + by)) refl
      where
        turn : (u : Bool) → eqb (x.0 + by) (y.0 + by) ≡ u → eqb (x.0 + by) (y.0 + by) ≡ eqb x.0 y.0
        turn true h = absurd (let p = eqb-true (x.0 + by) (y.0 + by) h in let q : x.0 ≡ y.0 = omega arith in let r = sym (eq-eqb x.0 y.0 q) ∙ e in cc)
        turn false h = h ∙ sym e

pub fits : (by : ℕ) (x : Var) → x.0 + by < 2 ^ 32 → raised_within by x ≡ raised by x
fits by x h = go (nat_lt (x.0 + by) (2 ^ 32)) refl
  where
    go : (t : Bool) → nat_lt (x.0 + by) (2 ^ 32) ≡ t → unwrap_or (if nat_lt (x.0 + by) (2 ^ 32) then Some (variable (x.0 + by)) else None) x ≡ variable (x.0 + by)
    go true e = λ i. unwrap_or (if e i then Some (variable (x.0 + by)) else None) x
    go false e = absurd (grind arith)

-- within 32 bits the numbers are the greater ones
pub raised_fits : (by : ℕ) (b : BlockTerm) → above b + by ≤ 2 ^ 32 → mapped (raised_within by) b ≡ mapped (raised by) b
raised_fits by b h = mapped_same (raised_within by) (raised by) (above b) (λ x k. fits by x (omega arith)) b (omega arith)

-- ---- a copy that is raised within 32 bits

pub raised_term : (by : ℕ) (b c : BlockTerm) → above b + by ≤ 2 ^ 32 → c ≡ mapped (raised_within by) b → c ≡ mapped (raised by) b
raised_term by b c h p = p ∙ raised_fits by b h

pub raised_means : (by : ℕ) (b c : BlockTerm) → above b + by ≤ 2 ^ 32 → c ≡ mapped (raised_within by) b → MeansRaised by b c
raised_means by b c h p calls turns e =
    (λ i. run calls turns (raised_term by b c h p i) e)
    ∙ sym (Rattle.core_ir.proofs.Renamed.renamed calls turns _ (λ x. e (raised by x)) e b (mapped (raised by) b) (agree (raised by) (raised_apart by) e) (renamed (raised by) (raised_apart by) b))

pub raised_bound : (by : ℕ) (b c : BlockTerm) → above b + by ≤ 2 ^ 32 → c ≡ mapped (raised_within by) b → bound_in c ≡ map (raised by) (bound_in b)
raised_bound by b c h p = ap bound_in (raised_term by b c h p) ∙ bound_mapped (raised by) b
