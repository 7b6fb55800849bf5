-- The term in which free uses of variables are replaced.
use Rattle.std.specs.Prelude.{◌≡◌, ℕ, cond, eqb, List, [], ◌∷◌, map, option_map, unwrap_or}
use Rattle.std.specs.Ordering.{nat_cmp}
use Rattle.std.specs.BTreeMap.{BTreeMap, get}
use Rattle.core_ir.specs.declared.tree.Var.{Var}
use Rattle.core_ir.specs.declared.tree.CoreOp.{CoreOp}
use Rattle.core_ir.specs.declared.tree.CoreOp.TheVariants as making
use Rattle.core_ir.specs.declared.tree.PartedOp.{PartedOp}
use Rattle.core_ir.specs.declared.tree.PartedOp.TheVariants as parted
use Rattle.core_ir.specs.Meaning.{Env, CallMeaning, run}
use Rattle.core_ir.specs.Binders.{is_in}
use Rattle.core_ir.specs.Terms.{PlainTerm, BlockTerm, RightTerm, GensTerm, PartsTerm, LetTerm, GenTerm, PartTerm, GenHead, Gives, Bind, Plain, NoGens}
use Rattle.core_ir.specs.Terms.{Gen, NoParts, Part}

-- what stands for x: the second member of the first pair of x
abbrev pub partner : List (Var × Var) → Var → Var
partner [] x = x
partner (p ∷ ps) x = cond (eqb p.0.0 x.0) p.1 (partner ps x)

-- the same where binders hide the variables xs, which stay
abbrev pub below : List Var → (Var → Var) → Var → Var
below xs f x = cond (is_in x xs) x (f x)

abbrev pub seconds : List (Var × Var) → List Var
seconds [] = []
seconds (p ∷ ps) = p.1 ∷ seconds ps

abbrev pub plain_with : (Var → Var) → PlainTerm → PlainTerm
plain_with f (PlainTerm.Const a) = PlainTerm.Const a
plain_with f (PlainTerm.Copy x) = PlainTerm.Copy (f x)
plain_with f (PlainTerm.Unary op x) = PlainTerm.Unary op (f x)
plain_with f (PlainTerm.Binary op x y) = PlainTerm.Binary op (f x) (f y)
plain_with f (PlainTerm.Literal xs) = PlainTerm.Literal (map f xs)
plain_with f (PlainTerm.Dim x) = PlainTerm.Dim (f x)
plain_with f (PlainTerm.ShapeOf x) = PlainTerm.ShapeOf (f x)
plain_with f (PlainTerm.Reshape x y) = PlainTerm.Reshape (f x) (f y)
plain_with f (PlainTerm.Select x y) = PlainTerm.Select (f x) (f y)
plain_with f (PlainTerm.Replace x y z) = PlainTerm.Replace (f x) (f y) (f z)
plain_with f (PlainTerm.Always k) = PlainTerm.Always k
plain_with f (PlainTerm.Check x t) = PlainTerm.Check (f x) t

abbrev pub core_op_with : (Var → Var) → CoreOp → CoreOp
core_op_with f (making.Genarray x y) = making.Genarray (f x) (f y)
core_op_with f (making.Modarray x) = making.Modarray (f x)
core_op_with f (making.Fold op x) = making.Fold op (f x)

abbrev pub parted_op_with : (Var → Var) → PartedOp → PartedOp
parted_op_with f parted.Genarray = parted.Genarray
parted_op_with f (parted.Modarray x) = parted.Modarray (f x)
parted_op_with f (parted.Fold op x) = parted.Fold op (f x)

abbrev pub gen_head_with : (Var → Var) → GenHead → GenHead
gen_head_with f h = record h { lower = option_map f h.lower; upper = option_map f h.upper; step = option_map f h.step; width = option_map f h.width }

-- the block in which each free use of x is one of f x
abbrev mutual
  pub substituted : (Var → Var) → BlockTerm → BlockTerm
  substituted f (Gives xs) = Gives (map f xs)
  substituted f (Bind xs s r b) = Bind xs s (substituted_right f r) (substituted (below xs f) b)

  pub substituted_right : (Var → Var) → RightTerm → RightTerm
  substituted_right f (Plain p) = Plain (plain_with f p)
  substituted_right f (RightTerm.If x a b) = RightTerm.If (f x) (substituted f a) (substituted f b)
  substituted_right f (RightTerm.Loop first start params test body s) =
      RightTerm.Loop first (map f start) params (substituted (below params f) test) (substituted (below params f) body) s
  substituted_right f (RightTerm.Call g xs) = RightTerm.Call g (map f xs)
  substituted_right f (RightTerm.With op gens) = RightTerm.With (core_op_with f op) (substituted_gens f gens)
  substituted_right f (RightTerm.Parted frame base cell op parts) = RightTerm.Parted frame base cell (parted_op_with f op) (substituted_parts f parts)

  pub substituted_gens : (Var → Var) → GensTerm → GensTerm
  substituted_gens f NoGens = NoGens
  substituted_gens f (Gen h b rest) = Gen (gen_head_with f h) (substituted (below (h.index ∷ h.names) f) b) (substituted_gens f rest)

  pub substituted_parts : (Var → Var) → PartsTerm → PartsTerm
  substituted_parts f NoParts = NoParts
  substituted_parts f (Part h b rest) = Part h (substituted (below (h.index ∷ []) f) b) (substituted_parts f rest)

-- the same of a binding, of a generator and of a part alone
abbrev pub substituted_let : (Var → Var) → LetTerm → LetTerm
substituted_let f l = record l { right = substituted_right f l.right }

abbrev pub substituted_gen : (Var → Var) → GenTerm → GenTerm
substituted_gen f g = record { head = gen_head_with f g.head; body = substituted (below (g.head.index ∷ g.head.names) f) g.body }

abbrev pub substituted_part : (Var → Var) → PartTerm → PartTerm
substituted_part f p = record p { body = substituted (below (p.head.index ∷ []) f) p.body }

-- the new block means what the old one does where each first member has the value of its second
abbrev pub MeansThrough : List (Var × Var) → BlockTerm → BlockTerm → Type 0
MeansThrough ps old new = (calls : CallMeaning) (turns : ℕ) (e : Env) → run calls turns new e ≡ run calls turns old (λ x. e (partner ps x))

-- ---- pairs that are kept as a map

-- what stands for x by the map
abbrev pub partner_at : BTreeMap ℕ Var → Var → Var
partner_at partners x = unwrap_or (get nat_cmp partners x.0) x

-- the same where these variables are hidden
abbrev pub image : BTreeMap ℕ Var → List Var → Var → Var
image partners hidden = below hidden (partner_at partners)
