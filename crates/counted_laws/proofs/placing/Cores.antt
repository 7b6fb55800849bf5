-- Without its steps that keep and release, code is the core that it was made from.
use Rattle.std.proofs.Common.{◌≡◌, List, [], ◌∷◌, ◌++◌, map, refl, ◌∙◌}
use Rattle.core_ir.specs.declared.tree.Var.{Var}
use Rattle.core_ir.specs.Terms.{BlockTerm, RightTerm, GensTerm, PartsTerm, FunTerm, CoreTerm, Gives, Bind, Plain, NoGens, Gen, NoParts, Part}
use Rattle.core_ir.specs.Outcome.{param_vars}
use Rattle.counted_code.specs.Terms.{CodeTerm, Giving, Binding, core_of, core_of_right, core_of_gens, core_of_parts, core_of_fun, core_of_code}
use Rattle.counted_code.specs.Counts.{Unmarked, UnmarkedRight, UnmarkedGens, UnmarkedParts, UnmarkedFunctions}
use Rattle.counted_code.specs.Prompt.{uses, uses_right, hands}
use Rattle.counted_laws.specs.placing.Placing.{keeps, releases, used, unused, surplus, given, left, placing, placing_right, placing_gens, placing_parts, placing_fun, placing_core}

pub core_of_keeps : (xs : List Var) (t : CodeTerm) → core_of (keeps xs t) ≡ core_of t
core_of_keeps [] t = refl
core_of_keeps (x ∷ xs) t = core_of_keeps xs t

pub core_of_releases : (xs : List Var) (t : CodeTerm) → core_of (releases xs t) ≡ core_of t
core_of_releases [] t = refl
core_of_releases (x ∷ xs) t = core_of_releases xs t

mutual
  pub same_core : (refs : List Var) (t : BlockTerm) → core_of (placing refs t) ≡ t
  same_core refs (Gives ys) = core_of_releases (unused refs ys) (keeps (surplus ys (used refs ys)) (Giving ys)) ∙ core_of_keeps (surplus ys (used refs ys)) (Giving ys)
  same_core refs (Bind xs s r b) =
      let us = uses_right r ++ uses b in
      let live = used refs us in
      let mine = given r (uses b) live in
      let rest : CodeTerm = Binding xs s (placing_right mine r) (placing (xs ++ left r (uses b) live) b) in
      core_of_releases (unused refs us) (keeps (surplus (hands r) mine) rest) ∙ core_of_keeps (surplus (hands r) mine) rest
      ∙ (λ i. Bind xs s (same_core_right mine r i) (same_core (xs ++ left r (uses b) live) b i))

  pub same_core_right : (mine : List Var) (r : RightTerm) → core_of_right (placing_right mine r) ≡ r
  same_core_right mine (Plain p) = refl
  same_core_right mine (RightTerm.If c a b) = λ i. RightTerm.If c (same_core mine a i) (same_core mine b i)
  same_core_right mine (RightTerm.Loop first start params test body s) = λ i. RightTerm.Loop first start params (same_core [] test i) (same_core params body i) s
  same_core_right mine (RightTerm.Call g xs) = refl
  same_core_right mine (RightTerm.With op gens) = λ i. RightTerm.With op (same_core_gens gens i)
  same_core_right mine (RightTerm.Parted f b c op parts) = λ i. RightTerm.Parted f b c op (same_core_parts parts i)

  same_core_gens : (gens : GensTerm) → core_of_gens (placing_gens gens) ≡ gens
  same_core_gens NoGens = refl
  same_core_gens (Gen h b rest) = λ i. Gen h (same_core (h.index ∷ h.names) b i) (same_core_gens rest i)

  same_core_parts : (parts : PartsTerm) → core_of_parts (placing_parts parts) ≡ parts
  same_core_parts NoParts = refl
  same_core_parts (Part h b rest) = λ i. Part h (same_core (h.index ∷ []) b i) (same_core_parts rest i)

same_core_fun : (f : FunTerm) → core_of_fun (placing_fun f) ≡ f
same_core_fun f = λ i. record { name = f.name; site = f.site; params = f.params; results = f.results; is_inline = f.is_inline; body = same_core (param_vars f) f.body i; ends = f.ends }

same_core_funs : (fs : List FunTerm) → map core_of_fun (map placing_fun fs) ≡ fs
same_core_funs [] = refl
same_core_funs (f ∷ fs) = λ i. same_core_fun f i ∷ same_core_funs fs i

pub same_core_code : (c : CoreTerm) → core_of_code (placing_core c) ≡ c
same_core_code c = λ i. record { functions = same_core_funs c.functions i; groups = c.groups; main = c.main }

-- ---- no mark

unmarked_keeps : (xs : List Var) (t : CodeTerm) → Unmarked t → Unmarked (keeps xs t)
unmarked_keeps [] t u = u
unmarked_keeps (x ∷ xs) t u = unmarked_keeps xs t u

unmarked_releases : (xs : List Var) (t : CodeTerm) → Unmarked t → Unmarked (releases xs t)
unmarked_releases [] t u = u
unmarked_releases (x ∷ xs) t u = unmarked_releases xs t u

mutual
  pub no_mark : (refs : List Var) (t : BlockTerm) → Unmarked (placing refs t)
  no_mark refs (Gives ys) = unmarked_releases (unused refs ys) (keeps (surplus ys (used refs ys)) (Giving ys)) (unmarked_keeps (surplus ys (used refs ys)) (Giving ys) tt)
  no_mark refs (Bind xs s r b) =
      let us = uses_right r ++ uses b in
      let live = used refs us in
      let mine = given r (uses b) live in
      let rest : CodeTerm = Binding xs s (placing_right mine r) (placing (xs ++ left r (uses b) live) b) in
      unmarked_releases (unused refs us) (keeps (surplus (hands r) mine) rest) (unmarked_keeps (surplus (hands r) mine) rest (no_mark_right mine r, no_mark (xs ++ left r (uses b) live) b))

  no_mark_right : (mine : List Var) (r : RightTerm) → UnmarkedRight (placing_right mine r)
  no_mark_right mine (Plain p) = tt
  no_mark_right mine (RightTerm.If c a b) = (no_mark mine a, no_mark mine b)
  no_mark_right mine (RightTerm.Loop first start params test body s) = (no_mark [] test, no_mark params body)
  no_mark_right mine (RightTerm.Call g xs) = tt
  no_mark_right mine (RightTerm.With op gens) = no_mark_gens gens
  no_mark_right mine (RightTerm.Parted f b c op parts) = (refl, no_mark_parts parts)

  no_mark_gens : (gens : GensTerm) → UnmarkedGens (placing_gens gens)
  no_mark_gens NoGens = tt
  no_mark_gens (Gen h b rest) = (no_mark (h.index ∷ h.names) b, no_mark_gens rest)

  no_mark_parts : (parts : PartsTerm) → UnmarkedParts (placing_parts parts)
  no_mark_parts NoParts = tt
  no_mark_parts (Part h b rest) = (no_mark (h.index ∷ []) b, no_mark_parts rest)

pub no_marks : (fs : List FunTerm) → UnmarkedFunctions (map placing_fun fs)
no_marks [] = tt
no_marks (f ∷ fs) = (no_mark (param_vars f) f.body, no_marks fs)
