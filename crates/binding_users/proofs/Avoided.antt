-- A variable that is none of those that a term uses.
use Rattle.std.proofs.Common.{◌≡◌, false, eqb, List, [], ◌∷◌, ◌++◌}
use Rattle.core_ir.specs.declared.tree.Var.{Var}
use Rattle.core_ir.specs.Terms.{BlockTerm, RightTerm, GensTerm, PartsTerm, Gives, Bind, Plain, NoGens, Gen, NoParts, Part}
use Rattle.core_ir.specs.Scopes.{op_uses, parted_uses, head_uses}
use Rattle.core_ir.specs.Uses.{AvoidsAll, Avoids, AvoidsRight, AvoidsGens, AvoidsParts}
use Rattle.core_subst.specs.Names.{used_in, used_in_right, used_in_gens, used_in_parts}

apart : (x : Var) (ys zs : List Var) → AvoidsAll x (ys ++ zs) → AvoidsAll x ys × AvoidsAll x zs
apart x [] zs h = (tt, h)
apart x (y ∷ ys) zs h = let w = apart x ys zs h.1 in ((h.0, w.0), w.1)

pub joined : (x : Var) (ys zs : List Var) → AvoidsAll x ys → AvoidsAll x zs → AvoidsAll x (ys ++ zs)
joined x [] zs a b = b
joined x (y ∷ ys) zs a b = (a.0, joined x ys zs a.1 b)

mutual
  block_avoids : (x : Var) (b : BlockTerm) → AvoidsAll x (used_in b) → Avoids x b
  block_avoids x (Gives ys) h = h
  block_avoids x (Bind ys s r b) h = let w = apart x (used_in_right r) (used_in b) h in (right_avoids x r w.0, block_avoids x b w.1)

  pub right_avoids : (x : Var) (r : RightTerm) → AvoidsAll x (used_in_right r) → AvoidsRight x r
  right_avoids x (Plain p) h = h
  right_avoids x (RightTerm.If y a b) h = let w = apart x (used_in a) (used_in b) h.1 in (h.0, block_avoids x a w.0, block_avoids x b w.1)
  right_avoids x (RightTerm.Loop first start params test body s) h =
      let w = apart x start (used_in test ++ used_in body) h in
      let v = apart x (used_in test) (used_in body) w.1 in
      (w.0, block_avoids x test v.0, block_avoids x body v.1)
  right_avoids x (RightTerm.Call g ys) h = h
  right_avoids x (RightTerm.With op gens) h = let w = apart x (op_uses op) (used_in_gens gens) h in (w.0, gens_avoid x gens w.1)
  right_avoids x (RightTerm.Parted f b c op parts) h = let w = apart x (parted_uses op) (used_in_parts parts) h in (w.0, parts_avoid x parts w.1)

  gens_avoid : (x : Var) (gs : GensTerm) → AvoidsAll x (used_in_gens gs) → AvoidsGens x gs
  gens_avoid x NoGens h = tt
  gens_avoid x (Gen g b rest) h =
      let w = apart x (head_uses g) (used_in b ++ used_in_gens rest) h in
      let v = apart x (used_in b) (used_in_gens rest) w.1 in
      (w.0, block_avoids x b v.0, gens_avoid x rest v.1)

  parts_avoid : (x : Var) (ps : PartsTerm) → AvoidsAll x (used_in_parts ps) → AvoidsParts x ps
  parts_avoid x NoParts h = tt
  parts_avoid x (Part g b rest) h = let w = apart x (used_in b) (used_in_parts rest) h in (block_avoids x b w.0, parts_avoid x rest w.1)
