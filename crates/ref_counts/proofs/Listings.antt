-- What is listed is what is used.
use Rattle.std.proofs.Common.{◌≡◌, List, [], ◌∷◌, ◌++◌, refl, ap, ◌∙◌}
use Rattle.core_ir.specs.declared.tree.Var.{Var}
use Rattle.core_ir.specs.Scopes.{plain_uses, op_uses, parted_uses, head_uses}
use Rattle.core_ir.specs.Terms.{BlockTerm, RightTerm, GensTerm, PartsTerm, Gives, Bind, Plain, NoGens, Gen, NoParts, Part}
use Rattle.counted_code.specs.Prompt.{uses, uses_right, uses_gens, uses_parts}
use Rattle.ref_rules.specs.listed_uses.Latest.{vars_of, section}
use Rattle.ref_rules.proofs.listed_uses.Recorded.{vars_append}
use Rattle.ref_counts.specs.Listing.{each, listed, listed_right, listed_gens, listed_parts}

pub vars_each : (xs : List Var) → vars_of (each xs) ≡ xs
vars_each [] = refl
vars_each (x ∷ xs) = ap (λ vs. x ∷ vs) (vars_each xs)

mutual
  pub vars_block : (b : BlockTerm) → vars_of (listed b) ≡ uses b
  vars_block (Gives xs) = vars_each xs
  vars_block (Bind xs s r b) = vars_append (listed_right r) (listed b) ∙ (λ i. vars_right r i ++ vars_block b i)

  pub vars_right : (r : RightTerm) → vars_of (listed_right r) ≡ uses_right r
  vars_right (Plain p) = vars_each (plain_uses p)
  vars_right (RightTerm.If c a b) = ap (λ vs. c ∷ vs) (vars_append (listed a) (section (listed b)) ∙ (λ i. vars_block a i ++ vars_block b i))
  vars_right (RightTerm.Loop first start params test body s) =
      vars_append (each start) (section (listed test) ++ section (listed body))
      ∙ (λ i. vars_each start i ++ (vars_append (listed test) (section (listed body)) ∙ (λ j. vars_block test j ++ vars_block body j)) i)
  vars_right (RightTerm.Call g xs) = vars_each xs
  vars_right (RightTerm.With op gens) = vars_append (each (op_uses op)) (listed_gens gens) ∙ (λ i. vars_each (op_uses op) i ++ vars_gens gens i)
  vars_right (RightTerm.Parted f b c op parts) = vars_append (each (parted_uses op)) (listed_parts parts) ∙ (λ i. vars_each (parted_uses op) i ++ vars_parts parts i)

  pub vars_gens : (gs : GensTerm) → vars_of (listed_gens gs) ≡ uses_gens gs
  vars_gens NoGens = refl
  vars_gens (Gen h b rest) =
      vars_append (each (head_uses h)) (section (listed b) ++ listed_gens rest)
      ∙ (λ i. vars_each (head_uses h) i ++ (vars_append (listed b) (listed_gens rest) ∙ (λ j. vars_block b j ++ vars_gens rest j)) i)

  pub vars_parts : (ps : PartsTerm) → vars_of (listed_parts ps) ≡ uses_parts ps
  vars_parts NoParts = refl
  vars_parts (Part h b rest) = vars_append (listed b) (listed_parts rest) ∙ (λ i. vars_block b i ++ vars_parts rest i)
