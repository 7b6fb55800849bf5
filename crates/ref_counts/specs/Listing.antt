-- The list of what a term uses, in its order: each block and each right side is a section.
use Rattle.std.specs.Prelude.{◌≡◌, ℕ, List, [], ◌∷◌, ◌++◌, length}
use Rattle.core_ir.specs.declared.tree.Var.{Var}
use Rattle.core_ir.specs.Scopes.{plain_uses, op_uses, parted_uses, head_uses}
use Rattle.core_ir.specs.Terms.{BlockTerm, RightTerm, GensTerm, PartsTerm, Gives, Bind, Plain, NoGens, Gen, NoParts, Part}
use Rattle.ref_rules.specs.declared.listed_uses.list.Entry.{Entry}
use Rattle.ref_rules.specs.declared.listed_uses.list.Entry.TheVariants.{Use, Section}
use Rattle.ref_rules.specs.listed_uses.Latest.{section}

abbrev pub each : List Var → List Entry
each [] = []
each (x ∷ xs) = Use x ∷ each xs

abbrev mutual
  pub listed : BlockTerm → List Entry
  listed (Gives xs) = each xs
  listed (Bind xs s r b) = section (listed_right r) ++ listed b

  pub listed_right : RightTerm → List Entry
  listed_right (Plain p) = each (plain_uses p)
  listed_right (RightTerm.If c a b) = Use c ∷ (section (listed a) ++ section (listed b))
  listed_right (RightTerm.Loop first start params test body s) = each start ++ (section (listed test) ++ section (listed body))
  listed_right (RightTerm.Call g xs) = each xs
  listed_right (RightTerm.With op gens) = section (each (op_uses op)) ++ listed_gens gens
  listed_right (RightTerm.Parted f b c op parts) = section (each (parted_uses op)) ++ listed_parts parts

  pub listed_gens : GensTerm → List Entry
  listed_gens NoGens = []
  listed_gens (Gen h b rest) = section (each (head_uses h)) ++ (section (listed b) ++ listed_gens rest)

  pub listed_parts : PartsTerm → List Entry
  listed_parts NoParts = []
  listed_parts (Part h b rest) = section (listed b) ++ listed_parts rest

-- the section whose head stands at this place ends with the list
abbrev pub Closes : ℕ → List Entry → List Entry → Type 0
Closes head out end =
    (before inner : List Entry) → out ≡ (before ++ Section 0 ∷ []) ++ inner → head ≡ length before → end ≡ before ++ section inner
