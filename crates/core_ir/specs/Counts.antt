-- How many bindings a term has.
use Rattle.std.specs.Prelude.{ℕ, suc, ◌+◌, ◌-◌, ◌^◌, min}
use Rattle.core_ir.specs.Terms.{BlockTerm, RightTerm, GensTerm, PartsTerm, Gives, Bind, Plain, NoGens, Gen, NoParts, Part}

abbrev mutual
  -- nested ones included
  pub bindings : BlockTerm → ℕ
  bindings (Gives xs) = 0
  bindings (Bind xs s r b) = suc (bindings_right r + bindings b)

  pub bindings_right : RightTerm → ℕ
  bindings_right (Plain p) = 0
  bindings_right (RightTerm.If x a b) = bindings a + bindings b
  bindings_right (RightTerm.Loop first start params test body s) = bindings test + bindings body
  bindings_right (RightTerm.Call g xs) = 0
  bindings_right (RightTerm.With o gens) = bindings_gens gens
  bindings_right (RightTerm.Parted f b c o parts) = bindings_parts parts

  pub bindings_gens : GensTerm → ℕ
  bindings_gens NoGens = 0
  bindings_gens (Gen h b rest) = bindings b + bindings_gens rest

  pub bindings_parts : PartsTerm → ℕ
  bindings_parts NoParts = 0
  bindings_parts (Part h b rest) = bindings b + bindings_parts rest

-- the number, or the greatest of 64 bits where it is greater
abbrev pub capped : ℕ → ℕ
capped n = min n (2 ^ 64 - 1)
