-- The variables of a term: which it uses, which are free in it, and the numbers above all of them.
use Rattle.std.specs.Prelude.{◌≡◌, ℕ, suc, false, ◌^◌, max, Bool, not, ◌&&◌, if◌then◌else◌, nat_lt, List, [], ◌∷◌, ◌++◌, map, Option, Some, None}
use Rattle.std.specs.List.Sorted.{IsStrictlyIncreasing}
use Rattle.core_ir.specs.declared.tree.Var.{Var}
use Rattle.core_ir.specs.Terms.{BlockTerm, RightTerm, GensTerm, PartsTerm, GenHead, FunTerm, Gives, Bind, Plain, NoGens, Gen, NoParts, Part}
use Rattle.core_ir.specs.Binders.{is_in, bound_in}
use Rattle.core_ir.specs.Outcome.{param_vars}
use Rattle.core_ir.specs.Scopes.{plain_uses, op_uses, parted_uses, head_uses}
use Rattle.core_ir.specs.Uses.{Avoids}

-- ---- free variables

-- the variables that a term uses, nested uses included
abbrev mutual
  pub used_in : BlockTerm → List Var
  used_in (Gives xs) = xs
  used_in (Bind xs s r b) = used_in_right r ++ used_in b

  pub used_in_right : RightTerm → List Var
  used_in_right (Plain p) = plain_uses p
  used_in_right (RightTerm.If x a b) = x ∷ (used_in a ++ used_in b)
  used_in_right (RightTerm.Loop first start params test body s) = start ++ (used_in test ++ used_in body)
  used_in_right (RightTerm.Call g xs) = xs
  used_in_right (RightTerm.With op gens) = op_uses op ++ used_in_gens gens
  used_in_right (RightTerm.Parted f b c op parts) = parted_uses op ++ used_in_parts parts

  pub used_in_gens : GensTerm → List Var
  used_in_gens NoGens = []
  used_in_gens (Gen h b rest) = head_uses h ++ (used_in b ++ used_in_gens rest)

  pub used_in_parts : PartsTerm → List Var
  used_in_parts NoParts = []
  used_in_parts (Part h b rest) = used_in b ++ used_in_parts rest

-- the variables that a generator's body sees as its index
abbrev pub index_names : GenHead → List Var
index_names h = h.index ∷ h.names

-- the block uses the variable and does not bind it
abbrev pub is_free : BlockTerm → Var → Bool
is_free b x = is_in x (used_in b) && not (is_in x (bound_in b))

-- the variable with this number
abbrev pub variable : ℕ → Var
variable n = record { 0 = n }

-- in the order of their numbers, and each once
abbrev pub AreAscending : List Var → Type 0
AreAscending xs = IsStrictlyIncreasing (map (λ (x : Var). x.0) xs)

-- ---- numbers above all variables

-- the least number above those of the variables
abbrev pub above_all : List Var → ℕ
above_all [] = 0
above_all (x ∷ xs) = max (suc x.0) (above_all xs)

abbrev pub above_option : Option Var → ℕ
above_option None = 0
above_option (Some x) = suc x.0

-- the least number above the operands of a generator
abbrev pub above_head : GenHead → ℕ
above_head h = max (above_option h.lower) (max (above_option h.upper) (max (above_option h.step) (above_option h.width)))

-- the least number above those of all variables that a term uses or binds
abbrev mutual
  pub above : BlockTerm → ℕ
  above (Gives xs) = above_all xs
  above (Bind xs s r b) = max (above_all xs) (max (above_right r) (above b))

  pub above_right : RightTerm → ℕ
  above_right (Plain p) = above_all (plain_uses p)
  above_right (RightTerm.If x a b) = max (suc x.0) (max (above a) (above b))
  above_right (RightTerm.Loop first start params test body s) = max (above_all start) (max (above_all params) (max (above test) (above body)))
  above_right (RightTerm.Call g xs) = above_all xs
  above_right (RightTerm.With op gens) = max (above_all (op_uses op)) (above_gens gens)
  above_right (RightTerm.Parted f b c op parts) = max (above_all (parted_uses op)) (above_parts parts)

  pub above_gens : GensTerm → ℕ
  above_gens NoGens = 0
  above_gens (Gen h b rest) = max (above_head h) (max (above_all (h.index ∷ h.names)) (max (above b) (above_gens rest)))

  pub above_parts : PartsTerm → ℕ
  above_parts NoParts = 0
  above_parts (Part h b rest) = max (suc h.index.0) (max (above b) (above_parts rest))

-- the least number above those of all variables of a function
abbrev pub above_function : FunTerm → ℕ
above_function f = max (above_all (param_vars f)) (above f.body)

-- the variable of a number of 32 bits
abbrev pub variable_at : ℕ → Option Var
variable_at n = if nat_lt n (2 ^ 32) then Some (variable n) else None

-- the variable is no parameter of the function, which neither uses nor binds it
pub record IsNew (f : FunTerm) (x : Var) : Type 0 where
  pub params : is_in x (param_vars f) ≡ false
  pub bound : is_in x (bound_in f.body) ≡ false
  pub unused : Avoids x f.body
