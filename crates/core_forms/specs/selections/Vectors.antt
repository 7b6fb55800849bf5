-- Selections by scalars become selections by vectors of one number.
use Rattle.std.specs.Prelude.{ℕ, suc, Bool, ◌&&◌, not, if◌then◌else◌, List, [], ◌∷◌, Option, Some, None}
use Rattle.sac_base.specs.declared.site.Site.{Site}
use Rattle.core_ir.specs.declared.tree.Var.{Var}
use Rattle.core_ir.specs.Terms.{PlainTerm, BlockTerm, RightTerm, GensTerm, PartsTerm, FunTerm, CoreTerm, Gives, Bind, Plain, NoGens, Gen, NoParts, Part}
use Rattle.core_subst.specs.Names.{above_function, variable}
use Rattle.core_facts.specs.Facts.{Fact, Facts, is_some, note_all, right_facts, in_part}
use Rattle.core_loops.specs.Indices.{is_scalar_shape}
use Rattle.core_facts.specs.constants.Called.{called as called_in, params_facts}
use Rattle.core_forms.specs.cleaning.Bodies.{with_bodies}

-- a selection from an array at an index
pub record Selection : Type 0 where
  pub array : Var
  pub index : Var

-- a scalar that is not literal
abbrev pub is_open_scalar : Fact → Bool
is_open_scalar f = is_scalar_shape f.shape && not (is_some f.literal)

-- the selection by such an index, if the right side is one
abbrev pub by_scalar : RightTerm → Facts → Option Selection
by_scalar (Plain (PlainTerm.Select a i)) k = if is_open_scalar (k i) then Some (record { array = a; index = i }) else None
by_scalar r k = None

-- A binding before a block. A selection by a scalar goes by the vector of it, to which the variable of this number is bound before.
abbrev pub bind_vector : Option Selection → ℕ → List Var → Site → RightTerm → BlockTerm → BlockTerm
bind_vector None n xs s r b = Bind xs s r b
bind_vector (Some x) n xs s r b =
    Bind (variable n ∷ []) s (Plain (PlainTerm.Literal (x.index ∷ []))) (Bind xs s (Plain (PlainTerm.Select x.array (variable n))) b)

-- the number behind the one that this takes
abbrev pub behind : Option Selection → ℕ → ℕ
behind None n = n
behind (Some x) n = suc n

module _ (called : ℕ → List (Option (List ℕ))) where
  -- the number behind those that a term takes from this on
  abbrev mutual
    pub next : BlockTerm → Facts → ℕ → ℕ
    next (Gives xs) k n = n
    next (Bind xs s r b) k n = next b (note_all k xs (right_facts called r k)) (behind (by_scalar r k) (next_right r k n))

    pub next_right : RightTerm → Facts → ℕ → ℕ
    next_right (Plain p) k n = n
    next_right (RightTerm.If x a b) k n = next b k (next a k n)
    next_right (RightTerm.Loop first start params test body s) k n = next body (note_all k params []) (next test (note_all k params []) n)
    next_right (RightTerm.Call g xs) k n = n
    next_right (RightTerm.With o gens) k n = next_gens gens k n
    next_right (RightTerm.Parted frame base cell o parts) k n = next_parts parts k n

    pub next_gens : GensTerm → Facts → ℕ → ℕ
    next_gens NoGens k n = n
    next_gens (Gen h b rest) k n = next_gens rest k (next b (note_all k (h.index ∷ h.names) []) n)

    pub next_parts : PartsTerm → Facts → ℕ → ℕ
    next_parts NoParts k n = n
    next_parts (Part h b rest) k n = next_parts rest k (next b (in_part k h) n)

  -- The block whose selections by scalars that are not literal go by vectors. They are bound to the variables from this number on, in the order of the
  -- bindings.
  abbrev mutual
    pub vectored : BlockTerm → Facts → ℕ → BlockTerm
    vectored (Gives xs) k n = Gives xs
    vectored (Bind xs s r b) k n =
        bind_vector (by_scalar r k) (next_right r k n) xs s (vectored_right r k n)
        (vectored b (note_all k xs (right_facts called r k)) (behind (by_scalar r k) (next_right r k n)))

    pub vectored_right : RightTerm → Facts → ℕ → RightTerm
    vectored_right (Plain p) k n = Plain p
    vectored_right (RightTerm.If x a b) k n = RightTerm.If x (vectored a k n) (vectored b k (next a k n))
    vectored_right (RightTerm.Loop first start params test body s) k n =
        RightTerm.Loop first start params (vectored test (note_all k params []) n) (vectored body (note_all k params []) (next test (note_all k params []) n)) s
    vectored_right (RightTerm.Call g xs) k n = RightTerm.Call g xs
    vectored_right (RightTerm.With o gens) k n = RightTerm.With o (vectored_gens gens k n)
    vectored_right (RightTerm.Parted frame base cell o parts) k n = RightTerm.Parted frame base cell o (vectored_parts parts k n)

    pub vectored_gens : GensTerm → Facts → ℕ → GensTerm
    vectored_gens NoGens k n = NoGens
    vectored_gens (Gen h b rest) k n =
        Gen h (vectored b (note_all k (h.index ∷ h.names) []) n) (vectored_gens rest k (next b (note_all k (h.index ∷ h.names) []) n))

    pub vectored_parts : PartsTerm → Facts → ℕ → PartsTerm
    vectored_parts NoParts k n = NoParts
    vectored_parts (Part h b rest) k n = Part h (vectored b (in_part k h) n) (vectored_parts rest k (next b (in_part k h) n))

-- the whole core, with variables that its functions do not have
abbrev pub vectored_core : CoreTerm → CoreTerm
vectored_core core = with_bodies (λ (f : FunTerm). vectored (called_in core) f.body (params_facts f) (above_function f)) core
