-- Bindings go that are not used and whose right side is known to have a value.
use Rattle.std.specs.Prelude.{ℕ, Bool, true, false, not, ◌||◌, ◌&&◌, if◌then◌else◌, List, [], ◌∷◌, Option}
use Rattle.sac_base.specs.declared.site.Site.{Site}
use Rattle.core_ir.specs.declared.tree.Var.{Var}
use Rattle.core_ir.specs.Binders.{is_in}
use Rattle.core_ir.specs.Terms.{PlainTerm, BlockTerm, RightTerm, GensTerm, PartsTerm, FunTerm, CoreTerm, Gives, Bind, Plain, NoGens, Gen, NoParts, Part}
use Rattle.core_subst.specs.Names.{used_in}
use Rattle.core_facts.specs.Facts.{Facts, note_all, right_facts, in_part}
use Rattle.core_facts.specs.constants.Called.{called as called_in, params_facts}
use Rattle.core_loops.specs.Indices.{IndexFacts, Other, total_plain}
use Rattle.core_forms.specs.cleaning.Bodies.{with_bodies}

-- the right side has a value whatever its operands are
abbrev pub never_faults : RightTerm → Bool
never_faults (Plain (PlainTerm.Const a)) = true
never_faults (Plain (PlainTerm.Copy x)) = true
never_faults (Plain (PlainTerm.Unary o x)) = true
never_faults (Plain (PlainTerm.Dim x)) = true
never_faults (Plain (PlainTerm.ShapeOf x)) = true
never_faults r = false

-- nothing is known beside the index of a part
abbrev pub no_indices : IndexFacts
no_indices x = Other

-- what is known of its operands shows that the right side has a value
abbrev pub is_total : RightTerm → Facts → Bool
is_total (Plain p) k = total_plain [] p k no_indices
is_total r k = false

-- the right side has a value, whatever its operands are or by what is known of them
abbrev pub is_removable : RightTerm → Facts → Bool
is_removable r k = never_faults r || is_total r k

-- the only variable of the list is none of these
abbrev pub is_unused : List Var → List Var → Bool
is_unused (x ∷ []) used = not (is_in x used)
is_unused xs used = false

-- a binding before a block, unless it may go and its variable is not used there
abbrev pub bind_if_needed : Bool → List Var → Site → RightTerm → BlockTerm → BlockTerm
bind_if_needed may_go xs s r b = if may_go && is_unused xs (used_in b) then b else Bind xs s r b

-- The block without bindings whose right side has a value, by what is known there, and whose variable is not used behind them. Seen from the end, so
-- that what only such bindings use is not used either.
module _ (called : ℕ → List (Option (List ℕ))) where
  abbrev mutual
    pub swept : BlockTerm → Facts → BlockTerm
    swept (Gives xs) k = Gives xs
    swept (Bind xs s r b) k = bind_if_needed (is_removable r k) xs s (swept_right r k) (swept b (note_all k xs (right_facts called r k)))

    pub swept_right : RightTerm → Facts → RightTerm
    swept_right (Plain p) k = Plain p
    swept_right (RightTerm.If x a b) k = RightTerm.If x (swept a k) (swept b k)
    swept_right (RightTerm.Loop first start params test body s) k =
        RightTerm.Loop first start params (swept test (note_all k params [])) (swept body (note_all k params [])) s
    swept_right (RightTerm.Call g xs) k = RightTerm.Call g xs
    swept_right (RightTerm.With o gens) k = RightTerm.With o (swept_gens gens k)
    swept_right (RightTerm.Parted frame base cell o parts) k = RightTerm.Parted frame base cell o (swept_parts parts k)

    pub swept_gens : GensTerm → Facts → GensTerm
    swept_gens NoGens k = NoGens
    swept_gens (Gen h b rest) k = Gen h (swept b (note_all k (h.index ∷ h.names) [])) (swept_gens rest k)

    pub swept_parts : PartsTerm → Facts → PartsTerm
    swept_parts NoParts k = NoParts
    swept_parts (Part h b rest) k = Part h (swept b (in_part k h)) (swept_parts rest k)

-- the whole core
abbrev pub swept_core : CoreTerm → CoreTerm
swept_core core = with_bodies (λ (f : FunTerm). swept (called_in core) f.body (params_facts f)) core
