-- Bases in another core, whose groups have the bases of the first.
use Rattle.std.proofs.Common.{ℕ, List, [], ◌∷◌, ◌++◌}
use Rattle.std.specs.Prelude.{zip}
use Rattle.sac_base.specs.declared.base.Base.{Base}
use Rattle.sac_base.specs.declared.base.Base.TheVariants.{Int, Bool as Truth}
use Rattle.core_ir.specs.Terms.{BlockTerm, RightTerm, GensTerm, PartsTerm, CoreTerm, Gives, Bind, Plain, NoGens, Gen, NoParts, Part}
use Rattle.core_ir.specs.WellFormed.{Bases, ints, GroupBases, BlockBases, RightBases, GensBases, PartsBases}

module _ (a b : CoreTerm) (into : (g : ℕ) (us vs : List Base) → GroupBases a g us vs → GroupBases b g us vs) where
  mutual
    pub moved : (c : BlockTerm) (g : Bases) (us : List Base) → BlockBases a g c us → BlockBases b g c us
    moved (Gives xs) g us h = h
    moved (Bind xs s r c) g us h = (h.0, (moved_right r g h.0 h.1.0, h.1.1, moved c (zip xs h.0 ++ g) us h.1.2))

    moved_right : (r : RightTerm) (g : Bases) (us : List Base) → RightBases a g r us → RightBases b g r us
    moved_right (Plain p) g us h = h
    moved_right (RightTerm.If x c d) g us h = (h.0, moved c g us h.1, moved d g us h.2)
    moved_right (RightTerm.Loop first start params c d s) g us h = (h.0, h.1, moved c (zip params us ++ g) (Truth ∷ []) h.2, moved d (zip params us ++ g) us h.3)
    moved_right (RightTerm.Call group xs) g us h = (h.0, (h.1.0, into group h.0 us h.1.1))
    moved_right (RightTerm.With o gens) g us h = (h.0, (h.1.0, moved_gens gens g h.0 h.1.1, h.1.2))
    moved_right (RightTerm.Parted f t c o parts) g us h = (h.0, moved_parts parts g t h.1, h.2, h.3)

    moved_gens : (gs : GensTerm) (g : Bases) (t : Base) → GensBases a g gs t → GensBases b g gs t
    moved_gens NoGens g t h = tt
    moved_gens (Gen k c rest) g t h = (h.0, h.1, h.2, h.3, moved c (ints (k.index ∷ k.names) ++ g) (t ∷ []) h.4, moved_gens rest g t h.5)

    moved_parts : (ps : PartsTerm) (g : Bases) (t : Base) → PartsBases a g ps t → PartsBases b g ps t
    moved_parts NoParts g t h = tt
    moved_parts (Part k c rest) g t h = (moved c ((k.index, Int) ∷ g) (t ∷ []) h.0, moved_parts rest g t h.1)
