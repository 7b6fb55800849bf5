-- Bindings have as many targets as their right sides have results, and bind distinct variables.
use Rattle.std.proofs.Common.{◌≡◌, ℕ, ◌∷◌, length}
use Rattle.core_ir.specs.Terms.{BlockTerm, RightTerm, GensTerm, PartsTerm, Gives, Bind, Plain, NoGens, Gen, NoParts, Part}
use Rattle.core_ir.specs.WellFormed.{Distinct}
use Rattle.counted_code.specs.Counts.{PlainGives}

module _ (results_of : ℕ → ℕ) where
  abbrev mutual
    pub Sized : ℕ → BlockTerm → Type 0
    Sized n (Gives xs) = length xs ≡ n
    Sized n (Bind xs s r b) = SizedRight (length xs) r × Distinct xs × Sized n b

    pub SizedRight : ℕ → RightTerm → Type 0
    SizedRight n (Plain p) = PlainGives n p
    SizedRight n (RightTerm.If c a b) = Sized n a × Sized n b
    SizedRight n (RightTerm.Loop first start params test body s) = (length start ≡ n) × (length params ≡ n) × Distinct params × Sized 1 test × Sized n body
    SizedRight n (RightTerm.Call g xs) = results_of g ≡ n
    SizedRight n (RightTerm.With op gens) = (1 ≡ n) × SizedGens gens
    SizedRight n (RightTerm.Parted f b c op parts) = (1 ≡ n) × SizedParts parts

    pub SizedGens : GensTerm → Type 0
    SizedGens NoGens = Unit {0}
    SizedGens (Gen h b rest) = Distinct (h.index ∷ h.names) × Sized 1 b × SizedGens rest

    pub SizedParts : PartsTerm → Type 0
    SizedParts NoParts = Unit {0}
    SizedParts (Part h b rest) = Sized 1 b × SizedParts rest
