-- A block means the same where the calls in it mean the same.
use Rattle.std.proofs.Common.{◌≡◌, ℕ, ◌∷◌, map, refl}
use Rattle.sac_base.specs.Arrays.{ArrayValue}
use Rattle.sac_base.specs.Outcomes.{and_then, choose}
use Rattle.sac_base.specs.Parts.{condition}
use Rattle.sac_base.specs.WithLoops.{with_value}
use Rattle.core_ir.specs.Terms.{BlockTerm, RightTerm, GensTerm, PartsTerm, Gives, Bind, Plain, NoGens, Gen, NoParts, Part}
use Rattle.core_ir.specs.Meaning.{CallMeaning, bind, bind_all, first, one, loop_value, parted_value, generator, operation, with_index, run, right_value, generators, cells}
use Rattle.core_facts.specs.calls.Nests.{CallsAll, CallsAllRight, CallsAllGens, CallsAllParts}

module _ (calls other : CallMeaning) (turns : ℕ) where
  abbrev Agreed : ℕ → Type 0
  Agreed g = calls g ≡ other g

  mutual
    pub agreeing : (b : BlockTerm) → CallsAll (λ g. calls g ≡ other g) b → run calls turns b ≡ run other turns b
    agreeing (Gives xs) h = refl
    agreeing (Bind xs s r b) h = λ i e. and_then (agreeing_right r h.0 i s e) (λ vs. agreeing b h.1 i (bind_all e xs vs))

    pub agreeing_right : (r : RightTerm) → CallsAllRight (λ g. calls g ≡ other g) r → right_value calls turns r ≡ right_value other turns r
    agreeing_right (Plain p) h = refl
    agreeing_right (RightTerm.If x a b) h = λ i s e. choose s (condition (e x)) (agreeing a h.0 i e) (agreeing b h.1 i e)
    agreeing_right (RightTerm.Loop fb start params test body u) h =
        λ i s e. loop_value fb turns s u (λ vs. first (agreeing test h.0 i (bind_all e params vs))) (λ vs. agreeing body h.1 i (bind_all e params vs)) (map e start)
    agreeing_right (RightTerm.Call g xs) h = λ i s e. h i (map e xs) s
    agreeing_right (RightTerm.With op gens) h = λ i s e. one (with_value (agreeing_gens gens h i e) (operation op s e))
    agreeing_right (RightTerm.Parted f t shape op parts) h = λ i s e. one (parted_value f t shape op (agreeing_parts parts h i e) s e)

    pub agreeing_gens : (g : GensTerm) → CallsAllGens (λ g. calls g ≡ other g) g → generators calls turns g ≡ generators other turns g
    agreeing_gens NoGens h = refl
    agreeing_gens (Gen g b rest) h = λ i e. generator g (λ index. first (agreeing b h.0 i (with_index e g index))) e ∷ agreeing_gens rest h.1 i e

    pub agreeing_parts : (g : PartsTerm) → CallsAllParts (λ g. calls g ≡ other g) g → cells calls turns g ≡ cells other turns g
    agreeing_parts NoParts h = refl
    agreeing_parts (Part g b rest) h =
        λ i e. record { grid = g.grid; site = g.site; cell = λ index. first (agreeing b h.0 i (bind e g.index (Rattle.sac_base.specs.Arrays.vector Rattle.sac_base.specs.declared.base.Base.TheVariants.Int index))) } ∷ agreeing_parts rest h.1 i e

-- a weaker property
module _ (P Q : ℕ → Type 0) (f : (g : ℕ) → P g → Q g) where
  mutual
    pub weaker : (b : BlockTerm) → CallsAll P b → CallsAll Q b
    weaker (Gives xs) h = tt
    weaker (Bind xs s r b) h = (weaker_right r h.0, weaker b h.1)

    pub weaker_right : (r : RightTerm) → CallsAllRight P r → CallsAllRight Q r
    weaker_right (Plain p) h = tt
    weaker_right (RightTerm.If x a b) h = (weaker a h.0, weaker b h.1)
    weaker_right (RightTerm.Loop fb start params test body u) h = (weaker test h.0, weaker body h.1)
    weaker_right (RightTerm.Call g xs) h = f g h
    weaker_right (RightTerm.With op gens) h = weaker_gens gens h
    weaker_right (RightTerm.Parted fr t shape op parts) h = weaker_parts parts h

    pub weaker_gens : (g : GensTerm) → CallsAllGens P g → CallsAllGens Q g
    weaker_gens NoGens h = tt
    weaker_gens (Gen g b rest) h = (weaker b h.0, weaker_gens rest h.1)

    pub weaker_parts : (g : PartsTerm) → CallsAllParts P g → CallsAllParts Q g
    weaker_parts NoParts h = tt
    weaker_parts (Part g b rest) h = (weaker b h.0, weaker_parts rest h.1)

-- what holds of each group holds of those that are called
module _ (P : ℕ → Type 0) (f : (g : ℕ) → P g) where
  mutual
    pub everywhere : (b : BlockTerm) → CallsAll P b
    everywhere (Gives xs) = tt
    everywhere (Bind xs s r b) = (everywhere_right r, everywhere b)

    everywhere_right : (r : RightTerm) → CallsAllRight P r
    everywhere_right (Plain p) = tt
    everywhere_right (RightTerm.If x a b) = (everywhere a, everywhere b)
    everywhere_right (RightTerm.Loop fb start params test body u) = (everywhere test, everywhere body)
    everywhere_right (RightTerm.Call g xs) = f g
    everywhere_right (RightTerm.With op gens) = everywhere_gens gens
    everywhere_right (RightTerm.Parted fr t shape op parts) = everywhere_parts parts

    everywhere_gens : (g : GensTerm) → CallsAllGens P g
    everywhere_gens NoGens = tt
    everywhere_gens (Gen g b rest) = (everywhere b, everywhere_gens rest)

    everywhere_parts : (g : PartsTerm) → CallsAllParts P g
    everywhere_parts NoParts = tt
    everywhere_parts (Part g b rest) = (everywhere b, everywhere_parts rest)
