-- Passes that change one right side after another where it stands, and say of the others that there is nothing to do.
use Rattle.std.specs.Prelude.{◌≡◌, ◌⊎◌, ℕ, suc, List, [], ◌∷◌, Option}
use Rattle.sac_base.specs.declared.site.Site.{Site}
use Rattle.core_ir.specs.declared.tree.Var.{Var}
use Rattle.core_ir.specs.Terms.{BlockTerm, RightTerm, GensTerm, PartsTerm, LetTerm, Gives, Bind, Plain, NoGens, Gen, NoParts, Part}
use Rattle.core_facts.specs.Facts.{Fact, Facts, note_all, right_facts, in_part}

-- changes one after another, each of which counts
module _ (P : Type 0) (count : P → ℕ) (A : Type 0) (Change : P → P → A → A → Type 0) where
  pub data Walk : P → P → A → A → Type 0 where
    stays : {p : P} {a : A} → Walk p p a a
    goes : {p q r : P} {a b c : A} → count q ≡ suc (count p) → Change p q a b → Walk q r b c → Walk p r a c

-- this holds of what begins at each binding, by what is known there
module _ (called : ℕ → List (Option (List ℕ))) (Holds : Facts → BlockTerm → Type 0) where
  abbrev mutual
    pub EachBinding : BlockTerm → Facts → Type 0
    EachBinding (Gives xs) k = Unit {0}
    EachBinding (Bind xs s r b) k = EachInRight r k × Holds k (Bind xs s r b) × EachBinding b (note_all k xs (right_facts called r k))

    pub EachInRight : RightTerm → Facts → Type 0
    EachInRight (Plain p) k = Unit {0}
    EachInRight (RightTerm.If x a b) k = EachBinding a k × EachBinding b k
    EachInRight (RightTerm.Loop first start params test body t) k = EachBinding test (note_all k params []) × EachBinding body (note_all k params [])
    EachInRight (RightTerm.Call g xs) k = Unit {0}
    EachInRight (RightTerm.With o gens) k = EachInGens gens k
    EachInRight (RightTerm.Parted frame base cell o parts) k = EachInParts parts k

    pub EachInGens : GensTerm → Facts → Type 0
    EachInGens NoGens k = Unit {0}
    EachInGens (Gen h b rest) k = EachBinding b (note_all k (h.index ∷ h.names) []) × EachInGens rest k

    pub EachInParts : PartsTerm → Facts → Type 0
    EachInParts NoParts k = Unit {0}
    EachInParts (Part h b rest) k = EachBinding b (in_part k h) × EachInParts rest k

  -- the same of what begins at the block's own bindings alone
  abbrev pub EachBegun : BlockTerm → Facts → Type 0
  EachBegun (Gives xs) k = Unit {0}
  EachBegun (Bind xs s r b) k = Holds k (Bind xs s r b) × EachBegun b (note_all k xs (right_facts called r k))

  -- and in the blocks of their right sides
  abbrev pub EachInside : BlockTerm → Facts → Type 0
  EachInside (Gives xs) k = Unit {0}
  EachInside (Bind xs s r b) k = EachInRight r k × EachInside b (note_all k xs (right_facts called r k))

-- A step by a rule: the right side changes, and what is known of its values is what the new one tells, or nothing is to do and it stays.
module _ (called : ℕ → List (Option (List ℕ))) (P : Type 0) (count : P → ℕ) (Rule : P → P → Facts → BlockTerm → BlockTerm → Type 0)
    (Left : P → Facts → BlockTerm → Type 0) where
  pub record Changed (k : Facts) (p q : P) (xs : List Var) (s : Site) (r t : RightTerm) : Type 0 where
    pub counted : count q ≡ suc (count p)
    pub rule : (rest : BlockTerm) → Rule p q k (Bind xs s r rest) (Bind xs s t rest)

  pub record Kept (k : Facts) (p q : P) (xs : List Var) (s : Site) (r t : RightTerm) : Type 0 where
    pub still : q ≡ p
    pub same : t ≡ r
    pub left : (rest : BlockTerm) → Left p k (Bind xs s r rest)

  pub record EditStep (k : Facts) (p q : P) (xs : List Var) (s : Site) (r : RightTerm) (vs : List Fact) (ms : List LetTerm) (t : RightTerm) (ws : List Fact) :
      Type 0 where
    pub none : ms ≡ []
    pub known : vs ≡ right_facts called r k → ws ≡ right_facts called t k
    pub edit : Changed k p q xs s r t ⊎ Kept k p q xs s r t
