-- Pairs of parted loops that are folded on one walk over a block.
use Rattle.std.specs.Prelude.{◌≡◌, ℕ, List, [], ◌∷◌, ◌++◌, ◌+◌, ◌^◌, ◌≤◌, drop, length, map, reverse, slice_set, Option}
use Rattle.sac_base.specs.declared.base.Base.{Base}
use Rattle.sac_base.specs.declared.grid.Grid1.{Grid1}
use Rattle.sac_base.specs.declared.site.Site.{Site}
use Rattle.core_ir.specs.declared.tree.Var.{Var}
use Rattle.core_ir.specs.declared.tree.Let.{Let}
use Rattle.core_ir.specs.declared.tree.PartedOp.{PartedOp}
use Rattle.core_ir.specs.Edits.{Edited}
use Rattle.core_ir.specs.Terms.{BlockTerm, RightTerm, LetTerm, PartTerm, Gives, Bind, chain, parts_of}
use Rattle.core_facts.specs.Facts.{Fact, Facts, block_facts, note_all, right_facts}
use Rattle.core_loops.specs.Steps.{fact_ways, facts_after}
use Rattle.core_ir.specs.View.{let_term, part_term}
use Rattle.fact_table.specs.Notes.{Note}
use Rattle.foldable_pairs.specs.declared.plan.PartPlan.{PartPlan}
use Rattle.foldable_pairs.specs.declared.producer.Producer.{Producer as Source}
use Rattle.foldable_pairs.specs.Pairs.{producer_of, IsPlanned}
use Rattle.fold_walk.specs.fold_laws.Made.{FoldMadeOf, PartsMade}
use Rattle.fold_walk.specs.declared.state.Fold.{Fold}
use Rattle.fold_walk.specs.declared.state.Folding.{Folding}
use Rattle.fold_walk.specs.Making.{CannotTake}
use Rattle.fold_walk.specs.Pairing.{loop_let}
use Rattle.core_walk.specs.Editing.{EachBinding}
use Rattle.core_walk.specs.Traced.{Unchanged}
use Rattle.fold_walk.specs.Left.{EachBegun, NoPairAt}

-- the next number of a variable, and the pairs that were folded
pub record State : Type 0 where
  pub next : ℕ
  pub folds : List Fold

abbrev pub state_of : Folding → State
state_of f = record { next = f.progress.next; folds = f.folds.items }

-- what is known before the binding at a place behind another, where the last of those behind comes first
abbrev pub facts_behind : (ℕ → List (Option (List ℕ))) → LetTerm → List LetTerm → ℕ → Facts → Facts
facts_behind called l behind place k = facts_after called (reverse (drop (place + 1) behind)) (note_all k l.targets (right_facts called l.right k))

module _ (called : ℕ → List (Option (List ℕ))) (function : ℕ) where
  -- ---- pairs one after another

  pub record FoldedHere (p q : State) (k : Facts) (b c : BlockTerm) : Type 0 where
    pub producer : Var
    pub consumer : Var
    pub made : FoldMadeOf called producer consumer p.next q.next k b c
    pub logged : q.folds ≡ p.folds ++ (record { function = function; producer = producer; consumer = consumer } ∷ [])

  pub data Walked : Facts → State → State → BlockTerm → BlockTerm → Type 0 where
    stays : {k : Facts} {p : State} {b : BlockTerm} → Walked k p p b b
    goes : {k : Facts} {p q r : State} {b c d : BlockTerm} → Edited Facts (fact_ways called) (FoldedHere p q) k b c → Walked k q r c d → Walked k p r b d

  -- ---- terms

  -- a walk that folded none leaves none
  pub record BlockWalked (k : Facts) (p q : State) (b c : BlockTerm) : Type 0 where
    pub walked : Walked k p q b c
    pub none : q.folds ≡ p.folds → EachBinding called (NoPairAt called p.next) b k

  -- ---- the bindings of one block, those in blocks of theirs left out

  -- a consumer that got the parts of its plan
  pub record ConsumerMade (later : Facts) (p q : State) (producer : Source) (l new : LetTerm) : Type 0 where
    pub consumer : Var
    pub site : Site
    pub frame : List Grid1
    pub base : Base
    pub op : PartedOp
    pub old : List PartTerm
    pub parts : List PartTerm
    pub plans : List PartPlan
    pub planned : (s : Site) (b : Base) (o : PartedOp) → IsPlanned called later (producer_of producer s b o) op old plans
    pub room : p.next ≤ 2 ^ 31 + 1
    pub made : PartsMade producer.var (map part_term producer.parts.now) old plans p.next parts q.next
    pub few : length parts ≤ 64
    pub before : l ≡ loop_let consumer site frame base op (parts_of old)
    pub after : new ≡ loop_let consumer site frame base op (parts_of parts)
    pub logged : q.folds ≡ p.folds ++ (record { function = function; producer = producer.var; consumer = consumer } ∷ [])

  -- no binding of a consumer that can take from the producer
  abbrev pub NoConsumer : Facts → ℕ → Source → LetTerm → Type 0
  NoConsumer later next producer l =
      (y : Var) (s : Site) (frame : List Grid1) (base : Base) (op : PartedOp) (old : List PartTerm) → l ≡ loop_let y s frame base op (parts_of old) →
      next ≤ 2 ^ 31 + 1 → CannotTake called later producer op old

  -- This pair was folded. What follows the producer comes last first.
  pub record FirstFolded (k : Facts) (p q : State) (l : LetTerm) (behind : List LetTerm) (results : List Var) (place : ℕ) (new : LetTerm) : Type 0 where
    pub before : List LetTerm
    pub user : LetTerm
    pub after : List LetTerm
    pub whole : behind ≡ before ++ (user ∷ after)
    pub at : length before ≡ place
    pub fold : FoldedHere p q k
        (Bind l.targets l.site l.right (chain (reverse after) (Bind user.targets user.site user.right (chain (reverse before) (Gives results)))))
        (chain (reverse after) (Bind new.targets new.site new.right (chain (reverse before) (Gives results))))

  -- pairs of these bindings were folded
  pub record LevelFolded (k : Facts) (p q : State) (lets new : List LetTerm) (results : List Var) : Type 0 where
    pub walked : Walked k p q (chain lets (Gives results)) (chain new (Gives results))
    pub none : q.folds ≡ p.folds → EachBegun called (NoPairAt called p.next) lets (Gives results) k

-- ---- what the walk does

-- nothing with a right side
abbrev pub FoldStep : Facts → Folding → Folding → List Var → Site → RightTerm → List Fact → List LetTerm → RightTerm → List Fact → Type 0
FoldStep k p q xs s r vs ms t ws = Unchanged p q r vs ms t ws

-- with a block it folds the pairs that are bound in it
pub record FoldFinish (called : ℕ → List (Option (List ℕ))) (function : ℕ) (k : Facts) (p q : Folding) (b : BlockTerm) (vs : List Fact) (c : BlockTerm)
    (ws : List Fact) : Type 0 where
  pub lets : List LetTerm
  pub new : List LetTerm
  pub results : List Var
  pub folded : LevelFolded called function k (state_of p) (state_of q) lets new results
  pub before : b ≡ chain lets (Gives results)
  pub after : c ≡ chain new (Gives results)
  pub known : ws ≡ block_facts called c k

-- one turn over the bindings of a block, of which those that are left come last first: a binding in the place of another
pub record TurnFolded (left left' passed passed' : List Let) (notes notes' : List Note) (place : ℕ) (new : Let) : Type 0 where
  pub behind : left' ≡ slice_set left place new
  pub done : passed' ≡ passed
  pub table : notes' ≡ notes

-- or a binding more that is done
pub record TurnKept (called : ℕ → List (Option (List ℕ))) (binding : Let) (left left' passed passed' : List Let) (k m : Facts) : Type 0 where
  pub behind : left' ≡ left
  pub done : passed' ≡ passed ++ (binding ∷ [])
  pub known : m ≡ note_all k (let_term binding).targets (right_facts called (let_term binding).right k)
