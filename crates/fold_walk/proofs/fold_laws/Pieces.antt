-- The parts that are made for the pieces of one part.
use Rattle.std.proofs.Common.{◌≡◌, ℕ, suc, ◌+◌, ◌<◌, ◌≤◌, Bool, true, false, ◌||◌, eqb, List, [], ◌∷◌, ◌++◌, map, length, All, Option, Some, refl, sym, ap, subst, ◌∙◌, ◌⊎◌, inl, inr, append-nil, arith, ℤ}
use Rattle.std.specs.Prelude.{Vec}
use Rattle.std.specs.declared.alloc.Global.{Global}
use Rattle.std.proofs.lemmas.List.Elements.{All-nil, All-cons}
use Rattle.sac_base.specs.declared.grid.Grid1.{Grid1}
use Rattle.sac_base.specs.Grids.{has_vector}
use Rattle.core_ir.specs.declared.tree.Var.{Var}
use Rattle.core_ir.specs.Binders.{is_in, bound_in}
use Rattle.core_ir.specs.Renaming.{under, Renamed}
use Rattle.core_ir.specs.Scopes.{Scoped, ScopedParts}
use Rattle.core_ir.specs.Terms.{BlockTerm, PartTerm, PartHead, parts_of}
use Rattle.core_ir.specs.Uses.{Avoids}
use Rattle.core_ir.specs.WellFormed.{Distinct}
use Rattle.core_forms.specs.edits.Within.{AreWithin}
use Rattle.core_forms.proofs.edits.Wider.{bound_new}
use Rattle.core_facts.specs.Facts.{Facts, in_part}
use Rattle.core_forms.proofs.inlined_bodies.Names.{Names, Fresh, fresh_more, fresh_below, clash, none_at, in_none, behind_first, both}
use Rattle.core_forms.proofs.inlined_bodies.Names as names
use Rattle.core_subst.specs.Names.{variable}
use Rattle.core_subst.specs.copy.Mapped.{mapped}
use Rattle.core_subst.proofs.copy.Renaming.{bound_mapped}
use Rattle.core_loops.specs.Indices.{own_index}
use Rattle.core_loops.specs.Pairs.{Producer, Selects, offsets, grids_of}
use Rattle.core_loops.specs.Steps.{Folded, PiecesFold}
use Rattle.core_loops.specs.Steps as loops
use Rattle.core_forms.specs.norm.Copied.{AreFrom}
use Rattle.core_forms.proofs.norm.Copies.{alike}
use Rattle.core_forms.proofs.norm.Named.{order_between, order_distinct}
use Rattle.core_forms.specs.fold.Copied.{AllCopied, IsOldOrNew}
use Rattle.core_forms.specs.fold.Fresh.{IsFreshPiece}
use Rattle.core_forms.proofs.fold.Scopes.{folded_scoped}
use Rattle.fold_pieces.specs.Pieces.{Hold}
use Rattle.folded_parts.specs.Folding.{BlockFolded}
use Rattle.folded_parts.specs.Making.{PieceMade, PiecesMade}
use Rattle.fold_walk.specs.fold_laws.Made.{numbered_grids}
use Rattle.fold_walk.proofs.fold_laws.Copied.{copy_order, copy_renamed, renumbered}
use Rattle.fold_walk.proofs.fold_laws.Chosen.{Single}
use Rattle.fold_walk.proofs.fold_laws.Folded.{rises, copy_avoids, names_folded}
use Rattle.fold_walk.proofs.fold_laws.Folding.{Setting, HasMember, done}
use Rattle.fold_walk.proofs.fold_laws.Holding.{held_by}
use Rattle.fold_walk.proofs.fold_laws.Unchanged.{unchanged, same_folded}

-- ---- pieces with the numbers as lists

abbrev pub GridsMade : Var → List PartTerm → PartTerm → List (List Grid1 × List ℕ) → ℕ → List PartTerm → ℕ → Type 0
GridsMade p parts old [] n [] m = n ≡ m
GridsMade p parts old (piece ∷ pieces) n (new ∷ news) m = (k : ℕ) × (PieceMade p parts piece.1 old piece.0 n new k × GridsMade p parts old pieces k news m)
GridsMade p parts old _ n _ m = ⊥

pub grids_made : (p : Var) (parts : List PartTerm) (old : PartTerm) (pieces : List (List Grid1 × Vec ℕ Global)) (n : ℕ) (news : List PartTerm) (m : ℕ) → PiecesMade p parts old pieces n news m → GridsMade p parts old (numbered_grids pieces) n news m
grids_made p parts old [] n [] m h = h
grids_made p parts old (piece ∷ pieces) n (new ∷ news) m h = (h.0, (h.1.0, grids_made p parts old pieces h.0 news m h.1.1))
grids_made p parts old [] n (new ∷ news) m h = absurd h
grids_made p parts old (piece ∷ pieces) n [] m h = absurd h

-- ---- one piece

-- a part of the consumer at its place
pub record OldPart (scope : List Var) (low : ℕ) (old : PartTerm) : Type 0 where
  pub away : is_in old.head.index scope ≡ false
  pub scoped : Scoped (old.head.index ∷ scope) old.body
  pub once : Distinct (bound_in old.body)
  pub bound : Fresh (bound_in old.body) low
  pub single : Single old.body
  pub index : old.head.index.0 < low
  pub new : (y : Var) → low ≤ y.0 → Avoids y old.body

abbrev pub OldParts : List Var → ℕ → List PartTerm → Type 0
OldParts scope low [] = Unit {0}
OldParts scope low (old ∷ olds) = OldPart scope low old × OldParts scope low olds

-- the scope at the consumer
pub record AtConsumer (around scope : List Var) (low : ℕ) : Type 0 where
  pub within : AreWithin around scope
  pub fresh : Fresh scope low
  pub below : All (λ (x : Var). x.0 < low) scope

up_to : (a b c : ℕ) → a ≤ b → b ≤ c → a ≤ c
up_to a b c p q = omega (arith, p, q)

below_more : (x n m : ℕ) → x < n → n ≤ m → x < m
below_more x n m p q = omega (arith, p, q)

next_most : (next l after : ℕ) → after ≡ suc next + l → next ≤ after
next_most next l after e = omega (arith, e)

new_between : (low n next high y : ℕ) → low ≤ n → next ≤ high → (n ≤ y) × (y < next) → (low ≤ y) × (y < high)
new_between low n next high y p q h = let a = h.0 in let b = h.1 in (omega (arith, p, a), omega (arith, q, b))

one_other : (low : ℕ) (x y : Var) → x.0 < low → low ≤ y.0 → is_in y (x ∷ []) ≡ false
one_other low x y l h = go (eqb x.0 y.0) refl
  where
    go : (t : Bool) → eqb x.0 y.0 ≡ t → (t || false) ≡ false
    go true e = absurd (let q = Rattle.std.proofs.lemmas.Bool.eqb-true x.0 y.0 e in omega (arith, l, h, q))
    go false e = refl

all_by : (P : Var → Type 0) (ys : List Var) → ((y : Var) → is_in y ys ≡ true → P y) → All P ys
all_by P [] f = All-nil P
all_by P (y ∷ ys) f = All-cons P y ys (f y (names.itself y ys)) (all_by P ys (λ z h. f z (behind_first z y ys h)))

after_is : (n next l after y : ℕ) → n ≤ next → after ≡ suc next + l → (next ≤ y) × (y < next + suc l) → (n ≤ y) × (y < after)
after_is n next l after y p e h = let a = h.0 in let b = h.1 in (omega (arith, p, a), omega (arith, e, b))

map_length : (f : Var → Var) (xs : List Var) → length (map f xs) ≡ length xs
map_length f [] = refl
map_length f (x ∷ xs) = ap suc (map_length f xs)

module _ (called : ℕ → List (Option (List ℕ))) (later : Facts) (p : Producer) (sources : List PartTerm) (low high : ℕ) (around scope : List Var) (setting : Setting around low p sources) (parts_scoped : ScopedParts around p.parts)
    (place : AtConsumer around scope low) (old : PartTerm) (is : OldPart scope low old) where
  abbrev head : PartHead
  head = old.head

  abbrev axes : ℕ
  axes = length old.head.grid

  -- a part that uses the producer selects from it, and the numbers of the piece are those of its offsets
  pub record Selecting (grid : List Grid1) (holders : List ℕ) : Type 0 where
    pub some : HasMember grid
    pub only : Selects p.var old.body
    pub at : List (List ℤ)
    pub offsets : map (λ (c : List ℤ). Some c) at ≡ Rattle.core_loops.specs.Pairs.offsets called p.var axes old.body (in_part later head) (own_index axes head.index)
    pub hold : Hold (grids_of (parts_of sources)) at grid holders

  pub record Body (grid : List Grid1) (c : BlockTerm) : Type 0 where
    pub folded : Folded called p axes grid old.body (in_part later head) (own_index axes head.index) c
    pub copied : AllCopied called p axes grid low high old.body (in_part later head) (own_index axes head.index) c folded
    pub gone : Avoids p.var c

  body_is : (grid : List Grid1) (holders : List ℕ) (n j next : ℕ) (c : BlockTerm) → BlockFolded p.var sources holders 0 n old.body c j next → low ≤ n → next ≤ high → Avoids p.var old.body ⊎ Selecting grid holders → Body grid c
  body_is grid holders n j next c f up top (inl none) =
      let e = unchanged p.var sources holders f none in
      let w = same_folded called p axes grid low high old.body (in_part later head) (own_index axes head.index) in
      subst (λ (b : BlockTerm). Body grid b) (sym e) (record { folded = w.0; copied = w.1; gone = none })
  body_is grid holders n j next c f up top (inr s) =
      let k = in_part later head in
      let m = own_index axes head.index in
      let found = Rattle.core_loops.specs.Pairs.offsets called p.var axes old.body k m in
      let held : (v : List ℤ) → has_vector grid v ≡ true → Rattle.fold_walk.proofs.fold_laws.Holding.HeldBy (grids_of (parts_of sources)) v (found ++ []) holders =
      λ v h. subst (λ os. Rattle.fold_walk.proofs.fold_laws.Holding.HeldBy (grids_of (parts_of sources)) v os holders) (s.offsets ∙ sym (append-nil found))
      (held_by (grids_of (parts_of sources)) v s.at holders (s.hold v h)) in
      let d = done called p sources holders axes grid low high around setting s.some f k m [] up top is.single s.only is.new held in
      record { folded = d.folded; copied = d.copied; gone = d.gone }

  -- what is made for a piece
  pub record OnePiece (grid : List Grid1) (n : ℕ) (new : PartTerm) (after : ℕ) : Type 0 where
    pub grid_is : new.head.grid ≡ grid
    pub site : new.head.site ≡ head.site
    pub body : BlockTerm
    pub folded : Folded called p axes new.head.grid old.body (in_part later head) (own_index axes head.index) body
    pub renamed : Renamed (under loops.itself head.index new.head.index) body new.body
    pub fresh : IsFreshPiece called later p low high head new.head old.body body new.body folded
    pub gone : Avoids p.var new.body
    pub rise : n ≤ after
    pub bound : Names [] (new.head.index ∷ bound_in new.body) n after

  pub one_piece : (grid : List Grid1) (holders : List ℕ) (n : ℕ) (new : PartTerm) (after : ℕ) → PieceMade p.var sources holders old grid n new after → low ≤ n → after ≤ high → Avoids p.var old.body ⊎ Selecting grid holders → OnePiece grid n new after
  one_piece grid holders n new after h up top s =
      let c = h.body in
      let next = h.next in
      let rise = rises p.var sources holders h.folded in
      let last = next_most next (length (bound_in c)) after h.up_to in
      let at_most = up_to next after high last top in
      let low_next = up_to low n next up rise in
      let b = body_is grid holders n h.passed next c h.folded up at_most s in
      let given = names_folded p.var sources holders around setting.known h.folded is.single in
      let once = given.once is.once (fresh_more (bound_in old.body) low n up is.bound) in
      let old_or_new : (y : Var) → (is_in y (bound_in old.body) ≡ true) ⊎ ((n ≤ y.0) × (y.0 < next)) → IsOldOrNew (bound_in old.body) low high y =
      λ y w. elim w [
        | inl o ↦ inl o
        | inr q ↦ inr (new_between low n next high y.0 up at_most q)
      ] in
      let within = all_by (IsOldOrNew (bound_in old.body) low high) (bound_in c) (λ y q. old_or_new y (given.within y q)) in
      let out : (y : Var) → (is_in y (bound_in old.body) ≡ true) ⊎ ((n ≤ y.0) × (y.0 < next)) → is_in y (head.index ∷ scope) ≡ false =
      λ y w. elim w [
        | inl o ↦ none_at y (bound_in old.body) (head.index ∷ scope) (bound_new old.body (head.index ∷ scope) is.scoped) o
        | inr q ↦ let l = up_to low n y.0 up q.0 in in_none y (head.index ∷ []) scope (one_other low head.index y is.index l) (place.fresh y l)
      ] in
      let scoped = folded_scoped called p axes grid low high around parts_scoped old.body (in_part later head) (own_index axes head.index) c b.folded b.copied (head.index ∷ scope) (head.index ∷ scope) (λ y q. q)
      (λ y q. behind_first y head.index scope (place.within y q)) is.scoped once (λ y q. out y (given.within y q)) in
      let f = renumbered head.index c next in
      let made : PartTerm = record { head = record { grid = grid; index = variable next; site = head.site }; body = mapped f c } in
      let all = variable next ∷ bound_in (mapped f c) in
      let order : AreFrom next all = (refl, copy_order head.index c next once) in
      let count : length (bound_in (mapped f c)) ≡ length (bound_in c) = ap length (bound_mapped f c) ∙ map_length f (bound_in c) in
      let one : OnePiece grid n made after =
      record {
        grid_is = refl;
        site = refl;
        body = c;
        folded = b.folded;
        renamed = copy_renamed scope low place.below head.index c is.away scoped once next low_next;
        fresh = record { once = once; within = within; copied = b.copied; alike = alike f c };
        gone = copy_avoids p.var head.index c next (below_more p.var.0 low next setting.var low_next) b.gone;
        rise = up_to n next after rise last;
        bound = record {
          within = λ y q. inr (after_is n next (length (bound_in c)) after y.0 rise h.up_to (subst (λ m. (next ≤ y.0) × (y.0 < next + suc m)) count (order_between next all order y q)));
          once = λ d g. order_distinct next all order;
        };
      } in
      subst (λ (t : PartTerm). OnePiece grid n t after) (sym h.made) one
