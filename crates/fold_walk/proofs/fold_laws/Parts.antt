-- The parts that are made for all parts of a consumer.
use Rattle.std.proofs.Common.{◌≡◌, ℕ, suc, ◌+◌, ◌≤◌, Bool, true, false, ◌||◌, cond, nat_lt, List, [], ◌∷◌, ◌++◌, map, length, Option, refl, sym, ap, subst, ◌∙◌, ◌⊎◌, inl, inr, append_assoc, arith, ℤ}
use Rattle.std.specs.Prelude.{All}
use Rattle.std.proofs.lemmas.Bool.Decides.{nat_tests}
use Rattle.std.proofs.lemmas.List.Elements.{All-head, All-tail}
use Rattle.sac_base.specs.declared.grid.Grid1.{Grid1}
use Rattle.sac_base.specs.Grids.{has_vector, times_vector, SplitsVectors}
use Rattle.core_ir.specs.declared.tree.Var.{Var}
use Rattle.core_ir.specs.Binders.{bound_in, bound_in_parts}
use Rattle.core_ir.specs.Scopes.{ScopedParts}
use Rattle.core_ir.specs.Terms.{PartsTerm, PartTerm, NoParts, Part, parts_of}
use Rattle.core_ir.specs.Uses.{Avoids, AvoidsParts}
use Rattle.core_ir.specs.WellFormed.{Covered, part_grids}
use Rattle.core_facts.specs.Facts.{Facts, in_part}
use Rattle.core_forms.proofs.inlined_bodies.Names.{Names, both, clash, same}
use Rattle.core_loops.specs.Indices.{own_index}
use Rattle.core_loops.specs.Loops.{weight, parted_in}
use Rattle.core_loops.specs.Pairs.{Producer, PartFolds, count_parts, grids_of}
use Rattle.core_loops.specs.Steps.{PiecesFold, NewParts, append_parts, any_has}
use Rattle.core_forms.specs.fold.Fresh.{FreshPieces, FreshParts, StaysOne}
use Rattle.core_uses.specs.Tests.{is_avoided}
use Rattle.core_uses.proofs.Decided.{block_decided}
use Rattle.fold_pieces.specs.declared.keeping.FoldPiece.{FoldPiece}
use Rattle.fold_pieces.specs.Pieces.{Hold}
use Rattle.foldable_pairs.specs.declared.plan.PartPlan.{PartPlan}
use Rattle.foldable_pairs.specs.Pairs.{PartPlanned, PartsPlanned}
use Rattle.folded_parts.specs.Making.{PieceMade}
use Rattle.generator_sets.specs.Pieces.{lows}
use Rattle.fold_walk.specs.fold_laws.Made.{due_pieces, has_members, numbered_grid, PartMade, PartsMade}
use Rattle.fold_walk.proofs.fold_laws.Folded.{rises}
use Rattle.fold_walk.proofs.fold_laws.Folding.{Setting}
use Rattle.fold_walk.proofs.fold_laws.Members.{grids_of_numbered, kept, kept_splits, one_splits, times_cons}
use Rattle.fold_walk.proofs.fold_laws.Pieces.{AtConsumer, GridsMade, OldPart, OldParts, Selecting, grids_made, one_piece}
use Rattle.foldable_pairs.proofs.Avoiding.{none_avoids}

-- ---- lists of parts

pub parts_append : (xs ys : List PartTerm) → parts_of (xs ++ ys) ≡ append_parts (parts_of xs) (parts_of ys)
parts_append [] ys = refl
parts_append (x ∷ xs) ys = ap (Part x.head x.body) (parts_append xs ys)

parts_bound : (xs ys : List PartTerm) → bound_in_parts (parts_of (xs ++ ys)) ≡ bound_in_parts (parts_of xs) ++ bound_in_parts (parts_of ys)
parts_bound [] ys = refl
parts_bound (x ∷ xs) ys =
    ap (λ l. x.head.index ∷ (bound_in x.body ++ l)) (parts_bound xs ys)
    ∙ ap (λ l. x.head.index ∷ l) (sym (append_assoc (bound_in x.body) (bound_in_parts (parts_of xs)) (bound_in_parts (parts_of ys))))

avoids_append : (x : Var) (xs ys : List PartTerm) → AvoidsParts x (parts_of xs) → AvoidsParts x (parts_of ys) → AvoidsParts x (parts_of (xs ++ ys))
avoids_append x [] ys h k = k
avoids_append x (p ∷ xs) ys h k = (h.0, avoids_append x xs ys h.1 k)

pub parts_count : (xs : List PartTerm) → count_parts (parts_of xs) ≡ length xs
parts_count [] = refl
parts_count (x ∷ xs) = ap suc (parts_count xs)

grids_count : (ps : PartsTerm) → count_parts ps ≡ length (part_grids ps)
grids_count NoParts = refl
grids_count (Part h b rest) = ap suc (grids_count rest)

none_less : nat_lt 0 0 ≡ false
none_less = refl

some_less : (n : ℕ) → nat_lt 0 (1 + n) ≡ true
some_less n = grind (arith, nat_tests)

less_same : (n : ℕ) → nat_lt 0 n ≡ nat_lt 0 (0 + n)
less_same n = grind (arith, nat_tests)

-- some part has an index that lies in a grid of the parts
any_times : (ps : PartsTerm) (v : List ℤ) → any_has ps v ≡ nat_lt 0 (times_vector (part_grids ps) v)
any_times NoParts v = refl
any_times (Part h b rest) v = go (has_vector h.grid v) (any_times rest v) ∙ (λ i. nat_lt 0 (sym (times_cons h.grid (part_grids rest) v) i))
  where
    go : (t : Bool) → any_has rest v ≡ nat_lt 0 (times_vector (part_grids rest) v) → (t || any_has rest v) ≡ nat_lt 0 (cond t 1 0 + times_vector (part_grids rest) v)
    go true e = sym (some_less (times_vector (part_grids rest) v))
    go false e = e ∙ less_same (times_vector (part_grids rest) v)

any_split : (ps : PartsTerm) (grid : List Grid1) → SplitsVectors (part_grids ps) (has_vector grid) → (v : List ℤ) → any_has ps v ≡ has_vector grid v
any_split ps grid h v = any_times ps v ∙ (λ i. nat_lt 0 (h v i)) ∙ go (has_vector grid v)
  where
    go : (b : Bool) → nat_lt 0 (cond b 1 0) ≡ b
    go true = refl
    go false = refl

-- ---- numbers

up_to : (a b c : ℕ) → a ≤ b → b ≤ c → a ≤ c
up_to a b c p q = omega (arith, p, q)

next_most : (n next l after : ℕ) → n ≤ next → after ≡ suc next + l → n ≤ after
next_most n next l after p e = omega (arith, p, e)

same_most : (a b : ℕ) → a ≡ b → a ≤ b
same_most a b e = omega (arith, e)

piece_rises : (p : Var) (sources : List PartTerm) (holders : List ℕ) (old : PartTerm) (grid : List Grid1) (n : ℕ) (new : PartTerm) (after : ℕ) → PieceMade p sources holders old grid n new after → n ≤ after
piece_rises p sources holders old grid n new after h = next_most n h.next (length (bound_in h.body)) after (rises p sources holders h.folded) h.up_to

grids_rise : (p : Var) (sources : List PartTerm) (old : PartTerm) (pieces : List (List Grid1 × List ℕ)) (n : ℕ) (news : List PartTerm) (m : ℕ) → GridsMade p sources old pieces n news m → n ≤ m
grids_rise p sources old [] n [] m h = same_most n m h
grids_rise p sources old (g ∷ gs) n (new ∷ news) m h = up_to n h.0 m (piece_rises p sources g.1 old g.0 n new h.0 h.1.0) (grids_rise p sources old gs h.0 news m h.1.1)
grids_rise p sources old [] n (new ∷ news) m h = absurd h
grids_rise p sources old (g ∷ gs) n [] m h = absurd h

made_grids : (p : Var) (sources : List PartTerm) (old : PartTerm) (plan : PartPlan) (n : ℕ) (news : List PartTerm) (m : ℕ) → PartMade p sources old plan n news m → GridsMade p sources old (due_pieces p old plan) n news m
made_grids p sources old plan n news m h = subst (λ gs. GridsMade p sources old gs n news m) h.due (grids_made p sources old h.pieces n news m h.made)

pub parts_rise : (p : Var) (sources olds : List PartTerm) (plans : List PartPlan) (n : ℕ) (news : List PartTerm) (m : ℕ) → PartsMade p sources olds plans n news m → n ≤ m
parts_rise p sources [] [] n news m h = same_most n m (sym h.1)
parts_rise p sources (old ∷ olds) (plan ∷ plans) n news m h =
    let k = h.1.1.0 in
    let w = h.1.1.1 in
    up_to n k m (grids_rise p sources old (due_pieces p old plan) n h.0 k (made_grids p sources old plan n h.0 k w.0)) (parts_rise p sources olds plans k h.1.0 m w.1)
parts_rise p sources [] (plan ∷ plans) n news m h = absurd h
parts_rise p sources (old ∷ olds) [] n news m h = absurd h

-- ---- at the consumer

module _ (called : ℕ → List (Option (List ℕ))) (later : Facts) (p : Producer) (sources : List PartTerm) (low high : ℕ) (around scope : List Var) (setting : Setting around low p sources) (parts_scoped : ScopedParts around p.parts)
    (place : AtConsumer around scope low) (cover : Covered p.frame (grids_of p.parts)) where
  module _ (old : PartTerm) (is : OldPart scope low old) where
    abbrev Allowed : List Grid1 × List ℕ → Type 0
    Allowed g = Avoids p.var old.body ⊎ Selecting called later p sources low high around scope setting parts_scoped place old is g.0 g.1

    abbrev AllAllowed : List (List Grid1 × List ℕ) → Type 0
    AllAllowed [] = Unit {0}
    AllAllowed (g ∷ gs) = Allowed g × AllAllowed gs

    -- ---- all pieces of a part

    record PiecesDone (grids : List (List Grid1)) (n : ℕ) (news : List PartTerm) (m : ℕ) : Type 0 where
      pub fold : PiecesFold called later p old.head old.body (parts_of news)
      pub fresh : FreshPieces called later p low high old.head old.body (parts_of news) fold
      pub gone : AvoidsParts p.var (parts_of news)
      pub bound : Names [] (bound_in_parts (parts_of news)) n m
      pub grids_are : part_grids (parts_of news) ≡ grids

    pieces_done :
        (gs : List (List Grid1 × List ℕ)) (n : ℕ) (news : List PartTerm) (m : ℕ) → GridsMade p.var sources old gs n news m → low ≤ n → m ≤ high → AllAllowed gs →
        PiecesDone (map (λ (g : List Grid1 × List ℕ). g.0) gs) n news m
    pieces_done [] n [] m h up top a = record { fold = tt; fresh = tt; gone = tt; bound = subst (λ k. Names [] [] n k) h (same [] n n); grids_are = refl }
    pieces_done (g ∷ gs) n (new ∷ news) m h up top a =
        let k = h.0 in
        let first_rise = piece_rises p.var sources g.1 old g.0 n new k h.1.0 in
        let rest_rise = grids_rise p.var sources old gs k news m h.1.1 in
        let one = one_piece called later p sources low high around scope setting parts_scoped place old is g.0 g.1 n new k h.1.0 up (up_to k m high rest_rise top) a.0 in
        let rest = pieces_done gs k news m h.1.1 (up_to low n k up first_rise) top a.1 in
        let names : Names [] ((new.head.index ∷ bound_in new.body) ++ bound_in_parts (parts_of news)) n m = both [] [] (new.head.index ∷ bound_in new.body) (bound_in_parts (parts_of news)) n k m first_rise rest_rise one.bound rest.bound in
        record {
          fold = (one.site, (one.body, (one.folded, one.renamed)), rest.fold);
          fresh = (one.fresh, rest.fresh);
          gone = (one.gone, rest.gone);
          bound = names;
          grids_are = λ i. one.grid_is i ∷ rest.grids_are i;
        }
    pieces_done [] n (new ∷ news) m h up top a = absurd h
    pieces_done (g ∷ gs) n [] m h up top a = absurd h

    -- ---- the pieces of a plan

    module _ (plan : PartPlan) (s c : ℕ) (planned : PartPlanned called later p old plan s c) where
      abbrev folds : PartFolds called later p old.head old.body s c
      folds = planned.folds

      each_kept : (ps : List FoldPiece) → All (λ (q : FoldPiece). Hold (grids_of p.parts) folds.at q.grid q.holders.items) ps → AllAllowed (map numbered_grid (kept ps))
      each_kept [] h = tt
      each_kept (q ∷ ps) h = go (has_members q) refl (each_kept ps (All-tail (λ (q : FoldPiece). Hold (grids_of p.parts) folds.at q.grid q.holders.items) q ps h))
        where
          go : (b : Bool) → has_members q ≡ b → AllAllowed (map numbered_grid (kept ps)) → AllAllowed (map numbered_grid (cond (has_members q) (q ∷ kept ps) (kept ps)))
          go true e rec =
              subst (λ t. AllAllowed (map numbered_grid (cond t (q ∷ kept ps) (kept ps)))) (sym e) (
                inr (record {
                  some = record { member = lows q.grid; has = e };
                  only = folds.only;
                  at = folds.at;
                  offsets = folds.offsets;
                  hold = subst (λ ps. Hold (grids_of ps) folds.at q.grid q.holders.items) setting.given (All-head (λ (q : FoldPiece). Hold (grids_of p.parts) folds.at q.grid q.holders.items) q ps h);
                }),
                rec,
              )
          go false e rec = subst (λ t. AllAllowed (map numbered_grid (cond t (q ∷ kept ps) (kept ps)))) (sym e) rec

      abbrev Due : Bool → List (List Grid1 × List ℕ)
      Due b = cond b ((old.head.grid, []) ∷ []) (map numbered_grid (kept plan.pieces.items))

      due_allowed : AllAllowed (due_pieces p.var old plan)
      due_allowed = go (is_avoided p.var old.body) refl
        where
          go : (b : Bool) → is_avoided p.var old.body ≡ b → AllAllowed (Due (is_avoided p.var old.body))
          go true e = subst (λ b. AllAllowed (Due b)) (sym e) (inl ((block_decided p.var old.body).0 e), tt)
          go false e = subst (λ b. AllAllowed (Due b)) (sym e) (each_kept plan.pieces.items planned.held)

      due_splits : SplitsVectors (map (λ (g : List Grid1 × List ℕ). g.0) (due_pieces p.var old plan)) (has_vector old.head.grid)
      due_splits = go (is_avoided p.var old.body)
        where
          go : (b : Bool) → SplitsVectors (map (λ (g : List Grid1 × List ℕ). g.0) (Due b)) (has_vector old.head.grid)
          go true = one_splits old.head.grid
          go false = subst (λ gs. SplitsVectors gs (has_vector old.head.grid)) (sym (grids_of_numbered (kept plan.pieces.items))) (kept_splits plan.pieces.items (has_vector old.head.grid) (planned.split cover))

      -- a part with loops does not use the producer, so it stays one
      stays_one : (ps : PartsTerm) → part_grids ps ≡ map (λ (g : List Grid1 × List ℕ). g.0) (due_pieces p.var old plan) → StaysOne called later p low high old.body ps
      stays_one ps e = go (is_avoided p.var old.body) refl folds.flat
        where
          go : (b : Bool) → is_avoided p.var old.body ≡ b → (folds.at ≡ []) ⊎ ((weight old.body ≡ 0) × (parted_in old.body ≡ 0)) → StaysOne called later p low high old.body ps
          go true q f = inl (grids_count ps ∙ ap length e ∙ (λ i. length (map (λ (g : List Grid1 × List ℕ). g.0) (Due (q i)))))
          go false q (inr f) = inr f
          go false q (inl none) =
              let axes = length old.head.grid in
              let nothing = sym folds.offsets ∙ ap (λ (at : List (List ℤ)). map (λ (c : List ℤ). Option.Some c) at) none in
              clash (is_avoided p.var old.body) ((block_decided p.var old.body).1 (none_avoids called p.var axes old.body (in_part later old.head) (own_index axes old.head.index) folds.only nothing)) q

  -- ---- all parts

  pub record PartsDone (olds : List PartTerm) (n : ℕ) (news : List PartTerm) (m : ℕ) : Type 0 where
    pub new : NewParts called later p (parts_of olds) (parts_of news)
    pub fresh : FreshParts called later p low high (parts_of olds) (parts_of news) new
    pub gone : AvoidsParts p.var (parts_of news)
    pub bound : Names [] (bound_in_parts (parts_of news)) n m

  pub parts_done :
      (olds : List PartTerm) (plans : List PartPlan) (s c n : ℕ) (news : List PartTerm) (m : ℕ) → PartsPlanned called later p olds plans s c → PartsMade p.var sources olds plans n news m → OldParts scope low olds → low ≤ n → m ≤ high →
      PartsDone olds n news m
  parts_done [] [] s c n news m q h is up top =
      let e : parts_of news ≡ NoParts = ap parts_of h.0 in
      record {
        new = e;
        fresh = tt;
        gone = subst (AvoidsParts p.var) (sym e) tt;
        bound = subst (λ (ps : PartsTerm). Names [] (bound_in_parts ps) n m) (sym e) (subst (λ k. Names [] [] n k) (sym h.1) (same [] n n));
      }
  parts_done (old ∷ olds) (plan ∷ plans) s c n news m q h is up top =
      let first = h.0 in
      let others = h.1.0 in
      let k = h.1.1.0 in
      let w = h.1.1.1 in
      let planned = q.1.1.1.1.0 in
      let made = made_grids p.var sources old plan n first k w.0 in
      let grids = due_pieces p.var old plan in
      let first_rise = grids_rise p.var sources old grids n first k made in
      let rest_rise = parts_rise p.var sources olds plans k others m w.1 in
      let one = pieces_done old is.0 grids n first k made up (up_to k m high rest_rise top) (due_allowed old is.0 plan q.0 q.1.0 planned) in
      let rest = parts_done olds plans q.1.1.0 q.1.1.1.0 k others m q.1.1.1.1.1 w.1 is.1 (up_to low n k up first_rise) top in
      let split = subst (λ gs. SplitsVectors gs (has_vector old.head.grid)) (sym one.grids_are) (due_splits old is.0 plan q.0 q.1.0 planned) in
      let whole : parts_of news ≡ append_parts (parts_of first) (parts_of others) = ap parts_of w.2 ∙ parts_append first others in
      let names : Names [] (bound_in_parts (parts_of first) ++ bound_in_parts (parts_of others)) n m = both [] [] (bound_in_parts (parts_of first)) (bound_in_parts (parts_of others)) n k m first_rise rest_rise one.bound rest.bound in
      record {
        new = (parts_of first, (parts_of others, (whole, one.fold, any_split (parts_of first) old.head.grid split, rest.new)));
        fresh = (one.fresh, split, stays_one old is.0 plan q.0 q.1.0 planned (parts_of first) one.grids_are, rest.fresh);
        gone = subst (λ (ns : List PartTerm). AvoidsParts p.var (parts_of ns)) (sym w.2) (avoids_append p.var first others one.gone rest.gone);
        bound = subst (λ (ys : List Var). Names [] ys n m) (sym (ap (λ (ns : List PartTerm). bound_in_parts (parts_of ns)) w.2 ∙ parts_bound first others)) names;
      }
  parts_done [] (plan ∷ plans) s c n news m q h is up top = absurd h
  parts_done (old ∷ olds) [] s c n news m q h is up top = absurd h
