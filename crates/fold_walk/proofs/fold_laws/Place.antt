-- A pair that is folded by its plan, at its place.
use Rattle.std.proofs.Common.{◌≡◌, ℕ, suc, ◌≤◌, true, false, List, [], ◌∷◌, ◌++◌, length, Option, Some, refl, ap, subst, ◌∙◌, ◌⊎◌, inl, inr, arith}
use Rattle.std.specs.Prelude.{All, zip, slice_get}
use Rattle.std.proofs.lemmas.List.Elements.{All-nil, All-cons}
use Rattle.sac_base.specs.declared.base.Base.{Base}
use Rattle.sac_base.specs.declared.grid.Grid1.{Grid1}
use Rattle.core_ir.specs.declared.tree.Var.{Var}
use Rattle.core_ir.specs.declared.tree.PartedOp.{PartedOp}
use Rattle.core_ir.specs.declared.tree.PartedOp.TheVariants as parted
use Rattle.core_ir.specs.Binders.{is_in, bound_in, bound_in_right, bound_in_parts}
use Rattle.core_ir.specs.Scopes.{Scoped, ScopedParts}
use Rattle.core_ir.specs.Terms.{BlockTerm, RightTerm, PartsTerm, LetTerm, PartTerm, CoreTerm, Bind, NoParts, Part, Parted, chain, parts_of}
use Rattle.core_ir.specs.WellFormed.{Bases, BlockBases, Covered, Distinct, PartedFits, PartsBases, part_grids}
use Rattle.core_facts.specs.Facts.{Facts, note_all, right_facts}
use Rattle.core_forms.proofs.inlined_bodies.Names.{Fresh, behind_first, clash, distinct_left, distinct_right, distinct_apart, fresh_below, fresh_both, fresh_left, fresh_right, itself}
use Rattle.core_loops.specs.Pairs.{Producer, IsFoldable, Makes, PartsFold, TotalParts, count_parts, grids_of}
use Rattle.core_loops.specs.Steps.{facts_after}
use Rattle.core_forms.specs.norm.Copied.{IsPlaced}
use Rattle.core_forms.specs.norm.Fresh.{IsBetween}
use Rattle.core_forms.proofs.norm.Laws.{all_by, fresh_from}
use Rattle.core_forms.specs.fold.Fresh.{FreshFold, FreshFoldOf}
use Rattle.core_forms.proofs.fold.Chains.{below, within_chain}
use Rattle.foldable_pairs.specs.declared.plan.PartPlan.{PartPlan}
use Rattle.foldable_pairs.specs.Pairs.{PartsPlanned}
use Rattle.fold_walk.specs.fold_laws.Made.{FoldMade, FoldMadeOf}
use Rattle.fold_walk.proofs.fold_laws.Chosen.{single}
use Rattle.fold_walk.proofs.fold_laws.Sources.{out_of_scope, parts_avoid, parts_out, source_at}
use Rattle.fold_walk.proofs.fold_laws.Folding.{Setting}
use Rattle.fold_walk.proofs.fold_laws.Pieces.{AtConsumer, OldPart, OldParts}
use Rattle.fold_walk.proofs.fold_laws.Parts.{PartsDone, parts_count, parts_done, parts_rise}

-- ---- behind bindings

chain_scope : (ls : List LetTerm) (x : BlockTerm) (scope : List Var) → Scoped scope (chain ls x) → Scoped (below ls scope) x
chain_scope [] x scope s = s
chain_scope (l ∷ ls) x scope s = chain_scope ls x (l.targets ++ scope) s.2

chain_distinct : (ls : List LetTerm) (x : BlockTerm) → Distinct (bound_in (chain ls x)) → Distinct (bound_in x)
chain_distinct [] x d = d
chain_distinct (l ∷ ls) x d = chain_distinct ls x (distinct_right (bound_in_right l.right) (bound_in (chain ls x)) (distinct_right l.targets (bound_in_right l.right ++ bound_in (chain ls x)) d))

chain_fresh : (ls : List LetTerm) (x : BlockTerm) (low : ℕ) → Fresh (bound_in (chain ls x)) low → Fresh (bound_in x) low
chain_fresh [] x low f = f
chain_fresh (l ∷ ls) x low f = chain_fresh ls x low (fresh_right (bound_in_right l.right) (bound_in (chain ls x)) low (fresh_right l.targets (bound_in_right l.right ++ bound_in (chain ls x)) low f))

below_fresh : (ls : List LetTerm) (x : BlockTerm) (scope : List Var) (low : ℕ) → Fresh scope low → Fresh (bound_in (chain ls x)) low → Fresh (below ls scope) low
below_fresh [] x scope low s f = s
below_fresh (l ∷ ls) x scope low s f =
    let more = bound_in_right l.right ++ bound_in (chain ls x) in
    below_fresh ls x (l.targets ++ scope) low (fresh_both l.targets scope low (fresh_left l.targets more low f) s) (fresh_right (bound_in_right l.right) (bound_in (chain ls x)) low (fresh_right l.targets more low f))

chain_based : (core : CoreTerm) (ls : List LetTerm) (x : BlockTerm) (g : Bases) (ts : List Base) → BlockBases core g (chain ls x) ts → (h : Bases) × BlockBases core h x ts
chain_based core [] x g ts d = (g, d)
chain_based core (l ∷ ls) x g ts d = chain_based core ls x (zip l.targets d.0 ++ g) ts d.1.2

-- ---- plans and grids

parts_fold : (called : ℕ → List (Option (List ℕ))) (k : Facts) (p : Producer) (parts : List PartTerm) (plans : List PartPlan) (selected count : ℕ) → PartsPlanned called k p parts plans selected count → PartsFold called k p (parts_of parts) selected count
parts_fold called k p [] [] selected count h = h
parts_fold called k p [] (plan ∷ plans) selected count h = absurd h
parts_fold called k p (part ∷ parts) [] selected count h = absurd h
parts_fold called k p (part ∷ parts) (plan ∷ plans) selected count h =
    let w = h.1.1.1.1 in (h.0, (h.1.0, (h.1.1.0, (h.1.1.1.0, (w.0.folds, parts_fold called k p parts plans h.1.1.0 h.1.1.1.0 w.1, w.2, w.3)))))

grids_same : (ps : PartsTerm) → part_grids ps ≡ grids_of ps
grids_same NoParts = refl
grids_same (Part h b rest) = ap (λ gs. h.grid ∷ gs) (grids_same rest)

covers : (op : PartedOp) (frame : List Grid1) (gs : List (List Grid1)) → Makes op → PartedFits op frame [] gs → Covered frame gs
covers parted.Genarray frame gs m f = f.2
covers (parted.Modarray x) frame gs m f = f.2
covers (parted.Fold o x) frame gs m f = absurd m

-- ---- the old parts

module _ (core : CoreTerm) (low : ℕ) (scope : List Var) (fresh : Fresh scope low) where
  old_part : (old : PartTerm) (g : Bases) (t : Base) → is_in old.head.index scope ≡ false → Scoped (old.head.index ∷ scope) old.body → Distinct (bound_in old.body) → Fresh ((old.head.index ∷ []) ++ bound_in old.body) low →
      BlockBases core g old.body (t ∷ []) → OldPart scope low old
  old_part old g t away scoped once bound based =
      let index = fresh_left (old.head.index ∷ []) (bound_in old.body) low bound in
      let own = fresh_right (old.head.index ∷ []) (bound_in old.body) low bound in
      let inner = fresh_both (old.head.index ∷ []) scope low index fresh in
      record {
        away = away;
        scoped = scoped;
        once = once;
        bound = own;
        single = single core old.body g (t ∷ []) based;
        index = fresh_below (old.head.index ∷ []) low old.head.index index (itself old.head.index []);
        new = λ y l. out_of_scope y old.body (old.head.index ∷ scope) scoped (inner y l) (own y l);
      }

pair_up : {A B : Type 0} → A → B → A × B
pair_up a b = (a, b)

same_most : (n : ℕ) → n ≤ n
same_most n = omega arith

all_between : (P : Var → Type 0) (ys : List Var) → ((y : Var) → is_in y ys ≡ true → P y) → All P ys
all_between P [] f = All-nil P
all_between P (y ∷ ys) f = All-cons P y ys (f y (itself y ys)) (all_between P ys (λ z h. f z (behind_first z y ys h)))

most_same : (a b n : ℕ) → a ≡ b → b ≤ n → a ≤ n
most_same a b n e h = omega (arith, e, h)

module _ (core : CoreTerm) (low : ℕ) (scope : List Var) (fresh : Fresh scope low) (g : Bases) (t : Base) where
  old_parts : (olds : List PartTerm) → ScopedParts scope (parts_of olds) → Distinct (bound_in_parts (parts_of olds)) → Fresh (bound_in_parts (parts_of olds)) low → PartsBases core g (parts_of olds) t → OldParts scope low olds
  old_parts [] s d f b = tt
  old_parts (old ∷ olds) s d f b =
      let index = old.head.index ∷ [] in
      let more = bound_in_parts (parts_of olds) in
      let body_more = fresh_right index (bound_in old.body ++ more) low f in
      let once = distinct_right index (bound_in old.body ++ more) d in (
        old_part core low scope fresh old ((old.head.index, Rattle.sac_base.specs.declared.base.Base.TheVariants.Int) ∷ g) t s.0 s.1 (distinct_left (bound_in old.body) more once)
            (fresh_both index (bound_in old.body) low (fresh_left index (bound_in old.body ++ more) low f) (fresh_left (bound_in old.body) more low body_more)) b.0,
        old_parts olds s.2 (distinct_right (bound_in old.body) more once) (fresh_right (bound_in old.body) more low body_more) b.1,
      )

-- ---- the pair

module _ (core : CoreTerm) (called : ℕ → List (Option (List ℕ))) (low high : ℕ) (k : Facts) (b c : BlockTerm) (h : FoldMade called low high k b c) (scope : List Var) (placed : IsPlaced low scope b) (g : Bases) (ts : List Base)
    (based : BlockBases core g b ts) where
  abbrev p : Producer
  p = h.producer

  abbrev made : RightTerm
  made = Parted p.frame p.base [] p.op p.parts

  abbrev tail : BlockTerm
  tail = chain h.between (Bind (h.consumer ∷ []) h.site (Parted h.frame h.base [] h.op (parts_of h.old)) h.rest)

  abbrev before : BlockTerm
  before = Bind (p.var ∷ []) p.site made tail

  scoped : Scoped scope before
  scoped = subst (Scoped scope) h.before placed.scoped

  once : Distinct ((p.var ∷ []) ++ (bound_in_parts p.parts ++ bound_in tail))
  once = subst (λ (x : BlockTerm). Distinct (bound_in x)) h.before placed.once

  bound : Fresh ((p.var ∷ []) ++ (bound_in_parts p.parts ++ bound_in tail)) low
  bound = subst (λ (x : BlockTerm). Fresh (bound_in x) low) h.before (fresh_from low (bound_in b) placed.bound_below)

  typed : BlockBases core g before ts
  typed = subst (λ (x : BlockTerm). BlockBases core g x ts) h.before based

  outer : Fresh scope low
  outer = fresh_from low scope placed.scope_below

  own : Fresh (p.var ∷ []) low
  own = fresh_left (p.var ∷ []) (bound_in_parts p.parts ++ bound_in tail) low bound

  inner_bound : Fresh (bound_in_parts p.parts ++ bound_in tail) low
  inner_bound = fresh_right (p.var ∷ []) (bound_in_parts p.parts ++ bound_in tail) low bound

  parts_bound : Fresh (bound_in_parts p.parts) low
  parts_bound = fresh_left (bound_in_parts p.parts) (bound_in tail) low inner_bound

  tail_bound : Fresh (bound_in tail) low
  tail_bound = fresh_right (bound_in_parts p.parts) (bound_in tail) low inner_bound

  parts_scoped : ScopedParts scope p.parts
  parts_scoped = scoped.0.1

  parts_once : Distinct (bound_in_parts p.parts)
  parts_once = distinct_left (bound_in_parts p.parts) (bound_in tail) once.1

  abbrev Of : PartsTerm → Type 0
  Of ps = ScopedParts scope ps × Distinct (bound_in_parts ps) × TotalParts called k ps

  of_sources : Of (parts_of h.sources)
  of_sources = subst Of h.given (parts_scoped, parts_once, h.can.total)

  -- the producer is neither in scope nor bound in its parts
  not_in_parts : is_in p.var (bound_in_parts p.parts) ≡ false
  not_in_parts = distinct_apart (p.var ∷ []) (bound_in_parts p.parts) (distinct_left ((p.var ∷ []) ++ bound_in_parts p.parts) (bound_in tail) once) p.var (itself p.var [])

  avoided : (x : Var) → is_in x scope ≡ false → is_in x (bound_in_parts p.parts) ≡ false → (j : ℕ) (part : PartTerm) → slice_get h.sources j ≡ Some part → Rattle.core_ir.specs.Uses.Avoids x part.body
  avoided x n m j part e = parts_avoid x h.sources j part e (subst (Rattle.core_ir.specs.Uses.AvoidsParts x) h.given (parts_out x p.parts scope parts_scoped n m))

  setting : Setting scope low p h.sources
  setting = record {
    given = h.given;
    below = placed.scope_below;
    known = λ j part e. source_at called k scope h.sources j part e of_sources.0 of_sources.1 of_sources.2;
    own = avoided p.var scoped.1.0 not_in_parts;
    old = λ x l. avoided x (outer x l) (parts_bound x l);
    var = fresh_below (p.var ∷ []) low p.var own (itself p.var []);
  }

  -- ---- the consumer

  abbrev consumer : BlockTerm
  consumer = Bind (h.consumer ∷ []) h.site (Parted h.frame h.base [] h.op (parts_of h.old)) h.rest

  abbrev here : List Var
  here = below h.between (p.var ∷ scope)

  here_fresh : Fresh here low
  here_fresh = below_fresh h.between consumer (p.var ∷ scope) low (fresh_both (p.var ∷ []) scope low own outer) tail_bound

  place : AtConsumer scope here low
  place = record {
    within = within_chain h.between scope (p.var ∷ scope) (λ y q. behind_first y p.var scope q);
    fresh = here_fresh;
    below = all_by low here (λ y q. fresh_below here low y here_fresh q);
  }

  consumer_scoped : Scoped here consumer
  consumer_scoped = chain_scope h.between consumer (p.var ∷ scope) scoped.2

  consumer_once : Distinct (bound_in consumer)
  consumer_once = chain_distinct h.between consumer (distinct_right (bound_in_parts p.parts) (bound_in tail) once.1)

  consumer_bound : Fresh (bound_in consumer) low
  consumer_bound = chain_fresh h.between consumer low tail_bound

  olds : OldParts here low h.old
  olds =
      let t = chain_based core h.between consumer (zip (p.var ∷ []) typed.0 ++ g) ts typed.1.2 in
      let more = bound_in_parts (parts_of h.old) ++ bound_in h.rest in
      old_parts core low here here_fresh t.0 h.base h.old consumer_scoped.0.1 (distinct_left (bound_in_parts (parts_of h.old)) (bound_in h.rest) consumer_once.1)
      (fresh_left (bound_in_parts (parts_of h.old)) (bound_in h.rest) low (fresh_right (h.consumer ∷ []) more low consumer_bound)) t.1.1.0.1

  cover : Covered p.frame (grids_of p.parts)
  cover = subst (Covered p.frame) (grids_same p.parts) (covers p.op p.frame (part_grids p.parts) h.can.makes typed.1.0.2)

  abbrev later : Facts
  later = facts_after called h.between (note_all k (p.var ∷ []) (right_facts called made k))

  parts : PartsDone called later p h.sources low high scope here setting parts_scoped place cover h.old low h.new high
  parts = parts_done called later p h.sources low high scope here setting parts_scoped place cover h.old h.plans h.planned.selected h.planned.count low h.new high h.planned.folds h.made olds (same_most low) (same_most high)

  foldable : IsFoldable called low k later p h.between h.op (parts_of h.old) h.rest
  foldable = record {
    makes = h.can.makes;
    total = h.can.total;
    selected = h.planned.selected;
    count = h.planned.count;
    folds = parts_fold called later p h.old h.plans h.planned.selected h.planned.count h.planned.folds;
    used = h.planned.used;
    few = h.planned.few;
    before = h.alone;
    operation = h.planned.operation;
    after = h.behind;
    numbers = h.room;
  }

  between_of : (y : Var) → (is_in y [] ≡ true) ⊎ ((low ≤ y.0) × (suc y.0 ≤ high)) → IsBetween low high y
  between_of y (inl o) = clash false o refl
  between_of y (inr q) = q

  pub fresh_fold : FreshFold called low high k b c
  fresh_fold = record {
    step = record {
      producer = p;
      between = h.between;
      consumer = h.consumer;
      site = h.site;
      frame = h.frame;
      base = h.base;
      op = h.op;
      old = parts_of h.old;
      new = parts_of h.new;
      rest = h.rest;
      later = later;
      known = refl;
      foldable = foldable;
      parts = parts.new;
      gone = parts.gone;
      before = h.before;
      after = h.after;
    };
    rises = parts_rise p.var h.sources h.old h.plans low h.new high h.made;
    once = parts.bound.once tt (λ y l. refl);
    between = all_between (IsBetween low high) (bound_in_parts (parts_of h.new)) (λ y q. between_of y (parts.bound.within y q));
    copies = parts.fresh;
    few = most_same (count_parts (parts_of h.new)) (length h.new) 64 (parts_count h.new) h.few;
  }

  pub same_pair : (fresh_fold.step.producer.var ≡ p.var) × (fresh_fold.step.consumer ≡ h.consumer)
  unfolding fresh_fold
  same_pair = (refl, refl)

pub fresh_of :
    (core : CoreTerm) (called : ℕ → List (Option (List ℕ))) (x y : Var) (low high : ℕ) (k : Facts) (b c : BlockTerm) → FoldMadeOf called x y low high k b c →
    (scope : List Var) → IsPlaced low scope b → (g : Bases) (ts : List Base) → BlockBases core g b ts → FreshFoldOf called x y low high k b c
fresh_of core called x y low high k b c h scope placed g ts based =
    let same = same_pair core called low high k b c h.0 scope placed g ts based in
    (fresh_fold core called low high k b c h.0 scope placed g ts based, (same.0 ∙ h.1.0, same.1 ∙ h.1.1))
