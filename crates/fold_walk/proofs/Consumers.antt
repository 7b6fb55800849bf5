-- A consumer that gets other parts, by the fields of its binding.
use Rattle.std.proofs.Common.{◌≡◌, ℕ, suc, ◌+◌, ◌<◌, ◌≤◌, ◌^◌, List, [], ◌∷◌, ◌++◌, map, length, Option, refl, sym, ap, subst, ◌∙◌, arith}
use Rattle.std.specs.Prelude.{Vec}
use Rattle.std.specs.declared.alloc.Global.{Global}
use Rattle.sac_base.specs.declared.base.Base.{Base}
use Rattle.sac_base.specs.declared.grid.Grid1.{Grid1}
use Rattle.sac_base.specs.declared.site.Site.{Site}
use Rattle.core_ir.specs.declared.tree.Var.{Var}
use Rattle.core_ir.specs.declared.tree.CorePart.{CorePart}
use Rattle.core_ir.specs.declared.tree.PartedOp.{PartedOp}
use Rattle.core_ir.specs.declared.tree.PartedLoop.{PartedLoop, PartedLoop-F, out-PartedLoop, roll-PartedLoop}
use Rattle.core_ir.specs.declared.tree.Right.TheBlock.{the_data, the_data-1, the_data-2, the_data-3, the_data-4, the_data-5, the_data-6}
use Rattle.core_ir.specs.Terms.{LetTerm, PartTerm, PartsTerm, RightTerm, NoParts, Part, Parted, parts_of}
use Rattle.core_ir.specs.View.{part_term, parted_term}
use Rattle.core_ir.proofs.Trees.{parted_out, parted_roll}
use Rattle.core_facts.specs.Facts.{Facts}
use Rattle.foldable_pairs.specs.declared.plan.PartPlan.{PartPlan}
use Rattle.foldable_pairs.specs.declared.producer.Producer.{Producer as Source}
use Rattle.foldable_pairs.specs.Pairs.{producer_of, IsNear, IsPlanned, PartsPlanned, Takes}
use Rattle.folded_parts.specs.Making.{PiecesMade}
use Rattle.fold_walk.specs.Walking.{ConsumerMade, NoConsumer, State}
use Rattle.fold_walk.specs.Making.{AllDue, AllMade, CannotTake, PieceVec, PiecesPlanned, piece_count}
use Rattle.fold_walk.specs.Pairing.{BindsLoop, BindsNoLoop, loop_let, loop_with}
use Rattle.fold_walk.proofs.Gathering.{due_counted, due_lengths, parts_made}

-- ---- bindings of loops

-- a binding with other parts
pub made_let :
    (targets : Vec Var Global) (x : Var) (s : Site) (p : PartedLoop) (new : PartedLoop-F the_data the_data-1 the_data-2 the_data-3 the_data-4 the_data-5 the_data-6) → targets.items ≡ x ∷ [] →
    new.frame ≡ (out-PartedLoop p).frame → new.base ≡ (out-PartedLoop p).base → new.cell ≡ (out-PartedLoop p).cell → new.op ≡ (out-PartedLoop p).op →
    ◌≡◌ {A = LetTerm} (record { targets = targets.items; site = s; right = parted_term (roll-PartedLoop new) }) (record { targets = x ∷ []; site = s; right = loop_with p (parts_of (map part_term new.parts.items)) })
made_let targets x s p new e frame base cell op =
    (λ i. record { targets = e i; site = s; right = parted_roll new i }) ∙ (λ i. record { targets = x ∷ []; site = s; right = Parted (frame i) (base i) (cell i) (op i) (parts_of (map part_term new.parts.items)) })

-- the binding of a loop with scalar cells
pub bound_let : (l : LetTerm) (x : Var) (p : PartedLoop) → BindsLoop l x p → l ≡ loop_let x l.site (out-PartedLoop p).frame (out-PartedLoop p).base (out-PartedLoop p).op (parts_of (map part_term (out-PartedLoop p).parts.items))
bound_let l x p h =
    let right = h.right ∙ parted_out p ∙ (λ i. Parted (out-PartedLoop p).frame (out-PartedLoop p).base (h.scalars i) (out-PartedLoop p).op (parts_of (map part_term (out-PartedLoop p).parts.items))) in
    λ i. record { targets = h.targets i; site = l.site; right = right i }

pub scalar_with : (x : Var) (s : Site) (p : PartedLoop) (ps : List PartTerm) → (out-PartedLoop p).cell ≡ [] →
    ◌≡◌ {A = LetTerm} (record { targets = x ∷ []; site = s; right = loop_with p (parts_of ps) }) (loop_let x s (out-PartedLoop p).frame (out-PartedLoop p).base (out-PartedLoop p).op (parts_of ps))
scalar_with x s p ps e = λ i. record { targets = x ∷ []; site = s; right = Parted (out-PartedLoop p).frame (out-PartedLoop p).base (e i) (out-PartedLoop p).op (parts_of ps) }

-- ---- plans and pieces

planned_lengths : (called : ℕ → List (Option (List ℕ))) (k : Facts) (p : _) (olds : List PartTerm) (plans : List PartPlan) (s c : ℕ) → PartsPlanned called k p olds plans s c → length olds ≡ length plans
planned_lengths called k p [] [] s c h = refl
planned_lengths called k p (old ∷ olds) (plan ∷ plans) s c h = ap suc (planned_lengths called k p olds plans h.1.1.0 h.1.1.1.0 h.1.1.1.1.1)
planned_lengths called k p [] (plan ∷ plans) s c h = absurd h
planned_lengths called k p (old ∷ olds) [] s c h = absurd h

module _ (called : ℕ → List (Option (List ℕ))) (later : Facts) (p : Source) (op : PartedOp) where
  abbrev pub AllPlanned : List PartTerm → List PartPlan → Type 0
  AllPlanned olds plans = (s : Site) (base : Base) (made : PartedOp) → IsPlanned called later (producer_of p s base made) op olds plans

  no_site : Site
  no_site = record { line = 0; col = 0 }

  pub plan_lengths : (parts : List CorePart) (plans : List PartPlan) → AllPlanned (map part_term parts) plans → length parts ≡ length plans
  plan_lengths parts plans h =
      let one = h no_site Rattle.sac_base.specs.declared.base.Base.TheVariants.Int Rattle.core_ir.specs.declared.tree.PartedOp.TheVariants.Genarray in
      sym (map_length parts) ∙ planned_lengths called later (producer_of p no_site Rattle.sac_base.specs.declared.base.Base.TheVariants.Int Rattle.core_ir.specs.declared.tree.PartedOp.TheVariants.Genarray) (map part_term parts) plans one.selected one.count one.folds
    where
      map_length : (xs : List CorePart) → length (map part_term xs) ≡ length xs
      map_length [] = refl
      map_length (x ∷ xs) = ap suc (map_length xs)

  pub few_pieces : (olds : List PartTerm) (plans : List PartPlan) (pieces : List PieceVec) → AllPlanned olds plans → AllDue p.var olds plans pieces → piece_count pieces ≤ 64 → PiecesPlanned called later p op olds pieces
  few_pieces olds plans pieces h d f = record { plans = plans; planned = h; due = d; few = f }

  pub many_pieces : (olds : List PartTerm) (plans : List PartPlan) (pieces : List PieceVec) → AllPlanned olds plans → AllDue p.var olds plans pieces → 64 < piece_count pieces → CannotTake called later p op olds
  many_pieces olds plans pieces h d f s base made near takes = record { plans = plans; planned = h s base made; many = subst (λ n. 64 < n) (due_counted p.var olds plans pieces d) f }

  pub no_plan : (olds : List PartTerm) → (IsNear p → (s : Site) (base : Base) (made : PartedOp) → Takes called later (producer_of p s base made) op (parts_of olds) → ⊥) → CannotTake called later p op olds
  no_plan olds h s base made near takes = absurd (h near s base made takes)

-- ---- the same loop

op_in : PartedOp → RightTerm → PartedOp
op_in d (Parted f b c o ps) = o
op_in d _ = d

parts_in : PartsTerm → RightTerm → PartsTerm
parts_in d (Parted f b c o ps) = ps
parts_in d _ = d

pub same_op : (x y : Var) (s t : Site) (f g : List Grid1) (b c : Base) (o u : PartedOp) (ps qs : PartsTerm) → loop_let x s f b o ps ≡ loop_let y t g c u qs → o ≡ u
unfolding op_in
same_op x y s t f g b c o u ps qs e = ap (λ (l : LetTerm). op_in o l.right) e

pub same_parts : (x y : Var) (s t : Site) (f g : List Grid1) (b c : Base) (o u : PartedOp) (ps qs : PartsTerm) → loop_let x s f b o ps ≡ loop_let y t g c u qs → ps ≡ qs
unfolding parts_in
same_parts x y s t f g b c o u ps qs e = ap (λ (l : LetTerm). parts_in ps l.right) e

-- a part list by its parts
back_to : PartsTerm → List PartTerm
back_to NoParts = []
back_to (Part h b rest) = record { head = h; body = b } ∷ back_to rest

back_of : (ps : List PartTerm) → back_to (parts_of ps) ≡ ps
unfolding back_to
back_of [] = refl
back_of (p ∷ ps) = ap (λ qs. p ∷ qs) (back_of ps)

pub same_list : (ps qs : List PartTerm) → parts_of ps ≡ parts_of qs → ps ≡ qs
same_list ps qs e = sym (back_of ps) ∙ ap back_to e ∙ back_of qs

-- ---- how many

pieces_count : (p : Var) (sources : List PartTerm) (old : PartTerm) (pieces : _) (n : ℕ) (news : List PartTerm) (m : ℕ) → PiecesMade p sources old pieces n news m → length news ≡ length pieces
pieces_count p sources old [] n [] m h = refl
pieces_count p sources old (g ∷ gs) n (new ∷ news) m h = ap suc (pieces_count p sources old gs h.0 news m h.1.1)
pieces_count p sources old [] n (new ∷ news) m h = absurd h
pieces_count p sources old (g ∷ gs) n [] m h = absurd h

both_length : (xs ys : List PartTerm) → length (xs ++ ys) ≡ length xs + length ys
both_length xs ys = Rattle.std.proofs.lemmas.List.length-append xs ys

pub made_counted : (p : Var) (sources olds : List PartTerm) (pieces : List PieceVec) (n : ℕ) (news : List PartTerm) (m : ℕ) → AllMade p sources olds pieces n news m → length news ≡ piece_count pieces
made_counted p sources [] [] n news m h = ap length h.0
made_counted p sources (old ∷ olds) (v ∷ rest) n news m h =
    let w = h.1.1.1 in
    ap length w.2 ∙ both_length h.0 h.1.0 ∙ (λ j. pieces_count p sources old v.items n h.0 h.1.1.0 w.0 j + made_counted p sources olds rest h.1.1.0 h.1.0 m w.1 j)
made_counted p sources [] (v ∷ rest) n news m h = absurd h
made_counted p sources (old ∷ olds) [] n news m h = absurd h

-- ---- the consumer

most_of : (a b n : ℕ) → a ≡ b → b ≤ n → a ≤ n
most_of a b n e h = omega (arith, e, h)

module _ (called : ℕ → List (Option (List ℕ))) (function : ℕ) (later : Facts) (p : State) (producer : Source) (l : LetTerm) where
  abbrev olds : PartedLoop → List PartTerm
  olds loop = map part_term (out-PartedLoop loop).parts.items

  pub consumer_made :
      (x : Var) (loop : PartedLoop) (pieces : List PieceVec) (parts : List CorePart) (q : State) (m : ℕ) (new : LetTerm) → BindsLoop l x loop → p.next ≤ 2 ^ 31 + 1 → PiecesPlanned called later producer (out-PartedLoop loop).op (olds loop) pieces →
      AllMade producer.var (map part_term producer.parts.now) (olds loop) pieces p.next (map part_term parts) m → q ≡ record { next = m; folds = p.folds ++ (record { function = function; producer = producer.var; consumer = x } ∷ []) } →
      new ≡ record { targets = x ∷ []; site = l.site; right = loop_with loop (parts_of (map part_term parts)) } → ConsumerMade called function later p q producer l new
  consumer_made x loop pieces parts q m new b r planned made e n =
      let o = out-PartedLoop loop in
      let sources = map part_term producer.parts.now in
      let news = map part_term parts in
      subst (λ (t : State). ConsumerMade called function later p t producer l new) (sym e)
      (record {
        consumer = x;
        site = l.site;
        frame = o.frame;
        base = o.base;
        op = o.op;
        old = olds loop;
        parts = news;
        plans = planned.plans;
        planned = planned.planned;
        room = r;
        made = parts_made producer.var sources (olds loop) planned.plans pieces p.next news m planned.due made;
        few = most_of (length news) (piece_count pieces) 64 (made_counted producer.var sources (olds loop) pieces p.next news m made) planned.few;
        before = bound_let l x loop b;
        after = n ∙ scalar_with x l.site loop news b.scalars;
        logged = refl;
      })

  pub no_loop : BindsNoLoop l → NoConsumer called function later p.next producer l
  no_loop none y s frame base op old e = absurd (none y s frame base op (parts_of old) e)

  pub no_room : (2 ^ 31 + 1 < p.next) → NoConsumer called function later p.next producer l
  no_room h y s frame base op old e r = absurd (over p.next h r)
    where
      over : (n : ℕ) → 2 ^ 31 + 1 < n → n ≤ 2 ^ 31 + 1 → ⊥
      over n h r = omega (arith, h, r)

  pub no_take : (x : Var) (loop : PartedLoop) → BindsLoop l x loop → CannotTake called later producer (out-PartedLoop loop).op (olds loop) → NoConsumer called function later p.next producer l
  no_take x loop b h y s frame base op old e r =
      let o = out-PartedLoop loop in
      let both = sym (bound_let l x loop b) ∙ e in
      let ops = same_op x y l.site s o.frame frame o.base base o.op op (parts_of (olds loop)) (parts_of old) both in
      let lists = same_list (olds loop) old (same_parts x y l.site s o.frame frame o.base base o.op op (parts_of (olds loop)) (parts_of old) both) in
      subst (λ (ps : List PartTerm). CannotTake called later producer op ps) lists (subst (λ (u : PartedOp). CannotTake called later producer u (olds loop)) ops h)

pub piece_lengths : (called : ℕ → List (Option (List ℕ))) (later : Facts) (p : Source) (op : PartedOp) (parts : List CorePart) (pieces : List PieceVec) → PiecesPlanned called later p op (map part_term parts) pieces → length parts ≡ length pieces
piece_lengths called later p op parts pieces h = sym (count parts) ∙ due_lengths p.var (map part_term parts) h.plans pieces h.due
  where
    count : (xs : List CorePart) → length (map part_term xs) ≡ length xs
    count [] = refl
    count (x ∷ xs) = ap suc (count xs)
