-- A body in which copies stand for all selections is a folded body.
use Rattle.std.proofs.Common.{◌≡◌, ℕ, suc, ◌+◌, ◌<◌, ◌≤◌, Bool, true, false, cond, eqb, List, [], ◌∷◌, ◌++◌, drop, All, Option, Some, None, refl, sym, ap, subst, ◌∙◌, ◌⊎◌, inl, inr, append_assoc, arith, ℤ}
use Rattle.std.specs.Prelude.{slice_get, unwrap_or}
use Rattle.std.proofs.lemmas.Bool.{eq-eqb}
use Rattle.std.proofs.lemmas.List.Elements.{All-nil, All-cons}
use Rattle.sac_base.specs.declared.grid.Grid1.{Grid1}
use Rattle.sac_base.specs.declared.site.Site.{Site}
use Rattle.sac_base.specs.Grids.{has_vector}
use Rattle.core_ir.specs.declared.tree.Var.{Var}
use Rattle.core_ir.specs.Binders.{is_in, bound_in, bound_in_right}
use Rattle.core_ir.specs.Renaming.{under, Renamed}
use Rattle.core_ir.specs.Terms.{PlainTerm, BlockTerm, RightTerm, PartTerm, Gives, Bind, Plain, chain, parts_of}
use Rattle.core_ir.specs.Uses.{Avoids, AvoidsRight, AvoidsEach, targets_of}
use Rattle.core_ir.proofs.Variables.{same_number}
use Rattle.core_facts.specs.Facts.{Facts, note_all, right_facts}
use Rattle.core_forms.specs.inlining.Inlined.{bindings, results}
use Rattle.core_forms.proofs.inlined_bodies.Names.{clash, in_either, in_left, itself, behind_first}
use Rattle.core_subst.specs.Names.{variable}
use Rattle.core_loops.specs.Indices.{IndexFacts, learn_index, note_others, offset_of}
use Rattle.core_loops.specs.Pairs.{Producer, Selects, SelectsRight, offsets, offsets_right, grids_of}
use Rattle.core_loops.specs.Steps.{Folded, FoldedRight, TakenAt, HeldIn}
use Rattle.core_loops.specs.Steps as loops
use Rattle.core_forms.specs.norm.Fresh.{IsBetween}
use Rattle.core_forms.proofs.norm.Copies.{alike}
use Rattle.core_forms.proofs.norm.Scopes.{in_right}
use Rattle.core_forms.specs.norm.Alike.{Alike}
use Rattle.core_forms.specs.fold.Copied.{HasPart, IsCopied, AllCopied, AllCopiedRight}
use Rattle.generator_sets.specs.Pieces.{moved}
use Rattle.folded_parts.specs.Folding.{BlockFolded, RightFolded, ends, takes, keeps, stays, branches, turns, IsWhole, chosen, copied, copy_binds, taken}
use Rattle.fold_walk.proofs.fold_laws.Copied.{copy_renamed, renumbered}
use Rattle.fold_walk.proofs.fold_laws.Chosen.{chosen_is, is_chosen, Single, SingleRight}
use Rattle.fold_walk.proofs.fold_laws.Sources.{Source, has_part, last, last_is, own_new, taken_is}
use Rattle.fold_walk.proofs.fold_laws.Folded.{avoids_folded, rises, right_rises, taken_avoids}
use Rattle.fold_walk.proofs.fold_laws.Holding.{HeldBy, held_first, first_same, at_drop, offset_is, number_holds, number_names}

-- ---- lists of bindings

whole : (b : BlockTerm) → chain (bindings b) (Gives (results b)) ≡ b
whole (Gives xs) = refl
whole (Bind xs s r b) = ap (Bind xs s r) (whole b)

targets_in : (b : BlockTerm) (y : Var) → is_in y (targets_of (bindings b)) ≡ true → is_in y (bound_in b) ≡ true
targets_in (Gives xs) y h = clash false h refl
targets_in (Bind xs s r b) y h = go (in_either y xs (targets_of (bindings b)) h) (λ k. targets_in b y k)
  where
    go : (is_in y xs ≡ true) ⊎ (is_in y (targets_of (bindings b)) ≡ true) → (is_in y (targets_of (bindings b)) ≡ true → is_in y (bound_in b) ≡ true) → is_in y (xs ++ (bound_in_right r ++ bound_in b)) ≡ true
    go (inl k) rec = in_left y xs (bound_in_right r ++ bound_in b) k
    go (inr k) rec = in_right y xs (bound_in_right r ++ bound_in b) (in_right y (bound_in_right r) (bound_in b) (rec k))

each_by : (ys : List Var) (d : BlockTerm) → ((y : Var) → is_in y ys ≡ true → Avoids y d) → AvoidsEach ys d
each_by [] d f = tt
each_by (y ∷ ys) d f = (f y (itself y ys), each_by ys d (λ z h. f z (behind_first z y ys h)))

all_by : (P : Var → Type 0) (ys : List Var) → ((y : Var) → is_in y ys ≡ true → P y) → All P ys
all_by P [] f = All-nil P
all_by P (y ∷ ys) f = All-cons P y ys (f y (itself y ys)) (all_by P ys (λ z h. f z (behind_first z y ys h)))

between : (low n k high y : ℕ) → low ≤ n → n + k ≤ high → (n ≤ y) × (suc y ≤ n + k) → (low ≤ y) × (y < high)
between low n k high y p q h = let a = h.0 in let b = h.1 in (omega (arith, p, a), omega (arith, q, b))

from_low : (low n y : ℕ) → low ≤ n → n ≤ y → low ≤ y
from_low low n y p q = omega (arith, p, q)

no_less : (low n : ℕ) → low ≤ n → n < low → ⊥
no_less low n p q = omega (arith, p, q)

less_next : (low n k : ℕ) → low ≤ n → low ≤ n + k
less_next low n k p = omega (arith, p)

below_low : (x low n : ℕ) → x < low → low ≤ n → x < n
below_low x low n p q = omega (arith, p, q)

-- ---- the place

-- a producer, and what holds of its parts
pub record Setting (around : List Var) (low : ℕ) (p : Producer) (sources : List PartTerm) : Type 0 where
  pub given : p.parts ≡ parts_of sources
  pub below : All (λ (x : Var). x.0 < low) around
  pub known : (j : ℕ) (part : PartTerm) → slice_get sources j ≡ Some part → Source around part
  -- the parts use neither the producer nor a new variable
  pub own : (j : ℕ) (part : PartTerm) → slice_get sources j ≡ Some part → Avoids p.var part.body
  pub old : (x : Var) → low ≤ x.0 → (j : ℕ) (part : PartTerm) → slice_get sources j ≡ Some part → Avoids x part.body
  pub var : p.var.0 < low

-- a piece that has a member
pub record HasMember (grid : List Grid1) : Type 0 where
  pub member : List ℤ
  pub has : has_vector grid member ≡ true

module _ (called : ℕ → List (Option (List ℕ))) (p : Producer) (sources : List PartTerm) (holders : List ℕ) (axes : ℕ) (grid : List Grid1) (low high : ℕ) (around : List Var) (at : Setting around low p sources) (some : HasMember grid) where
  abbrev grids : List (List Grid1)
  grids = grids_of (parts_of sources)

  -- the numbers from the i-th on are those of the offsets
  abbrev pub Held : List (Option (List ℤ)) → ℕ → Type 0
  Held os i = (v : List ℤ) → has_vector grid v ≡ true → HeldBy grids v os (drop i holders)

  pub record Done (b : BlockTerm) (k : Facts) (m : IndexFacts) (os : List (Option (List ℤ))) (c : BlockTerm) (j : ℕ) : Type 0 where
    pub folded : Folded called p axes grid b k m c
    pub copied : AllCopied called p axes grid low high b k m c folded
    -- the producer is not used any more
    pub gone : Avoids p.var c
    pub rest : Held os j

  pub record RightDone (r : RightTerm) (k : Facts) (m : IndexFacts) (os : List (Option (List ℤ))) (q : RightTerm) (j : ℕ) : Type 0 where
    pub folded : FoldedRight called p axes grid r k m q
    pub copied : AllCopiedRight called p axes grid low high r k m q folded
    pub gone : AvoidsRight p.var q
    pub rest : Held os j

  -- ---- one selection

  module _ (n : ℕ) (up : low ≤ n) (part : PartTerm) (number : ℕ) (there : slice_get sources number ≡ Some part) (top : n + copy_binds part ≤ high) where
    abbrev source : Source around part
    source = at.known number part there

    abbrev result : Var
    result = last around part source n

    front : chain (bindings (copied part n)) (Gives (result ∷ [])) ≡ copied part n
    front = (λ i. chain (bindings (copied part n)) (Gives (sym (last_is around part source n) i))) ∙ whole (copied part n)

    new : (y : Var) → is_in y (variable n ∷ bound_in (copied part n)) ≡ true → IsBetween low high y
    new y h = between low n (copy_binds part) high y.0 up top (own_new around part source n y h)

    module _ (m : IndexFacts) (index t : Var) (s : Site) (d : BlockTerm) (c : List ℤ) (plus : m index ≡ Rattle.core_loops.specs.Indices.Plus c) (holds : (v : List ℤ) → has_vector grid v ≡ true → HeldIn p.parts (moved v c) part.head part.body)
        (unused : (y : Var) → low ≤ y.0 → y.0 < n + copy_binds part → Avoids y d) where
      away : (y : Var) → is_in y (variable n ∷ bound_in (copied part n)) ≡ true → Avoids y d
      away y h = let w = own_new around part source n y h in unused y (from_low low n y.0 up w.0) w.1

      pub taken_at : TakenAt p grid m (t ∷ []) (Plain (PlainTerm.Select p.var index)) d (chain (taken part index (t ∷ []) s n) d)
      taken_at = record {
        target = t;
        index = index;
        offset = c;
        targets = refl;
        selects = refl;
        at = plus;
        head = part.head;
        body = part.body;
        held = holds;
        own = variable n;
        result = result;
        lets = bindings (copied part n);
        renamed = subst (λ (b : BlockTerm). Renamed (under loops.itself part.head.index (variable n)) part.body b) (sym front) (copy_renamed around low at.below part.head.index part.body source.away source.scoped source.once n up);
        avoids = each_by (targets_of (bindings (copied part n))) d (λ y h. away y (behind_first y (variable n) (bound_in (copied part n)) (targets_in (copied part n) y h)));
        alone = away (variable n) (itself (variable n) (bound_in (copied part n)));
        first = s;
        last = s;
        made = taken_is around part source n index t s d;
      }

      pub copied_at : IsCopied p grid low high m (t ∷ []) (Plain (PlainTerm.Select p.var index)) d (chain (taken part index (t ∷ []) s n) d) taken_at
      unfolding taken_at
      copied_at = record {
        part = subst (λ ps. HasPart ps part.head part.body) (sym at.given) (has_part sources number part there);
        alike = subst (λ (b : BlockTerm). Alike part.body b) (sym front) (alike (renumbered part.head.index part.body n) part.body);
        new = subst (λ (b : BlockTerm). All (IsBetween low high) (variable n ∷ bound_in b)) (sym front) (all_by (IsBetween low high) (variable n ∷ bound_in (copied part n)) new);
      }

  module _ (n i number : ℕ) (up : low ≤ n) (part : PartTerm) (held : slice_get holders i ≡ Some number) (there : slice_get sources number ≡ Some part) (top : n + copy_binds part ≤ high) where
    pub take_one :
        {j t : ℕ} (index x : Var) (s : Site) (b d : BlockTerm) → BlockFolded p.var sources holders (suc i) (n + copy_binds part) b d j t → (k : Facts) (m : IndexFacts) (os : List (Option (List ℤ))) →
        eqb p.var.0 index.0 ≡ false → ((y : Var) → low ≤ y.0 → Avoids y b) → Held (offsets called p.var axes (Bind (x ∷ []) s (Plain (PlainTerm.Select p.var index)) b) k m ++ os) i →
        ((k : Facts) (m : IndexFacts) (os : List (Option (List ℤ))) → Held (offsets called p.var axes b k m ++ os) (suc i) → Done b k m os d j) →
        Done (Bind (x ∷ []) s (Plain (PlainTerm.Select p.var index)) b) k m os (chain (taken part index (x ∷ []) s n) d) j
    take_one index x s b d g k m os other new h rec =
        let r = Plain (PlainTerm.Select p.var index) in
        let k' = note_all k (x ∷ []) (right_facts called r k) in
        let m' = learn_index axes m (x ∷ []) r k in
        let o = offset_of (m index) in
        let later = offsets called p.var axes b k' m' in
        let first : (cond (eqb p.var.0 p.var.0) (o ∷ []) [] ++ later) ++ os ≡ o ∷ (later ++ os) = λ i. (cond (eq-eqb p.var.0 p.var.0 refl i) (o ∷ []) [] ++ later) ++ os in
        let all : Held (o ∷ (later ++ os)) i = subst (λ l. Held l i) first h in
        let f = held_first grids some.member o (later ++ os) (drop i holders) (all some.member some.has) in
        let drops = at_drop holders i f.number f.others f.whole in
        let same : f.number ≡ number = ap (λ (o : Option ℕ). unwrap_or o f.number) (sym drops.0 ∙ held) in
        let both : (v : List ℤ) → has_vector grid v ≡ true → Rattle.fold_pieces.specs.Pieces.HasFirst grids (moved v f.offset) f.number × HeldBy grids v (later ++ os) f.others =
        λ v q. first_same grids some.member v o (later ++ os) (drop i holders) f (all v q) in
        let holds : (v : List ℤ) → has_vector grid v ≡ true → HeldIn p.parts (moved v f.offset) part.head part.body =
        λ v q. subst (λ ps. HeldIn ps (moved v f.offset) part.head part.body) (sym at.given)
        (number_holds sources (moved v f.offset) number part there (subst (λ j. Rattle.fold_pieces.specs.Pieces.HasFirst grids (moved v f.offset) j) same (both v q).0)) in
        let rest = rec k' m' os (λ v q. subst (λ js. HeldBy grids v (later ++ os) js) (sym drops.1) (both v q).1) in
        let unused : (y : Var) → low ≤ y.0 → y.0 < n + copy_binds part → Avoids y d = λ y l u. avoids_folded p.var sources holders y (at.old y l) g u (new y l) in
        let plus = offset_is (m index) f.offset f.some in
        record {
          folded = inr (d, (taken_at n up part number there top m index x s d f.offset plus holds unused, rest.folded));
          copied = (copied_at n up part number there top m index x s d f.offset plus holds unused, rest.copied);
          gone = taken_avoids p.var part index (x ∷ []) s n d (below_low p.var.0 low n at.var up) other (at.own number part there) rest.gone;
          rest = rest.rest;
        }

    -- whatever names the right side and the targets have
    pub take_at :
        {j t : ℕ} (index x : Var) (s : Site) (b d : BlockTerm) → BlockFolded p.var sources holders (suc i) (n + copy_binds part) b d j t → (k : Facts) (m : IndexFacts) (os : List (Option (List ℤ))) →
        (zs : List Var) (q : RightTerm) → zs ≡ x ∷ [] → q ≡ Plain (PlainTerm.Select p.var index) → SelectsRight p.var q → ((y : Var) → low ≤ y.0 → Avoids y b) →
        Held (offsets called p.var axes (Bind zs s q b) k m ++ os) i →
        ((k : Facts) (m : IndexFacts) (os : List (Option (List ℤ))) → Held (offsets called p.var axes b k m ++ os) (suc i) → Done b k m os d j) →
        Done (Bind zs s q b) k m os (chain (taken part index zs s n) d) j
    take_at {j = j} index x s b d g k m os zs q e f a new h rec =
        subst (λ (ys : List Var). SelectsRight p.var q → Held (offsets called p.var axes (Bind ys s q b) k m ++ os) i → Done (Bind ys s q b) k m os (chain (taken part index ys s n) d) j) (sym e)
        (subst
        (λ (u : RightTerm). SelectsRight p.var u → Held (offsets called p.var axes (Bind (x ∷ []) s u b) k m ++ os) i → Done (Bind (x ∷ []) s u b) k m os (chain (taken part index (x ∷ []) s n) d) j)
        (sym f) (λ o h. take_one index x s b d g k m os o.0 new h rec)) a h

  -- ---- what stays

  none_chosen : {A P : Type 0} (o : Option A) (a : A) → o ≡ None → o ≡ Some a → P
  none_chosen {A = A} o a p q = absurd (let r : ◌≡◌ {A = Option A} None (Some a) = sym p ∙ q in cc)

  plain_done :
      (q : PlainTerm) (i : ℕ) (k : Facts) (m : IndexFacts) (os : List (Option (List ℤ))) → chosen p.var sources holders i (Plain q) ≡ None → SelectsRight p.var (Plain q) →
      Held (offsets_right called p.var axes (Plain q) k m ++ os) i → RightDone (Plain q) k m os (Plain q) i
  plain_done (PlainTerm.Select x y) i k m os none only h = go (eqb p.var.0 x.0) refl
    where
      go : (b : Bool) → eqb p.var.0 x.0 ≡ b → RightDone (Plain (PlainTerm.Select x y)) k m os (Plain (PlainTerm.Select x y)) i
      go true e =
          let o = offset_of (m y) in
          let all : Held (o ∷ os) i = subst (λ l. Held l i) (λ l. cond (e l) (o ∷ []) [] ++ os) h in
          let f = held_first grids some.member o os (drop i holders) (all some.member some.has) in
          let drops = at_drop holders i f.number f.others f.whole in
          let w = number_names sources (moved some.member f.offset) f.number f.has in
          none_chosen (chosen p.var sources holders i (Plain (PlainTerm.Select x y))) (y, w.0) none (is_chosen p.var sources holders i x y f.number w.0 e drops.0 w.1)
      go false e =
          record { folded = refl; copied = tt; gone = (e, only); rest = subst (λ l. Held l i) (λ l. cond (e l) (offset_of (m y) ∷ []) [] ++ os) h }
  plain_done (PlainTerm.Const a) i k m os none only h = record { folded = refl; copied = tt; gone = only; rest = h }
  plain_done (PlainTerm.Copy x) i k m os none only h = record { folded = refl; copied = tt; gone = only; rest = h }
  plain_done (PlainTerm.Unary o x) i k m os none only h = record { folded = refl; copied = tt; gone = only; rest = h }
  plain_done (PlainTerm.Binary o x y) i k m os none only h = record { folded = refl; copied = tt; gone = only; rest = h }
  plain_done (PlainTerm.Literal xs) i k m os none only h = record { folded = refl; copied = tt; gone = only; rest = h }
  plain_done (PlainTerm.Dim x) i k m os none only h = record { folded = refl; copied = tt; gone = only; rest = h }
  plain_done (PlainTerm.ShapeOf x) i k m os none only h = record { folded = refl; copied = tt; gone = only; rest = h }
  plain_done (PlainTerm.Reshape x y) i k m os none only h = record { folded = refl; copied = tt; gone = only; rest = h }
  plain_done (PlainTerm.Replace x y z) i k m os none only h = record { folded = refl; copied = tt; gone = only; rest = h }
  plain_done (PlainTerm.Always kind) i k m os none only h = record { folded = refl; copied = tt; gone = only; rest = h }
  plain_done (PlainTerm.Check x t) i k m os none only h = record { folded = refl; copied = tt; gone = only; rest = h }

  whole_done :
      (r : RightTerm) → IsWhole r → (i : ℕ) (k : Facts) (m : IndexFacts) (os : List (Option (List ℤ))) → chosen p.var sources holders i r ≡ None → SelectsRight p.var r →
      Held (offsets_right called p.var axes r k m ++ os) i → RightDone r k m os r i
  whole_done (Plain q) w i k m os none only h = plain_done q i k m os none only h
  whole_done (RightTerm.If x a b) w i k m os none only h = absurd w
  whole_done (RightTerm.Loop first start params test body s) w i k m os none only h = absurd w
  whole_done (RightTerm.Call g xs) w i k m os none only h = record { folded = refl; copied = tt; gone = only; rest = h }
  whole_done (RightTerm.With o gens) w i k m os none only h = record { folded = refl; copied = tt; gone = only; rest = h }
  whole_done (RightTerm.Parted f t c o ps) w i k m os none only h = record { folded = refl; copied = tt; gone = only; rest = h }

  -- ---- all of a body

  selected_one : (xs : List Var) (r : RightTerm) (x index : Var) → r ≡ Plain (PlainTerm.Select x index) → SingleRight xs r → (t : Var) × (xs ≡ t ∷ [])
  selected_one xs r x index e h = subst (SingleRight xs) e h

  on_most : (a b c : ℕ) → a ≤ b → b ≤ c → a ≤ c
  on_most a b c q r = omega (arith, q, r)

  regroup : (xs ys os : List (Option (List ℤ))) (i : ℕ) → Held ((xs ++ ys) ++ os) i → Held (xs ++ (ys ++ os)) i
  regroup xs ys os i h = subst (λ l. Held l i) (append_assoc xs ys os) h

  mutual
    pub done :
        {i n j t : ℕ} {b c : BlockTerm} → BlockFolded p.var sources holders i n b c j t → (k : Facts) (m : IndexFacts) (os : List (Option (List ℤ))) → low ≤ n → t ≤ high → Single b → Selects p.var b →
        ((y : Var) → low ≤ y.0 → Avoids y b) → Held (offsets called p.var axes b k m ++ os) i → Done b k m os c j
    done ends k m os up top single only new h = record { folded = refl; copied = tt; gone = only; rest = h }
    done (takes {i = i} {n = n} {m = t} {xs = xs} {s = s} {r = r} {b = b} {d = d} {index = index} {part = part} e g) k m os up top single only new h =
        let w = chosen_is p.var sources holders i r index part e in
        let one = selected_one xs r w.array index w.selects single.0 in
        let selects : r ≡ Plain (PlainTerm.Select p.var index) = w.selects ∙ (λ l. Plain (PlainTerm.Select (sym (same_number p.var w.array w.same) l) index)) in
        let high_enough = on_most (n + copy_binds part) t high (rises p.var sources holders g) top in
        take_at n i w.number up part w.held w.there high_enough index one.0 s b d g k m os xs r one.1 selects only.0 (λ y l. (new y l).1) h
        (λ k m os h. done g k m os (less_next low n (copy_binds part) up) top single.1 only.1 (λ y l. (new y l).1) h)
    done (keeps {i = i} {n = n} {j = j} {l = l} {m = t} {xs = xs} {s = s} {r = r} {q = q} {b = b} {d = d} none f g) k m os up top single only new h =
        let k' = note_all k xs (right_facts called r k) in
        let m' = learn_index axes m xs r k in
        let later = offsets called p.var axes b k' m' in
        let mid = rises p.var sources holders g in
        let first = right_done xs f none k m (later ++ os) up (on_most l t high mid top) single.0 only.0 (λ y u. (new y u).0) (regroup (offsets_right called p.var axes r k m) later os i h) in
        let rest = done g k' m' os (on_most low n l up (right_rises p.var sources holders f)) top single.1 only.1 (λ y u. (new y u).1) first.rest in
        record { folded = inl (q, (d, (refl, first.folded, rest.folded))); copied = (first.copied, rest.copied); gone = (first.gone, rest.gone); rest = rest.rest }

    right_done :
        (xs : List Var) {i n j t : ℕ} {r q : RightTerm} → RightFolded p.var sources holders i n r q j t → chosen p.var sources holders i r ≡ None → (k : Facts) (m : IndexFacts) (os : List (Option (List ℤ))) →
        low ≤ n → t ≤ high → SingleRight xs r → SelectsRight p.var r → ((y : Var) → low ≤ y.0 → AvoidsRight y r) → Held (offsets_right called p.var axes r k m ++ os) i → RightDone r k m os q j
    right_done xs (stays {i = i} {r = r} w) none k m os up top single only new h = whole_done r w i k m os none only h
    right_done xs (branches {i = i} {n = n} {j = j} {l = l} {m = t} {x = x} {a = a} {b = b} {c = c} {d = d} f g) none k m os up top single only new h =
        let later = offsets called p.var axes b k m in
        let mid = rises p.var sources holders g in
        let first = done f k m (later ++ os) up (on_most l t high mid top) single.0 only.1 (λ y u. (new y u).1) (regroup (offsets called p.var axes a k m) later os i h) in
        let rest = done g k m os (on_most low n l up (rises p.var sources holders f)) top single.1 only.2 (λ y u. (new y u).2) first.rest in
        record { folded = (c, (d, (refl, first.folded, rest.folded))); copied = (first.copied, rest.copied); gone = (only.0.0, first.gone, rest.gone); rest = rest.rest }
    right_done xs (turns {i = i} {n = n} {j = j} {l = l} {m = t} {start = start} {params = params} {a = a} {b = b} {c = c} {d = d} f g) none k m os up top single only new h =
        let k' = note_all k params [] in
        let m' = note_others m params in
        let later = offsets called p.var axes b k' m' in
        let mid = rises p.var sources holders g in
        let first = done f k' m' (later ++ os) up (on_most l t high mid top) single.0 only.1 (λ y u. (new y u).1) (regroup (offsets called p.var axes a k' m') later os i h) in
        let rest = done g k' m' os (on_most low n l up (rises p.var sources holders f)) top single.1 only.2 (λ y u. (new y u).2) first.rest in
        record { folded = (c, (d, (refl, first.folded, rest.folded))); copied = (first.copied, rest.copied); gone = (only.0, first.gone, rest.gone); rest = rest.rest }
