-- Pieces and parts that are gathered one after another.
use Rattle.std.proofs.Common.{◌≡◌, ℕ, suc, ◌+◌, ◌<◌, ◌≤◌, Bool, true, false, ◌&&◌, cond, List, [], ◌∷◌, ◌++◌, map, length, drop, get_or, refl, sym, ap, subst, ◌∙◌, append_assoc, append-nil, arith}
use Rattle.std.specs.Prelude.{filter}
use Rattle.std.proofs.lemmas.List.{drop_all}
use Rattle.sac_base.specs.declared.grid.Grid1.{Grid1}
use Rattle.sac_base.specs.Grids.{has_index, has_vector}
use Rattle.core_ir.specs.declared.tree.Var.{Var}
use Rattle.core_ir.specs.declared.tree.CorePart.{CorePart}
use Rattle.core_ir.specs.Terms.{PartTerm}
use Rattle.core_ir.specs.View.{part_term}
use Rattle.fold_pieces.specs.declared.keeping.FoldPiece.{FoldPiece}
use Rattle.foldable_pairs.specs.declared.plan.PartPlan.{PartPlan}
use Rattle.folded_parts.specs.Making.{PiecesMade}
use Rattle.fold_walk.specs.fold_laws.Made.{due_pieces, has_members, numbered_grid, numbered_grids, PartsMade}
use Rattle.generator_sets.specs.Pieces.{lows}
use Rattle.fold_walk.specs.Making.{AllDue, AllMade, PieceVec, due_count, piece_count}
use Rattle.fold_walk.proofs.Learned.{next_is}

-- ---- members

abbrev pub has_first : List Grid1 → Bool
has_first g = has_vector g (lows g)

pub first_turn : (axes : List Grid1) (i : ℕ) (x : Grid1) (whole : Bool) → i < length axes → x ≡ get_or axes i x → true ≡ has_index x x.lo → has_first (drop i axes) ≡ whole → has_first (drop (i + 1) axes) ≡ whole
first_turn axes i x whole h e t v = (λ j. t j && has_first (drop (i + 1) axes)) ∙ ap has_first (sym (next_is axes i x h e)) ∙ v

pub first_out : (axes : List Grid1) (i : ℕ) (x : Grid1) (whole : Bool) → i < length axes → x ≡ get_or axes i x → false ≡ has_index x x.lo → has_first (drop i axes) ≡ whole → false ≡ whole
first_out axes i x whole h e t v = (λ j. t j && has_first (drop (i + 1) axes)) ∙ ap has_first (sym (next_is axes i x h e)) ∙ v

pub first_end : (axes : List Grid1) (i : ℕ) (whole : Bool) → length axes ≤ i → has_first (drop i axes) ≡ whole → true ≡ whole
first_end axes i whole h v = ap has_first (sym (drop_all i axes h)) ∙ v

-- ---- pieces of a part

abbrev pub kept : List FoldPiece → List (List Grid1 × List ℕ)
kept ps = map numbered_grid (filter has_members ps)

kept_cons : (p : FoldPiece) (ps : List FoldPiece) → kept (p ∷ ps) ≡ kept (p ∷ []) ++ kept ps
kept_cons p ps = go (has_members p)
  where
    go : (b : Bool) → map numbered_grid (cond b (p ∷ filter has_members ps) (filter has_members ps)) ≡ map numbered_grid (cond b (p ∷ []) []) ++ kept ps
    go true = refl
    go false = refl

pub kept_turn : (old new whole : List (List Grid1 × List ℕ)) (rest rest' : List FoldPiece) (p : FoldPiece) → rest ≡ p ∷ rest' → new ≡ old ++ kept (p ∷ []) → old ++ kept rest ≡ whole → new ++ kept rest' ≡ whole
kept_turn old new whole rest rest' p e n v =
    (λ j. n j ++ kept rest') ∙ append_assoc old (kept (p ∷ [])) (kept rest') ∙ ap (λ zs. old ++ zs) (sym (kept_cons p rest')) ∙ (λ j. old ++ kept (sym e j)) ∙ v

pub kept_end : (old whole : List (List Grid1 × List ℕ)) (rest : List FoldPiece) → rest ≡ [] → old ++ kept rest ≡ whole → old ≡ whole
kept_end old whole rest e v = sym (append-nil old) ∙ (λ j. old ++ kept (sym e j)) ∙ v

-- ---- pieces of all parts

pub record DueGoing (p : Var) (parts : List CorePart) (plans : List PartPlan) (all : List PieceVec) (i : ℕ) (rest : List PartPlan) : Type 0 where
  pub on : (more : List PieceVec) → AllDue p (map part_term (drop i parts)) rest more → AllDue p (map part_term parts) plans (all ++ more)
  pub count : length parts ≡ i + length rest

zero_more : (n m : ℕ) → n ≡ m → n ≡ 0 + m
zero_more n m e = omega (arith, e)

one_more : (n i k : ℕ) → n ≡ i + suc k → n ≡ (i + 1) + k
one_more n i k e = omega (arith, e)

not_beyond : (n i : ℕ) → n ≡ i + 0 → i < n → ⊥
not_beyond n i e h = omega (arith, e, h)

no_more : (n i k : ℕ) → n ≡ i + suc k → n ≤ i → ⊥
no_more n i k e h = omega (arith, e, h)

pub due_first : (p : Var) (parts : List CorePart) (plans : List PartPlan) (all : List PieceVec) → all ≡ [] → length parts ≡ length plans → DueGoing p parts plans all 0 plans
due_first p parts plans all e l = record {
  on = λ more h. subst (λ zs. AllDue p (map part_term parts) plans (zs ++ more)) (sym e) h;
  count = zero_more (length parts) (length plans) l;
}

pub due_turn :
    (p : Var) (parts : List CorePart) (plans : List PartPlan) (all new : List PieceVec) (i : ℕ) (x : CorePart) (rest rest' : List PartPlan) (plan : PartPlan) (pieces : PieceVec) → i < length parts → x ≡ get_or parts i x →
    rest ≡ plan ∷ rest' → new ≡ all ++ (pieces ∷ []) → numbered_grids pieces.items ≡ due_pieces p (part_term x) plan → DueGoing p parts plans all i rest → DueGoing p parts plans new (i + 1) rest'
due_turn p parts plans all new i x rest rest' plan pieces h e r n due g = record {
  on = λ more a.
      subst (λ zs. AllDue p (map part_term parts) plans zs) (sym (append_assoc all (pieces ∷ []) more) ∙ (λ j. sym n j ++ more))
      (g.on (pieces ∷ more) (subst (λ zs. AllDue p (map part_term zs) rest (pieces ∷ more)) (sym (next_is parts i x h e)) (subst (λ zs. AllDue p (part_term x ∷ map part_term (drop (i + 1) parts)) zs (pieces ∷ more)) (sym r) (due, a))));
  count = one_more (length parts) i (length rest') (g.count ∙ ap (λ zs. i + length zs) r);
}

pub due_stop : {P : Type 0} (p : Var) (parts : List CorePart) (plans : List PartPlan) (all : List PieceVec) (i : ℕ) (rest : List PartPlan) → i < length parts → rest ≡ [] → DueGoing p parts plans all i rest → P
due_stop p parts plans all i rest h r g = absurd (not_beyond (length parts) i (g.count ∙ ap (λ zs. i + length zs) r) h)

none_over : {A : Type 0} (n i : ℕ) (rest : List A) → n ≡ i + length rest → n ≤ i → rest ≡ []
none_over n i [] e h = refl
none_over n i (x ∷ xs) e h = absurd (no_more n i (length xs) e h)

pub due_end : (p : Var) (parts : List CorePart) (plans : List PartPlan) (all : List PieceVec) (i : ℕ) (rest : List PartPlan) → length parts ≤ i → DueGoing p parts plans all i rest → AllDue p (map part_term parts) plans all
due_end p parts plans all i rest h g =
    subst (λ zs. AllDue p (map part_term parts) plans zs) (append-nil all)
    (g.on [] (subst (λ zs. AllDue p (map part_term zs) rest []) (sym (drop_all i parts h)) (subst (λ zs. AllDue p [] zs []) (sym (none_over (length parts) i rest g.count h)) tt)))

-- ---- how many

pub count_turn : (pieces : List PieceVec) (i : ℕ) (x : PieceVec) (count whole : ℕ) → i < length pieces → x ≡ get_or pieces i x → count + piece_count (drop i pieces) ≡ whole → (count + length x.items) + piece_count (drop (i + 1) pieces) ≡ whole
count_turn pieces i x count whole h e v = regroup count (length x.items) (piece_count (drop (i + 1) pieces)) ∙ ap (λ zs. count + piece_count zs) (sym (next_is pieces i x h e)) ∙ v
  where
    regroup : (a b c : ℕ) → (a + b) + c ≡ a + (b + c)
    regroup a b c = omega arith

pub count_over : (count rest whole : ℕ) → count + rest ≡ whole → 64 < count → 64 < whole
count_over count rest whole e h = omega (arith, e, h)

pub count_end : (pieces : List PieceVec) (i count whole : ℕ) → length pieces ≤ i → count + piece_count (drop i pieces) ≡ whole → count ≤ 64 → whole ≤ 64
count_end pieces i count whole h v l = most count whole (ap (λ zs. count + piece_count zs) (sym (drop_all i pieces h)) ∙ v) l
  where
    most : (a b : ℕ) → a + 0 ≡ b → a ≤ 64 → b ≤ 64
    most a b e l = omega (arith, e, l)

-- ---- parts

pub record MadeGoing (p : Var) (sources : List PartTerm) (parts : List CorePart) (pieces : List PieceVec) (start : ℕ) (all : List PartTerm) (i : ℕ) (rest : List PieceVec) (now : ℕ) : Type 0 where
  pub on : (more : List PartTerm) (m : ℕ) → AllMade p sources (map part_term (drop i parts)) rest now more m → AllMade p sources (map part_term parts) pieces start (all ++ more) m
  pub count : length parts ≡ i + length rest

pub made_first : (p : Var) (sources : List PartTerm) (parts : List CorePart) (pieces : List PieceVec) (start : ℕ) (all : List CorePart) → all ≡ [] → length parts ≡ length pieces → MadeGoing p sources parts pieces start (map part_term all) 0 pieces start
made_first p sources parts pieces start all e l = record {
  on = λ more m h. subst (λ zs. AllMade p sources (map part_term parts) pieces start (map part_term zs ++ more) m) (sym e) h;
  count = zero_more (length parts) (length pieces) l;
}

map_both : (xs ys : List CorePart) → map part_term (xs ++ ys) ≡ map part_term xs ++ map part_term ys
map_both [] ys = refl
map_both (x ∷ xs) ys = ap (λ l. part_term x ∷ l) (map_both xs ys)

pub made_turn :
    (p : Var) (sources : List PartTerm) (parts : List CorePart) (pieces : List PieceVec) (start : ℕ) (all new first : List CorePart) (i : ℕ) (x : CorePart) (rest rest' : List PieceVec) (v : PieceVec) (now next : ℕ) → i < length parts →
    x ≡ get_or parts i x → rest ≡ v ∷ rest' → new ≡ all ++ first → PiecesMade p sources (part_term x) v.items now (map part_term first) next → MadeGoing p sources parts pieces start (map part_term all) i rest now →
    MadeGoing p sources parts pieces start (map part_term new) (i + 1) rest' next
made_turn p sources parts pieces start all new first i x rest rest' v now next h e r n made g = record {
  on = λ more m a.
      subst (λ zs. AllMade p sources (map part_term parts) pieces start zs m)
      (sym (append_assoc (map part_term all) (map part_term first) more) ∙ (λ j. sym (map_both all first) j ++ more) ∙ (λ j. map part_term (sym n j) ++ more))
      (g.on (map part_term first ++ more) m
      (subst (λ zs. AllMade p sources (map part_term zs) rest now (map part_term first ++ more) m) (sym (next_is parts i x h e))
      (subst (λ zs. AllMade p sources (part_term x ∷ map part_term (drop (i + 1) parts)) zs now (map part_term first ++ more) m) (sym r) (map part_term first, (more, (next, (made, a, refl)))))));
  count = one_more (length parts) i (length rest') (g.count ∙ ap (λ zs. i + length zs) r);
}

pub made_stop :
    {P : Type 0} (p : Var) (sources : List PartTerm) (parts : List CorePart) (pieces : List PieceVec) (start : ℕ) (all : List PartTerm) (i : ℕ) (rest : List PieceVec) (now : ℕ) → i < length parts → rest ≡ [] →
    MadeGoing p sources parts pieces start all i rest now → P
made_stop p sources parts pieces start all i rest now h r g = absurd (not_beyond (length parts) i (g.count ∙ ap (λ zs. i + length zs) r) h)

pub made_end :
    (p : Var) (sources : List PartTerm) (parts : List CorePart) (pieces : List PieceVec) (start : ℕ) (all : List PartTerm) (i : ℕ) (rest : List PieceVec) (now : ℕ) → length parts ≤ i → MadeGoing p sources parts pieces start all i rest now →
    AllMade p sources (map part_term parts) pieces start all now
made_end p sources parts pieces start all i rest now h g =
    subst (λ zs. AllMade p sources (map part_term parts) pieces start zs now) (append-nil all)
    (g.on [] now (subst (λ zs. AllMade p sources (map part_term zs) rest now [] now) (sym (drop_all i parts h))
    (subst (λ zs. AllMade p sources [] zs now [] now) (sym (none_over (length parts) i rest g.count h)) (refl, refl))))

-- ---- parts of plans

pub parts_made :
    (p : Var) (sources olds : List PartTerm) (plans : List PartPlan) (pieces : List PieceVec) (n : ℕ) (news : List PartTerm) (m : ℕ) → AllDue p olds plans pieces → AllMade p sources olds pieces n news m →
    PartsMade p sources olds plans n news m
parts_made p sources [] [] [] n news m d h = h
parts_made p sources (old ∷ olds) (plan ∷ plans) (v ∷ rest) n news m d h =
    let w = h.1.1.1 in
    (h.0, (h.1.0, (h.1.1.0, (record { pieces = v.items; due = d.0; made = w.0 }, parts_made p sources olds plans rest h.1.1.0 h.1.0 m d.1 w.1, w.2))))
parts_made p sources [] [] (v ∷ rest) n news m d h = absurd d
parts_made p sources [] (plan ∷ plans) pieces n news m d h = absurd d
parts_made p sources (old ∷ olds) [] pieces n news m d h = absurd d
parts_made p sources (old ∷ olds) (plan ∷ plans) [] n news m d h = absurd d

map_length : {A B : Type 0} (f : A → B) (xs : List A) → length (map f xs) ≡ length xs
map_length f [] = refl
map_length f (x ∷ xs) = ap suc (map_length f xs)

pub due_counted : (p : Var) (olds : List PartTerm) (plans : List PartPlan) (pieces : List PieceVec) → AllDue p olds plans pieces → piece_count pieces ≡ due_count p olds plans
due_counted p [] [] [] d = refl
due_counted p (old ∷ olds) (plan ∷ plans) (v ∷ rest) d = λ j. (sym (map_length (λ (q : _). (q.0, (q.1).items)) v.items) ∙ ap length d.0) j + due_counted p olds plans rest d.1 j
due_counted p [] [] (v ∷ rest) d = absurd d
due_counted p [] (plan ∷ plans) pieces d = absurd d
due_counted p (old ∷ olds) [] pieces d = absurd d
due_counted p (old ∷ olds) (plan ∷ plans) [] d = absurd d

pub due_lengths : (p : Var) (olds : List PartTerm) (plans : List PartPlan) (pieces : List PieceVec) → AllDue p olds plans pieces → length olds ≡ length pieces
due_lengths p [] [] [] d = refl
due_lengths p (old ∷ olds) (plan ∷ plans) (v ∷ rest) d = ap suc (due_lengths p olds plans rest d.1)
due_lengths p [] [] (v ∷ rest) d = absurd d
due_lengths p [] (plan ∷ plans) pieces d = absurd d
due_lengths p (old ∷ olds) [] pieces d = absurd d
due_lengths p (old ∷ olds) (plan ∷ plans) [] d = absurd d

-- an iterator with nothing left
pub none_left : {A : Type 0} (len : ℕ) (items : List A) → len ≡ 0 → len ≡ length items → items ≡ []
none_left len [] p q = refl
none_left len (x ∷ xs) p q = absurd (omega arith)
