-- Folded bodies weigh as much as before, have as many parted loops, and call what the producer and the consumer call.
use Rattle.std.proofs.Common.{◌≡◌, ℕ, ◌+◌, List, [], ◌∷◌, length, Option, refl, sym, ap, subst, ◌∙◌, inl, inr, arith}
use Rattle.sac_base.specs.declared.grid.Grid1.{Grid1}
use Rattle.core_ir.specs.declared.tree.Var.{Var}
use Rattle.core_ir.specs.Renaming.{under}
use Rattle.core_ir.specs.Terms.{PlainTerm, BlockTerm, RightTerm, PartsTerm, PartHead, Gives, Bind, Plain, NoParts, Part, chain}
use Rattle.core_facts.specs.calls.Nests.{CallsAll, CallsAllRight, CallsAllParts}
use Rattle.core_facts.specs.Facts.{Facts, note_all, right_facts, in_part}
use Rattle.core_loops.specs.Indices.{IndexFacts, note_others, learn_index, own_index}
use Rattle.core_loops.specs.Loops.{weight, weight_right, weight_parts, parted_in, parted_in_right, parted_in_parts}
use Rattle.core_loops.specs.Pairs.{Producer, count_parts}
use Rattle.core_loops.specs.Steps.{itself, Folded, FoldedRight, TakenAt, append_parts, PiecesFold, NewParts}
use Rattle.core_forms.proofs.norm.Calls.{copy_calls}
use Rattle.core_forms.proofs.norm.Weights.{weights, copy_parted}
use Rattle.core_forms.specs.fold.Copied.{HasPart, IsCopied, AllCopied, AllCopiedRight}
use Rattle.core_forms.specs.fold.Fresh.{IsFreshPiece, FreshPieces, FreshParts, StaysOne}
use Rattle.core_forms.proofs.fold.Chains.{chain_weight, chain_parted, chain_calls}
use Rattle.core_forms.proofs.fold.Producers.{IsLight, part_calls}

abbrev pub Counted : BlockTerm → BlockTerm → Type 0
Counted b c = (weight c ≡ weight b) × (parted_in c ≡ parted_in b)

abbrev CountedRight : RightTerm → RightTerm → Type 0
CountedRight r q = (weight_right q ≡ weight_right r) × (parted_in_right q ≡ parted_in_right r)

taken_sum : (c whole front d b r : ℕ) → c ≡ 0 + whole → whole ≡ front + (0 + d) → front ≡ 0 → d ≡ b → r ≡ 0 → c ≡ r + b
taken_sum c whole front d b r p q s t u = omega (arith, p, q, s, t, u)

module _ (called : ℕ → List (Option (List ℕ))) (p : Producer) (n : ℕ) (grid : List Grid1) (low high : ℕ) where
  module _ (light : (h : PartHead) (b : BlockTerm) → HasPart p.parts h b → IsLight b) where
    taken_counts : (m : IndexFacts) (xs : List Var) (r : RightTerm) (b d c : BlockTerm) (t : TakenAt p grid m xs r d c) → IsCopied p grid low high m xs r d c t → Counted b d →
        (weight c ≡ weight_right r + weight b) × (parted_in c ≡ parted_in_right r + parted_in b)
    taken_counts m xs r b d c t a v =
        let copy = chain t.lets (Gives (t.result ∷ [])) in
        let last = Bind (t.target ∷ []) t.last (Plain (PlainTerm.Copy t.result)) d in
        let l = light t.head t.body a.part in
        let S = under itself t.head.index t.own in (
          taken_sum (weight c) (weight (chain t.lets last)) (weight copy) (weight d) (weight b) (weight_right r) (ap weight t.made) (chain_weight t.lets (t.result ∷ []) last)
              (weights S t.body copy t.renamed ∙ l.0) v.0 (ap weight_right t.selects),
          taken_sum (parted_in c) (parted_in (chain t.lets last)) (parted_in copy) (parted_in d) (parted_in b) (parted_in_right r) (ap parted_in t.made) (chain_parted t.lets (t.result ∷ []) last)
              (copy_parted S t.body copy t.renamed ∙ l.1) v.1 (ap parted_in_right t.selects),
        )

    mutual
      pub folded_counts : (b : BlockTerm) (k : Facts) (m : IndexFacts) (c : BlockTerm) (h : Folded called p n grid b k m c) → AllCopied called p n grid low high b k m c h → Counted b c
      folded_counts (Gives xs) k m c h a = (ap weight h, ap parted_in h)
      folded_counts (Bind xs s r b) k m c (inl h) a =
          let u = right_counts r k m h.0 h.1.1.1 a.0 in
          let v = folded_counts b (note_all k xs (right_facts called r k)) (learn_index n m xs r k) h.1.0 h.1.1.2 a.1 in
          (ap weight h.1.1.0 ∙ (λ i. u.0 i + v.0 i), ap parted_in h.1.1.0 ∙ (λ i. u.1 i + v.1 i))
      folded_counts (Bind xs s r b) k m c (inr h) a =
          taken_counts m xs r b h.0 c h.1.0 a.0 (folded_counts b (note_all k xs (right_facts called r k)) (learn_index n m xs r k) h.0 h.1.1 a.1)

      right_counts : (r : RightTerm) (k : Facts) (m : IndexFacts) (q : RightTerm) (h : FoldedRight called p n grid r k m q) → AllCopiedRight called p n grid low high r k m q h → CountedRight r q
      right_counts (Plain t) k m q h a = (ap weight_right h, ap parted_in_right h)
      right_counts (RightTerm.If x b d) k m q h a =
          let u = folded_counts b k m h.0 h.1.1.1 a.0 in
          let v = folded_counts d k m h.1.0 h.1.1.2 a.1 in
          (ap weight_right h.1.1.0 ∙ (λ i. u.0 i + v.0 i), ap parted_in_right h.1.1.0 ∙ (λ i. u.1 i + v.1 i))
      right_counts (RightTerm.Loop first start params test body s) k m q h a =
          let u = folded_counts test (note_all k params []) (note_others m params) h.0 h.1.1.1 a.0 in
          let v = folded_counts body (note_all k params []) (note_others m params) h.1.0 h.1.1.2 a.1 in
          (ap weight_right h.1.1.0 ∙ (λ i. u.0 i + v.0 i), ap parted_in_right h.1.1.0 ∙ (λ i. u.1 i + v.1 i))
      right_counts (RightTerm.Call g xs) k m q h a = (ap weight_right h, ap parted_in_right h)
      right_counts (RightTerm.With o g) k m q h a = (ap weight_right h, ap parted_in_right h)
      right_counts (RightTerm.Parted f t c o ps) k m q h a = (ap weight_right h, ap parted_in_right h)

  -- ---- calls

  module _ (P : ℕ → Type 0) (calls : CallsAllParts P p.parts) where
    taken_calls : (m : IndexFacts) (xs : List Var) (r : RightTerm) (d c : BlockTerm) (t : TakenAt p grid m xs r d c) → IsCopied p grid low high m xs r d c t → CallsAll P d → CallsAll P c
    taken_calls m xs r d c t a v =
        let copy = chain t.lets (Gives (t.result ∷ [])) in
        let last = Bind (t.target ∷ []) t.last (Plain (PlainTerm.Copy t.result)) d in
        let copied = copy_calls P (under itself t.head.index t.own) t.body copy t.renamed (part_calls P p.parts t.head t.body a.part calls) in
        subst (CallsAll P) (sym t.made) (tt, chain_calls P t.lets (Gives (t.result ∷ [])) last copied (λ e. (tt, v)))

    mutual
      pub folded_calls : (b : BlockTerm) (k : Facts) (m : IndexFacts) (c : BlockTerm) (h : Folded called p n grid b k m c) → AllCopied called p n grid low high b k m c h → CallsAll P b → CallsAll P c
      folded_calls (Gives xs) k m c h a o = subst (CallsAll P) (sym h) tt
      folded_calls (Bind xs s r b) k m c (inl h) a o =
          subst (CallsAll P) (sym h.1.1.0) (right_calls r k m h.0 h.1.1.1 a.0 o.0, folded_calls b (note_all k xs (right_facts called r k)) (learn_index n m xs r k) h.1.0 h.1.1.2 a.1 o.1)
      folded_calls (Bind xs s r b) k m c (inr h) a o =
          taken_calls m xs r h.0 c h.1.0 a.0 (folded_calls b (note_all k xs (right_facts called r k)) (learn_index n m xs r k) h.0 h.1.1 a.1 o.1)

      right_calls : (r : RightTerm) (k : Facts) (m : IndexFacts) (q : RightTerm) (h : FoldedRight called p n grid r k m q) → AllCopiedRight called p n grid low high r k m q h → CallsAllRight P r → CallsAllRight P q
      right_calls (Plain t) k m q h a o = subst (CallsAllRight P) (sym h) tt
      right_calls (RightTerm.If x b d) k m q h a o =
          subst (CallsAllRight P) (sym h.1.1.0) (folded_calls b k m h.0 h.1.1.1 a.0 o.0, folded_calls d k m h.1.0 h.1.1.2 a.1 o.1)
      right_calls (RightTerm.Loop first start params test body s) k m q h a o =
          subst (CallsAllRight P) (sym h.1.1.0)
          (folded_calls test (note_all k params []) (note_others m params) h.0 h.1.1.1 a.0 o.0, folded_calls body (note_all k params []) (note_others m params) h.1.0 h.1.1.2 a.1 o.1)
      right_calls (RightTerm.Call g xs) k m q h a o = subst (CallsAllRight P) (sym h) o
      right_calls (RightTerm.With w g) k m q h a o = subst (CallsAllRight P) (sym h) o
      right_calls (RightTerm.Parted f t c w ps) k m q h a o = subst (CallsAllRight P) (sym h) o

-- ---- parts

module _ (called : ℕ → List (Option (List ℕ))) (later : Facts) (p : Producer) (low high : ℕ) where
  append_weight : (pieces others : PartsTerm) → weight_parts (append_parts pieces others) ≡ weight_parts pieces + weight_parts others
  append_weight NoParts others = omega arith
  append_weight (Part h b rest) others = let e = append_weight rest others in omega (arith, e)

  append_parted : (pieces others : PartsTerm) → parted_in_parts (append_parts pieces others) ≡ parted_in_parts pieces + parted_in_parts others
  append_parted NoParts others = omega arith
  append_parted (Part h b rest) others = let e = append_parted rest others in omega (arith, e)

  module _ (light : (h : PartHead) (b : BlockTerm) → HasPart p.parts h b → IsLight b) where
    piece_counts : (h g : PartHead) (b d : BlockTerm) (rest : PartsTerm) (f : PiecesFold called later p h b (Part g d rest)) → IsFreshPiece called later p low high h g b f.1.0 d f.1.1.0 → Counted b d
    piece_counts h g b d rest f e =
        let c = f.1.0 in
        let u = folded_counts called p (length h.grid) g.grid low high light b (in_part later h) (own_index (length h.grid) h.index) c f.1.1.0 e.copied in
        let S = under itself h.index g.index in
        (weights S c d f.1.1.1 ∙ u.0, copy_parted S c d f.1.1.1 ∙ u.1)

    -- pieces of a part that has no loop have none
    none_light : (h : PartHead) (b : BlockTerm) (pieces : PartsTerm) (f : PiecesFold called later p h b pieces) → FreshPieces called later p low high h b pieces f → IsLight b → (weight_parts pieces ≡ 0) × (parted_in_parts pieces ≡ 0)
    none_light h b NoParts f e l = (refl, refl)
    none_light h b (Part g d rest) f e l =
        let u = piece_counts h g b d rest f e.0 in
        let v = none_light h b rest f.2 e.1 l in
        (sum (weight d) (weight_parts rest) (u.0 ∙ l.0) v.0, sum (parted_in d) (parted_in_parts rest) (u.1 ∙ l.1) v.1)
      where
        sum : (a b : ℕ) → a ≡ 0 → b ≡ 0 → a + b ≡ 0
        sum a b p q = omega (arith, p, q)

    -- a part that stays one part is counted once
    one_counts : (h : PartHead) (b : BlockTerm) (pieces : PartsTerm) (f : PiecesFold called later p h b pieces) → FreshPieces called later p low high h b pieces f → count_parts pieces ≡ 1 → (weight_parts pieces ≡ weight b) × (parted_in_parts pieces ≡ parted_in b)
    one_counts h b NoParts f e l = absurd (omega (arith, l))
    one_counts h b (Part g d NoParts) f e l =
        let u = piece_counts h g b d NoParts f e.0 in
        (alone (weight d) (weight b) u.0, alone (parted_in d) (parted_in b) u.1)
      where
        alone : (a b : ℕ) → a ≡ b → a + 0 ≡ b
        alone a b p = omega (arith, p)
    one_counts h b (Part g d (Part j c rest)) f e l = absurd (omega (arith, l))

    pieces_counts : (h : PartHead) (b : BlockTerm) (pieces : PartsTerm) (f : PiecesFold called later p h b pieces) → FreshPieces called later p low high h b pieces f → StaysOne called later p low high b pieces →
        (weight_parts pieces ≡ weight b) × (parted_in_parts pieces ≡ parted_in b)
    pieces_counts h b pieces f e (inl one) = one_counts h b pieces f e one
    pieces_counts h b pieces f e (inr l) = let w = none_light h b pieces f e l in (w.0 ∙ sym l.0, w.1 ∙ sym l.1)

    pub parts_counts : (old new : PartsTerm) (f : NewParts called later p old new) → FreshParts called later p low high old new f → (weight_parts new ≡ weight_parts old) × (parted_in_parts new ≡ parted_in_parts old)
    parts_counts NoParts new f e = (ap weight_parts f, ap parted_in_parts f)
    parts_counts (Part h b rest) new f e =
        let u = pieces_counts h b f.0 f.1.1.1 e.0 e.2 in
        let v = parts_counts rest f.1.0 f.1.1.3 e.3 in (
          ap weight_parts f.1.1.0 ∙ append_weight f.0 f.1.0 ∙ (λ i. u.0 i + v.0 i),
          ap parted_in_parts f.1.1.0 ∙ append_parted f.0 f.1.0 ∙ (λ i. u.1 i + v.1 i),
        )

  module _ (P : ℕ → Type 0) (calls : CallsAllParts P p.parts) where
    pieces_calls : (h : PartHead) (b : BlockTerm) (pieces others : PartsTerm) (f : PiecesFold called later p h b pieces) → FreshPieces called later p low high h b pieces f → CallsAll P b → CallsAllParts P others → CallsAllParts P (append_parts pieces others)
    pieces_calls h b NoParts others f e o more = more
    pieces_calls h b (Part g d rest) others f e o more =
        let c = f.1.0 in
        let u = folded_calls called p (length h.grid) g.grid low high P calls b (in_part later h) (own_index (length h.grid) h.index) c f.1.1.0 e.0.copied o in
        (copy_calls P (under itself h.index g.index) c d f.1.1.1 u, pieces_calls h b rest others f.2 e.1 o more)

    pub parts_calls : (old new : PartsTerm) (f : NewParts called later p old new) → FreshParts called later p low high old new f → CallsAllParts P old → CallsAllParts P new
    parts_calls NoParts new f e o = subst (CallsAllParts P) (sym f) tt
    parts_calls (Part h b rest) new f e o =
        subst (CallsAllParts P) (sym f.1.1.0) (pieces_calls h b f.0 f.1.0 f.1.1.1 e.0 o.0 (parts_calls rest f.1.0 f.1.1.3 e.3 o.1))
