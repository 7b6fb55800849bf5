-- The fold of a pair whose producer is the first binding.
use Rattle.std.proofs.Common.{◌≡◌, ℕ, ◌+◌, ◌<◌, cond, List, [], ◌∷◌, ◌++◌, map, length, drop, get_or, reverse, Option, Some, None, refl, sym, ap, subst, ◌∙◌, append_assoc, arith, ℤ}
use Rattle.std.specs.Prelude.{IfNone, IfSome, slice_get}
use Rattle.std.proofs.lemmas.List.{reverse-append, reverse-reverse}
use Rattle.sac_base.specs.declared.base.Base.{Base}
use Rattle.sac_base.specs.declared.grid.Grid1.{Grid1}
use Rattle.core_ir.specs.declared.tree.Var.{Var}
use Rattle.core_ir.specs.declared.tree.CorePart.{CorePart}
use Rattle.core_ir.specs.declared.tree.Let.{Let}
use Rattle.core_ir.specs.declared.tree.PartedLoop.{PartedLoop, PartedLoop-F, out-PartedLoop}
use Rattle.core_ir.specs.declared.tree.Right.TheBlock.{the_data, the_data-1, the_data-2, the_data-3, the_data-4, the_data-5, the_data-6}
use Rattle.core_ir.specs.declared.tree.PartedOp.{PartedOp}
use Rattle.core_ir.specs.Terms.{PlainTerm, BlockTerm, RightTerm, LetTerm, PartsTerm, PartTerm, Gives, Bind, Plain, NoParts, Part, Parted, chain, parts_of}
use Rattle.core_ir.specs.Scopes.{plain_uses}
use Rattle.core_ir.specs.Uses.{AvoidsAll, Avoids, AvoidsParts, AvoidsRight}
use Rattle.core_ir.specs.View.{let_term, part_term}
use Rattle.core_facts.specs.Facts.{Facts, in_part, note_all, right_facts}
use Rattle.core_loops.specs.Indices.{IndexFacts, learn_index, note_others, offset_of, own_index}
use Rattle.core_loops.specs.Pairs.{Producer, PartsFold, offsets, offsets_right, plain_offsets}
use Rattle.core_loops.specs.Steps.{facts_after}
use Rattle.foldable_pairs.specs.declared.producer.Producer.{Producer as Source}
use Rattle.foldable_pairs.specs.Pairs.{CanProduce, producer_of, IsNear, IsPlanned, Takes}
use Rattle.fold_walk.specs.fold_laws.Made.{FoldMade, FoldMadeOf}
use Rattle.fold_walk.specs.Left.{IsNearProducer, IsPairAt, NoPairAt}
use Rattle.fold_walk.specs.Making.{CannotTake, GetsMany}
use Rattle.fold_walk.specs.Pairing.{BindsLoop, BindsNoLoop, loop_let}
use Rattle.binding_users.specs.Users.{IsSoleUser}
use Rattle.fold_walk.specs.Walking.{State, facts_behind, ConsumerMade, FirstFolded, NoConsumer}
use Rattle.fold_walk.proofs.Consumers.{bound_let}
use Rattle.fold_walk.proofs.Firsts.{Behind, after_is, avoids_lets, behind, chain_avoids, reverse_lets, same_user, user_at}

-- ---- a pair that was folded

module _ (called : ℕ → List (Option (List ℕ))) (function : ℕ) (k : Facts) (p q : State) (l : LetTerm) (rs : List Var) (x : Var) (loop : PartedLoop) (bound : BindsLoop l x loop) where
  abbrev o : PartedLoop-F the_data the_data-1 the_data-2 the_data-3 the_data-4 the_data-5 the_data-6
  o = out-PartedLoop loop

  abbrev sources : List PartTerm
  sources = map part_term o.parts.items

  abbrev made_loop : RightTerm
  made_loop = Parted o.frame o.base [] o.op (parts_of sources)

  own : l ≡ loop_let x l.site o.frame o.base o.op (parts_of sources)
  own = bound_let l x loop bound

  module _ (behind_lets : List LetTerm) (place : ℕ) (user : IsSoleUser x behind_lets rs place) (source : Source) (later : Facts) (new : LetTerm) where
    abbrev between : List LetTerm
    between = reverse user.after

    abbrev rest : BlockTerm
    rest = chain (reverse user.before) (Gives rs)

    pub first_folded :
        source.var ≡ x → source.frame.now ≡ o.frame → source.parts.now ≡ o.parts.items → CanProduce called k o.op (parts_of sources) →
        later ≡ facts_after called between (note_all k l.targets (right_facts called l.right k)) → ConsumerMade called function later p q source user.user new → FirstFolded called function k p q l behind_lets rs place new
    first_folded var frame parts can known made =
        let producer : Producer = record { var = x; site = l.site; frame = o.frame; base = o.base; op = o.op; parts = parts_of sources } in
        let same : producer_of source l.site o.base o.op ≡ producer =
        λ i. record { var = var i; site = l.site; frame = frame i; base = o.base; op = o.op; parts = parts_of (map part_term (parts i)) } in
        let before_facts : later ≡ facts_after called between (note_all k (x ∷ []) (right_facts called made_loop k)) = known ∙ (λ i. facts_after called between (note_all k (own i).targets (right_facts called (own i).right k))) in
        let planned : IsPlanned called (facts_after called between (note_all k (x ∷ []) (right_facts called made_loop k))) producer made.op made.old made.plans =
        subst (λ (f : Facts). IsPlanned called f producer made.op made.old made.plans) before_facts (subst (λ (r : Producer). IsPlanned called later r made.op made.old made.plans) same (made.planned l.site o.base o.op)) in
        let fold : FoldMade called p.next q.next k (Bind l.targets l.site l.right (chain between (Bind (user.user).targets (user.user).site (user.user).right rest))) (chain between (Bind new.targets new.site new.right rest)) =
        record {
          producer = producer;
          sources = sources;
          given = refl;
          between = between;
          consumer = made.consumer;
          site = made.site;
          frame = made.frame;
          base = made.base;
          op = made.op;
          old = made.old;
          plans = made.plans;
          new = made.parts;
          rest = rest;
          can = can;
          planned = planned;
          alone = reverse_lets x user.after user.others.1;
          behind = chain_avoids x (reverse user.before) (Gives rs) (reverse_lets x user.before user.others.0) user.unreturned;
          room = made.room;
          made = subst (λ (v : Var). Rattle.fold_walk.specs.fold_laws.Made.PartsMade v sources made.old made.plans p.next made.parts q.next) var
              (subst (λ (ps : List CorePart). Rattle.fold_walk.specs.fold_laws.Made.PartsMade source.var (map part_term ps) made.old made.plans p.next made.parts q.next) parts made.made);
          few = made.few;
          before = λ i. Bind (own i).targets l.site (own i).right (chain between (Bind (made.before i).targets (made.before i).site (made.before i).right rest));
          after = λ i. chain between (Bind (made.after i).targets (made.after i).site (made.after i).right rest);
        } in
        record {
          before = user.before;
          user = user.user;
          after = user.after;
          whole = user.whole;
          at = user.at;
          fold = record {
            producer = x;
            consumer = made.consumer;
            made = (fold, (refl, refl));
            logged = subst (λ (v : Var). q.folds ≡ p.folds ++ (record { function = function; producer = v; consumer = made.consumer } ∷ [])) var made.logged;
          };
        }

    pub first_at :
        source.var ≡ x → source.frame.now ≡ o.frame → source.parts.now ≡ o.parts.items → CanProduce called k o.op (parts_of sources) →
        ((u : LetTerm) → slice_get behind_lets place ≡ Some u → ConsumerMade called function (facts_behind called l behind_lets place k) p q source u new) → later ≡ facts_behind called l behind_lets place k → FirstFolded called function k p q l behind_lets rs place new
    first_at var frame parts can h is =
        first_folded var frame parts can (is ∙ (λ i. facts_after called (reverse (after_is x behind_lets rs place user i)) (note_all k l.targets (right_facts called l.right k))))
        (subst (λ (f : Facts). ConsumerMade called function f p q source user.user new) (sym is) (h user.user (user_at x behind_lets rs place user)))

-- the same by what was found
pub first_some :
    (called : ℕ → List (Option (List ℕ))) (function : ℕ) (k : Facts) (p q : State) (l : LetTerm) (rs : List Var) (x : Var) (loop : PartedLoop) (bound : BindsLoop l x loop) (lets : List LetTerm) (place : ℕ)
    (user : IsSoleUser x lets rs place) (source : Source) (found : Option Let) (new : Let) → found ≡ Some new →
    IfSome found (λ n. (u : LetTerm) → slice_get lets place ≡ Some u → ConsumerMade called function (facts_behind called l lets place k) p q source u (let_term n)) → source.var ≡ x →
    source.frame.now ≡ (out-PartedLoop loop).frame → source.parts.now ≡ (out-PartedLoop loop).parts.items → CanProduce called k (out-PartedLoop loop).op (parts_of (map part_term (out-PartedLoop loop).parts.items)) →
    FirstFolded called function k p q l lets rs place (let_term new)
first_some called function k p q l rs x loop bound lets place user source found new e h var frame parts can =
    first_at called function k p q l rs x loop bound lets place user source (facts_behind called l lets place k) (let_term new) var frame parts can
    (subst (λ (o : Option Let). IfSome o (λ n. (u : LetTerm) → slice_get lets place ≡ Some u → ConsumerMade called function (facts_behind called l lets place k) p q source u (let_term n))) e h) refl

-- ---- where there is no fold

-- a part that selects from a variable uses it
none_both : {A : Type 0} (xs ys : List A) → xs ≡ [] → ys ≡ [] → xs ++ ys ≡ []
none_both xs ys a b = λ i. a i ++ b i

plain_none : (p : Var) (q : PlainTerm) (m : IndexFacts) → AvoidsAll p (plain_uses q) → plain_offsets p q m ≡ []
plain_none p (PlainTerm.Const a) m h = refl
plain_none p (PlainTerm.Copy x) m h = refl
plain_none p (PlainTerm.Unary op x) m h = refl
plain_none p (PlainTerm.Binary op x y) m h = refl
plain_none p (PlainTerm.Literal xs) m h = refl
plain_none p (PlainTerm.Dim x) m h = refl
plain_none p (PlainTerm.ShapeOf x) m h = refl
plain_none p (PlainTerm.Reshape x y) m h = refl
plain_none p (PlainTerm.Select x y) m h = λ i. cond (h.0 i) (offset_of (m y) ∷ []) []
plain_none p (PlainTerm.Replace x y z) m h = refl
plain_none p (PlainTerm.Always kind) m h = refl
plain_none p (PlainTerm.Check x t) m h = refl

module _ (called : ℕ → List (Option (List ℕ))) (p : Var) (n : ℕ) where
  mutual
    avoids_none : (b : BlockTerm) (k : Facts) (m : IndexFacts) → Avoids p b → offsets called p n b k m ≡ []
    avoids_none (Gives xs) k m h = refl
    avoids_none (Bind xs s r b) k m h =
        none_both (offsets_right called p n r k m) (offsets called p n b (note_all k xs (right_facts called r k)) (learn_index n m xs r k)) (right_none r k m h.0)
        (avoids_none b (note_all k xs (right_facts called r k)) (learn_index n m xs r k) h.1)

    right_none : (r : RightTerm) (k : Facts) (m : IndexFacts) → AvoidsRight p r → offsets_right called p n r k m ≡ []
    right_none (Plain q) k m h = plain_none p q m h
    right_none (RightTerm.If x a b) k m h = none_both (offsets called p n a k m) (offsets called p n b k m) (avoids_none a k m h.1) (avoids_none b k m h.2)
    right_none (RightTerm.Loop first start params test body s) k m h =
        none_both (offsets called p n test (note_all k params []) (note_others m params)) (offsets called p n body (note_all k params []) (note_others m params))
        (avoids_none test (note_all k params []) (note_others m params) h.1) (avoids_none body (note_all k params []) (note_others m params) h.2)
    right_none (RightTerm.Call g xs) k m h = refl
    right_none (RightTerm.With op gens) k m h = refl
    right_none (RightTerm.Parted f t c op ps) k m h = refl

none_length : (at : List (List ℤ)) → map (λ (c : List ℤ). Some c) at ≡ [] → length at ≡ 0
none_length [] e = refl
none_length (c ∷ at) e = absurd (cc)

no_sum : (s a b : ℕ) → s ≡ a + b → a ≡ 0 → b ≡ 0 → s ≡ 0
no_sum s a b e p q = omega (arith, e, p, q)

none_selected : (called : ℕ → List (Option (List ℕ))) (k : Facts) (p : Producer) (ps : PartsTerm) (s c : ℕ) → PartsFold called k p ps s c → AvoidsParts p.var ps → s ≡ 0
none_selected called k p NoParts s c h a = h.0
none_selected called k p (Part hd b rest) s c h a =
    let w = h.1.1.1.1 in
    let f = w.0 in
    let n = length hd.grid in
    let nothing = f.offsets ∙ avoids_none called p.var n b (in_part k hd) (own_index n hd.index) a.0 in
    no_sum s h.0 h.1.1.0 w.2 (sym f.number ∙ none_length f.at nothing) (none_selected called k p rest h.1.1.0 h.1.1.1.0 w.1 a.1)

not_none : (s : ℕ) → s ≡ 0 → 0 < s → ⊥
not_none s e h = omega (arith, e, h)

-- the binding of a loop
abbrev loop_of : Producer → LetTerm
loop_of p = record { targets = p.var ∷ []; site = p.site; right = Parted p.frame p.base [] p.op p.parts }

first_of : LetTerm → BlockTerm → LetTerm
first_of d (Gives xs) = d
first_of d (Bind xs s r b) = record { targets = xs; site = s; right = r }

rest_of : BlockTerm → BlockTerm
rest_of (Gives xs) = Gives xs
rest_of (Bind xs s r b) = b

module _ (called : ℕ → List (Option (List ℕ))) (above : ℕ) (k : Facts) (l : LetTerm) (behind_lets : List LetTerm) (rs : List Var) (h : IsPairAt called above k (Bind l.targets l.site l.right (chain (reverse behind_lets) (Gives rs)))) where
  abbrev q : Producer
  q = h.producer

  abbrev user_let : LetTerm
  user_let = loop_let h.consumer h.site h.frame h.base h.op (parts_of h.old)

  same_first : l ≡ loop_of q
  unfolding first_of
  same_first = ap (first_of l) h.before

  same_rest : chain (reverse behind_lets) (Gives rs) ≡ chain h.between (Bind (h.consumer ∷ []) h.site (Parted h.frame h.base [] h.op (parts_of h.old)) h.rest)
  unfolding rest_of
  same_rest = ap rest_of h.before

  pub parted_at : Behind (reverse behind_lets) h.between user_let rs h.rest
  parted_at = behind (reverse behind_lets) h.between user_let rs h.rest same_rest

  -- the consumer is the one user of the producer
  pub sole : IsSoleUser q.var behind_lets rs (length (reverse parted_at.tail))
  sole =
      let tail = parted_at.tail in
      let end = avoids_lets q.var tail rs (subst (Avoids q.var) parted_at.end h.foldable.after) in
      record {
        before = reverse tail;
        user = user_let;
        after = reverse h.between;
        whole = sym (reverse-reverse behind_lets) ∙ ap reverse parted_at.lets ∙ reverse-append h.between (user_let ∷ tail) ∙ ap (λ zs. zs ++ reverse h.between) (Rattle.fold_walk.proofs.Learned.reverse_cons user_let tail)
            ∙ append_assoc (reverse tail) (user_let ∷ []) (reverse h.between);
        at = refl;
        used = λ a. not_none h.foldable.selected (none_selected called h.later q (parts_of h.old) h.foldable.selected h.foldable.count h.foldable.folds a.1) h.foldable.used;
        others = (reverse_lets q.var tail end.0, reverse_lets q.var h.between h.foldable.before);
        unreturned = end.1;
      }

  pub sole_is : (sole.user ≡ user_let) × (sole.after ≡ reverse h.between)
  unfolding sole
  sole_is = (refl, refl)

  pub can : CanProduce called k q.op q.parts
  can = record { makes = h.foldable.makes; total = h.foldable.total }

  pub takes : Takes called h.later q h.op (parts_of h.old)
  takes = record { selected = h.foldable.selected; count = h.foldable.count; folds = h.foldable.folds; used = h.foldable.used; few = h.foldable.few; operation = h.foldable.operation }

  pub no_loop_first : BindsNoLoop l → ⊥
  no_loop_first none = none q.var q.site q.frame q.base q.op q.parts same_first

-- ---- the producer of a binding that is known

frame_in : List Grid1 → RightTerm → List Grid1
frame_in d (Parted f b c o ps) = f
frame_in d _ = d

base_in : Base → RightTerm → Base
base_in d (Parted f b c o ps) = b
base_in d _ = d

op_in : PartedOp → RightTerm → PartedOp
op_in d (Parted f b c o ps) = o
op_in d _ = d

parts_in : PartsTerm → RightTerm → PartsTerm
parts_in d (Parted f b c o ps) = ps
parts_in d _ = d

producer_in : Producer → LetTerm → Producer
producer_in d l = record { var = get_or l.targets 0 d.var; site = l.site; frame = frame_in d.frame l.right; base = base_in d.base l.right; op = op_in d.op l.right; parts = parts_in d.parts l.right }

same_producer : (p q : Producer) → loop_of p ≡ loop_of q → p ≡ q
unfolding producer_in frame_in base_in op_in parts_in
same_producer p q e = ap (producer_in p) e

-- the one user of a variable under two names
one_user : (y z : Var) (lets : List LetTerm) (rs : List Var) (m n : ℕ) (g : IsSoleUser y lets rs n) → y ≡ z → (u : IsSoleUser z lets rs m) → (g.user ≡ u.user) × (g.after ≡ u.after)
one_user y z lets rs m n g e =
    subst (λ (w : Var). (u : IsSoleUser w lets rs m) → (g.user ≡ u.user) × (g.after ≡ u.after)) e (λ u. let s = same_user y lets rs n m g u in (s.1, s.2))

module _ (called : ℕ → List (Option (List ℕ))) (function : ℕ) (above : ℕ) (k : Facts) (l : LetTerm) (behind_lets : List LetTerm) (rs : List Var) (x : Var) (loop : PartedLoop) (bound : BindsLoop l x loop) where
  abbrev the_loop : PartedLoop-F the_data the_data-1 the_data-2 the_data-3 the_data-4 the_data-5 the_data-6
  the_loop = out-PartedLoop loop

  abbrev the_parts : PartsTerm
  the_parts = parts_of (map part_term the_loop.parts.items)

  abbrev the_producer : Producer
  the_producer = record { var = x; site = l.site; frame = the_loop.frame; base = the_loop.base; op = the_loop.op; parts = the_parts }

  abbrev Pair : Type 0
  Pair = IsPairAt called above k (Bind l.targets l.site l.right (chain (reverse behind_lets) (Gives rs)))

  who : (h : Pair) → h.producer ≡ the_producer
  who h = same_producer h.producer the_producer (sym (same_first called above k l behind_lets rs h) ∙ bound_let l x loop bound)

  pub no_can : (CanProduce called k the_loop.op the_parts → ⊥) → Pair → ⊥
  no_can not h = not (subst (λ (p : Producer). CanProduce called k p.op p.parts) (who h) (can called above k l behind_lets rs h))

  the_sole : (h : Pair) → (place : ℕ) × IsSoleUser x behind_lets rs place
  the_sole h =
      (length (reverse (parted_at called above k l behind_lets rs h).tail), subst (λ (p : Producer). IsSoleUser p.var behind_lets rs (length (reverse (parted_at called above k l behind_lets rs h).tail))) (who h) (sole called above k l behind_lets rs h))

  pub no_user : ((place : ℕ) → IsSoleUser x behind_lets rs place → ⊥) → Pair → ⊥
  no_user not h = not (the_sole h).0 (the_sole h).1

  module _ (behind_place : ℕ) (user : IsSoleUser x behind_lets rs behind_place) (source : Source) (var : source.var ≡ x) (frame : source.frame.now ≡ the_loop.frame) (parts : source.parts.now ≡ the_loop.parts.items) where
    same_source : producer_of source l.site the_loop.base the_loop.op ≡ the_producer
    same_source = λ i. record { var = var i; site = l.site; frame = frame i; base = the_loop.base; op = the_loop.op; parts = parts_of (map part_term (parts i)) }

    near_source : IsNearProducer the_producer → IsNear source
    near_source near = subst IsNearProducer (sym same_source) near

    no_taking : NoConsumer called function (facts_behind called l behind_lets behind_place k) above source user.user → NoPairAt called above k (Bind l.targets l.site l.right (chain (reverse behind_lets) (Gives rs)))
    no_taking none h near =
        let tail = (parted_at called above k l behind_lets rs h).tail in
        let mine = sole called above k l behind_lets rs h in
        let mine_at = length (reverse tail) in
        let is = sole_is called above k l behind_lets rs h in
        let alike = one_user h.producer.var x behind_lets rs behind_place mine_at mine (ap (λ (p : Producer). p.var) (who h)) user in
        let between : drop (behind_place + 1) behind_lets ≡ reverse h.between = after_is x behind_lets rs behind_place user ∙ sym alike.1 ∙ is.1 in
        let later : facts_behind called l behind_lets behind_place k ≡ h.later =
        (λ i. facts_after called (reverse (between i)) (note_all k l.targets (right_facts called l.right k)))
        ∙ (λ i. facts_after called (reverse-reverse h.between i) (note_all k l.targets (right_facts called l.right k)))
        ∙ (λ i. facts_after called h.between (note_all k (same_first called above k l behind_lets rs h i).targets (right_facts called (same_first called above k l behind_lets rs h i).right k))) ∙ sym h.known in
        let user_is : user.user ≡ loop_let h.consumer h.site h.frame h.base h.op (parts_of h.old) = sym alike.0 ∙ is.0 in
        let cannot : CannotTake called (facts_behind called l behind_lets behind_place k) source h.op h.old =
        none h.consumer h.site h.frame h.base h.op h.old user_is h.foldable.numbers in
        let near_it : IsNear source = near_source (subst IsNearProducer (who h) near) in
        let takes_it : Takes called (facts_behind called l behind_lets behind_place k) (producer_of source l.site the_loop.base the_loop.op) h.op (parts_of h.old) =
        subst (λ (f : Facts). Takes called f (producer_of source l.site the_loop.base the_loop.op) h.op (parts_of h.old)) (sym later)
        (subst (λ (p : Producer). Takes called h.later p h.op (parts_of h.old)) (who h ∙ sym same_source) (takes called above k l behind_lets rs h)) in
        subst (λ (f : Facts). GetsMany called f h.producer h.op h.old) later
        (subst (λ (p : Producer). GetsMany called (facts_behind called l behind_lets behind_place k) p h.op h.old) (same_source ∙ sym (who h)) (cannot l.site the_loop.base the_loop.op near_it takes_it))

    pub no_taker : ((u : LetTerm) → slice_get behind_lets behind_place ≡ Some u → NoConsumer called function (facts_behind called l behind_lets behind_place k) above source u) → NoPairAt called above k (Bind l.targets l.site l.right (chain (reverse behind_lets) (Gives rs)))
    no_taker h = no_taking (h user.user (user_at x behind_lets rs behind_place user))

-- the same by what was found
pub none_taken :
    (called : ℕ → List (Option (List ℕ))) (function : ℕ) (above : ℕ) (k : Facts) (l : LetTerm) (lets : List LetTerm) (rs : List Var) (x : Var) (loop : PartedLoop) (bound : BindsLoop l x loop) (place : ℕ)
    (user : IsSoleUser x lets rs place) (source : Source) (found : Option Let) → found ≡ None →
    IfNone found ((u : LetTerm) → slice_get lets place ≡ Some u → NoConsumer called function (facts_behind called l lets place k) above source u) → source.var ≡ x →
    source.frame.now ≡ (out-PartedLoop loop).frame → source.parts.now ≡ (out-PartedLoop loop).parts.items → NoPairAt called above k (Bind l.targets l.site l.right (chain (reverse lets) (Gives rs)))
none_taken called function above k l lets rs x loop bound place user source found e h var frame parts =
    no_taker called function above k l lets rs x loop bound place user source var frame parts
    (subst (λ (o : Option Let). IfNone o ((u : LetTerm) → slice_get lets place ≡ Some u → NoConsumer called function (facts_behind called l lets place k) above source u)) e h)
