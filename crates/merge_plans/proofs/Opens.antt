-- The first parted loop of a block, and the inner loop of a part.
use Rattle.std.proofs.Common.{◌≡◌, ℕ, Bool, true, false, List, [], ◌∷◌, ◌++◌, All, map, length, refl, sym, ap, ◌∙◌, ◌+◌, ◌<◌, take, drop, get_or, Some, None, Option}
use Rattle.std.proofs.lemmas.List.{drop_more, take-append-drop, map-append}
use Rattle.std.proofs.lemmas.List.Elements.{All-cons, All-head, All-map, All-nil, All-tail}
use Rattle.std.specs.Prelude.{option_map, unwrap_or, if◌then◌else◌}
use Rattle.sac_base.specs.declared.base.Base.{Base}
use Rattle.sac_base.specs.declared.grid.Grid1.{Grid1}
use Rattle.sac_base.specs.declared.site.Site.{Site}
use Rattle.core_ir.specs.declared.tree.Var.{Var}
use Rattle.core_ir.specs.declared.tree.Block.{Block, out-Block}
use Rattle.core_ir.specs.declared.tree.Let.{Let}
use Rattle.core_ir.specs.declared.tree.Right.{Right}
use Rattle.core_ir.specs.declared.tree.Right.TheVariants as right
use Rattle.core_ir.specs.declared.tree.WithLoop.{WithLoop}
use Rattle.core_ir.specs.declared.tree.PartedOp.TheVariants as parted
use Rattle.core_ir.specs.Terms.{BlockTerm, RightTerm, PartsTerm, LetTerm, Gives, Bind, Plain, Parted, chain}
use Rattle.core_ir.specs.declared.tree.PartedLoop.{PartedLoop}
use Rattle.core_ir.specs.View.{block_term, let_term, parted_term, right_term, with_term}
use Rattle.core_ir.proofs.Trees.{block_out, parted_out, with_out}
use Rattle.core_facts.specs.Facts.{Facts}
use Rattle.core_loops.specs.Indices.{IndexFacts}
use Rattle.core_loops.specs.Pairs.{IsNest}
use Rattle.core_forms.proofs.merge.Straight.{StraightLets, StraightRight, around_straight, chain_append}
use Rattle.merge_plans.specs.Openings.{Opened, behind, is_parted, lets_of, opened, results_of}

abbrev nothing_opened : Opened
nothing_opened = record { before = []; targets = []; site = record { line = 0; col = 0 }; right = Plain (Rattle.core_ir.specs.Terms.PlainTerm.Literal []); after = []; results = [] }

pub same_opened : (o q : Opened) → Some o ≡ Some q → o ≡ q
same_opened o q e = ap (λ t. unwrap_or t nothing_opened) e

no_opened : (o : Opened) → None ≡ Some o → ⊥
no_opened o e = absurd (cc)

-- ---- bindings in a row

pub lets_chain : (ls : List LetTerm) (xs : List Var) → lets_of (chain ls (Gives xs)) ≡ ls
lets_chain [] xs = refl
lets_chain (l ∷ ls) xs = ap (λ ms. l ∷ ms) (lets_chain ls xs)

pub results_chain : (ls : List LetTerm) (xs : List Var) → results_of (chain ls (Gives xs)) ≡ xs
results_chain [] xs = refl
results_chain (l ∷ ls) xs = results_chain ls xs

pub block_is : (b : BlockTerm) → b ≡ chain (lets_of b) (Gives (results_of b))
block_is (Gives xs) = refl
block_is (Bind xs s r b) = ap (Bind xs s r) (block_is b)

-- ---- what is opened is the whole

abbrev closed : Opened → BlockTerm
closed o = chain o.before (Bind o.targets o.site o.right (chain o.after (Gives o.results)))

pub whole : (b : BlockTerm) (o : Opened) → opened b ≡ Some o → b ≡ closed o
whole (Gives xs) o e = absurd (no_opened o e)
whole (Bind xs s r b) o e = go (λ q f. whole b q f) (is_parted r) e
  where
    here : Opened
    here = record { before = []; targets = xs; site = s; right = r; after = lets_of b; results = results_of b }

    front : LetTerm
    front = record { targets = xs; site = s; right = r }

    inside : ((q : Opened) → opened b ≡ Some q → b ≡ closed q) → (t : Option Opened) → opened b ≡ t → option_map (behind front) t ≡ Some o → Bind xs s r b ≡ closed o
    inside on None f h = absurd (no_opened o h)
    inside on (Some q) f h = ap (Bind xs s r) (on q f) ∙ ap closed (same_opened (behind front q) o h)

    go : ((q : Opened) → opened b ≡ Some q → b ≡ closed q) → (t : Bool) → (if t then Some here else option_map (behind front) (opened b)) ≡ Some o → Bind xs s r b ≡ closed o
    go on true h = ap (Bind xs s r) (block_is b) ∙ ap closed (same_opened here o h)
    go on false h = inside on (opened b) refl h

-- ---- a loop behind bindings that hold none

abbrev pub NoLoop : LetTerm → Type 0
NoLoop l = is_parted l.right ≡ false

straight_is : (r : RightTerm) → StraightRight r → is_parted r ≡ false
straight_is (Plain p) h = refl
straight_is (RightTerm.If x a b) h = refl
straight_is (RightTerm.Loop f st ps t b s) h = absurd h
straight_is (RightTerm.Call g xs) h = absurd h
straight_is (RightTerm.With o g) h = absurd h
straight_is (Parted f b c o p) h = absurd h

straight_all : (ls : List LetTerm) → StraightLets ls → All NoLoop ls
straight_all [] h = All-nil NoLoop
straight_all (l ∷ ls) h = All-cons NoLoop l ls (straight_is l.right h.0) (straight_all ls h.1)

pub opens : (before : List LetTerm) (xs : List Var) (s : Site) (r : RightTerm) (after : List LetTerm) (rs : List Var) → All NoLoop before → is_parted r ≡ true →
    opened (chain before (Bind xs s r (chain after (Gives rs)))) ≡ Some (record { before = before; targets = xs; site = s; right = r; after = after; results = rs })
opens [] xs s r after rs h p =
    (λ i. if p i then Some (record { before = []; targets = xs; site = s; right = r; after = lets_chain after rs i; results = results_chain after rs i })
    else option_map (behind (record { targets = xs; site = s; right = r })) (opened (chain after (Gives rs))))
opens (l ∷ ls) xs s r after rs h p =
    let rest = chain ls (Bind xs s r (chain after (Gives rs))) in
    (λ i. if All-head NoLoop l ls h i then Some (record { before = []; targets = l.targets; site = l.site; right = l.right; after = lets_of rest; results = results_of rest })
    else option_map (behind l) (opens ls xs s r after rs (All-tail NoLoop l ls h) p i))

pub opens_none : (ls : List LetTerm) (rs : List Var) → All NoLoop ls → opened (chain ls (Gives rs)) ≡ None
opens_none [] rs h = refl
opens_none (l ∷ ls) rs h =
    let rest = chain ls (Gives rs) in
    (λ i. if All-head NoLoop l ls h i then Some (record { before = []; targets = l.targets; site = l.site; right = l.right; after = lets_of rest; results = results_of rest })
    else option_map (behind l) (opens_none ls rs (All-tail NoLoop l ls h) i))

-- the inner loop of a part is the first of its body
pub nest_opens :
    (called : ℕ → List (Option (List ℕ))) (k : Facts) (grid : List Grid1) (m : IndexFacts) (frame : List Grid1) (base : Base) (b : BlockTerm) (inner : PartsTerm) →
    (w : IsNest called k grid m frame base b inner) →
    opened b ≡ Some (record { before = w.before; targets = w.z ∷ []; site = w.site; right = Parted frame base [] parted.Genarray inner; after = w.after; results = w.z ∷ [] })
nest_opens called k grid m frame base b inner w =
    let right = Parted frame base [] parted.Genarray inner in
    let st = around_straight called grid w.before w.after (w.z ∷ []) (w.z ∷ []) w.site right k m w.total in
    ap opened w.whole ∙ opens w.before (w.z ∷ []) w.site right w.after (w.z ∷ []) (straight_all w.before st.0) refl

-- ---- a search through the bindings of a body

abbrev pub IsLoopless : Let → Type 0
IsLoopless l = is_parted (right_term l.right) ≡ false

split_at : (ls : List Let) (n : ℕ) (d : Let) (b : BlockTerm) → n < length ls →
    chain (map let_term ls) b ≡ chain (map let_term (take n ls)) (chain (let_term (get_or ls n d) ∷ map let_term (drop (n + 1) ls)) b)
split_at ls n d b h =
    ap (λ xs. chain (map let_term xs) b) (sym (take-append-drop n ls) ∙ ap (λ xs. take n ls ++ xs) (drop_more ls n d h))
    ∙ ap (λ xs. chain xs b) (map-append let_term (take n ls) (get_or ls n d ∷ drop (n + 1) ls))
    ∙ chain_append (map let_term (take n ls)) (let_term (get_or ls n d) ∷ map let_term (drop (n + 1) ls)) b

-- the first parted loop is found
pub found_at : (ls : List Let) (rs : List Var) (n : ℕ) (l : Let) → n < length ls → l ≡ get_or ls n l → is_parted (right_term l.right) ≡ true → All IsLoopless (take n ls) →
    opened (chain (map let_term ls) (Gives rs)) ≡ Some (record {
      before = map let_term (take n ls);
      targets = l.targets.items;
      site = l.site;
      right = right_term l.right;
      after = map let_term (drop (n + 1) ls);
      results = rs;
    })
found_at ls rs n l h e p none =
    ap opened (split_at ls n l (Gives rs) h ∙ ap (λ x. chain (map let_term (take n ls)) (chain (let_term x ∷ map let_term (drop (n + 1) ls)) (Gives rs))) (sym e))
    ∙ opens (map let_term (take n ls)) l.targets.items l.site (right_term l.right) (map let_term (drop (n + 1) ls)) rs (All-map NoLoop let_term (take n ls) none) p

-- there is none
pub found_none : (ls : List Let) (rs : List Var) → All IsLoopless ls → opened (chain (map let_term ls) (Gives rs)) ≡ None
found_none ls rs none = opens_none (map let_term ls) rs (All-map NoLoop let_term ls none)

pub loop_is : (p : PartedLoop) → is_parted (parted_term p) ≡ true
loop_is p = ap is_parted (parted_out p)

-- any other right side is none
pub not_parted : (r : Right) → ((p : PartedLoop) → r ≡ right.Parted p → ⊥) → is_parted (right_term r) ≡ false
not_parted (right.Const a) h = refl
not_parted (right.Copy x) h = refl
not_parted (right.Unary op x) h = refl
not_parted (right.Binary op x y) h = refl
not_parted (right.Literal xs) h = refl
not_parted (right.Dim x) h = refl
not_parted (right.ShapeOf x) h = refl
not_parted (right.Reshape x y) h = refl
not_parted (right.Select x y) h = refl
not_parted (right.Replace x y z) h = refl
not_parted (right.If c a b) h = refl
not_parted (right.Loop first start params test body site) h = refl
not_parted (right.Call group args) h = refl
not_parted (right.With w) h = with_is w
  where
    with_is : (w : WithLoop) → is_parted (with_term w) ≡ false
    with_is w = ap is_parted (with_out w)
not_parted (right.Parted p) h = absurd (h p refl)
not_parted (right.Always k) h = refl
not_parted (right.Check x t) h = refl

-- the bindings of a body and its results, where they lie in memory
pub body_found :
    (b : Block) (ls : List Let) (rs : List Var) (n : ℕ) (l : Let) (r : Right) (ts : List Var) (s : Site) (after : List Let) → ls ≡ (out-Block b).lets.items → rs ≡ (out-Block b).results.items →
    n < length ls → l ≡ get_or ls n l → ts ≡ l.targets.items → s ≡ l.site → r ≡ l.right → after ≡ drop (n + 1) ls → is_parted (right_term r) ≡ true → All IsLoopless (take n ls) →
    Some (record { before = map let_term (take n ls); targets = ts; site = s; right = right_term r; after = map let_term after; results = rs }) ≡ opened (block_term b)
body_found b ls rs n l r ts s after le re h e te se q ae p none =
    (λ i. Some (record { before = map let_term (take n ls); targets = te i; site = se i; right = right_term (q i); after = map let_term (ae i); results = rs }))
    ∙ sym (found_at ls rs n l h e (ap (λ x. is_parted (right_term x)) (sym q) ∙ p) none) ∙ sym (ap opened (block_out b ∙ (λ i. chain (map let_term (sym le i)) (Gives (sym re i)))))
