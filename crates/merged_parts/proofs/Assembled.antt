-- The part for one inner part, and the parts for all, one after another.
use Rattle.std.proofs.Common.{◌≡◌, ℕ, zero, suc, ◌+◌, ◌<◌, ◌≤◌, List, [], ◌∷◌, ◌++◌, map, length, take, drop, get_or, All, refl, ap, sym, subst, ◌∙◌, append_assoc, append-nil, arith, Option, Some, None}
use Rattle.std.specs.Prelude.{option_map, unwrap_or}
use Rattle.std.proofs.lemmas.List.{drop_all, drop_more, length-append, length-map, map-append, take-append-drop}
use Rattle.std.proofs.lemmas.List.Elements.{All-head, All-map, All-tail}
use Rattle.sac_base.specs.declared.grid.Grid1.{Grid1}
use Rattle.sac_base.specs.declared.site.Site.{Site}
use Rattle.core_ir.specs.declared.tree.CorePart.{CorePart, CorePart-F, out-CorePart, roll-CorePart, out-roll-CorePart}
use Rattle.core_ir.specs.declared.tree.PartedLoop.{PartedLoop, out-PartedLoop}
use Rattle.core_ir.specs.declared.tree.Right.TheBlock.{the_data, the_data-1, the_data-2, the_data-3, the_data-4, the_data-5, the_data-6}
use Rattle.core_ir.specs.declared.tree.Var.{Var}
use Rattle.core_ir.specs.Binders.{bound_in, bound_in_parts}
use Rattle.core_ir.specs.Terms.{PlainTerm, BlockTerm, LetTerm, PartTerm, PartHead, Plain, chain, parts_of}
use Rattle.core_ir.specs.View.{block_term, part_term, parted_term}
use Rattle.core_subst.specs.copy.Mapped.{mapped}
use Rattle.core_subst.proofs.copy.Renaming.{bound_mapped}
use Rattle.core_subst.specs.Names.{variable}
use Rattle.core_forms.specs.merge.Built.{picks}
use Rattle.core_forms.proofs.merge.Straight.{chain_append}
use Rattle.merge_plans.specs.Inners.{parts_in}
use Rattle.merge_plans.specs.Mergeable.{FitBehind}
use Rattle.merge_plans.specs.Openings.{Opened, lets_of, opened}
use Rattle.merge_plans.proofs.Opens.{lets_chain}
use Rattle.merge_plans.proofs.Parts.{each_fits, part_out, parts_are}
use Rattle.parted_bodies.specs.Making.{binds_of}
use Rattle.parted_bodies.specs.declared.names.Progress.{Progress}
use Rattle.merged_parts.specs.Merging.{every_other, merged_all, merged_at, merged_inner, merged_names, merged_opened, merged_part, part_list, GridFits, OpenedFits, PartFits}
use Rattle.merged_parts.specs.Splitting.{Split, split_of}

abbrev shown_part : CorePart-F the_data the_data-1 the_data-2 the_data-3 the_data-4 the_data-5 the_data-6 → PartTerm
shown_part x = record { head = record { grid = x.grid; index = x.index; site = x.site }; body = block_term x.body }

part_roll : (x : CorePart-F the_data the_data-1 the_data-2 the_data-3 the_data-4 the_data-5 the_data-6) → part_term (roll-CorePart x) ≡ shown_part x
part_roll x = part_out (roll-CorePart x) ∙ ap shown_part (out-roll-CorePart x)

abbrev row_let : Site → Var → List Var → LetTerm
row_let s x xs = record { targets = x ∷ []; site = s; right = Plain (PlainTerm.Literal xs) }

binds_both : (xs ys : List PartTerm) → binds_of (xs ++ ys) ≡ binds_of xs + binds_of ys
binds_both [] ys = let e : binds_of ys ≡ 0 + binds_of ys = omega arith in e
binds_both (x ∷ xs) ys =
    let b = bound_in x.body in
    let both = length-append b (bound_in_parts (parts_of (xs ++ ys))) in
    let one = length-append b (bound_in_parts (parts_of xs)) in
    let rest = binds_both xs ys in
    omega (arith, both, one, rest)

-- ---- one part

module _ (grid : List Grid1) (outer : Var) (lets : List LetTerm) (g : PartTerm) (n : ℕ) where
  abbrev axes_of : ℕ
  axes_of = length grid + length g.head.grid

  abbrev vars_of : List Var
  vars_of = every_other axes_of (suc (suc n))

  abbrev names_of : Var → Var
  names_of = merged_names outer g.head.index (chain lets g.body) (suc n + (axes_of + axes_of))

  body_made :
      (own : Var) (n1 a axes m : ℕ) (made all : List LetTerm) (vars : List Var) (f : Var → Var) (o l : Var) → own ≡ variable n → n1 ≡ suc n → a ≡ length grid → axes ≡ axes_of →
      made ≡ picks g.head.site own 0 (every_other axes (suc n1)) (every_other axes n1) → vars ≡ every_other axes (suc n1) → m ≡ n1 + (axes + axes) →
      ((z : Var) → f z ≡ merged_names outer g.head.index (chain lets g.body) m z) → o ≡ f outer → l ≡ f g.head.index →
      all ≡ made ++ (row_let g.head.site o (take a vars) ∷ row_let g.head.site l (drop a vars) ∷ []) →
      chain all (mapped f (chain lets g.body)) ≡ (merged_at grid outer lets g n).body
  body_made own n1 a axes m made all vars f o l e1 e2 e3 e4 e5 e6 e7 e8 e9 e10 e11 =
      let s = g.head.site in
      let number : m ≡ suc n + (axes_of + axes_of) = e7 ∙ (λ i. e2 i + (e4 i + e4 i)) in
      let same : f ≡ names_of = λ i z. (e8 z ∙ (λ j. merged_names outer g.head.index (chain lets g.body) (number j) z)) i in
      let xs : vars ≡ vars_of = e6 ∙ (λ i. every_other (e4 i) (suc (e2 i))) in
      let first : o ≡ names_of outer = e9 ∙ (λ i. same i outer) in
      let second : l ≡ names_of g.head.index = e10 ∙ (λ i. same i g.head.index) in
      let picked : made ≡ picks s (variable n) 0 (take (length grid) vars_of ++ drop (length grid) vars_of) (every_other axes_of (suc n)) =
      e5 ∙ (λ i. picks s (e1 i) 0 (every_other (e4 i) (suc (e2 i))) (every_other (e4 i) (e2 i))) ∙ (λ i. picks s (variable n) 0 (sym (take-append-drop (length grid) vars_of) i) (every_other axes_of (suc n))) in
      let whole = e11 ∙ (λ i. picked i ++ (row_let s (first i) (take (e3 i) (xs i)) ∷ row_let s (second i) (drop (e3 i) (xs i)) ∷ [])) in
      λ i. chain (whole i) (mapped (same i) (chain lets g.body))

-- ---- how many variables it binds

every_long : (k n : ℕ) → length (every_other k n) ≡ k
every_long zero n = refl
every_long (suc k) n = ap suc (every_long k (suc (suc n)))

picks_bind : (s : Site) (u : Var) (j : ℕ) (xs cs : List Var) (b : BlockTerm) → length cs ≡ length xs → length (bound_in (chain (picks s u j xs cs) b)) ≡ (length xs + length xs) + length (bound_in b)
picks_bind s u j [] cs b h = let e : length (bound_in b) ≡ (0 + 0) + length (bound_in b) = omega arith in e
picks_bind s u j (x ∷ xs) [] b h = absurd (omega (arith, h))
picks_bind s u j (x ∷ xs) (c ∷ cs) b h = let rest = picks_bind s u (suc j) xs cs b (omega (arith, h)) in omega (arith, rest)

pub at_binds : (grid : List Grid1) (outer : Var) (lets : List LetTerm) (g : PartTerm) (n : ℕ) →
    binds_of (merged_at grid outer lets g n ∷ []) ≡ suc (((length grid + length g.head.grid) + (length grid + length g.head.grid)) + suc (suc (length (bound_in (chain lets g.body)))))
at_binds grid outer lets g n =
    let axes = length grid + length g.head.grid in
    let xs = every_other axes (suc (suc n)) in
    let s = g.head.site in
    let u = variable n in
    let f = merged_names outer g.head.index (chain lets g.body) (suc n + (axes + axes)) in
    let b = mapped f (chain lets g.body) in
    let rows = row_let s (f outer) (take (length grid) xs) ∷ row_let s (f g.head.index) (drop (length grid) xs) ∷ [] in
    let both = take (length grid) xs ++ drop (length grid) xs in
    let cs = every_other axes (suc n) in
    let all : both ≡ xs = take-append-drop (length grid) xs in
    let wide : length both ≡ axes = ap length all ∙ every_long axes (suc (suc n)) in
    let same : length cs ≡ length both = every_long axes (suc n) ∙ sym wide in
    let one : bound_in (chain (picks s u 0 both cs ++ rows) b) ≡ bound_in (chain (picks s u 0 both cs) (chain rows b)) = ap bound_in (chain_append (picks s u 0 both cs) rows b) in
    let two = picks_bind s u 0 both cs (chain rows b) same in
    let three : length (bound_in b) ≡ length (bound_in (chain lets g.body)) = ap length (bound_mapped f (chain lets g.body)) ∙ length-map (bound_in (chain lets g.body)) f in
    let four = ap length (append-nil (bound_in (chain (picks s u 0 both cs ++ rows) b))) in
    let five = ap length one in
    omega (arith, wide, two, three, four, five)

-- ---- the part itself

pub part_made :
    (grid joined : List Grid1) (outer : Var) (lets : List LetTerm) (p : CorePart) (n : ℕ) (own : Var) (n1 a axes m : ℕ) (made all : List LetTerm) (vars : List Var) (f : Var → Var) (o l : Var)
    (x : CorePart-F the_data the_data-1 the_data-2 the_data-3 the_data-4 the_data-5 the_data-6) → own ≡ variable n → n1 ≡ suc n → a ≡ length grid → axes ≡ length grid + length (out-CorePart p).grid →
    made ≡ picks (out-CorePart p).site own 0 (every_other axes (suc n1)) (every_other axes n1) → vars ≡ every_other axes (suc n1) → m ≡ n1 + (axes + axes) →
    ((z : Var) → f z ≡ merged_names outer (out-CorePart p).index (chain lets (block_term (out-CorePart p).body)) m z) → o ≡ f outer → l ≡ f (out-CorePart p).index →
    all ≡ made ++ (row_let (out-CorePart p).site o (take a vars) ∷ row_let (out-CorePart p).site l (drop a vars) ∷ []) → joined ≡ grid ++ (out-CorePart p).grid → x.grid ≡ joined → x.index ≡ own →
    x.site ≡ (out-CorePart p).site → block_term x.body ≡ chain all (mapped f (chain lets (block_term (out-CorePart p).body))) → part_term (roll-CorePart x) ≡ merged_at grid outer lets (part_term p) n
part_made grid joined outer lets p n own n1 a axes m made all vars f o l x e1 e2 e3 e4 e5 e6 e7 e8 e9 e10 e11 j xg xi xs xb =
    let g = shown_part (out-CorePart p) in
    let body = body_made grid outer lets g n own n1 a axes m made all vars f o l e1 e2 e3 e4 e5 e6 e7 e8 e9 e10 e11 in
    part_roll x ∙ (λ i. record { head = record { grid = (xg ∙ j) i; index = (xi ∙ e1) i; site = xs i }; body = (xb ∙ body) i }) ∙ ap (λ (t : PartTerm). merged_at grid outer lets t n) (sym (part_out p))

pub grid_fits : (grid : List Grid1) (p : CorePart) → GridFits grid (part_term p) → length grid + length (out-CorePart p).grid ≤ 8
grid_fits grid p h = subst (λ (t : PartTerm). length grid + length t.head.grid ≤ 8) (part_out p) h

pub next_made : (grid : List Grid1) (outer : Var) (lets : List LetTerm) (p : CorePart) (n n1 axes n2 n3 : ℕ) → n1 ≡ suc n → axes ≡ length grid + length (out-CorePart p).grid → n2 ≡ n1 + (axes + axes) →
    n3 ≡ n2 + suc (suc (length (bound_in (chain lets (block_term (out-CorePart p).body))))) → n3 ≡ n + binds_of (merged_at grid outer lets (part_term p) n ∷ [])
next_made grid outer lets p n n1 axes n2 n3 e1 e2 e3 e4 =
    let binds = at_binds grid outer lets (shown_part (out-CorePart p)) n in
    let here : n3 ≡ n + binds_of (merged_at grid outer lets (shown_part (out-CorePart p)) n ∷ []) = omega (arith, e1, e2, e3, e4, binds) in
    here ∙ ap (λ (t : PartTerm). n + binds_of (merged_at grid outer lets t n ∷ [])) (sym (part_out p))

pub vars_reach : (grid : List Grid1) (p : CorePart) (a axes n : ℕ) (vars : List Var) → a ≡ length grid → axes ≡ length grid + length (out-CorePart p).grid → vars ≡ every_other axes n → a ≤ length vars
vars_reach grid p a axes n vars e f g = let l : length vars ≡ axes = ap length g ∙ every_long axes n in omega (arith, e, f, l)

-- ---- the parts for all parts of an inner loop

rest_is : (parts : List CorePart) (i : ℕ) (p : CorePart) → i < length parts → p ≡ get_or parts i p → map part_term (drop i parts) ≡ part_term p ∷ map part_term (drop (i + 1) parts)
rest_is parts i p h e = ap (map part_term) (drop_more parts i p h) ∙ (λ j. part_term (sym e j) ∷ map part_term (drop (i + 1) parts))

rest_none : (parts : List CorePart) (i : ℕ) → length parts ≤ i → map part_term (drop i parts) ≡ []
rest_none parts i h = ap (map part_term) (drop_all i parts h)

pub this_fits : (grid : List Grid1) (parts : List CorePart) (i : ℕ) (p : CorePart) → i < length parts → p ≡ get_or parts i p → All (GridFits grid) (map part_term parts) → GridFits grid (part_term p)
this_fits grid parts i p h e all = subst (GridFits grid) (at parts i h ∙ ap part_term (sym e)) (all i (part_term p) (subst (λ k. i < k) (sym (length-map parts part_term)) h))
  where
    at : (parts : List CorePart) (i : ℕ) → i < length parts → get_or (map part_term parts) i (part_term p) ≡ part_term (get_or parts i p)
    at [] i h = absurd (omega (arith, h))
    at (x ∷ xs) zero h = refl
    at (x ∷ xs) (suc i) h = at xs i (omega (arith, h))

module _ (grid : List Grid1) (outer : Var) (lets : List LetTerm) where
  pub inner_turn :
      (inner : List CorePart) (i : ℕ) (p new : CorePart) (ps ps' : List CorePart) (n m : ℕ) (whole : List PartTerm) → i < length inner → p ≡ get_or inner i p →
      map part_term ps ++ merged_inner grid outer lets (map part_term (drop i inner)) n ≡ whole → part_term new ≡ merged_at grid outer lets (part_term p) n → ps' ≡ ps ++ (new ∷ []) →
      m ≡ n + binds_of (merged_at grid outer lets (part_term p) n ∷ []) → map part_term ps' ++ merged_inner grid outer lets (map part_term (drop (i + 1) inner)) m ≡ whole
  inner_turn inner i p new ps ps' n m whole h e w f d c =
      let rest = map part_term (drop (i + 1) inner) in
      (λ j. map part_term (d j) ++ merged_inner grid outer lets rest (c j))
      ∙ ap (λ l. l ++ merged_inner grid outer lets rest (n + binds_of (merged_at grid outer lets (part_term p) n ∷ []))) (map-append part_term ps (new ∷ []))
      ∙ append_assoc (map part_term ps) (part_term new ∷ []) (merged_inner grid outer lets rest (n + binds_of (merged_at grid outer lets (part_term p) n ∷ [])))
      ∙ (λ j. map part_term ps ++ (f j ∷ merged_inner grid outer lets rest (n + binds_of (merged_at grid outer lets (part_term p) n ∷ []))))
      ∙ (λ j. map part_term ps ++ merged_inner grid outer lets (sym (rest_is inner i p h e) j) n)
      ∙ w

  pub inner_next :
      (inner : List CorePart) (i : ℕ) (p : CorePart) (q r whole : Progress) → i < length inner → p ≡ get_or inner i p →
      record q { next = q.next + binds_of (merged_inner grid outer lets (map part_term (drop i inner)) q.next) } ≡ whole →
      r ≡ record q { next = q.next + binds_of (merged_at grid outer lets (part_term p) q.next ∷ []) } →
      record r { next = r.next + binds_of (merged_inner grid outer lets (map part_term (drop (i + 1) inner)) r.next) } ≡ whole
  inner_next inner i p q r whole h e w c =
      let rest = map part_term (drop (i + 1) inner) in
      let first = merged_at grid outer lets (part_term p) q.next in
      let n = q.next + binds_of (first ∷ []) in
      let others = merged_inner grid outer lets rest n in
      let sum = binds_both (first ∷ []) others in
      let same : n + binds_of others ≡ q.next + binds_of (first ∷ others) = omega (arith, sum) in
      (λ j. record (c j) { next = (c j).next + binds_of (merged_inner grid outer lets rest (c j).next) }) ∙ (λ j. record q { next = same j })
      ∙ (λ j. record q { next = q.next + binds_of (merged_inner grid outer lets (sym (rest_is inner i p h e) j) q.next) }) ∙ w

  pub inner_done : (inner ps : List CorePart) (i n : ℕ) (whole : List PartTerm) → length inner ≤ i → map part_term ps ++ merged_inner grid outer lets (map part_term (drop i inner)) n ≡ whole → map part_term ps ≡ whole
  inner_done inner ps i n whole h w = sym (append-nil (map part_term ps)) ∙ (λ j. map part_term ps ++ merged_inner grid outer lets (sym (rest_none inner i h) j) n) ∙ w

  pub inner_next_done : (inner : List CorePart) (i : ℕ) (q whole : Progress) → length inner ≤ i →
      record q { next = q.next + binds_of (merged_inner grid outer lets (map part_term (drop i inner)) q.next) } ≡ whole → q ≡ whole
  inner_next_done inner i q whole h w =
      let none : q.next ≡ q.next + 0 = omega arith in
      (λ j. record q { next = none j }) ∙ (λ j. record q { next = q.next + binds_of (merged_inner grid outer lets (sym (rest_none inner i h) j) q.next) }) ∙ w

-- ---- the parts for one outer part

part_list_is : (ps : List PartTerm) → part_list (parts_of ps) ≡ ps
part_list_is [] = refl
part_list_is (p ∷ ps) = ap (λ l. p ∷ l) (part_list_is ps)

same_split : (s t : Split) → Some s ≡ Some t → s ≡ t
same_split s t e = ap (λ o. unwrap_or o s) e

opened_made : (h : PartHead) (t : Option Opened) (s : Split) (n : ℕ) → option_map split_of t ≡ Some s → merged_opened h t n ≡ merged_inner h.grid h.index (lets_of s.around) (part_list (parts_in s.inner)) n
opened_made h None s n e = absurd (cc)
opened_made h (Some o) s n e =
    let q = same_split (split_of o) s e in
    (λ i. merged_inner h.grid h.index (sym (lets_chain (o.before ++ o.after) []) i) (part_list (parts_in o.right)) n)
    ∙ (λ i. merged_inner h.grid h.index (lets_of (q i).around) (part_list (parts_in (q i).inner)) n)

opened_fits : (grid : List Grid1) (t : Option Opened) (s : Split) → option_map split_of t ≡ Some s → OpenedFits grid t → FitBehind grid (parts_in s.inner)
opened_fits grid None s e h = absurd (cc)
opened_fits grid (Some o) s e h = subst (λ (x : Split). FitBehind grid (parts_in x.inner)) (same_split (split_of o) s e) h

opened_none : (h : PartHead) (t : Option Opened) (n : ℕ) → None ≡ option_map split_of t → merged_opened h t n ≡ []
opened_none h None n e = refl
opened_none h (Some o) n e = absurd (cc)

inner_parts : (l : PartedLoop) (ps : List CorePart) → ps ≡ (out-PartedLoop l).parts.items → part_list (parts_in (parted_term l)) ≡ map part_term ps
inner_parts l ps e = ap part_list (parts_are l) ∙ part_list_is (map part_term (out-PartedLoop l).parts.items) ∙ ap (map part_term) (sym e)

pub merged_is :
    (p : CorePart) (s : Split) (l : PartedLoop) (ps : List CorePart) (n : ℕ) → option_map split_of (opened (block_term (out-CorePart p).body)) ≡ Some s → s.inner ≡ parted_term l →
    ps ≡ (out-PartedLoop l).parts.items → merged_inner (out-CorePart p).grid (out-CorePart p).index (lets_of s.around) (map part_term ps) n ≡ merged_part (part_term p) n
merged_is p s l ps n e f q =
    let x = out-CorePart p in
    (λ i. merged_inner x.grid x.index (lets_of s.around) ((sym (inner_parts l ps q) ∙ ap (λ r. part_list (parts_in r)) (sym f)) i) n)
    ∙ sym (opened_made (shown_part x).head (opened (block_term x.body)) s n e) ∙ ap (λ (t : PartTerm). merged_part t n) (sym (part_out p))

pub merged_none : (p : CorePart) (n : ℕ) → None ≡ option_map split_of (opened (block_term (out-CorePart p).body)) → merged_part (part_term p) n ≡ []
merged_none p n e = ap (λ (t : PartTerm). merged_part t n) (part_out p) ∙ opened_none (shown_part (out-CorePart p)).head (opened (block_term (out-CorePart p).body)) n e

pub inner_fits :
    (p : CorePart) (s : Split) (l : PartedLoop) (ps : List CorePart) → option_map split_of (opened (block_term (out-CorePart p).body)) ≡ Some s → s.inner ≡ parted_term l →
    ps ≡ (out-PartedLoop l).parts.items → PartFits (part_term p) → All (GridFits (out-CorePart p).grid) (map part_term ps)
inner_fits p s l ps e f q h =
    let x = out-CorePart p in
    let fits = opened_fits x.grid (opened (block_term x.body)) s e (subst PartFits (part_out p) h) in
    All-map (GridFits x.grid) part_term ps (each_fits x.grid l ps q (subst (λ r. FitBehind x.grid (parts_in r)) f fits))

-- ---- the parts for all outer parts

pub all_turn :
    (before rest ps ps' : List CorePart) (p : CorePart) (n m : ℕ) (whole : List PartTerm) → before ≡ p ∷ rest → map part_term ps ++ merged_all (map part_term before) n ≡ whole →
    map part_term ps' ≡ map part_term ps ++ merged_part (part_term p) n → m ≡ n + binds_of (merged_part (part_term p) n) → map part_term ps' ++ merged_all (map part_term rest) m ≡ whole
all_turn before rest ps ps' p n m whole b w d c =
    (λ i. d i ++ merged_all (map part_term rest) (c i)) ∙ append_assoc (map part_term ps) (merged_part (part_term p) n) (merged_all (map part_term rest) (n + binds_of (merged_part (part_term p) n)))
    ∙ (λ i. map part_term ps ++ merged_all (map part_term (sym b i)) n) ∙ w

pub all_next :
    (before rest : List CorePart) (p : CorePart) (q r whole : Progress) → before ≡ p ∷ rest → record q { next = q.next + binds_of (merged_all (map part_term before) q.next) } ≡ whole →
    r ≡ record q { next = q.next + binds_of (merged_part (part_term p) q.next) } → record r { next = r.next + binds_of (merged_all (map part_term rest) r.next) } ≡ whole
all_next before rest p q r whole b w c =
    let first = merged_part (part_term p) q.next in
    let n = q.next + binds_of first in
    let others = merged_all (map part_term rest) n in
    let sum = binds_both first others in
    let same : n + binds_of others ≡ q.next + binds_of (first ++ others) = omega (arith, sum) in
    (λ j. record (c j) { next = (c j).next + binds_of (merged_all (map part_term rest) (c j).next) }) ∙ (λ j. record q { next = same j })
    ∙ (λ j. record q { next = q.next + binds_of (merged_all (map part_term (sym b j)) q.next) }) ∙ w

pub none_left : {A : Type 0} (n : ℕ) (xs : List A) → n ≡ 0 → n ≡ length xs → xs ≡ []
none_left n [] e f = refl
none_left n (x ∷ xs) e f = absurd (omega (arith, e, f))

pub all_done : (ps rest first given : List CorePart) (n m : ℕ) → rest ≡ [] → first ≡ given → map part_term ps ++ merged_all (map part_term rest) n ≡ merged_all (map part_term first) m → map part_term ps ≡ merged_all (map part_term given) m
all_done ps rest first given n m e g w = sym (append-nil (map part_term ps)) ∙ (λ i. map part_term ps ++ merged_all (map part_term (sym e i)) n) ∙ w ∙ (λ i. merged_all (map part_term (g i)) m)

pub all_next_done : (q p : Progress) (rest first given : List CorePart) → rest ≡ [] → first ≡ given →
    record q { next = q.next + binds_of (merged_all (map part_term rest) q.next) } ≡ record p { next = p.next + binds_of (merged_all (map part_term first) p.next) } →
    q ≡ record p { next = p.next + binds_of (merged_all (map part_term given) p.next) }
all_next_done q p rest first given e g w =
    let none : q.next ≡ q.next + 0 = omega arith in
    (λ j. record q { next = none j }) ∙ (λ j. record q { next = q.next + binds_of (merged_all (map part_term (sym e j)) q.next) }) ∙ w ∙ (λ j. record p { next = p.next + binds_of (merged_all (map part_term (g j)) p.next) })

pub first_fits : (before rest : List CorePart) (p : CorePart) → before ≡ p ∷ rest → All PartFits (map part_term before) → PartFits (part_term p)
first_fits before rest p e h = All-head PartFits (part_term p) (map part_term rest) (subst (λ xs. All PartFits (map part_term xs)) e h)

pub rest_fits : (before rest : List CorePart) (p : CorePart) → before ≡ p ∷ rest → All PartFits (map part_term before) → All PartFits (map part_term rest)
rest_fits before rest p e h = All-tail PartFits (part_term p) (map part_term rest) (subst (λ xs. All PartFits (map part_term xs)) e h)

-- only the next number is another
pub number_alone : (p q r s : Progress) (a b d n : ℕ) → q ≡ record p { next = a } → r ≡ record q { next = b } → s ≡ record r { next = d } → s.next ≡ n → s ≡ record p { next = n }
number_alone p q r s a b d n e f g h =
    let kept = ap (λ (x : Progress). x.replaced) g ∙ ap (λ (x : Progress). x.replaced) f ∙ ap (λ (x : Progress). x.replaced) e in
    λ i. record { next = h i; replaced = kept i }
