-- Components of an index, one after another, and the names of a copy.
use Rattle.std.proofs.Common.{◌≡◌, ℕ, suc, ◌+◌, ◌-◌, ◌<◌, ◌≤◌, List, [], ◌∷◌, ◌++◌, map, length, refl, ap, sym, ◌∙◌, append_assoc, append-nil, arith, pos}
use Rattle.std.proofs.lemmas.List.{map-append}
use Rattle.sac_base.specs.declared.base.Base.TheVariants.{Int}
use Rattle.sac_base.specs.declared.site.Site.{Site}
use Rattle.sac_base.specs.Arrays.{scalar}
use Rattle.core_ir.specs.declared.tree.Let.{Let}
use Rattle.core_ir.specs.declared.tree.Var.{Var}
use Rattle.core_ir.specs.Binders.{bound_in, bound_in_right}
use Rattle.core_ir.specs.Terms.{PlainTerm, BlockTerm, RightTerm, LetTerm, Plain, Gives, Bind, chain}
use Rattle.core_ir.specs.View.{let_term}
use Rattle.core_subst.specs.Names.{variable}
use Rattle.core_forms.specs.merge.Built.{picks}
use Rattle.merge_plans.specs.Openings.{lets_of}
use Rattle.merged_parts.specs.Merging.{every_other, merged_names}
use Rattle.parted_bodies.specs.declared.names.Progress.{Progress}
use Rattle.parted_bodies.specs.Numbering.{numbered}

abbrev bound_let : Site → Var → RightTerm → LetTerm
bound_let s x r = record { targets = x ∷ []; site = s; right = r }

abbrev select_let : Site → Var → Var → Var → LetTerm
select_let s y i x = record { targets = y ∷ []; site = s; right = Plain (PlainTerm.Select i x) }

-- ---- a component more

one_less : (axes k : ℕ) → k < axes → axes - k ≡ suc (axes - (k + 1))
one_less axes k h = omega arith

pushed_two : (lets lets1 lets2 : List Let) (l m : Let) → lets1 ≡ lets ++ (l ∷ []) → lets2 ≡ lets1 ++ (m ∷ []) → map let_term lets2 ≡ map let_term lets ++ (let_term l ∷ let_term m ∷ [])
pushed_two lets lets1 lets2 l m e f =
    (λ j. map let_term (f j)) ∙ (λ j. map let_term (e j ++ (m ∷ []))) ∙ ap (map let_term) (append_assoc lets (l ∷ []) (m ∷ [])) ∙ map-append let_term lets (l ∷ m ∷ [])

pub lets_turn :
    (s : Site) (i : Var) (axes k n n2 : ℕ) (lets lets1 lets2 : List Let) (l m : Let) (r : RightTerm) (x y : Var) (whole : List LetTerm) → k < axes →
    map let_term lets ++ picks s i k (every_other (axes - k) (suc n)) (every_other (axes - k) n) ≡ whole → lets1 ≡ lets ++ (l ∷ []) → lets2 ≡ lets1 ++ (m ∷ []) → let_term l ≡ bound_let s x r →
    let_term m ≡ select_let s y i x → r ≡ Plain (PlainTerm.Const (scalar Int (pos k))) → x ≡ variable n → y ≡ variable (suc n) → n2 ≡ suc (suc n) →
    map let_term lets2 ++ picks s i (k + 1) (every_other (axes - (k + 1)) (suc n2)) (every_other (axes - (k + 1)) n2) ≡ whole
lets_turn s i axes k n n2 lets lets1 lets2 l m r x y whole h p e f lt mt rk xn yn n2e =
    let next : k + 1 ≡ suc k = omega arith in
    let first : let_term l ≡ bound_let s (variable n) (Plain (PlainTerm.Const (scalar Int (pos k)))) = lt ∙ (λ j. bound_let s (xn j) (rk j)) in
    let second : let_term m ≡ select_let s (variable (suc n)) i (variable n) = mt ∙ (λ j. select_let s (yn j) i (xn j)) in
    let rest = axes - (k + 1) in
    (λ j. pushed_two lets lets1 lets2 l m e f j ++ picks s i (next j) (every_other rest (suc (n2e j))) (every_other rest (n2e j)))
    ∙ append_assoc (map let_term lets) (let_term l ∷ let_term m ∷ []) (picks s i (suc k) (every_other rest (suc (suc (suc n)))) (every_other rest (suc (suc n))))
    ∙ (λ j. map let_term lets ++ (first j ∷ second j ∷ picks s i (suc k) (every_other rest (suc (suc (suc n)))) (every_other rest (suc (suc n)))))
    ∙ (λ j. map let_term lets ++ picks s i k (every_other (sym (one_less axes k h) j) (suc n)) (every_other (sym (one_less axes k h) j) n))
    ∙ p

pub vars_turn : (axes k n n2 : ℕ) (vars vars2 whole : List Var) (y : Var) → k < axes → vars ++ every_other (axes - k) (suc n) ≡ whole → vars2 ≡ vars ++ (y ∷ []) → y ≡ variable (suc n) → n2 ≡ suc (suc n) →
    vars2 ++ every_other (axes - (k + 1)) (suc n2) ≡ whole
vars_turn axes k n n2 vars vars2 whole y h p e yn n2e =
    let rest = axes - (k + 1) in
    (λ j. e j ++ every_other rest (suc (n2e j))) ∙ append_assoc vars (y ∷ []) (every_other rest (suc (suc (suc n)))) ∙ (λ j. vars ++ (yn j ∷ every_other rest (suc (suc (suc n)))))
    ∙ (λ j. vars ++ every_other (sym (one_less axes k h) j) (suc n)) ∙ p

pub progress_turn : (p q r t : Progress) (k : ℕ) → p ≡ record q { next = q.next + (k + k) } → r ≡ record p { next = suc p.next } → t ≡ record r { next = suc r.next } →
    t ≡ record q { next = q.next + ((k + 1) + (k + 1)) }
progress_turn p q r t k e f g =
    let two : suc (suc (q.next + (k + k))) ≡ q.next + ((k + 1) + (k + 1)) = omega arith in
    g ∙ (λ j. record (f j) { next = suc (f j).next }) ∙ (λ j. record (e j) { next = suc (suc (e j).next) }) ∙ (λ j. record q { next = two j })

pub next_next : (p r t : Progress) → r ≡ record p { next = suc p.next } → t ≡ record r { next = suc r.next } → t.next ≡ suc (suc p.next)
next_next p r t f g = ap (λ (q : Progress). q.next) g ∙ ap (λ (q : Progress). suc q.next) f

none_left : (axes k : ℕ) → axes ≤ k → k ≤ axes → axes - k ≡ 0
none_left axes k h g = omega arith

all_taken : (axes k : ℕ) → axes ≤ k → k ≤ axes → k ≡ axes
all_taken axes k h g = omega arith

pub lets_done : (s : Site) (i : Var) (axes k n : ℕ) (lets whole : List LetTerm) → axes ≤ k → k ≤ axes → lets ++ picks s i k (every_other (axes - k) (suc n)) (every_other (axes - k) n) ≡ whole → lets ≡ whole
lets_done s i axes k n lets whole h g p =
    sym (append-nil lets) ∙ (λ j. lets ++ picks s i k (every_other (sym (none_left axes k h g) j) (suc n)) (every_other (sym (none_left axes k h g) j) n)) ∙ p

pub vars_done : (axes k n : ℕ) (vars whole : List Var) → axes ≤ k → k ≤ axes → vars ++ every_other (axes - k) n ≡ whole → vars ≡ whole
vars_done axes k n vars whole h g p = sym (append-nil vars) ∙ (λ j. vars ++ every_other (sym (none_left axes k h g) j) n) ∙ p

pub progress_done : (p q : Progress) (axes k : ℕ) → axes ≤ k → k ≤ axes → p ≡ record q { next = q.next + (k + k) } → p ≡ record q { next = q.next + (axes + axes) }
progress_done p q axes k h g e = e ∙ (λ j. record q { next = q.next + (all_taken axes k h g j + all_taken axes k h g j) })

-- ---- names

pub bound_both : (b c : BlockTerm) → bound_in (chain (lets_of b) c) ≡ bound_in b ++ bound_in c
bound_both (Gives xs) c = refl
bound_both (Bind xs s r b) c =
    (λ i. xs ++ (bound_in_right r ++ bound_both b c i)) ∙ ap (λ l. xs ++ l) (sym (append_assoc (bound_in_right r) (bound_in b) (bound_in c))) ∙ sym (append_assoc xs (bound_in_right r ++ bound_in b) (bound_in c))

pub named_all :
    (outer inner : Var) (b c : BlockTerm) (n : ℕ) (vars v1 v2 v3 : List Var) (f g : Var → Var) → v1 ≡ (outer ∷ []) ++ (inner ∷ []) → v2 ≡ v1 ++ bound_in b → vars ≡ v2 ++ bound_in c → v3 ≡ vars →
    ((z : Var) → f z ≡ z) → ((z : Var) → g z ≡ numbered f v3 n z) → (z : Var) → g z ≡ merged_names outer inner (chain (lets_of b) c) n z
named_all outer inner b c n vars v1 v2 v3 f g e1 e2 e3 e4 own all z =
    let list : vars ≡ outer ∷ inner ∷ bound_in (chain (lets_of b) c) =
    e3 ∙ (λ i. e2 i ++ bound_in c) ∙ (λ i. (e1 i ++ bound_in b) ++ bound_in c) ∙ ap (λ l. outer ∷ inner ∷ l) (sym (bound_both b c)) in
    all z ∙ (λ i. numbered (λ w. own w i) ((e4 ∙ list) i) n z)

pub counted_all :
    (outer inner : Var) (b c : BlockTerm) (n : ℕ) (vars v1 v2 v3 : List Var) → v1 ≡ (outer ∷ []) ++ (inner ∷ []) → v2 ≡ v1 ++ bound_in b → vars ≡ v2 ++ bound_in c → v3 ≡ vars →
    n + length v3 ≡ n + suc (suc (length (bound_in (chain (lets_of b) c))))
counted_all outer inner b c n vars v1 v2 v3 e1 e2 e3 e4 =
    let list : vars ≡ outer ∷ inner ∷ bound_in (chain (lets_of b) c) =
    e3 ∙ (λ i. e2 i ++ bound_in c) ∙ (λ i. (e1 i ++ bound_in b) ++ bound_in c) ∙ ap (λ l. outer ∷ inner ∷ l) (sym (bound_both b c)) in
    ap (λ l. n + length l) (e4 ∙ list)

-- ---- before the first component

all_left : (axes : ℕ) → axes - 0 ≡ axes
all_left axes = omega arith

pub begun_lets : (s : Site) (i : Var) (axes n : ℕ) (lets : List Let) → lets ≡ [] →
    map let_term lets ++ picks s i 0 (every_other (axes - 0) (suc n)) (every_other (axes - 0) n) ≡ picks s i 0 (every_other axes (suc n)) (every_other axes n)
begun_lets s i axes n lets e = λ j. map let_term (e j) ++ picks s i 0 (every_other (all_left axes j) (suc n)) (every_other (all_left axes j) n)

pub begun_vars : (axes n : ℕ) (vars : List Var) → vars ≡ [] → vars ++ every_other (axes - 0) (suc n) ≡ every_other axes (suc n)
begun_vars axes n vars e = λ j. e j ++ every_other (all_left axes j) (suc n)

pub begun_next : (p : Progress) → p ≡ record p { next = p.next + (0 + 0) }
begun_next p = let e : p.next ≡ p.next + (0 + 0) = omega arith in λ j. record p { next = e j }

pub two_pushed : (x y : Var) (v0 v1 v2 : List Var) → v0 ≡ [] → v1 ≡ v0 ++ (x ∷ []) → v2 ≡ v1 ++ (y ∷ []) → v2 ≡ (x ∷ []) ++ (y ∷ [])
two_pushed x y v0 v1 v2 e f g = g ∙ (λ j. f j ++ (y ∷ [])) ∙ (λ j. (e j ++ (x ∷ [])) ++ (y ∷ []))
