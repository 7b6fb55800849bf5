-- Bindings of components, and parts, one after another.
use Rattle.std.proofs.Common.{◌≡◌, ℕ, suc, ◌+◌, ◌<◌, List, [], ◌∷◌, ◌++◌, map, length, drop, get_or, Option, Some, None, refl, ap, sym, ◌∙◌, append_assoc, append-nil, arith, ℤ, pos}
use Rattle.std.specs.Prelude.{option_map, option_to_list}
use Rattle.std.proofs.Math.Seq.{drop-cons}
use Rattle.std.proofs.lemmas.List.{length-append, map-append}
use Rattle.sac_base.specs.declared.base.Base.TheVariants.{Int}
use Rattle.sac_base.specs.declared.grid.Grid1.{Grid1}
use Rattle.sac_base.specs.declared.site.Site.{Site}
use Rattle.sac_base.specs.Arrays.{ArrayValue, scalar}
use Rattle.core_ir.specs.declared.tree.CoreOp.{CoreOp}
use Rattle.core_ir.specs.declared.tree.CorePart.{CorePart}
use Rattle.core_ir.specs.declared.tree.Let.{Let}
use Rattle.core_ir.specs.declared.tree.Var.{Var}
use Rattle.core_ir.specs.Binders.{bound_in, bound_in_parts}
use Rattle.core_ir.specs.Terms.{PlainTerm, LetTerm, GenTerm, PartTerm, Plain, parts_of}
use Rattle.core_ir.specs.View.{let_term, part_term}
use Rattle.core_subst.specs.Names.{variable}
use Rattle.parted_bodies.specs.declared.names.Progress.{Progress}
use Rattle.parted_bodies.specs.Numbering.{named}
use Rattle.parted_bodies.specs.Making.{binds_of, component_lets, component_names, label_part, made_parts}

-- the bindings of a component
abbrev pub constant_let : Site → Var → ArrayValue → LetTerm
constant_let s x a = record { targets = x ∷ []; site = s; right = Plain (PlainTerm.Const a) }

abbrev pub select_let : Site → Var → Var → Var → LetTerm
select_let s y i x = record { targets = y ∷ []; site = s; right = Plain (PlainTerm.Select i x) }

pushed_two : (lets lets1 lets2 : List Let) (l m : Let) → lets1 ≡ lets ++ (l ∷ []) → lets2 ≡ lets1 ++ (m ∷ []) → map let_term lets2 ≡ map let_term lets ++ (let_term l ∷ let_term m ∷ [])
pushed_two lets lets1 lets2 l m e f =
    (λ j. map let_term (f j)) ∙ (λ j. map let_term (e j ++ (m ∷ []))) ∙ ap (map let_term) (append_assoc lets (l ∷ []) (m ∷ [])) ∙ map-append let_term lets (l ∷ m ∷ [])

-- a component more
pub component_turn : (s : Site) (i : Var) (xs : List Var) (k n n2 : ℕ) (d : Var) (lets lets1 lets2 : List Let) (l m : Let) (a : ArrayValue) (z : ℤ) (x y : Var) (whole : List LetTerm) → k < length xs → map let_term lets ++ component_lets s i k (drop k xs) n ≡ whole → lets1 ≡ lets ++ (l ∷ []) → lets2 ≡ lets1 ++ (m ∷ []) → let_term l ≡ constant_let s x a → let_term m ≡ select_let s y i x → a ≡ scalar Int z → z ≡ pos k → x ≡ variable n → y ≡ variable (suc n) → n2 ≡ suc (suc n)
    → map let_term lets2 ++ component_lets s i (k + 1) (drop (k + 1) xs) n2 ≡ whole
component_turn s i xs k n n2 d lets lets1 lets2 l m a z x y whole h p e f lt mt av zk xn yn n2e =
    let next : k + 1 ≡ suc k = omega arith in
    let first : let_term l ≡ constant_let s (variable n) (scalar Int (pos k)) = lt ∙ (λ j. constant_let s (xn j) ((av ∙ ap (scalar Int) zk) j)) in
    let second : let_term m ≡ select_let s (variable (suc n)) i (variable n) = mt ∙ (λ j. select_let s (yn j) i (xn j)) in
    (λ j. pushed_two lets lets1 lets2 l m e f j ++ component_lets s i (next j) (drop (next j) xs) (n2e j))
    ∙ append_assoc (map let_term lets) (let_term l ∷ let_term m ∷ []) (component_lets s i (suc k) (drop (suc k) xs) (suc (suc n)))
    ∙ (λ j. map let_term lets ++ (first j ∷ second j ∷ component_lets s i (suc k) (drop (suc k) xs) (suc (suc n))))
    ∙ (λ j. map let_term lets ++ component_lets s i k (sym (drop-cons xs k d h) j) n)
    ∙ p

pub names_turn : (xs : List Var) (k n n2 : ℕ) (d y : Var) (f g whole : Var → Var) → k < length xs → y ≡ variable (suc n) → n2 ≡ suc (suc n) → ((z : Var) → g z ≡ named f (get_or xs k d) y z) → ((z : Var) → component_names f (drop k xs) n z ≡ whole z) → (z : Var) → component_names g (drop (k + 1) xs) n2 z ≡ whole z
names_turn xs k n n2 d y f g whole h e n2e q p z =
    let next : k + 1 ≡ suc k = omega arith in
    (λ j. component_names (λ w. q w j) (drop (next j) xs) (n2e j) z)
    ∙ (λ j. component_names (named f (get_or xs k d) (e j)) (drop (suc k) xs) (suc (suc n)) z)
    ∙ (λ j. component_names f (sym (drop-cons xs k d h) j) n z)
    ∙ p z

pub progress_turn : (p q r t : Progress) (k : ℕ) → p ≡ record q { next = q.next + (k + k) } → r ≡ record p { next = suc p.next } → t ≡ record r { next = suc r.next } → t ≡ record q { next = q.next + ((k + 1) + (k + 1)) }
progress_turn p q r t k e f g =
    let two : suc (suc (q.next + (k + k))) ≡ q.next + ((k + 1) + (k + 1)) = omega arith in
    g ∙ (λ j. record (f j) { next = suc (f j).next }) ∙ (λ j. record (e j) { next = suc (suc (e j).next) }) ∙ (λ j. record q { next = two j })

pub next_next : (p r t : Progress) → r ≡ record p { next = suc p.next } → t ≡ record r { next = suc r.next } → t.next ≡ suc (suc p.next)
next_next p r t f g = ap (λ (q : Progress). q.next) g ∙ ap (λ (q : Progress). suc q.next) f

-- ---- parts, one after another

pub binds_both : (xs ys : List PartTerm) → binds_of (xs ++ ys) ≡ binds_of xs + binds_of ys
binds_both [] ys = let e : binds_of ys ≡ 0 + binds_of ys = omega arith in e
binds_both (x ∷ xs) ys =
    let b = bound_in x.body in
    let both = length-append b (bound_in_parts (parts_of (xs ++ ys))) in
    let one = length-append b (bound_in_parts (parts_of xs)) in
    let rest = binds_both xs ys in
    omega (arith, both, one, rest)

-- a grid more has its part, if it has one
module _ (op : CoreOp) (s : Site) (gens : List GenTerm) where
  pub made_turn : (ps ps' : List CorePart) (found : Option CorePart) (before rest : List (List Grid1 × Option ℕ)) (grid : List Grid1) (label : Option ℕ) (n m : ℕ) (whole : List PartTerm) → map part_term ps ++ made_parts op s gens before n ≡ whole → before ≡ (grid, label) ∷ rest → option_map part_term found ≡ label_part op s gens grid label n → ps' ≡ ps ++ option_to_list found → m ≡ n + binds_of (option_to_list (label_part op s gens grid label n))
      → map part_term ps' ++ made_parts op s gens rest m ≡ whole
  made_turn ps ps' found before rest grid label n m whole p b f d e =
      (λ i. map part_term (d i) ++ made_parts op s gens rest (e i))
      ∙ ap (λ l. l ++ made_parts op s gens rest (n + binds_of (option_to_list (label_part op s gens grid label n)))) (map-append part_term ps (option_to_list found) ∙ ap (λ l. map part_term ps ++ l) (listed found ∙ ap option_to_list f))
      ∙ append_assoc (map part_term ps) (option_to_list (label_part op s gens grid label n)) (made_parts op s gens rest (n + binds_of (option_to_list (label_part op s gens grid label n))))
      ∙ (λ i. map part_term ps ++ made_parts op s gens (sym b i) n)
      ∙ p
    where
      listed : (o : Option CorePart) → map part_term (option_to_list o) ≡ option_to_list (option_map part_term o)
      listed None = refl
      listed (Some x) = refl

  pub next_turn : (p q w : Progress) (before rest : List (List Grid1 × Option ℕ)) (grid : List Grid1) (label : Option ℕ) → record p { next = p.next + binds_of (made_parts op s gens before p.next) } ≡ w → before ≡ (grid, label) ∷ rest → q ≡ record p { next = p.next + binds_of (option_to_list (label_part op s gens grid label p.next)) }
      → record q { next = q.next + binds_of (made_parts op s gens rest q.next) } ≡ w
  next_turn p q w before rest grid label e b f =
      let first = option_to_list (label_part op s gens grid label p.next) in
      let n = p.next + binds_of first in
      let others = made_parts op s gens rest n in
      let sum = binds_both first others in
      let same : n + binds_of others ≡ p.next + binds_of (first ++ others) = omega (arith, sum) in
      (λ i. record (f i) { next = (f i).next + binds_of (made_parts op s gens rest (f i).next) })
      ∙ (λ i. record p { next = same i })
      ∙ (λ i. record p { next = p.next + binds_of (made_parts op s gens (sym b i) p.next) })
      ∙ e

  -- no grid is left
  pub made_all : (ps : List CorePart) (rest : List (List Grid1 × Option ℕ)) (n : ℕ) (whole : List PartTerm) → map part_term ps ++ made_parts op s gens rest n ≡ whole → rest ≡ [] → map part_term ps ≡ whole
  made_all ps rest n whole p r = sym (append-nil (map part_term ps)) ∙ (λ i. map part_term ps ++ made_parts op s gens (sym r i) n) ∙ p

  pub next_all : (p w : Progress) (rest : List (List Grid1 × Option ℕ)) → record p { next = p.next + binds_of (made_parts op s gens rest p.next) } ≡ w → rest ≡ [] → p ≡ w
  next_all p w rest e r =
      let none : p.next ≡ p.next + 0 = omega arith in
      (λ i. record p { next = none i }) ∙ (λ i. record p { next = p.next + binds_of (made_parts op s gens (sym r i) p.next) }) ∙ e
