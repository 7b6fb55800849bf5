-- Lists of bindings that are built one after another.
use Rattle.std.proofs.Common.{◌≡◌, ℕ, ◌+◌, ◌≤◌, ◌<◌, ◌^◌, List, [], ◌∷◌, ◌++◌, map, length, drop, get_or, refl, sym, ap, ◌∙◌, append_assoc, append-nil, arith, ◌⊎◌, inl, inr}
use Rattle.std.specs.Prelude.{max, min}
use Rattle.std.proofs.lemmas.Bool.{cases_lt}
use Rattle.std.proofs.lemmas.List.{at_drop_all, at_drop_more}
use Rattle.sac_base.specs.declared.site.Site.{Site}
use Rattle.sac_base.specs.declared.types.ArrayType.{ArrayType}
use Rattle.core_ir.specs.declared.tree.Var.{Var}
use Rattle.core_ir.specs.declared.tree.Let.{Let}
use Rattle.core_ir.specs.declared.tree.Block.{Block, out-Block}
use Rattle.core_ir.specs.Outcome.{param_types, param_vars}
use Rattle.core_ir.specs.Terms.{BlockTerm, LetTerm, FunTerm, Gives, Bind, Plain, Check, chain}
use Rattle.core_ir.specs.View.{block_term, let_term}
use Rattle.core_ir.proofs.Trees.{block_out}
use Rattle.core_subst.specs.Names.{above, above_all, above_function}
use Rattle.core_subst.specs.copy.Mapped.{raised, raised_within, mapped}
use Rattle.core_subst.proofs.copy.Within.{all_same, fits}
use Rattle.core_forms.specs.inlining.Inlined.{bindings, results, checks, inlined}

pub map_snoc : {A B : Type 0} (f : A → B) (xs : List A) (x : A) → map f (xs ++ (x ∷ [])) ≡ map f xs ++ (f x ∷ [])
map_snoc f [] x = refl
map_snoc f (y ∷ ys) x = ap (λ l. f y ∷ l) (map_snoc f ys x)

pub map_both : {A B : Type 0} (f : A → B) (xs ys : List A) → map f (xs ++ ys) ≡ map f xs ++ map f ys
map_both f [] ys = refl
map_both f (x ∷ xs) ys = ap (λ l. f x ∷ l) (map_both f xs ys)

map_twice : {A B C : Type 0} (f : B → C) (g : A → B) (xs : List A) → map (λ x. f (g x)) xs ≡ map f (map g xs)
map_twice f g [] = refl
map_twice f g (x ∷ xs) = ap (λ l. f (g x) ∷ l) (map_twice f g xs)

pub chain_both : (ls ks : List LetTerm) (rest : BlockTerm) → chain (ls ++ ks) rest ≡ chain ls (chain ks rest)
chain_both [] ks rest = refl
chain_both (l ∷ ls) ks rest = ap (Bind l.targets l.site l.right) (chain_both ls ks rest)

-- ---- checks

abbrev pub check_term : Site → Var → ArrayType → Var → LetTerm
check_term s t ty z = record { targets = t ∷ []; site = s; right = Plain (Check z ty) }

checks_step : (s : Site) (ts : List Var) (tys : List ArrayType) (zs : List Var) (k : ℕ) (t : Var) (ty : ArrayType) (z : Var) → k < length ts → k < length tys → k < length zs
    → checks s (drop k ts) (drop k tys) (drop k zs) ≡ check_term s (get_or ts k t) (get_or tys k ty) (get_or zs k z) ∷ checks s (drop (k + 1) ts) (drop (k + 1) tys) (drop (k + 1) zs)
checks_step s ts tys zs k t ty z p q r =
    at_drop_more (λ us. checks s us (drop k tys) (drop k zs)) ts k t p
    ∙ at_drop_more (λ us. checks s (get_or ts k t ∷ drop (k + 1) ts) us (drop k zs)) tys k ty q
    ∙ at_drop_more (λ us. checks s (get_or ts k t ∷ drop (k + 1) ts) (get_or tys k ty ∷ drop (k + 1) tys) us) zs k z r

no_types : (s : Site) (ts zs : List Var) → checks s ts [] zs ≡ []
no_types s [] zs = refl
no_types s (t ∷ ts) zs = refl

no_sources : (s : Site) (ts : List Var) (tys : List ArrayType) → checks s ts tys [] ≡ []
no_sources s [] tys = refl
no_sources s (t ∷ ts) [] = refl
no_sources s (t ∷ ts) (ty ∷ tys) = refl

checks_end : (s : Site) (ts : List Var) (tys : List ArrayType) (zs : List Var) (k : ℕ) → min (min (length ts) (length tys)) (length zs) ≤ k → checks s (drop k ts) (drop k tys) (drop k zs) ≡ []
checks_end s ts tys zs k h = go (cases_lt k (length ts)) (cases_lt k (length tys))
  where
    go : (k < length ts) ⊎ (length ts ≤ k) → (k < length tys) ⊎ (length tys ≤ k) → checks s (drop k ts) (drop k tys) (drop k zs) ≡ []
    go (inr p) q = at_drop_all (λ us. checks s us (drop k tys) (drop k zs)) ts k p
    go (inl p) (inr q) = at_drop_all (λ us. checks s (drop k ts) us (drop k zs)) tys k q ∙ no_types s (drop k ts) (drop k zs)
    go (inl p) (inl q) = at_drop_all (λ us. checks s (drop k ts) (drop k tys) us) zs k (omega arith) ∙ no_sources s (drop k ts) (drop k tys)

-- a check more is pushed
pub check_turn : (s : Site) (ts : List Var) (tys : List ArrayType) (zs : List Var) (k : ℕ) (t : Var) (ty : ArrayType) (z : Var) (lets lets' : List Let) (b : Let) (whole : List LetTerm) → k < min (min (length ts) (length tys)) (length zs)
    → lets' ≡ lets ++ (b ∷ []) → let_term b ≡ check_term s (get_or ts k t) (get_or tys k ty) (get_or zs k z) → map let_term lets ++ checks s (drop k ts) (drop k tys) (drop k zs) ≡ whole
    → map let_term lets' ++ checks s (drop (k + 1) ts) (drop (k + 1) tys) (drop (k + 1) zs) ≡ whole
check_turn s ts tys zs k t ty z lets lets' b whole h l e p =
    let more = checks s (drop (k + 1) ts) (drop (k + 1) tys) (drop (k + 1) zs) in
    (λ i. map let_term (l i) ++ more)
    ∙ (λ i. map_snoc let_term lets b i ++ more)
    ∙ append_assoc (map let_term lets) (let_term b ∷ []) more
    ∙ (λ i. map let_term lets ++ (e i ∷ more))
    ∙ (λ i. map let_term lets ++ sym (checks_step s ts tys zs k t ty z (omega arith) (omega arith) (omega arith)) i)
    ∙ p

pub checks_done : (s : Site) (ts : List Var) (tys : List ArrayType) (zs : List Var) (k : ℕ) (lets : List Let) (whole : List LetTerm) → min (min (length ts) (length tys)) (length zs) ≤ k
    → map let_term lets ++ checks s (drop k ts) (drop k tys) (drop k zs) ≡ whole → map let_term lets ≡ whole
checks_done s ts tys zs k lets whole h p = sym (append-nil (map let_term lets)) ∙ (λ i. map let_term lets ++ sym (checks_end s ts tys zs k h) i) ∙ p

-- ---- a block's bindings

bindings_chain : (ls : List LetTerm) (rs : List Var) → bindings (chain ls (Gives rs)) ≡ ls
bindings_chain [] rs = refl
bindings_chain (l ∷ ls) rs = ap (λ ks. l ∷ ks) (bindings_chain ls rs)

results_chain : (ls : List LetTerm) (rs : List Var) → results (chain ls (Gives rs)) ≡ rs
results_chain [] rs = refl
results_chain (l ∷ ls) rs = results_chain ls rs

pub body_pushed : (b : Block) (lets lets' inner : List Let) → lets' ≡ lets ++ inner → inner ≡ (out-Block b).lets.items → map let_term lets' ≡ map let_term lets ++ bindings (block_term b)
body_pushed b lets lets' inner p q =
    ap (map let_term) p ∙ map_both let_term lets inner ∙ (λ i. map let_term lets ++ map let_term (q i))
    ∙ (λ i. map let_term lets ++ sym (ap bindings (block_out b) ∙ bindings_chain (map let_term (out-Block b).lets.items) (out-Block b).results.items) i)

pub body_results : (b : Block) (rs : List Var) → rs ≡ (out-Block b).results.items → rs ≡ results (block_term b)
body_results b rs p = p ∙ sym (ap results (block_out b) ∙ results_chain (map let_term (out-Block b).lets.items) (out-Block b).results.items)

-- ---- the whole

fitting : (by : ℕ) (xs : List Var) → above_all xs + by ≤ 2 ^ 32 → map (raised_within by) xs ≡ map (raised by) xs
fitting by xs h = all_same (raised_within by) (raised by) (above_all xs) (λ x k. fits by x (omega arith)) xs (omega arith)

pub params_fit : (by : ℕ) (f : FunTerm) → above_function f + by ≤ 2 ^ 32 → map (λ (p : Var × ArrayType). raised_within by p.0) f.params ≡ map (raised by) (param_vars f)
params_fit by f h = map_twice (raised_within by) (λ (p : Var × ArrayType). p.0) f.params ∙ fitting by (param_vars f) (params_below (above_all (param_vars f)) (above f.body) by h)
  where
    params_below : (a b n : ℕ) → max a b + n ≤ 2 ^ 32 → a + n ≤ 2 ^ 32
    params_below a b n p = omega arith

pub body_fits : (by : ℕ) (f : FunTerm) → above_function f + by ≤ 2 ^ 32 → above f.body + by ≤ 2 ^ 32
body_fits by f h = below (above_all (param_vars f)) (above f.body) by h
  where
    below : (a b n : ℕ) → max a b + n ≤ 2 ^ 32 → b + n ≤ 2 ^ 32
    below a b n p = omega arith

pub placed : (by : ℕ) (f : FunTerm) (ts xs : List Var) (s : Site) (params : List Var) (types : List ArrayType) (body : BlockTerm) (ends : List Var) (first second third fourth : List LetTerm) → above_function f + by ≤ 2 ^ 32
    → params ≡ map (λ (p : Var × ArrayType). raised_within by p.0) f.params → types ≡ param_types f → body ≡ mapped (raised by) f.body → ends ≡ results body
    → first ≡ [] → second ≡ first ++ checks s params types xs → third ≡ second ++ bindings body → fourth ≡ third ++ checks f.ends ts f.results ends
    → (rest : BlockTerm) → chain fourth rest ≡ inlined by f ts s xs rest
placed by f ts xs s params types body ends first second third fourth h p t b e p1 p2 p3 p4 rest =
    (λ i. chain ((p4 ∙ (λ j. (p3 ∙ (λ k. (p2 ∙ (λ l. p1 l ++ checks s params types xs)) k ++ bindings body)) j ++ checks f.ends ts f.results ends)) i) rest)
    ∙ chain_both (checks s params types xs ++ bindings body) (checks f.ends ts f.results ends) rest
    ∙ chain_both (checks s params types xs) (bindings body) (chain (checks f.ends ts f.results ends) rest)
    ∙ (λ i. chain (checks s params types xs) (chain (bindings body) (chain (checks f.ends ts f.results (e i)) rest)))
    ∙ (λ i. chain (checks s ((p ∙ params_fit by f h) i) (t i) xs) (chain (bindings (b i)) (chain (checks f.ends ts f.results (results (b i))) rest)))
