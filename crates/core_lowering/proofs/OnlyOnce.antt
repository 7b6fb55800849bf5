-- What is lowered binds each variable once, and only those of the numbers that are its own.
use Rattle.std.proofs.Common.{◌≡◌, ℕ, zero, suc, ◌+◌, ◌<◌, ◌≤◌, Bool, true, false, ◌||◌, eqb, List, [], ◌∷◌, ◌++◌, length, Option, Some, None, refl, ap, sym, subst, ◌∙◌, arith}
use Rattle.std.proofs.lemmas.Bool.{eqb-true, eq-eqb}
use Rattle.sac_base.specs.declared.base.Base.{Base}
use Rattle.sac_base.specs.declared.base.Base.TheVariants.{Int, Bool as Truth}
use Rattle.sac_base.specs.Arrays.{scalar}
use Rattle.sac_base.specs.Operators.{of_truth}
use Rattle.core_ir.specs.Meaning.{missing}
use Rattle.std.specs.Prelude.{pos}
use Rattle.sac_base.specs.declared.name.Name.{Name}
use Rattle.sac_base.specs.declared.site.Site.{Site}
use Rattle.sac_ast.specs.Tree.{IndexTree, named, parts, Expr, Exprs, no_exprs, expr_and, MaybeExpr, left_out, given, Stmt, Block, no_stmts, stmt_and, BoundTree, dot, at, Gen, gen, Gens, no_gens, gen_and, OperationTree, number, truth, variable, choice, call, builtin, with_loop, assign, if_else, while_do, do_while, genarray, modarray}
use Rattle.sac_ast.specs.Tree
use Rattle.core_ir.specs.declared.tree.Var.{Var}
use Rattle.core_ir.specs.Terms.{PlainTerm, LetTerm, RightTerm, Gives, Plain, chain}
use Rattle.core_ir.specs.Binders.{is_in, bound_in, bound_in_right, bound_in_gens}
use Rattle.core_ir.specs.WellFormed.{Distinct}
use Rattle.core_ir.proofs.Variables.{same_number, or_false, in_more}
use Rattle.source_meaning.specs.Meaning.{names, default_base}
use Rattle.core_lowering.specs.Lowering.{Scope, var_in, numbered, variables_from, pushed, vars_in, once, names_bound, merged, carried, binding, used, built_in, index_scope, index_names, after_index, start_of, starts, lowered, lowered_all, lowered_maybe, lowered_bound, lowered_gen, lowered_gens, lowered_operation, lowered_stmt, lowered_block}
use Rattle.core_lowering.proofs.Scopes.{Below, below_more, below_pushed}
use Rattle.core_lowering.proofs.Fresh.{used_grown, start_grown, starts_grown, index_below, grows, grows_all, grows_maybe, grows_bound, grows_gen, grows_gens, grows_operation, grows_stmt, grows_block}
use Rattle.core_lowering.proofs.InScope.{either, or_either, in_either}

-- ---- lists of different variables

-- the two lists have no variable in common
abbrev pub Apart : List Var → List Var → Type 0
Apart xs ys = (y : Var) → is_in y xs ≡ true → is_in y ys ≡ true → ⊥

-- different variables with numbers from one number up to another
pub record Own (n m : ℕ) (xs : List Var) : Type 0 where
  pub within : (y : Var) → is_in y xs ≡ true → (n ≤ y.0) × (y.0 < m)
  pub once : Distinct xs

not_in : (y : Var) (xs : List Var) → (is_in y xs ≡ true → ⊥) → is_in y xs ≡ false
not_in y xs h = go (is_in y xs) refl
  where
    go : (b : Bool) → is_in y xs ≡ b → is_in y xs ≡ false
    go true e = absurd (h e)
    go false e = e

neither : (a b : Bool) → a ≡ false → b ≡ false → (a || b) ≡ false
neither a b p q = λ i. p i || q i

itself : (n : ℕ) → eqb n n ≡ true
itself n = eq-eqb n n refl

or_first_true : (a b : Bool) → a ≡ true → (a || b) ≡ true
or_first_true a b p = λ i. p i || b

or_second_true : (a b : Bool) → b ≡ true → (a || b) ≡ true
or_second_true true b p = refl
or_second_true false b p = p

pub distinct_more : (xs ys : List Var) → Distinct xs → Distinct ys → Apart xs ys → Distinct (xs ++ ys)
distinct_more [] ys p q a = q
distinct_more (x ∷ xs) ys p q a = (
  in_more x xs ys ∙ neither (is_in x xs) (is_in x ys) p.0 (not_in x ys (λ h. a x (or_first_true (eqb x.0 x.0) (is_in x xs) (itself x.0)) h)),
  distinct_more xs ys p.1 q (λ y h k. a y (or_second_true (eqb x.0 y.0) (is_in y xs) h) k),
)

distinct_first : (xs ys : List Var) → Distinct (xs ++ ys) → Distinct xs
distinct_first [] ys d = tt
distinct_first (x ∷ xs) ys d = ((or_false (is_in x xs) (is_in x ys) (sym (in_more x xs ys) ∙ d.0)).0, distinct_first xs ys d.1)

distinct_second : (xs ys : List Var) → Distinct (xs ++ ys) → Distinct ys
distinct_second [] ys d = d
distinct_second (x ∷ xs) ys d = distinct_second xs ys d.1

contrary : (b : Bool) → b ≡ true → b ≡ false → ⊥
contrary b p q = cc

distinct_apart : (xs ys : List Var) → Distinct (xs ++ ys) → Apart xs ys
distinct_apart [] ys d y h k = absurd (cc)
distinct_apart (x ∷ xs) ys d y h k = either (or_either (eqb x.0 y.0) (is_in y xs) h)
    (λ e. contrary (is_in x ys) (ap (λ z. is_in z ys) (same_number x y e) ∙ k) (or_false (is_in x xs) (is_in x ys) (sym (in_more x xs ys) ∙ d.0)).1)
    (λ l. distinct_apart xs ys d.1 y l k)

windows_apart : (n m l k : ℕ) (xs ys : List Var) → m ≤ l → Own n m xs → Own l k ys → Apart xs ys
windows_apart n m l k xs ys p a b y h i = let u = (a.within y h).1 in let v = (b.within y i).0 in omega arith

pub own_none : (n m : ℕ) → Own n m []
own_none n m = record { within = λ y h. absurd (cc); once = tt }

pub own_more : (n m k : ℕ) (xs ys : List Var) → n ≤ m → m ≤ k → Own n m xs → Own m k ys → Own n k (xs ++ ys)
own_more n m k xs ys p q a b = record {
  within = λ y h. either (in_either y xs ys h)
      (λ l. ((a.within y l).0, let u = (a.within y l).1 in omega arith))
      (λ l. (let u = (b.within y l).0 in omega arith, (b.within y l).1));
  once = distinct_more xs ys a.once b.once (windows_apart n m m k xs ys (omega arith) a b);
}

pub own_wider : (n m l k : ℕ) (xs : List Var) → l ≤ n → m ≤ k → Own n m xs → Own l k xs
own_wider n m l k xs p q a = record {
  within = λ y h. (let u = (a.within y h).0 in omega arith, let u = (a.within y h).1 in omega arith);
  once = a.once;
}

-- the other way round
own_swapped : (n m k : ℕ) (xs ys : List Var) → n ≤ m → m ≤ k → Own m k xs → Own n m ys → Own n k (xs ++ ys)
own_swapped n m k xs ys p q a b = record {
  within = λ y h. either (in_either y xs ys h)
      (λ l. (let u = (a.within y l).0 in omega arith, (a.within y l).1))
      (λ l. ((b.within y l).0, let u = (b.within y l).1 in omega arith));
  once = distinct_more xs ys a.once b.once (λ y h i. windows_apart n m m k ys xs (omega arith) b a y i h);
}

own_one : (n : ℕ) → Own n (suc n) (numbered n ∷ [])
own_one n = record {
  within = λ y h. either (or_either (eqb n y.0) false h) (λ k. (let e = eqb-true n y.0 k in omega arith, let e = eqb-true n y.0 k in omega arith)) (λ k. absurd (cc));
  once = (refl, tt);
}

pub own_from : (n count : ℕ) → Own n (n + count) (variables_from n count)
own_from n zero = own_none n (n + zero)
own_from n (suc count) =
    own_more n (suc n) (n + suc count) (numbered n ∷ []) (variables_from (suc n) count) (omega arith) (omega arith) (own_one n)
    (own_wider (suc n) (suc n + count) (suc n) (n + suc count) (variables_from (suc n) count) (omega arith) (omega arith) (own_from (suc n) count))

-- four lists in another order: the first with the third, and the second with the fourth, are in two windows
own_crossed : (n m k : ℕ) (a b c d : List Var) → n ≤ m → m ≤ k → Own n m (a ++ c) → Own m k (b ++ d) → Own n k ((a ++ b) ++ (c ++ d))
own_crossed n m k a b c d p q x y =
    let oa : Own n m a = record { within = λ z h. x.within z (in_more z a c ∙ or_first_true (is_in z a) (is_in z c) h); once = distinct_first a c x.once } in
    let oc : Own n m c = record { within = λ z h. x.within z (in_more z a c ∙ or_second_true (is_in z a) (is_in z c) h); once = distinct_second a c x.once } in
    let ob : Own m k b = record { within = λ z h. y.within z (in_more z b d ∙ or_first_true (is_in z b) (is_in z d) h); once = distinct_first b d y.once } in
    let od : Own m k d = record { within = λ z h. y.within z (in_more z b d ∙ or_second_true (is_in z b) (is_in z d) h); once = distinct_second b d y.once } in
    let ab = own_more n m k a b p q oa ob in
    let cd = own_more n m k c d p q oc od in
    record {
      within = λ z h. either (in_either z (a ++ b) (c ++ d) h) (λ l. ab.within z l) (λ l. cd.within z l);
      once = distinct_more (a ++ b) (c ++ d) ab.once cd.once
          (λ z h i. either (in_either z a b h)
          (λ l. either (in_either z c d i) (λ r. distinct_apart a c x.once z l r) (λ r. windows_apart n m m k a d (omega arith) oa od z l r))
          (λ l. either (in_either z c d i) (λ r. windows_apart n m m k c b (omega arith) oc ob z r l) (λ r. distinct_apart b d y.once z l r)));
    }

-- ---- what bindings bind

abbrev pub binders : List LetTerm → List Var
binders [] = []
binders (l ∷ ls) = l.targets ++ (bound_in_right l.right ++ binders ls)

assoc : (xs ys zs : List Var) → (xs ++ ys) ++ zs ≡ xs ++ (ys ++ zs)
assoc [] ys zs = refl
assoc (x ∷ xs) ys zs = ap (λ l. x ∷ l) (assoc xs ys zs)

no_more : (xs : List Var) → xs ++ [] ≡ xs
no_more [] = refl
no_more (x ∷ xs) = ap (λ l. x ∷ l) (no_more xs)

pub binders_more : (ls ms : List LetTerm) → binders (ls ++ ms) ≡ binders ls ++ binders ms
binders_more [] ms = refl
binders_more (l ∷ ls) ms =
    ap (λ xs. l.targets ++ (bound_in_right l.right ++ xs)) (binders_more ls ms)
    ∙ ap (λ xs. l.targets ++ xs) (sym (assoc (bound_in_right l.right) (binders ls) (binders ms)))
    ∙ sym (assoc l.targets (bound_in_right l.right ++ binders ls) (binders ms))

pub bound_chain : (ls : List LetTerm) (xs : List Var) → bound_in (chain ls (Gives xs)) ≡ binders ls
bound_chain [] xs = refl
bound_chain (l ∷ ls) xs = ap (λ ys. l.targets ++ (bound_in_right l.right ++ ys)) (bound_chain ls xs)

-- bindings, and one more behind them
own_last : (n m k j : ℕ) (ls : List LetTerm) (l : LetTerm) → n ≤ m → m ≤ k → k ≤ j → Own n m (binders ls) → Own k j l.targets → Own m k (bound_in_right l.right) → Own n j (binders (ls ++ (l ∷ [])))
own_last n m k j ls l p q r a b c =
    subst (λ (xs : List Var). Own n j xs) (sym (binders_more ls (l ∷ [])))
    (own_more n m j (binders ls) (binders (l ∷ [])) p (omega arith) a
    (own_swapped m k j l.targets (bound_in_right l.right ++ []) q r b (subst (λ (xs : List Var). Own m k xs) (sym (no_more (bound_in_right l.right))) c)))

pub own_two : (n m k : ℕ) (ls ms : List LetTerm) → n ≤ m → m ≤ k → Own n m (binders ls) → Own m k (binders ms) → Own n k (binders (ls ++ ms))
own_two n m k ls ms p q a b = subst (λ (xs : List Var). Own n k xs) (sym (binders_more ls ms)) (own_more n m k (binders ls) (binders ms) p q a b)

-- a block within a right side
pub own_block : (n m : ℕ) (ls : List LetTerm) (xs : List Var) → Own n m (binders ls) → Own n m (bound_in (chain ls (Gives xs)))
own_block n m ls xs a = subst (λ (ys : List Var). Own n m ys) (sym (bound_chain ls xs)) a

own_plain : (n : ℕ) (ls : List LetTerm) (m : ℕ) (site : Site) (p : PlainTerm) → n ≤ m → Own n m (binders ls) → Own n (suc m) (binders (ls ++ (binding (numbered m) site (Plain p) ∷ [])))
own_plain n ls m site p q a = own_last n m m (suc m) ls (binding (numbered m) site (Plain p)) q (omega arith) (omega arith) a (own_one m) (own_none m m)

used_own : (site : Site) (o : Option Var) (n : ℕ) → Own n (used n site o).next (binders (used n site o).lets)
used_own site None n = own_plain n [] n site (PlainTerm.Const missing) (omega arith) (own_none n n)
used_own site (Some x) n = own_none n n

start_own : (base : Base) (site : Site) (o : Option Var) (n : ℕ) → Own n (start_of base n site o).next (binders (start_of base n site o).lets)
start_own base site None n = own_plain n [] n site (PlainTerm.Const (scalar base (pos 0))) (omega arith) (own_none n n)
start_own base site (Some x) n = own_none n n

starts_own : (base_of_name : Name → Base) (site : Site) (xs : List Name) (scope : Scope) (n : ℕ) → Below n scope → Own n (starts base_of_name site xs scope n).next (binders (starts base_of_name site xs scope n).lets)
starts_own base_of_name site [] scope n b = own_none n n
starts_own base_of_name site (x ∷ xs) scope n b =
    let A = start_of (base_of_name x) n site (var_in scope x) in
    let a = (start_grown (base_of_name x) n site (var_in scope x) (λ y p. b x y p)).later in
    let b' = below_more n A.next scope b a in
    let B = starts base_of_name site xs scope A.next in
    own_two n A.next B.next A.lets B.lets a (starts_grown base_of_name site xs scope A.next b').later (start_own (base_of_name x) site (var_in scope x) n) (starts_own base_of_name site xs scope A.next b')

index_own : (index : IndexTree) (n : ℕ) → Own n (after_index index n) (numbered n ∷ index_names index n)
index_own (named t) n = own_one n
index_own (parts ts) n = own_more n (suc n) (suc n + length (names ts)) (numbered n ∷ []) (variables_from (suc n) (length (names ts))) (omega arith) (omega arith) (own_one n) (own_from (suc n) (length (names ts)))

-- a new variable between two lists
own_crossed_one : (n m : ℕ) (a c : List Var) → n ≤ m → Own n m (a ++ c) → Own n (suc m) (a ++ (numbered m ∷ c))
own_crossed_one n m a c p x =
    let one = own_crossed n m (suc m) a (numbered m ∷ []) c [] p (omega arith) x (own_one m) in
    subst (λ (xs : List Var). Own n (suc m) xs) (assoc a (numbered m ∷ []) (c ++ []) ∙ ap (λ xs. a ++ (numbered m ∷ xs)) (no_more c)) one

module _ (group_of : Name → ℕ) (base_of : Expr → Option Base) (base_of_name : Name → Base) where
  mutual
    pub own : (e : Expr) (scope : Scope) (n : ℕ) → Below n scope → Own n (lowered group_of base_of base_of_name e scope n).next (binders (lowered group_of base_of base_of_name e scope n).lets)
    own (number z site) scope n b = own_plain n [] n site (PlainTerm.Const (scalar Int z)) (omega arith) (own_none n n)
    own (truth t site) scope n b = own_plain n [] n site (PlainTerm.Const (scalar Truth (of_truth t))) (omega arith) (own_none n n)
    own (variable name site) scope n b = used_own site (var_in scope name) n
    own (Tree.literal es site) scope n b =
        let A = lowered_all group_of base_of base_of_name es scope n in
        own_plain n A.lets A.next site (PlainTerm.Literal A.results) (grows_all group_of base_of base_of_name es scope n b).later (own_all es scope n b)
    own (Tree.unary op e site) scope n b =
        let A = lowered group_of base_of base_of_name e scope n in
        own_plain n A.lets A.next site (PlainTerm.Unary op A.result) (grows group_of base_of base_of_name e scope n b).later (own e scope n b)
    own (Tree.binary op e1 e2 site) scope n b =
        let A = lowered group_of base_of base_of_name e1 scope n in
        let a = (grows group_of base_of base_of_name e1 scope n b).later in
        let b' = below_more n A.next scope b a in
        let B = lowered group_of base_of base_of_name e2 scope A.next in
        let a' = (grows group_of base_of base_of_name e2 scope A.next b').later in
        own_plain n (A.lets ++ B.lets) B.next site (PlainTerm.Binary op A.result B.result) (omega arith) (own_two n A.next B.next A.lets B.lets a a' (own e1 scope n b) (own e2 scope A.next b'))
    own (choice e0 e1 e2 site) scope n b =
        let A = lowered group_of base_of base_of_name e0 scope n in
        let a = (grows group_of base_of base_of_name e0 scope n b).later in
        let b1 = below_more n A.next scope b a in
        let B = lowered group_of base_of base_of_name e1 scope A.next in
        let a1 = (grows group_of base_of base_of_name e1 scope A.next b1).later in
        let b2 = below_more A.next B.next scope b1 a1 in
        let C = lowered group_of base_of base_of_name e2 scope B.next in
        let a2 = (grows group_of base_of base_of_name e2 scope B.next b2).later in
        let right = RightTerm.If A.result (chain B.lets (Gives (B.result ∷ []))) (chain C.lets (Gives (C.result ∷ []))) in
        own_last n A.next C.next (suc C.next) A.lets (binding (numbered C.next) site right) a (omega arith) (omega arith) (own e0 scope n b) (own_one C.next)
        (own_more A.next B.next C.next (bound_in (chain B.lets (Gives (B.result ∷ [])))) (bound_in (chain C.lets (Gives (C.result ∷ [])))) a1 a2 (own_block A.next B.next B.lets (B.result ∷ []) (own e1 scope A.next b1)) (own_block B.next C.next C.lets (C.result ∷ []) (own e2 scope B.next b2)))
    own (Tree.select e1 e2 site) scope n b =
        let A = lowered group_of base_of base_of_name e1 scope n in
        let a = (grows group_of base_of base_of_name e1 scope n b).later in
        let b' = below_more n A.next scope b a in
        let B = lowered group_of base_of base_of_name e2 scope A.next in
        let a' = (grows group_of base_of base_of_name e2 scope A.next b').later in
        own_plain n (A.lets ++ B.lets) B.next site (PlainTerm.Select A.result B.result) (omega arith) (own_two n A.next B.next A.lets B.lets a a' (own e1 scope n b) (own e2 scope A.next b'))
    own (call name es site) scope n b =
        let A = lowered_all group_of base_of base_of_name es scope n in
        own_last n A.next A.next (suc A.next) A.lets (binding (numbered A.next) site (RightTerm.Call (group_of name) A.results)) (grows_all group_of base_of base_of_name es scope n b).later (omega arith) (omega arith) (own_all es scope n b) (own_one A.next) (own_none A.next A.next)
    own (builtin t es site) scope n b =
        let A = lowered_all group_of base_of base_of_name es scope n in
        own_plain n A.lets A.next site (built_in t A.results) (grows_all group_of base_of base_of_name es scope n b).later (own_all es scope n b)
    own (with_loop gs op site) scope n b =
        let base = default_base base_of gs in
        let A = lowered_gens group_of base_of base_of_name gs scope n in
        let a = grows_gens group_of base_of base_of_name gs scope n b in
        let b' = below_more n A.next scope b a in
        let B = lowered_operation group_of base_of base_of_name op base scope A.next in
        let a' = grows_operation group_of base_of base_of_name op base scope A.next b' in
        let inner = bound_in_gens A.gens in
        let l = binding (numbered B.next) B.site (RightTerm.With B.op A.gens) in
        let two : Own n B.next ((binders A.lets ++ binders B.lets) ++ (inner ++ [])) =
        own_crossed n A.next B.next (binders A.lets) (binders B.lets) inner [] a a' (own_gens gs scope n b) (subst (λ (xs : List Var). Own A.next B.next xs) (sym (no_more (binders B.lets))) (own_operation op base scope A.next b')) in
        let outer = binders A.lets ++ binders B.lets in
        subst (λ (xs : List Var). Own n (suc B.next) xs)
        (sym (binders_more (A.lets ++ B.lets) (l ∷ []) ∙ ap (λ xs. xs ++ (numbered B.next ∷ (inner ++ []))) (binders_more A.lets B.lets)))
        (own_crossed_one n B.next outer (inner ++ []) (omega arith) two)

    pub own_all : (es : Exprs) (scope : Scope) (n : ℕ) → Below n scope → Own n (lowered_all group_of base_of base_of_name es scope n).next (binders (lowered_all group_of base_of base_of_name es scope n).lets)
    own_all no_exprs scope n b = own_none n n
    own_all (expr_and e es) scope n b =
        let A = lowered group_of base_of base_of_name e scope n in
        let a = (grows group_of base_of base_of_name e scope n b).later in
        let b' = below_more n A.next scope b a in
        let B = lowered_all group_of base_of base_of_name es scope A.next in
        own_two n A.next B.next A.lets B.lets a (grows_all group_of base_of base_of_name es scope A.next b').later (own e scope n b) (own_all es scope A.next b')

    own_maybe : (e : MaybeExpr) (scope : Scope) (n : ℕ) → Below n scope → Own n (lowered_maybe group_of base_of base_of_name e scope n).next (binders (lowered_maybe group_of base_of base_of_name e scope n).lets)
    own_maybe left_out scope n b = own_none n n
    own_maybe (given e) scope n b = own e scope n b

    own_bound : (e : BoundTree) (scope : Scope) (n : ℕ) → Below n scope → Own n (lowered_bound group_of base_of base_of_name e scope n).next (binders (lowered_bound group_of base_of base_of_name e scope n).lets)
    own_bound (dot site) scope n b = own_none n n
    own_bound (at e) scope n b = own e scope n b

    -- the bindings before the generator, and those within it
    own_gen : (g0 : Gen) (scope : Scope) (n : ℕ) → Below n scope → Own n (lowered_gen group_of base_of base_of_name g0 scope n).next (binders (lowered_gen group_of base_of base_of_name g0 scope n).lets ++ (((lowered_gen group_of base_of base_of_name g0 scope n).head.index ∷ (lowered_gen group_of base_of base_of_name g0 scope n).head.names) ++ bound_in (lowered_gen group_of base_of base_of_name g0 scope n).body))
    own_gen (gen lower lower_closed index upper upper_closed step width body cell site) scope n b =
        let L = lowered_bound group_of base_of base_of_name lower scope n in
        let gl = (grows_bound group_of base_of base_of_name lower scope n b).later in
        let b1 = below_more n L.next scope b gl in
        let U = lowered_bound group_of base_of base_of_name upper scope L.next in
        let gu = (grows_bound group_of base_of base_of_name upper scope L.next b1).later in
        let b2 = below_more L.next U.next scope b1 gu in
        let S = lowered_maybe group_of base_of base_of_name step scope U.next in
        let gs = (grows_maybe group_of base_of base_of_name step scope U.next b2).later in
        let b3 = below_more U.next S.next scope b2 gs in
        let W = lowered_maybe group_of base_of base_of_name width scope S.next in
        let gw = (grows_maybe group_of base_of base_of_name width scope S.next b3).later in
        let b4 = below_more S.next W.next scope b3 gw in
        let inside = index_scope index W.next scope in
        let m = after_index index W.next in
        let B = lowered_block group_of base_of base_of_name body inside m in
        let C = lowered group_of base_of base_of_name cell B.scope B.next in
        let gi = index_below index W.next scope b4 in
        let gb = grows_block group_of base_of base_of_name body inside m gi.1 in
        let gc = (grows group_of base_of base_of_name cell B.scope B.next gb.below).later in
        let i0 = gi.0 in let i1 = gb.later in
        own_more n W.next C.next (binders (L.lets ++ (U.lets ++ (S.lets ++ W.lets)))) ((numbered W.next ∷ index_names index W.next) ++ bound_in (chain (B.lets ++ C.lets) (Gives (C.result ∷ [])))) (omega arith) (omega arith)
        (own_two n L.next W.next L.lets (U.lets ++ (S.lets ++ W.lets)) gl (omega arith) (own_bound lower scope n b)
        (own_two L.next U.next W.next U.lets (S.lets ++ W.lets) gu (omega arith) (own_bound upper scope L.next b1)
        (own_two U.next S.next W.next S.lets W.lets gs gw (own_maybe step scope U.next b2) (own_maybe width scope S.next b3))))
        (own_more W.next m C.next (numbered W.next ∷ index_names index W.next) (bound_in (chain (B.lets ++ C.lets) (Gives (C.result ∷ [])))) i0 (omega arith) (index_own index W.next)
        (own_block m C.next (B.lets ++ C.lets) (C.result ∷ []) (own_two m B.next C.next B.lets C.lets i1 gc (own_block_stmts body inside m gi.1) (own cell B.scope B.next gb.below))))

    own_gens : (gs : Gens) (scope : Scope) (n : ℕ) → Below n scope → Own n (lowered_gens group_of base_of base_of_name gs scope n).next (binders (lowered_gens group_of base_of base_of_name gs scope n).lets ++ bound_in_gens (lowered_gens group_of base_of base_of_name gs scope n).gens)
    own_gens no_gens scope n b = own_none n n
    own_gens (gen_and g0 gs) scope n b =
        let A = lowered_gen group_of base_of base_of_name g0 scope n in
        let a = grows_gen group_of base_of base_of_name g0 scope n b in
        let b' = below_more n A.next scope b a in
        let B = lowered_gens group_of base_of base_of_name gs scope A.next in
        let a' = grows_gens group_of base_of base_of_name gs scope A.next b' in
        let own1 = (A.head.index ∷ A.head.names) ++ bound_in A.body in
        subst (λ (xs : List Var). Own n B.next xs)
        ((λ i. sym (binders_more A.lets B.lets) i ++ assoc (A.head.index ∷ A.head.names) (bound_in A.body) (bound_in_gens B.gens) i))
        (own_crossed n A.next B.next (binders A.lets) (binders B.lets) own1 (bound_in_gens B.gens) a a' (own_gen g0 scope n b) (own_gens gs scope A.next b'))

    own_operation : (op : OperationTree) (base : Base) (scope : Scope) (n : ℕ) → Below n scope → Own n (lowered_operation group_of base_of base_of_name op base scope n).next (binders (lowered_operation group_of base_of base_of_name op base scope n).lets)
    own_operation (genarray shape left_out site) base scope n b =
        let A = lowered group_of base_of base_of_name shape scope n in
        own_plain n A.lets A.next site (PlainTerm.Const (scalar base (pos 0))) (grows group_of base_of base_of_name shape scope n b).later (own shape scope n b)
    own_operation (genarray shape (given e) site) base scope n b =
        let A = lowered group_of base_of base_of_name shape scope n in
        let a = (grows group_of base_of base_of_name shape scope n b).later in
        let b' = below_more n A.next scope b a in
        let B = lowered group_of base_of base_of_name e scope A.next in
        own_two n A.next B.next A.lets B.lets a (grows group_of base_of base_of_name e scope A.next b').later (own shape scope n b) (own e scope A.next b')
    own_operation (modarray array site) base scope n b = own array scope n b
    own_operation (Tree.fold op neutral site) base scope n b = own neutral scope n b

    own_stmt : (st : Stmt) (scope : Scope) (n : ℕ) → Below n scope → Own n (lowered_stmt group_of base_of base_of_name st scope n).next (binders (lowered_stmt group_of base_of base_of_name st scope n).lets)
    own_stmt (assign targets (call name es site)) scope n b =
        let A = lowered_all group_of base_of base_of_name es scope n in
        let count = length (names targets) in
        own_last n A.next A.next (A.next + count) A.lets (record { targets = variables_from A.next count; site = site; right = RightTerm.Call (group_of name) A.results }) (grows_all group_of base_of base_of_name es scope n b).later (omega arith) (omega arith) (own_all es scope n b) (own_from A.next count) (own_none A.next A.next)
    own_stmt (assign targets e) scope n b = own e scope n b
    own_stmt (Tree.replace target bracket index e) scope n b =
        let I = lowered group_of base_of base_of_name index scope n in
        let gi = (grows group_of base_of base_of_name index scope n b).later in
        let b1 = below_more n I.next scope b gi in
        let V = lowered group_of base_of base_of_name e scope I.next in
        let gv = (grows group_of base_of base_of_name e scope I.next b1).later in
        let b2 = below_more I.next V.next scope b1 gv in
        let A = used V.next bracket (var_in scope target.name) in
        let ga = (used_grown V.next bracket (var_in scope target.name) (λ x p. b2 target.name x p)).later in
        own_plain n (I.lets ++ (V.lets ++ A.lets)) A.next bracket (PlainTerm.Replace A.result I.result V.result) (omega arith)
        (own_two n I.next A.next I.lets (V.lets ++ A.lets) gi (omega arith) (own index scope n b)
        (own_two I.next V.next A.next V.lets A.lets gv ga (own e scope I.next b1) (used_own bracket (var_in scope target.name) V.next)))
    own_stmt (if_else c0 fs ss site) scope n b =
        let A = lowered group_of base_of base_of_name c0 scope n in
        let a = (grows group_of base_of base_of_name c0 scope n b).later in
        let b1 = below_more n A.next scope b a in
        let B = lowered_block group_of base_of base_of_name fs scope A.next in
        let a1 = (grows_block group_of base_of base_of_name fs scope A.next b1).later in
        let b2 = below_more A.next B.next scope b1 a1 in
        let C = lowered_block group_of base_of base_of_name ss scope B.next in
        let a2 = (grows_block group_of base_of base_of_name ss scope B.next b2).later in
        let both = merged (names_bound fs ++ names_bound ss) B.scope C.scope in
        let xs = vars_in B.scope both in
        let ys = vars_in C.scope both in
        own_last n A.next C.next (C.next + length both) A.lets (record { targets = variables_from C.next (length both); site = site; right = RightTerm.If A.result (chain B.lets (Gives xs)) (chain C.lets (Gives ys)) }) a (omega arith) (omega arith) (own c0 scope n b) (own_from C.next (length both))
        (own_more A.next B.next C.next (bound_in (chain B.lets (Gives xs))) (bound_in (chain C.lets (Gives ys))) a1 a2 (own_block A.next B.next B.lets xs (own_block_stmts fs scope A.next b1)) (own_block B.next C.next C.lets ys (own_block_stmts ss scope B.next b2)))
    own_stmt (while_do c0 body site) scope n b =
        let all = carried (names_bound body) scope in
        let m = n + length all in
        let inside = pushed all n scope in
        let bi = below_pushed all n m scope b (omega arith) in
        let T = lowered group_of base_of base_of_name c0 inside m in
        let gt = (grows group_of base_of base_of_name c0 inside m bi).later in
        let bt = below_more m T.next inside bi gt in
        let B = lowered_block group_of base_of base_of_name body inside T.next in
        let gb = (grows_block group_of base_of base_of_name body inside T.next bt).later in
        let xs = vars_in B.scope all in
        own_last n n B.next (B.next + length all) [] (record { targets = variables_from B.next (length all); site = site; right = RightTerm.Loop false (vars_in scope all) (variables_from n (length all)) (chain T.lets (Gives (T.result ∷ []))) (chain B.lets (Gives xs)) site }) (omega arith) (omega arith) (omega arith) (own_none n n) (own_from B.next (length all))
        (own_more n m B.next (variables_from n (length all)) (bound_in (chain T.lets (Gives (T.result ∷ []))) ++ bound_in (chain B.lets (Gives xs))) (omega arith) (omega arith) (own_from n (length all))
        (own_more m T.next B.next (bound_in (chain T.lets (Gives (T.result ∷ [])))) (bound_in (chain B.lets (Gives xs))) gt gb (own_block m T.next T.lets (T.result ∷ []) (own c0 inside m bi)) (own_block T.next B.next B.lets xs (own_block_stmts body inside T.next bt))))
    own_stmt (do_while body c0 site test) scope n b =
        let all = once [] (names_bound body) in
        let S = starts base_of_name site all scope n in
        let gs = (starts_grown base_of_name site all scope n b).later in
        let b1 = below_more n S.next scope b gs in
        let m = S.next + length all in
        let inside = pushed all S.next scope in
        let bi = below_pushed all S.next m scope b1 (omega arith) in
        let B = lowered_block group_of base_of base_of_name body inside m in
        let gb = (grows_block group_of base_of base_of_name body inside m bi).later in
        let bb = below_more m B.next inside bi gb in
        let T = lowered group_of base_of base_of_name c0 inside B.next in
        let gt = (grows group_of base_of base_of_name c0 inside B.next bb).later in
        let xs = vars_in B.scope all in
        own_last n S.next T.next (T.next + length all) S.lets (record { targets = variables_from T.next (length all); site = site; right = RightTerm.Loop true S.results (variables_from S.next (length all)) (chain T.lets (Gives (T.result ∷ []))) (chain B.lets (Gives xs)) test }) gs (omega arith) (omega arith) (starts_own base_of_name site all scope n b) (own_from T.next (length all))
        (own_more S.next m T.next (variables_from S.next (length all)) (bound_in (chain T.lets (Gives (T.result ∷ []))) ++ bound_in (chain B.lets (Gives xs))) (omega arith) (omega arith) (own_from S.next (length all))
        (own_swapped m B.next T.next (bound_in (chain T.lets (Gives (T.result ∷ [])))) (bound_in (chain B.lets (Gives xs))) gb gt (own_block B.next T.next T.lets (T.result ∷ []) (own c0 inside B.next bb)) (own_block m B.next B.lets xs (own_block_stmts body inside m bi))))

    pub own_block_stmts : (ss : Block) (scope : Scope) (n : ℕ) → Below n scope → Own n (lowered_block group_of base_of base_of_name ss scope n).next (binders (lowered_block group_of base_of base_of_name ss scope n).lets)
    own_block_stmts no_stmts scope n b = own_none n n
    own_block_stmts (stmt_and st rest) scope n b =
        let A = lowered_stmt group_of base_of base_of_name st scope n in
        let a = grows_stmt group_of base_of base_of_name st scope n b in
        let B = lowered_block group_of base_of base_of_name rest A.scope A.next in
        own_two n A.next B.next A.lets B.lets a.later (grows_block group_of base_of base_of_name rest A.scope A.next a.below).later (own_stmt st scope n b) (own_block_stmts rest A.scope A.next a.below)
