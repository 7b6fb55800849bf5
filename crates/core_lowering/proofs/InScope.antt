-- What is lowered is scoped: each use is of a variable in scope, and no binder hides one.
use Rattle.std.proofs.Common.{◌≡◌, ℕ, zero, suc, ◌+◌, ◌<◌, ◌≤◌, Bool, true, false, ◌||◌, ◌⊎◌, eqb, List, [], ◌∷◌, ◌++◌, length, Option, Some, None, refl, ap, sym, subst, ◌∙◌, inl, inr, arith}
use Rattle.std.specs.Prelude.{bytes_eq, is_some, option_to_list, filter, cond, ◌&&◌, pos, if◌then◌else◌}
use Rattle.std.proofs.lemmas.Slice.Eq.{bytes_eq-Decides}
use Rattle.std.proofs.lemmas.Bool.{eqb-true, eq-eqb}
use Rattle.sac_base.specs.declared.base.Base.{Base}
use Rattle.sac_base.specs.declared.base.Base.TheVariants.{Int, Bool as Truth}
use Rattle.sac_base.specs.Arrays.{scalar}
use Rattle.sac_base.specs.Operators.{of_truth}
use Rattle.core_ir.specs.Meaning.{missing}
use Rattle.sac_base.specs.declared.name.Name.{Name}
use Rattle.sac_base.specs.declared.site.Site.{Site}
use Rattle.sac_ast.specs.declared.Target.{Target}
use Rattle.sac_ast.specs.declared.Builtin.{Builtin}
use Rattle.sac_ast.specs.declared.Builtin.TheVariants.{Dim, Shape, Reshape}
use Rattle.sac_ast.specs.Tree.{IndexTree, named, parts, Expr, Exprs, no_exprs, expr_and, MaybeExpr, left_out, given, Stmt, Block, no_stmts, stmt_and, BoundTree, dot, at, Gen, gen, Gens, no_gens, gen_and, OperationTree, number, truth, variable, choice, call, builtin, with_loop, assign, if_else, while_do, do_while, genarray, modarray}
use Rattle.sac_ast.specs.Tree
use Rattle.core_ir.specs.declared.tree.Var.{Var}
use Rattle.core_ir.specs.Terms.{PlainTerm, BlockTerm, LetTerm, RightTerm, GenHead, Bind, Plain, Gives, chain}
use Rattle.core_ir.specs.Binders.{is_in, NoneIn}
use Rattle.core_ir.specs.Scopes.{AllIn, plain_uses, op_uses, head_uses, Scoped, ScopedRight, ScopedGens}
use Rattle.core_ir.proofs.Variables.{in_more, in_front}
use Rattle.source_meaning.specs.Meaning.{names, default_base}
use Rattle.core_lowering.specs.Lowering.{Scope, var_in, numbered, variables_from, pushed, or_first, vars_in, has_name, once, names_bound, is_known, merged, carried, used, built_in, index_scope, index_names, after_index, first_bound, start_of, starts, lowered, lowered_all, lowered_maybe, lowered_bound, lowered_gen, lowered_gens, lowered_operation, lowered_stmt, lowered_block}
use Rattle.core_lowering.proofs.Scopes.{Below, below_more, below_pushed, push_known, push_knows}
use Rattle.core_lowering.proofs.Fresh.{used_grown, start_grown, starts_grown, index_below, grows, grows_all, grows_maybe, grows_bound, grows_gen, grows_gens, grows_operation, grows_stmt, grows_block}

-- ---- lists of variables

pub chain_more : (ls ms : List LetTerm) (rest : BlockTerm) → chain (ls ++ ms) rest ≡ chain ls (chain ms rest)
chain_more [] ms rest = refl
chain_more (l ∷ ls) ms rest = ap (Bind l.targets l.site l.right) (chain_more ls ms rest)

-- each variable has a number below the first, or one that is not below the second
abbrev pub Clear : ℕ → ℕ → List Var → Type 0
Clear n hi vs = (y : Var) → is_in y vs ≡ true → (y.0 < n) ⊎ (hi ≤ y.0)

-- the variables of the first list and others with numbers from one number up to another
pub record Later (n m : ℕ) (vs ws : List Var) : Type 0 where
  pub wider : (y : Var) → is_in y vs ≡ true → is_in y ws ≡ true
  pub others : (y : Var) → is_in y ws ≡ true → (is_in y vs ≡ true) ⊎ ((n ≤ y.0) × (y.0 < m))

pub later_self : (n m : ℕ) (vs : List Var) → Later n m vs vs
later_self n m vs = record { wider = λ y h. h; others = λ y h. inl h }

pub either : {A B C : Type 0} → A ⊎ B → (A → C) → (B → C) → C
either (inl a) f g = f a
either (inr b) f g = g b

pub later_more : (n m n' m' : ℕ) (vs ws us : List Var) → n ≤ n' → m ≤ m' → Later n m vs ws → Later n' m' ws us → Later n m' vs us
later_more n m n' m' vs ws us p q a b = record {
  wider = λ y h. b.wider y (a.wider y h);
  others = λ y h. either (b.others y h)
      (λ k. either (a.others y k) (λ l. inl l) (λ l. inr (let u = l.0 in let v = l.1 in omega arith, let u = l.0 in let v = l.1 in omega arith)))
      (λ k. inr (let u = k.0 in let v = k.1 in omega arith, k.1));
}

-- a wider list, of which nothing else is said
abbrev pub Wider : List Var → List Var → Type 0
Wider vs ws = (y : Var) → is_in y vs ≡ true → is_in y ws ≡ true

pub clear_less : (n m hi lo : ℕ) (vs : List Var) → n ≤ m → lo ≤ hi → Clear n hi vs → Clear m lo vs
clear_less n m hi lo vs p q c y h = either (c y h) (λ k. inl (omega arith)) (λ k. inr (omega arith))

clear_later : (n m hi : ℕ) (vs ws : List Var) → m ≤ hi → Clear n hi vs → Later m hi vs ws → Clear n m vs → Clear n m ws
clear_later n m hi vs ws p c l d y h = either (l.others y h) (λ k. d y k) (λ k. inr k.0)

-- a variable of a number that is free
pub not_there : (n hi : ℕ) (vs : List Var) → n < hi → Clear n hi vs → is_in (numbered n) vs ≡ false
not_there n hi vs l c = go (is_in (numbered n) vs) refl
  where
    go : (b : Bool) → is_in (numbered n) vs ≡ b → is_in (numbered n) vs ≡ false
    go true e = absurd (either (c (numbered n) e) (λ k. omega arith) (λ k. omega arith))
    go false e = e

pub is_itself : (n : ℕ) → eqb n n ≡ true
is_itself n = eq-eqb n n refl

or_first_true : (a b : Bool) → a ≡ true → (a || b) ≡ true
or_first_true a b p = λ i. p i || b

or_second_true : (a b : Bool) → b ≡ true → (a || b) ≡ true
or_second_true true b p = refl
or_second_true false b p = p

pub or_either : (a b : Bool) → (a || b) ≡ true → (a ≡ true) ⊎ (b ≡ true)
or_either true b p = inl refl
or_either false b p = inr p

-- one variable more
pub later_one : (n hi : ℕ) (vs : List Var) → Later n (suc n) vs (numbered n ∷ vs)
later_one n hi vs = record {
  wider = λ y h. or_second_true (eqb n y.0) (is_in y vs) h;
  others = λ y h. either (or_either (eqb n y.0) (is_in y vs) h)
      (λ k. inr (let e = eqb-true n y.0 k in omega arith, let e = eqb-true n y.0 k in omega arith)) (λ k. inl k);
}

pub clear_one : (n hi : ℕ) (vs : List Var) → Clear n hi vs → Clear (suc n) hi (numbered n ∷ vs)
clear_one n hi vs c y h = either (or_either (eqb n y.0) (is_in y vs) h)
    (λ k. inl (let e = eqb-true n y.0 k in omega arith)) (λ k. either (c y k) (λ l. inl (omega arith)) (λ l. inr l))

-- variables from a number on
pub there_from : (n count : ℕ) (y : Var) → is_in y (variables_from n count) ≡ true → (n ≤ y.0) × (y.0 < n + count)
there_from n zero y h = absurd (cc)
there_from n (suc count) y h = either (or_either (eqb n y.0) (is_in y (variables_from (suc n) count)) h)
    (λ k. (let e = eqb-true n y.0 k in omega arith, let e = eqb-true n y.0 k in omega arith))
    (λ k. let q = there_from (suc n) count y k in (let a = q.0 in omega arith, let b = q.1 in omega arith))

pub none_from : (n count hi : ℕ) (vs : List Var) → n + count ≤ hi → Clear n hi vs → NoneIn (variables_from n count) vs
none_from n zero hi vs l c = tt
none_from n (suc count) hi vs l c = (not_there n hi vs (omega arith) c, none_from (suc n) count hi vs (omega arith) (clear_less n (suc n) hi hi vs (omega arith) (omega arith) c))

pub in_either : (y : Var) (xs zs : List Var) → is_in y (xs ++ zs) ≡ true → (is_in y xs ≡ true) ⊎ (is_in y zs ≡ true)
in_either y xs zs h = or_either (is_in y xs) (is_in y zs) (sym (in_more y xs zs) ∙ h)

pub later_from : (n count : ℕ) (vs : List Var) → Later n (n + count) vs (variables_from n count ++ vs)
later_from n count vs = record {
  wider = λ y h. in_front y (variables_from n count) vs h;
  others = λ y h. either (in_either y (variables_from n count) vs h) (λ k. inr (there_from n count y k)) (λ k. inl k);
}

pub clear_from : (n count hi : ℕ) (vs : List Var) → Clear n hi vs → Clear (n + count) hi (variables_from n count ++ vs)
clear_from n count hi vs c y h = either (in_either y (variables_from n count) vs h)
    (λ k. inl (there_from n count y k).1) (λ k. either (c y k) (λ l. inl (omega arith)) (λ l. inr l))

-- with more numbers between
later_less : (n m hi : ℕ) (vs ws : List Var) → m ≤ hi → Later n m vs ws → Later n hi vs ws
later_less n m hi vs ws p l = record { wider = l.wider; others = λ y h. either (l.others y h) (λ k. inl k) (λ k. inr (k.0, let u = k.1 in omega arith)) }

later_both : (n m hi : ℕ) (vs ws us : List Var) → n ≤ m → m ≤ hi → Later n m vs ws → Later m hi ws us → Later n hi vs us
later_both n m hi vs ws us p q a b = record {
  wider = λ y h. b.wider y (a.wider y h);
  others = λ y h. either (b.others y h)
      (λ k. either (a.others y k) (λ l. inl l) (λ l. inr (l.0, let v = l.1 in omega arith)))
      (λ k. inr (let u = k.0 in omega arith, k.1));
}

-- ---- scopes

-- the variables of names are in the list
abbrev pub ScopeIn : Scope → List Var → Type 0
ScopeIn scope vs = (name : Name) (x : Var) → var_in scope name ≡ Some x → is_in x vs ≡ true

pub scope_wider : (scope : Scope) (vs ws : List Var) → Wider vs ws → ScopeIn scope vs → ScopeIn scope ws
scope_wider scope vs ws w s name x p = w x (s name x p)

pub scope_with : (name : Name) (z : Var) (scope : Scope) (vs : List Var) → is_in z vs ≡ true → ScopeIn scope vs → ScopeIn ((name, z) ∷ scope) vs
scope_with name z scope vs h s other x p = go (bytes_eq other name) p
  where
    go : (b : Bool) → (if b then Some z else var_in scope other) ≡ Some x → is_in x vs ≡ true
    go true q = let same : z ≡ x = cc in ap (λ y. is_in y vs) (sym same) ∙ h
    go false q = s other x q

pub scope_pushed : (xs : List Name) (n : ℕ) (scope : Scope) (vs : List Var) → ((y : Var) → is_in y (variables_from n (length xs)) ≡ true → is_in y vs ≡ true) → ScopeIn scope vs → ScopeIn (pushed xs n scope) vs
scope_pushed [] n scope vs h s = λ name x p. s name x p
scope_pushed (x ∷ xs) n scope vs h s =
    scope_pushed xs (suc n) ((x, numbered n) ∷ scope) vs (λ y k. h y (or_second_true (eqb n y.0) (is_in y (variables_from (suc n) (length xs))) k))
    (scope_with x (numbered n) scope vs (h (numbered n) (or_first_true (eqb n n) (is_in (numbered n) (variables_from (suc n) (length xs))) (is_itself n))) s)

scope_first : (targets : List Target) (z : Var) (scope : Scope) (vs : List Var) → is_in z vs ≡ true → ScopeIn scope vs → ScopeIn (first_bound targets z scope) vs
scope_first [] z scope vs h s = λ name x p. s name x p
scope_first (t ∷ ts) z scope vs h s = scope_with t.name z scope vs h s

-- the names of a list that each have a variable
abbrev pub AllKnown : Scope → List Name → Type 0
AllKnown scope [] = Unit {0}
AllKnown scope (x ∷ xs) = (is_known scope x ≡ true) × AllKnown scope xs

known_there : (o : Option Var) (vs : List Var) → is_some o ≡ true → ((x : Var) → o ≡ Some x → is_in x vs ≡ true) → is_in (or_first o) vs ≡ true
known_there None vs h k = absurd (cc)
known_there (Some x) vs h k = k x refl

pub vars_there : (scope : Scope) (xs : List Name) (vs : List Var) → AllKnown scope xs → ScopeIn scope vs → AllIn (vars_in scope xs) vs
vars_there scope [] vs k s = tt
vars_there scope (x ∷ xs) vs k s = (known_there (var_in scope x) vs k.0 (λ y p. s x y p), vars_there scope xs vs k.1 s)

pub filter_known : (p : Name → Bool) (scope : Scope) (xs : List Name) → ((x : Name) → p x ≡ true → is_known scope x ≡ true) → AllKnown scope (filter p xs)
filter_known p scope [] h = tt
filter_known p scope (x ∷ xs) h = go (p x) refl (filter_known p scope xs h)
  where
    go : (b : Bool) → p x ≡ b → AllKnown scope (filter p xs) → AllKnown scope (cond b (x ∷ filter p xs) (filter p xs))
    go true e r = (h x e, r)
    go false e r = r

name_itself : (x : Name) → bytes_eq x x ≡ true
name_itself x = grind (arith, bytes_eq-Decides x x)

-- names that are pushed have variables
pub pushed_known : (xs ys : List Name) (n : ℕ) (scope : Scope) → ((x : Name) → has_name ys x ≡ true → has_name xs x ≡ true) → AllKnown (pushed xs n scope) ys
pushed_known xs [] n scope h = tt
pushed_known xs (y ∷ ys) n scope h = (
  push_known xs n scope y (h y (or_first_true (bytes_eq y y) (has_name ys y) (name_itself y))),
  pushed_known xs ys n scope (λ x k. h x (or_second_true (bytes_eq x y) (has_name ys x) k)),
)

pub known_wider : (s t : Scope) (xs : List Name) → ((x : Name) → is_known s x ≡ true → is_known t x ≡ true) → AllKnown s xs → AllKnown t xs
known_wider s t [] h k = tt
known_wider s t (x ∷ xs) h k = (h x k.0, known_wider s t xs h k.1)

all_wider : (xs vs ws : List Var) → Wider vs ws → AllIn xs vs → AllIn xs ws
all_wider [] vs ws w h = tt
all_wider (x ∷ xs) vs ws w h = (w x h.0, all_wider xs vs ws w h.1)

-- ---- one binding

last_scoped : (n m hi : ℕ) (vs ws : List Var) (site : Site) (r : RightTerm) (rest : BlockTerm) → n ≤ m → suc m ≤ hi → Later n m vs ws → Clear m hi ws → ScopedRight ws r → ((us : List Var) → Later n (suc m) vs us → Clear (suc m) hi us → is_in (numbered m) us ≡ true → Scoped us rest) → Scoped ws (Bind (numbered m ∷ []) site r rest)
last_scoped n m hi vs ws site r rest p q l c h k = (
  h,
  (not_there m hi ws (omega arith) c, tt),
  k (numbered m ∷ ws) (later_more n m m (suc m) vs ws (numbered m ∷ ws) p (omega arith) l (later_one m hi ws)) (clear_one m hi ws c) (or_first_true (eqb m m) (is_in (numbered m) ws) (is_itself m)),
)

used_scoped : (site : Site) (o : Option Var) (n hi : ℕ) (vs : List Var) (rest : BlockTerm) → ((x : Var) → o ≡ Some x → is_in x vs ≡ true) → Clear n hi vs → (used n site o).next ≤ hi → ((ws : List Var) → Later n (used n site o).next vs ws → Clear (used n site o).next hi ws → is_in (used n site o).result ws ≡ true → Scoped ws rest) → Scoped vs (chain (used n site o).lets rest)
used_scoped site None n hi vs rest h c q k = last_scoped n n hi vs vs site (Plain (PlainTerm.Const missing)) rest (omega arith) q (later_self n n vs) c tt k
used_scoped site (Some x) n hi vs rest h c q k = k vs (later_self n n vs) c (h x refl)

start_scoped : (base : Base) (site : Site) (o : Option Var) (n hi : ℕ) (vs : List Var) (rest : BlockTerm) → ((x : Var) → o ≡ Some x → is_in x vs ≡ true) → Clear n hi vs → (start_of base n site o).next ≤ hi → ((ws : List Var) → Later n (start_of base n site o).next vs ws → Clear (start_of base n site o).next hi ws → is_in (start_of base n site o).result ws ≡ true → Scoped ws rest) → Scoped vs (chain (start_of base n site o).lets rest)
start_scoped base site None n hi vs rest h c q k = last_scoped n n hi vs vs site (Plain (PlainTerm.Const (scalar base (pos 0)))) rest (omega arith) q (later_self n n vs) c tt k
start_scoped base site (Some x) n hi vs rest h c q k = k vs (later_self n n vs) c (h x refl)

pub more_scoped : (vs : List Var) (ls ms : List LetTerm) (rest : BlockTerm) → Scoped vs (chain ls (chain ms rest)) → Scoped vs (chain (ls ++ ms) rest)
more_scoped vs ls ms rest h = subst (λ (b : BlockTerm). Scoped vs b) (sym (chain_more ls ms rest)) h

starts_scoped : (base_of_name : Name → Base) (site : Site) (xs : List Name) (scope : Scope) (n hi : ℕ) (vs : List Var) (rest : BlockTerm) → Below n scope → ScopeIn scope vs → Clear n hi vs → (starts base_of_name site xs scope n).next ≤ hi → ((ws : List Var) → Later n (starts base_of_name site xs scope n).next vs ws → Clear (starts base_of_name site xs scope n).next hi ws → AllIn (starts base_of_name site xs scope n).results ws → Scoped ws rest) → Scoped vs (chain (starts base_of_name site xs scope n).lets rest)
starts_scoped base_of_name site [] scope n hi vs rest b s c q k = k vs (later_self n n vs) c tt
starts_scoped base_of_name site (x ∷ xs) scope n hi vs rest b s c q k =
    let A = start_of (base_of_name x) n site (var_in scope x) in
    let a = start_grown (base_of_name x) n site (var_in scope x) (λ y p. b x y p) in
    let b' = below_more n A.next scope b a.later in
    let B = starts base_of_name site xs scope A.next in
    let d = starts_grown base_of_name site xs scope A.next b' in
    more_scoped vs A.lets B.lets rest
    (start_scoped (base_of_name x) site (var_in scope x) n hi vs (chain B.lets rest) (λ y p. s x y p) c (let u = d.later in omega arith)
    (λ ws l e h. starts_scoped base_of_name site xs scope A.next hi ws rest b' (scope_wider scope vs ws l.wider s) e q
    (λ us l' e' h'. k us (later_more n A.next A.next B.next vs ws us a.later d.later l l') e' (l'.wider A.result h, h'))))

-- a generator whose operands are in scope, and whose own variables hide none of it
record OneGen (vs : List Var) (h : GenHead) (body : BlockTerm) : Type 0 where
  heads : AllIn (head_uses h) vs
  apart : NoneIn (h.index ∷ h.names) vs
  inside : Scoped ((h.index ∷ h.names) ++ vs) body

index_clear : (index : IndexTree) (n hi : ℕ) (vs : List Var) → Clear n hi vs → Clear (after_index index n) hi ((numbered n ∷ index_names index n) ++ vs)
index_clear (named t) n hi vs c y h = clear_one n hi vs c y h
index_clear (parts ts) n hi vs c y h = either (or_either (eqb n y.0) (is_in y (variables_from (suc n) (length (names ts)) ++ vs)) h)
    (λ k. inl (let e = eqb-true n y.0 k in omega arith))
    (λ k. clear_from (suc n) (length (names ts)) hi vs (clear_less n (suc n) hi hi vs (omega arith) (omega arith) c) y k)

index_none : (index : IndexTree) (n hi : ℕ) (vs : List Var) → after_index index n ≤ hi → Clear n hi vs → NoneIn (numbered n ∷ index_names index n) vs
index_none (named t) n hi vs q c = (not_there n hi vs (omega arith) c, tt)
index_none (parts ts) n hi vs q c = (not_there n hi vs (omega arith) c, none_from (suc n) (length (names ts)) hi vs q (clear_less n (suc n) hi hi vs (omega arith) (omega arith) c))

index_in : (index : IndexTree) (n : ℕ) (scope : Scope) (vs : List Var) → ScopeIn scope vs → ScopeIn (index_scope index n scope) ((numbered n ∷ index_names index n) ++ vs)
index_in (named t) n scope vs s = scope_with t.name (numbered n) scope (numbered n ∷ vs) (or_first_true (eqb n n) (is_in (numbered n) vs) (is_itself n)) (scope_wider scope vs (numbered n ∷ vs) (λ y h. or_second_true (eqb n y.0) (is_in y vs) h) s)
index_in (parts ts) n scope vs s =
    let us = variables_from (suc n) (length (names ts)) in
    scope_pushed (names ts) (suc n) scope (numbered n ∷ (us ++ vs))
    (λ y h. or_second_true (eqb n y.0) (is_in y (us ++ vs)) (in_more y us vs ∙ or_first_true (is_in y us) (is_in y vs) h))
    (scope_wider scope vs (numbered n ∷ (us ++ vs)) (λ y h. or_second_true (eqb n y.0) (is_in y (us ++ vs)) (in_front y us vs h)) s)

head_in : (l u st w : Option Var) (vs : List Var) → AllIn (option_to_list l) vs → AllIn (option_to_list u) vs → AllIn (option_to_list st) vs → AllIn (option_to_list w) vs → AllIn (option_to_list l ++ (option_to_list u ++ (option_to_list st ++ option_to_list w))) vs
head_in l u st w vs a b c d = both (option_to_list l) _ a (both (option_to_list u) _ b (both (option_to_list st) (option_to_list w) c d))
  where
    both : (xs ys : List Var) → AllIn xs vs → AllIn ys vs → AllIn (xs ++ ys) vs
    both [] ys p q = q
    both (x ∷ xs) ys p q = (p.0, both xs ys p.1 q)

builtin_in : (t : Builtin) (xs vs : List Var) → AllIn xs vs → AllIn (plain_uses (built_in t xs)) vs
builtin_in Dim [] vs h = tt
builtin_in Dim (x ∷ xs) vs h = (h.0, tt)
builtin_in Shape [] vs h = tt
builtin_in Shape (x ∷ xs) vs h = (h.0, tt)
builtin_in Reshape [] vs h = tt
builtin_in Reshape (x ∷ []) vs h = tt
builtin_in Reshape (x ∷ y ∷ ys) vs h = (h.0, (h.1.0, tt))

-- the names that are bound still have variables
module _ (group_of : Name → ℕ) (base_of : Expr → Option Base) (base_of_name : Name → Base) where
  first_knows : (targets : List Target) (z : Var) (scope : Scope) (x : Name) → is_known scope x ≡ true → is_known (first_bound targets z scope) x ≡ true
  first_knows [] z scope x h = h
  first_knows (t ∷ ts) z scope x h = go (bytes_eq x t.name)
    where
      go : (b : Bool) → is_some (if b then Some z else var_in scope x) ≡ true
      go true = refl
      go false = h

  mutual
    pub knows_stmt : (st : Stmt) (scope : Scope) (n : ℕ) (x : Name) → is_known scope x ≡ true → is_known (lowered_stmt group_of base_of base_of_name st scope n).scope x ≡ true
    knows_stmt (assign targets (call name es site)) scope n x h = push_knows (names targets) (lowered_all group_of base_of base_of_name es scope n).next scope x h
    knows_stmt (assign targets e) scope n x h = first_knows targets (lowered group_of base_of base_of_name e scope n).result scope x h
    knows_stmt (Tree.replace target bracket index e) scope n x h = first_knows (target ∷ []) _ scope x h
    knows_stmt (if_else c fs ss site) scope n x h =
        let A = lowered group_of base_of base_of_name c scope n in
        let B = lowered_block group_of base_of base_of_name fs scope A.next in
        let C = lowered_block group_of base_of base_of_name ss scope B.next in
        push_knows (merged (names_bound fs ++ names_bound ss) B.scope C.scope) C.next scope x h
    knows_stmt (while_do c body site) scope n x h =
        let all = carried (names_bound body) scope in
        let T = lowered group_of base_of base_of_name c (pushed all n scope) (n + length all) in
        let B = lowered_block group_of base_of base_of_name body (pushed all n scope) T.next in
        push_knows all B.next scope x h
    knows_stmt (do_while body c site test) scope n x h =
        let all = once [] (names_bound body) in
        let S = starts base_of_name site all scope n in
        let B = lowered_block group_of base_of base_of_name body (pushed all S.next scope) (S.next + length all) in
        let T = lowered group_of base_of base_of_name c (pushed all S.next scope) B.next in
        push_knows all T.next scope x h

    pub knows_block : (ss : Block) (scope : Scope) (n : ℕ) (x : Name) → is_known scope x ≡ true → is_known (lowered_block group_of base_of base_of_name ss scope n).scope x ≡ true
    knows_block no_stmts scope n x h = h
    knows_block (stmt_and st rest) scope n x h =
        let A = lowered_stmt group_of base_of base_of_name st scope n in
        knows_block rest A.scope A.next x (knows_stmt st scope n x h)

pub and_left : (a b : Bool) → (a && b) ≡ true → a ≡ true
and_left true b h = refl
and_left false b h = absurd (cc)

pub and_right : (a b : Bool) → (a && b) ≡ true → b ≡ true
and_right true b h = h
and_right false b h = absurd (cc)

-- names bound to new variables
after_names : (n m : ℕ) (xs : List Name) (hi : ℕ) (vs ws : List Var) (scope : Scope) (rest : BlockTerm) → n ≤ m → Later n m vs ws → Clear m hi ws → ScopeIn scope ws → ((us : List Var) → Later n (m + length xs) vs us → Clear (m + length xs) hi us → ScopeIn (pushed xs m scope) us → Scoped us rest) → Scoped (variables_from m (length xs) ++ ws) rest
after_names n m xs hi vs ws scope rest p l c s k =
    let ts = variables_from m (length xs) in
    k (ts ++ ws) (later_more n m m (m + length xs) vs ws (ts ++ ws) p (omega arith) l (later_from m (length xs) ws)) (clear_from m (length xs) hi ws c)
    (scope_pushed xs m scope (ts ++ ws) (λ y h. in_more y ts ws ∙ or_first_true (is_in y ts) (is_in y ws) h) (scope_wider scope ws (ts ++ ws) (λ y h. in_front y ts ws h) s))

-- ---- what is lowered is scoped

module _ (group_of : Name → ℕ) (base_of : Expr → Option Base) (base_of_name : Name → Base) where
  mutual
    pub scoped : (e : Expr) (scope : Scope) (n hi : ℕ) (vs : List Var) (rest : BlockTerm) → Below n scope → ScopeIn scope vs → Clear n hi vs → (lowered group_of base_of base_of_name e scope n).next ≤ hi → ((ws : List Var) → Later n (lowered group_of base_of base_of_name e scope n).next vs ws → Clear (lowered group_of base_of base_of_name e scope n).next hi ws → is_in (lowered group_of base_of base_of_name e scope n).result ws ≡ true → Scoped ws rest) → Scoped vs (chain (lowered group_of base_of base_of_name e scope n).lets rest)
    scoped (number z site) scope n hi vs rest b s c q k = last_scoped n n hi vs vs site (Plain (PlainTerm.Const (scalar Int z))) rest (omega arith) q (later_self n n vs) c tt k
    scoped (truth t site) scope n hi vs rest b s c q k = last_scoped n n hi vs vs site (Plain (PlainTerm.Const (scalar Truth (of_truth t)))) rest (omega arith) q (later_self n n vs) c tt k
    scoped (variable name site) scope n hi vs rest b s c q k = used_scoped site (var_in scope name) n hi vs rest (λ x p. s name x p) c q k
    scoped (Tree.literal es site) scope n hi vs rest b s c q k =
        let A = lowered_all group_of base_of base_of_name es scope n in
        let a = grows_all group_of base_of base_of_name es scope n b in
        more_scoped vs A.lets _ rest (scoped_all es scope n hi vs _ b s c (omega arith)
        (λ ws l d h. last_scoped n A.next hi vs ws site (Plain (PlainTerm.Literal A.results)) rest a.later q l d h k))
    scoped (Tree.unary op e site) scope n hi vs rest b s c q k =
        let A = lowered group_of base_of base_of_name e scope n in
        let a = grows group_of base_of base_of_name e scope n b in
        more_scoped vs A.lets _ rest (scoped e scope n hi vs _ b s c (omega arith)
        (λ ws l d h. last_scoped n A.next hi vs ws site (Plain (PlainTerm.Unary op A.result)) rest a.later q l d (h, tt) k))
    scoped (Tree.binary op e1 e2 site) scope n hi vs rest b s c q k =
        let A = lowered group_of base_of base_of_name e1 scope n in
        let a = grows group_of base_of base_of_name e1 scope n b in
        let b' = below_more n A.next scope b a.later in
        let B = lowered group_of base_of base_of_name e2 scope A.next in
        let a' = grows group_of base_of base_of_name e2 scope A.next b' in
        more_scoped vs (A.lets ++ B.lets) _ rest (more_scoped vs A.lets B.lets _ (scoped e1 scope n hi vs _ b s c (let u = a'.later in omega arith)
        (λ ws l d h. scoped e2 scope A.next hi ws _ b' (scope_wider scope vs ws l.wider s) d (omega arith)
        (λ us l' d' h'. last_scoped n B.next hi vs us site (Plain (PlainTerm.Binary op A.result B.result)) rest (let u = a.later in let v = a'.later in omega arith) q (later_more n A.next A.next B.next vs ws us a.later a'.later l l') d' (l'.wider A.result h, (h', tt)) k))))
    scoped (choice e0 e1 e2 site) scope n hi vs rest b s c q k =
        let A = lowered group_of base_of base_of_name e0 scope n in
        let a = grows group_of base_of base_of_name e0 scope n b in
        let b1 = below_more n A.next scope b a.later in
        let B = lowered group_of base_of base_of_name e1 scope A.next in
        let a1 = grows group_of base_of base_of_name e1 scope A.next b1 in
        let b2 = below_more A.next B.next scope b1 a1.later in
        let C = lowered group_of base_of base_of_name e2 scope B.next in
        let a2 = grows group_of base_of base_of_name e2 scope B.next b2 in
        let u0 = a.later in let u1 = a1.later in let u2 = a2.later in
        more_scoped vs A.lets _ rest (scoped e0 scope n hi vs _ b s c (omega arith)
        (λ ws l d h.
        let s' = scope_wider scope vs ws l.wider s in
        last_scoped n C.next hi vs ws site (RightTerm.If A.result (chain B.lets (Gives (B.result ∷ []))) (chain C.lets (Gives (C.result ∷ [])))) rest (omega arith) q (later_more n A.next A.next C.next vs ws ws a.later (omega arith) l (later_self A.next C.next ws)) (clear_less A.next C.next hi hi ws (omega arith) (omega arith) d) (
          h,
          scoped e1 scope A.next hi ws (Gives (B.result ∷ [])) b1 s' d (omega arith) (λ us l' d' h'. (h', tt)),
          scoped e2 scope B.next hi ws (Gives (C.result ∷ [])) b2 s' (clear_less A.next B.next hi hi ws u1 (omega arith) d) (omega arith) (λ us l' d' h'. (h', tt)),
        ) k))
    scoped (Tree.select e1 e2 site) scope n hi vs rest b s c q k =
        let A = lowered group_of base_of base_of_name e1 scope n in
        let a = grows group_of base_of base_of_name e1 scope n b in
        let b' = below_more n A.next scope b a.later in
        let B = lowered group_of base_of base_of_name e2 scope A.next in
        let a' = grows group_of base_of base_of_name e2 scope A.next b' in
        more_scoped vs (A.lets ++ B.lets) _ rest (more_scoped vs A.lets B.lets _ (scoped e1 scope n hi vs _ b s c (let u = a'.later in omega arith)
        (λ ws l d h. scoped e2 scope A.next hi ws _ b' (scope_wider scope vs ws l.wider s) d (omega arith)
        (λ us l' d' h'. last_scoped n B.next hi vs us site (Plain (PlainTerm.Select A.result B.result)) rest (let u = a.later in let v = a'.later in omega arith) q (later_more n A.next A.next B.next vs ws us a.later a'.later l l') d' (l'.wider A.result h, (h', tt)) k))))
    scoped (call name es site) scope n hi vs rest b s c q k =
        let A = lowered_all group_of base_of base_of_name es scope n in
        let a = grows_all group_of base_of base_of_name es scope n b in
        more_scoped vs A.lets _ rest (scoped_all es scope n hi vs _ b s c (omega arith)
        (λ ws l d h. last_scoped n A.next hi vs ws site (RightTerm.Call (group_of name) A.results) rest a.later q l d h k))
    scoped (builtin t es site) scope n hi vs rest b s c q k =
        let A = lowered_all group_of base_of base_of_name es scope n in
        let a = grows_all group_of base_of base_of_name es scope n b in
        more_scoped vs A.lets _ rest (scoped_all es scope n hi vs _ b s c (omega arith)
        (λ ws l d h. last_scoped n A.next hi vs ws site (Plain (built_in t A.results)) rest a.later q l d (builtin_in t A.results ws h) k))
    scoped (with_loop gs op site) scope n hi vs rest b s c q k =
        let base = default_base base_of gs in
        let A = lowered_gens group_of base_of base_of_name gs scope n in
        let a = grows_gens group_of base_of base_of_name gs scope n b in
        let b' = below_more n A.next scope b a in
        let B = lowered_operation group_of base_of base_of_name op base scope A.next in
        let a' = grows_operation group_of base_of base_of_name op base scope A.next b' in
        more_scoped vs (A.lets ++ B.lets) _ rest (more_scoped vs A.lets B.lets _ (scoped_gens gs scope n hi vs _ b s c (omega arith)
        (λ ws l d h. scoped_operation op base scope A.next hi ws _ b' (scope_wider scope vs ws l.wider s) d (omega arith)
        (λ us l' d' h'. last_scoped n B.next hi vs us B.site (RightTerm.With B.op A.gens) rest (omega arith) q (later_more n A.next A.next B.next vs ws us a a' l l') d' (h', h us (later_less A.next B.next hi ws us (omega arith) l')) k))))

    pub scoped_all : (es : Exprs) (scope : Scope) (n hi : ℕ) (vs : List Var) (rest : BlockTerm) → Below n scope → ScopeIn scope vs → Clear n hi vs → (lowered_all group_of base_of base_of_name es scope n).next ≤ hi → ((ws : List Var) → Later n (lowered_all group_of base_of base_of_name es scope n).next vs ws → Clear (lowered_all group_of base_of base_of_name es scope n).next hi ws → AllIn (lowered_all group_of base_of base_of_name es scope n).results ws → Scoped ws rest) → Scoped vs (chain (lowered_all group_of base_of base_of_name es scope n).lets rest)
    scoped_all no_exprs scope n hi vs rest b s c q k = k vs (later_self n n vs) c tt
    scoped_all (expr_and e es) scope n hi vs rest b s c q k =
        let A = lowered group_of base_of base_of_name e scope n in
        let a = grows group_of base_of base_of_name e scope n b in
        let b' = below_more n A.next scope b a.later in
        let B = lowered_all group_of base_of base_of_name es scope A.next in
        let a' = grows_all group_of base_of base_of_name es scope A.next b' in
        more_scoped vs A.lets B.lets rest (scoped e scope n hi vs _ b s c (let u = a'.later in omega arith)
        (λ ws l d h. scoped_all es scope A.next hi ws rest b' (scope_wider scope vs ws l.wider s) d q
        (λ us l' d' h'. k us (later_more n A.next A.next B.next vs ws us a.later a'.later l l') d' (l'.wider A.result h, h'))))

    scoped_maybe : (e : MaybeExpr) (scope : Scope) (n hi : ℕ) (vs : List Var) (rest : BlockTerm) → Below n scope → ScopeIn scope vs → Clear n hi vs → (lowered_maybe group_of base_of base_of_name e scope n).next ≤ hi → ((ws : List Var) → Later n (lowered_maybe group_of base_of base_of_name e scope n).next vs ws → Clear (lowered_maybe group_of base_of base_of_name e scope n).next hi ws → AllIn (option_to_list (lowered_maybe group_of base_of base_of_name e scope n).result) ws → Scoped ws rest) → Scoped vs (chain (lowered_maybe group_of base_of base_of_name e scope n).lets rest)
    scoped_maybe left_out scope n hi vs rest b s c q k = k vs (later_self n n vs) c tt
    scoped_maybe (given e) scope n hi vs rest b s c q k = scoped e scope n hi vs rest b s c q (λ ws l d h. k ws l d (h, tt))

    scoped_bound : (e : BoundTree) (scope : Scope) (n hi : ℕ) (vs : List Var) (rest : BlockTerm) → Below n scope → ScopeIn scope vs → Clear n hi vs → (lowered_bound group_of base_of base_of_name e scope n).next ≤ hi → ((ws : List Var) → Later n (lowered_bound group_of base_of base_of_name e scope n).next vs ws → Clear (lowered_bound group_of base_of base_of_name e scope n).next hi ws → AllIn (option_to_list (lowered_bound group_of base_of base_of_name e scope n).result) ws → Scoped ws rest) → Scoped vs (chain (lowered_bound group_of base_of base_of_name e scope n).lets rest)
    scoped_bound (dot site) scope n hi vs rest b s c q k = k vs (later_self n n vs) c tt
    scoped_bound (at e) scope n hi vs rest b s c q k = scoped e scope n hi vs rest b s c q (λ ws l d h. k ws l d (h, tt))

    -- what is bound later hides nothing of a generator, whose own variables have numbers before it
    scoped_gen : (g0 : Gen) (scope : Scope) (n hi : ℕ) (vs : List Var) (rest : BlockTerm) → Below n scope → ScopeIn scope vs → Clear n hi vs → (lowered_gen group_of base_of base_of_name g0 scope n).next ≤ hi → ((ws : List Var) → Later n (lowered_gen group_of base_of base_of_name g0 scope n).next vs ws → Clear (lowered_gen group_of base_of base_of_name g0 scope n).next hi ws → ((us : List Var) → Later (lowered_gen group_of base_of base_of_name g0 scope n).next hi ws us → OneGen us (lowered_gen group_of base_of base_of_name g0 scope n).head (lowered_gen group_of base_of base_of_name g0 scope n).body) → Scoped ws rest) → Scoped vs (chain (lowered_gen group_of base_of base_of_name g0 scope n).lets rest)
    scoped_gen (gen lower lower_closed index upper upper_closed step width body cell site) scope n hi vs rest b s c q k =
        let L = lowered_bound group_of base_of base_of_name lower scope n in
        let gl = (grows_bound group_of base_of base_of_name lower scope n b).later in
        let b1 = below_more n L.next scope b gl in
        let U = lowered_bound group_of base_of base_of_name upper scope L.next in
        let gu = (grows_bound group_of base_of base_of_name upper scope L.next b1).later in
        let b2 = below_more L.next U.next scope b1 gu in
        let S = lowered_maybe group_of base_of base_of_name step scope U.next in
        let gs = (grows_maybe group_of base_of base_of_name step scope U.next b2).later in
        let b3 = below_more U.next S.next scope b2 gs in
        let W = lowered_maybe group_of base_of base_of_name width scope S.next in
        let gw = (grows_maybe group_of base_of base_of_name width scope S.next b3).later in
        let b4 = below_more S.next W.next scope b3 gw in
        let inside = index_scope index W.next scope in
        let m = after_index index W.next in
        let B = lowered_block group_of base_of base_of_name body inside m in
        let C = lowered group_of base_of base_of_name cell B.scope B.next in
        let gi = index_below index W.next scope b4 in
        let gb = grows_block group_of base_of base_of_name body inside m gi.1 in
        let gc = grows group_of base_of base_of_name cell B.scope B.next gb.below in
        let i0 = gi.0 in let i1 = gb.later in let i2 = gc.later in
        more_scoped vs L.lets (U.lets ++ (S.lets ++ W.lets)) rest
        (scoped_bound lower scope n hi vs _ b s c (omega arith) (λ w1 l1 c1 h1.
        more_scoped w1 U.lets (S.lets ++ W.lets) rest
        (scoped_bound upper scope L.next hi w1 _ b1 (scope_wider scope vs w1 l1.wider s) c1 (omega arith) (λ w2 l2 c2 h2.
        let l02 = later_more n L.next L.next U.next vs w1 w2 gl gu l1 l2 in
        more_scoped w2 S.lets W.lets rest
        (scoped_maybe step scope U.next hi w2 _ b2 (scope_wider scope vs w2 l02.wider s) c2 (omega arith) (λ w3 l3 c3 h3.
        let l03 = later_more n U.next U.next S.next vs w2 w3 (omega arith) gs l02 l3 in
        scoped_maybe width scope S.next hi w3 rest b3 (scope_wider scope vs w3 l03.wider s) c3 (omega arith) (λ w4 l4 c4 h4.
        let l04 = later_more n S.next S.next W.next vs w3 w4 (omega arith) gw l03 l4 in
        k w4 (later_more n W.next W.next C.next vs w4 w4 (omega arith) (omega arith) l04 (later_self W.next C.next w4)) (clear_less W.next C.next hi hi w4 (omega arith) (omega arith) c4)
        (λ us lu.
        let wide : Wider w4 us = lu.wider in
        let clear : Clear W.next C.next us = clear_later W.next C.next hi w4 us q c4 lu (clear_less W.next W.next hi C.next w4 (omega arith) q c4) in
        let inner = (numbered W.next ∷ index_names index W.next) ++ us in
        record {
          heads = head_in L.result U.result S.result W.result us
              (all_wider (option_to_list L.result) w1 us (λ y p. wide y (l4.wider y (l3.wider y (l2.wider y p)))) h1)
              (all_wider (option_to_list U.result) w2 us (λ y p. wide y (l4.wider y (l3.wider y p))) h2)
              (all_wider (option_to_list S.result) w3 us (λ y p. wide y (l4.wider y p)) h3)
              (all_wider (option_to_list W.result) w4 us wide h4);
          apart = index_none index W.next C.next us (omega arith) clear;
          inside = more_scoped inner B.lets C.lets _
              (scoped_block body inside m C.next inner _ gi.1 (index_in index W.next scope us (scope_wider scope vs us (λ y p. wide y (l04.wider y p)) s)) (index_clear index W.next C.next us clear) i2
              (λ xs lx cx sx. scoped cell B.scope B.next C.next xs (Gives (C.result ∷ [])) gb.below sx cx (omega arith) (λ ys ly cy hy. (hy, tt))));
        }))))))))

    scoped_gens : (gs : Gens) (scope : Scope) (n hi : ℕ) (vs : List Var) (rest : BlockTerm) → Below n scope → ScopeIn scope vs → Clear n hi vs → (lowered_gens group_of base_of base_of_name gs scope n).next ≤ hi → ((ws : List Var) → Later n (lowered_gens group_of base_of base_of_name gs scope n).next vs ws → Clear (lowered_gens group_of base_of base_of_name gs scope n).next hi ws → ((us : List Var) → Later (lowered_gens group_of base_of base_of_name gs scope n).next hi ws us → ScopedGens us (lowered_gens group_of base_of base_of_name gs scope n).gens) → Scoped ws rest) → Scoped vs (chain (lowered_gens group_of base_of base_of_name gs scope n).lets rest)
    scoped_gens no_gens scope n hi vs rest b s c q k = k vs (later_self n n vs) c (λ us l. tt)
    scoped_gens (gen_and g0 gs) scope n hi vs rest b s c q k =
        let A = lowered_gen group_of base_of base_of_name g0 scope n in
        let a = grows_gen group_of base_of base_of_name g0 scope n b in
        let b' = below_more n A.next scope b a in
        let B = lowered_gens group_of base_of base_of_name gs scope A.next in
        let a' = grows_gens group_of base_of base_of_name gs scope A.next b' in
        more_scoped vs A.lets B.lets rest (scoped_gen g0 scope n hi vs _ b s c (omega arith)
        (λ ws l d h. scoped_gens gs scope A.next hi ws rest b' (scope_wider scope vs ws l.wider s) d q
        (λ us l' d' h'. k us (later_more n A.next A.next B.next vs ws us a a' l l') d'
        (λ xs lx.
        let o = h xs (later_both A.next B.next hi ws us xs a' q l' lx) in
        (o.heads, o.apart, o.inside, h' xs lx)))))

    scoped_operation : (op : OperationTree) (base : Base) (scope : Scope) (n hi : ℕ) (vs : List Var) (rest : BlockTerm) → Below n scope → ScopeIn scope vs → Clear n hi vs → (lowered_operation group_of base_of base_of_name op base scope n).next ≤ hi → ((ws : List Var) → Later n (lowered_operation group_of base_of base_of_name op base scope n).next vs ws → Clear (lowered_operation group_of base_of base_of_name op base scope n).next hi ws → AllIn (op_uses (lowered_operation group_of base_of base_of_name op base scope n).op) ws → Scoped ws rest) → Scoped vs (chain (lowered_operation group_of base_of base_of_name op base scope n).lets rest)
    scoped_operation (genarray shape left_out site) base scope n hi vs rest b s c q k =
        let A = lowered group_of base_of base_of_name shape scope n in
        let a = grows group_of base_of base_of_name shape scope n b in
        more_scoped vs A.lets _ rest (scoped shape scope n hi vs _ b s c (omega arith)
        (λ ws l d h. (
          tt,
          (not_there A.next hi ws (omega arith) d, tt),
          k (numbered A.next ∷ ws) (later_more n A.next A.next (suc A.next) vs ws (numbered A.next ∷ ws) a.later (omega arith) l (later_one A.next hi ws)) (clear_one A.next hi ws d)
              (or_second_true (eqb A.next A.result.0) (is_in A.result ws) h, (or_first_true (eqb A.next A.next) (is_in (numbered A.next) ws) (is_itself A.next), tt)),
        )))
    scoped_operation (genarray shape (given e) site) base scope n hi vs rest b s c q k =
        let A = lowered group_of base_of base_of_name shape scope n in
        let a = grows group_of base_of base_of_name shape scope n b in
        let b' = below_more n A.next scope b a.later in
        let B = lowered group_of base_of base_of_name e scope A.next in
        let a' = grows group_of base_of base_of_name e scope A.next b' in
        more_scoped vs A.lets B.lets rest (scoped shape scope n hi vs _ b s c (let u = a'.later in omega arith)
        (λ ws l d h. scoped e scope A.next hi ws rest b' (scope_wider scope vs ws l.wider s) d q
        (λ us l' d' h'. k us (later_more n A.next A.next B.next vs ws us a.later a'.later l l') d' (l'.wider A.result h, (h', tt)))))
    scoped_operation (modarray array site) base scope n hi vs rest b s c q k = scoped array scope n hi vs rest b s c q (λ ws l d h. k ws l d (h, tt))
    scoped_operation (Tree.fold op neutral site) base scope n hi vs rest b s c q k = scoped neutral scope n hi vs rest b s c q (λ ws l d h. k ws l d (h, tt))

    scoped_stmt : (st : Stmt) (scope : Scope) (n hi : ℕ) (vs : List Var) (rest : BlockTerm) → Below n scope → ScopeIn scope vs → Clear n hi vs → (lowered_stmt group_of base_of base_of_name st scope n).next ≤ hi → ((ws : List Var) → Later n (lowered_stmt group_of base_of base_of_name st scope n).next vs ws → Clear (lowered_stmt group_of base_of base_of_name st scope n).next hi ws → ScopeIn (lowered_stmt group_of base_of base_of_name st scope n).scope ws → Scoped ws rest) → Scoped vs (chain (lowered_stmt group_of base_of base_of_name st scope n).lets rest)
    scoped_stmt (assign targets (call name es site)) scope n hi vs rest b s c q k =
        let A = lowered_all group_of base_of base_of_name es scope n in
        let a = grows_all group_of base_of base_of_name es scope n b in
        let xs = names targets in
        more_scoped vs A.lets _ rest (scoped_all es scope n hi vs _ b s c (omega arith)
        (λ ws l d h. (
          h,
          none_from A.next (length xs) hi ws q d,
          after_names n A.next xs hi vs ws scope rest a.later l d (scope_wider scope vs ws l.wider s) k,
        )))
    scoped_stmt (assign targets e) scope n hi vs rest b s c q k =
        scoped e scope n hi vs rest b s c q (λ ws l d h. k ws l d (scope_first targets (lowered group_of base_of base_of_name e scope n).result scope ws h (scope_wider scope vs ws l.wider s)))
    scoped_stmt (Tree.replace target bracket index e) scope n hi vs rest b s c q k =
        let I = lowered group_of base_of base_of_name index scope n in
        let gi = grows group_of base_of base_of_name index scope n b in
        let b1 = below_more n I.next scope b gi.later in
        let V = lowered group_of base_of base_of_name e scope I.next in
        let gv = grows group_of base_of base_of_name e scope I.next b1 in
        let b2 = below_more I.next V.next scope b1 gv.later in
        let A = used V.next bracket (var_in scope target.name) in
        let ga = used_grown V.next bracket (var_in scope target.name) (λ x p. b2 target.name x p) in
        let u0 = gi.later in let u1 = gv.later in let u2 = ga.later in
        more_scoped vs (I.lets ++ (V.lets ++ A.lets)) _ rest (more_scoped vs I.lets (V.lets ++ A.lets) _
        (scoped index scope n hi vs _ b s c (omega arith) (λ w1 l1 c1 h1.
        let s1 = scope_wider scope vs w1 l1.wider s in
        more_scoped w1 V.lets A.lets _
        (scoped e scope I.next hi w1 _ b1 s1 c1 (omega arith) (λ w2 l2 c2 h2.
        let s2 = scope_wider scope w1 w2 l2.wider s1 in
        let l02 = later_more n I.next I.next V.next vs w1 w2 u0 u1 l1 l2 in
        used_scoped bracket (var_in scope target.name) V.next hi w2 _ (λ x p. s2 target.name x p) c2 (omega arith) (λ w3 l3 c3 h3.
        let l03 = later_more n V.next V.next A.next vs w2 w3 (omega arith) u2 l02 l3 in
        last_scoped n A.next hi vs w3 bracket (Plain (PlainTerm.Replace A.result I.result V.result)) rest (omega arith) q l03 c3 (h3, (l3.wider I.result (l2.wider I.result h1), (l3.wider V.result h2, tt)))
        (λ us l d h. k us l d (scope_with target.name (numbered A.next) scope us h (scope_wider scope vs us l.wider s)))))))))
    scoped_stmt (if_else c0 fs ss site) scope n hi vs rest b s c q k =
        let A = lowered group_of base_of base_of_name c0 scope n in
        let ga = grows group_of base_of base_of_name c0 scope n b in
        let b1 = below_more n A.next scope b ga.later in
        let B = lowered_block group_of base_of base_of_name fs scope A.next in
        let gb = grows_block group_of base_of base_of_name fs scope A.next b1 in
        let b2 = below_more A.next B.next scope b1 gb.later in
        let C = lowered_block group_of base_of base_of_name ss scope B.next in
        let gc = grows_block group_of base_of base_of_name ss scope B.next b2 in
        let all = names_bound fs ++ names_bound ss in
        let both = merged all B.scope C.scope in
        let u0 = ga.later in let u1 = gb.later in let u2 = gc.later in
        more_scoped vs A.lets _ rest (scoped c0 scope n hi vs _ b s c (omega arith)
        (λ ws l d h.
        let s' = scope_wider scope vs ws l.wider s in
        let in1 = filter_known (λ x. is_known B.scope x && is_known C.scope x) B.scope (once [] all) (λ x p. and_left (is_known B.scope x) (is_known C.scope x) p) in
        let in2 = filter_known (λ x. is_known B.scope x && is_known C.scope x) C.scope (once [] all) (λ x p. and_right (is_known B.scope x) (is_known C.scope x) p) in (
          (
            h,
            scoped_block fs scope A.next hi ws (Gives (vars_in B.scope both)) b1 s' d (omega arith) (λ us l' d' s''. vars_there B.scope both us in1 s''),
            scoped_block ss scope B.next hi ws (Gives (vars_in C.scope both)) b2 s' (clear_less A.next B.next hi hi ws u1 (omega arith) d) (omega arith) (λ us l' d' s''. vars_there C.scope both us in2 s''),
          ),
          none_from C.next (length both) hi ws q (clear_less A.next C.next hi hi ws (omega arith) (omega arith) d),
          after_names n C.next both hi vs ws scope rest (omega arith) (later_less n A.next C.next vs ws (omega arith) l) (clear_less A.next C.next hi hi ws (omega arith) (omega arith) d) s' k,
        )))
    scoped_stmt (while_do c0 body site) scope n hi vs rest b s c q k =
        let all = carried (names_bound body) scope in
        let m = n + length all in
        let inside = pushed all n scope in
        let bi = below_pushed all n m scope b (omega arith) in
        let T = lowered group_of base_of base_of_name c0 inside m in
        let gt = grows group_of base_of base_of_name c0 inside m bi in
        let bt = below_more m T.next inside bi gt.later in
        let B = lowered_block group_of base_of base_of_name body inside T.next in
        let gb = grows_block group_of base_of base_of_name body inside T.next bt in
        let ps = variables_from n (length all) in
        let u0 = gt.later in let u1 = gb.later in
        let inner = scope_pushed all n scope (ps ++ vs) (λ y h. in_more y ps vs ∙ or_first_true (is_in y ps) (is_in y vs) h) (scope_wider scope vs (ps ++ vs) (λ y h. in_front y ps vs h) s) in
        let clear = clear_from n (length all) hi vs c in (
          (
            vars_there scope all vs (filter_known (is_known scope) scope (once [] (names_bound body)) (λ x p. p)) s,
            none_from n (length all) hi vs (omega arith) c,
            scoped c0 inside m hi (ps ++ vs) (Gives (T.result ∷ [])) bi inner clear (omega arith) (λ us l d h. (h, tt)),
            scoped_block body inside T.next hi (ps ++ vs) (Gives (vars_in B.scope all)) bt inner (clear_less m T.next hi hi (ps ++ vs) u0 (omega arith) clear) (omega arith)
                (λ us l d s'. vars_there B.scope all us (known_wider inside B.scope all (λ x p. knows_block group_of base_of base_of_name body inside T.next x p) (pushed_known all all n scope (λ x p. p))) s'),
          ),
          none_from B.next (length all) hi vs q (clear_less n B.next hi hi vs (omega arith) (omega arith) c),
          after_names n B.next all hi vs vs scope rest (omega arith) (later_self n B.next vs) (clear_less n B.next hi hi vs (omega arith) (omega arith) c) s k,
        )
    scoped_stmt (do_while body c0 site test) scope n hi vs rest b s c q k =
        let all = once [] (names_bound body) in
        let S = starts base_of_name site all scope n in
        let gs = (starts_grown base_of_name site all scope n b).later in
        let b1 = below_more n S.next scope b gs in
        let m = S.next + length all in
        let inside = pushed all S.next scope in
        let bi = below_pushed all S.next m scope b1 (omega arith) in
        let B = lowered_block group_of base_of base_of_name body inside m in
        let gb = grows_block group_of base_of base_of_name body inside m bi in
        let bb = below_more m B.next inside bi gb.later in
        let T = lowered group_of base_of base_of_name c0 inside B.next in
        let gt = grows group_of base_of base_of_name c0 inside B.next bb in
        let ps = variables_from S.next (length all) in
        let u0 = gt.later in let u1 = gb.later in
        more_scoped vs S.lets _ rest (starts_scoped base_of_name site all scope n hi vs _ b s c (omega arith)
        (λ ws l d h.
        let s' = scope_wider scope vs ws l.wider s in
        let inner = scope_pushed all S.next scope (ps ++ ws) (λ y p. in_more y ps ws ∙ or_first_true (is_in y ps) (is_in y ws) p) (scope_wider scope ws (ps ++ ws) (λ y p. in_front y ps ws p) s') in
        let clear = clear_from S.next (length all) hi ws d in (
          (
            h,
            none_from S.next (length all) hi ws (omega arith) d,
            scoped c0 inside B.next hi (ps ++ ws) (Gives (T.result ∷ [])) bb inner (clear_less m B.next hi hi (ps ++ ws) u1 (omega arith) clear) (omega arith) (λ us l' d' h'. (h', tt)),
            scoped_block body inside m hi (ps ++ ws) (Gives (vars_in B.scope all)) bi inner clear (omega arith)
                (λ us l' d' s''. vars_there B.scope all us (known_wider inside B.scope all (λ x p. knows_block group_of base_of base_of_name body inside m x p) (pushed_known all all S.next scope (λ x p. p))) s''),
          ),
          none_from T.next (length all) hi ws q (clear_less S.next T.next hi hi ws (omega arith) (omega arith) d),
          after_names n T.next all hi vs ws scope rest (omega arith) (later_less n S.next T.next vs ws (omega arith) l) (clear_less S.next T.next hi hi ws (omega arith) (omega arith) d) s' k,
        )))

    pub scoped_block : (ss : Block) (scope : Scope) (n hi : ℕ) (vs : List Var) (rest : BlockTerm) → Below n scope → ScopeIn scope vs → Clear n hi vs → (lowered_block group_of base_of base_of_name ss scope n).next ≤ hi → ((ws : List Var) → Later n (lowered_block group_of base_of base_of_name ss scope n).next vs ws → Clear (lowered_block group_of base_of base_of_name ss scope n).next hi ws → ScopeIn (lowered_block group_of base_of base_of_name ss scope n).scope ws → Scoped ws rest) → Scoped vs (chain (lowered_block group_of base_of base_of_name ss scope n).lets rest)
    scoped_block no_stmts scope n hi vs rest b s c q k = k vs (later_self n n vs) c s
    scoped_block (stmt_and st more) scope n hi vs rest b s c q k =
        let A = lowered_stmt group_of base_of base_of_name st scope n in
        let a = grows_stmt group_of base_of base_of_name st scope n b in
        let B = lowered_block group_of base_of base_of_name more A.scope A.next in
        let a' = grows_block group_of base_of base_of_name more A.scope A.next a.below in
        more_scoped vs A.lets B.lets rest (scoped_stmt st scope n hi vs _ b s c (let u = a'.later in omega arith)
        (λ ws l d s'. scoped_block more A.scope A.next hi ws rest a.below s' d q
        (λ us l' d' s''. k us (later_more n A.next A.next B.next vs ws us a.later a'.later l l') d' s'')))
