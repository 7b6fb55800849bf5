-- What is lowered has bases that agree.
use Rattle.std.proofs.Common.{◌≡◌, ℕ, zero, suc, ◌+◌, ◌<◌, ◌≤◌, Bool, true, false, ◌||◌, ◌&&◌, cond, eqb, List, [], ◌∷◌, ◌++◌, map, length, Option, Some, None, refl, ap, sym, subst, ◌∙◌, inl, inr, arith, rules}
use Rattle.std.specs.Prelude.{ℤ, pos, ◌^◌, All, zip, bytes_eq, is_some, if◌then◌else◌}
use Rattle.std.proofs.lemmas.Bool.{eqb-true}
use Rattle.sac_base.specs.declared.base.Base.{Base}
use Rattle.sac_base.specs.declared.base.Base.TheVariants.{Int, Bool as Truth}
use Rattle.sac_base.specs.declared.name.Name.{Name}
use Rattle.sac_base.specs.declared.site.Site.{Site}
use Rattle.sac_base.specs.Arrays.{IsArray, IsCell, scalar}
use Rattle.sac_base.specs.Operators.{of_truth}
use Rattle.sac_ast.specs.declared.Target.{Target}
use Rattle.sac_ast.specs.declared.Builtin.{Builtin}
use Rattle.sac_ast.specs.declared.Builtin.TheVariants.{Dim, Shape, Reshape}
use Rattle.sac_ast.specs.Tree.{IndexTree, named, parts, Expr, Exprs, no_exprs, expr_and, MaybeExpr, left_out, given, Stmt, Block, no_stmts, stmt_and, BoundTree, dot, at, Gen, gen, Gens, no_gens, gen_and, OperationTree, number, truth, variable, choice, call, builtin, with_loop, assign, if_else, while_do, do_while, genarray, modarray}
use Rattle.sac_ast.specs.Tree
use Rattle.core_ir.specs.declared.tree.Var.{Var}
use Rattle.core_ir.specs.Terms.{PlainTerm, BlockTerm, LetTerm, RightTerm, CoreTerm, GenHead, Plain, Gives, Bind, chain}
use Rattle.core_ir.specs.WellFormed.{Bases, base_of, HasBase, HasBases, AllHave, OptionHas, ints, LiteralBase, PlainBases, OperationBase, GroupBases, BlockBases, RightBases, GensBases}
use Rattle.source_meaning.specs.Meaning.{names, default_base}
use Rattle.core_lowering.specs.Lowering.{Scope, var_in, numbered, variables_from, pushed, or_first, vars_in, has_name, once, names_bound, is_known, merged, carried, used, built_in, index_scope, index_names, after_index, first_bound, start_of, starts, lowered, lowered_all, lowered_maybe, lowered_bound, lowered_gen, lowered_gens, lowered_operation, lowered_stmt, lowered_block}
use Rattle.core_lowering.specs.Definite.{Names, with_names, index_targets, bound_after, bound_behind, IsDefinite, AreDefinite, MaybeDefinite, BoundDefinite, GenDefinite, GensDefinite, OperationDefinite, StmtDefinite, BlockDefinite}
use Rattle.core_lowering.specs.Typed.{BuiltinBase, TargetsTyped, FirstTyped, IntTargets, IsTyped, LiteralTyped, AllTyped, AreTyped, MaybeTyped, BoundTyped, GenTyped, GensTyped, OperationTyped, StmtTyped, BlockTyped}
use Rattle.core_lowering.proofs.Scopes.{Below, below_more, below_pushed, AllBelow, OptionBelow, not_itself, same_name, push_kept, push_known, push_knows, listed_once}
use Rattle.core_lowering.proofs.Fresh.{used_grown, start_grown, starts_grown, index_below, grows, grows_all, grows_maybe, grows_bound, grows_gen, grows_gens, grows_operation, grows_stmt, grows_block, Covers, covers_stmt, covers_block, covers_pushed, only_block}
use Rattle.core_lowering.proofs.InScope.{chain_more, is_itself, AllKnown, filter_known, pushed_known, known_wider, knows_block, and_left, and_right}

-- ---- bases of variables

-- the variables below a number have the bases that they had
abbrev pub KeepsBases : ℕ → Bases → Bases → Type 0
KeepsBases n g h = (y : Var) → y.0 < n → base_of h y ≡ base_of g y

pub keeps_more : (m n : ℕ) (f g h : Bases) → m ≤ n → KeepsBases m f g → KeepsBases n g h → KeepsBases m f h
keeps_more m n f g h le p q = λ y l. q y (omega arith) ∙ p y l

pub bound_base : (n : ℕ) (t : Base) (g : Bases) → HasBase ((numbered n, t) ∷ g) (numbered n) t
bound_base n t g = λ i. cond (is_itself n i) (Some t) (base_of g (numbered n))

pub bound_keeps : (n : ℕ) (t : Base) (g : Bases) → KeepsBases n g ((numbered n, t) ∷ g)
bound_keeps n t g = λ y l. λ i. cond (not_itself y.0 n l i) (Some t) (base_of g y)

pub zip_keeps : (n count : ℕ) (ts : List Base) (g : Bases) → KeepsBases n g (zip (variables_from n count) ts ++ g)
zip_keeps n zero ts g y l = refl
zip_keeps n (suc count) [] g y l = refl
zip_keeps n (suc count) (t ∷ ts) g y l =
    (λ i. cond (not_itself y.0 n l i) (Some t) (base_of (zip (variables_from (suc n) count) ts ++ g) y)) ∙ zip_keeps (suc n) count ts g y (omega arith)

some_same : {a b : Var} → Some a ≡ Some b → a ≡ b
some_same p = cc

apart : (n m : ℕ) → n < m → eqb n m ≡ false
apart n m h = go (eqb n m) refl
  where
    go : (t : Bool) → eqb n m ≡ t → eqb n m ≡ false
    go true e = absurd (let p = eqb-true n m e in omega arith)
    go false e = e

module _ (base_of_name : Name → Base) where
  -- the variables of names have the names' bases
  abbrev pub ScopeTyped : Scope → Bases → Type 0
  ScopeTyped scope g = (x : Name) (y : Var) → var_in scope x ≡ Some y → HasBase g y (base_of_name x)

  pub typed_later : (n : ℕ) (scope : Scope) (g h : Bases) → Below n scope → KeepsBases n g h → ScopeTyped scope g → ScopeTyped scope h
  typed_later n scope g h b k s x y p = k y (b x y p) ∙ s x y p

  pub typed_with : (x : Name) (z : Var) (scope : Scope) (g : Bases) → HasBase g z (base_of_name x) → ScopeTyped scope g → ScopeTyped ((x, z) ∷ scope) g
  typed_with x z scope g h s other y p = go (bytes_eq other x) refl p
    where
      go : (b : Bool) → bytes_eq other x ≡ b → (if b then Some z else var_in scope other) ≡ Some y → HasBase g y (base_of_name other)
      go true e q = let same : z ≡ y = cc in ap (base_of g) (sym same) ∙ h ∙ ap (λ w. Some (base_of_name w)) (sym (same_name other x e))
      go false e q = s other y q

  pub typed_first : (targets : List Target) (z : Var) (t : Base) (scope : Scope) (g : Bases) → HasBase g z t → FirstTyped base_of_name targets t → ScopeTyped scope g → ScopeTyped (first_bound targets z scope) g
  typed_first [] z t scope g h f s x y p = s x y p
  typed_first (target ∷ targets) z t scope g h f s x y p = typed_with target.name z scope g (h ∙ ap Some (sym f)) s x y p

  -- a new variable of a name has its base
  pub record FoundBase (o : Option Var) (n : ℕ) (g : Bases) (t : Base) : Type 0 where
    pub var : Var
    pub known : o ≡ Some var
    pub later : n ≤ var.0
    pub has : HasBase g var t

  push_base : (xs : List Name) (n : ℕ) (scope : Scope) (g : Bases) (x : Name) → has_name xs x ≡ true → FoundBase (var_in (pushed xs n scope) x) n (zip (variables_from n (length xs)) (map base_of_name xs) ++ g) (base_of_name x)
  push_base [] n scope g x h = absurd (cc)
  push_base (y ∷ xs) n scope g x h = go (has_name xs x) refl (λ e. push_base xs (suc n) ((y, numbered n) ∷ scope) g x e)
    where
      or_last : (a b : Bool) → (a || b) ≡ true → b ≡ false → a ≡ true
      or_last true b k l = refl
      or_last false b k l = absurd (cc)

      go : (t : Bool) → has_name xs x ≡ t → (has_name xs x ≡ true → FoundBase (var_in (pushed xs (suc n) ((y, numbered n) ∷ scope)) x) (suc n) (zip (variables_from (suc n) (length xs)) (map base_of_name xs) ++ g) (base_of_name x)) → FoundBase (var_in (pushed xs (suc n) ((y, numbered n) ∷ scope)) x) n ((numbered n, base_of_name y) ∷ (zip (variables_from (suc n) (length xs)) (map base_of_name xs) ++ g)) (base_of_name x)
      go true e again =
          let a = again e in
          let l = a.later in
          record {
            var = a.var;
            known = a.known;
            later = omega arith;
            has = (λ i. cond (apart n a.var.0 (omega arith) i) (Some (base_of_name y)) (base_of (zip (variables_from (suc n) (length xs)) (map base_of_name xs) ++ g) a.var)) ∙ a.has;
          }
      go false e again =
          let q : bytes_eq x y ≡ true = or_last (bytes_eq x y) (has_name xs x) h e in
          record {
            var = numbered n;
            known = push_kept xs (suc n) ((y, numbered n) ∷ scope) x e ∙ (λ i. if q i then Some (numbered n) else var_in scope x);
            later = omega arith;
            has = bound_base n (base_of_name y) (zip (variables_from (suc n) (length xs)) (map base_of_name xs) ++ g) ∙ ap (λ w. Some (base_of_name w)) (sym (same_name x y q));
          }

  pub pushed_typed : (xs : List Name) (n : ℕ) (scope : Scope) (g : Bases) → Below n scope → ScopeTyped scope g → ScopeTyped (pushed xs n scope) (zip (variables_from n (length xs)) (map base_of_name xs) ++ g)
  pushed_typed xs n scope g b s x y p = go (has_name xs x) refl
    where
      go : (t : Bool) → has_name xs x ≡ t → HasBase (zip (variables_from n (length xs)) (map base_of_name xs) ++ g) y (base_of_name x)
      go true e =
          let a = push_base xs n scope g x e in
          let same : a.var ≡ y = some_same (sym a.known ∙ p) in
          ap (base_of (zip (variables_from n (length xs)) (map base_of_name xs) ++ g)) (sym same) ∙ a.has
      go false e =
          let q = sym (push_kept xs n scope x e) ∙ p in
          zip_keeps n (length xs) (map base_of_name xs) g y (b x y q) ∙ s x y q

  -- the variables of names that are known have the names' bases
  pub vars_typed : (scope : Scope) (xs : List Name) (g : Bases) → AllKnown scope xs → ScopeTyped scope g → HasBases g (vars_in scope xs) (map base_of_name xs)
  vars_typed scope [] g k s = tt
  vars_typed scope (x ∷ xs) g k s = (one (var_in scope x) k.0 (λ y p. s x y p), vars_typed scope xs g k.1 s)
    where
      one : (o : Option Var) → is_some o ≡ true → ((y : Var) → o ≡ Some y → HasBase g y (base_of_name x)) → HasBase g (or_first o) (base_of_name x)
      one None h f = absurd (cc)
      one (Some y) h f = f y refl

has_later : (n : ℕ) (g h : Bases) (xs : List Var) (ts : List Base) → KeepsBases n g h → AllBelow n xs → HasBases g xs ts → HasBases h xs ts
has_later n g h [] [] k b p = tt
has_later n g h (x ∷ xs) (t ∷ ts) k b p = (k x b.0 ∙ p.0, has_later n g h xs ts k b.1 p.1)
has_later n g h [] (t ∷ ts) k b p = p
has_later n g h (x ∷ xs) [] k b p = p

-- ---- scalars

all_one : {X : Type 0} (P : X → Type 0) (x : X) → P x → All P (x ∷ [])
all_one P x h zero d l = h
all_one P x h (suc k) d l = absurd (omega arith)

none_all : {X : Type 0} (P : X → Type 0) → All P []
none_all P k d l = absurd (omega arith)

scalar_array : (t : Base) (z : ℤ) → IsArray (scalar t z)
scalar_array t z = record { shape = record { rank = omega arith; each = none_all (λ n. n < 2 ^ 31) }; most = omega arith; full = refl }

zero_cell : (t : Base) → IsCell t (pos 0)
zero_cell Int = search rules
zero_cell Truth = inl refl

truth_cell : (b : Bool) → IsCell Truth (of_truth b)
truth_cell true = inr refl
truth_cell false = inl refl

-- ---- bindings

pub more_typed : (core : CoreTerm) (g : Bases) (ls ms : List LetTerm) (rest : BlockTerm) (ts : List Base) → BlockBases core g (chain ls (chain ms rest)) ts → BlockBases core g (chain (ls ++ ms) rest) ts
more_typed core g ls ms rest ts h = subst (λ (b : BlockTerm). BlockBases core g b ts) (sym (chain_more ls ms rest)) h

keeps_self : (n : ℕ) (g : Bases) → KeepsBases n g g
keeps_self n g = λ y l. refl

last_typed : (core : CoreTerm) (m : ℕ) (g : Bases) (site : Site) (r : RightTerm) (t : Base) (rest : BlockTerm) (ts : List Base) → RightBases core g r (t ∷ []) → ((h : Bases) → KeepsBases m g h → HasBase h (numbered m) t → BlockBases core h rest ts) → BlockBases core g (Bind (numbered m ∷ []) site r rest) ts
last_typed core m g site r t rest ts p k = (t ∷ [], (p, refl, k ((numbered m, t) ∷ g) (bound_keeps m t g) (bound_base m t g)))

const_typed : (core : CoreTerm) (m : ℕ) (g : Bases) (site : Site) (t : Base) (z : ℤ) (rest : BlockTerm) (ts : List Base) → IsCell t z → ((h : Bases) → KeepsBases m g h → HasBase h (numbered m) t → BlockBases core h rest ts) → BlockBases core g (Bind (numbered m ∷ []) site (Plain (PlainTerm.Const (scalar t z))) rest) ts
const_typed core m g site t z rest ts c k = last_typed core m g site (Plain (PlainTerm.Const (scalar t z))) t rest ts (scalar_array t z, all_one (IsCell t) z c, refl) k

used_typed : (core : CoreTerm) (n : ℕ) (site : Site) (o : Option Var) (g : Bases) (t : Base) (rest : BlockTerm) (ts : List Base) → is_some o ≡ true → ((y : Var) → o ≡ Some y → HasBase g y t) → ((h : Bases) → KeepsBases n g h → HasBase h (used n site o).result t → BlockBases core h rest ts) → BlockBases core g (chain (used n site o).lets rest) ts
used_typed core n site None g t rest ts h f k = absurd (cc)
used_typed core n site (Some y) g t rest ts h f k = k g (keeps_self n g) (f y refl)

start_typed : (core : CoreTerm) (base : Base) (n : ℕ) (site : Site) (o : Option Var) (g : Bases) (rest : BlockTerm) (ts : List Base) → ((y : Var) → o ≡ Some y → HasBase g y base) → ((h : Bases) → KeepsBases n g h → HasBase h (start_of base n site o).result base → BlockBases core h rest ts) → BlockBases core g (chain (start_of base n site o).lets rest) ts
start_typed core base n site None g rest ts f k = const_typed core n g site base (pos 0) rest ts (zero_cell base) k
start_typed core base n site (Some y) g rest ts f k = k g (keeps_self n g) (f y refl)

builtin_bases : (b : Builtin) (xs : List Var) (us : List Base) (g : Bases) (t : Base) → HasBases g xs us → BuiltinBase b us t → PlainBases g (built_in b xs) (t ∷ [])
builtin_bases Dim [] [] g t h d = tt
builtin_bases Dim (x ∷ xs) (u ∷ us) g t h d = (u, h.0, ap (λ z. z ∷ []) d)
builtin_bases Shape [] [] g t h d = tt
builtin_bases Shape (x ∷ xs) (u ∷ us) g t h d = (u, h.0, ap (λ z. z ∷ []) d)
builtin_bases Reshape [] [] g t h d = tt
builtin_bases Reshape (x ∷ []) us g t h d = tt
builtin_bases Reshape (x ∷ y ∷ ys) (u ∷ v ∷ us) g t h d = (t, h.0 ∙ ap Some d.0, h.1.0 ∙ ap Some d.1, refl)
builtin_bases Reshape (x ∷ y ∷ ys) (u ∷ []) g t h d = absurd h.1
builtin_bases Reshape (x ∷ y ∷ ys) [] g t h d = absurd h
builtin_bases Dim [] (u ∷ us) g t h d = absurd h
builtin_bases Dim (x ∷ xs) [] g t h d = absurd h
builtin_bases Shape [] (u ∷ us) g t h d = absurd h
builtin_bases Shape (x ∷ xs) [] g t h d = absurd h
builtin_bases Reshape [] (u ∷ us) g t h d = absurd h

variables_count : (n : ℕ) (xs : List Name) (base_of_name : Name → Base) → length (variables_from n (length xs)) ≡ length (map base_of_name xs)
variables_count n [] f = refl
variables_count n (x ∷ xs) f = ap suc (variables_count (suc n) xs f)

module _ (core : CoreTerm) (base_of_name : Name → Base) where
  starts_typed : (site : Site) (xs : List Name) (scope : Scope) (n : ℕ) (g : Bases) (rest : BlockTerm) (ts : List Base) → Below n scope → ScopeTyped base_of_name scope g → ((h : Bases) → KeepsBases n g h → HasBases h (starts base_of_name site xs scope n).results (map base_of_name xs) → BlockBases core h rest ts) → BlockBases core g (chain (starts base_of_name site xs scope n).lets rest) ts
  starts_typed site [] scope n g rest ts b s k = k g (keeps_self n g) tt
  starts_typed site (x ∷ xs) scope n g rest ts b s k =
      let A = start_of (base_of_name x) n site (var_in scope x) in
      let a = start_grown (base_of_name x) n site (var_in scope x) (λ y p. b x y p) in
      let b' = below_more n A.next scope b a.later in
      let B = starts base_of_name site xs scope A.next in
      more_typed core g A.lets B.lets rest ts
      (start_typed core (base_of_name x) n site (var_in scope x) g _ ts (λ y p. s x y p)
      (λ h l p. starts_typed site xs scope A.next h rest ts b' (typed_later base_of_name n scope g h b l s)
      (λ h' l' p'. k h' (keeps_more n A.next g h h' a.later l l') (l' A.result a.below ∙ p, p'))))

  -- names bound to new variables
  after_bases : (m : ℕ) (xs : List Name) (scope : Scope) (g : Bases) (site : Site) (r : RightTerm) (rest : BlockTerm) (ts : List Base) → Below m scope → ScopeTyped base_of_name scope g → RightBases core g r (map base_of_name xs) → ((h : Bases) → KeepsBases m g h → ScopeTyped base_of_name (pushed xs m scope) h → BlockBases core h rest ts) → BlockBases core g (Bind (variables_from m (length xs)) site r rest) ts
  after_bases m xs scope g site r rest ts b s p k =
      (map base_of_name xs, (p, variables_count m xs base_of_name, k (zip (variables_from m (length xs)) (map base_of_name xs) ++ g) (zip_keeps m (length xs) (map base_of_name xs) g) (pushed_typed base_of_name xs m scope g b s)))

  ints_named : (targets : List Target) (n : ℕ) (g : Bases) → IntTargets base_of_name targets → ints (variables_from n (length (names targets))) ≡ zip (variables_from n (length (names targets))) (map base_of_name (names targets))
  ints_named [] n g d = refl
  ints_named (t ∷ ts) n g d = λ i. (numbered n, sym d.0 i) ∷ ints_named ts (suc n) g d.1 i

  -- a variable before the new ones is none of a scope's
  front_apart : (n : ℕ) (xs : List Name) (scope : Scope) (g : Bases) → Below n scope → ScopeTyped base_of_name scope g → (x : Name) (y : Var) → var_in (pushed xs (suc n) scope) x ≡ Some y → HasBase ((numbered n, Int) ∷ (zip (variables_from (suc n) (length xs)) (map base_of_name xs) ++ g)) y (base_of_name x)
  front_apart n xs scope g b s x y p =
      (λ i. cond (other i) (Some Int) (base_of (zip (variables_from (suc n) (length xs)) (map base_of_name xs) ++ g) y))
      ∙ pushed_typed base_of_name xs (suc n) scope g (below_more n (suc n) scope b (omega arith)) s x y p
    where
      go : (t : Bool) → has_name xs x ≡ t → eqb n y.0 ≡ false
      go true e =
          let a = push_base base_of_name xs (suc n) scope g x e in
          let same : a.var ≡ y = some_same (sym a.known ∙ p) in
          let l = a.later in
          ap (λ z. eqb n z.0) (sym same) ∙ apart n a.var.0 (omega arith)
      go false e = not_itself y.0 n (b x y (sym (push_kept xs (suc n) scope x e) ∙ p))

      other : eqb n y.0 ≡ false
      other = go (has_name xs x) refl

  index_typed : (index : IndexTree) (n : ℕ) (scope : Scope) (g : Bases) → IntTargets base_of_name (index_targets index) → Below n scope → ScopeTyped base_of_name scope g → ScopeTyped base_of_name (index_scope index n scope) (ints (numbered n ∷ index_names index n) ++ g)
  index_typed (named t) n scope g d b s x y p = typed_with base_of_name t.name (numbered n) scope ((numbered n, Int) ∷ g) (bound_base n Int g ∙ ap Some (sym d.0)) (typed_later base_of_name n scope g ((numbered n, Int) ∷ g) b (bound_keeps n Int g) s) x y p
  index_typed (parts ts) n scope g d b s x y p =
      let xs = names ts in
      let inner = zip (variables_from (suc n) (length xs)) (map base_of_name xs) ++ g in
      let whole : HasBase ((numbered n, Int) ∷ inner) y (base_of_name x) = front_apart n xs scope g b s x y p in
      subst (λ (is : Bases). HasBase ((numbered n, Int) ∷ (is ++ g)) y (base_of_name x)) (sym (ints_named ts (suc n) g d)) whole

index_covers : (index : IndexTree) (n : ℕ) (bound : Names) (scope : Scope) → Covers bound scope → Covers (with_names (names (index_targets index)) bound) (index_scope index n scope)
index_covers (named t) n bound scope h x p = covers_pushed (t.name ∷ []) n bound scope h x p
index_covers (parts ts) n bound scope h x p = covers_pushed (names ts) (suc n) bound scope h x p

targets_bases : (base_of_name : Name → Base) (targets : List Target) (ts : List Base) → TargetsTyped base_of_name targets ts → ts ≡ map base_of_name (names targets)
targets_bases f [] [] d = refl
targets_bases f (t ∷ ts) (u ∷ us) d = λ i. sym d.0 i ∷ targets_bases f ts us d.1 i
targets_bases f [] (u ∷ us) d = absurd d
targets_bases f (t ∷ ts) [] d = absurd d

option_later : (n : ℕ) (g h : Bases) (o : Option Var) (t : Base) → KeepsBases n g h → OptionBelow n o → OptionHas g o t → OptionHas h o t
option_later n g h None t k b p = tt
option_later n g h (Some x) t k b p = k x b ∙ p

-- a generator whose operands and cell have bases
record GenBase (core : CoreTerm) (g : Bases) (h : GenHead) (body : BlockTerm) (t : Base) : Type 0 where
  lower : OptionHas g h.lower Int
  upper : OptionHas g h.upper Int
  step : OptionHas g h.step Int
  width : OptionHas g h.width Int
  inside : BlockBases core (ints (h.index ∷ h.names) ++ g) body (t ∷ [])

-- behind a loop's body each name that is bound has a variable
covers_carried : (body : Block) (n : ℕ) (bound : Names) (scope : Scope) → Covers bound scope → Covers (bound_behind body bound) (pushed (once [] (names_bound body)) n scope)
covers_carried body n bound scope v x p = go (has_name (names_bound body) x) refl
  where
    go : (t : Bool) → has_name (names_bound body) x ≡ t → is_known (pushed (once [] (names_bound body)) n scope) x ≡ true
    go true e = push_known (once [] (names_bound body)) n scope x (listed_once (names_bound body) x e)
    go false e = push_knows (once [] (names_bound body)) n scope x (v x (only_block body bound x p e))

-- ---- what is lowered has bases

module _ (group_of : Name → ℕ) (base_of_expr : Expr → Option Base) (base_of_name : Name → Base) (count : Name → ℕ) (Instances : Name → List Base → List Base → Type 0) (core : CoreTerm)
    (instances : (name : Name) (us ts : List Base) → Instances name us ts → GroupBases core (group_of name) us ts) where
  literal_all : (es : Exprs) (t : Base) → LiteralTyped base_of_expr base_of_name Instances es t → AllTyped base_of_expr base_of_name Instances es t
  literal_all no_exprs t d = tt
  literal_all (expr_and e es) t d = d

  literal_has : (es : Exprs) (t : Base) (scope : Scope) (n : ℕ) (h : Bases) → LiteralTyped base_of_expr base_of_name Instances es t → AllHave h (lowered_all group_of base_of_expr base_of_name es scope n).results t → LiteralBase h (lowered_all group_of base_of_expr base_of_name es scope n).results t
  literal_has no_exprs t scope n h d p = d
  literal_has (expr_and e es) t scope n h d p = p

  mutual
    pub typed : (e : Expr) (t : Base) (bound : Names) (scope : Scope) (n : ℕ) (g : Bases) (rest : BlockTerm) (ts : List Base) → IsTyped base_of_expr base_of_name Instances e t → IsDefinite count e bound → Below n scope → Covers bound scope → ScopeTyped base_of_name scope g → ((h : Bases) → KeepsBases n g h → HasBase h (lowered group_of base_of_expr base_of_name e scope n).result t → BlockBases core h rest ts) → BlockBases core g (chain (lowered group_of base_of_expr base_of_name e scope n).lets rest) ts
    typed (number z site) t bound scope n g rest ts d w b v s k = const_typed core n g site Int z rest ts d.0 (λ h l p. k h l (p ∙ ap Some (sym d.1)))
    typed (truth x site) t bound scope n g rest ts d w b v s k = const_typed core n g site Truth (of_truth x) rest ts (truth_cell x) (λ h l p. k h l (p ∙ ap Some (sym d)))
    typed (variable name site) t bound scope n g rest ts d w b v s k = used_typed core n site (var_in scope name) g t rest ts (v name w) (λ y p. s name y p ∙ ap Some d) k
    typed (Tree.literal es site) t bound scope n g rest ts d w b v s k =
        let A = lowered_all group_of base_of_expr base_of_name es scope n in
        let a = grows_all group_of base_of_expr base_of_name es scope n b in
        more_typed core g A.lets _ rest ts (typed_each es t bound scope n g _ ts (literal_all es t d) w b v s
        (λ h l p. last_typed core A.next h site (Plain (PlainTerm.Literal A.results)) t rest ts (t, literal_has es t scope n h d p, refl) (λ h' l' p'. k h' (keeps_more n A.next g h h' a.later l l') p')))
    typed (Tree.unary op e site) t bound scope n g rest ts d w b v s k =
        let A = lowered group_of base_of_expr base_of_name e scope n in
        let a = grows group_of base_of_expr base_of_name e scope n b in
        more_typed core g A.lets _ rest ts (typed e d.0 bound scope n g _ ts d.1.0 w b v s
        (λ h l p. last_typed core A.next h site (Plain (PlainTerm.Unary op A.result)) t rest ts (d.0, (t, p, d.1.1, refl)) (λ h' l' p'. k h' (keeps_more n A.next g h h' a.later l l') p')))
    typed (Tree.binary op e1 e2 site) t bound scope n g rest ts d w b v s k =
        let A = lowered group_of base_of_expr base_of_name e1 scope n in
        let a = grows group_of base_of_expr base_of_name e1 scope n b in
        let b' = below_more n A.next scope b a.later in
        let B = lowered group_of base_of_expr base_of_name e2 scope A.next in
        let a' = grows group_of base_of_expr base_of_name e2 scope A.next b' in
        more_typed core g (A.lets ++ B.lets) _ rest ts (more_typed core g A.lets B.lets _ ts (typed e1 d.0 bound scope n g _ ts d.1.0 w.0 b v s
        (λ h l p. typed e2 d.0 bound scope A.next h _ ts d.1.1 w.1 b' v (typed_later base_of_name n scope g h b l s)
        (λ h' l' p'. last_typed core B.next h' site (Plain (PlainTerm.Binary op A.result B.result)) t rest ts (d.0, (t, l' A.result a.below ∙ p, p', d.1.2, refl)) (λ h'' l'' p''. k h'' (keeps_more n A.next g h h'' a.later l (keeps_more A.next B.next h h' h'' a'.later l' l'')) p'')))))
    typed (choice e0 e1 e2 site) t bound scope n g rest ts d w b v s k =
        let A = lowered group_of base_of_expr base_of_name e0 scope n in
        let a = grows group_of base_of_expr base_of_name e0 scope n b in
        let b1 = below_more n A.next scope b a.later in
        let B = lowered group_of base_of_expr base_of_name e1 scope A.next in
        let a1 = grows group_of base_of_expr base_of_name e1 scope A.next b1 in
        let b2 = below_more A.next B.next scope b1 a1.later in
        let C = lowered group_of base_of_expr base_of_name e2 scope B.next in
        let a2 = grows group_of base_of_expr base_of_name e2 scope B.next b2 in
        let u0 = a.later in let u1 = a1.later in let u2 = a2.later in
        let right = RightTerm.If A.result (chain B.lets (Gives (B.result ∷ []))) (chain C.lets (Gives (C.result ∷ []))) in
        more_typed core g A.lets _ rest ts (typed e0 Truth bound scope n g _ ts d.0 w.0 b v s
        (λ h l p.
        let s' = typed_later base_of_name n scope g h b l s in
        last_typed core C.next h site right t rest ts (
          p,
          typed e1 t bound scope A.next h (Gives (B.result ∷ [])) (t ∷ []) d.1 w.1 b1 v s' (λ h' l' p'. (p', tt)),
          typed e2 t bound scope B.next h (Gives (C.result ∷ [])) (t ∷ []) d.2 w.2 b2 v s' (λ h' l' p'. (p', tt)),
        )
        (λ h' l' p'. k h' (keeps_more n C.next g h h' (omega arith) l l') p')))
    typed (Tree.select e1 e2 site) t bound scope n g rest ts d w b v s k =
        let A = lowered group_of base_of_expr base_of_name e1 scope n in
        let a = grows group_of base_of_expr base_of_name e1 scope n b in
        let b' = below_more n A.next scope b a.later in
        let B = lowered group_of base_of_expr base_of_name e2 scope A.next in
        let a' = grows group_of base_of_expr base_of_name e2 scope A.next b' in
        more_typed core g (A.lets ++ B.lets) _ rest ts (more_typed core g A.lets B.lets _ ts (typed e1 t bound scope n g _ ts d.0 w.0 b v s
        (λ h l p. typed e2 Int bound scope A.next h _ ts d.1 w.1 b' v (typed_later base_of_name n scope g h b l s)
        (λ h' l' p'. last_typed core B.next h' site (Plain (PlainTerm.Select A.result B.result)) t rest ts (t, l' A.result a.below ∙ p, p', refl) (λ h'' l'' p''. k h'' (keeps_more n A.next g h h'' a.later l (keeps_more A.next B.next h h' h'' a'.later l' l'')) p'')))))
    typed (call name es site) t bound scope n g rest ts d w b v s k =
        let A = lowered_all group_of base_of_expr base_of_name es scope n in
        let a = grows_all group_of base_of_expr base_of_name es scope n b in
        more_typed core g A.lets _ rest ts (typed_all es d.0 bound scope n g _ ts d.1.0 w b v s
        (λ h l p. last_typed core A.next h site (RightTerm.Call (group_of name) A.results) t rest ts (d.0, (p, instances name d.0 (t ∷ []) d.1.1)) (λ h' l' p'. k h' (keeps_more n A.next g h h' a.later l l') p')))
    typed (builtin x es site) t bound scope n g rest ts d w b v s k =
        let A = lowered_all group_of base_of_expr base_of_name es scope n in
        let a = grows_all group_of base_of_expr base_of_name es scope n b in
        more_typed core g A.lets _ rest ts (typed_all es d.0 bound scope n g _ ts d.1.0 w b v s
        (λ h l p. last_typed core A.next h site (Plain (built_in x A.results)) t rest ts (builtin_bases x A.results d.0 h t p d.1.1) (λ h' l' p'. k h' (keeps_more n A.next g h h' a.later l l') p')))
    typed (with_loop gs op site) t bound scope n g rest ts d w b v s k =
        let base = default_base base_of_expr gs in
        let A = lowered_gens group_of base_of_expr base_of_name gs scope n in
        let a = grows_gens group_of base_of_expr base_of_name gs scope n b in
        let b' = below_more n A.next scope b a in
        let B = lowered_operation group_of base_of_expr base_of_name op base scope A.next in
        let a' = grows_operation group_of base_of_expr base_of_name op base scope A.next b' in
        more_typed core g (A.lets ++ B.lets) _ rest ts (more_typed core g A.lets B.lets _ ts (typed_gens gs t bound scope n g _ ts d.0 w.0 b v s
        (λ h l p. typed_operation op base t bound scope A.next h _ ts d.1 w.1 b' v (typed_later base_of_name n scope g h b l s)
        (λ h' l' p'. last_typed core B.next h' B.site (RightTerm.With B.op A.gens) t rest ts (t, (p', p h' l', refl)) (λ h'' l'' p''. k h'' (keeps_more n A.next g h h'' a l (keeps_more A.next B.next h h' h'' a' l' l'')) p'')))))

    typed_each : (es : Exprs) (t : Base) (bound : Names) (scope : Scope) (n : ℕ) (g : Bases) (rest : BlockTerm) (ts : List Base) → AllTyped base_of_expr base_of_name Instances es t → AreDefinite count es bound → Below n scope → Covers bound scope → ScopeTyped base_of_name scope g → ((h : Bases) → KeepsBases n g h → AllHave h (lowered_all group_of base_of_expr base_of_name es scope n).results t → BlockBases core h rest ts) → BlockBases core g (chain (lowered_all group_of base_of_expr base_of_name es scope n).lets rest) ts
    typed_each no_exprs t bound scope n g rest ts d w b v s k = k g (keeps_self n g) tt
    typed_each (expr_and e es) t bound scope n g rest ts d w b v s k =
        let A = lowered group_of base_of_expr base_of_name e scope n in
        let a = grows group_of base_of_expr base_of_name e scope n b in
        let b' = below_more n A.next scope b a.later in
        let B = lowered_all group_of base_of_expr base_of_name es scope A.next in
        more_typed core g A.lets B.lets rest ts (typed e t bound scope n g _ ts d.0 w.0 b v s
        (λ h l p. typed_each es t bound scope A.next h rest ts d.1 w.1 b' v (typed_later base_of_name n scope g h b l s)
        (λ h' l' p'. k h' (keeps_more n A.next g h h' a.later l l') (l' A.result a.below ∙ p, p'))))

    pub typed_all : (es : Exprs) (us : List Base) (bound : Names) (scope : Scope) (n : ℕ) (g : Bases) (rest : BlockTerm) (ts : List Base) → AreTyped base_of_expr base_of_name Instances es us → AreDefinite count es bound → Below n scope → Covers bound scope → ScopeTyped base_of_name scope g → ((h : Bases) → KeepsBases n g h → HasBases h (lowered_all group_of base_of_expr base_of_name es scope n).results us → BlockBases core h rest ts) → BlockBases core g (chain (lowered_all group_of base_of_expr base_of_name es scope n).lets rest) ts
    typed_all no_exprs [] bound scope n g rest ts d w b v s k = k g (keeps_self n g) tt
    typed_all no_exprs (u ∷ us) bound scope n g rest ts d w b v s k = absurd d
    typed_all (expr_and e es) [] bound scope n g rest ts d w b v s k = absurd d
    typed_all (expr_and e es) (u ∷ us) bound scope n g rest ts d w b v s k =
        let A = lowered group_of base_of_expr base_of_name e scope n in
        let a = grows group_of base_of_expr base_of_name e scope n b in
        let b' = below_more n A.next scope b a.later in
        let B = lowered_all group_of base_of_expr base_of_name es scope A.next in
        more_typed core g A.lets B.lets rest ts (typed e u bound scope n g _ ts d.0 w.0 b v s
        (λ h l p. typed_all es us bound scope A.next h rest ts d.1 w.1 b' v (typed_later base_of_name n scope g h b l s)
        (λ h' l' p'. k h' (keeps_more n A.next g h h' a.later l l') (l' A.result a.below ∙ p, p'))))

    typed_maybe : (e : MaybeExpr) (t : Base) (bound : Names) (scope : Scope) (n : ℕ) (g : Bases) (rest : BlockTerm) (ts : List Base) → MaybeTyped base_of_expr base_of_name Instances e t → MaybeDefinite count e bound → Below n scope → Covers bound scope → ScopeTyped base_of_name scope g → ((h : Bases) → KeepsBases n g h → OptionHas h (lowered_maybe group_of base_of_expr base_of_name e scope n).result t → BlockBases core h rest ts) → BlockBases core g (chain (lowered_maybe group_of base_of_expr base_of_name e scope n).lets rest) ts
    typed_maybe left_out t bound scope n g rest ts d w b v s k = k g (keeps_self n g) tt
    typed_maybe (given e) t bound scope n g rest ts d w b v s k = typed e t bound scope n g rest ts d w b v s k

    typed_bound : (e : BoundTree) (bound : Names) (scope : Scope) (n : ℕ) (g : Bases) (rest : BlockTerm) (ts : List Base) → BoundTyped base_of_expr base_of_name Instances e → BoundDefinite count e bound → Below n scope → Covers bound scope → ScopeTyped base_of_name scope g → ((h : Bases) → KeepsBases n g h → OptionHas h (lowered_bound group_of base_of_expr base_of_name e scope n).result Int → BlockBases core h rest ts) → BlockBases core g (chain (lowered_bound group_of base_of_expr base_of_name e scope n).lets rest) ts
    typed_bound (dot site) bound scope n g rest ts d w b v s k = k g (keeps_self n g) tt
    typed_bound (at e) bound scope n g rest ts d w b v s k = typed e Int bound scope n g rest ts d w b v s k

    typed_gen : (g0 : Gen) (t : Base) (bound : Names) (scope : Scope) (n : ℕ) (g : Bases) (rest : BlockTerm) (ts : List Base) → GenTyped base_of_expr base_of_name Instances g0 t → GenDefinite count g0 bound → Below n scope → Covers bound scope → ScopeTyped base_of_name scope g → ((h : Bases) → KeepsBases n g h → ((j : Bases) → KeepsBases (lowered_gen group_of base_of_expr base_of_name g0 scope n).next h j → GenBase core j (lowered_gen group_of base_of_expr base_of_name g0 scope n).head (lowered_gen group_of base_of_expr base_of_name g0 scope n).body t) → BlockBases core h rest ts) → BlockBases core g (chain (lowered_gen group_of base_of_expr base_of_name g0 scope n).lets rest) ts
    typed_gen (gen lower lower_closed index upper upper_closed step width body cell site) t bound scope n g rest ts d w b v s k =
        let L = lowered_bound group_of base_of_expr base_of_name lower scope n in
        let gl = grows_bound group_of base_of_expr base_of_name lower scope n b in
        let b1 = below_more n L.next scope b gl.later in
        let U = lowered_bound group_of base_of_expr base_of_name upper scope L.next in
        let gu = grows_bound group_of base_of_expr base_of_name upper scope L.next b1 in
        let b2 = below_more L.next U.next scope b1 gu.later in
        let S = lowered_maybe group_of base_of_expr base_of_name step scope U.next in
        let gs = grows_maybe group_of base_of_expr base_of_name step scope U.next b2 in
        let b3 = below_more U.next S.next scope b2 gs.later in
        let W = lowered_maybe group_of base_of_expr base_of_name width scope S.next in
        let gw = grows_maybe group_of base_of_expr base_of_name width scope S.next b3 in
        let b4 = below_more S.next W.next scope b3 gw.later in
        let inside = index_scope index W.next scope in
        let m = after_index index W.next in
        let B = lowered_block group_of base_of_expr base_of_name body inside m in
        let C = lowered group_of base_of_expr base_of_name cell B.scope B.next in
        let gi = index_below index W.next scope b4 in
        let gb = grows_block group_of base_of_expr base_of_name body inside m gi.1 in
        let gc = grows group_of base_of_expr base_of_name cell B.scope B.next gb.below in
        let i0 = gi.0 in let i1 = gb.later in let i2 = gc.later in
        let cover = index_covers index W.next bound scope v in
        let within = with_names (names (index_targets index)) bound in
        more_typed core g L.lets (U.lets ++ (S.lets ++ W.lets)) rest ts (typed_bound lower bound scope n g _ ts d.0 w.0 b v s (λ h1 l1 p1.
        let s1 = typed_later base_of_name n scope g h1 b l1 s in
        more_typed core h1 U.lets (S.lets ++ W.lets) rest ts (typed_bound upper bound scope L.next h1 _ ts d.1 w.1 b1 v s1 (λ h2 l2 p2.
        let s2 = typed_later base_of_name L.next scope h1 h2 b1 l2 s1 in
        more_typed core h2 S.lets W.lets rest ts (typed_maybe step Int bound scope U.next h2 _ ts d.2 w.2 b2 v s2 (λ h3 l3 p3.
        let s3 = typed_later base_of_name U.next scope h2 h3 b2 l3 s2 in
        typed_maybe width Int bound scope S.next h3 rest ts d.3 w.3 b3 v s3 (λ h4 l4 p4.
        let l34 = l4 in
        let l24 = keeps_more U.next S.next h2 h3 h4 gs.later l3 l4 in
        let l14 = keeps_more L.next U.next h1 h2 h4 gu.later l2 l24 in
        let l04 = keeps_more n L.next g h1 h4 gl.later l1 l14 in
        k h4 l04 (λ j lj.
        let z4 : KeepsBases W.next h4 j = λ y l. lj y (omega arith) in
        let z3 = keeps_more S.next W.next h3 h4 j gw.later l4 z4 in
        let z2 = keeps_more U.next S.next h2 h3 j gs.later l3 z3 in
        let z1 = keeps_more L.next U.next h1 h2 j gu.later l2 z2 in
        let s4 = typed_later base_of_name W.next scope h4 j b4 z4 (typed_later base_of_name S.next scope h3 h4 b3 l4 s3) in
        record {
          lower = option_later L.next h1 j L.result Int z1 gl.below p1;
          upper = option_later U.next h2 j U.result Int z2 gu.below p2;
          step = option_later S.next h3 j S.result Int z3 gs.below p3;
          width = option_later W.next h4 j W.result Int z4 gw.below p4;
          inside = more_typed core _ B.lets C.lets (Gives (C.result ∷ [])) (t ∷ [])
              (typed_block body within inside m (ints (numbered W.next ∷ index_names index W.next) ++ j) _ (t ∷ []) d.5 w.5 gi.1 cover (index_typed core base_of_name index W.next scope j d.4 b4 s4)
              (λ q lq sq. typed cell t (bound_behind body within) B.scope B.next q (Gives (C.result ∷ [])) (t ∷ []) d.6 w.6 gb.below (covers_block count group_of base_of_expr base_of_name body within inside m w.5 cover) sq (λ q' lq' pq. (pq, tt))));
        }))))))))

    typed_gens : (gs : Gens) (t : Base) (bound : Names) (scope : Scope) (n : ℕ) (g : Bases) (rest : BlockTerm) (ts : List Base) → GensTyped base_of_expr base_of_name Instances gs t → GensDefinite count gs bound → Below n scope → Covers bound scope → ScopeTyped base_of_name scope g → ((h : Bases) → KeepsBases n g h → ((j : Bases) → KeepsBases (lowered_gens group_of base_of_expr base_of_name gs scope n).next h j → GensBases core j (lowered_gens group_of base_of_expr base_of_name gs scope n).gens t) → BlockBases core h rest ts) → BlockBases core g (chain (lowered_gens group_of base_of_expr base_of_name gs scope n).lets rest) ts
    typed_gens no_gens t bound scope n g rest ts d w b v s k = k g (keeps_self n g) (λ j l. tt)
    typed_gens (gen_and g0 gs) t bound scope n g rest ts d w b v s k =
        let A = lowered_gen group_of base_of_expr base_of_name g0 scope n in
        let a = grows_gen group_of base_of_expr base_of_name g0 scope n b in
        let b' = below_more n A.next scope b a in
        let B = lowered_gens group_of base_of_expr base_of_name gs scope A.next in
        let a' = grows_gens group_of base_of_expr base_of_name gs scope A.next b' in
        more_typed core g A.lets B.lets rest ts (typed_gen g0 t bound scope n g _ ts d.0 w.0 b v s
        (λ h l p. typed_gens gs t bound scope A.next h rest ts d.1 w.1 b' v (typed_later base_of_name n scope g h b l s)
        (λ h' l' p'. k h' (keeps_more n A.next g h h' a l l')
        (λ j lj.
        let o = p j (keeps_more A.next B.next h h' j a' l' lj) in
        (o.lower, o.upper, o.step, o.width, o.inside, p' j lj)))))

    typed_operation : (op : OperationTree) (base t : Base) (bound : Names) (scope : Scope) (n : ℕ) (g : Bases) (rest : BlockTerm) (ts : List Base) → OperationTyped base_of_expr base_of_name Instances op base t → OperationDefinite count op bound → Below n scope → Covers bound scope → ScopeTyped base_of_name scope g → ((h : Bases) → KeepsBases n g h → OperationBase h (lowered_operation group_of base_of_expr base_of_name op base scope n).op t → BlockBases core h rest ts) → BlockBases core g (chain (lowered_operation group_of base_of_expr base_of_name op base scope n).lets rest) ts
    typed_operation (genarray shape left_out site) base t bound scope n g rest ts d w b v s k =
        let A = lowered group_of base_of_expr base_of_name shape scope n in
        let a = grows group_of base_of_expr base_of_name shape scope n b in
        more_typed core g A.lets _ rest ts (typed shape Int bound scope n g _ ts d.0 w.0 b v s
        (λ h l p. const_typed core A.next h site base (pos 0) rest ts (zero_cell base)
        (λ h' l' p'. k h' (keeps_more n A.next g h h' a.later l l') (l' A.result a.below ∙ p, p' ∙ ap Some d.1))))
    typed_operation (genarray shape (given e) site) base t bound scope n g rest ts d w b v s k =
        let A = lowered group_of base_of_expr base_of_name shape scope n in
        let a = grows group_of base_of_expr base_of_name shape scope n b in
        let b' = below_more n A.next scope b a.later in
        let B = lowered group_of base_of_expr base_of_name e scope A.next in
        more_typed core g A.lets B.lets rest ts (typed shape Int bound scope n g _ ts d.0 w.0 b v s
        (λ h l p. typed e t bound scope A.next h rest ts d.1 w.1 b' v (typed_later base_of_name n scope g h b l s)
        (λ h' l' p'. k h' (keeps_more n A.next g h h' a.later l l') (l' A.result a.below ∙ p, p'))))
    typed_operation (modarray array site) base t bound scope n g rest ts d w b v s k = typed array t bound scope n g rest ts d w b v s k
    typed_operation (Tree.fold op neutral site) base t bound scope n g rest ts d w b v s k = typed neutral t bound scope n g rest ts d.0 w b v s (λ h l p. k h l (p, d.1))

    typed_stmt : (st : Stmt) (bound : Names) (scope : Scope) (n : ℕ) (g : Bases) (rest : BlockTerm) (ts : List Base) → StmtTyped base_of_expr base_of_name Instances st → StmtDefinite count st bound → Below n scope → Covers bound scope → ScopeTyped base_of_name scope g → ((h : Bases) → KeepsBases n g h → ScopeTyped base_of_name (lowered_stmt group_of base_of_expr base_of_name st scope n).scope h → BlockBases core h rest ts) → BlockBases core g (chain (lowered_stmt group_of base_of_expr base_of_name st scope n).lets rest) ts
    typed_stmt (assign targets (call name es site)) bound scope n g rest ts d w b v s k =
        let A = lowered_all group_of base_of_expr base_of_name es scope n in
        let a = grows_all group_of base_of_expr base_of_name es scope n b in
        let xs = names targets in
        more_typed core g A.lets _ rest ts (typed_all es d.0 bound scope n g _ ts d.1.1.0 w.0 b v s
        (λ h l p. after_bases core base_of_name A.next xs scope h site (RightTerm.Call (group_of name) A.results) rest ts (below_more n A.next scope b a.later) (typed_later base_of_name n scope g h b l s)
        (d.0, (p, subst (λ (us : List Base). GroupBases core (group_of name) d.0 us) (targets_bases base_of_name targets d.1.0 d.1.1.2) (instances name d.0 d.1.0 d.1.1.1)))
        (λ h' l' s'. k h' (keeps_more n A.next g h h' a.later l l') s')))
    typed_stmt (assign targets e) bound scope n g rest ts d w b v s k =
        typed e d.0 bound scope n g rest ts d.1.0 w.0 b v s (λ h l p. k h l (typed_first base_of_name targets (lowered group_of base_of_expr base_of_name e scope n).result d.0 scope h p d.1.1 (typed_later base_of_name n scope g h b l s)))
    typed_stmt (Tree.replace target bracket index e) bound scope n g rest ts d w b v s k =
        let t = base_of_name target.name in
        let I = lowered group_of base_of_expr base_of_name index scope n in
        let gi = grows group_of base_of_expr base_of_name index scope n b in
        let b1 = below_more n I.next scope b gi.later in
        let V = lowered group_of base_of_expr base_of_name e scope I.next in
        let gv = grows group_of base_of_expr base_of_name e scope I.next b1 in
        let b2 = below_more I.next V.next scope b1 gv.later in
        let A = used V.next bracket (var_in scope target.name) in
        let ga = used_grown V.next bracket (var_in scope target.name) (λ x p. b2 target.name x p) in
        let u0 = gi.later in let u1 = gv.later in let u2 = ga.later in
        more_typed core g (I.lets ++ (V.lets ++ A.lets)) _ rest ts (more_typed core g I.lets (V.lets ++ A.lets) _ ts (typed index Int bound scope n g _ ts d.0 w.1 b v s (λ h1 l1 p1.
        let s1 = typed_later base_of_name n scope g h1 b l1 s in
        more_typed core h1 V.lets A.lets _ ts (typed e t bound scope I.next h1 _ ts d.1 w.2 b1 v s1 (λ h2 l2 p2.
        let s2 = typed_later base_of_name I.next scope h1 h2 b1 l2 s1 in
        used_typed core V.next bracket (var_in scope target.name) h2 t _ ts (v target.name w.0) (λ y p. s2 target.name y p) (λ h3 l3 p3.
        let l13 = keeps_more I.next V.next h1 h2 h3 u1 l2 l3 in
        let l03 = keeps_more n I.next g h1 h3 u0 l1 l13 in
        last_typed core A.next h3 bracket (Plain (PlainTerm.Replace A.result I.result V.result)) t rest ts (t, p3, l13 I.result gi.below ∙ p1, l3 V.result gv.below ∙ p2, refl)
        (λ h4 l4 p4.
        let l04 = keeps_more n A.next g h3 h4 (omega arith) l03 l4 in
        k h4 l04 (typed_with base_of_name target.name (numbered A.next) scope h4 p4 (typed_later base_of_name n scope g h4 b l04 s)))))))))
    typed_stmt (if_else c0 fs ss site) bound scope n g rest ts d w b v s k =
        let A = lowered group_of base_of_expr base_of_name c0 scope n in
        let ga = grows group_of base_of_expr base_of_name c0 scope n b in
        let b1 = below_more n A.next scope b ga.later in
        let B = lowered_block group_of base_of_expr base_of_name fs scope A.next in
        let gb = grows_block group_of base_of_expr base_of_name fs scope A.next b1 in
        let b2 = below_more A.next B.next scope b1 gb.later in
        let C = lowered_block group_of base_of_expr base_of_name ss scope B.next in
        let gc = grows_block group_of base_of_expr base_of_name ss scope B.next b2 in
        let b3 = below_more B.next C.next scope b2 gc.later in
        let all = names_bound fs ++ names_bound ss in
        let both = merged all B.scope C.scope in
        let us = map base_of_name both in
        let u0 = ga.later in let u1 = gb.later in let u2 = gc.later in
        let in1 = filter_known (λ x. is_known B.scope x && is_known C.scope x) B.scope (once [] all) (λ x p. and_left (is_known B.scope x) (is_known C.scope x) p) in
        let in2 = filter_known (λ x. is_known B.scope x && is_known C.scope x) C.scope (once [] all) (λ x p. and_right (is_known B.scope x) (is_known C.scope x) p) in
        more_typed core g A.lets _ rest ts (typed c0 Truth bound scope n g _ ts d.0 w.0 b v s (λ h l p.
        let s' = typed_later base_of_name n scope g h b l s in
        after_bases core base_of_name C.next both scope h site (RightTerm.If A.result (chain B.lets (Gives (vars_in B.scope both))) (chain C.lets (Gives (vars_in C.scope both)))) rest ts b3 s' (
          p,
          typed_block fs bound scope A.next h (Gives (vars_in B.scope both)) us d.1 w.1 b1 v s' (λ h' l' s''. vars_typed base_of_name B.scope both h' in1 s''),
          typed_block ss bound scope B.next h (Gives (vars_in C.scope both)) us d.2 w.2 b2 v s' (λ h' l' s''. vars_typed base_of_name C.scope both h' in2 s''),
        )
        (λ h' l' s''. k h' (keeps_more n C.next g h h' (omega arith) l l') s'')))
    typed_stmt (while_do c0 body site) bound scope n g rest ts d w b v s k =
        let all = carried (names_bound body) scope in
        let m = n + length all in
        let inside = pushed all n scope in
        let bi = below_pushed all n m scope b (omega arith) in
        let T = lowered group_of base_of_expr base_of_name c0 inside m in
        let gt = grows group_of base_of_expr base_of_name c0 inside m bi in
        let bt = below_more m T.next inside bi gt.later in
        let B = lowered_block group_of base_of_expr base_of_name body inside T.next in
        let gb = grows_block group_of base_of_expr base_of_name body inside T.next bt in
        let us = map base_of_name all in
        let u0 = gt.later in let u1 = gb.later in
        let h = zip (variables_from n (length all)) us ++ g in
        let si = pushed_typed base_of_name all n scope g b s in
        let vi : Covers bound inside = λ x p. push_knows all n scope x (v x p) in
        after_bases core base_of_name B.next all scope g site (RightTerm.Loop false (vars_in scope all) (variables_from n (length all)) (chain T.lets (Gives (T.result ∷ []))) (chain B.lets (Gives (vars_in B.scope all))) site) rest ts (below_more n B.next scope b (omega arith)) s (
          vars_typed base_of_name scope all g (filter_known (is_known scope) scope (once [] (names_bound body)) (λ x p. p)) s,
          variables_count n all base_of_name,
          typed c0 Truth bound inside m h (Gives (T.result ∷ [])) (Truth ∷ []) d.0 w.0 bi vi si (λ h' l' p'. (p', tt)),
          typed_block body bound inside T.next h (Gives (vars_in B.scope all)) us d.1 w.1 bt vi si
              (λ h' l' s'. vars_typed base_of_name B.scope all h' (known_wider inside B.scope all (λ x p. knows_block group_of base_of_expr base_of_name body inside T.next x p) (pushed_known all all n scope (λ x p. p))) s'),
        )
        (λ h' l' s'. k h' (λ y l. l' y (omega arith)) s')
    typed_stmt (do_while body c0 site test) bound scope n g rest ts d w b v s k =
        let all = once [] (names_bound body) in
        let S = starts base_of_name site all scope n in
        let gs = (starts_grown base_of_name site all scope n b).later in
        let b1 = below_more n S.next scope b gs in
        let m = S.next + length all in
        let inside = pushed all S.next scope in
        let bi = below_pushed all S.next m scope b1 (omega arith) in
        let B = lowered_block group_of base_of_expr base_of_name body inside m in
        let gb = grows_block group_of base_of_expr base_of_name body inside m bi in
        let bb = below_more m B.next inside bi gb.later in
        let T = lowered group_of base_of_expr base_of_name c0 inside B.next in
        let gt = grows group_of base_of_expr base_of_name c0 inside B.next bb in
        let us = map base_of_name all in
        let u0 = gt.later in let u1 = gb.later in
        let vi : Covers bound inside = λ x p. push_knows all S.next scope x (v x p) in
        let va : Covers (bound_behind body bound) inside = covers_carried body S.next bound scope v in
        more_typed core g S.lets _ rest ts (starts_typed core base_of_name site all scope n g _ ts b s (λ h l p.
        let s' = typed_later base_of_name n scope g h b l s in
        let si = pushed_typed base_of_name all S.next scope h b1 s' in
        let j = zip (variables_from S.next (length all)) us ++ h in
        after_bases core base_of_name T.next all scope h site (RightTerm.Loop true S.results (variables_from S.next (length all)) (chain T.lets (Gives (T.result ∷ []))) (chain B.lets (Gives (vars_in B.scope all))) test) rest ts (below_more n T.next scope b (omega arith)) s' (
          p,
          variables_count S.next all base_of_name,
          typed c0 Truth (bound_behind body bound) inside B.next j (Gives (T.result ∷ [])) (Truth ∷ []) d.1 w.1 bb va si (λ h' l' p'. (p', tt)),
          typed_block body bound inside m j (Gives (vars_in B.scope all)) us d.0 w.0 bi vi si
              (λ h' l' s''. vars_typed base_of_name B.scope all h' (known_wider inside B.scope all (λ x q. knows_block group_of base_of_expr base_of_name body inside m x q) (pushed_known all all S.next scope (λ x q. q))) s''),
        )
        (λ h' l' s''. k h' (keeps_more n S.next g h h' gs l (λ y q. l' y (omega arith))) s'')))

    pub typed_block : (ss : Block) (bound : Names) (scope : Scope) (n : ℕ) (g : Bases) (rest : BlockTerm) (ts : List Base) → BlockTyped base_of_expr base_of_name Instances ss → BlockDefinite count ss bound → Below n scope → Covers bound scope → ScopeTyped base_of_name scope g → ((h : Bases) → KeepsBases n g h → ScopeTyped base_of_name (lowered_block group_of base_of_expr base_of_name ss scope n).scope h → BlockBases core h rest ts) → BlockBases core g (chain (lowered_block group_of base_of_expr base_of_name ss scope n).lets rest) ts
    typed_block no_stmts bound scope n g rest ts d w b v s k = k g (keeps_self n g) s
    typed_block (stmt_and st more) bound scope n g rest ts d w b v s k =
        let A = lowered_stmt group_of base_of_expr base_of_name st scope n in
        let a = grows_stmt group_of base_of_expr base_of_name st scope n b in
        let B = lowered_block group_of base_of_expr base_of_name more A.scope A.next in
        more_typed core g A.lets B.lets rest ts (typed_stmt st bound scope n g _ ts d.0 w.0 b v s
        (λ h l s'. typed_block more (bound_after st bound) A.scope A.next h rest ts d.1 w.1 a.below (covers_stmt count group_of base_of_expr base_of_name st bound scope n w.0 v) s'
        (λ h' l' s''. k h' (keeps_more n A.next g h h' a.later l l') s'')))
