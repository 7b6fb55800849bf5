-- What is lowered means what its source means.
use Rattle.std.proofs.Common.{◌≡◌, ℕ, zero, suc, ◌+◌, ◌-◌, ◌<◌, ◌≤◌, Bool, true, false, ◌&&◌, ◌||◌, List, [], ◌∷◌, ◌++◌, map, length, Option, Some, None, Result, Ok, Err, refl, ap, sym, subst, ◌∙◌, arith}
use Rattle.std.specs.Prelude.{ℤ, pos, bytes_eq, is_some, option_map, if◌then◌else◌}
use Rattle.sac_base.specs.declared.base.Base.{Base}
use Rattle.sac_base.specs.declared.base.Base.TheVariants.{Int, Bool as Truth}
use Rattle.sac_base.specs.declared.faults.FaultKind.{FaultKind}
use Rattle.sac_base.specs.declared.name.Name.{Name}
use Rattle.sac_base.specs.declared.site.Site.{Site}
use Rattle.sac_base.specs.Arrays.{ArrayValue, scalar, vector}
use Rattle.sac_base.specs.Operators.{unary, binary, of_truth}
use Rattle.sac_base.specs.Outcomes.{Ends, and_then, at_site, choose, first_result, or_zero, with_variable, with_variables}
use Rattle.sac_base.specs.Outcomes
use Rattle.sac_base.specs.Parts.{literal, select, replace, condition}
use Rattle.sac_base.specs.WithLoops.{Generator, Operation, with_value}
use Rattle.sac_base.specs.WithLoops
use Rattle.sac_ast.specs.declared.Target.{Target}
use Rattle.sac_ast.specs.declared.Builtin.{Builtin}
use Rattle.sac_ast.specs.declared.Builtin.TheVariants.{Dim, Shape, Reshape}
use Rattle.sac_ast.specs.Tree.{IndexTree, named, parts, Expr, Exprs, no_exprs, expr_and, MaybeExpr, left_out, given, Stmt, Block, no_stmts, stmt_and, BoundTree, dot, at, Gen, gen, Gens, no_gens, gen_and, OperationTree, number, truth, variable, choice, call, builtin, with_loop, assign, if_else, while_do, do_while, genarray, modarray}
use Rattle.sac_ast.specs.Tree
use Rattle.core_ir.specs.declared.tree.Var.{Var}
use Rattle.core_ir.specs.Terms.{PlainTerm, Plain, Gives, chain}
use Rattle.core_ir.specs.Meaning as core
use Rattle.core_ir.specs.Meaning.{Env, bind, bind_all, one, first, missing, plain_value, run}
use Rattle.source_meaning.specs.Meaning as source
use Rattle.source_meaning.specs.Meaning.{names, default_base, default_or}
use Rattle.core_lowering.specs.Lowering.{Scope, var_in, numbered, variables_from, pushed, or_first, vars_in, has_name, once, bound_names, names_bound, is_known, merged, carried, binding, used, built_in, index_scope, index_names, after_index, first_bound, start_of, starts, lowered, lowered_all, lowered_maybe, lowered_bound, lowered_gen, lowered_gens, lowered_operation, lowered_stmt, lowered_block}
use Rattle.core_lowering.specs.Definite.{Names, with_names, index_targets, bound_after, bound_behind, HasName, AtMostOne, IsDefinite, AreDefinite, MaybeDefinite, BoundDefinite, GenDefinite, GensDefinite, OperationDefinite, StmtDefinite, BlockDefinite}
use Rattle.core_lowering.proofs.Runs.{and_then_assoc, and_then_ok, run_lets, run_chain, run_more}
use Rattle.core_lowering.proofs.Scopes.{Extends, extends_self, extends_more, extends_less, bind_same, bind_extends, bind_all_extends, Below, below_more, below_pushed, OptionBelow, ShowsAt, Shows, shows_later, shows_fewer, shows_with, shows_pushed, or_none, has_neither, has_more, listed_once, carried_has, merged_has, shows_merged}
use Rattle.core_lowering.proofs.Fresh.{used_grown, start_grown, starts_grown, index_below, grows, grows_all, grows_maybe, grows_bound, grows_gen, grows_gens, grows_operation, grows_stmt, grows_block, only_block, still_block, Covers, covers_block, same_length}
use Rattle.core_lowering.proofs.Loops.{chosen, choose_same, repeat_same}
use Rattle.core_lowering.proofs.WithSame.{FitsNames, SameGen, SameGens, with_same, next_same}

-- ---- environments of the source

-- the names that are not listed keep their values
abbrev pub Kept : List Name → Outcomes.Env → Outcomes.Env → Type 0
Kept xs env env' = (x : Name) → has_name xs x ≡ false → env' x ≡ env x

with_kept : (xs : List Name) (vs : List ArrayValue) (env : Outcomes.Env) → Kept xs env (with_variables xs vs env)
with_kept [] vs env x h = refl
with_kept (y ∷ xs) [] env x h = refl
with_kept (y ∷ xs) (v ∷ vs) env x h =
    with_kept xs vs (with_variable y v env) x (or_none (bytes_eq x y) (has_name xs x) h).1
    ∙ (λ i. if (or_none (bytes_eq x y) (has_name xs x) h).0 i then Some v else env x)

shown_value : (o : Option Var) (w : Option ArrayValue) (g : Env) → ShowsAt o w g → w ≡ Some (g (or_first o))
shown_value o w g s = s.has ∙ ap Some (sym (ap (λ x. g (or_first x)) s.known ∙ s.shows))

shown_known : (o : Option Var) (w : Option ArrayValue) (g : Env) → ShowsAt o w g → is_some o ≡ true
shown_known o w g s = ap is_some s.known

covers_shown : (bound : Names) (scope : Scope) (env : Outcomes.Env) (f : Env) → Shows bound scope env f → Covers bound scope
covers_shown bound scope env f s x p = shown_known (var_in scope x) (env x) f (s x p)

first_shows : (targets : List Target) (n : ℕ) (bound : Names) (scope : Scope) (env : Outcomes.Env) (f g : Env) (z : Var) (v : ArrayValue) → AtMostOne targets → Below n scope → Extends n f g → Shows bound scope env f → g z ≡ v → Shows (with_names (names targets) bound) (first_bound targets z scope) (with_variables (names targets) (v ∷ []) env) g
first_shows [] n bound scope env f g z v l b h s e = λ x p. shows_later n bound scope env f g b h s x p
first_shows (t ∷ []) n bound scope env f g z v l b h s e = shows_with n bound scope env f g t.name z v b h s e
first_shows (t ∷ u ∷ ts) n bound scope env f g z v l b h s e = absurd l

pub map_map : {A B C : Type 0} (g : B → C) (f : A → B) (xs : List A) → map g (map f xs) ≡ map (λ x. g (f x)) xs
map_map g f [] = refl
map_map g f (x ∷ xs) = ap (λ l. g (f x) ∷ l) (map_map g f xs)

same_option : (n : ℕ) (f g : Env) (o : Option Var) → Extends n f g → OptionBelow n o → option_map g o ≡ option_map f o
same_option n f g None h b = refl
same_option n f g (Some x) h b = ap Some (h x b)

contradiction : (b : Bool) → b ≡ true → b ≡ false → ⊥
contradiction b p q = cc

-- ---- what a loop carries

pub record Carries (all : List Name) (held : Names) (changed : List Name) (env env' : Outcomes.Env) (vs : List ArrayValue) : Type 0 where
  pub value : Name → ArrayValue
  pub values : vs ≡ map value all
  pub has : (x : Name) → held x ≡ true → has_name all x ≡ true → env' x ≡ Some (value x)
  pub kept : Kept changed env env'

-- a name that is held and not carried is not changed, and is shown before the loop
abbrev Others : List Name → Names → List Name → Scope → Outcomes.Env → Env → Type 0
Others all held changed scope env f = (x : Name) → held x ≡ true → has_name all x ≡ false → (has_name changed x ≡ false) × ShowsAt (var_in scope x) (env x) f

carries_shows : (all : List Name) (held : Names) (changed : List Name) (n : ℕ) (scope : Scope) (env env' : Outcomes.Env) (f : Env) (vs : List ArrayValue) → Below n scope → Others all held changed scope env f → Carries all held changed env env' vs → Shows held (pushed all n scope) env' (bind_all f (variables_from n (length all)) vs)
carries_shows all held changed n scope env env' f vs b o c =
    subst (λ (ws : List ArrayValue). Shows held (pushed all n scope) env' (bind_all f (variables_from n (length all)) ws)) (sym c.values)
    (shows_merged c.value all n held scope env' f b c.has (λ x p q.
    let k = o x p q in
    let s = k.1 in
    record { var = s.var; value = s.value; known = s.known; has = c.kept x k.0 ∙ s.has; shows = s.shows }))

carries_vars : (all : List Name) (held : Names) (changed : List Name) (scope : Scope) (env env' : Outcomes.Env) (g : Env) → Shows held scope env' g → Kept changed env env' → Carries all held changed env env' (map g (vars_in scope all))
carries_vars all held changed scope env env' g s k = record {
  value = λ x. g (or_first (var_in scope x));
  values = map_map g (λ x. or_first (var_in scope x)) all;
  has = λ x p q. shown_value (var_in scope x) (env' x) g (s x p);
  kept = k;
}

and_true_left : (a b : Bool) → (a && b) ≡ true → a ≡ true
and_true_left true b p = refl
and_true_left false b p = absurd (cc)

and_true_right : (a b : Bool) → (a && b) ≡ true → b ≡ true
and_true_right true b p = p
and_true_right false b p = absurd (cc)

or_second : (a b : Bool) → b ≡ true → (a || b) ≡ true
or_second true b p = refl
or_second false b p = p

-- a name that has a variable in both scopes, and is not merged, is in none of the lists that are
other_names : (xs all : List Name) (first second : Scope) (x : Name) → (has_name xs x ≡ true → has_name all x ≡ true) → is_known first x ≡ true → is_known second x ≡ true → has_name (merged all first second) x ≡ false → has_name xs x ≡ false
other_names xs all first second x up p q r = go (has_name xs x) refl
  where
    go : (b : Bool) → has_name xs x ≡ b → has_name xs x ≡ false
    go true e = absurd (contradiction (has_name (merged all first second) x) (merged_has all first second x (up e) p q) r)
    go false e = e

other_carried : (xs : List Name) (scope : Scope) (x : Name) → is_known scope x ≡ true → has_name (carried xs scope) x ≡ false → has_name xs x ≡ false
other_carried xs scope x p r = go (has_name xs x) refl
  where
    go : (b : Bool) → has_name xs x ≡ b → has_name xs x ≡ false
    go true e = absurd (contradiction (has_name (carried xs scope) x) (carried_has xs scope x e p) r)
    go false e = e

other_once : (xs : List Name) (x : Name) → has_name (once [] xs) x ≡ false → has_name xs x ≡ false
other_once xs x r = go (has_name xs x) refl
  where
    go : (b : Bool) → has_name xs x ≡ b → has_name xs x ≡ false
    go true e = absurd (contradiction (has_name (once [] xs) x) (listed_once xs x e) r)
    go false e = e

builtin_value : (b : Builtin) (xs : List Var) (g : Env) → plain_value (built_in b xs) g ≡ source.built_in b (map g xs)
builtin_value Dim [] g = refl
builtin_value Dim (x ∷ xs) g = refl
builtin_value Shape [] g = refl
builtin_value Shape (x ∷ xs) g = refl
builtin_value Reshape [] g = refl
builtin_value Reshape (x ∷ []) g = refl
builtin_value Reshape (x ∷ y ∷ ys) g = refl

variables_length : (n count : ℕ) → length (variables_from n count) ≡ count
variables_length n zero = refl
variables_length n (suc count) = ap suc (variables_length (suc n) count)

index_count : (index : IndexTree) (n : ℕ) → HasName index → core.name_count (index_names index n) ≡ source.name_count index
index_count (named t) n h = refl
index_count (parts []) n h = absurd h
index_count (parts (t ∷ ts)) n h = ap (λ m. Some (suc m)) (variables_length (suc (suc n)) (length (names ts)) ∙ same_length ts)

map_length : (v : List ℤ) → length (map (scalar Int) v) ≡ length v
map_length [] = refl
map_length (z ∷ v) = ap suc (map_length v)

fits_count : (index : IndexTree) (n : ℕ) (v : List ℤ) → HasName index → FitsNames (core.name_count (index_names index n)) v → FitsNames (source.name_count index) v
fits_count index n v h k = subst (λ (o : Option ℕ). FitsNames o v) (index_count index n h) k

index_shows : (index : IndexTree) (v : List ℤ) (n : ℕ) (bound : Names) (scope : Scope) (env : Outcomes.Env) (f : Env) → FitsNames (source.name_count index) v → Below n scope → Shows bound scope env f → Shows (with_names (names (index_targets index)) bound) (index_scope index n scope) (source.with_index index v env) (bind_all (bind f (numbered n) (vector Int v)) (index_names index n) (map (scalar Int) v))
index_shows (named t) v n bound scope env f k b s = shows_with n bound scope env f (bind f (numbered n) (vector Int v)) t.name (numbered n) (vector Int v) b (bind_extends n f (vector Int v)) s (bind_same n f (vector Int v))
index_shows (parts ts) v n bound scope env f k b s =
    shows_pushed (names ts) (map (scalar Int) v) (suc n) bound scope env (bind f (numbered n) (vector Int v)) (map_length v ∙ k ∙ sym (same_length ts)) (below_more n (suc n) scope b (omega arith))
    (shows_later n bound scope env f (bind f (numbered n) (vector Int v)) b (bind_extends n f (vector Int v)) s)

module _ (turns : ℕ) (base_of : Expr → Option Base) (base_of_name : Name → Base) (invoke : source.CallMeaning) (group_of : Name → ℕ) (calls : core.CallMeaning) (count : Name → ℕ)
    (same : (name : Name) (vs : List ArrayValue) (site : Site) → calls (group_of name) vs site ≡ invoke name vs site)
    (counted : (name : Name) (vs rs : List ArrayValue) (site : Site) → invoke name vs site ≡ Ok rs → length rs ≡ count name) where
  -- ---- bindings of one variable

  one_bound : {R : Type 0} (x : Ends ArrayValue) (n : ℕ) (f : Env) (k : Env → Ends R) (goal : ArrayValue → Ends R) → ((a : ArrayValue) (g : Env) → Extends n f g → g (numbered n) ≡ a → k g ≡ goal a) → and_then (one x) (λ vs. k (bind_all f (numbered n ∷ []) vs)) ≡ and_then x goal
  one_bound (Ok a) n f k goal h = h a (bind f (numbered n) a) (bind_extends n f a) (bind_same n f a)
  one_bound (Err e) n f k goal h = refl

  first_bound_of : {R : Type 0} (x : Ends (List ArrayValue)) (n : ℕ) (f : Env) (k : Env → Ends R) (goal : ArrayValue → Ends R) → ((a : ArrayValue) (g : Env) → Extends n f g → g (numbered n) ≡ a → k g ≡ goal a) → and_then x (λ vs. k (bind_all f (numbered n ∷ []) vs)) ≡ and_then x (λ vs. goal (first_result vs))
  first_bound_of (Ok []) n f k goal h = h missing (bind f (numbered n) missing) (bind_extends n f missing) (bind_same n f missing)
  first_bound_of (Ok (a ∷ as')) n f k goal h = h a (bind f (numbered n) a) (bind_extends n f a) (bind_same n f a)
  first_bound_of (Err e) n f k goal h = refl

  plain_end : {R : Type 0} (p : PlainTerm) (site : Site) (n : ℕ) (f : Env) (v : Result ArrayValue FaultKind) (k : Env → Ends R) (goal : ArrayValue → Ends R) → plain_value p f ≡ v → ((a : ArrayValue) (g : Env) → Extends n f g → g (numbered n) ≡ a → k g ≡ goal a) → run_lets calls turns (binding (numbered n) site (Plain p) ∷ []) f k ≡ and_then (at_site site v) goal
  plain_end p site n f v k goal e h =
      (λ i. and_then (one (at_site site (e i))) (λ vs. k (bind_all f (numbered n ∷ []) vs))) ∙ one_bound (at_site site v) n f k goal h

  used_sound : {R : Type 0} (n : ℕ) (site : Site) (o : Option Var) (w : Option ArrayValue) (f : Env) (k : Env → Ends R) (goal : ArrayValue → Ends R) → ShowsAt o w f → ((a : ArrayValue) (g : Env) → Extends n f g → g (used n site o).result ≡ a → k g ≡ goal a) → run_lets calls turns (used n site o).lets f k ≡ goal (or_zero w)
  used_sound n site None w f k goal s h = absurd (let p = s.known in cc)
  used_sound n site (Some x) w f k goal s h =
      let q : x ≡ s.var = let p = s.known in cc in
      h (or_zero w) f (extends_self n f) (ap f q ∙ s.shows ∙ sym (ap or_zero s.has))

  -- the first value of a name that a `do` carries
  abbrev start_value : Env → Name → Option Var → ArrayValue
  start_value f x None = scalar (base_of_name x) (pos 0)
  start_value f x (Some y) = f y

  start_later : (n : ℕ) (f g : Env) (x : Name) (o : Option Var) → OptionBelow n o → Extends n f g → start_value g x o ≡ start_value f x o
  start_later n f g x None b h = refl
  start_later n f g x (Some y) b h = h y b

  option_below : (n : ℕ) (o : Option Var) → ((y : Var) → o ≡ Some y → y.0 < n) → OptionBelow n o
  option_below n None h = tt
  option_below n (Some y) h = h y refl

  start_sound : {R : Type 0} (site : Site) (x : Name) (o : Option Var) (n : ℕ) (f : Env) (k : Env → Ends R) (r : Ends R) → ((g : Env) → Extends n f g → g (start_of (base_of_name x) n site o).result ≡ start_value f x o → k g ≡ r) → run_lets calls turns (start_of (base_of_name x) n site o).lets f k ≡ r
  start_sound site x None n f k r h = h (bind f (numbered n) (scalar (base_of_name x) (pos 0))) (bind_extends n f (scalar (base_of_name x) (pos 0))) (bind_same n f (scalar (base_of_name x) (pos 0)))
  start_sound site x (Some y) n f k r h = h f (extends_self n f) refl

  starts_later : (xs : List Name) (scope : Scope) (n : ℕ) (f g : Env) → Below n scope → Extends n f g → map (λ x. start_value g x (var_in scope x)) xs ≡ map (λ x. start_value f x (var_in scope x)) xs
  starts_later [] scope n f g b h = refl
  starts_later (x ∷ xs) scope n f g b h = λ i. start_later n f g x (var_in scope x) (option_below n (var_in scope x) (λ y p. b x y p)) h i ∷ starts_later xs scope n f g b h i

  starts_sound : {R : Type 0} (site : Site) (xs : List Name) (scope : Scope) (n : ℕ) (f : Env) (k : Env → Ends R) (r : Ends R) → Below n scope → ((g : Env) → Extends n f g → map g (starts base_of_name site xs scope n).results ≡ map (λ x. start_value f x (var_in scope x)) xs → k g ≡ r) → run_lets calls turns (starts base_of_name site xs scope n).lets f k ≡ r
  starts_sound site [] scope n f k r b h = h f (extends_self n f) refl
  starts_sound site (x ∷ xs) scope n f k r b h =
      let A = start_of (base_of_name x) n site (var_in scope x) in
      let a = start_grown (base_of_name x) n site (var_in scope x) (λ y p. b x y p) in
      let b' = below_more n A.next scope b a.later in
      let B = starts base_of_name site xs scope A.next in
      run_more calls turns A.lets B.lets f k
      ∙ start_sound site x (var_in scope x) n f _ r
      (λ g y p. starts_sound site xs scope A.next g k r b'
      (λ g' z q. h g' (extends_more n A.next f g g' a.later y z)
      (λ i. (z A.result a.below ∙ p) i ∷ (q ∙ starts_later xs scope n f g b y) i)))

  known_start : (f : Env) (x : Name) (o : Option Var) (w : Option ArrayValue) → ShowsAt o w f → w ≡ Some (start_value f x o)
  known_start f x None w s = absurd (let p = s.known in cc)
  known_start f x (Some y) w s = shown_value (Some y) w f s

  starts_carry : (all : List Name) (bound : Names) (changed : List Name) (scope : Scope) (n : ℕ) (env : Outcomes.Env) (f g : Env) (results : List Var) → Shows bound scope env f → map g results ≡ map (λ x. start_value f x (var_in scope x)) all → Carries all bound changed env env (map g results)
  starts_carry all bound changed scope n env f g results s p = record {
    value = λ x. start_value f x (var_in scope x);
    values = p;
    has = λ x q r. known_start f x (var_in scope x) (env x) (s x q);
    kept = λ x q. refl;
  }

  -- what is said below of a block and of an expression, for what gives an array
  abbrev BlockSound : Block → Type 0
  BlockSound ss =
      (bound : Names) (scope : Scope) (n : ℕ) (env : Outcomes.Env) (f : Env) (k : Env → Ends ArrayValue) (goal : Outcomes.Env → Ends ArrayValue) → BlockDefinite count ss bound → Below n scope → Shows bound scope env f →
      ((env' : Outcomes.Env) (g : Env) → Extends n f g → Kept (names_bound ss) env env' → Shows (bound_behind ss bound) (lowered_block group_of base_of base_of_name ss scope n).scope env' g → k g ≡ goal env') →
      run_lets calls turns (lowered_block group_of base_of base_of_name ss scope n).lets f k ≡ and_then (source.block turns base_of invoke ss env) goal

  abbrev ExprSound : Expr → Type 0
  ExprSound e =
      (bound : Names) (scope : Scope) (n : ℕ) (env : Outcomes.Env) (f : Env) (k : Env → Ends ArrayValue) (goal : ArrayValue → Ends ArrayValue) → IsDefinite count e bound → Below n scope → Shows bound scope env f →
      ((a : ArrayValue) (g : Env) → Extends n f g → g (lowered group_of base_of base_of_name e scope n).result ≡ a → k g ≡ goal a) →
      run_lets calls turns (lowered group_of base_of base_of_name e scope n).lets f k ≡ and_then (source.meaning turns base_of invoke e env) goal

  -- the cell at an index
  sound_cell : (index : IndexTree) (body : Block) (cell : Expr) → BlockSound body → ExprSound cell → (bound : Names) (scope : Scope) (m : ℕ) (env : Outcomes.Env) (g : Env) (v : List ℤ) → BlockDefinite count body (with_names (names (index_targets index)) bound) → IsDefinite count cell (bound_behind body (with_names (names (index_targets index)) bound)) → FitsNames (source.name_count index) v → Below m scope → Shows bound scope env g →
      (let B = lowered_block group_of base_of base_of_name body (index_scope index m scope) (after_index index m) in
      let C = lowered group_of base_of base_of_name cell B.scope B.next in
      first (run calls turns (chain (B.lets ++ C.lets) (Gives (C.result ∷ []))) (bind_all (bind g (numbered m) (vector Int v)) (index_names index m) (map (scalar Int) v))))
      ≡ and_then (source.block turns base_of invoke body (source.with_index index v env)) (source.meaning turns base_of invoke cell)
  sound_cell index body cell of_block of_cell bound scope m env g v d0 d1 fit b s =
      let inside = with_names (names (index_targets index)) bound in
      let B = lowered_block group_of base_of base_of_name body (index_scope index m scope) (after_index index m) in
      let C = lowered group_of base_of base_of_name cell B.scope B.next in
      let below = (index_below index m scope b).1 in
      let grown = grows_block group_of base_of base_of_name body (index_scope index m scope) (after_index index m) below in
      let g' = bind_all (bind g (numbered m) (vector Int v)) (index_names index m) (map (scalar Int) v) in
      run_chain calls turns (B.lets ++ C.lets) (C.result ∷ []) g' (λ vs. Ok (first_result vs))
      ∙ run_more calls turns B.lets C.lets g' (λ h. Ok (h C.result))
      ∙ of_block inside (index_scope index m scope) (after_index index m) (source.with_index index v env) g' (λ h. run_lets calls turns C.lets h (λ h'. Ok (h' C.result))) (source.meaning turns base_of invoke cell) d0 below (index_shows index v m bound scope env g fit b s)
      (λ env' h x kept shows.
      of_cell (bound_behind body inside) B.scope B.next env' h (λ h'. Ok (h' C.result)) (λ a. Ok a) d1 grown.below shows (λ a h' y q. ap (λ z. Ok z) q)
      ∙ and_then_ok (source.meaning turns base_of invoke cell env'))

  mutual
    pub sound : {R : Type 0} (e : Expr) (bound : Names) (scope : Scope) (n : ℕ) (env : Outcomes.Env) (f : Env) (k : Env → Ends R) (goal : ArrayValue → Ends R) → IsDefinite count e bound → Below n scope → Shows bound scope env f → ((a : ArrayValue) (g : Env) → Extends n f g → g (lowered group_of base_of base_of_name e scope n).result ≡ a → k g ≡ goal a) → run_lets calls turns (lowered group_of base_of base_of_name e scope n).lets f k ≡ and_then (source.meaning turns base_of invoke e env) goal
    sound (number z site) bound scope n env f k goal d b s h = plain_end (PlainTerm.Const (scalar Int z)) site n f (Ok (scalar Int z)) k goal refl h
    sound (truth t site) bound scope n env f k goal d b s h = plain_end (PlainTerm.Const (scalar Truth (of_truth t))) site n f (Ok (scalar Truth (of_truth t))) k goal refl h
    sound (variable name site) bound scope n env f k goal d b s h = used_sound n site (var_in scope name) (env name) f k goal (s name d) h
    sound (Tree.literal es site) bound scope n env f k goal d b s h =
        let A = lowered_all group_of base_of base_of_name es scope n in
        let later = (grows_all group_of base_of base_of_name es scope n b).later in
        run_more calls turns A.lets _ f k
        ∙ sound_all es bound scope n env f _ (λ vs. and_then (at_site site (literal vs)) goal) d b s
        (λ vs g x p. plain_end (PlainTerm.Literal A.results) site A.next g (literal vs) k goal (ap literal p) (λ a g' y q. h a g' (extends_more n A.next f g g' later x y) q))
        ∙ sym (and_then_assoc (source.meanings turns base_of invoke es env) (λ vs. at_site site (literal vs)) goal)
    sound (Tree.unary op e site) bound scope n env f k goal d b s h =
        let A = lowered group_of base_of base_of_name e scope n in
        let later = (grows group_of base_of base_of_name e scope n b).later in
        run_more calls turns A.lets _ f k
        ∙ sound e bound scope n env f _ (λ v. goal (unary op v)) d b s
        (λ v g x p. plain_end (PlainTerm.Unary op A.result) site A.next g (Ok (unary op v)) k goal (λ i. Ok (unary op (p i))) (λ a g' y q. h a g' (extends_more n A.next f g g' later x y) q))
        ∙ sym (and_then_assoc (source.meaning turns base_of invoke e env) (λ v. Ok (unary op v)) goal)
    sound (Tree.binary op e1 e2 site) bound scope n env f k goal d b s h =
        let A = lowered group_of base_of base_of_name e1 scope n in
        let a = grows group_of base_of base_of_name e1 scope n b in
        let b' = below_more n A.next scope b a.later in
        let B = lowered group_of base_of base_of_name e2 scope A.next in
        let c = grows group_of base_of base_of_name e2 scope A.next b' in
        run_more calls turns (A.lets ++ B.lets) _ f k
        ∙ run_more calls turns A.lets B.lets f _
        ∙ sound e1 bound scope n env f _ (λ u. and_then (source.meaning turns base_of invoke e2 env) (λ v. and_then (at_site site (binary op u v)) goal)) d.0 b s
        (λ u g x p. sound e2 bound scope A.next env g _ (λ v. and_then (at_site site (binary op u v)) goal) d.1 b' (shows_later n bound scope env f g b x s)
        (λ v g' y q. plain_end (PlainTerm.Binary op A.result B.result) site B.next g' (binary op u v) k goal (λ i. binary op ((y A.result a.below ∙ p) i) (q i))
        (λ w g'' z r. h w g'' (extends_more n A.next f g g'' a.later x (extends_more A.next B.next g g' g'' c.later y z)) r)))
        ∙ sym (and_then_assoc (source.meaning turns base_of invoke e1 env) (λ u. and_then (source.meaning turns base_of invoke e2 env) (λ v. at_site site (binary op u v))) goal
        ∙ (λ i. and_then (source.meaning turns base_of invoke e1 env) (λ u. and_then_assoc (source.meaning turns base_of invoke e2 env) (λ v. at_site site (binary op u v)) goal i)))
    sound (choice e0 e1 e2 site) bound scope n env f k goal d b s h =
        let A = lowered group_of base_of base_of_name e0 scope n in
        let a = grows group_of base_of base_of_name e0 scope n b in
        let b1 = below_more n A.next scope b a.later in
        let B = lowered group_of base_of base_of_name e1 scope A.next in
        let c = grows group_of base_of base_of_name e1 scope A.next b1 in
        let b2 = below_more A.next B.next scope b1 c.later in
        let C = lowered group_of base_of base_of_name e2 scope B.next in
        let l = grows group_of base_of base_of_name e2 scope B.next b2 in
        let later : n ≤ C.next = let p = a.later in let q = c.later in let r = l.later in omega arith in
        run_more calls turns A.lets _ f k
        ∙ sound e0 bound scope n env f _ (λ u. choose site (condition u) (and_then (source.meaning turns base_of invoke e1 env) goal) (and_then (source.meaning turns base_of invoke e2 env) goal)) d.0 b s
        (λ u g x p.
        let s' = shows_later n bound scope env f g b x s in
        let last : (v : ArrayValue) (g' : Env) (z : Var) → g' z ≡ v → k (bind g (numbered C.next) (g' z)) ≡ goal v =
        λ v g' z q. h v (bind g (numbered C.next) (g' z)) (extends_more n C.next f g _ later x (bind_extends C.next g (g' z))) (bind_same C.next g (g' z) ∙ q) in
        (λ i. and_then (choose site (condition (p i)) (run calls turns (chain B.lets (Gives (B.result ∷ []))) g) (run calls turns (chain C.lets (Gives (C.result ∷ []))) g)) (λ vs. k (bind_all g (numbered C.next ∷ []) vs)))
        ∙ chosen site (condition u) _ _ (λ vs. k (bind_all g (numbered C.next ∷ []) vs))
        ∙ choose_same site (condition u) _ _ _ _
        (λ t. run_chain calls turns B.lets (B.result ∷ []) g (λ vs. k (bind_all g (numbered C.next ∷ []) vs))
        ∙ sound e1 bound scope A.next env g _ goal d.1 b1 s' (λ v g' y q. last v g' B.result q))
        (λ t. run_chain calls turns C.lets (C.result ∷ []) g (λ vs. k (bind_all g (numbered C.next ∷ []) vs))
        ∙ sound e2 bound scope B.next env g _ goal d.2 b2 s' (λ v g' y q. last v g' C.result q)))
        ∙ (λ i. and_then (source.meaning turns base_of invoke e0 env) (λ u. sym (chosen site (condition u) (source.meaning turns base_of invoke e1 env) (source.meaning turns base_of invoke e2 env) goal) i))
        ∙ sym (and_then_assoc (source.meaning turns base_of invoke e0 env) (λ u. choose site (condition u) (source.meaning turns base_of invoke e1 env) (source.meaning turns base_of invoke e2 env)) goal)
    sound (Tree.select e1 e2 site) bound scope n env f k goal d b s h =
        let A = lowered group_of base_of base_of_name e1 scope n in
        let a = grows group_of base_of base_of_name e1 scope n b in
        let b' = below_more n A.next scope b a.later in
        let B = lowered group_of base_of base_of_name e2 scope A.next in
        let c = grows group_of base_of base_of_name e2 scope A.next b' in
        run_more calls turns (A.lets ++ B.lets) _ f k
        ∙ run_more calls turns A.lets B.lets f _
        ∙ sound e1 bound scope n env f _ (λ u. and_then (source.meaning turns base_of invoke e2 env) (λ v. and_then (at_site site (select u v)) goal)) d.0 b s
        (λ u g x p. sound e2 bound scope A.next env g _ (λ v. and_then (at_site site (select u v)) goal) d.1 b' (shows_later n bound scope env f g b x s)
        (λ v g' y q. plain_end (PlainTerm.Select A.result B.result) site B.next g' (select u v) k goal (λ i. select ((y A.result a.below ∙ p) i) (q i))
        (λ w g'' z r. h w g'' (extends_more n A.next f g g'' a.later x (extends_more A.next B.next g g' g'' c.later y z)) r)))
        ∙ sym (and_then_assoc (source.meaning turns base_of invoke e1 env) (λ u. and_then (source.meaning turns base_of invoke e2 env) (λ v. at_site site (select u v))) goal
        ∙ (λ i. and_then (source.meaning turns base_of invoke e1 env) (λ u. and_then_assoc (source.meaning turns base_of invoke e2 env) (λ v. at_site site (select u v)) goal i)))
    sound (call name es site) bound scope n env f k goal d b s h =
        let A = lowered_all group_of base_of base_of_name es scope n in
        let later = (grows_all group_of base_of base_of_name es scope n b).later in
        run_more calls turns A.lets _ f k
        ∙ sound_all es bound scope n env f _ (λ vs. and_then (invoke name vs site) (λ rs. goal (first_result rs))) d b s
        (λ vs g x p. first_bound_of (calls (group_of name) (map g A.results) site) A.next g k goal (λ a g' y q. h a g' (extends_more n A.next f g g' later x y) q)
        ∙ (λ i. and_then ((ap (λ ws. calls (group_of name) ws site) p ∙ same name vs site) i) (λ rs. goal (first_result rs))))
        ∙ sym (and_then_assoc (and_then (source.meanings turns base_of invoke es env) (λ vs. invoke name vs site)) (λ rs. Ok (first_result rs)) goal
        ∙ and_then_assoc (source.meanings turns base_of invoke es env) (λ vs. invoke name vs site) (λ rs. goal (first_result rs)))
    sound (builtin t es site) bound scope n env f k goal d b s h =
        let A = lowered_all group_of base_of base_of_name es scope n in
        let later = (grows_all group_of base_of base_of_name es scope n b).later in
        run_more calls turns A.lets _ f k
        ∙ sound_all es bound scope n env f _ (λ vs. and_then (at_site site (source.built_in t vs)) goal) d b s
        (λ vs g x p. plain_end (built_in t A.results) site A.next g (source.built_in t vs) k goal (builtin_value t A.results g ∙ ap (source.built_in t) p) (λ a g' y q. h a g' (extends_more n A.next f g g' later x y) q))
        ∙ sym (and_then_assoc (source.meanings turns base_of invoke es env) (λ vs. at_site site (source.built_in t vs)) goal)
    sound (with_loop gs op site) bound scope n env f k goal d b s h =
        let A = lowered_gens group_of base_of base_of_name gs scope n in
        let a = grows_gens group_of base_of base_of_name gs scope n b in
        let b' = below_more n A.next scope b a in
        let B = lowered_operation group_of base_of base_of_name op (default_base base_of gs) scope A.next in
        let c = grows_operation group_of base_of base_of_name op (default_base base_of gs) scope A.next b' in
        run_more calls turns (A.lets ++ B.lets) _ f k
        ∙ run_more calls turns A.lets B.lets f _
        ∙ sound_gens gs bound scope n env f _ (λ all. and_then (source.operation turns base_of invoke op (default_base base_of gs) env) (λ by. and_then (with_value all by) goal)) d.0 b s
        (λ all g x p. sound_operation op (default_base base_of gs) bound scope A.next env g _ (λ by. and_then (with_value all by) goal) d.1 b' (shows_later n bound scope env f g b x s)
        (λ by g' y q.
        (λ i. and_then (one (with_value (core.generators calls turns A.gens g') (q i))) (λ vs. k (bind_all g' (numbered B.next ∷ []) vs)))
        ∙ (λ i. and_then (one (with_same (core.generators calls turns A.gens g') all by (p g' y) i)) (λ vs. k (bind_all g' (numbered B.next ∷ []) vs)))
        ∙ one_bound (with_value all by) B.next g' k goal (λ w g'' z r. h w g'' (extends_more n A.next f g g'' a x (extends_more A.next B.next g g' g'' c y z)) r)))
        ∙ sym (and_then_assoc (source.generators turns base_of invoke gs env) (λ all. and_then (source.operation turns base_of invoke op (default_base base_of gs) env) (λ by. with_value all by)) goal
        ∙ (λ i. and_then (source.generators turns base_of invoke gs env) (λ all. and_then_assoc (source.operation turns base_of invoke op (default_base base_of gs) env) (λ by. with_value all by) goal i)))

    pub sound_all : {R : Type 0} (es : Exprs) (bound : Names) (scope : Scope) (n : ℕ) (env : Outcomes.Env) (f : Env) (k : Env → Ends R) (goal : List ArrayValue → Ends R) → AreDefinite count es bound → Below n scope → Shows bound scope env f → ((vs : List ArrayValue) (g : Env) → Extends n f g → map g (lowered_all group_of base_of base_of_name es scope n).results ≡ vs → k g ≡ goal vs) → run_lets calls turns (lowered_all group_of base_of base_of_name es scope n).lets f k ≡ and_then (source.meanings turns base_of invoke es env) goal
    sound_all no_exprs bound scope n env f k goal d b s h = h [] f (extends_self n f) refl
    sound_all (expr_and e es) bound scope n env f k goal d b s h =
        let A = lowered group_of base_of base_of_name e scope n in
        let a = grows group_of base_of base_of_name e scope n b in
        let b' = below_more n A.next scope b a.later in
        let B = lowered_all group_of base_of base_of_name es scope A.next in
        run_more calls turns A.lets B.lets f k
        ∙ sound e bound scope n env f _ (λ v. and_then (source.meanings turns base_of invoke es env) (λ vs. goal (v ∷ vs))) d.0 b s
        (λ v g x p. sound_all es bound scope A.next env g k (λ vs. goal (v ∷ vs)) d.1 b' (shows_later n bound scope env f g b x s)
        (λ vs g' y q. h (v ∷ vs) g' (extends_more n A.next f g g' a.later x y) (λ i. (y A.result a.below ∙ p) i ∷ q i)))
        ∙ sym (and_then_assoc (source.meaning turns base_of invoke e env) (λ v. and_then (source.meanings turns base_of invoke es env) (λ vs. Ok (v ∷ vs))) goal
        ∙ (λ i. and_then (source.meaning turns base_of invoke e env) (λ v. and_then_assoc (source.meanings turns base_of invoke es env) (λ vs. Ok (v ∷ vs)) goal i)))

    pub sound_maybe : {R : Type 0} (e : MaybeExpr) (bound : Names) (scope : Scope) (n : ℕ) (env : Outcomes.Env) (f : Env) (k : Env → Ends R) (goal : Option ArrayValue → Ends R) → MaybeDefinite count e bound → Below n scope → Shows bound scope env f → ((v : Option ArrayValue) (g : Env) → Extends n f g → option_map g (lowered_maybe group_of base_of base_of_name e scope n).result ≡ v → k g ≡ goal v) → run_lets calls turns (lowered_maybe group_of base_of base_of_name e scope n).lets f k ≡ and_then (source.maybe turns base_of invoke e env) goal
    sound_maybe left_out bound scope n env f k goal d b s h = h None f (extends_self n f) refl
    sound_maybe (given e) bound scope n env f k goal d b s h =
        sound e bound scope n env f k (λ v. goal (Some v)) d b s (λ v g x p. h (Some v) g x (ap Some p))
        ∙ sym (and_then_assoc (source.meaning turns base_of invoke e env) (λ v. Ok (Some v)) goal)

    pub sound_bound : {R : Type 0} (e : BoundTree) (bound : Names) (scope : Scope) (n : ℕ) (env : Outcomes.Env) (f : Env) (k : Env → Ends R) (goal : Option ArrayValue → Ends R) → BoundDefinite count e bound → Below n scope → Shows bound scope env f → ((v : Option ArrayValue) (g : Env) → Extends n f g → option_map g (lowered_bound group_of base_of base_of_name e scope n).result ≡ v → k g ≡ goal v) → run_lets calls turns (lowered_bound group_of base_of base_of_name e scope n).lets f k ≡ and_then (source.bound turns base_of invoke e env) goal
    sound_bound (dot site) bound scope n env f k goal d b s h = h None f (extends_self n f) refl
    sound_bound (at e) bound scope n env f k goal d b s h =
        sound e bound scope n env f k (λ v. goal (Some v)) d b s (λ v g x p. h (Some v) g x (ap Some p))
        ∙ sym (and_then_assoc (source.meaning turns base_of invoke e env) (λ v. Ok (Some v)) goal)

    pub sound_gen : {R : Type 0} (g0 : Gen) (bound : Names) (scope : Scope) (n : ℕ) (env : Outcomes.Env) (f : Env) (k : Env → Ends R) (goal : Generator → Ends R) → GenDefinite count g0 bound → Below n scope → Shows bound scope env f → ((G : Generator) (g : Env) → Extends n f g → ((g' : Env) → Extends (lowered_gen group_of base_of base_of_name g0 scope n).next g g' → SameGen (core.generator (lowered_gen group_of base_of base_of_name g0 scope n).head (λ index. first (run calls turns (lowered_gen group_of base_of base_of_name g0 scope n).body (core.with_index g' (lowered_gen group_of base_of base_of_name g0 scope n).head index))) g') G) → k g ≡ goal G) → run_lets calls turns (lowered_gen group_of base_of base_of_name g0 scope n).lets f k ≡ and_then (source.generator turns base_of invoke g0 env) goal
    sound_gen (gen lower lower_closed index upper upper_closed step width body cell site) bound scope n env f k goal d b s h =
        let L = lowered_bound group_of base_of base_of_name lower scope n in
        let gl = grows_bound group_of base_of base_of_name lower scope n b in
        let b1 = below_more n L.next scope b gl.later in
        let U = lowered_bound group_of base_of base_of_name upper scope L.next in
        let gu = grows_bound group_of base_of base_of_name upper scope L.next b1 in
        let b2 = below_more L.next U.next scope b1 gu.later in
        let S = lowered_maybe group_of base_of base_of_name step scope U.next in
        let gs = grows_maybe group_of base_of base_of_name step scope U.next b2 in
        let b3 = below_more U.next S.next scope b2 gs.later in
        let W = lowered_maybe group_of base_of base_of_name width scope S.next in
        let gw = grows_maybe group_of base_of base_of_name width scope S.next b3 in
        let b4 = below_more S.next W.next scope b3 gw.later in
        let B = lowered_block group_of base_of base_of_name body (index_scope index W.next scope) (after_index index W.next) in
        let C = lowered group_of base_of base_of_name cell B.scope B.next in
        let gi = index_below index W.next scope b4 in
        let gb = grows_block group_of base_of base_of_name body (index_scope index W.next scope) (after_index index W.next) gi.1 in
        let gc = grows group_of base_of base_of_name cell B.scope B.next gb.below in
        let last : W.next ≤ C.next = let p = gi.0 in let q = gb.later in let r = gc.later in omega arith in
        let made : (l u st w : Option ArrayValue) → Generator = λ l u st w. record {
          bounds = record { lower = l; lower_closed = lower_closed; names = source.name_count index; upper = u; upper_closed = upper_closed; step = st; width = w; site = site };
          cell = λ v. and_then (source.block turns base_of invoke body (source.with_index index v env)) (source.meaning turns base_of invoke cell);
        } in
        run_more calls turns L.lets (U.lets ++ (S.lets ++ W.lets)) f k
        ∙ sound_bound lower bound scope n env f _ (λ l. and_then (source.bound turns base_of invoke upper env) (λ u. and_then (source.maybe turns base_of invoke step env) (λ st. and_then (source.maybe turns base_of invoke width env) (λ w. goal (made l u st w))))) d.0 b s
        (λ l g1 x1 p1. run_more calls turns U.lets (S.lets ++ W.lets) g1 k
        ∙ sound_bound upper bound scope L.next env g1 _ (λ u. and_then (source.maybe turns base_of invoke step env) (λ st. and_then (source.maybe turns base_of invoke width env) (λ w. goal (made l u st w)))) d.1 b1 (shows_later n bound scope env f g1 b x1 s)
        (λ u g2 x2 p2. run_more calls turns S.lets W.lets g2 k
        ∙ sound_maybe step bound scope U.next env g2 _ (λ st. and_then (source.maybe turns base_of invoke width env) (λ w. goal (made l u st w))) d.2 b2 (shows_later n bound scope env f g2 b (extends_more n L.next f g1 g2 gl.later x1 x2) s)
        (λ st g3 x3 p3.
        sound_maybe width bound scope S.next env g3 k (λ w. goal (made l u st w)) d.3 b3 (shows_later n bound scope env f g3 b (extends_more n L.next f g1 g3 gl.later x1 (extends_more L.next U.next g1 g2 g3 gu.later x2 x3)) s)
        (λ w g4 x4 p4.
        let x14 = extends_more L.next U.next g1 g2 g4 gu.later x2 (extends_more U.next S.next g2 g3 g4 gs.later x3 x4) in
        let x24 = extends_more U.next S.next g2 g3 g4 gs.later x3 x4 in
        let x04 = extends_more n L.next f g1 g4 gl.later x1 x14 in
        h (made l u st w) g4 x04
        (λ g' y.
        let z4 = extends_less W.next C.next g4 g' last y in
        let z3 = extends_more S.next W.next g3 g4 g' gw.later x4 z4 in
        let z2 = extends_more U.next S.next g2 g3 g' gs.later x3 z3 in
        let z1 = extends_more L.next U.next g1 g2 g' gu.later x2 z2 in
        let z0 = extends_more n L.next f g1 g' gl.later x1 z1 in
        record {
          bounds = λ i. record { lower = (same_option L.next g1 g' L.result z1 gl.below ∙ p1) i; lower_closed = lower_closed; names = index_count index W.next d.4 i; upper = (same_option U.next g2 g' U.result z2 gu.below ∙ p2) i; upper_closed = upper_closed; step = (same_option S.next g3 g' S.result z3 gs.below ∙ p3) i; width = (same_option W.next g4 g' W.result z4 gw.below ∙ p4) i; site = site };
          cells = λ v fit. sound_cell index body cell (λ bound scope n env f k goal d b s h. sound_block body bound scope n env f k goal d b s h) (λ bound scope n env f k goal d b s h. sound cell bound scope n env f k goal d b s h) bound scope W.next env g' v d.5 d.6 (fits_count index W.next v d.4 fit) b4 (shows_later n bound scope env f g' b z0 s);
        })))))
        ∙ sym (and_then_assoc (source.bound turns base_of invoke lower env) _ goal
        ∙ (λ i. and_then (source.bound turns base_of invoke lower env) (λ l. (and_then_assoc (source.bound turns base_of invoke upper env) (λ u. and_then (source.maybe turns base_of invoke step env) (λ st. and_then (source.maybe turns base_of invoke width env) (λ w. Ok (made l u st w)))) goal
        ∙ (λ j. and_then (source.bound turns base_of invoke upper env) (λ u. (and_then_assoc (source.maybe turns base_of invoke step env) (λ st. and_then (source.maybe turns base_of invoke width env) (λ w. Ok (made l u st w))) goal
        ∙ (λ m. and_then (source.maybe turns base_of invoke step env) (λ st. and_then_assoc (source.maybe turns base_of invoke width env) (λ w. Ok (made l u st w)) goal m))) j))) i)))

    pub sound_gens : {R : Type 0} (gs : Gens) (bound : Names) (scope : Scope) (n : ℕ) (env : Outcomes.Env) (f : Env) (k : Env → Ends R) (goal : List Generator → Ends R) → GensDefinite count gs bound → Below n scope → Shows bound scope env f → ((all : List Generator) (g : Env) → Extends n f g → ((g' : Env) → Extends (lowered_gens group_of base_of base_of_name gs scope n).next g g' → SameGens (core.generators calls turns (lowered_gens group_of base_of base_of_name gs scope n).gens g') all) → k g ≡ goal all) → run_lets calls turns (lowered_gens group_of base_of base_of_name gs scope n).lets f k ≡ and_then (source.generators turns base_of invoke gs env) goal
    sound_gens no_gens bound scope n env f k goal d b s h = h [] f (extends_self n f) (λ g' y. tt)
    sound_gens (gen_and g0 gs) bound scope n env f k goal d b s h =
        let A = lowered_gen group_of base_of base_of_name g0 scope n in
        let a = grows_gen group_of base_of base_of_name g0 scope n b in
        let b' = below_more n A.next scope b a in
        let B = lowered_gens group_of base_of base_of_name gs scope A.next in
        let c = grows_gens group_of base_of base_of_name gs scope A.next b' in
        run_more calls turns A.lets B.lets f k
        ∙ sound_gen g0 bound scope n env f _ (λ G. and_then (source.generators turns base_of invoke gs env) (λ all. goal (G ∷ all))) d.0 b s
        (λ G g x p. sound_gens gs bound scope A.next env g k (λ all. goal (G ∷ all)) d.1 b' (shows_later n bound scope env f g b x s)
        (λ all g' y q. h (G ∷ all) g' (extends_more n A.next f g g' a x y) (λ g'' z. (p g'' (extends_more A.next B.next g g' g'' c y z), q g'' z))))
        ∙ sym (and_then_assoc (source.generator turns base_of invoke g0 env) (λ G. and_then (source.generators turns base_of invoke gs env) (λ all. Ok (G ∷ all))) goal
        ∙ (λ i. and_then (source.generator turns base_of invoke g0 env) (λ G. and_then_assoc (source.generators turns base_of invoke gs env) (λ all. Ok (G ∷ all)) goal i)))

    pub sound_operation : {R : Type 0} (op : OperationTree) (base : Base) (bound : Names) (scope : Scope) (n : ℕ) (env : Outcomes.Env) (f : Env) (k : Env → Ends R) (goal : Operation → Ends R) → OperationDefinite count op bound → Below n scope → Shows bound scope env f → ((by : Operation) (g : Env) → Extends n f g → core.operation (lowered_operation group_of base_of base_of_name op base scope n).op (lowered_operation group_of base_of base_of_name op base scope n).site g ≡ by → k g ≡ goal by) → run_lets calls turns (lowered_operation group_of base_of base_of_name op base scope n).lets f k ≡ and_then (source.operation turns base_of invoke op base env) goal
    sound_operation (genarray shape left_out site) base bound scope n env f k goal d b s h =
        let A = lowered group_of base_of base_of_name shape scope n in
        let a = grows group_of base_of base_of_name shape scope n b in
        run_more calls turns A.lets _ f k
        ∙ sound shape bound scope n env f _ (λ v. goal (WithLoops.genarray v (scalar base (pos 0)) site)) d.0 b s
        (λ v g x p. plain_end (PlainTerm.Const (scalar base (pos 0))) site A.next g (Ok (scalar base (pos 0))) k (λ w. goal (WithLoops.genarray v w site)) refl
        (λ w g' y q. h (WithLoops.genarray v w site) g' (extends_more n A.next f g g' a.later x y) (λ i. WithLoops.genarray ((y A.result a.below ∙ p) i) (q i) site)))
        ∙ sym (and_then_assoc (source.meaning turns base_of invoke shape env) (λ v. Ok (WithLoops.genarray v (scalar base (pos 0)) site)) goal)
    sound_operation (genarray shape (given e) site) base bound scope n env f k goal d b s h =
        let A = lowered group_of base_of base_of_name shape scope n in
        let a = grows group_of base_of base_of_name shape scope n b in
        let b' = below_more n A.next scope b a.later in
        let B = lowered group_of base_of base_of_name e scope A.next in
        run_more calls turns A.lets B.lets f k
        ∙ sound shape bound scope n env f _ (λ v. and_then (source.meaning turns base_of invoke e env) (λ w. goal (WithLoops.genarray v w site))) d.0 b s
        (λ v g x p. sound e bound scope A.next env g k (λ w. goal (WithLoops.genarray v w site)) d.1 b' (shows_later n bound scope env f g b x s)
        (λ w g' y q. h (WithLoops.genarray v w site) g' (extends_more n A.next f g g' a.later x y) (λ i. WithLoops.genarray ((y A.result a.below ∙ p) i) (q i) site)))
        ∙ sym (and_then_assoc (source.meaning turns base_of invoke shape env) _ goal
        ∙ (λ i. and_then (source.meaning turns base_of invoke shape env) (λ v. (and_then_assoc (and_then (source.meaning turns base_of invoke e env) (λ w. Ok (Some w))) (λ o. Ok (WithLoops.genarray v (default_or base o) site)) goal
        ∙ and_then_assoc (source.meaning turns base_of invoke e env) (λ w. Ok (Some w)) (λ o. goal (WithLoops.genarray v (default_or base o) site))) i)))
    sound_operation (modarray array site) base bound scope n env f k goal d b s h =
        sound array bound scope n env f k (λ v. goal (WithLoops.modarray v site)) d b s (λ v g x p. h (WithLoops.modarray v site) g x (λ i. WithLoops.modarray (p i) site))
        ∙ sym (and_then_assoc (source.meaning turns base_of invoke array env) (λ v. Ok (WithLoops.modarray v site)) goal)
    sound_operation (Tree.fold op neutral site) base bound scope n env f k goal d b s h =
        sound neutral bound scope n env f k (λ v. goal (WithLoops.fold_by op v site)) d b s (λ v g x p. h (WithLoops.fold_by op v site) g x (λ i. WithLoops.fold_by op (p i) site))
        ∙ sym (and_then_assoc (source.meaning turns base_of invoke neutral env) (λ v. Ok (WithLoops.fold_by op v site)) goal)

    pub sound_stmt : {R : Type 0} (st : Stmt) (bound : Names) (scope : Scope) (n : ℕ) (env : Outcomes.Env) (f : Env) (k : Env → Ends R) (goal : Outcomes.Env → Ends R) → StmtDefinite count st bound → Below n scope → Shows bound scope env f → ((env' : Outcomes.Env) (g : Env) → Extends n f g → Kept (bound_names st) env env' → Shows (bound_after st bound) (lowered_stmt group_of base_of base_of_name st scope n).scope env' g → k g ≡ goal env') → run_lets calls turns (lowered_stmt group_of base_of base_of_name st scope n).lets f k ≡ and_then (source.statement turns base_of invoke st env) goal
    sound_stmt (assign targets (call name es site)) bound scope n env f k goal d b s h =
        let A = lowered_all group_of base_of base_of_name es scope n in
        let later = (grows_all group_of base_of base_of_name es scope n b).later in
        let xs = names targets in
        run_more calls turns A.lets _ f k
        ∙ sound_all es bound scope n env f _ (λ vs. and_then (invoke name vs site) (λ rs. goal (with_variables xs rs env))) d.0 b s
        (λ vs g x p.
        (λ i. and_then ((ap (λ ws. calls (group_of name) ws site) p ∙ same name vs site) i) (λ rs. k (bind_all g (variables_from A.next (length xs)) rs)))
        ∙ next_same (invoke name vs site) (λ rs. k (bind_all g (variables_from A.next (length xs)) rs)) (λ rs. goal (with_variables xs rs env))
        (λ rs e. h (with_variables xs rs env) (bind_all g (variables_from A.next (length xs)) rs) (extends_more n A.next f g _ later x (bind_all_extends A.next (length xs) g rs)) (with_kept xs rs env)
        (shows_pushed xs rs A.next bound scope env g (counted name vs rs site e ∙ sym d.1 ∙ sym (same_length targets)) (below_more n A.next scope b later) (shows_later n bound scope env f g b x s))))
        ∙ sym (and_then_assoc (and_then (source.meanings turns base_of invoke es env) (λ vs. invoke name vs site)) (λ rs. Ok (with_variables xs rs env)) goal
        ∙ and_then_assoc (source.meanings turns base_of invoke es env) (λ vs. invoke name vs site) (λ rs. goal (with_variables xs rs env)))
    sound_stmt (assign targets e) bound scope n env f k goal d b s h =
        sound e bound scope n env f k (λ v. goal (with_variables (names targets) (v ∷ []) env)) d.0 b s
        (λ v g x p. h (with_variables (names targets) (v ∷ []) env) g x (with_kept (names targets) (v ∷ []) env) (first_shows targets n bound scope env f g (lowered group_of base_of base_of_name e scope n).result v d.1 b x s p))
        ∙ sym (and_then_assoc (source.meaning turns base_of invoke e env) (λ v. Ok (with_variables (names targets) (v ∷ []) env)) goal)
    sound_stmt (Tree.replace target bracket index e) bound scope n env f k goal d b s h =
        let I = lowered group_of base_of base_of_name index scope n in
        let gi = grows group_of base_of base_of_name index scope n b in
        let b1 = below_more n I.next scope b gi.later in
        let V = lowered group_of base_of base_of_name e scope I.next in
        let gv = grows group_of base_of base_of_name e scope I.next b1 in
        let b2 = below_more I.next V.next scope b1 gv.later in
        let A = used V.next bracket (var_in scope target.name) in
        let ga = used_grown V.next bracket (var_in scope target.name) (λ x q. b2 target.name x q) in
        let old = or_zero (env target.name) in
        run_more calls turns (I.lets ++ (V.lets ++ A.lets)) _ f k
        ∙ run_more calls turns I.lets (V.lets ++ A.lets) f _
        ∙ sound index bound scope n env f _ (λ i. and_then (source.meaning turns base_of invoke e env) (λ v. and_then (at_site bracket (replace old i v)) (λ a. goal (with_variable target.name a env)))) d.1 b s
        (λ i g1 x1 p1. run_more calls turns V.lets A.lets g1 _
        ∙ sound e bound scope I.next env g1 _ (λ v. and_then (at_site bracket (replace old i v)) (λ a. goal (with_variable target.name a env))) d.2 b1 (shows_later n bound scope env f g1 b x1 s)
        (λ v g2 x2 p2.
        let x02 = extends_more n I.next f g1 g2 gi.later x1 x2 in
        let s2 = shows_later n bound scope env f g2 b x02 s in
        used_sound V.next bracket (var_in scope target.name) (env target.name) g2 _ (λ u. and_then (at_site bracket (replace u i v)) (λ a. goal (with_variable target.name a env))) (s2 target.name d.0)
        (λ u g3 x3 p3.
        let x23 = extends_more I.next V.next g1 g2 g3 gv.later x2 x3 in
        let x03 = extends_more n I.next f g1 g3 gi.later x1 x23 in
        plain_end (PlainTerm.Replace A.result I.result V.result) bracket A.next g3 (replace u i v) k (λ a. goal (with_variable target.name a env))
        (λ j. replace (p3 j) ((x23 I.result gi.below ∙ p1) j) ((x3 V.result gv.below ∙ p2) j))
        (λ a g4 x4 p4.
        let last : n ≤ A.next = let p = gi.later in let q = gv.later in let r = ga.later in omega arith in
        let x04 = extends_more n A.next f g3 g4 last x03 x4 in
        h (with_variable target.name a env) g4 x04 (with_kept (target.name ∷ []) (a ∷ []) env)
        (shows_with n bound scope env f g4 target.name (numbered A.next) a b x04 s p4)))))
        ∙ sym (and_then_assoc (source.meaning turns base_of invoke index env) _ goal
        ∙ (λ j. and_then (source.meaning turns base_of invoke index env) (λ i. (and_then_assoc (source.meaning turns base_of invoke e env) (λ v. and_then (at_site bracket (replace old i v)) (λ a. Ok (with_variable target.name a env))) goal
        ∙ (λ m. and_then (source.meaning turns base_of invoke e env) (λ v. and_then_assoc (at_site bracket (replace old i v)) (λ a. Ok (with_variable target.name a env)) goal m))) j)))
    sound_stmt (if_else c fs ss site) bound scope n env f k goal d b s h =
        let A = lowered group_of base_of base_of_name c scope n in
        let ga = grows group_of base_of base_of_name c scope n b in
        let b1 = below_more n A.next scope b ga.later in
        let B = lowered_block group_of base_of base_of_name fs scope A.next in
        let gb = grows_block group_of base_of base_of_name fs scope A.next b1 in
        let b2 = below_more A.next B.next scope b1 gb.later in
        let C = lowered_block group_of base_of base_of_name ss scope B.next in
        let gc = grows_block group_of base_of base_of_name ss scope B.next b2 in
        let b3 = below_more B.next C.next scope b2 gc.later in
        let both = merged (names_bound fs ++ names_bound ss) B.scope C.scope in
        let ts = variables_from C.next (length both) in
        let cover = covers_shown bound scope env f s in
        let known1 : Covers (bound_behind fs bound) B.scope = covers_block count group_of base_of base_of_name fs bound scope A.next d.1 cover in
        let known2 : Covers (bound_behind ss bound) C.scope = covers_block count group_of base_of base_of_name ss bound scope B.next d.2 cover in
        let later : n ≤ C.next = let p = ga.later in let q = gb.later in let r = gc.later in omega arith in
        let after : Names = λ x. bound_behind fs bound x && bound_behind ss bound x in
        run_more calls turns A.lets _ f k
        ∙ sound c bound scope n env f _ (λ u. choose site (condition u) (and_then (source.block turns base_of invoke fs env) goal) (and_then (source.block turns base_of invoke ss env) goal)) d.0 b s
        (λ u g x p.
        let s' = shows_later n bound scope env f g b x s in
        (λ i. and_then (choose site (condition (p i)) (run calls turns (chain B.lets (Gives (vars_in B.scope both))) g) (run calls turns (chain C.lets (Gives (vars_in C.scope both))) g)) (λ vs. k (bind_all g ts vs)))
        ∙ chosen site (condition u) _ _ (λ vs. k (bind_all g ts vs))
        ∙ choose_same site (condition u) _ _ _ _
        (λ t. run_chain calls turns B.lets (vars_in B.scope both) g (λ vs. k (bind_all g ts vs))
        ∙ sound_block fs bound scope A.next env g _ goal d.1 b1 s'
        (λ env' g' y kept shows.
        let others : Others both after (names_bound fs) scope env g =
        λ z q r. let none = other_names (names_bound fs) (names_bound fs ++ names_bound ss) B.scope C.scope z (λ e. has_more (names_bound fs) (names_bound ss) z ∙ (λ i. e i || has_name (names_bound ss) z)) (known1 z (and_true_left _ _ q)) (known2 z (and_true_right _ _ q)) r in
        (none, s' z (only_block fs bound z (and_true_left _ _ q) none)) in
        let carries = carries_vars both after (names_bound fs) B.scope env env' g' (shows_fewer after (bound_behind fs bound) B.scope env' g' (λ z q. and_true_left _ _ q) shows) kept in
        h env' (bind_all g ts (map g' (vars_in B.scope both))) (extends_more n C.next f g _ later x (bind_all_extends C.next (length both) g _))
        (λ z q. kept z (has_neither (names_bound fs) (names_bound ss) z q).0)
        (carries_shows both after (names_bound fs) C.next scope env env' g (map g' (vars_in B.scope both)) b3 others carries)))
        (λ t. run_chain calls turns C.lets (vars_in C.scope both) g (λ vs. k (bind_all g ts vs))
        ∙ sound_block ss bound scope B.next env g _ goal d.2 b2 s'
        (λ env' g' y kept shows.
        let others : Others both after (names_bound ss) scope env g =
        λ z q r. let none = other_names (names_bound ss) (names_bound fs ++ names_bound ss) B.scope C.scope z (λ e. has_more (names_bound fs) (names_bound ss) z ∙ or_second (has_name (names_bound fs) z) (has_name (names_bound ss) z) e) (known1 z (and_true_left _ _ q)) (known2 z (and_true_right _ _ q)) r in
        (none, s' z (only_block ss bound z (and_true_right _ _ q) none)) in
        let carries = carries_vars both after (names_bound ss) C.scope env env' g' (shows_fewer after (bound_behind ss bound) C.scope env' g' (λ z q. and_true_right _ _ q) shows) kept in
        h env' (bind_all g ts (map g' (vars_in C.scope both))) (extends_more n C.next f g _ later x (bind_all_extends C.next (length both) g _))
        (λ z q. kept z (has_neither (names_bound fs) (names_bound ss) z q).1)
        (carries_shows both after (names_bound ss) C.next scope env env' g (map g' (vars_in C.scope both)) b3 others carries))))
        ∙ (λ i. and_then (source.meaning turns base_of invoke c env) (λ u. sym (chosen site (condition u) (source.block turns base_of invoke fs env) (source.block turns base_of invoke ss env) goal) i))
        ∙ sym (and_then_assoc (source.meaning turns base_of invoke c env) (λ u. choose site (condition u) (source.block turns base_of invoke fs env) (source.block turns base_of invoke ss env)) goal)
    sound_stmt (while_do c body site) bound scope n env f k goal d b s h =
        let all = carried (names_bound body) scope in
        let ps = variables_from n (length all) in
        let m = n + length all in
        let inside = pushed all n scope in
        let bi = below_pushed all n m scope b (omega arith) in
        let T = lowered group_of base_of base_of_name c inside m in
        let gt = grows group_of base_of base_of_name c inside m bi in
        let bt = below_more m T.next inside bi gt.later in
        let B = lowered_block group_of base_of base_of_name body inside T.next in
        let gb = grows_block group_of base_of base_of_name body inside T.next bt in
        let later : n ≤ B.next = let p = gt.later in let q = gb.later in omega arith in
        let ts = variables_from B.next (length all) in
        let changed = names_bound body in
        let cover = covers_shown bound scope env f s in
        let others : Others all bound changed scope env f =
        λ z q r. (other_carried changed scope z (cover z q) r, s z q) in
        let shown : (env' : Outcomes.Env) (vs : List ArrayValue) → Carries all bound changed env env' vs → Shows bound inside env' (bind_all f ps vs) =
        λ env' vs v. carries_shows all bound changed n scope env env' f vs b others v in
        repeat_same (Carries all bound changed env) site site
        (λ vs. first (run calls turns (chain T.lets (Gives (T.result ∷ []))) (bind_all f ps vs)))
        (λ vs. run calls turns (chain B.lets (Gives (vars_in B.scope all))) (bind_all f ps vs))
        (source.meaning turns base_of invoke c) (source.block turns base_of invoke body)
        (λ env' vs v.
        run_chain calls turns T.lets (T.result ∷ []) (bind_all f ps vs) (λ ws. Ok (first_result ws))
        ∙ sound c bound inside m env' (bind_all f ps vs) (λ g. Ok (g T.result)) (λ a. Ok a) d.0 bi (shown env' vs v) (λ a g y q. ap (λ z. Ok z) q)
        ∙ and_then_ok (source.meaning turns base_of invoke c env'))
        (λ env' vs k' goal' v H.
        run_chain calls turns B.lets (vars_in B.scope all) (bind_all f ps vs) k'
        ∙ sound_block body bound inside T.next env' (bind_all f ps vs) _ goal' d.1 bt (shown env' vs v)
        (λ env'' g y kept shows. H env'' (map g (vars_in B.scope all))
        (carries_vars all bound changed B.scope env env'' g (shows_fewer bound (bound_behind body bound) B.scope env'' g (λ z q. still_block body bound z q) shows) (λ z q. kept z q ∙ v.kept z q))))
        (λ vs. k (bind_all f ts vs)) goal
        (λ env' vs v. h env' (bind_all f ts vs) (extends_more n B.next f f _ later (extends_self n f) (bind_all_extends B.next (length all) f vs)) v.kept
        (carries_shows all bound changed B.next scope env env' f vs (below_more n B.next scope b later) others v))
        turns env (map f (vars_in scope all)) (carries_vars all bound changed scope env env f s (λ z q. refl))
    sound_stmt {R = R} (do_while body c site test) bound scope n env f k goal d b s h =
        let all = once [] (names_bound body) in
        let S = starts base_of_name site all scope n in
        let gs = starts_grown base_of_name site all scope n b in
        let b1 = below_more n S.next scope b gs.later in
        let ps = variables_from S.next (length all) in
        let m = S.next + length all in
        let inside = pushed all S.next scope in
        let bi = below_pushed all S.next m scope b1 (omega arith) in
        let B = lowered_block group_of base_of base_of_name body inside m in
        let gb = grows_block group_of base_of base_of_name body inside m bi in
        let bb = below_more m B.next inside bi gb.later in
        let T = lowered group_of base_of base_of_name c inside B.next in
        let gt = grows group_of base_of base_of_name c inside B.next bb in
        let later : S.next ≤ T.next = let p = gt.later in let q = gb.later in omega arith in
        let ts = variables_from T.next (length all) in
        let changed = names_bound body in
        let after = bound_behind body bound in
        run_more calls turns S.lets _ f k
        ∙ starts_sound site all scope n f _ _ b
        (λ g x p.
        let s' = shows_later n bound scope env f g b x s in
        let others : Others all after changed scope env g =
        λ z q r. let none = other_once changed z r in (none, s' z (only_block body bound z q none)) in
        let others0 : Others all bound changed scope env g = λ z q r. (other_once changed z r, s' z q) in
        let shown : (env' : Outcomes.Env) (vs : List ArrayValue) → Carries all after changed env env' vs → Shows after inside env' (bind_all g ps vs) =
        λ env' vs v. carries_shows all after changed S.next scope env env' g vs b1 others v in
        let turn : (env' : Outcomes.Env) (vs : List ArrayValue) (k' : List ArrayValue → Ends R) (goal' : Outcomes.Env → Ends R) → Shows bound inside env' (bind_all g ps vs) → Kept changed env env' → ((env'' : Outcomes.Env) (ws : List ArrayValue) → Carries all after changed env env'' ws → k' ws ≡ goal' env'') → and_then (run calls turns (chain B.lets (Gives (vars_in B.scope all))) (bind_all g ps vs)) k' ≡ and_then (source.block turns base_of invoke body env') goal' =
        λ env' vs k' goal' shows kept0 H.
        run_chain calls turns B.lets (vars_in B.scope all) (bind_all g ps vs) k'
        ∙ sound_block body bound inside m env' (bind_all g ps vs) _ goal' d.0 bi shows
        (λ env'' g' y kept shows'. H env'' (map g' (vars_in B.scope all)) (carries_vars all after changed B.scope env env'' g' shows' (λ z q. kept z q ∙ kept0 z q))) in
        let vs0 = map g S.results in
        let start : Carries all bound changed env env vs0 = starts_carry all bound changed scope n env f g S.results s p in
        and_then_assoc (run calls turns (chain B.lets (Gives (vars_in B.scope all))) (bind_all g ps vs0)) _ (λ vs. k (bind_all g ts vs))
        ∙ turn env vs0 _ (λ env'. and_then (source.repeat (turns - 1) site test (source.meaning turns base_of invoke c) (source.block turns base_of invoke body) env') goal)
        (carries_shows all bound changed S.next scope env env g vs0 b1 others0 start) (λ z q. refl)
        (λ env' vs v.
        repeat_same (Carries all after changed env) site test
        (λ vs. first (run calls turns (chain T.lets (Gives (T.result ∷ []))) (bind_all g ps vs)))
        (λ vs. run calls turns (chain B.lets (Gives (vars_in B.scope all))) (bind_all g ps vs))
        (source.meaning turns base_of invoke c) (source.block turns base_of invoke body)
        (λ env' vs v.
        run_chain calls turns T.lets (T.result ∷ []) (bind_all g ps vs) (λ ws. Ok (first_result ws))
        ∙ sound c after inside B.next env' (bind_all g ps vs) (λ g'. Ok (g' T.result)) (λ a. Ok a) d.1 bb (shown env' vs v) (λ a g' y q. ap (λ z. Ok z) q)
        ∙ and_then_ok (source.meaning turns base_of invoke c env'))
        (λ env' vs k' goal' v H. turn env' vs k' goal' (shows_fewer bound after inside env' (bind_all g ps vs) (λ z q. still_block body bound z q) (shown env' vs v)) v.kept H)
        (λ vs. k (bind_all g ts vs)) goal
        (λ env' vs v. h env' (bind_all g ts vs) (extends_more n S.next f g _ gs.later x (extends_more S.next T.next g g _ later (extends_self S.next g) (bind_all_extends T.next (length all) g vs))) v.kept
        (carries_shows all after changed T.next scope env env' g vs (below_more S.next T.next scope b1 later) others v))
        (turns - 1) env' vs v)
        ∙ sym (and_then_assoc (source.block turns base_of invoke body env) (source.repeat (turns - 1) site test (source.meaning turns base_of invoke c) (source.block turns base_of invoke body)) goal))

    pub sound_block : {R : Type 0} (ss : Block) (bound : Names) (scope : Scope) (n : ℕ) (env : Outcomes.Env) (f : Env) (k : Env → Ends R) (goal : Outcomes.Env → Ends R) → BlockDefinite count ss bound → Below n scope → Shows bound scope env f → ((env' : Outcomes.Env) (g : Env) → Extends n f g → Kept (names_bound ss) env env' → Shows (bound_behind ss bound) (lowered_block group_of base_of base_of_name ss scope n).scope env' g → k g ≡ goal env') → run_lets calls turns (lowered_block group_of base_of base_of_name ss scope n).lets f k ≡ and_then (source.block turns base_of invoke ss env) goal
    sound_block no_stmts bound scope n env f k goal d b s h = h env f (extends_self n f) (λ x p. refl) s
    sound_block (stmt_and st rest) bound scope n env f k goal d b s h =
        let A = lowered_stmt group_of base_of base_of_name st scope n in
        let ga = grows_stmt group_of base_of base_of_name st scope n b in
        let B = lowered_block group_of base_of base_of_name rest A.scope A.next in
        run_more calls turns A.lets B.lets f k
        ∙ sound_stmt st bound scope n env f _ (λ env'. and_then (source.block turns base_of invoke rest env') goal) d.0 b s
        (λ env' g x kept shows. sound_block rest (bound_after st bound) A.scope A.next env' g k goal d.1 ga.below shows
        (λ env'' g' y kept' shows'. h env'' g' (extends_more n A.next f g g' ga.later x y)
        (λ z q. kept' z (has_neither (bound_names st) (names_bound rest) z q).1 ∙ kept z (has_neither (bound_names st) (names_bound rest) z q).0) shows'))
        ∙ sym (and_then_assoc (source.statement turns base_of invoke st env) (source.block turns base_of invoke rest) goal)
