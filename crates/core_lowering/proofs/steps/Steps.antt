-- Steps of loops: what is made so far, before what the rest makes, is the whole.
use Rattle.std.proofs.Common.{◌≡◌, ℕ, suc, ◌+◌, Bool, true, false, ◌||◌, cond, List, [], ◌∷◌, ◌++◌, map, length, Option, Some, None, refl, sym, subst, ◌∙◌, arith}
use Rattle.std.specs.Prelude.{bytes_eq, filter, if◌then◌else◌, position, unwrap_or, nat_lt, not}
use Rattle.std.specs.List.{position_or_len}
use Rattle.std.proofs.lemmas.Bool.{ltb-false}
use Rattle.std.proofs.lemmas.List.{append_assoc, append-nil}
use Rattle.std.proofs.lemmas.List.Recursion.{is_position_or_len}
use Rattle.std.proofs.lemmas.List.Sums.{prefix_len-le-length}
use Rattle.std.proofs.lemmas.Slice.Eq.{bytes_eq-Decides}
use Rattle.sac_base.specs.declared.base.Base.{Base}
use Rattle.sac_base.specs.declared.name.Name.{Name}
use Rattle.sac_base.specs.declared.site.Site.{Site}
use Rattle.sac_base.specs.declared.types.ArrayType.{ArrayType}
use Rattle.sac_ast.specs.declared.Param.{Param}
use Rattle.sac_ast.specs.Tree.{Expr, Exprs, expr_and, Gen, Gens, gen_and, Stmt, Block, stmt_and, FunctionTree}
use Rattle.core_ir.specs.declared.tree.Var.{Var}
use Rattle.core_ir.specs.Terms.{GenTerm, GensTerm, NoGens, gens_of}
use Rattle.core_ir.specs.Terms
use Rattle.core_lowering.specs.Lowering.{has_name, once}
use Rattle.core_lowering.specs.Programs.{place_in, places_of}
use Rattle.core_lowering.specs.steps.Looks.{Look, with_var}
use Rattle.core_lowering.specs.steps.Building.{Built, Made, MadeList, MadeNames, MadeScope, MadeGen, MadeGens, fresh_at, start_at, declared, make_starts, make, make_all, make_gen, make_gens, make_stmt, make_block}
use Rattle.core_lowering.specs.steps.Functions.{MadeParams, params_declared}
use Rattle.core_lowering.specs.steps.Parts.{after_list, after_names, after_params, onto, after_gens}

-- ---- lists

pub one_on : {A : Type 0} (done : List A) (x : A) (rest : List A) → (done ++ (x ∷ [])) ++ rest ≡ done ++ (x ∷ rest)
one_on done x rest = append_assoc done (x ∷ []) rest

pub takes : {A : Type 0} (p : A → Bool) (done : List A) (x : A) (rest : List A) → p x ≡ true → (done ++ (x ∷ [])) ++ filter p rest ≡ done ++ filter p (x ∷ rest)
takes p done x rest h = one_on done x (filter p rest) ∙ sym (λ i. done ++ cond (h i) (x ∷ filter p rest) (filter p rest))

pub leaves : {A : Type 0} (p : A → Bool) (done : List A) (x : A) (rest : List A) → p x ≡ false → done ++ filter p rest ≡ done ++ filter p (x ∷ rest)
leaves p done x rest h = sym (λ i. done ++ cond (h i) (x ∷ filter p rest) (filter p rest))

-- ---- names, each once

-- those that are not among others
abbrev pub once_but : (Name → Bool) → List Name → List Name
once_but met [] = []
once_but met (x ∷ xs) = if met x then once_but met xs else x ∷ once_but (λ y. bytes_eq y x || met y) xs

pub once_is : (met : List Name) (xs : List Name) → once met xs ≡ once_but (has_name met) xs
once_is met [] = refl
once_is met (x ∷ xs) = λ i. if has_name met x then once_is met xs i else x ∷ once_is (x ∷ met) xs i

pub once_same : (xs : List Name) (met other : Name → Bool) → ((y : Name) → met y ≡ other y) → once_but met xs ≡ once_but other xs
once_same [] met other h = refl
once_same (x ∷ xs) met other h =
    λ i. cond (h x i) (once_same xs met other h i) (x ∷ once_same xs (λ y. bytes_eq y x || met y) (λ y. bytes_eq y x || other y) (λ y. λ j. bytes_eq y x || h y j) i)

-- a name that was not met, which the set of those met then has too
pub once_takes : (done : List Name) (met after : Name → Bool) (x : Name) (xs : List Name) → met x ≡ false → ((y : Name) → after y ≡ (bytes_eq y x || met y)) → (done ++ (x ∷ [])) ++ once_but after xs ≡ done ++ once_but met (x ∷ xs)
once_takes done met after x xs h k =
    one_on done x (once_but after xs)
    ∙ (λ i. done ++ (x ∷ once_same xs after (λ y. bytes_eq y x || met y) k i))
    ∙ sym (λ i. done ++ cond (h i) (once_but met xs) (x ∷ once_but (λ y. bytes_eq y x || met y) xs))

-- a name that was met is in the set again
pub met_again : (met : Name → Bool) (x : Name) → met x ≡ true → (y : Name) → (bytes_eq y x || met y) ≡ met y
met_again met x h y = go (bytes_eq y x) refl
  where
    go : (b : Bool) → bytes_eq y x ≡ b → (b || met y) ≡ met y
    go true e = let same : y ≡ x = (bytes_eq-Decides y x).0 e in sym (subst (λ z. met z ≡ true) (sym same) h)
    go false e = refl

pub once_leaves : (done : List Name) (met after : Name → Bool) (x : Name) (xs : List Name) → met x ≡ true → ((y : Name) → after y ≡ (bytes_eq y x || met y)) → done ++ once_but after xs ≡ done ++ once_but met (x ∷ xs)
once_leaves done met after x xs h k =
    (λ i. done ++ once_same xs after met (λ y. k y ∙ met_again met x h y) i)
    ∙ sym (λ i. done ++ cond (h i) (once_but met xs) (x ∷ once_but (λ y. bytes_eq y x || met y) xs))

-- ---- expressions, generators, statements, and names that are bound, one after another

pub list_end : (done : List Var) (s : Built) {whole : MadeList} → after_list done (record { state = s; results = [] }) ≡ whole → record { state = s; results = done } ≡ whole
list_end done s h = sym (λ i. record { state = s; results = append-nil done i }) ∙ h

pub names_end : (done : List Var) (look : Look) (s : Built) {whole : MadeNames} → after_names done (declared [] look s) ≡ whole → record { state = s; results = done; scope = look } ≡ whole
names_end done look s h = sym (λ i. record { state = s; results = append-nil done i; scope = look }) ∙ h

pub names_step : (done : List Var) (x : Name) (xs : List Name) (look : Look) {after : Look} (s : Built) {a : Made} {whole : MadeNames}
    → a ≡ fresh_at s → after ≡ with_var x a.result look → after_names done (declared (x ∷ xs) look s) ≡ whole → after_names (done ++ (a.result ∷ [])) (declared xs after a.state) ≡ whole
names_step done x xs look {after} s {a} p q h =
    (λ i. let d = declared xs (q i) a.state in record { state = d.state; results = one_on done a.result d.results i; scope = d.scope })
    ∙ (λ i. let d = declared xs (with_var x (p i).result look) (p i).state in record { state = d.state; results = done ++ ((p i).result ∷ d.results); scope = d.scope })
    ∙ h

pub params_end : (done : List (Var × ArrayType)) (look : Look) (s : Built) {whole : MadeParams} → after_params done (params_declared [] look s) ≡ whole → record { state = s; params = done; scope = look } ≡ whole
params_end done look s h = sym (λ i. record { state = s; params = append-nil done i; scope = look }) ∙ h

pub params_step : (done : List (Var × ArrayType)) (p : Param) (ps : List Param) (look : Look) {after : Look} (s : Built) {a : Made} {whole : MadeParams}
    → a ≡ fresh_at s → after ≡ with_var p.name a.result look → after_params done (params_declared (p ∷ ps) look s) ≡ whole → after_params (done ++ ((a.result, p.ty) ∷ [])) (params_declared ps after a.state) ≡ whole
params_step done p ps look {after} s {a} e q h =
    (λ i. let d = params_declared ps (q i) a.state in record { state = d.state; params = one_on done (a.result, p.ty) d.params i; scope = d.scope })
    ∙ (λ i. let d = params_declared ps (with_var p.name (e i).result look) (e i).state in record { state = d.state; params = done ++ (((e i).result, p.ty) ∷ d.params); scope = d.scope })
    ∙ h

pub starts_step : (N : Name → Base) (site : Site) (done : List Var) (x : Name) (xs : List Name) (look : Look) (s : Built) {a : Made} {whole : MadeList}
    → a ≡ start_at (N x) s site (look x) → after_list done (make_starts N site (x ∷ xs) look s) ≡ whole → after_list (done ++ (a.result ∷ [])) (make_starts N site xs look a.state) ≡ whole
starts_step N site done x xs look s {a} p h =
    (λ i. let b = make_starts N site xs look a.state in record { state = b.state; results = one_on done a.result b.results i })
    ∙ (λ i. let b = make_starts N site xs look (p i).state in record { state = b.state; results = done ++ ((p i).result ∷ b.results) })
    ∙ h

pub onto_end : (gs : List GenTerm) → onto gs NoGens ≡ gens_of gs
onto_end [] = refl
onto_end (g ∷ gs) = λ i. Terms.Gen g.head g.body (onto_end gs i)

pub onto_one : (done : List GenTerm) (g : GenTerm) (rest : GensTerm) → onto (done ++ (g ∷ [])) rest ≡ onto done (Terms.Gen g.head g.body rest)
onto_one [] g rest = refl
onto_one (h ∷ done) g rest = λ i. Terms.Gen h.head h.body (onto_one done g rest i)

pub gens_end : (done : List GenTerm) (s : Built) {whole : MadeGens} → after_gens done (record { state = s; gens = NoGens }) ≡ whole → record { state = s; gens = gens_of done } ≡ whole
gens_end done s h = sym (λ i. record { state = s; gens = onto_end done i }) ∙ h

module _ (G : Name → ℕ) (B : Expr → Option Base) (N : Name → Base) where
  pub all_step : (done : List Var) (e : Expr) (es : Exprs) (look : Look) (s : Built) {a : Made} {whole : MadeList}
      → a ≡ make G B N e look s → after_list done (make_all G B N (expr_and e es) look s) ≡ whole → after_list (done ++ (a.result ∷ [])) (make_all G B N es look a.state) ≡ whole
  all_step done e es look s {a} p h =
      (λ i. let b = make_all G B N es look a.state in record { state = b.state; results = one_on done a.result b.results i })
      ∙ (λ i. let b = make_all G B N es look (p i).state in record { state = b.state; results = done ++ ((p i).result ∷ b.results) })
      ∙ h

  pub gens_step : (done : List GenTerm) (g : Gen) (gs : Gens) (look : Look) (s : Built) {a : MadeGen} {whole : MadeGens}
      → a ≡ make_gen G B N g look s → after_gens done (make_gens G B N (gen_and g gs) look s) ≡ whole → after_gens (done ++ (a.gen ∷ [])) (make_gens G B N gs look a.state) ≡ whole
  gens_step done g gs look s {a} p h =
      (λ i. let b = make_gens G B N gs look a.state in record { state = b.state; gens = onto_one done a.gen b.gens i })
      ∙ (λ i. let b = make_gens G B N gs look (p i).state in record { state = b.state; gens = onto done (Terms.Gen (p i).gen.head (p i).gen.body b.gens) })
      ∙ h

  pub block_step : (st : Stmt) (rest : Block) (look : Look) (s : Built) {a : MadeScope} {whole : MadeScope}
      → a ≡ make_stmt G B N st look s → make_block G B N (stmt_and st rest) look s ≡ whole → make_block G B N rest a.scope a.state ≡ whole
  block_step st rest look s p h = (λ i. make_block G B N rest (p i).scope (p i).state) ∙ h

-- ---- programs

-- the place of a name among keys is the first at which a search by the name's test stops, or their number
pub place_is : {K : Type 0} (text : K → Name) (ks : List K) (x : Name) → place_in (map text ks) x ≡ unwrap_or (position (λ k. bytes_eq x (text k)) ks) (length ks)
place_is {K} text ks x =
    is_position_or_len (λ l. place_in (map text l) x) test refl step ks ∙ sym (go (nat_lt (position_or_len test ks) (length ks)) refl)
  where
    test : K → Bool
    test k = bytes_eq x (text k)

    step : (y : K) (ys : List K) → place_in (map text (y ∷ ys)) x ≡ cond (test y) 0 (1 + place_in (map text ys) x)
    step y ys = let e : suc (place_in (map text ys) x) ≡ 1 + place_in (map text ys) x = omega arith in λ i. cond (test y) 0 (e i)

    go : (b : Bool) → nat_lt (position_or_len test ks) (length ks) ≡ b → unwrap_or (cond b (Some (position_or_len test ks)) None) (length ks) ≡ position_or_len test ks
    go true e = refl
    go false e =
        let few = prefix_len-le-length (λ k. not (test k)) ks in
        let many = ltb-false (position_or_len test ks) (length ks) e in
        omega (arith, few, many)

pub places_take : (done : List ℕ) (x : Name) (i : ℕ) (f : FunctionTree) (fs : List FunctionTree) → bytes_eq f.name x ≡ true → (done ++ (i ∷ [])) ++ places_of x (suc i) fs ≡ done ++ places_of x i (f ∷ fs)
places_take done x i f fs h = one_on done i (places_of x (suc i) fs) ∙ sym (λ j. done ++ cond (h j) (i ∷ places_of x (suc i) fs) (places_of x (suc i) fs))

pub places_leave : (done : List ℕ) (x : Name) (i : ℕ) (f : FunctionTree) (fs : List FunctionTree) → bytes_eq f.name x ≡ false → done ++ places_of x (suc i) fs ≡ done ++ places_of x i (f ∷ fs)
places_leave done x i f fs h = sym (λ j. done ++ cond (h j) (i ∷ places_of x (suc i) fs) (places_of x (suc i) fs))
