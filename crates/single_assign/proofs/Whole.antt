-- What is made of functions and of the lists of a program.
use Rattle.std.proofs.Common.{◌≡◌, ℕ, ◌+◌, ◌<◌, List, [], ◌∷◌, ◌++◌, length, drop, map, get_or, Bool, true, false, refl, ap, sym, ◌∙◌, Bor}
use Rattle.std.specs.Prelude.{◌||◌, bytes_eq, if◌then◌else◌}
use Rattle.std.proofs.lemmas.List.{drop_more}
use Rattle.indexmap.specs.IndexSet.{insert_key}
use Rattle.sac_base.specs.declared.name.Name.{Name}
use Rattle.sac_base.specs.declared.types.ArrayType.{ArrayType}
use Rattle.sac_ast.specs.declared.Function.{Function}
use Rattle.sac_ast.specs.Tree.{FunctionTree}
use Rattle.sac_ast.specs.View.{functions}
use Rattle.core_ir.specs.declared.tree.Var.{Var}
use Rattle.core_ir.specs.Terms.{BlockTerm, FunTerm, Gives, chain}
use Rattle.core_lowering.specs.steps.Behind.{anew}
use Rattle.core_lowering.specs.steps.Looks.{Look}
use Rattle.core_lowering.specs.steps.Building.{Built, MadeList, MadeScope}
use Rattle.core_lowering.specs.steps.Functions.{MadeParams, params_declared}
use Rattle.core_scopes.specs.Looks.{texts}
use Rattle.single_assign.specs.declared.context.Context.{Context}
use Rattle.single_assign.specs.Views.{made_list, made_scope, make_all_in, make_block_in}
use Rattle.single_assign.specs.Functions.{function_from, params_made, with_body}
use Rattle.core_scopes.proofs.Once.{among, once_but, once_kept, inserted, names_left}

-- ---- functions

pub function_ends : (cx : Context) (f : FunctionTree) (start l1 l2 : Look) (s s1 s2 s3 : Built) (ps : List (Var × ArrayType)) (vs : List Var) (body : BlockTerm)
    → s ≡ anew 0 → params_made s1 ps l1 ≡ params_declared f.params start s
    → made_scope s2 l2 ≡ make_block_in cx f.body l1 s1 → made_list s3 vs ≡ make_all_in cx f.values l2 s2
    → body ≡ chain s3.lets (Gives vs) → with_body f ps body ≡ function_from cx f start
function_ends cx f start l1 l2 s s1 s2 s3 ps vs body n pp pb pv q =
    let ended : List (Var × ArrayType) → MadeList → FunTerm = λ ps v. with_body f ps (chain v.state.lets (Gives v.results)) in
    let values : MadeScope → MadeList = λ b. make_all_in cx f.values b.scope b.state in
    let whole : MadeParams → FunTerm = λ p. ended p.params (values (make_block_in cx f.body p.scope p.state)) in
    (λ i. with_body f ps (q i))
    ∙ (λ i. ended ps (pv i))
    ∙ (λ i. ended ps (values (pb i)))
    ∙ (λ i. whole (pp i))
    ∙ (λ i. whole (params_declared f.params start (n i)))

-- a list with one more element, before others
pub map_next : {A B : Type 0} (f : A → B) (xs : List A) (x : A) (rest : List B) → map f (xs ++ x ∷ []) ++ rest ≡ map f xs ++ (f x ∷ rest)
map_next f [] x rest = refl
map_next f (y ∷ xs) x rest = ap (λ l. f y ∷ l) (map_next f xs x rest)

-- ---- the names of functions

pub insert_once : (ks : List (Bor (List ℕ))) (k : Bor (List ℕ)) (xs : List Name)
    → texts (insert_key (λ (x y : Bor (List ℕ)). bytes_eq x.now y.now) ks k) ++ once_but (among (insert_key (λ (x y : Bor (List ℕ)). bytes_eq x.now y.now) ks k)) xs ≡ texts ks ++ once_but (among ks) (k.now ∷ xs)
insert_once ks k xs = by (among ks k.now) refl (inserted ks k)
  where
    by : (b : Bool) → among ks k.now ≡ b → among (if b then ks else ks ++ k ∷ []) ≡ (λ y. bytes_eq y k.now || among ks y)
        → texts (if b then ks else ks ++ k ∷ []) ++ once_but (among (if b then ks else ks ++ k ∷ [])) xs ≡ texts ks ++ once_but (among ks) (k.now ∷ xs)
    by true e h = sym (λ i. texts ks ++ (if e i then once_but (among ks) xs else k.now ∷ once_but (λ y. bytes_eq y k.now || among ks y) xs))
    by false e h = (λ i. texts (ks ++ k ∷ []) ++ once_but (h i) xs) ∙ once_kept ks k xs (among ks) e

pub names_next : (fs : List Function) (k : ℕ) (d : Function) → k < length fs → names_left (functions (drop k fs)) ≡ (get_or fs k d).name ∷ names_left (functions (drop (k + 1) fs))
names_next fs k d h = ap (λ gs. names_left (functions gs)) (drop_more fs k d h)
