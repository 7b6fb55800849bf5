-- The functions that a program's functions become are well formed.
use Rattle.std.proofs.Common.{◌≡◌, ℕ, zero, suc, ◌+◌, ◌<◌, Bool, true, false, ◌||◌, List, [], ◌∷◌, ◌++◌, map, length, Some, refl, ap, sym, subst, ◌∙◌, arith}
use Rattle.std.specs.Prelude.{bytes_eq, slice_get, option_map, zip, All, Contains, slice_index_or, if◌then◌else◌}
use Rattle.std.proofs.lemmas.Option.{slice_get-map}
use Rattle.sac_base.specs.declared.base.Base.{Base}
use Rattle.sac_base.specs.declared.name.Name.{Name}
use Rattle.sac_base.specs.declared.types.ArrayType.{ArrayType}
use Rattle.sac_ast.specs.declared.Param.{Param}
use Rattle.sac_ast.specs.Tree.{FunctionTree, ProgramTree}
use Rattle.sac_ast.specs.Bases.{base_in, bases_of_params}
use Rattle.core_ir.specs.declared.tree.Var.{Var}
use Rattle.core_ir.specs.Terms.{Gives}
use Rattle.core_ir.specs.WellFormed.{Bases, bases, param_bases, GroupBases, BlockBases, IsFunction}
use Rattle.source_meaning.specs.Calls.{param_names, param_types}
use Rattle.core_lowering.specs.Lowering.{numbered, variables_from, pushed, has_name, lowered_block, lowered_all}
use Rattle.core_lowering.specs.Definite.{with_names, bound_behind}
use Rattle.core_lowering.specs.Programs.{group_of, groups_of, function_names, places_of, lowered_params, name_base, lowered_function, lowered_program, no_names, result_count, IsDefiniteFunction, AreDefiniteFunctions, IsDefiniteProgram}
use Rattle.core_lowering.specs.Typed.{InstanceBases, ParamsTyped, IsTypedFunction, AreTypedFunctions}
use Rattle.core_lowering.specs.Standing.{all_names}
use Rattle.core_lowering.proofs.Scopes.{Below, below_pushed, listed_once}
use Rattle.core_lowering.proofs.Fresh.{grows_block, Covers, covers_pushed, covers_block}
use Rattle.core_lowering.proofs.Chosen.{placed, bytes_back, same_types}
use Rattle.core_lowering.proofs.Sound.{map_map}
use Rattle.core_lowering.proofs.Whole.{nothing_below}
use Rattle.core_lowering.proofs.WholeScope.{function_scoped, function_once}
use Rattle.core_lowering.proofs.InBases.{ScopeTyped, pushed_typed, more_typed, typed_all, typed_block}

-- ---- groups

or_first : (a b : Bool) → a ≡ true → (a || b) ≡ true
or_first a b p = λ i. p i || b

or_second : (a b : Bool) → b ≡ true → (a || b) ≡ true
or_second true b p = refl
or_second false b p = p

bytes_forth : (x y : Name) → bytes_eq x y ≡ true → bytes_eq y x ≡ true
bytes_forth x y h = go (bytes_eq y x) refl
  where
    go : (b : Bool) → bytes_eq y x ≡ b → bytes_eq y x ≡ true
    go true e = e
    go false e = absurd (let p = bytes_back y x e in cc)

name_listed : (fs : List FunctionTree) (place : ℕ) (f : FunctionTree) (x : Name) → slice_get fs place ≡ Some f → bytes_eq f.name x ≡ true → has_name (all_names fs) x ≡ true
name_listed [] place f x p q = absurd (cc)
name_listed (g ∷ gs) zero f x p q =
    let same : g ≡ f = cc in
    or_first (bytes_eq x g.name) (has_name (all_names gs) x) (ap (λ (h : FunctionTree). bytes_eq x h.name) same ∙ bytes_forth f.name x q)
name_listed (g ∷ gs) (suc place) f x p q = or_second (bytes_eq x g.name) (has_name (all_names gs) x) (name_listed gs place f x p q)

-- a place that is listed
record Listed (xs : List ℕ) (place : ℕ) : Type 0 where
  at : ℕ
  within : at < length xs
  is : slice_index_or xs at place ≡ place

later : (x place : ℕ) (xs : List ℕ) → Listed xs place → Listed (x ∷ xs) place
later x place xs l = let w = l.within in record { at = suc l.at; within = omega arith; is = l.is }

place_listed : (gs : List FunctionTree) (i place : ℕ) (f : FunctionTree) (x : Name) → slice_get gs place ≡ Some f → bytes_eq f.name x ≡ true → Listed (places_of x i gs) (i + place)
place_listed [] i place f x p q = absurd (cc)
place_listed (g ∷ gs) i zero f x p q =
    let same : g ≡ f = cc in
    let named : bytes_eq g.name x ≡ true = ap (λ (h : FunctionTree). bytes_eq h.name x) same ∙ q in
    let e : i ≡ i + 0 = omega arith in
    subst (λ (b : Bool). Listed (if b then i ∷ places_of x (suc i) gs else places_of x (suc i) gs) (i + 0)) (sym named) (record { at = 0; within = omega arith; is = e })
place_listed (g ∷ gs) i (suc place) f x p q = go (bytes_eq g.name x) (place_listed gs (suc i) place f x p q)
  where
    go : (b : Bool) → Listed (places_of x (suc i) gs) (suc i + place) → Listed (if b then i ∷ places_of x (suc i) gs else places_of x (suc i) gs) (i + suc place)
    go true l = let e : suc i + place ≡ i + suc place = omega arith in subst (λ (m : ℕ). Listed (i ∷ places_of x (suc i) gs) m) e (later i (suc i + place) (places_of x (suc i) gs) l)
    go false l = let e : suc i + place ≡ i + suc place = omega arith in subst (λ (m : ℕ). Listed (places_of x (suc i) gs) m) e l

listed_contains : (xs : List ℕ) (place : ℕ) → Listed xs place → Contains xs place
listed_contains xs place l = (l.at, l.within, l.is)

pub same_bases_of : (f : FunctionTree) → bases (param_types f) ≡ bases_of_params f
same_bases_of f = map_map (λ (t : ArrayType). t.base) (λ (p : Param). p.ty) f.params

group_bases : (p : ProgramTree) (x : Name) (us ts : List Base) → InstanceBases p.functions x us ts → GroupBases (lowered_program p) (group_of p.functions x) us ts
group_bases p x us ts d =
    let fs = p.functions in
    let place = d.0 in
    let f = d.1.0 in
    let there = d.1.1.0 in
    let named = d.1.1.1 in
    let found : slice_get (groups_of fs) (group_of fs x) ≡ Some (places_of x 0 fs) = placed (λ y. places_of y 0 fs) (function_names fs) x (listed_once (all_names fs) x (name_listed fs place f x there named)) in
    let e : 0 + place ≡ place = omega arith in (
      places_of x 0 fs,
      (
        place,
        (
          lowered_function fs f,
          (
            found,
            listed_contains (places_of x 0 fs) place (subst (λ (m : ℕ). Listed (places_of x 0 fs) m) e (place_listed fs 0 place f x there named)),
            slice_get-map (lowered_function fs) fs place ∙ ap (option_map (lowered_function fs)) there,
            ap bases (same_types fs f) ∙ same_bases_of f ∙ d.1.1.2,
            d.1.1.3,
          ),
        ),
      ),
    )

-- ---- functions

params_bases : (f : Name → Base) (n : ℕ) (ps : List Param) → ParamsTyped f ps → map (λ (p : Var × ArrayType). (p.0, p.1.base)) (lowered_params n ps) ≡ zip (variables_from n (length (map (λ (p : Param). p.name) ps))) (map f (map (λ (p : Param). p.name) ps))
params_bases f n [] d = refl
params_bases f n (p ∷ ps) d = λ i. (numbered n, sym d.0 i) ∷ params_bases f (suc n) ps d.1 i

no_more : {A : Type 0} (xs : List A) → xs ++ [] ≡ xs
no_more [] = refl
no_more (x ∷ xs) = ap (λ l. x ∷ l) (no_more xs)

nothing_typed : (f : Name → Base) → ScopeTyped f [] []
nothing_typed f x y p = absurd (cc)

nothing_covered : Covers no_names []
nothing_covered x p = absurd (cc)

function_agreeing : (p : ProgramTree) (f : FunctionTree) → IsDefiniteFunction p.functions f → IsTypedFunction p.functions f → BlockBases (lowered_program p) (param_bases (lowered_function p.functions f)) (lowered_function p.functions f).body (bases f.results)
function_agreeing p f d t =
    let fs = p.functions in
    let base = name_base fs f in
    let xs = param_names f in
    let n = length xs in
    let scope = pushed xs 0 [] in
    let bound = with_names xs no_names in
    let B = lowered_block (group_of fs) (base_in fs f) base f.body scope n in
    let V = lowered_all (group_of fs) (base_in fs f) base f.values B.scope B.next in
    let below : Below n scope = below_pushed xs 0 n [] (nothing_below 0) (omega arith) in
    let grown = grows_block (group_of fs) (base_in fs f) base f.body scope n below in
    let cover : Covers bound scope = λ x q. covers_pushed xs 0 no_names [] nothing_covered x q in
    let g = zip (variables_from 0 n) (map base xs) ++ [] in
    let start : ScopeTyped base scope g = λ x y q. pushed_typed base xs 0 [] [] (nothing_below 0) (nothing_typed base) x y q in
    subst (λ (h : Bases). BlockBases (lowered_program p) h (lowered_function fs f).body (bases f.results)) (no_more (zip (variables_from 0 n) (map base xs)) ∙ sym (params_bases base 0 f.params t.params))
    (more_typed (lowered_program p) g B.lets V.lets (Gives V.results) (bases f.results)
    (typed_block (group_of fs) (base_in fs f) base (result_count fs) (InstanceBases fs) (lowered_program p) (group_bases p) f.body bound scope n g _ (bases f.results) t.body d.body below cover start
    (λ h l s. typed_all (group_of fs) (base_in fs f) base (result_count fs) (InstanceBases fs) (lowered_program p) (group_bases p) f.values (bases f.results) (bound_behind f.body bound) B.scope B.next h (Gives V.results) (bases f.results) t.values d.values grown.below
    (covers_block (result_count fs) (group_of fs) (base_in fs f) base f.body bound scope n d.body cover) s
    (λ h' l' q. q))))

function_well_formed : (p : ProgramTree) (f : FunctionTree) → IsDefiniteFunction p.functions f → IsTypedFunction p.functions f → IsFunction (lowered_program p) (lowered_function p.functions f)
function_well_formed p f d t = record {
  once = function_once p.functions f;
  scoped = function_scoped p.functions f;
  agreeing = function_agreeing p f d t;
}

-- each of a list, from each in turn
abbrev pub EachOf : {A : Type 0} → (A → Type 0) → List A → Type 0
EachOf P [] = Unit {0}
EachOf P (x ∷ xs) = P x × EachOf P xs

pub all_each : {A : Type 0} (P : A → Type 0) (xs : List A) → EachOf P xs → All P xs
all_each P [] e k d l = absurd (omega arith)
all_each P (x ∷ xs) e zero d l = e.0
all_each P (x ∷ xs) e (suc k) d l = all_each P xs e.1 k d (omega arith)

each_well_formed : (p : ProgramTree) (gs : List FunctionTree) → AreDefiniteFunctions p.functions gs → AreTypedFunctions p.functions gs → EachOf (IsFunction (lowered_program p)) (map (lowered_function p.functions) gs)
each_well_formed p [] d t = tt
each_well_formed p (g ∷ gs) d t = (function_well_formed p g d.0 t.0, each_well_formed p gs d.1 t.1)

pub functions_well_formed : (p : ProgramTree) → IsDefiniteProgram p → AreTypedFunctions p.functions p.functions → All (IsFunction (lowered_program p)) (lowered_program p).functions
functions_well_formed p d t = all_each (IsFunction (lowered_program p)) (lowered_program p).functions (each_well_formed p p.functions d.functions t)
