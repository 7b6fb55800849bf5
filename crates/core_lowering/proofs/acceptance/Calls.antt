-- What a call gives that violates no rule, and which operators fit.
use Rattle.std.proofs.Common.{◌≡◌, ℕ, suc, Bool, true, false, not, ◌||◌, ◌&&◌, List, [], ◌∷◌, length, Option, Some, None, is_some, refl, ap, sym, ◌∙◌}
use Rattle.std.specs.Prelude.{bytes_eq, find, slice_get, if◌then◌else◌, ◌==◌}
use Rattle.std.specs.List.{list_any}
use Rattle.std.proofs.lemmas.Bool.{eqb-true}
use Rattle.std.proofs.lemmas.List.{length-map}
use Rattle.sac_base.specs.declared.base.Base.{Base}
use Rattle.sac_base.specs.declared.base.Base.TheVariants.{Int, Bool as Truth}
use Rattle.sac_base.specs.declared.name.Name.{Name}
use Rattle.sac_base.specs.declared.op.Op.{Op}
use Rattle.sac_base.specs.declared.op.Op.TheVariants.{Add, Sub, Mul, Div, Rem, Min, Max, Neg, Not, Eq, Ne, Lt, Le, Gt, Ge, And, Or}
use Rattle.sac_base.specs.declared.site.Site.{Site}
use Rattle.sac_base.specs.declared.types.ArrayType.{ArrayType}
use Rattle.sac_base.specs.Arrays.{same_base}
use Rattle.sac_base.specs.Operators.{result_base}
use Rattle.sac_base.specs.Verdict.{folds}
use Rattle.check_rules.specs.declared.code.CheckCode.TheVariants.{C2, C3, C4, C8}
use Rattle.sac_ast.specs.Tree.{FunctionTree}
use Rattle.sac_ast.specs.Bases.{may_be, operand_base, operands_fit, common_base, with_base, all_known, known_bases, same_bases, bases_of_params, bases_of_results, counts_beside, first_named, takes_bases, instance_by, call_bases_in}
use Rattle.core_ir.specs.WellFormed.{UnaryBase, BinaryBase, bases}
use Rattle.check_rules.specs.Accepted.{Place, Findings, unless, call_rules, numbers_fit, some_takes, stands_earlier, is_clean, in_call}
use Rattle.core_lowering.specs.Programs.{count_in, result_count}
use Rattle.core_lowering.specs.Typed.{InstanceBases}
use Rattle.core_lowering.specs.acceptance.Formed.{TakesOne, TakesTwo, IsFolding}
use Rattle.core_lowering.proofs.acceptance.Clean.{nil2, nil4, holds, both, implied}
use Rattle.core_lowering.proofs.acceptance.Told.{same, somes}

-- ---- operators

pub unary_fits : (op : Op) (t : Base) → TakesOne op → may_be (operand_base op) (Some t) ≡ true → UnaryBase op t (result_base op)
unary_fits Neg t o h = (sym (same Int t h), refl)
unary_fits Not t o h = (sym (same Truth t h), refl)
unary_fits _ t o h = absurd o

two_are : (w t u : Base) → (same_base w t && same_base w u) ≡ true → (u ≡ t) × (t ≡ w)
two_are w t u h = let r = both (same_base w t) (same_base w u) h in (sym (same w u r.1) ∙ same w t r.0, sym (same w t r.0))

pub binary_fits : (op : Op) (t u : Base) → TakesTwo op → operands_fit op (Some t) (Some u) ≡ true → (u ≡ t) × BinaryBase op t (result_base op)
binary_fits Neg t u o h = absurd o
binary_fits Not t u o h = absurd o
binary_fits Eq t u o h = (sym (same t u h), refl)
binary_fits Ne t u o h = (sym (same t u h), refl)
binary_fits Add t u o h = let r = two_are Int t u h in (r.0, (r.1, refl))
binary_fits Sub t u o h = let r = two_are Int t u h in (r.0, (r.1, refl))
binary_fits Mul t u o h = let r = two_are Int t u h in (r.0, (r.1, refl))
binary_fits Div t u o h = let r = two_are Int t u h in (r.0, (r.1, refl))
binary_fits Rem t u o h = let r = two_are Int t u h in (r.0, (r.1, refl))
binary_fits Min t u o h = let r = two_are Int t u h in (r.0, (r.1, refl))
binary_fits Max t u o h = let r = two_are Int t u h in (r.0, (r.1, refl))
binary_fits Lt t u o h = let r = two_are Int t u h in (r.0, (r.1, refl))
binary_fits Le t u o h = let r = two_are Int t u h in (r.0, (r.1, refl))
binary_fits Gt t u o h = let r = two_are Int t u h in (r.0, (r.1, refl))
binary_fits Ge t u o h = let r = two_are Int t u h in (r.0, (r.1, refl))
binary_fits And t u o h = let r = two_are Truth t u h in (r.0, (r.1, refl))
binary_fits Or t u o h = let r = two_are Truth t u h in (r.0, (r.1, refl))

pub fold_fits : (op : Op) (t : Base) → IsFolding op → operands_fit op (Some t) (Some t) ≡ true → folds t op ≡ true
fold_fits Add Int o h = refl
fold_fits Mul Int o h = refl
fold_fits Min Int o h = refl
fold_fits Max Int o h = refl
fold_fits And Int o h = absurd (cc)
fold_fits Or Int o h = absurd (cc)
fold_fits Add Truth o h = absurd (cc)
fold_fits Mul Truth o h = absurd (cc)
fold_fits Min Truth o h = absurd (cc)
fold_fits Max Truth o h = absurd (cc)
fold_fits And Truth o h = refl
fold_fits Or Truth o h = refl
fold_fits _ t o h = absurd o

pub pair_base : (t u : Base) → same_base t u ≡ true → common_base (Some t ∷ Some u ∷ []) ≡ Some t
pair_base Int Int h = refl
pair_base Truth Truth h = refl
pair_base Int Truth h = absurd (cc)
pair_base Truth Int h = absurd (cc)

-- ---- instances

same_list : (ts us : List Base) → same_bases ts us ≡ true → ts ≡ us
same_list [] [] h = refl
same_list [] (u ∷ us) h = absurd (cc)
same_list (t ∷ ts) [] h = absurd (cc)
same_list (t ∷ ts) (u ∷ us) h = let r = both (same_base t u) (same_bases ts us) h in λ i. same t u r.0 i ∷ same_list ts us r.1 i

known_all : (us : List Base) → all_known (somes us) ≡ Some us
known_all [] = refl
known_all (u ∷ us) = ap (with_base (Some u)) (known_all us)

record Found (q : FunctionTree → Bool) (gs : List FunctionTree) (o : Option FunctionTree) : Type 0 where
  place : ℕ
  function : FunctionTree
  there : slice_get gs place ≡ Some function
  found : o ≡ Some function
  holds : q function ≡ true

find_there : (q : FunctionTree → Bool) (gs : List FunctionTree) → list_any q gs ≡ true → Found q gs (find q gs)
find_there q [] h = absurd (cc)
find_there q (g ∷ gs) h = go (q g) refl h (find_there q gs)
  where
    go : (b : Bool) → q g ≡ b → (b || list_any q gs) ≡ true → (list_any q gs ≡ true → Found q gs (find q gs)) → Found q (g ∷ gs) (if b then Some g else find q gs)
    go true e k again = record { place = 0; function = g; there = refl; found = refl; holds = e }
    go false e k again = let w = again k in record { place = suc w.place; function = w.function; there = w.there; found = w.found; holds = w.holds }

three : (a b c : Bool) → (a && b && c) ≡ true → (a ≡ true) × (b ≡ true) × (c ≡ true)
three true true c h = (refl, refl, h)
three true false c h = absurd (cc)
three false b c h = absurd (cc)

beside_count : (o : Option FunctionTree) (g : FunctionTree) → counts_beside o g ≡ true → length g.results ≡ count_in o
beside_count None g h = absurd (cc)
beside_count (Some f) g h = eqb-true (length g.results) (length f.results) (both (length g.params == length f.params) (length g.results == length f.results) h).1

-- what a call gives on arguments of these bases
pub record Called (fs : List FunctionTree) (name : Name) (us : List Base) : Type 0 where
  pub gives : List Base
  pub found : call_bases_in fs name (somes us) ≡ Some gives
  pub count : length gives ≡ result_count fs name
  pub instance : InstanceBases fs name us gives

taken : (fs : List FunctionTree) (name : Name) (us : List Base) → list_any (takes_bases fs name us) fs ≡ true → Called fs name us
taken fs name us h =
    let w = find_there (takes_bases fs name us) fs h in
    let g = w.function in
    let t = three (bytes_eq g.name name) (counts_beside (first_named fs name) g) (same_bases (bases_of_params g) us) w.holds in
    record {
      gives = bases g.results;
      found = ap (λ (o : Option (List Base)). bases_of_results (instance_by fs name o)) (known_all us) ∙ ap bases_of_results w.found;
      count = length-map g.results (λ (ty : ArrayType). ty.base) ∙ beside_count (first_named fs name) g t.1;
      instance = (w.place, (g, (w.there, t.0, same_list (bases_of_params g) us t.2, refl)));
    }

pub call_gives : (p : Place) (name : Name) (results : ℕ) (site : Site) (args : Findings) (us : List Base) → args.bases ≡ somes us → (in_call p name results site args).violations ≡ [] → Called p.functions name us
call_gives p name results site args us e h =
    let fs = p.functions in
    let g = first_named fs name in
    let r = nil2 (call_rules p name args.bases results site) args.violations h in
    let q = nil4 (unless (is_some g) C2 site) (unless (numbers_fit g (length args.bases) results) C3 site) (unless (not (is_some g) || some_takes fs name (all_known args.bases)) C4 site) (unless (stands_earlier p name) C8 site) r.0 in
    let takes = implied (is_some g) (some_takes fs name (all_known args.bases)) (holds (is_some g) C2 site q.0) (holds (not (is_some g) || some_takes fs name (all_known args.bases)) C4 site q.2) in
    taken fs name us (ap (some_takes fs name) (sym (ap all_known e ∙ known_all us)) ∙ takes)

pub call_bases_are : (p : Place) (name : Name) (results : ℕ) (site : Site) (args : Findings) (us : List Base) (e : args.bases ≡ somes us) (h : (in_call p name results site args).violations ≡ [])
    → (in_call p name results site args).bases ≡ somes (call_gives p name results site args us e h).gives
call_bases_are p name results site args us e h =
    (λ i. if is_clean (h i) then known_bases (call_bases_in p.functions name (e i)) else []) ∙ ap known_bases (call_gives p name results site args us e h).found
