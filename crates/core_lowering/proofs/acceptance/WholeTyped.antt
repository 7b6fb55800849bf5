-- The functions of an accepted program have the bases that the core asks for.
use Rattle.std.proofs.Common.{◌≡◌, true, List, [], ◌∷◌, ◌++◌, length, Option, Some, refl, ap, sym, subst, ◌∙◌, arith}
use Rattle.std.specs.Prelude.{◌==◌}
use Rattle.std.proofs.lemmas.Bool.{eqb-true}
use Rattle.sac_base.specs.declared.base.Base.{Base}
use Rattle.sac_base.specs.declared.types.ArrayType.{ArrayType}
use Rattle.check_rules.specs.declared.code.CheckCode.TheVariants.{C3, C4}
use Rattle.sac_ast.specs.Tree.{FunctionTree, ProgramTree}
use Rattle.sac_ast.specs.Bases.{call_bases_in, known_in, bound_params, may_be, in_block}
use Rattle.core_ir.specs.WellFormed.{bases}
use Rattle.check_rules.specs.Accepted.{Place, unless, names_in, param_names, no_names, with_names, bound_behind, repeated_params, known_params, none_known, values_fit, clash_rules, in_function, in_functions, main_rules, IsAccepted}
use Rattle.check_rules.specs.Accepted as a
use Rattle.core_lowering.specs.Typed.{InstanceBases, AreTyped, IsTypedFunction, AreTypedFunctions}
use Rattle.sac_ast.specs.Bases as b
use Rattle.core_lowering.specs.acceptance.Formed.{FunctionFormed, FunctionsFormed, ProgramFormed}
use Rattle.core_lowering.proofs.acceptance.Clean.{nil2, nil3, nil5, holds, both}
use Rattle.core_lowering.proofs.acceptance.Told.{same, told, params_told, somes, Extends, Covered, Based, covered_params, based_params, params_typed, name_bases}
use Rattle.core_lowering.proofs.acceptance.Typing.{block_facts, exprs_facts}

-- values have the bases of the results
values_same : (ts : List Base) (types : List ArrayType) → length (somes ts) ≡ length types → values_fit (somes ts) types ≡ true → ts ≡ bases types
values_same [] [] n h = refl
values_same [] (ty ∷ types) n h = absurd (omega (arith, n))
values_same (t ∷ ts) [] n h = absurd (omega (arith, n))
values_same (t ∷ ts) (ty ∷ types) n h =
    let r = both (may_be ty.base (Some t)) (values_fit (somes ts) types) h in
    λ i. sym (same ty.base t r.0) i ∷ values_same ts types (omega (arith, n)) r.1 i

typed_function : (fs before : List FunctionTree) (f : FunctionTree) → FunctionFormed f → in_function fs before f ≡ [] → IsTypedFunction fs f
typed_function fs before f w h =
    let place : Place = record { functions = fs; before = before; inline = f.inline; listed = names_in f } in
    let start = with_names (param_names f.params) no_names in
    let known = known_params f.params none_known in
    let body = a.in_block place f.body start known in
    let values = a.in_values place f.values (bound_behind f.body start) body.known in
    let r = nil5 (repeated_params f.params) body.violations values.violations (unless (length values.bases == length f.results) C3 f.ends) (unless (values_fit values.bases f.results) C4 f.ends) h in
    let covered : Covered start known = covered_params f.params no_names none_known (λ name q. absurd (cc)) in
    let based : Based known = based_params f.params none_known (λ name q. cc) in
    let B = block_facts place f.body start known w.body r.1 covered based in
    let E = exprs_facts place f.values (bound_behind f.body start) body.known w.values r.2 B.covered B.grown.based in
    let L = known_in fs f in
    let first : known ≡ told (bound_params f.params) = params_told f.params [] in
    let middle : body.known ≡ told (in_block (call_bases_in fs) f.body (bound_params f.params)) = B.same (bound_params f.params) first in
    let last : values.known ≡ told L = E.same (in_block (call_bases_in fs) f.body (bound_params f.params)) middle in
    let le : Extends values.known (told L) = λ name x q. sym (λ i. last i name) ∙ q in
    let lb : Extends body.known (told L) = λ name x q. le name x (E.grown.later name x q) in
    let lk : Extends known (told L) = λ name x q. lb name x (B.grown.later name x q) in
    let n : length (somes E.ts) ≡ length f.results = ap (λ (bs : List (Option Base)). length bs) (sym E.bases) ∙ eqb-true (length values.bases) (length f.results) (holds (length values.bases == length f.results) C3 f.ends r.3) in
    let fit : values_fit (somes E.ts) f.results ≡ true = ap (λ (bs : List (Option Base)). values_fit bs f.results) (sym E.bases) ∙ holds (values_fit values.bases f.results) C4 f.ends r.4 in
    record {
      params = params_typed f.params no_names none_known L (λ name q. refl) r.0 lk;
      body = B.typed L lb;
      values = subst (λ (ts : List Base). AreTyped (b.base (call_bases_in fs) L) (name_bases L) (InstanceBases fs) f.values ts) (values_same E.ts f.results n fit) (E.typed L le).1;
    }

typed_functions : (fs before rest : List FunctionTree) → FunctionsFormed rest → in_functions fs before rest ≡ [] → AreTypedFunctions fs rest
typed_functions fs before [] w h = tt
typed_functions fs before (f ∷ rest) w h =
    let r = nil3 (clash_rules before f) (in_function fs before f) (in_functions fs (before ++ f ∷ []) rest) h in
    (typed_function fs before f w.0 r.1, typed_functions fs (before ++ f ∷ []) rest w.1 r.2)

pub accepted_typed : (p : ProgramTree) → ProgramFormed p → IsAccepted p → AreTypedFunctions p.functions p.functions
accepted_typed p w h = typed_functions p.functions [] p.functions w (nil2 (in_functions p.functions [] p.functions) (main_rules p.functions p.end) h).0
