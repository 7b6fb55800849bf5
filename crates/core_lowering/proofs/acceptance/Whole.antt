-- An accepted program is definite.
use Rattle.std.proofs.Common.{◌≡◌, ℕ, Bool, true, false, not, ◌||◌, ◌&&◌, List, [], ◌∷◌, ◌++◌, length, Option, Some, None, is_some, IsTrue, cond, suc, if◌then◌else◌, refl, ap, sym, subst, ◌∙◌, append_assoc, arith}
use Rattle.std.specs.Prelude.{bytes_eq, ◌==◌, filter, find, position, flat_map, option_map}
use Rattle.std.specs.List.{list_all}
use Rattle.std.proofs.lemmas.Bool.{eqb-true}
use Rattle.std.proofs.lemmas.Slice.Eq.{bytes_eq-Decides}
use Rattle.sac_base.specs.declared.name.Name.{Name}
use Rattle.sac_base.specs.declared.site.Site.{Site}
use Rattle.sac_base.specs.Types.{compatible}
use Rattle.check_rules.specs.declared.code.CheckCode.TheVariants.{C3, C4, C6, C8}
use Rattle.sac_ast.specs.Tree.{FunctionTree, ProgramTree}
use Rattle.sac_ast.specs.Bases.{first_named, same_bases, bases_of_params}
use Rattle.check_rules.specs.Accepted.{Names, Place, unless, is_named, main_name, main_count, main_rules, may_stand_together, same_truth, base_list, param_types, values_fit, clash_rules, in_function, in_functions, names_in, known_params, none_known, repeated_params, IsAccepted}
use Rattle.check_rules.specs.Accepted as a
use Rattle.core_lowering.specs.Definite.{AreDefinite}
use Rattle.core_lowering.specs.Programs.{count_in, result_count, IsDefiniteFunction, AreDefiniteFunctions, IsDefiniteProgram}
use Rattle.core_lowering.proofs.Chosen.{position_step}
use Rattle.source_meaning.specs.Calls.{is_main}
use Rattle.core_lowering.specs.acceptance.Formed.{FunctionFormed, FunctionsFormed, ProgramFormed}
use Rattle.core_lowering.proofs.acceptance.Clean.{nil2, nil3, nil5, holds, both}
use Rattle.core_lowering.proofs.acceptance.Bound.{behind_same, definite_block, definite_all}

-- ---- counts

second_of : (a b c d e : Bool) → (a && b && c && d && e) ≡ true → b ≡ true
second_of true true c d e h = refl
second_of true false c d e h = absurd (cc)
second_of false b c d e h = absurd (cc)

same_count : (f g : FunctionTree) → may_stand_together f g ≡ true → length f.results ≡ length g.results
same_count f g h =
    eqb-true (length f.results) (length g.results)
    (second_of (length f.params == length g.params) (length f.results == length g.results) (same_truth f.inline g.inline) (compatible (param_types f) (param_types g))
    (not (same_bases (bases_of_params f) (bases_of_params g)) || same_bases (base_list f.results) (base_list g.results)) h)

itself : (x : Name) → bytes_eq x x ≡ true
itself x = grind (arith, bytes_eq-Decides x x)

count_first : (before rest : List FunctionTree) (f : FunctionTree) → list_all (may_stand_together f) (filter (is_named f.name) before) ≡ true → length f.results ≡ result_count (before ++ f ∷ rest) f.name
count_first [] rest f h = ap (λ (b : Bool). count_in (if b then Some f else find (λ (g : FunctionTree). bytes_eq g.name f.name) rest)) (sym (itself f.name))
count_first (g ∷ before) rest f h = go (bytes_eq g.name f.name) h (count_first before rest f)
  where
    go : (b : Bool) → list_all (may_stand_together f) (if b then g ∷ filter (is_named f.name) before else filter (is_named f.name) before) ≡ true
        → (list_all (may_stand_together f) (filter (is_named f.name) before) ≡ true → length f.results ≡ result_count (before ++ f ∷ rest) f.name)
        → length f.results ≡ count_in (if b then Some g else first_named (before ++ f ∷ rest) f.name)
    go true k again = same_count f g (both (may_stand_together f g) (list_all (may_stand_together f) (filter (is_named f.name) before)) k).0
    go false k again = again k

-- ---- main

mapped : (o : Option ℕ) → IsTrue (is_some o) → IsTrue (is_some (option_map suc o))
mapped None t = t
mapped (Some n) t = t

main_listed : (fs : List FunctionTree) → (filter (is_named main_name) fs ≡ [] → ⊥) → IsTrue (is_some (position is_main fs))
main_listed [] k = absurd (k refl)
main_listed (f ∷ fs) k = subst (λ (o : Option ℕ). IsTrue (is_some o)) (sym (position_step is_main f fs)) (go (is_main f) k (main_listed fs))
  where
    go : (b : Bool) → ((if b then f ∷ filter (is_named main_name) fs else filter (is_named main_name) fs) ≡ [] → ⊥) → ((filter (is_named main_name) fs ≡ [] → ⊥) → IsTrue (is_some (position is_main fs)))
        → IsTrue (is_some (cond b (Some 0) (option_map suc (position is_main fs))))
    go true k again = refl
    go false k again = mapped (position is_main fs) (again k)

counted : (gs : List FunctionTree) (end : Site) → main_count gs end ≡ [] → gs ≡ [] → ⊥
counted [] end h e = cc
counted (g ∷ gs) end h e = cc

pub main_there : (fs : List FunctionTree) (end : Site) → main_count (filter (is_named main_name) fs) end ≡ [] → IsTrue (is_some (position is_main fs))
main_there fs end h = main_listed fs (counted (filter (is_named main_name) fs) end h)

-- ---- functions

definite_function : (fs before rest : List FunctionTree) (f : FunctionTree) → fs ≡ before ++ f ∷ rest → FunctionFormed f → clash_rules before f ≡ [] → in_function fs before f ≡ [] → IsDefiniteFunction fs f
definite_function fs before rest f e w c h =
    let place : Place = record { functions = fs; before = before; inline = f.inline; listed = names_in f } in
    let start = a.with_names (a.param_names f.params) a.no_names in
    let body = a.in_block place f.body start (known_params f.params none_known) in
    let values = a.in_values place f.values (a.bound_behind f.body start) body.known in
    let r = nil5 (repeated_params f.params) body.violations values.violations (unless (length values.bases == length f.results) C3 f.ends) (unless (values_fit values.bases f.results) C4 f.ends) h in
    record {
      body = definite_block place f.body start (known_params f.params none_known) w.body r.1;
      values = subst (λ (n : Names). AreDefinite (result_count fs) f.values n) (behind_same f.body start) (definite_all place f.values (a.bound_behind f.body start) body.known w.values r.2);
      count = count_first before rest f (holds (list_all (may_stand_together f) (filter (is_named f.name) before)) C6 f.site c) ∙ ap (λ (gs : List FunctionTree). result_count gs f.name) (sym e);
    }

definite_functions : (fs before rest : List FunctionTree) → fs ≡ before ++ rest → FunctionsFormed rest → in_functions fs before rest ≡ [] → AreDefiniteFunctions fs rest
definite_functions fs before [] e w h = tt
definite_functions fs before (f ∷ rest) e w h =
    let r = nil3 (clash_rules before f) (in_function fs before f) (in_functions fs (before ++ f ∷ []) rest) h in
    (definite_function fs before rest f e w.0 r.0 r.1, definite_functions fs (before ++ f ∷ []) rest (e ∙ sym (append_assoc before (f ∷ []) rest)) w.1 r.2)

pub accepted_definite : (p : ProgramTree) → ProgramFormed p → IsAccepted p → IsDefiniteProgram p
accepted_definite p w h =
    let mains = filter (is_named main_name) p.functions in
    let r = nil2 (in_functions p.functions [] p.functions) (main_rules p.functions p.end) h in
    let m = nil2 (main_count mains p.end) (flat_map (λ (g : FunctionTree). unless (not g.inline) C8 g.site) mains) r.1 in
    record { functions = definite_functions p.functions [] p.functions refl w r.0; main = main_there p.functions p.end m.0 }
