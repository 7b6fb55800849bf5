-- Main over the passes.
use Rattle.std.proofs.Common.{◌≡◌, ℕ, zero, suc, List, [], ◌∷◌, map, Option, Some, None, refl, sym, ap, subst, ◌∙◌}
use Rattle.std.specs.Prelude.{slice_get, position, unwrap_or, option_map}
use Rattle.std.proofs.lemmas.Option.{slice_get-map}
use Rattle.sac_base.specs.declared.form.Form.{Form}
use Rattle.sac_base.specs.declared.types.ArrayType.{ArrayType}
use Rattle.sac_base.specs.Types.{all_have_forms}
use Rattle.sac_ast.specs.declared.Param.{Param}
use Rattle.sac_ast.specs.Tree.{FunctionTree, ProgramTree}
use Rattle.source_meaning.specs.Calls as source
use Rattle.core_ir.specs.declared.tree.Var.{Var}
use Rattle.core_ir.specs.Outcome.{param_types, SameHeads, SameOutside}
use Rattle.core_ir.specs.Terms.{FunTerm, CoreTerm}
use Rattle.core_ir.specs.WellFormed.{IsWellFormed}
use Rattle.core_lowering.specs.Programs.{lowered_params, lowered_function, lowered_program}
use Rattle.counted_code.specs.Terms.{CodeFunTerm, CodeProgram, core_of_fun, core_of_code}
use Rattle.specialise.specs.Mains.{AreExact, MainTakes}
use Rattle.sac_build.specs.Mains.{MainTakesForms}

some_same : {A : Type 0} (x y : A) → ◌≡◌ {A = Option A} (Some x) (Some y) → x ≡ y
some_same x y p = ap (λ o. unwrap_or o x) p

none_some : {A : Type 0} (y : A) → ◌≡◌ {A = Option A} None (Some y) → ⊥
none_some y p = let q : ◌≡◌ {A = Option _} None (Some y) = p in cc

-- ---- the program's main in its core

same_params : (n : ℕ) (ps : List Param) → map (λ (p : Var × ArrayType). p.1) (lowered_params n ps) ≡ map (λ (p : Param). p.ty) ps
same_params n [] = refl
same_params n (p ∷ ps) = ap (λ ts. p.ty ∷ ts) (same_params (suc n) ps)

lowered_main : (p : ProgramTree) (f : FunctionTree) → source.main_of p.functions (position source.is_main p.functions) ≡ Some f
    → slice_get (lowered_program p).functions (lowered_program p).main ≡ Some (lowered_function p.functions f)
lowered_main p f e = go (position source.is_main p.functions) e
  where
    go : (o : Option ℕ) → source.main_of p.functions o ≡ Some f → slice_get (map (lowered_function p.functions) p.functions) (unwrap_or o 0) ≡ Some (lowered_function p.functions f)
    go None q = absurd (none_some f q)
    go (Some place) q = slice_get-map (lowered_function p.functions) p.functions place ∙ ap (option_map (lowered_function p.functions)) q

-- ---- cores that look the same from outside

head_at : (fs gs : List FunTerm) → SameHeads fs gs → (i : ℕ) (f : FunTerm) → slice_get fs i ≡ Some f → (g : FunTerm) × ((slice_get gs i ≡ Some g) × (param_types f ≡ param_types g))
head_at [] [] h i f e = absurd (none_some f e)
head_at [] (g ∷ gs) h i f e = absurd h
head_at (x ∷ fs) [] h i f e = absurd h
head_at (x ∷ fs) (g ∷ gs) h zero f e = (g, (refl, ap param_types (some_same f x (sym e)) ∙ h.0.types))
head_at (x ∷ fs) (g ∷ gs) h (suc i) f e = head_at fs gs h.1 i f e

main_at : (a b : CoreTerm) → SameOutside a b → (f : FunTerm) → slice_get a.functions a.main ≡ Some f → (g : FunTerm) × ((slice_get b.functions b.main ≡ Some g) × (param_types f ≡ param_types g))
main_at a b same f e = head_at a.functions b.functions same.heads b.main f (ap (slice_get a.functions) (sym same.main) ∙ e)

-- ---- code of a core

code_at : (code : CodeProgram) (core : CoreTerm) → core_of_code code ≡ core → (f : FunTerm) → slice_get core.functions core.main ≡ Some f
    → (g : CodeFunTerm) × ((slice_get code.functions code.main ≡ Some g) × (core_of_fun g ≡ f))
code_at code core same f e = go (slice_get code.functions code.main) refl
  where
    whole : option_map core_of_fun (slice_get code.functions code.main) ≡ Some f
    whole = sym (slice_get-map core_of_fun code.functions code.main) ∙ (λ i. slice_get (same i).functions (same i).main) ∙ e

    go : (o : Option CodeFunTerm) → slice_get code.functions code.main ≡ o → (g : CodeFunTerm) × ((slice_get code.functions code.main ≡ Some g) × (core_of_fun g ≡ f))
    go None q = absurd (none_some f (sym (ap (option_map core_of_fun) q) ∙ whole))
    go (Some g) q = (g, (q, some_same (core_of_fun g) f (sym (ap (option_map core_of_fun) q) ∙ whole)))

-- ---- all passes

pub main_takes_forms : (p : ProgramTree) (forms : List Form) (core inlined special settled normal : CoreTerm) (code : CodeProgram) → core ≡ lowered_program p
    → SameOutside core inlined → IsWellFormed special → MainTakes inlined special forms → SameOutside special settled → SameOutside settled normal → core_of_code code ≡ normal
    → MainTakesForms p forms code
main_takes_forms p forms core inlined special settled normal code lowered first well takes second third same f e fit =
    let from : slice_get core.functions core.main ≡ Some (lowered_function p.functions f) = (λ i. slice_get (lowered i).functions (lowered i).main) ∙ lowered_main p f e in
    let one = main_at core inlined first (lowered_function p.functions f) from in
    let types : source.param_types f ≡ param_types one.0 = sym (same_params 0 f.params) ∙ one.1.1 in
    let exact = takes one.0 well.main.0 one.1.0 well.main.1.0 (ap (λ ts. all_have_forms ts forms) (sym types) ∙ fit) in
    let two = main_at special settled second well.main.0 well.main.1.0 in
    let three = main_at settled normal third two.0 two.1.0 in
    let four = code_at code normal same three.0 three.1.0 in
    (four.0, (four.1.0, subst (λ ts. AreExact ts forms) (two.1.1 ∙ three.1.1 ∙ ap param_types (sym four.1.1)) exact))
