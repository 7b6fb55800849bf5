-- What main of the code takes.
use Rattle.std.specs.Prelude.{◌≡◌, List, true, Some, slice_get, position}
use Rattle.sac_base.specs.declared.form.Form.{Form}
use Rattle.sac_base.specs.Types.{all_have_forms}
use Rattle.sac_ast.specs.Tree.{FunctionTree, ProgramTree}
use Rattle.source_meaning.specs.Calls as source
use Rattle.core_ir.specs.Outcome.{param_types}
use Rattle.counted_code.specs.Terms.{CodeFunTerm, CodeProgram, core_of_fun}
use Rattle.specialise.specs.Mains.{AreExact}

-- where the types of the program's main contain the forms, main of the code takes arrays of these forms, and no others
abbrev pub MainTakesForms : ProgramTree → List Form → CodeProgram → Type 0
MainTakesForms p forms code =
    (f : FunctionTree) → source.main_of p.functions (position source.is_main p.functions) ≡ Some f → all_have_forms (source.param_types f) forms ≡ true →
    (g : CodeFunTerm) × ((slice_get code.functions code.main ≡ Some g) × AreExact (param_types (core_of_fun g)) forms)
