use Rattle.std.proofs.Common.{◌≡◌, List, [], ◌∷◌, map, refl, ap, ◌∙◌}
use Rattle.counted_code.specs.declared.tree.CodeFun.{CodeFun}
use Rattle.counted_code.specs.Terms.{CodeFunTerm, core_of_code}
use Rattle.counted_code.specs.View.{code_fun_term, code_program}
use Rattle.counted_marks.specs.Known.{Given, given}
use Rattle.counted_marks.specs.Marking.{marking_fun}
use Rattle.reuse_candidates.specs.Calls.{given_by}
use Rattle.buffer_reuse.proofs.functions.mark_code.Goals as goal

twice : (g : Given) (fs : List CodeFun) → map (λ f. marking_fun g (code_fun_term f)) fs ≡ map (marking_fun g) (map code_fun_term fs)
twice g [] = refl
twice g (f ∷ fs) = ap (λ (rest : List CodeFunTerm). marking_fun g (code_fun_term f) ∷ rest) (twice g fs)

pub returns : goal.returns
returns c =
    let known : given_by c.in_ok-calls.calls ≡ given (core_of_code (code_program c.args.code)) = λ i. record { shapes = c.in_ok-calls.ensures.shapes i; bases = c.in_ok-calls.ensures.bases i } in
    λ i. record {
      functions = (c.in_ok-mark_functions.ensures ∙ (λ j. map (λ f. marking_fun (known j) (code_fun_term f)) c.args.code.functions.items) ∙ twice (given (core_of_code (code_program c.args.code))) c.args.code.functions.items) i;
      groups = map (λ g. g.items) c.args.code.groups.items;
      main = c.args.code.main;
    }
