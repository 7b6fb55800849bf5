-- The refusal at the last token that is read, with which too many brackets are open or must open.
use Rattle.std.proofs.Common.{◌<◌, ◌≤◌, ◌+◌, List, [], ◌∷◌, ◌++◌, refl, sym, ◌∙◌, subst, append_assoc, append-nil, arith, length, length-append, ⊎_elim}
use Rattle.std.proofs.str.Laws.{order}
use Rattle.sac_ast.specs.Texts.{Lexeme}
use Rattle.sac_ast.specs.Grammar.{Tree, rule, action, program}
use Rattle.sac_ast.specs.Refusals.{Starts, IsInReach, IsTooDeepAt}
use Rattle.sac_grammar.specs.Tables.{first_of, ext_of, rank_of}
use Rattle.sac_grammar.specs.Parsing.{Lost}
use Rattle.sac_grammar.specs.Verdicts.{IsRead, NoHighBefore}
use Rattle.sac_grammar.proofs.Table.{table}
use Rattle.sac_grammar.proofs.Exact.{stuck_at}
use Rattle.sac_grammar.proofs.Verdicts.{front_of}
use Rattle.sac_refusals.specs.Words.{brackets_at}
use Rattle.sac_refusals.proofs.Words.{crowd_stops}

last_reach : (ts u : List Lexeme) (x : Lexeme) → IsRead ts (u ++ (x ∷ [])) → NoHighBefore (u ++ (x ∷ [])) [] → IsInReach ts (length u)
last_reach ts u x c none = record {
  brackets = λ v w y e deep. let k = c.brackets v w y e deep in let n = length-append u (x ∷ []) in omega arith;
  functions = λ v gs f w g e m d h. ⊎_elim
      (λ (past : length (u ++ (x ∷ [])) < length v + length f). let n = length-append u (x ∷ []) in let k : length u < length v + length f = omega arith in k)
      (λ (within : length v + length f ≤ length (u ++ (x ∷ []))).
      let n = length-append v f in
      let t = front_of (v ++ f) (u ++ (x ∷ [])) w c.later (append_assoc v f w ∙ sym e ∙ c.whole) (omega arith) in
      let less = none v gs f t.0 g (t.1 ∙ append_assoc v f t.0) m d h in
      absurd (omega arith))
      (order (length (u ++ (x ∷ []))) (length v + length f));
}

pub crowded_refusal : (ts u : List Lexeme) (x : Lexeme) → IsRead ts (u ++ (x ∷ [])) → 200 < brackets_at u x → Lost program (u ++ (x ∷ [])) [] → NoHighBefore (u ++ (x ∷ [])) [] → IsTooDeepAt ts x.site
crowded_refusal ts u x c deep l none =
    let s = stuck_at Tree first_of ext_of rank_of rule action table program (u ++ (x ∷ [])) [] l in
    record {
      before = u;
      token = x;
      behind = c.later;
      whole = c.whole ∙ append_assoc u (x ∷ []) c.later;
      at = refl;
      begun = subst Starts (sym (s.1 ∙ append-nil s.0)) s.2;
      none = crowd_stops u x deep;
      reach = last_reach ts u x c none;
    }
