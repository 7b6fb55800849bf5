-- The first token with which no program within the limits starts stands at one place, within the bounds that the parser keeps.
use Rattle.std.proofs.Common.{ℕ, ◌≡◌, ◌<◌, ◌≤◌, ◌+◌, List, [], ◌∷◌, ◌++◌, sym, ap, ◌∙◌, subst, append_assoc, append-nil, arith, length, length-append, ⊎_elim}
use Rattle.std.proofs.str.Laws.{order}
use Rattle.sac_base.specs.declared.site.Site.{Site}
use Rattle.sac_ast.specs.Texts.{Lexeme}
use Rattle.sac_ast.specs.Tree.{ProgramTree}
use Rattle.sac_ast.specs.Grammar.{program}
use Rattle.sac_ast.specs.Heights.{IsTreeOf}
use Rattle.sac_ast.specs.Refusals.{Starts, StartsWithin, IsInReach, IsStuckAt, IsTooDeepAt}
use Rattle.sac_grammar.specs.Parsing.{Found}
use Rattle.sac_grammar.proofs.Stops.{program_read}
use Rattle.sac_grammar.proofs.Verdicts.{front_of, none_high_read}
use Rattle.sac_refusals.specs.Stops.{IsFirstStop, IsFirstStuck, IsFirstTooDeep}

-- a front of what programs within the limits start with
shorter_front : (u w : List Lexeme) → StartsWithin (u ++ w) → StartsWithin u
shorter_front u w s = (w ++ s.0, s.1, subst (λ l. IsTreeOf l s.1) (append_assoc u w s.0) s.2)

starts_so : (u : List Lexeme) → StartsWithin u → Starts u
starts_so u s = (s.0, s.1, s.2.0)

same_place : (a b : List Lexeme) (x y : Lexeme) (r q : List Lexeme) → a ++ (x ∷ r) ≡ b ++ (y ∷ q) → length a ≡ length b → (a ++ (x ∷ []) ≡ b ++ (y ∷ [])) × (x ≡ y)
same_place [] [] x y r q e l = (let h : x ≡ y = cc in (ap (λ z. z ∷ []) h, h))
same_place [] (d ∷ b) x y r q e l = absurd (omega arith)
same_place (c ∷ a) [] x y r q e l = absurd (omega arith)
same_place (c ∷ a) (d ∷ b) x y r q e l =
    let h : c ≡ d = cc in
    let t : a ++ (x ∷ r) ≡ b ++ (y ∷ q) = cc in
    let s = same_place a b x y r q t (omega arith) in
    (λ i. h i ∷ s.0 i, s.1)

-- no stop stands before another
not_before : (ts : List Lexeme) (s t : Site) (p : IsFirstStop ts s) (q : IsFirstStop ts t) → length p.before < length q.before → ⊥
not_before ts s t p q less =
    let n = length-append p.before (p.token ∷ []) in
    let whole : (p.before ++ (p.token ∷ [])) ++ p.behind ≡ q.before ++ (q.token ∷ q.behind) = append_assoc p.before (p.token ∷ []) p.behind ∙ sym p.whole ∙ q.whole in
    let f = front_of (p.before ++ (p.token ∷ [])) q.before p.behind (q.token ∷ q.behind) whole (omega arith) in
    p.none (shorter_front (p.before ++ (p.token ∷ [])) f.0 (subst StartsWithin f.1 q.within))

same_length : (a b : ℕ) → (a < b → ⊥) → (b < a → ⊥) → a ≡ b
same_length a b f g =
    ⊎_elim
    (λ (less : a < b). absurd (f less))
    (λ (not_less : b ≤ a). ⊎_elim (λ (more : b < a). absurd (g more)) (λ (not_more : a ≤ b). let k : a ≡ b = omega arith in k) (order b a))
    (order a b)

pub one_place : (ts : List Lexeme) (s t : Site) (p : IsFirstStop ts s) (q : IsFirstStop ts t) → (p.before ++ (p.token ∷ []) ≡ q.before ++ (q.token ∷ [])) × (p.token ≡ q.token)
one_place ts s t p q = same_place p.before q.before p.token q.token p.behind q.behind (sym p.whole ∙ q.whole) (same_length (length p.before) (length q.before) (not_before ts s t p q) (not_before ts t s q p))

pub one_site : (ts : List Lexeme) (s t : Site) → IsFirstStop ts s → IsFirstStop ts t → s ≡ t
one_site ts s t p q = p.at ∙ ap (λ (x : Lexeme). x.site) (one_place ts s t p q).1 ∙ sym q.at

pub one_code : (ts : List Lexeme) (s t : Site) → IsFirstStuck ts s → IsFirstTooDeep ts t → ⊥
one_code ts s t p q = p.none (subst Starts (sym (one_place ts s t p.stop q.stop).0) q.begun)

-- what programs within the limits start with keeps the bounds
reach : (ts : List Lexeme) (s : Site) (p : IsFirstStop ts s) → IsInReach ts (length p.before)
reach ts s p = record {
  brackets = λ v w y e deep. ⊎_elim
      (λ (past : length v < length p.before).
      let n = length-append v (y ∷ []) in
      let whole : (v ++ (y ∷ [])) ++ w ≡ p.before ++ (p.token ∷ p.behind) = append_assoc v (y ∷ []) w ∙ sym e ∙ p.whole in
      let f = front_of (v ++ (y ∷ [])) p.before w (p.token ∷ p.behind) whole (omega arith) in
      let few = p.within.2.1 (v ++ (y ∷ [])) (f.0 ++ p.within.0) (ap (λ l. l ++ p.within.0) f.1 ∙ append_assoc (v ++ (y ∷ [])) f.0 p.within.0) in
      absurd (omega arith))
      (λ (here : length p.before ≤ length v). here)
      (order (length v) (length p.before));
  functions = λ v gs f w g e m d h. ⊎_elim
      (λ (here : length p.before < length v + length f). here)
      (λ (past : length v + length f ≤ length p.before).
      let n = length-append v f in
      let whole : (v ++ f) ++ w ≡ p.before ++ (p.token ∷ p.behind) = append_assoc v f w ∙ sym e ∙ p.whole in
      let t = front_of (v ++ f) p.before w (p.token ∷ p.behind) whole (omega arith) in
      let all = p.before ++ p.within.0 in
      let found' : Found program all p.within.1 [] = subst (λ l. Found program l p.within.1 []) (append-nil all) (program_read all [] p.within.1 p.within.2.0) in
      let at : all ≡ v ++ (f ++ (t.0 ++ p.within.0)) = ap (λ l. l ++ p.within.0) t.1 ∙ append_assoc (v ++ f) t.0 p.within.0 ∙ append_assoc v f (t.0 ++ p.within.0) in
      let less = none_high_read all p.within.1 [] found' p.within.2.2 v gs f (t.0 ++ p.within.0) g at m d h in
      absurd (omega arith))
      (order (length p.before) (length v + length f));
}

pub stuck_meets : (ts : List Lexeme) (s : Site) → IsFirstStuck ts s → IsStuckAt ts s
stuck_meets ts s p = record {
  before = p.stop.before;
  token = p.stop.token;
  behind = p.stop.behind;
  whole = p.stop.whole;
  at = p.stop.at;
  begun = starts_so p.stop.before p.stop.within;
  none = p.none;
  reach = reach ts s p.stop;
}

pub deep_meets : (ts : List Lexeme) (s : Site) → IsFirstTooDeep ts s → IsTooDeepAt ts s
deep_meets ts s p = record {
  before = p.stop.before;
  token = p.stop.token;
  behind = p.stop.behind;
  whole = p.stop.whole;
  at = p.stop.at;
  begun = p.begun;
  none = p.stop.none;
  reach = reach ts s p.stop;
}

pub stop_has_no_tree : (ts : List Lexeme) (s : Site) (p : ProgramTree) → IsFirstStop ts s → IsTreeOf ts p → ⊥
stop_has_no_tree ts s p q t = q.none (q.behind, p, subst (λ l. IsTreeOf l p) (q.whole ∙ sym (append_assoc q.before (q.token ∷ []) q.behind)) t)
