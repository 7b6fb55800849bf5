-- From where the parser stopped over the tokens of a program to the refusal of them.
use Rattle.std.proofs.Common.{false, ℕ, zero, suc, ◌≡◌, ◌<◌, ◌≤◌, ◌+◌, List, [], ◌∷◌, ◌++◌, inl, inr, refl, sym, ap, ◌∙◌, subst, append_assoc, append-nil, arith, length, length-append, ⊎_elim}
use Rattle.std.proofs.str.Laws.{order}
use Rattle.std.specs.List.{AllByRecursion}
use Rattle.sac_base.specs.declared.site.Site.{Site}
use Rattle.sac_ast.specs.Texts.{Lexeme}
use Rattle.sac_ast.specs.Shape.{MatchesEach, ref}
use Rattle.sac_ast.specs.Tree.{FunctionTree, ProgramTree}
use Rattle.sac_ast.specs.Grammar.{program, function, Tree, rule, action, IsPhrase, IsProgram}
use Rattle.sac_ast.specs.Heights.{function_height, open_behind, IsLow, IsTreeOf}
use Rattle.sac_ast.specs.Refusals.{Starts, IsInReach, IsStuckAt, IsTooDeepAt}
use Rattle.sac_grammar.specs.Verdicts.{IsRead, NoHighBefore}
use Rattle.sac_grammar.specs.Tables.{first_of, ext_of, rank_of}
use Rattle.sac_grammar.specs.High.{AnyOf}
use Rattle.sac_grammar.specs.Run.{starts, RunsEach, RunsIn}
use Rattle.sac_grammar.specs.Parsing.{Found, Lost, TooTall, ReadEach}
use Rattle.sac_grammar.proofs.Table.{table}
use Rattle.sac_grammar.proofs.Exact.{stuck_at, sound_read}
use Rattle.sac_grammar.proofs.Stops.{tall_at, program_read, same_found, StopsBefore, reached}

-- of two fronts of one list the shorter one is a front of the other
pub front_of : (a b r s : List Lexeme) → a ++ r ≡ b ++ s → length a ≤ length b → (w : List Lexeme) × (b ≡ a ++ w)
front_of [] b r s e le = (b, refl)
front_of (x ∷ a) [] r s e le = absurd (omega arith)
front_of (x ∷ a) (y ∷ b) r s e le =
    let h : x ≡ y = cc in
    let t : a ++ r ≡ b ++ s = cc in
    let f = front_of a b r s t (omega arith) in
    (f.0, λ i. sym h i ∷ f.1 i)

functions_reach : (ts read u rest : List Lexeme) → IsRead ts read → read ≡ u ++ rest → NoHighBefore read rest → (place : ℕ) → place ≤ length u → place < length read → (v : List Lexeme) (gs : List FunctionTree) (f w : List Lexeme) (g : FunctionTree) → ts ≡ v ++ (f ++ w) → MatchesEach (IsPhrase function) v gs → IsPhrase function f g → 100 < function_height g → place < length v + length f
functions_reach ts read u rest c split none place le few v gs f w g e m d h =
    ⊎_elim
    (λ (past : length read < length v + length f). let k : place < length v + length f = omega arith in k)
    (λ (within : length v + length f ≤ length read).
    let n = length-append v f in
    let whole : (v ++ f) ++ w ≡ read ++ c.later = append_assoc v f w ∙ sym e ∙ c.whole in
    let t = front_of (v ++ f) read w c.later whole (omega arith) in
    let at : read ≡ v ++ (f ++ t.0) = t.1 ∙ append_assoc v f t.0 in
    let less = none v gs f t.0 g at m d h in
    let a = ap length split in
    let b = length-append u rest in
    let x = ap length at in
    let y = length-append v (f ++ t.0) in
    let z = length-append f t.0 in
    let k : place < length v + length f = omega arith in
    k)
    (order (length read) (length v + length f))

reach : (ts read u rest : List Lexeme) → IsRead ts read → read ≡ u ++ rest → NoHighBefore read rest → (place : ℕ) → place ≤ length u → place < length read → IsInReach ts place
reach ts read u rest c split none place le few = record {
  brackets = λ v w y e deep. let k = c.brackets v w y e deep in omega arith;
  functions = functions_reach ts read u rest c split none place le few;
}

nonempty : (u r : List Lexeme) (x : Lexeme) (read : List Lexeme) → read ≡ u ++ (x ∷ r) → length u < length read
nonempty u r x read e = let a = ap length e in let b = length-append u (x ∷ r) in omega arith

behind : (ts read u r : List Lexeme) (x : Lexeme) (c : IsRead ts read) → read ≡ u ++ (x ∷ r) → ts ≡ u ++ (x ∷ (r ++ c.later))
behind ts read u r x c e = c.whole ∙ ap (λ l. l ++ c.later) e ∙ append_assoc u (x ∷ r) c.later

-- stuck at a token
pub stuck_refusal : (ts read : List Lexeme) (x : Lexeme) (r : List Lexeme) → IsRead ts read → Lost program read (x ∷ r) → NoHighBefore read (x ∷ r) → IsStuckAt ts x.site
stuck_refusal ts read x r c l none =
    let s = stuck_at Tree first_of ext_of rank_of rule action table program read (x ∷ r) l in
    record {
      before = s.0;
      token = x;
      behind = r ++ c.later;
      whole = behind ts read s.0 r x c s.1;
      at = refl;
      begun = s.2;
      none = λ w. s.3 x r w.0 w.1 refl (subst (λ u. IsProgram u w.1) (append_assoc s.0 (x ∷ []) w.0) w.2);
      reach = reach ts read s.0 (x ∷ r) c s.1 none (length s.0) (omega arith) (nonempty s.0 r x read s.1);
    }

-- stuck behind the last token that was read, with which too many brackets are open
pub deep_refusal : (ts u : List Lexeme) (x : Lexeme) → IsRead ts (u ++ (x ∷ [])) → 200 < open_behind 0 (u ++ (x ∷ [])) → Lost program (u ++ (x ∷ [])) [] → NoHighBefore (u ++ (x ∷ [])) [] → IsTooDeepAt ts x.site
deep_refusal ts u x c deep l none =
    let s = stuck_at Tree first_of ext_of rank_of rule action table program (u ++ (x ∷ [])) [] l in
    let n = length-append u (x ∷ []) in
    record {
      before = u;
      token = x;
      behind = c.later;
      whole = c.whole ∙ append_assoc u (x ∷ []) c.later;
      at = refl;
      begun = subst Starts (sym (s.1 ∙ append-nil s.0)) s.2;
      none = λ w. let few = w.2.1 (u ++ (x ∷ [])) w.0 refl in absurd (omega arith);
      reach = reach ts (u ++ (x ∷ [])) (u ++ (x ∷ [])) [] c (sym (append-nil (u ++ (x ∷ [])))) none (length u) (omega arith) (omega arith);
    }

abbrev pub AllLow : List FunctionTree → Type 0
AllLow = AllByRecursion (λ (f : FunctionTree). function_height f ≤ 100)

any_high : (fs : List FunctionTree) → AnyOf (λ f. 100 < function_height f) fs → AllLow fs → ⊥
any_high [] h low = h
any_high (f ∷ fs) (inl h) low = let l = low.0 in absurd (omega arith)
any_high (f ∷ fs) (inr h) low = any_high fs h low.1

-- where each program that goes on with the next token is too high, and some goes on with it
pub tall_refusal : (ts read : List Lexeme) (x : Lexeme) (r : List Lexeme) → IsRead ts read → TooTall 0 program read (x ∷ r) → ((u : List Lexeme) → read ≡ u ++ (x ∷ r) → Starts (u ++ (x ∷ []))) → NoHighBefore read (x ∷ r) → IsTooDeepAt ts x.site
tall_refusal ts read x r c t begun none =
    let s = tall_at 0 program read (x ∷ r) t in
    record {
      before = s.0;
      token = x;
      behind = r ++ c.later;
      whole = behind ts read s.0 r x c s.1;
      at = refl;
      begun = begun s.0 s.1;
      none = λ w. any_high w.1.functions (s.3 x r w.0 w.1 refl (subst (λ u. IsProgram u w.1) (append_assoc s.0 (x ∷ []) w.0) w.2.0)) w.2.2;
      reach = reach ts read s.0 (x ∷ r) c s.1 none (length s.0) (omega arith) (nonempty s.0 r x read s.1);
    }

-- a program that was read, and a token behind it
pub behind_refusal : (ts read : List Lexeme) (p : ProgramTree) (x : Lexeme) (r : List Lexeme) → IsRead ts read → Found program read p (x ∷ r) → NoHighBefore read (x ∷ r) → IsStuckAt ts x.site
behind_refusal ts read p x r c f none =
    let s = sound_read Tree first_of ext_of rank_of rule action table f.levels program read p (x ∷ r) f.run in
    record {
      before = s.0;
      token = x;
      behind = r ++ c.later;
      whole = behind ts read s.0 r x c s.1;
      at = refl;
      begun = ([], p, subst (λ l. IsProgram l p) (sym (append-nil s.0)) s.2);
      none = λ w. no_more s.0 x w.0 p w.1 s.2 (subst (λ u. IsProgram u w.1) (append_assoc s.0 (x ∷ []) w.0) w.2);
      reach = reach ts read s.0 (x ∷ r) c s.1 none (length s.0) (omega arith) (nonempty s.0 r x read s.1);
    }
  where
    no_more : (u : List Lexeme) (y : Lexeme) (w : List Lexeme) (q v : ProgramTree) → IsProgram u q → IsProgram (u ++ (y ∷ w)) v → ⊥
    no_more u y w q v d e =
        let one = same_found program (u ++ (y ∷ w)) q v (y ∷ w) [] (program_read u (y ∷ w) q d) (subst (λ l. Found program l v []) (append-nil (u ++ (y ∷ w))) (program_read (u ++ (y ∷ w)) [] v e)) in
        let l = ap length one.rest in
        absurd (omega arith)

-- ---- no function that is too high ends before the place where the parser stopped

-- behind functions that are not too high
pub none_high : (ts mid r : List Lexeme) (fs : List FunctionTree) → ReadEach (ref function) ts fs mid → AllLow fs → StopsBefore mid r → NoHighBefore ts r
none_high ts mid r fs each low s = λ v gs f w g e m d h. reached ts mid r fs each low s v gs f w g e m d h

each_read : (n : ℕ) (ts : List Lexeme) (fs : List FunctionTree) (mid : List Lexeme) → RunsEach (first_of function) (λ xs g ys. RunsIn Tree first_of rule action n function xs g ys) ts fs mid → ReadEach (ref function) ts fs mid
each_read n ts [] mid (e, s) = e
each_read n ts (f ∷ fs) mid (s, (m, run, each)) = (s, (m, record { levels = n; run = run }, each_read n m fs mid each))

none_begins : (n : ℕ) (ts : List Lexeme) (fs : List FunctionTree) (mid : List Lexeme) → RunsEach (first_of function) (λ xs g ys. RunsIn Tree first_of rule action n function xs g ys) ts fs mid → starts (first_of function) mid ≡ false
none_begins n ts [] mid (e, s) = subst (λ l. starts (first_of function) l ≡ false) (sym e) s
none_begins n ts (f ∷ fs) mid (s, (m, run, each)) = none_begins n m fs mid each

none_high_in : (n : ℕ) (ts : List Lexeme) (p : ProgramTree) (r : List Lexeme) → RunsIn Tree first_of rule action n program ts p r → IsLow p → NoHighBefore ts r
none_high_in zero ts p r d low = absurd d
none_high_in (suc n) ts p r ((fs, last), e, (mid, each, end)) low = none_high ts mid r fs (each_read n ts fs mid each) (subst IsLow e low) (inr (inr (none_begins n ts fs mid each)))

-- behind a program within the limit on heights
pub none_high_read : (ts : List Lexeme) (p : ProgramTree) (r : List Lexeme) → Found program ts p r → IsLow p → NoHighBefore ts r
none_high_read ts p r f low = none_high_in f.levels ts p r f.run low

-- ---- where tokens are refused there is no tree

split_program : (before : List Lexeme) (x : Lexeme) (behind' ts : List Lexeme) → ts ≡ before ++ (x ∷ behind') → ts ≡ (before ++ (x ∷ [])) ++ behind'
split_program before x behind' ts e = e ∙ sym (append_assoc before (x ∷ []) behind')

pub stuck_has_no_tree : (ts : List Lexeme) (site : Site) (p : ProgramTree) → IsStuckAt ts site → IsTreeOf ts p → ⊥
stuck_has_no_tree ts site p s t = s.none (s.behind, p, subst (λ l. IsProgram l p) (split_program s.before s.token s.behind ts s.whole) t.0)

pub deep_has_no_tree : (ts : List Lexeme) (site : Site) (p : ProgramTree) → IsTooDeepAt ts site → IsTreeOf ts p → ⊥
deep_has_no_tree ts site p s t = s.none (s.behind, p, subst (λ l. IsTreeOf l p) (split_program s.before s.token s.behind ts s.whole) t)
