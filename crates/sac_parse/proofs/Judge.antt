-- From where the parser stopped over the tokens of a source to its answer.
use Rattle.std.proofs.Common.{ℕ, zero, suc, ◌≡◌, ◌<◌, ◌+◌, ◌-◌, Bool, true, List, [], ◌∷◌, ◌++◌, ◌⊎◌, inl, inr, refl, sym, ap, ◌∙◌, subst, append_assoc, append-nil, arith, length, length-append, take, drop, min, Bor, ⊎_elim}
use Rattle.sac_lex.specs.declared.token.Token.{Token}
use Rattle.sac_ast.specs.Texts.{Lexeme, is_end}
use Rattle.sac_ast.specs.Shape.{DerivesIn}
use Rattle.sac_ast.specs.Tree.{ProgramTree}
use Rattle.sac_ast.specs.Grammar.{Tree, rule, action, program, IsProgram}
use Rattle.sac_ast.specs.Heights.{IsLow, IsTreeOf}
use Rattle.sac_ast.specs.Refusals.{Starts, IsTooDeepAt}
use Rattle.sac_grammar.specs.Run.{RunsIn}
use Rattle.sac_grammar.specs.Tables.{first_of, ext_of, rank_of}
use Rattle.sac_grammar.specs.Parsing.{Found, Lost, TooTall}
use Rattle.sac_grammar.specs.Verdicts.{IsRead, NoHighBefore}
use Rattle.sac_grammar.proofs.Table.{table}
use Rattle.sac_grammar.proofs.Exact.{read_whole, sound_read, stuck_at, same_front}
use Rattle.sac_grammar.proofs.Verdicts.{stuck_refusal, tall_refusal, behind_refusal, none_high_read}
use Rattle.sac_grammar.proofs.Ends.{ended}
use Rattle.sac_refusals.specs.Words.{brackets_at}
use Rattle.sac_refusals.proofs.Crowded.{crowded_refusal}
use Rattle.sac_parse.specs.declared.error.ParseError.{ParseError}
use Rattle.sac_parse.specs.declared.error.ParseError.TheVariants.{Refused, Memory}
use Rattle.sac_parse.specs.Verdict.{IsNamedIn, IsRefusalOf, IsRefusalAt, IsReadOf, IsTooHigh}
use Rattle.sac_parse.specs.Brackets.{IsWithinBrackets}
use Rattle.sac_grammar.specs.Parsing.{stuck, high, Halted}
use Rattle.sac_phrases.specs.declared.halt.Halt.{Halt}
use Rattle.sac_phrases.specs.declared.halt.Halt.TheVariants.{Stuck, High as TooHigh}
use Rattle.sac_phrases.specs.Contract.{lexemes_of, StopOf}
use Rattle.sac_parse.specs.Programs.{IsNotLate}
use Rattle.sac_parse.proofs.ReadTokens.{last_same, take_drop, whole_read}

read_tree : (ts : List Lexeme) (p : ProgramTree) → Found program ts p [] → IsProgram ts p
read_tree ts p f = read_whole Tree first_of ext_of rank_of rule action table program ts p f

-- ---- stuck, or done before a further token

stuck_at_end : (ts read : List Lexeme) → IsReadOf ts read → Lost program read [] → NoHighBefore read [] → (e : ParseError) → IsRefusalAt read [] e → IsRefusalOf ts e
stuck_at_end ts read f l none e (u, x, split, is) =
    subst (IsRefusalOf ts) (sym is)
    (⊎_elim
    (λ (deep : 200 < brackets_at u x). crowded_refusal ts u x (subst (IsRead ts) split f.front) deep (subst (λ r. Lost program r []) split l) (subst (λ r. NoHighBefore r []) split none))
    (λ (end : is_end x.text ≡ true). let t : IsTooDeepAt ts x.site = absurd (ended u x end (subst (λ r. Lost program r []) split l)) in t)
    (f.last u x split))

pub judge_lost : (ts read rest : List Lexeme) → IsReadOf ts read → Lost program read rest → NoHighBefore read rest → (e : ParseError) → IsRefusalAt read rest e → IsRefusalOf ts e
judge_lost ts read [] f l none e is = stuck_at_end ts read f l none e is
judge_lost ts read (x ∷ r) f l none e is = subst (IsRefusalOf ts) (sym is) (stuck_refusal ts read x r f.front l none)

judge_behind : (ts read : List Lexeme) (x : Lexeme) (r : List Lexeme) (p : ProgramTree) → IsRead ts read → Found program read p (x ∷ r) → NoHighBefore read (x ∷ r) → (e : ParseError) → IsRefusalAt read (x ∷ r) e → IsRefusalOf ts e
judge_behind ts read x r p c f none e is = subst (IsRefusalOf ts) (sym is) (behind_refusal ts read p x r c f none)

pub judge_found : (ts read rest : List Lexeme) (p : ProgramTree) → IsReadOf ts read → Found program read p rest → IsLow p → (rest ≡ [] → ⊥) → (e : ParseError) → IsRefusalAt read rest e → IsRefusalOf ts e
judge_found ts read [] p c f low some e is = absurd (some refl)
judge_found ts read (x ∷ r) p c f low some e is = judge_behind ts read x r p c.front f (none_high_read read p (x ∷ r) f low) e is

-- ---- a second look at the tokens up to the one with which a program is too high

starts_lost : (ts : List Lexeme) → Lost program ts [] → Starts ts
starts_lost ts l =
    let s = stuck_at Tree first_of ext_of rank_of rule action table program ts [] l in
    subst Starts (sym (s.1 ∙ append-nil s.0)) s.2

starts_found : (ts : List Lexeme) (p : ProgramTree) → Found program ts p [] → Starts ts
starts_found ts p f = ([], p, subst (λ l. IsProgram l p) (sym (append-nil ts)) (read_tree ts p f))

-- what a parser that does not check heights did
abbrev pub Looked : List Lexeme → List Lexeme → Type 0
Looked again rest = Lost program again rest ⊎ ((p : ProgramTree) × Found program again p rest)

starts_looked : (ts : List Lexeme) → Looked ts [] → Starts ts
starts_looked ts (inl l) = starts_lost ts l
starts_looked ts (inr (p, f)) = starts_found ts p f

not_all_read : (read : List Lexeme) (p : ProgramTree) → TooTall 0 program read [] → Found program read p [] → ⊥
not_all_read read p t f = let h = (t.high f.levels [] p [] tt (subst (λ l. RunsIn Tree first_of rule action f.levels program l p []) t.split f.run)).1 in absurd (omega arith)

none_before_all : (read rest : List Lexeme) → NoHighBefore read [] → NoHighBefore read rest
none_before_all read rest none = λ v gs f w g e m d h. let k = none v gs f w g e m d h in absurd (omega arith)

-- too high with all tokens that are read
high_at_end : (ts read rest : List Lexeme) → IsTooHigh ts read [] → Looked read rest → (e : ParseError) → IsRefusalAt read rest e → IsRefusalOf ts e
high_at_end ts read rest c (inl l) e is = judge_lost ts read rest c.front l (none_before_all read rest c.before) e is
high_at_end ts read [] c (inr (p, f)) e is = absurd (not_all_read read p c.tall f)
high_at_end ts read (x ∷ r) c (inr (p, f)) e is = judge_behind ts read x r p c.front.front f (none_before_all read (x ∷ r) c.before) e is

fewer_read : (ts read again r : List Lexeme) → IsRead ts read → read ≡ again ++ r → IsRead ts again
fewer_read ts read again r c split = record {
  later = r ++ c.later;
  whole = c.whole ∙ ap (λ l. l ++ c.later) split ∙ append_assoc again r c.later;
  brackets = λ v w y e deep. let k = c.brackets v w y e deep in let n = ap length split ∙ length-append again r in omega arith;
}

none_in_fewer : (read again : List Lexeme) (y x : Lexeme) (r rest : List Lexeme) → read ≡ again ++ r → NoHighBefore read (y ∷ r) → NoHighBefore again (x ∷ rest)
none_in_fewer read again y x r rest split none = λ v gs f w g e m d h.
    let whole : read ≡ v ++ (f ++ (w ++ r)) = split ∙ ap (λ l. l ++ r) e ∙ append_assoc v (f ++ w) r ∙ ap (λ l. v ++ l) (append_assoc f w r) in
    let k = none v gs f (w ++ r) g whole m d h in
    let n = length-append w r in
    omega arith

-- too high with the next token
high_at : (ts read again : List Lexeme) (y : Lexeme) (r rest : List Lexeme) → IsTooHigh ts read (y ∷ r) → (u : List Lexeme) → read ≡ u ++ (y ∷ r) → again ≡ u ++ (y ∷ []) → Looked again rest → (e : ParseError) → IsRefusalAt again rest e → IsRefusalOf ts e
high_at ts read again y r [] c u split up l e (v, x, last, is) =
    let same : x ≡ y = last_same v u x y (sym last ∙ up) in
    let begun = λ (w : List Lexeme) (s : read ≡ w ++ (y ∷ r)). subst (λ a. Starts (a ++ (y ∷ []))) (same_front u w (y ∷ r) (sym split ∙ s)) (subst Starts up (starts_looked again l)) in
    subst (IsRefusalOf ts) (sym is) (subst (λ (z : Lexeme). IsTooDeepAt ts z.site) (sym same) (tall_refusal ts read y r c.front.front c.tall begun c.before))
high_at ts read again y r (x ∷ rest) c u split up (inl l) e is =
    let whole : read ≡ again ++ r = split ∙ sym (append_assoc u (y ∷ []) r) ∙ ap (λ a. a ++ r) (sym up) in
    subst (IsRefusalOf ts) (sym is) (stuck_refusal ts again x rest (fewer_read ts read again r c.front.front whole) l (none_in_fewer read again y x r rest whole c.before))
high_at ts read again y r (x ∷ rest) c u split up (inr (p, f)) e is =
    let whole : read ≡ again ++ r = split ∙ sym (append_assoc u (y ∷ []) r) ∙ ap (λ a. a ++ r) (sym up) in
    judge_behind ts again x rest p (fewer_read ts read again r c.front.front whole) f (none_in_fewer read again y x r rest whole c.before) e is

take_front : (u : List Lexeme) (y : Lexeme) (r : List Lexeme) (n : ℕ) → n ≡ length u + 1 → take n (u ++ (y ∷ r)) ≡ u ++ (y ∷ [])
take_front u y r zero e = absurd (omega arith)
take_front [] y r (suc n) e = ap (λ k. y ∷ take k r) (let z : n ≡ 0 = omega arith in z)
take_front (x ∷ u) y r (suc n) e = ap (λ l. x ∷ l) (take_front u y r n (omega arith))

take_all : (ts : List Lexeme) (n : ℕ) → n ≡ length ts → take n ts ≡ ts
take_all [] zero e = refl
take_all [] (suc n) e = refl
take_all (t ∷ ts) zero e = absurd (omega arith)
take_all (t ∷ ts) (suc n) e = ap (λ l. t ∷ l) (take_all ts n (omega arith))

pub judge_high : (ts read rest again left : List Lexeme) (n : ℕ) → IsTooHigh ts read rest → n ≡ min (length read) ((length read - length rest) + 1) → again ≡ take n read → Looked again left → (e : ParseError) → IsRefusalAt again left e → IsRefusalOf ts e
judge_high ts read [] again left n c count is l e r =
    let all : again ≡ read = is ∙ take_all read n (omega arith) in
    high_at_end ts read left c (subst (λ a. Looked a left) all l) e (subst (λ a. IsRefusalAt a left e) all r)
judge_high ts read (y ∷ rest) again left n c count is l e r =
    let t = c.tall in
    let m = ap length t.split ∙ length-append t.front (y ∷ rest) in
    let up : again ≡ t.front ++ (y ∷ []) = is ∙ ap (take n) t.split ∙ take_front t.front y rest n (omega arith) in
    high_at ts read again y rest left c t.front t.split up l e r

-- ---- read to the end

last_is_end : (n : ℕ) (ts : List Lexeme) (p : ProgramTree) → DerivesIn Tree rule action n program ts p → (u : List Lexeme) × (x : Lexeme) × (ts ≡ u ++ (x ∷ [])) × (is_end x.text ≡ true)
last_is_end zero ts p d = absurd d
last_is_end (suc n) ts p ((fs, last), same, (u, w, cut, each, (at, end))) = (u, last, cut ∙ ap (λ l. u ++ l) at, end)

pub accepted : (ts read : List Token) (p : ProgramTree) → IsWithinBrackets ts read → Found program (lexemes_of read) p [] → IsLow p → IsTreeOf (lexemes_of ts) p
accepted ts read p w f low =
    let d = read_tree (lexemes_of read) p f in
    let l = last_is_end d.0 (lexemes_of read) p d.1 in
    let all = whole_read ts read w l.0 l.1 l.2 l.3 in
    (subst (λ r. IsProgram (lexemes_of r) p) all.0 d, all.1, low)

-- ---- stops

pub halt_stuck : (checked : Bool) (ts : List Lexeme) (rest : Bor (List Token)) (e : Halt) → e ≡ Stuck rest → Halted (StopOf e) checked 0 program ts → Lost program ts (lexemes_of rest.now)
halt_stuck checked ts rest e is h = h.at (stuck (lexemes_of rest.now)) (subst (λ g. StopOf g (stuck (lexemes_of rest.now))) (sym is) refl)

pub halt_high : (checked : Bool) (ts : List Lexeme) (rest : Bor (List Token)) (e : Halt) → e ≡ TooHigh rest → Halted (StopOf e) checked 0 program ts → (checked ≡ true) × TooTall 0 program ts (lexemes_of rest.now)
halt_high checked ts rest e is h =
    let p : StopOf e (high (lexemes_of rest.now)) = subst (λ g. StopOf g (high (lexemes_of rest.now))) (sym is) refl in
    (h.only (lexemes_of rest.now) p, h.at (high (lexemes_of rest.now)) p)

pub none_stuck : (ts : List Lexeme) (rest : Bor (List Token)) (e : Halt) → e ≡ Stuck rest → IsNotLate e true ts → NoHighBefore ts (lexemes_of rest.now)
none_stuck ts rest e is n = n refl (lexemes_of rest.now) (inl (subst (λ g. StopOf g (stuck (lexemes_of rest.now))) (sym is) refl))

pub none_too_high : (ts : List Lexeme) (rest : Bor (List Token)) (e : Halt) → e ≡ TooHigh rest → IsNotLate e true ts → NoHighBefore ts (lexemes_of rest.now)
none_too_high ts rest e is n = n refl (lexemes_of rest.now) (inr (subst (λ g. StopOf g (high (lexemes_of rest.now))) (sym is) refl))

-- ---- the token that a refusal names is one of those that are read

pub named_at : (read rest u : List Lexeme) → read ≡ u ++ rest → (e : ParseError) → IsRefusalAt read rest e → IsNamedIn read e
named_at read [] u s e (v, x, split, is) = subst (IsNamedIn read) (sym is) (v, x, [], split, refl)
named_at read (x ∷ r) u s e is = subst (IsNamedIn read) (sym is) (u, x, r, s, refl)

pub named_lost : (read rest : List Lexeme) → Lost program read rest → (e : ParseError) → IsRefusalAt read rest e → IsNamedIn read e
named_lost read rest l e is = let s = stuck_at Tree first_of ext_of rank_of rule action table program read rest l in named_at read rest s.0 s.1 e is

pub named_found : (read rest : List Lexeme) (p : ProgramTree) → Found program read p rest → (e : ParseError) → IsRefusalAt read rest e → IsNamedIn read e
named_found read rest p f e is = let s = sound_read Tree first_of ext_of rank_of rule action table f.levels program read p rest f.run in named_at read rest s.0 s.1 e is

pub named_front : (read again : List Lexeme) (n : ℕ) → again ≡ take n read → (e : ParseError) → IsNamedIn again e → IsNamedIn read e
named_front read again n is (Refused code site) (u, x, r, split, at) = (u, x, r ++ drop n read, take_drop n read ∙ ap (λ l. l ++ drop n read) (sym is ∙ split) ∙ append_assoc u (x ∷ r) (drop n read), at)
named_front read again n is Memory m = m
