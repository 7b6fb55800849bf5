-- One status and one text are due.
use Rattle.std.proofs.Common.{◌≡◌, ◌⊎◌, ℕ, List, Option, Some, length, map, inl, inr, refl, sym, ap, subst, ◌∙◌, arith, codes}
use Rattle.sac_base.specs.declared.site.Site.{Site}
use Rattle.sac_lex.specs.declared.token.LexCode.{LexCode}
use Rattle.sac_lex.specs.Cut.{IsTokenList, IsRefusal}
use Rattle.sac_lex.specs.Cut
use Rattle.sac_ast.specs.Texts.{Lexeme}
use Rattle.sac_ast.specs.Tree.{ProgramTree}
use Rattle.sac_ast.specs.Grammar.{IsProgram}
use Rattle.sac_ast.specs.Refusals.{IsStuckAt, IsTooDeepAt}
use Rattle.check_rules.specs.Accepted.{IsFirstViolation}
use Rattle.sac_words.specs.Meaning.{Meant, Origin, empty, file, generated}
use Rattle.sac_lex.specs.Codes.{lex_code}
use Rattle.check_rules.specs.Codes.{check_code}
use Rattle.sac_due.specs.Texts.{refused_at}
use Rattle.sac_due.specs.Report.{Numbers}
use Rattle.sac_due.specs.Source.{plain, IsTokensOf, HasTree, IsProgramOf, IsTooDeep, IsRefusedSource, too_long, no_tokens, stuck, too_deep, not_accepted}
use Rattle.sac_due.specs.Input.{IsMissing, IsTooLong, IsText, arguments}
use Rattle.sac_due.specs.Due
use Rattle.sac_due.specs.Due.{Ending, IsRunDue, IsProgramDue, IsDue, run_on}
use Rattle.sac_due.specs.declared.status.Status.TheVariants.{Source}
use Rattle.sac_due.proofs.Stuck.{stuck_once, tree_not_stuck, tree_not_too_deep}
use Rattle.sac_due.proofs.First.{first_once, accepted_not_refused}

-- ---- what stands under the input's name

missing_not_long : (o : Origin) (f : Option (List ℕ)) → IsMissing o f → IsTooLong o f → ⊥
missing_not_long (file name) f m l = cc (m, l.1)
missing_not_long empty f m l = absurd m
missing_not_long (generated n) f m l = absurd m

missing_no_text : (o : Origin) (f : Option (List ℕ)) (bytes : List ℕ) → IsMissing o f → IsText o f bytes → ⊥
missing_no_text (file name) f bytes m t = cc (m, t.0)
missing_no_text empty f bytes m t = absurd m
missing_no_text (generated n) f bytes m t = absurd m

same_some : {A : Type 0} (a b : A) → Some a ≡ Some b → a ≡ b
same_some a b e = cc (e)

long_no_text : (o : Origin) (f : Option (List ℕ)) (bytes : List ℕ) → IsTooLong o f → IsText o f bytes → ⊥
long_no_text (file name) f bytes l t =
    let same : l.0 ≡ bytes = same_some l.0 bytes (sym l.1 ∙ t.0) in
    omega (arith, l.2, t.1, ap length same)
long_no_text empty f bytes l t = absurd l
long_no_text (generated n) f bytes l t = absurd l

text_once : (o : Origin) (f : Option (List ℕ)) (a b : List ℕ) → IsText o f a → IsText o f b → a ≡ b
text_once (file name) f a b s t = same_some a b (sym s.0 ∙ t.0)
text_once empty f a b s t = s ∙ sym t
text_once (generated n) f a b s t = s ∙ sym t

run_once : (asked : Meant) (p : ProgramTree) (input : Option (List ℕ)) (numbers : Numbers) (x y : Ending) → IsRunDue asked p input numbers x → IsRunDue asked p input numbers y → x ≡ y
run_once asked p input numbers _ _ (Due.missing a) (Due.missing b) = refl
run_once asked p input numbers _ _ (Due.missing a) (Due.too_long b) = absurd (missing_not_long asked.input input a b)
run_once asked p input numbers _ _ (Due.missing a) (Due.run bytes end b e) = absurd (missing_no_text asked.input input bytes a b)
run_once asked p input numbers _ _ (Due.too_long a) (Due.missing b) = absurd (missing_not_long asked.input input b a)
run_once asked p input numbers _ _ (Due.too_long a) (Due.too_long b) = refl
run_once asked p input numbers _ _ (Due.too_long a) (Due.run bytes end b e) = absurd (long_no_text asked.input input bytes a b)
run_once asked p input numbers _ _ (Due.run bytes end a e) (Due.missing b) = absurd (missing_no_text asked.input input bytes b a)
run_once asked p input numbers _ _ (Due.run bytes end a e) (Due.too_long b) = absurd (long_no_text asked.input input bytes b a)
run_once asked p input numbers _ _ (Due.run bytes end a e) (Due.run bytes' end' b e') =
    e ∙ ap (λ bs. run_on asked p numbers (arguments p asked.input bs)) (text_once asked.input input bytes bytes' a b) ∙ sym e'

program_once : (asked : Meant) (p : ProgramTree) (input : Option (List ℕ)) (numbers : Numbers) (x y : Ending) → IsProgramDue asked p input numbers x → IsProgramDue asked p input numbers y → x ≡ y
program_once asked p input numbers _ _ (Due.printed a) (Due.printed b) = refl
program_once asked p input numbers _ _ (Due.printed a) (Due.checked b) = absurd (cc (a, b))
program_once asked p input numbers _ _ (Due.printed a) (Due.run end b r) = absurd (cc (a, b))
program_once asked p input numbers _ _ (Due.checked a) (Due.printed b) = absurd (cc (a, b))
program_once asked p input numbers _ _ (Due.checked a) (Due.checked b) = refl
program_once asked p input numbers _ _ (Due.checked a) (Due.run end b r) = absurd (cc (a, b))
program_once asked p input numbers _ _ (Due.run end a r) (Due.printed b) = absurd (cc (a, b))
program_once asked p input numbers _ _ (Due.run end a r) (Due.checked b) = absurd (cc (a, b))
program_once asked p input numbers _ _ (Due.run end a r) (Due.run end' b r') = run_once asked p input numbers end end' r r'

-- ---- the source

module _
    (tokens_once : (source : List ℕ) (ts us : List Cut.Lexeme) → IsTokenList source ts → IsTokenList source us → ts ≡ us)
    (refusal_once : (source : List ℕ) (c d : LexCode) (s t : Site) → IsRefusal source c s → IsRefusal source d t → (c ≡ d) × (s ≡ t))
    (exclusive : (source : List ℕ) (ts : List Cut.Lexeme) (code : LexCode) (site : Site) → IsTokenList source ts → IsRefusal source code site → ⊥)
    (one_tree : (ts : List Lexeme) (p q : ProgramTree) → IsProgram ts p → IsProgram ts q → p ≡ q) where
  same_tokens : (source : List ℕ) (ts us : List Lexeme) → IsTokensOf source ts → IsTokensOf source us → ts ≡ us
  same_tokens source ts us a b = a.2 ∙ ap (map plain) (tokens_once source a.0 b.0 a.1 b.1) ∙ sym b.2

  same_tree : (source : List ℕ) (p q : ProgramTree) → HasTree source p → HasTree source q → p ≡ q
  same_tree source p q a b =
      one_tree a.tokens p q a.tree.0 (subst (λ ts. IsProgram ts q) (same_tokens source b.tokens a.tokens b.cut a.cut) b.tree.0)

  stuck_no_tree : (source : List ℕ) (p : ProgramTree) (ts : List Lexeme) (s : Site) → HasTree source p → IsTokensOf source ts → IsStuckAt ts s → ⊥
  stuck_no_tree source p ts s tree cut is =
      tree_not_stuck tree.tokens p s tree.tree (subst (λ l. IsStuckAt l s) (same_tokens source ts tree.tokens cut tree.cut) is)

  deep_no_tree : (source : List ℕ) (p : ProgramTree) (s : Site) → HasTree source p → IsTooDeep source s → ⊥
  deep_no_tree source p s tree is =
      tree_not_too_deep tree.tokens p s tree.tree (subst (λ l. IsTooDeepAt l s) (same_tokens source is.0 tree.tokens is.1 tree.cut) is.2)

  refused_once : (source x y : List ℕ) → IsRefusedSource source x → IsRefusedSource source y → (x ≡ y) ⊎ ((site : Site) × IsTooDeep source site)
  refused_once source _ _ (too_deep s f d) other = inr (s, d)
  refused_once source _ _ other (too_deep s f d) = inr (s, d)
  refused_once source _ _ (too_long a) (too_long b) = inl refl
  refused_once source _ _ (too_long a) (no_tokens c s f r) = absurd (omega (arith, a, f))
  refused_once source _ _ (too_long a) (stuck ts s f cut r) = absurd (omega (arith, a, f))
  refused_once source _ _ (too_long a) (not_accepted p c s f t r) = absurd (omega (arith, a, f))
  refused_once source _ _ (no_tokens c s f r) (too_long b) = absurd (omega (arith, b, f))
  refused_once source _ _ (no_tokens c s f r) (no_tokens c' s' f' r') =
      let same = refusal_once source c c' s s' r r' in inl (λ i. refused_at (lex_code (same.0 i)) (same.1 i))
  refused_once source _ _ (no_tokens c s f r) (stuck ts s' f' cut r') = absurd (exclusive source cut.0 c s cut.1 r)
  refused_once source _ _ (no_tokens c s f r) (not_accepted p c' s' f' t r') = absurd (exclusive source t.cut.0 c s t.cut.1 r)
  refused_once source _ _ (stuck ts s f cut r) (too_long b) = absurd (omega (arith, b, f))
  refused_once source _ _ (stuck ts s f cut r) (no_tokens c s' f' r') = absurd (exclusive source cut.0 c s' cut.1 r')
  refused_once source _ _ (stuck ts s f cut r) (stuck ts' s' f' cut' r') =
      inl (ap (refused_at (codes "P1")) (stuck_once ts s s' r (subst (λ l. IsStuckAt l s') (same_tokens source ts' ts cut' cut) r')))
  refused_once source _ _ (stuck ts s f cut r) (not_accepted p c' s' f' t r') = absurd (stuck_no_tree source p ts s t cut r)
  refused_once source _ _ (not_accepted p c s f t r) (too_long b) = absurd (omega (arith, b, f))
  refused_once source _ _ (not_accepted p c s f t r) (no_tokens c' s' f' r') = absurd (exclusive source t.cut.0 c' s' t.cut.1 r')
  refused_once source _ _ (not_accepted p c s f t r) (stuck ts s' f' cut r') = absurd (stuck_no_tree source p ts s' t cut r')
  refused_once source _ _ (not_accepted p c s f t r) (not_accepted p' c' s' f' t' r') =
      let same = first_once p c c' s s' r (subst (λ q. IsFirstViolation q c' s') (same_tree source p' p t' t) r') in
      inl (λ i. refused_at (check_code (same.0 i)) (same.1 i))

  program_not_refused : (source x : List ℕ) (p : ProgramTree) → IsProgramOf source p → IsRefusedSource source x → ⊥
  program_not_refused source _ p a (too_long b) = omega (arith, a.fits, b)
  program_not_refused source _ p a (no_tokens c s f r) = exclusive source a.tree.cut.0 c s a.tree.cut.1 r
  program_not_refused source _ p a (stuck ts s f cut r) = stuck_no_tree source p ts s a.tree cut r
  program_not_refused source _ p a (too_deep s f d) = deep_no_tree source p s a.tree d
  program_not_refused source _ p a (not_accepted q c s f t r) =
      accepted_not_refused p c s a.accepted (subst (λ q. IsFirstViolation q c s) (same_tree source q p t a.tree) r)

  -- ---- the whole

  abbrev pub Same : Option (List ℕ) → Ending → Ending → Type 0
  Same source x y = (x ≡ y) ⊎ (x.status ≡ y.status) × ((bytes : List ℕ) × (site : Site) × (source ≡ Some bytes) × IsTooDeep bytes site)

  both_refused : (source : Option (List ℕ)) (bytes bytes' x y : List ℕ) → source ≡ Some bytes → source ≡ Some bytes' → IsRefusedSource bytes x → IsRefusedSource bytes' y
      → Same source (record { status = Source; text = x }) (record { status = Source; text = y })
  both_refused source bytes bytes' x y b b' r r' =
      elim (refused_once bytes x y r (subst (λ bs. IsRefusedSource bs y) (same_some bytes' bytes (sym b' ∙ b)) r')) [
        | inl same ↦ inl (ap (λ t. record { status = Source; text = t }) same)
        | inr deep ↦ inr (refl, (bytes, deep.0, b, deep.1))
      ]

  refused_or_accepted : (source : Option (List ℕ)) (bytes bytes' x : List ℕ) (p : ProgramTree) → source ≡ Some bytes → source ≡ Some bytes' → IsRefusedSource bytes x → IsProgramOf bytes' p → ⊥
  refused_or_accepted source bytes bytes' x p b b' r is =
      program_not_refused bytes' x p is (subst (λ bs. IsRefusedSource bs x) (same_some bytes bytes' (sym b ∙ b')) r)

  both_accepted : (source input : Option (List ℕ)) (numbers : Numbers) (asked asked' : Meant) (bytes bytes' : List ℕ) (p q : ProgramTree) (x y : Ending)
      → asked' ≡ asked → source ≡ Some bytes → source ≡ Some bytes' → IsProgramOf bytes p → IsProgramOf bytes' q
      → IsProgramDue asked p input numbers x → IsProgramDue asked' q input numbers y → x ≡ y
  both_accepted source input numbers asked asked' bytes bytes' p q x y e b b' is is' d d' =
      let tree : q ≡ p = same_tree bytes q p (subst (λ bs. HasTree bs q) (same_some bytes' bytes (sym b' ∙ b)) is'.tree) is.tree in
      program_once asked p input numbers x y d (subst (λ a. IsProgramDue a p input numbers y) e (subst (λ t. IsProgramDue asked' t input numbers y) tree d'))

  pub due_once : (words : List (List ℕ)) (source input : Option (List ℕ)) (numbers : Numbers) (x y : Ending) → IsDue words source input numbers x → IsDue words source input numbers y → Same source x y
  due_once words source input numbers _ _ (Due.usage a) (Due.usage b) = inl refl
  due_once words source input numbers _ _ (Due.usage a) (Due.missing k b n) = absurd (cc (a, b))
  due_once words source input numbers _ _ (Due.usage a) (Due.refused k bs t b s r) = absurd (cc (a, b))
  due_once words source input numbers _ _ (Due.usage a) (Due.accepted k bs p y b s r d) = absurd (cc (a, b))
  due_once words source input numbers _ _ (Due.missing k a n) (Due.usage b) = absurd (cc (a, b))
  due_once words source input numbers _ _ (Due.missing k a n) (Due.missing k' b n') = inl refl
  due_once words source input numbers _ _ (Due.missing k a n) (Due.refused k' bs t b s r) = absurd (cc (n, s))
  due_once words source input numbers _ _ (Due.missing k a n) (Due.accepted k' bs p y b s r d) = absurd (cc (n, s))
  due_once words source input numbers _ _ (Due.refused k bs t a s r) (Due.usage b) = absurd (cc (a, b))
  due_once words source input numbers _ _ (Due.refused k bs t a s r) (Due.missing k' b n) = absurd (cc (n, s))
  due_once words source input numbers _ _ (Due.refused k bs t a s r) (Due.refused k' bs' t' b s' r') = both_refused source bs bs' t t' s s' r r'
  due_once words source input numbers _ _ (Due.refused k bs t a s r) (Due.accepted k' bs' p y b s' r' d) = absurd (refused_or_accepted source bs bs' t p s s' r r')
  due_once words source input numbers _ _ (Due.accepted k bs p x a s r d) (Due.usage b) = absurd (cc (a, b))
  due_once words source input numbers _ _ (Due.accepted k bs p x a s r d) (Due.missing k' b n) = absurd (cc (n, s))
  due_once words source input numbers _ _ (Due.accepted k bs p x a s r d) (Due.refused k' bs' t b s' r') = absurd (refused_or_accepted source bs' bs t p s' s r' r)
  due_once words source input numbers _ _ (Due.accepted k bs p x a s r d) (Due.accepted k' bs' q y b s' r' d') =
      inl (both_accepted source input numbers k k' bs bs' p q x y (same_some k' k (sym b ∙ a)) s s' r r' d d')
