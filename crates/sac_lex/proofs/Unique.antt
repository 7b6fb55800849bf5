-- A source has one token list or one first refusal.
use Rattle.std.proofs.Common.{ℕ, ◌≡◌, ◌≤◌, ◌+◌, true, List, [], ◌∷◌, ◌++◌, length, ◌⊎◌, inl, inr, refl, sym, ap, ◌∙◌, subst, arith, append_assoc, append-nil, length-append}
use Rattle.std.specs.List.{AllByRecursion}
use Rattle.sac_lex.specs.declared.piece.PieceKind.{PieceKind}
use Rattle.sac_lex.specs.declared.piece.PieceKind.TheVariants.{Blank, Comment, Open, Name, Number, Sign}
use Rattle.sac_base.specs.declared.site.Site.{Site}
use Rattle.sac_lex.specs.declared.token.LexCode.{LexCode}
use Rattle.sac_lex.specs.declared.token.LexCode.TheVariants.{L1, L2, L3, L4, L5}
use Rattle.sac_lex.specs.declared.token.TokenKind.TheVariants as token
use Rattle.std.specs.Str.Parse.{digits_value}
use Rattle.sac_lex.specs.Spelling.{IsSpelling, IsLongest, HasNoSpelling}
use Rattle.sac_lex.specs.Cut.{Chunk, Lexeme, bytes_of, IsCut, site_after, start, lexemes, lexemes_of, is_token, IsWithinLimits, IsFront, IsTokenList, IsRefusedAt, IsRefusal, IsExcess}
use Rattle.sac_lex.proofs.Fronts.{lexemes_more}

-- of two fronts of one list one goes on to the other
overlap : (a b x y : List ℕ) → a ++ x ≡ b ++ y → ((m : List ℕ) × (b ≡ a ++ m) × (x ≡ m ++ y)) ⊎ ((m : List ℕ) × (a ≡ b ++ m) × (y ≡ m ++ x))
overlap [] b x y e = inl (b, refl, e)
overlap (c ∷ a) [] x y e = inr (c ∷ a, refl, sym e)
overlap (c ∷ a) (d ∷ b) x y e =
    let head : c ≡ d = cc in
    let tail : a ++ x ≡ b ++ y = cc in
    elim (overlap a b x y tail) [
      | inl w ↦ inl (w.0, (λ i. sym head i ∷ w.1 i), w.2)
      | inr w ↦ inr (w.0, (λ i. head i ∷ w.1 i), w.2)
    ]

-- two longest pieces at one place are one
pub record Same (k l : PieceKind) (a b x y : List ℕ) : Type 0 where
  pub kind : k ≡ l
  pub text : a ≡ b
  pub later : x ≡ y

same_piece : (k l : PieceKind) (a b x y : List ℕ) → IsLongest k a x → IsLongest l b y → a ++ x ≡ b ++ y → Same k l a b x y
same_piece k l a b x y p q e =
    elim (overlap a b x y e) [
      | inl w ↦
          let h = p.longest l w.0 y w.2 (subst (IsSpelling l) w.1 q.spelled) in
          record { kind = sym h.0; text = sym (w.1 ∙ ap (λ m. a ++ m) h.1 ∙ append-nil a); later = w.2 ∙ ap (λ m. m ++ y) h.1 }
      | inr w ↦
          let h = q.longest k w.0 x w.2 (subst (IsSpelling k) w.1 p.spelled) in
          record { kind = h.0; text = w.1 ∙ ap (λ m. b ++ m) h.1 ∙ append-nil b; later = sym (w.2 ∙ ap (λ m. m ++ x) h.1) }
    ]

spelled_some : (k : PieceKind) → IsSpelling k [] → ⊥
spelled_some Blank h = h
spelled_some Comment (inl h) = cc (ap length h.1)
spelled_some Comment (inr h) = cc (ap length h.1)
spelled_some Open h = cc (ap length h.1)
spelled_some Name h = h
spelled_some Number h = h
spelled_some Sign h = cc

nothing_left : (k : PieceKind) (a x : List ℕ) → IsLongest k a x → a ++ x ≡ [] → ⊥
nothing_left k [] x p e = spelled_some k p.spelled
nothing_left k (c ∷ a) x p e = cc

-- of two cuts of one text one goes on to the other
abbrev GoesOn : List Chunk → List ℕ → List Chunk → List ℕ → Type 0
GoesOn cs r ds q = (es : List Chunk) × (ds ≡ cs ++ es) × IsCut es q × (r ≡ bytes_of es ++ q)

compare : (cs ds : List Chunk) (r q : List ℕ) → IsCut cs r → IsCut ds q → bytes_of cs ++ r ≡ bytes_of ds ++ q → GoesOn cs r ds q ⊎ GoesOn ds q cs r
compare [] ds r q cut other e = inl (ds, refl, other, e)
compare (c ∷ cs) [] r q cut other e = inr (c ∷ cs, refl, cut, sym e)
compare (c ∷ cs) (d ∷ ds) r q cut other e =
    let s = same_piece c.kind d.kind c.text d.text (bytes_of cs ++ r) (bytes_of ds ++ q) cut.0 other.0 (sym (append_assoc c.text (bytes_of cs) r) ∙ e ∙ append_assoc d.text (bytes_of ds) q) in
    let same : c ≡ d = λ i. record { kind = s.kind i; text = s.text i } in
    elim (compare cs ds r q cut.1 other.1 s.later) [
      | inl w ↦ inl (w.0, (λ i. sym same i ∷ w.1 i), w.2, w.3)
      | inr w ↦ inr (w.0, (λ i. same i ∷ w.1 i), w.2, w.3)
    ]

no_chunks : (es : List Chunk) (q : List ℕ) → IsCut es q → [] ≡ bytes_of es ++ q → (es ≡ []) × (q ≡ [])
no_chunks [] q cut e = (refl, sym e)
no_chunks (c ∷ es) q cut e = absurd (nothing_left c.kind c.text (bytes_of es ++ q) cut.0 (sym (append_assoc c.text (bytes_of es) q) ∙ sym e))

within_later : (P : Chunk → Type 0) (cs ds : List Chunk) → AllByRecursion P (cs ++ ds) → AllByRecursion P ds
within_later P [] ds h = h
within_later P (c ∷ cs) ds h = within_later P cs ds h.1

one_token : (s : Site) (k : PieceKind) (text : List ℕ) → is_token k ≡ true → length (lexemes_of s k text) ≡ 1
one_token s Blank text e = cc
one_token s Comment text e = cc
one_token s Open text e = cc
one_token s Name text e = refl
one_token s Number text e = refl
one_token s Sign text e = refl

-- a piece that is within the limits is not refused
not_in_excess : (count : ℕ) (code : LexCode) (k : PieceKind) (text : List ℕ) (s : Site) → IsWithinLimits k text → count + length (lexemes_of s k text) ≤ 200000 → IsExcess count code k text → ⊥
not_in_excess count L1 k text s within few h = h
not_in_excess count L2 k text s within few h = let w : digits_value 10 text ≤ 2147483647 = subst (λ x. IsWithinLimits x text) h.0 within in let g = h.2 in omega arith
not_in_excess count L3 k text s within few h = let w : length text ≤ 64 = subst (λ x. IsWithinLimits x text) h.0 within in let g = h.2 in omega arith
not_in_excess count L4 k text s within few h = let one = one_token s k text h.0 in let g = h.1 in omega arith
not_in_excess count L5 k text s within few h = subst (λ x. IsWithinLimits x text) h within

-- what stands at the front of a rest decides its refusal
piece_refused : (count : ℕ) (code : LexCode) (rest : List ℕ) (k : PieceKind) (text later : List ℕ) → IsLongest k text later → rest ≡ text ++ later → IsRefusedAt count code rest → IsExcess count code k text
piece_refused count L1 rest k text later p e h = h.1 k text later e p.spelled
piece_refused count L2 rest k text later p e (k', t, l, e', p', x) = let s = same_piece k' k t text l later p' p (sym e' ∙ e) in subst (λ j. IsExcess count L2 j text) s.kind (subst (IsExcess count L2 k') s.text x)
piece_refused count L3 rest k text later p e (k', t, l, e', p', x) = let s = same_piece k' k t text l later p' p (sym e' ∙ e) in subst (λ j. IsExcess count L3 j text) s.kind (subst (IsExcess count L3 k') s.text x)
piece_refused count L4 rest k text later p e (k', t, l, e', p', x) = let s = same_piece k' k t text l later p' p (sym e' ∙ e) in subst (λ j. IsExcess count L4 j text) s.kind (subst (IsExcess count L4 k') s.text x)
piece_refused count L5 rest k text later p e (k', t, l, e', p', x) = let s = same_piece k' k t text l later p' p (sym e' ∙ e) in subst (λ j. IsExcess count L5 j text) s.kind (subst (IsExcess count L5 k') s.text x)

few_first : (cs : List Chunk) (c : Chunk) (es : List Chunk) (m : ℕ) → length (lexemes start (cs ++ (c ∷ es))) ≤ m → length (lexemes start cs) + length (lexemes_of (site_after start (bytes_of cs)) c.kind c.text) ≤ m
few_first cs c es m few =
    let s = site_after start (bytes_of cs) in
    let a = ap length (lexemes_more start cs (c ∷ es)) ∙ length-append (lexemes start cs) (lexemes s (c ∷ es)) in
    let b = length-append (lexemes_of s c.kind c.text) (lexemes (site_after s c.text) es) in
    omega arith

-- where a front goes on by pieces within the limits, it is not refused
goes_on : (cs : List Chunk) (c : Chunk) (es : List Chunk) (q : List ℕ) (code : LexCode) → AllByRecursion (λ (d : Chunk). IsWithinLimits d.kind d.text) (cs ++ (c ∷ es)) → length (lexemes start (cs ++ (c ∷ es))) ≤ 200000 → IsCut (c ∷ es) q → IsRefusedAt (length (lexemes start cs)) code (bytes_of (c ∷ es) ++ q) → ⊥
goes_on cs c es q code within few cut refused =
    not_in_excess (length (lexemes start cs)) code c.kind c.text (site_after start (bytes_of cs))
    (within_later (λ (d : Chunk). IsWithinLimits d.kind d.text) cs (c ∷ es) within).0
    (few_first cs c es 200000 few)
    (piece_refused _ code (bytes_of (c ∷ es) ++ q) c.kind c.text (bytes_of es ++ q) cut.0 (append_assoc c.text (bytes_of es) q) refused)

not_refused_at_end : (count : ℕ) (code : LexCode) → IsRefusedAt count code [] → ⊥
not_refused_at_end count L1 h = h.0 refl
not_refused_at_end count L2 (k, t, l, e, p, x) = nothing_left k t l p (sym e)
not_refused_at_end count L3 (k, t, l, e, p, x) = nothing_left k t l p (sym e)
not_refused_at_end count L4 (k, t, l, e, p, x) = nothing_left k t l p (sym e)
not_refused_at_end count L5 (k, t, l, e, p, x) = nothing_left k t l p (sym e)

one_excess : (count : ℕ) (c d : LexCode) (k : PieceKind) (text : List ℕ) → IsExcess count c k text → IsExcess count d k text → c ≡ d
one_excess count L1 d k text h g = absurd h
one_excess count c L1 k text h g = absurd g
one_excess count L2 L2 k text h g = refl
one_excess count L2 L3 k text h g = let a = h.0 in let b = g.0 in cc
one_excess count L2 L4 k text h g = absurd (let a = h.1 in let b = g.1 in omega arith)
one_excess count L2 L5 k text h g = let a = h.0 in cc
one_excess count L3 L2 k text h g = let a = h.0 in let b = g.0 in cc
one_excess count L3 L3 k text h g = refl
one_excess count L3 L4 k text h g = absurd (let a = h.1 in let b = g.1 in omega arith)
one_excess count L3 L5 k text h g = let a = h.0 in cc
one_excess count L4 L2 k text h g = absurd (let a = h.1 in let b = g.1 in omega arith)
one_excess count L4 L3 k text h g = absurd (let a = h.1 in let b = g.1 in omega arith)
one_excess count L4 L4 k text h g = refl
one_excess count L4 L5 k text h g = let e : is_token Open ≡ true = subst (λ j. is_token j ≡ true) g h.0 in cc
one_excess count L5 L2 k text h g = let b = g.0 in cc
one_excess count L5 L3 k text h g = let b = g.0 in cc
one_excess count L5 L4 k text h g = let e : is_token Open ≡ true = subst (λ j. is_token j ≡ true) h g.0 in cc
one_excess count L5 L5 k text h g = refl

-- either nothing is spelled there, or a piece is
abbrev Why : ℕ → LexCode → List ℕ → Type 0
Why count c rest = ((c ≡ L1) × HasNoSpelling rest) ⊎ ((k : PieceKind) × (t l : List ℕ) × (rest ≡ t ++ l) × IsLongest k t l × IsExcess count c k t)

why : (count : ℕ) (c : LexCode) (rest : List ℕ) → IsRefusedAt count c rest → Why count c rest
why count L1 rest h = inl (refl, h.1)
why count L2 rest h = inr h
why count L3 rest h = inr h
why count L4 rest h = inr h
why count L5 rest h = inr h

one_code : (count : ℕ) (c d : LexCode) (rest : List ℕ) → IsRefusedAt count c rest → IsRefusedAt count d rest → c ≡ d
one_code count c d rest h g =
    elim (why count c rest h) [
      | inl w ↦ elim (why count d rest g) [
        | inl v ↦ w.0 ∙ sym v.0
        | inr v ↦ absurd (w.1 v.0 v.1 v.2 v.3 v.4.spelled)
      ]
      | inr w ↦ one_excess count c d w.0 w.1 w.5 (piece_refused count d rest w.0 w.1 w.2 w.4 w.3 g)
    ]

pub tokens_unique : (source : List ℕ) (ts us : List Lexeme) → IsTokenList source ts → IsTokenList source us → ts ≡ us
tokens_unique source ts us t u =
    let f = t.1 in
    let g = u.1 in
    let same : t.0 ≡ u.0 = elim (compare t.0 u.0 [] [] f.cut g.cut (sym f.whole ∙ g.whole)) [
      | inl w ↦ sym (w.1 ∙ ap (λ l. t.0 ++ l) (no_chunks w.0 [] w.2 w.3).0 ∙ append-nil t.0)
      | inr w ↦ w.1 ∙ ap (λ l. u.0 ++ l) (no_chunks w.0 [] w.2 w.3).0 ∙ append-nil u.0
    ] in
    t.2 ∙ ap (λ cs. lexemes start cs ++ (record { kind = token.End; text = []; site = site_after start source } ∷ [])) same ∙ sym u.2

-- a front that goes on to the end, or to another refusal, by some piece, is not refused before it
not_before : (source : List ℕ) (cs ds es : List Chunk) (r q : List ℕ) (code : LexCode) → IsFront source ds q → ds ≡ cs ++ es → IsCut es q → r ≡ bytes_of es ++ q → IsRefusedAt (length (lexemes start cs)) code r → (es ≡ [])
not_before source cs ds [] r q code front whole cut rest refused = refl
not_before source cs ds (e ∷ es) r q code front whole cut rest refused =
    absurd (goes_on cs e es q code (subst (AllByRecursion (λ (d : Chunk). IsWithinLimits d.kind d.text)) whole front.within) (subst (λ l. length (lexemes start l) ≤ 200000) whole front.few) cut (subst (IsRefusedAt (length (lexemes start cs)) code) rest refused))

pub exclusive : (source : List ℕ) (ts : List Lexeme) (code : LexCode) (site : Site) → IsTokenList source ts → IsRefusal source code site → ⊥
exclusive source ts code site t h =
    let f = t.1 in
    let g = h.2 in
    elim (compare t.0 h.0 [] h.1 f.cut g.cut (sym f.whole ∙ g.whole)) [
      | inl w ↦ let q = (no_chunks w.0 h.1 w.2 w.3).1 in not_refused_at_end _ code (subst (IsRefusedAt (length (lexemes start h.0)) code) q h.4)
      | inr w ↦
          let none : w.0 ≡ [] = not_before source h.0 t.0 w.0 h.1 [] code f w.1 w.2 w.3 h.4 in
          not_refused_at_end _ code (subst (IsRefusedAt (length (lexemes start h.0)) code) (w.3 ∙ ap (λ l. bytes_of l ++ []) none) h.4)
    ]

same_refusal : (source : List ℕ) (cs ds : List Chunk) (r q : List ℕ) (c d : LexCode) → IsFront source ds q → GoesOn cs r ds q → IsRefusedAt (length (lexemes start cs)) c r → IsRefusedAt (length (lexemes start ds)) d q → (c ≡ d) × (cs ≡ ds)
same_refusal source cs ds r q c d front w h g =
    let none : w.0 ≡ [] = not_before source cs ds w.0 r q c front w.1 w.2 w.3 h in
    let same : ds ≡ cs = w.1 ∙ ap (λ l. cs ++ l) none ∙ append-nil cs in
    let rest : r ≡ q = w.3 ∙ ap (λ l. bytes_of l ++ q) none in
    (one_code (length (lexemes start cs)) c d r h (subst (IsRefusedAt (length (lexemes start cs)) d) (sym rest) (subst (λ l. IsRefusedAt (length (lexemes start l)) d q) same g)), sym same)

pub refusal_unique : (source : List ℕ) (c d : LexCode) (s t : Site) → IsRefusal source c s → IsRefusal source d t → (c ≡ d) × (s ≡ t)
refusal_unique source c d s t h g =
    elim (compare h.0 g.0 h.1 g.1 h.2.cut g.2.cut (sym h.2.whole ∙ g.2.whole)) [
      | inl w ↦ let e = same_refusal source h.0 g.0 h.1 g.1 c d g.2 w h.4 g.4 in (e.0, h.3 ∙ ap (λ l. site_after start (bytes_of l)) e.1 ∙ sym g.3)
      | inr w ↦ let e = same_refusal source g.0 h.0 g.1 h.1 d c h.2 w g.4 h.4 in (sym e.0, h.3 ∙ ap (λ l. site_after start (bytes_of l)) (sym e.1) ∙ sym g.3)
    ]
