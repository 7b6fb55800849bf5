-- The front of a source that has been cut, step by step.
use Rattle.std.proofs.Common.{ℕ, suc, ◌≡◌, ◌<◌, ◌≤◌, ◌+◌, ◌^◌, Bool, true, false, cond, ◌==◌, List, [], ◌∷◌, ◌++◌, length, take, drop, map, refl, sym, ap, ◌∙◌, subst, arith, append_assoc, append-nil, length-append, take-append-drop}
use Rattle.std.specs.List.{AllByRecursion}
use Rattle.sac_lex.specs.declared.piece.PieceKind.{PieceKind}
use Rattle.sac_base.specs.declared.site.Site.{Site}
use Rattle.sac_lex.specs.declared.token.Token.{Token}
use Rattle.sac_lex.specs.declared.token.TokenKind.TheVariants as token
use Rattle.sac_lex.specs.declared.token.LexCode.{LexCode}
use Rattle.sac_lex.specs.declared.token.LexCode.TheVariants.{L1, L2, L3, L4, L5}
use Rattle.sac_lex.specs.Spelling.{IsLongest, HasNoSpelling, BeginsWith}
use Rattle.sac_lex.specs.Cut.{Chunk, Lexeme, lexeme, bytes_of, IsCut, next_site, site_after, start, lexemes, lexemes_of, IsWithinLimits, IsFront, IsTokenList, IsRefusedAt, IsRefusal, IsTokenAt, IsExcess}

bytes_more : (cs ds : List Chunk) → bytes_of (cs ++ ds) ≡ bytes_of cs ++ bytes_of ds
bytes_more [] ds = refl
bytes_more (c ∷ cs) ds = ap (λ l. c.text ++ l) (bytes_more cs ds) ∙ sym (append_assoc c.text (bytes_of cs) (bytes_of ds))

pub site_more : (s : Site) (xs ys : List ℕ) → site_after s (xs ++ ys) ≡ site_after (site_after s xs) ys
site_more s [] ys = refl
site_more s (x ∷ xs) ys = site_more (next_site s x) xs ys

pub lexemes_more : (s : Site) (cs ds : List Chunk) → lexemes s (cs ++ ds) ≡ lexemes s cs ++ lexemes (site_after s (bytes_of cs)) ds
lexemes_more s [] ds = refl
lexemes_more s (c ∷ cs) ds =
    ap (λ l. lexemes_of s c.kind c.text ++ l) (lexemes_more (site_after s c.text) cs ds ∙ ap (λ t. lexemes (site_after s c.text) cs ++ lexemes t ds) (sym (site_more s c.text (bytes_of cs))))
    ∙ sym (append_assoc (lexemes_of s c.kind c.text) (lexemes (site_after s c.text) cs) _)

cut_more : (cs : List Chunk) (c : Chunk) (rest : List ℕ) → IsCut cs (c.text ++ rest) → IsLongest c.kind c.text rest → IsCut (cs ++ (c ∷ [])) rest
cut_more [] c rest cut longest = (longest, tt)
cut_more (d ∷ cs) c rest cut longest =
    (subst (IsLongest d.kind d.text) (sym (ap (λ l. l ++ rest) (bytes_more cs (c ∷ []) ∙ ap (λ l. bytes_of cs ++ l) (append-nil c.text)) ∙ append_assoc (bytes_of cs) c.text rest)) cut.0, cut_more cs c rest cut.1 longest)

within_more : (P : Chunk → Type 0) (cs : List Chunk) (c : Chunk) → AllByRecursion P cs → P c → AllByRecursion P (cs ++ (c ∷ []))
within_more P [] c all one = (one, tt)
within_more P (d ∷ cs) c all one = (all.0, within_more P cs c all.1 one)

-- what the loop knows: these are the tokens of the front of the source
pub record Lexed (source : List ℕ) (tokens : List Lexeme) (rest : List ℕ) (site : Site) : Type 0 where
  pub chunks : List Chunk
  pub front : IsFront source chunks rest
  pub same : tokens ≡ lexemes start chunks
  pub at : site ≡ site_after start (bytes_of chunks)

pub lexed_start : (source : List ℕ) → Lexed source [] source start
lexed_start source = record { chunks = []; front = record { whole = refl; cut = tt; within = tt; few = omega arith }; same = refl; at = refl }

excess_at : (count : ℕ) (rest : List ℕ) (kind : PieceKind) (len : ℕ) (code : LexCode) → IsExcess count code kind (take len rest) → BeginsWith kind len rest → IsRefusedAt count code rest
excess_at count rest kind len L1 x piece = absurd x
excess_at count rest kind len L2 x piece = (kind, take len rest, drop len rest, sym (take-append-drop len rest), piece.longest, x)
excess_at count rest kind len L3 x piece = (kind, take len rest, drop len rest, sym (take-append-drop len rest), piece.longest, x)
excess_at count rest kind len L4 x piece = (kind, take len rest, drop len rest, sym (take-append-drop len rest), piece.longest, x)
excess_at count rest kind len L5 x piece = (kind, take len rest, drop len rest, sym (take-append-drop len rest), piece.longest, x)

module _ (source : List ℕ) (tokens : List Lexeme) (rest : List ℕ) (site : Site) (kind : PieceKind) (len : ℕ) where
  pub lexed_more : (new : List Lexeme) → Lexed source tokens rest site → BeginsWith kind len rest → IsTokenAt (length tokens) kind (take len rest) site new → Lexed source (tokens ++ new) (drop len rest) (site_after site (take len rest))
  lexed_more new so_far piece token =
      let cs = so_far.chunks in
      let f = so_far.front in
      let text = take len rest in
      let later = drop len rest in
      let c : Chunk = record { kind = kind; text = text } in
      let split : text ++ later ≡ rest = take-append-drop len rest in
      let bytes : bytes_of (cs ++ (c ∷ [])) ≡ bytes_of cs ++ text = bytes_more cs (c ∷ []) ∙ ap (λ l. bytes_of cs ++ l) (append-nil text) in
      let tokens_are : tokens ++ new ≡ lexemes start (cs ++ (c ∷ [])) =
      (λ i. so_far.same i ++ new) ∙ ap (λ l. lexemes start cs ++ l) (token.token ∙ ap (λ s. lexemes_of s kind text) so_far.at ∙ sym (append-nil (lexemes_of (site_after start (bytes_of cs)) kind text))) ∙ sym (lexemes_more start cs (c ∷ [])) in
      record {
        chunks = cs ++ (c ∷ []);
        front = record {
          whole = f.whole ∙ ap (λ l. bytes_of cs ++ l) (sym split) ∙ sym (append_assoc (bytes_of cs) text later) ∙ ap (λ l. l ++ later) (sym bytes);
          cut = cut_more cs c later (subst (IsCut cs) (sym split) f.cut) piece.longest;
          within = within_more (λ (d : Chunk). IsWithinLimits d.kind d.text) cs c f.within token.within;
          few = let n = token.few in let e = ap length tokens_are in let m = length-append tokens new in omega arith;
        };
        same = tokens_are;
        at = ap (λ s. site_after s text) so_far.at ∙ sym (site_more start (bytes_of cs) text) ∙ ap (site_after start) (sym bytes);
      }

  pub refused_piece : (code : LexCode) → Lexed source tokens rest site → BeginsWith kind len rest → IsExcess (length tokens) code kind (take len rest) → IsRefusal source code site
  refused_piece code so_far piece excess =
      let cs = so_far.chunks in
      let count : length tokens ≡ length (lexemes start cs) = ap length so_far.same in
      (cs, rest, so_far.front, so_far.at, excess_at (length (lexemes start cs)) rest kind len code (subst (λ n. IsExcess n code kind (take len rest)) count excess) piece)

pub refused_none : (source : List ℕ) (tokens : List Lexeme) (rest : List ℕ) (site : Site) → Lexed source tokens rest site → 0 < length rest → HasNoSpelling rest → IsRefusal source L1 site
refused_none source tokens rest site so_far some none = (so_far.chunks, rest, so_far.front, so_far.at, ((λ e. let z = ap length e in omega arith), none))

pub lexed_whole : (source : List ℕ) (tokens : List Lexeme) (site : Site) → Lexed source tokens [] site → IsTokenList source (tokens ++ (record { kind = token.End; text = []; site = site } ∷ []))
lexed_whole source tokens site so_far =
    let whole : source ≡ bytes_of so_far.chunks = so_far.front.whole ∙ append-nil (bytes_of so_far.chunks) in
    (so_far.chunks, so_far.front, (λ i. so_far.same i ++ (record { kind = token.End; text = []; site = (so_far.at ∙ ap (site_after start) (sym whole)) i } ∷ [])))

-- lines and columns grow no faster than the text
pub record Near (n : ℕ) (s : Site) : Type 0 where
  pub line : s.line ≤ n
  pub some : 0 < s.col
  pub col : s.col ≤ n

near_next : (n c : ℕ) (s : Site) (b : Bool) → b ≡ (c == 10) → 0 < n → Near n s → Near (n + 1) (cond b (record { line = s.line + 1; col = 1 }) (record { line = s.line; col = s.col + 1 }))
near_next n c s true is some near = record { line = let h = near.line in omega arith; some = omega arith; col = omega arith }
near_next n c s false is some near = record { line = let h = near.line in omega arith; some = omega arith; col = let h = near.col in omega arith }

near_after : (xs : List ℕ) (n : ℕ) (s : Site) → 0 < n → Near n s → Near (n + length xs) (site_after s xs)
near_after [] n s some near = subst (λ m. Near m s) (let e : n ≡ n + 0 = omega arith in e) near
near_after (x ∷ xs) n s some near = subst (λ m. Near m (site_after (next_site s x) xs)) (let e : n + 1 + length xs ≡ n + suc (length xs) = omega arith in e) (near_after xs (n + 1) (next_site s x) (omega arith) (near_next n x s (x == 10) refl some near))

pub record InRange (n : ℕ) (s : Site) : Type 0 where
  pub some : 0 < s.col
  pub line : s.line + n < 2 ^ 32
  pub col : s.col + n < 2 ^ 32

pub lexed_near : (source : List ℕ) (tokens : List Lexeme) (rest : List ℕ) (site : Site) → length source ≤ 4294967294 → Lexed source tokens rest site → InRange (length rest) site
lexed_near source tokens rest site le so_far =
    let bytes = bytes_of so_far.chunks in
    let total : length source ≡ length bytes + length rest = ap length so_far.front.whole ∙ length-append bytes rest in
    let near = near_after bytes 1 start (omega arith) (record { line = omega arith; some = omega arith; col = omega arith }) in
    subst (InRange (length rest)) (sym so_far.at) (record { some = near.some; line = let h = near.line in omega arith; col = let h = near.col in omega arith })

length-map : {X Y : Type 0} (f : X → Y) (xs : List X) → length (map f xs) ≡ length xs
length-map f [] = refl
length-map f (x ∷ xs) = ap suc (length-map f xs)

map-append : {X Y : Type 0} (f : X → Y) (xs ys : List X) → map f (xs ++ ys) ≡ map f xs ++ map f ys
map-append f [] ys = refl
map-append f (x ∷ xs) ys = ap (λ l. f x ∷ l) (map-append f xs ys)

-- a turn of the loop
pub lexed_step : (source : List ℕ) (old now : List Token) (rest text after : List ℕ) (site next : Site) (kind : PieceKind) (len count : ℕ) (new : List Token) → Lexed source (map lexeme old) rest site → BeginsWith kind len rest → text ≡ take len rest → after ≡ drop len rest → count ≡ length old → IsTokenAt count kind text site (map lexeme new) → next ≡ site_after site text → now ≡ old ++ new → Lexed source (map lexeme now) after next
lexed_step source old now rest text after site next kind len count new so_far piece text_is after_is count_is token next_is now_is =
    let counted : count ≡ length (map lexeme old) = count_is ∙ sym (length-map lexeme old) in
    let token_here : IsTokenAt (length (map lexeme old)) kind (take len rest) site (map lexeme new) =
    subst (λ t. IsTokenAt (length (map lexeme old)) kind t site (map lexeme new)) text_is (subst (λ n. IsTokenAt n kind text site (map lexeme new)) counted token) in
    let more = lexed_more source (map lexeme old) rest site kind len (map lexeme new) so_far piece token_here in
    subst (λ l. Lexed source l after next) (sym (ap (map lexeme) now_is ∙ map-append lexeme old new))
    (subst (λ l. Lexed source (map lexeme old ++ map lexeme new) l next) (sym after_is)
    (subst (λ s. Lexed source (map lexeme old ++ map lexeme new) (drop len rest) s) (sym (next_is ∙ ap (site_after site) text_is)) more))

-- the end token behind the tokens of a source that is cut to its end
pub lexed_end : (source : List ℕ) (old now : List Token) (rest : List ℕ) (site : Site) (last : Token) → now ≡ old ++ (last ∷ []) → Lexed source (map lexeme old) rest site → length rest ≡ 0 → lexeme last ≡ record { kind = token.End; text = rest; site = site } → IsTokenList source (map lexeme now)
lexed_end source old now [] site last now_is so_far none same =
    subst (IsTokenList source)
    (ap (λ l. map lexeme old ++ l) (λ i. sym same i ∷ []) ∙ sym (map-append lexeme old (last ∷ [])) ∙ ap (map lexeme) (sym now_is))
    (lexed_whole source (map lexeme old) site so_far)
lexed_end source old now (c ∷ cs) site last now_is so_far none same = absurd (omega arith)
