-- The token list of a text, and its refusals.
use Rattle.std.specs.Prelude.{ℕ, ◌≡◌, ◌≢◌, ◌<◌, ◌≤◌, ◌+◌, Bool, true, false, ◌==◌, List, [], ◌∷◌, ◌++◌, length, if◌then◌else◌, ⊤, IsTrue}
use Rattle.std.specs.List.{AllByRecursion}
use Rattle.std.specs.Str.Parse.{digits_value}
use Rattle.sac_lex.specs.declared.piece.PieceKind.{PieceKind}
use Rattle.sac_lex.specs.declared.piece.PieceKind.TheVariants.{Blank, Comment, Open, Name, Number, Sign}
use Rattle.sac_lex.specs.declared.token.TokenKind.{TokenKind}
use Rattle.sac_lex.specs.declared.token.TokenKind.TheVariants as token
use Rattle.sac_base.specs.declared.site.Site.{Site}
use Rattle.sac_lex.specs.declared.token.Token.{Token}
use Rattle.sac_lex.specs.declared.token.LexCode.{LexCode}
use Rattle.sac_lex.specs.declared.token.LexCode.TheVariants.{L1, L2, L3, L4, L5}
use Rattle.sac_lex.specs.declared.token.LexError.{LexError}
use Rattle.sac_lex.specs.declared.token.LexError.TheVariants.{Memory, Refused}
use Rattle.sac_lex.specs.Spelling.{IsLongest, HasNoSpelling}
use Rattle.sac_lex.specs.Text.{name_kind}

-- a piece of a text
pub record Chunk : Type 0 where
  pub kind : PieceKind
  pub text : List ℕ

-- a token, wherever it lies in memory
pub record Lexeme : Type 0 where
  pub kind : TokenKind
  pub text : List ℕ
  pub site : Site

abbrev pub lexeme : Token → Lexeme
lexeme t = record { kind = t.kind; text = t.text.now; site = t.site }

abbrev pub bytes_of : List Chunk → List ℕ
bytes_of [] = []
bytes_of (c ∷ cs) = c.text ++ bytes_of cs

-- each chunk is the longest spelling where it stands, before the rest
abbrev pub IsCut : List Chunk → List ℕ → Type 0
IsCut [] rest = Unit {0}
IsCut (c ∷ cs) rest = IsLongest c.kind c.text (bytes_of cs ++ rest) × IsCut cs rest

-- the site behind a byte
abbrev pub next_site : Site → ℕ → Site
next_site s c = if c == 10 then record { line = s.line + 1; col = 1 } else record { line = s.line; col = s.col + 1 }

-- the site behind a text
abbrev pub site_after : Site → List ℕ → Site
site_after s [] = s
site_after s (c ∷ cs) = site_after (next_site s c) cs

abbrev pub start : Site
start = record { line = 1; col = 1 }

-- the token that a piece is, if it is one
abbrev pub lexemes_of : Site → PieceKind → List ℕ → List Lexeme
lexemes_of s Blank text = []
lexemes_of s Comment text = []
lexemes_of s Open text = []
lexemes_of s Name text = record { kind = name_kind text; text = text; site = s } ∷ []
lexemes_of s Number text = record { kind = token.Number; text = text; site = s } ∷ []
lexemes_of s Sign text = record { kind = token.Sign; text = text; site = s } ∷ []

-- the tokens among chunks of which the first stands at s
abbrev pub lexemes : Site → List Chunk → List Lexeme
lexemes s [] = []
lexemes s (c ∷ cs) = lexemes_of s c.kind c.text ++ lexemes (site_after s c.text) cs

-- what the limits ask of a chunk
abbrev pub IsWithinLimits : PieceKind → List ℕ → Type 0
IsWithinLimits Blank text = ⊤
IsWithinLimits Comment text = ⊤
IsWithinLimits Open text = ⊥
IsWithinLimits Name text = length text ≤ 64
IsWithinLimits Number text = digits_value 10 text ≤ 2147483647
IsWithinLimits Sign text = ⊤

-- source is these chunks and then the rest, and nothing among the chunks is refused
pub record IsFront (source : List ℕ) (chunks : List Chunk) (rest : List ℕ) : Type 0 where
  pub whole : source ≡ bytes_of chunks ++ rest
  pub cut : IsCut chunks rest
  pub within : AllByRecursion (λ (c : Chunk). IsWithinLimits c.kind c.text) chunks
  pub few : length (lexemes start chunks) ≤ 200000

-- the end token stands behind the last byte
abbrev pub end_token : List ℕ → Lexeme
end_token source = record { kind = token.End; text = []; site = site_after start source }

-- the tokens of the whole source, and the end token
abbrev pub IsTokenList : List ℕ → List Lexeme → Type 0
IsTokenList source tokens = (chunks : List Chunk) × IsFront source chunks [] × (tokens ≡ lexemes start chunks ++ (end_token source ∷ []))

abbrev pub is_token : PieceKind → Bool
is_token Name = true
is_token Number = true
is_token Sign = true
is_token kind = false

-- the code for which a piece is refused behind so many tokens
abbrev pub IsExcess : ℕ → LexCode → PieceKind → List ℕ → Type 0
IsExcess count L1 kind text = ⊥
IsExcess count L2 kind text = (kind ≡ Number) × (count < 200000) × (2147483647 < digits_value 10 text)
IsExcess count L3 kind text = (kind ≡ Name) × (count < 200000) × (64 < length text)
IsExcess count L4 kind text = IsTrue (is_token kind) × (200000 ≤ count)
IsExcess count L5 kind text = kind ≡ Open

-- why a text is refused that stands behind so many tokens: nothing is spelled at its front, or a piece is there that is refused
abbrev pub IsRefusedAt : ℕ → LexCode → List ℕ → Type 0
IsRefusedAt count L1 rest = (rest ≢ []) × HasNoSpelling rest
IsRefusedAt count code rest =
    (kind : PieceKind) × (text later : List ℕ) × (rest ≡ text ++ later) × IsLongest kind text later × IsExcess count code kind text

-- the first refusal in the source, and its site
abbrev pub IsRefusal : List ℕ → LexCode → Site → Type 0
IsRefusal source code site =
    (chunks : List Chunk) × (rest : List ℕ) × IsFront source chunks rest × (site ≡ site_after start (bytes_of chunks))
    × IsRefusedAt (length (lexemes start chunks)) code rest

-- the text of the token stands in the source at its site
abbrev pub StandsIn : List ℕ → Lexeme → Type 0
StandsIn source t = (before after : List ℕ) × (source ≡ before ++ t.text ++ after) × (t.site ≡ site_after start before)

-- the last token is the end token, and no other is
abbrev pub IsEnded : List Lexeme → Type 0
IsEnded [] = ⊥
IsEnded (t ∷ []) = t.kind ≡ token.End
IsEnded (t ∷ u ∷ ts) = (t.kind ≢ token.End) × IsEnded (u ∷ ts)

-- the token that a piece is, if it is one, and that nothing refuses it behind so many tokens
pub record IsTokenAt (count : ℕ) (kind : PieceKind) (text : List ℕ) (site : Site) (tokens : List Lexeme) : Type 0 where
  pub within : IsWithinLimits kind text
  pub token : tokens ≡ lexemes_of site kind text
  pub few : count + length tokens ≤ 200000

-- the refusal of a source
abbrev pub IsRefusedSource : List ℕ → LexError → Type 0
IsRefusedSource source Memory = ⊤
IsRefusedSource source (Refused code at) = IsRefusal source code at
