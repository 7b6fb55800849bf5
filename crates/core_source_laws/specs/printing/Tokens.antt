-- The tokens of a source, as the grammar sees them, and as many as there are.
use Rattle.std.specs.Prelude.{ℕ, ◌≡◌, List, [], ◌∷◌, ◌++◌}
use Rattle.std.specs.List.{AllByRecursion}
use Rattle.sac_lex.specs.Cut as lex
use Rattle.sac_lex.specs.Cut.{Chunk, bytes_of, IsCut, IsWithinLimits, lexemes, site_after, start}
use Rattle.sac_lex.specs.declared.token.TokenKind.TheVariants.{End}
use Rattle.sac_ast.specs.Texts.{Lexeme}

-- a token without its kind, which its text tells
abbrev pub plain : lex.Lexeme → Lexeme
plain t = record { text = t.text; site = t.site }

-- the tokens of the whole source and the end token, without the limit on their number
abbrev pub HasTokens : List ℕ → List lex.Lexeme → Type 0
HasTokens source tokens =
    (chunks : List Chunk) × (source ≡ bytes_of chunks) × IsCut chunks [] × AllByRecursion (λ (c : Chunk). IsWithinLimits c.kind c.text) chunks
    × (tokens ≡ lexemes start chunks ++ (record { kind = End; text = []; site = site_after start source } ∷ []))
