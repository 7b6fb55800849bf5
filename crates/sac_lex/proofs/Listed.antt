-- What a token list says of each token: where it stands, and that the last one alone is the end token.
use Rattle.std.proofs.Common.{ℕ, ◌≡◌, ◌≢◌, Bool, true, false, cond, List, [], ◌∷◌, ◌++◌, refl, sym, ap, ◌∙◌, subst, append_assoc, append-nil}
use Rattle.std.specs.List.{AllByRecursion}
use Rattle.sac_base.specs.declared.site.Site.{Site}
use Rattle.sac_lex.specs.declared.piece.PieceKind.{PieceKind}
use Rattle.sac_lex.specs.declared.piece.PieceKind.TheVariants.{Blank, Comment, Open, Name, Number, Sign}
use Rattle.sac_lex.specs.declared.token.TokenKind.TheVariants as token
use Rattle.sac_lex.specs.Text.{is_reserved}
use Rattle.sac_lex.specs.Cut.{Chunk, Lexeme, bytes_of, site_after, start, lexemes, lexemes_of, IsTokenList, StandsIn, IsEnded}
use Rattle.sac_lex.proofs.Fronts.{site_more}

all_more : (P : Lexeme → Type 0) (xs ys : List Lexeme) → AllByRecursion P xs → AllByRecursion P ys → AllByRecursion P (xs ++ ys)
all_more P [] ys first second = second
all_more P (x ∷ xs) ys first second = (first.0, all_more P xs ys first.1 second)

abbrev NotEnd : Lexeme → Type 0
NotEnd t = t.kind ≢ token.End

name_is_no_end : (reserved : Bool) → cond reserved token.Word token.Name ≢ token.End
name_is_no_end true = λ e. cc
name_is_no_end false = λ e. cc

piece_is_no_end : (s : Site) (kind : PieceKind) (text : List ℕ) → AllByRecursion NotEnd (lexemes_of s kind text)
piece_is_no_end s Blank text = tt
piece_is_no_end s Comment text = tt
piece_is_no_end s Open text = tt
piece_is_no_end s Name text = (name_is_no_end (is_reserved text), tt)
piece_is_no_end s Number text = ((λ e. cc), tt)
piece_is_no_end s Sign text = ((λ e. cc), tt)

no_end : (s : Site) (cs : List Chunk) → AllByRecursion NotEnd (lexemes s cs)
no_end s [] = tt
no_end s (c ∷ cs) = all_more NotEnd (lexemes_of s c.kind c.text) (lexemes (site_after s c.text) cs) (piece_is_no_end s c.kind c.text) (no_end (site_after s c.text) cs)

ends_there : (ts : List Lexeme) (last : Lexeme) → AllByRecursion NotEnd ts → last.kind ≡ token.End → IsEnded (ts ++ (last ∷ []))
ends_there [] last none is = is
ends_there (t ∷ []) last none is = (none.0, is)
ends_there (t ∷ u ∷ ts) last none is = (none.0, ends_there (u ∷ ts) last none.1 is)

pub list_ends : (source : List ℕ) (tokens : List Lexeme) → IsTokenList source tokens → IsEnded tokens
list_ends source tokens list = subst IsEnded (sym list.2) (ends_there (lexemes start list.0) _ (no_end start list.0) refl)

piece_stands : (source before after text : List ℕ) (kind : PieceKind) → source ≡ before ++ text ++ after → AllByRecursion (StandsIn source) (lexemes_of (site_after start before) kind text)
piece_stands source before after text Blank whole = tt
piece_stands source before after text Comment whole = tt
piece_stands source before after text Open whole = tt
piece_stands source before after text Name whole = ((before, after, whole, refl), tt)
piece_stands source before after text Number whole = ((before, after, whole, refl), tt)
piece_stands source before after text Sign whole = ((before, after, whole, refl), tt)

pieces_stand : (source before after : List ℕ) (cs : List Chunk) → source ≡ before ++ bytes_of cs ++ after → AllByRecursion (StandsIn source) (lexemes (site_after start before) cs)
pieces_stand source before after [] whole = tt
pieces_stand source before after (c ∷ cs) whole =
    let behind : source ≡ before ++ c.text ++ bytes_of cs ++ after = whole ∙ ap (λ l. l ++ after) (sym (append_assoc before c.text (bytes_of cs))) in
    let here : source ≡ before ++ c.text ++ (bytes_of cs ++ after) = behind ∙ append_assoc (before ++ c.text) (bytes_of cs) after in
    all_more (StandsIn source) (lexemes_of (site_after start before) c.kind c.text) (lexemes (site_after (site_after start before) c.text) cs)
    (piece_stands source before (bytes_of cs ++ after) c.text c.kind here)
    (subst (λ s. AllByRecursion (StandsIn source) (lexemes s cs)) (site_more start before c.text) (pieces_stand source (before ++ c.text) after cs behind))

pub list_stands : (source : List ℕ) (tokens : List Lexeme) → IsTokenList source tokens → AllByRecursion (StandsIn source) tokens
list_stands source tokens list =
    subst (AllByRecursion (StandsIn source)) (sym list.2)
    (all_more (StandsIn source) (lexemes start list.0) _ (pieces_stand source [] [] list.0 list.1.whole) ((source, [], (sym (append-nil source) ∙ sym (append-nil (source ++ []))), refl), tt))
