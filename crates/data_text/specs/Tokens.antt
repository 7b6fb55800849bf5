-- What the code's tokens are.
use Rattle.std.specs.Prelude.{ℕ, List, [], ◌∷◌, Option, Some, None, ℤ}
use Rattle.sac_base.specs.declared.base.Base.{Base}
use Rattle.data_text.specs.declared.token.Token.{Token}
use Rattle.data_text.specs.declared.token.Token.TheVariants as token
use Rattle.data_text.specs.Pieces.{Piece, Word, Open, Comma, Close, Colon, pieces}
use Rattle.std.specs.Borrow.{Bor}

abbrev pub piece_of : Token → Piece
piece_of (token.Word w) = Word w.now
piece_of token.Open = Open
piece_of token.Comma = Comma
piece_of token.Close = Close
piece_of token.Colon = Colon

-- the pieces of a text of which the first token was taken, and a rest is left
abbrev pub pieces_from : Option (Token × Bor (List ℕ)) → List Piece
pieces_from None = []
pieces_from (Some x) = piece_of x.0 ∷ pieces x.1.now

-- a base, or a row, with the pieces of the rest
abbrev pub base_from : Option (Base × Bor (List ℕ)) → Option (Base × List Piece)
base_from None = None
base_from (Some x) = Some (x.0, pieces x.1.now)

abbrev pub row_from : Option (Option (List ℤ) × Bor (List ℕ)) → Option (Option (List ℤ) × List Piece)
row_from None = None
row_from (Some x) = Some (x.0, pieces x.1.now)
