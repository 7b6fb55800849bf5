-- A line of data as a row of words and signs.
use Rattle.std.specs.Prelude.{ℕ, Bool, true, false, not, ◌||◌, ◌==◌, if◌then◌else◌, List, [], ◌∷◌, Option, Some, None, is_some}

pub data Piece : Type 0 where
  Word : List ℕ → Piece
  Open : Piece
  Comma : Piece
  Close : Piece
  Colon : Piece

-- a space or a tab
unfoldable pub is_blank : ℕ → Bool
is_blank b = (b == 32) || (b == 9)

-- the sign that a byte is: `[`, `,`, `]` or `:`
unfoldable pub sign : ℕ → Option Piece
sign b = if b == 91 then Some Open else (if b == 44 then Some Comma else (if b == 93 then Some Close else (if b == 58 then Some Colon else None)))

-- any other byte belongs to a word
unfoldable pub ends_word : ℕ → Bool
ends_word b = is_blank b || is_some (sign b)

abbrev pub starts_word : List ℕ → Bool
starts_word [] = false
starts_word (b ∷ bs) = not (ends_word b)

-- a word's byte before pieces: it begins the first word where that follows at once, and is a word of its own otherwise
abbrev pub spell : ℕ → Bool → List Piece → List Piece
spell b true (Word w ∷ ps) = Word (b ∷ w) ∷ ps
spell b _ ps = Word (b ∷ []) ∷ ps

-- a byte that is no blank before pieces, where `goes_on` says that a word's byte follows at once
abbrev pub put : ℕ → Option Piece → Bool → List Piece → List Piece
put b (Some p) goes_on ps = p ∷ ps
put b None goes_on ps = spell b goes_on ps

-- the words and signs of a text, in their order: a word is a longest run of a word's bytes
abbrev pub pieces : List ℕ → List Piece
pieces [] = []
pieces (b ∷ bs) = if is_blank b then pieces bs else put b (sign b) (starts_word bs) (pieces bs)
