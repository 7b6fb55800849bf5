-- The form of a line of data, as the set of its spellings.
use Rattle.std.specs.Prelude.{◌≡◌, ◌<◌, ℕ, List, [], ◌∷◌, ◌++◌, map, length, codes, ℤ, pos, neg_ℤ, ◌⊎◌, true}
use Rattle.std.specs.Str.{all_ascii_digits}
use Rattle.sac_base.specs.declared.base.Base.{Base}
use Rattle.sac_base.specs.declared.base.Base.TheVariants.{Int, Bool as Truth}
use Rattle.data_text.specs.Pieces.{Piece, Word, Open, Comma, Close, Colon, pieces}
use Rattle.data_text.specs.Numbers.{value_after, base_text}
use Rattle.data_text.specs.Lines.{LineValue}

-- one or more digits spell the number that they stand for in base ten; zeros may lead
pub record SpellsNumber (ds : List ℕ) (n : ℕ) : Type 0 where
  pub some : 0 < length ds
  pub digits : all_ascii_digits ds ≡ true
  pub value : n ≡ value_after 0 ds

-- an element is spelled by digits, with an optional minus sign before them, or by a truth value's word
abbrev pub SpellsElement : Base → List ℕ → ℤ → Type 0
SpellsElement Int w z = ((n : ℕ) × SpellsNumber w n × (z ≡ pos n)) ⊎ ((ds : List ℕ) × (n : ℕ) × (w ≡ 45 ∷ ds) × SpellsNumber ds n × (z ≡ neg_ℤ (pos n)))
SpellsElement Truth w z = ((w ≡ codes "true") × (z ≡ pos 1)) ⊎ ((w ≡ codes "false") × (z ≡ pos 0))

-- each of these words spells one of these
abbrev pub EachSpells : {X : Type 0} → (List ℕ → X → Type 0) → List (List ℕ) → List X → Type 0
EachSpells Spells [] [] = Unit {0}
EachSpells Spells (w ∷ ws) (x ∷ xs) = Spells w x × EachSpells Spells ws xs
EachSpells Spells [] (x ∷ xs) = ⊥
EachSpells Spells (w ∷ ws) [] = ⊥

-- words with commas between them
abbrev pub with_commas : List (List ℕ) → List Piece
with_commas [] = []
with_commas (w ∷ []) = Word w ∷ []
with_commas (w ∷ v ∷ ws) = Word w ∷ Comma ∷ with_commas (v ∷ ws)

-- a line has this form: its words and signs are the base, `[`, the extents with commas between them, `]`, `:` and the elements
pub record HasForm (line : List ℕ) (v : LineValue) : Type 0 where
  pub extents : List (List ℕ)
  pub elements : List (List ℕ)
  pub words : pieces line ≡ Word (base_text v.base) ∷ Open ∷ (with_commas extents ++ Close ∷ Colon ∷ map Word elements)
  pub extents_are : EachSpells SpellsNumber extents v.extents
  pub elements_are : EachSpells (SpellsElement v.base) elements v.elements
