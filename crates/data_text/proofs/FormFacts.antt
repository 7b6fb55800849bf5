-- What is read has the form of a line.
use Rattle.std.proofs.Common.{◌≡◌, ◌==◌, ℕ, Bool, true, false, not, ◌&&◌, List, [], ◌∷◌, ◌++◌, map, length, refl, ap, sym, ◌∙◌, subst, Option, Some, None, ℤ, pos, neg_ℤ, inl, inr, arith, eqb-true}
use Rattle.std.specs.Prelude.{if◌then◌else◌, option_map, option_and_then, codes, bytes_eq}
use Rattle.std.specs.Str.{all_ascii_digits}
use Rattle.std.proofs.lemmas.Bool.Decides.{nat_tests}
use Rattle.std.proofs.lemmas.Slice.Eq.{bytes_eq-Decides}
use Rattle.sac_base.specs.declared.base.Base.{Base}
use Rattle.sac_base.specs.declared.base.Base.TheVariants.{Int, Bool as Truth}
use Rattle.data_text.specs.Pieces.{Piece, Word, Open, Comma, Close, Colon, pieces}
use Rattle.data_text.specs.Numbers.{value_after, is_numeral, numeral, element, base_text, base_named}
use Rattle.data_text.specs.Lines.{LineValue, more_extents, extents_at, elements_at, colon_at, base_at, rest_at, line_at}
use Rattle.data_text.specs.Spelled.{SpellsNumber, SpellsElement, EachSpells, with_commas, HasForm}

map_some : {A B : Type 0} (f : A → B) (o : Option A) (y : B) → option_map f o ≡ Some y → (x : A) × (o ≡ Some x) × (f x ≡ y)
map_some f None y is = absurd (cc)
map_some f (Some x) y is = (x, refl, cc)

then_some : {A B : Type 0} (f : A → Option B) (o : Option A) (y : B) → option_and_then f o ≡ Some y → (x : A) × (o ≡ Some x) × (f x ≡ Some y)
then_some f None y is = absurd (cc)
then_some f (Some x) y is = (x, refl, is)

both_true : (s t : Bool) → (s && t) ≡ true → (s ≡ true) × (t ≡ true)
both_true true t both = (refl, both)
both_true false t both = absurd (cc)

numeral_at : (t : Bool) (w : List ℕ) (n : ℕ) → is_numeral w ≡ t → (if t then Some (value_after 0 w) else None) ≡ Some n → SpellsNumber w n
numeral_at false w n is found = absurd (cc)
numeral_at true w n is found =
    let parts = both_true (not (length w == 0)) (all_ascii_digits w) is in
    let full : not (length w == 0) ≡ true = parts.0 in
    record { some = grind (arith, nat_tests); digits = parts.1; value = cc }

number_read : (w : List ℕ) (n : ℕ) → numeral w ≡ Some n → SpellsNumber w n
number_read w n found = numeral_at (is_numeral w) w n refl found

integer_at : (t : Bool) (b : ℕ) (bs : List ℕ) (z : ℤ) → (b == 45) ≡ t → (if t then option_map (λ n. neg_ℤ (pos n)) (numeral bs) else option_map pos (numeral (b ∷ bs))) ≡ Some z → SpellsElement Int (b ∷ bs) z
integer_at true b bs z is found =
    let m = map_some (λ n. neg_ℤ (pos n)) (numeral bs) z found in
    inr (bs, m.0, ap (λ c. c ∷ bs) (eqb-true b 45 is), number_read bs m.0 m.1, sym m.2)
integer_at false b bs z is found =
    let m = map_some pos (numeral (b ∷ bs)) z found in
    inl (m.0, number_read (b ∷ bs) m.0 m.1, sym m.2)

truth_at : (s t : Bool) (w : List ℕ) (z : ℤ) → bytes_eq w (codes "true") ≡ s → bytes_eq w (codes "false") ≡ t → (if s then Some (pos 1) else (if t then Some (pos 0) else None)) ≡ Some z → SpellsElement Truth w z
truth_at true t w z is_true is_false found = inl ((bytes_eq-Decides w (codes "true")).0 is_true, cc)
truth_at false true w z is_true is_false found = inr ((bytes_eq-Decides w (codes "false")).0 is_false, cc)
truth_at false false w z is_true is_false found = absurd (cc)

element_read : (base : Base) (w : List ℕ) (z : ℤ) → element base w ≡ Some z → SpellsElement base w z
element_read Int [] z found = absurd (cc)
element_read Int (b ∷ bs) z found = integer_at (b == 45) b bs z refl found
element_read Truth w z found = truth_at (bytes_eq w (codes "true")) (bytes_eq w (codes "false")) w z refl refl found

base_read_at : (s t : Bool) (w : List ℕ) (base : Base) → bytes_eq w (codes "int") ≡ s → bytes_eq w (codes "bool") ≡ t → (if s then Some Int else (if t then Some Truth else None)) ≡ Some base → w ≡ base_text base
base_read_at true t w base is_int is_bool found =
    let same : Int ≡ base = cc in
    (bytes_eq-Decides w (codes "int")).0 is_int ∙ ap base_text same
base_read_at false true w base is_int is_bool found =
    let same : Truth ≡ base = cc in
    (bytes_eq-Decides w (codes "bool")).0 is_bool ∙ ap base_text same
base_read_at false false w base is_int is_bool found = absurd (cc)

base_read : (w : List ℕ) (base : Base) → base_named w ≡ Some base → w ≡ base_text base
base_read w base found = base_read_at (bytes_eq w (codes "int")) (bytes_eq w (codes "bool")) w base refl refl found

-- pieces that begin with extents and a `]`
record AreExtents (ps : List Piece) (x : List ℕ × List Piece) : Type 0 where
  words : List (List ℕ)
  are : ps ≡ with_commas words ++ Close ∷ x.1
  each : EachSpells SpellsNumber words x.0

-- the same with a first extent
record AreMore (ps : List Piece) (x : List ℕ × List Piece) : Type 0 where
  first : List ℕ
  words : List (List ℕ)
  are : ps ≡ with_commas (first ∷ words) ++ Close ∷ x.1
  each : EachSpells SpellsNumber (first ∷ words) x.0

comma_read : (w : List ℕ) (n : ℕ) (ps : List Piece) (x : List ℕ × List Piece) → SpellsNumber w n → AreMore ps x → AreMore (Word w ∷ Comma ∷ ps) (n ∷ x.0, x.1)
comma_read w n ps x s more = record {
  first = w;
  words = more.first ∷ more.words;
  are = ap (λ qs. Word w ∷ Comma ∷ qs) more.are;
  each = (s, more.each);
}

more_read : (ps : List Piece) (x : List ℕ × List Piece) → more_extents ps ≡ Some x → AreMore ps x
more_read (Word w ∷ Comma ∷ ps) x found =
    let n = then_some (λ k. option_map (λ y. (k ∷ y.0, y.1)) (more_extents ps)) (numeral w) x found in
    let m = map_some (λ y. (n.0 ∷ y.0, y.1)) (more_extents ps) x n.2 in
    subst (λ (y : List ℕ × List Piece). AreMore (Word w ∷ Comma ∷ ps) y) m.2 (comma_read w n.0 ps m.0 (number_read w n.0 n.1) (more_read ps m.0 m.1))
more_read (Word w ∷ Close ∷ ps) x found =
    let m = map_some (λ n. (n ∷ [], ps)) (numeral w) x found in
    subst (λ (y : List ℕ × List Piece). AreMore (Word w ∷ Close ∷ ps) y) m.2 (record { first = w; words = []; are = refl; each = (number_read w m.0 m.1, tt) })
more_read [] x found = absurd (cc)
more_read (Word w ∷ []) x found = absurd (cc)
more_read (Word w ∷ Word v ∷ ps) x found = absurd (cc)
more_read (Word w ∷ Open ∷ ps) x found = absurd (cc)
more_read (Word w ∷ Colon ∷ ps) x found = absurd (cc)
more_read (Open ∷ ps) x found = absurd (cc)
more_read (Comma ∷ ps) x found = absurd (cc)
more_read (Close ∷ ps) x found = absurd (cc)
more_read (Colon ∷ ps) x found = absurd (cc)

with_first : (ps : List Piece) (x : List ℕ × List Piece) → AreMore ps x → AreExtents ps x
with_first ps x more = record { words = more.first ∷ more.words; are = more.are; each = more.each }

extents_read : (ps : List Piece) (x : List ℕ × List Piece) → extents_at ps ≡ Some x → AreExtents ps x
extents_read (Close ∷ ps) x found =
    let same : ([], ps) ≡ x = cc in
    subst (λ (y : List ℕ × List Piece). AreExtents (Close ∷ ps) y) same (record { words = []; are = refl; each = tt })
extents_read [] x found = absurd (cc)
extents_read (Word w ∷ ps) x found = with_first (Word w ∷ ps) x (more_read (Word w ∷ ps) x found)
extents_read (Open ∷ ps) x found = absurd (cc)
extents_read (Comma ∷ ps) x found = absurd (cc)
extents_read (Colon ∷ ps) x found = absurd (cc)

-- pieces that are elements alone
record AreElements (base : Base) (ps : List Piece) (zs : List ℤ) : Type 0 where
  words : List (List ℕ)
  are : ps ≡ map Word words
  each : EachSpells (SpellsElement base) words zs

elements_read : (base : Base) (ps : List Piece) (zs : List ℤ) → elements_at base ps ≡ Some zs → AreElements base ps zs
elements_read base [] zs found =
    let same : [] ≡ zs = cc in
    subst (λ (ys : List ℤ). AreElements base [] ys) same (record { words = []; are = refl; each = tt })
elements_read base (Word w ∷ ps) zs found =
    let z = then_some (λ y. option_map (λ ys. y ∷ ys) (elements_at base ps)) (element base w) zs found in
    let m = map_some (λ ys. z.0 ∷ ys) (elements_at base ps) zs z.2 in
    let rest = elements_read base ps m.0 m.1 in
    subst (λ (ys : List ℤ). AreElements base (Word w ∷ ps) ys) m.2 (record { words = w ∷ rest.words; are = ap (λ qs. Word w ∷ qs) rest.are; each = (element_read base w z.0 z.1, rest.each) })
elements_read base (Open ∷ ps) zs found = absurd (cc)
elements_read base (Comma ∷ ps) zs found = absurd (cc)
elements_read base (Close ∷ ps) zs found = absurd (cc)
elements_read base (Colon ∷ ps) zs found = absurd (cc)

-- pieces from the `:` on
record AreBehind (base : Base) (ps : List Piece) (zs : List ℤ) : Type 0 where
  words : List (List ℕ)
  are : ps ≡ Colon ∷ map Word words
  each : EachSpells (SpellsElement base) words zs

colon_read : (base : Base) (ps : List Piece) (zs : List ℤ) → colon_at base ps ≡ Some zs → AreBehind base ps zs
colon_read base (Colon ∷ ps) zs found = let e = elements_read base ps zs found in record { words = e.words; are = ap (λ qs. Colon ∷ qs) e.are; each = e.each }
colon_read base [] zs found = absurd (cc)
colon_read base (Word w ∷ ps) zs found = absurd (cc)
colon_read base (Open ∷ ps) zs found = absurd (cc)
colon_read base (Comma ∷ ps) zs found = absurd (cc)
colon_read base (Close ∷ ps) zs found = absurd (cc)

-- the base and the `[`
record IsBase (ps : List Piece) (x : Base × List Piece) : Type 0 where
  are : ps ≡ Word (base_text x.0) ∷ Open ∷ x.1

base_there : (ps : List Piece) (x : Base × List Piece) → base_at ps ≡ Some x → IsBase ps x
base_there (Word w ∷ Open ∷ ps) x found =
    let m = map_some (λ base. (base, ps)) (base_named w) x found in
    subst (λ (y : Base × List Piece). IsBase (Word w ∷ Open ∷ ps) y) m.2 (record { are = ap (λ v. Word v ∷ Open ∷ ps) (base_read w m.0 m.1) })
base_there [] x found = absurd (cc)
base_there (Word w ∷ []) x found = absurd (cc)
base_there (Word w ∷ Word v ∷ ps) x found = absurd (cc)
base_there (Word w ∷ Comma ∷ ps) x found = absurd (cc)
base_there (Word w ∷ Close ∷ ps) x found = absurd (cc)
base_there (Word w ∷ Colon ∷ ps) x found = absurd (cc)
base_there (Open ∷ ps) x found = absurd (cc)
base_there (Comma ∷ ps) x found = absurd (cc)
base_there (Close ∷ ps) x found = absurd (cc)
base_there (Colon ∷ ps) x found = absurd (cc)

abbrev value_of : Base → List ℕ → List ℤ → LineValue
value_of base ns zs = record { base = base; extents = ns; elements = zs }

-- what is read has the form
pub read_form : (line : List ℕ) (v : LineValue) → line_at (pieces line) ≡ Some v → HasForm line v
read_form line v found =
    let b = then_some (λ (x : Base × List Piece). rest_at x.0 x.1) (base_at (pieces line)) v found in
    let base = b.0.0 in
    let e = then_some (λ (x : List ℕ × List Piece). option_map (λ zs. value_of base x.0 zs) (colon_at base x.1)) (extents_at b.0.1) v b.2 in
    let z = map_some (λ zs. value_of base e.0.0 zs) (colon_at base e.0.1) v e.2 in
    let start = base_there (pieces line) b.0 b.1 in
    let shape = extents_read b.0.1 e.0 e.1 in
    let behind = colon_read base e.0.1 z.0 z.1 in
    subst (λ (y : LineValue). HasForm line y) z.2 (record {
      extents = shape.words;
      elements = behind.words;
      words = start.are ∙ ap (λ qs. Word (base_text base) ∷ Open ∷ qs) (shape.are ∙ ap (λ qs. with_commas shape.words ++ Close ∷ qs) behind.are);
      extents_are = shape.each;
      elements_are = behind.each;
    })
