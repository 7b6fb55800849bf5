-- The rows that the reader keeps say what the line's numbers say.
use Rattle.std.proofs.Common.{◌≡◌, ℕ, suc, ◌+◌, ◌<◌, ◌≤◌, nat_lt, Bool, true, false, not, ◌&&◌, ◌||◌, List, [], ◌∷◌, ◌++◌, map, length, length-append, refl, ap, sym, ◌∙◌, subst, Option, Some, None, Result, Err, ℤ, pos, arith, inl, inr, append_assoc, append-nil, lt-ltb, le-ltb, le-leb}
use Rattle.std.proofs.lemmas.List.{length-map}
use Rattle.std.proofs.lemmas.Bool.{lt-leb}
use Rattle.std.specs.Prelude.{if◌then◌else◌, ◌⊎◌, nat_le, option_map, option_and_then}
use Rattle.std.specs.List.{list_all}
use Rattle.std.proofs.lemmas.Bool.{cases_lt}
use Rattle.sac_base.specs.declared.base.Base.{Base}
use Rattle.sac_base.specs.Arrays.{ArrayValue, MOST}
use Rattle.sac_base.specs.Parts.{shape_of_numbers, naturals, short}
use Rattle.sac_base.proofs.Extents.{none_from_rank}
use Rattle.data_text.specs.declared.error.DataCode.{DataCode}
use Rattle.data_text.specs.declared.error.DataCode.TheVariants.{I3, I6}
use Rattle.data_text.specs.Pieces.{Piece, Word, Open, Comma, Close, Colon}
use Rattle.data_text.specs.Numbers.{numeral, element, in_range}
use Rattle.data_text.specs.Lines.{more_extents, extents_at, elements_at, colon_at, base_at, rest_at, line_at, judged, judged_form}
use Rattle.data_text.specs.Rows.{in_cell, keep, keep_extents, keep_shape, keep_elements, keep_colon, judged_sized, judged_short, judged_rows, judged_elements, judged_shape, judged_base, rows_value}

-- numbers kept one after another
abbrev keep_all : ℕ → Option (List ℤ) → List ℤ → Option (List ℤ)
keep_all most row [] = row
keep_all most row (z ∷ zs) = keep_all most (keep most row (in_cell z)) zs

abbrev kept_at : Bool → ℤ → Option ℤ
kept_at t z = if t then Some z else None

abbrev room_at : Bool → List ℤ → ℤ → List ℤ
room_at t ks z = if t then ks ++ z ∷ [] else ks

none_kept : (most : ℕ) (zs : List ℤ) → keep_all most None zs ≡ None
none_kept most [] = refl
none_kept most (z ∷ zs) = none_kept most zs

outside_at : (t : Bool) (most : ℕ) (ks : List ℤ) (z : ℤ) (zs : List ℤ) → in_range z ≡ t → (in_range z && list_all in_range zs) ≡ false → ((ts : List ℤ) → list_all in_range zs ≡ false → keep_all most (Some ts) zs ≡ None) → keep_all most (keep most (Some ks) (in_cell z)) zs ≡ None
outside_at true most ks z zs is out rest =
    ap (λ t. keep_all most (keep most (Some ks) (kept_at t z)) zs) is
    ∙ rest (room_at (nat_le (length ks) most) ks z) (ap (λ t. t && list_all in_range zs) (sym is) ∙ out)
outside_at false most ks z zs is out rest =
    ap (λ t. keep_all most (keep most (Some ks) (kept_at t z)) zs) is
    ∙ none_kept most zs

-- with one number out of range none are kept
some_outside : (most : ℕ) (ks zs : List ℤ) → list_all in_range zs ≡ false → keep_all most (Some ks) zs ≡ None
some_outside most ks [] out = absurd (cc)
some_outside most ks (z ∷ zs) out = outside_at (in_range z) most ks z zs refl out (λ ts. some_outside most ts zs)

and_true : (s t : Bool) → (s && t) ≡ true → (s ≡ true) × (t ≡ true)
and_true true t both = (refl, both)
and_true false t both = absurd (cc)

kept_room : (most : ℕ) (ks : List ℤ) (z : ℤ) → length ks ≤ most → in_range z ≡ true → keep most (Some ks) (in_cell z) ≡ Some (ks ++ z ∷ [])
kept_room most ks z room is =
    ap (λ t. keep most (Some ks) (kept_at t z)) is
    ∙ ap (λ t. Some (room_at t ks z)) (le-leb (length ks) most room)

kept_full : (most : ℕ) (ks : List ℤ) (z : ℤ) → most < length ks → in_range z ≡ true → keep most (Some ks) (in_cell z) ≡ Some ks
kept_full most ks z full is =
    ap (λ t. keep most (Some ks) (kept_at t z)) is
    ∙ ap (λ t. Some (room_at t ks z)) (lt-leb (length ks) most full)

one_longer : (ks : List ℤ) (z : ℤ) → length (ks ++ z ∷ []) ≡ length ks + 1
one_longer ks z = length-append ks (z ∷ [])

-- all numbers in range and not too many: they are kept
all_inside : (most : ℕ) (ks zs : List ℤ) → list_all in_range zs ≡ true → length ks + length zs ≤ most → keep_all most (Some ks) zs ≡ Some (ks ++ zs)
all_inside most ks [] inside few = ap Some (sym (append-nil ks))
all_inside most ks (z ∷ zs) inside few =
    let parts = and_true (in_range z) (list_all in_range zs) inside in
    let longer = one_longer ks z in
    ap (λ row. keep_all most row zs) (kept_room most ks z (omega arith) parts.0)
    ∙ all_inside most (ks ++ z ∷ []) zs parts.1 (omega arith)
    ∙ ap Some (append_assoc ks (z ∷ []) zs)

-- what is kept of so many numbers, and a proof that these are too many
abbrev TooMany : ℕ → Option (List ℤ) → Type 0
TooMany most row = (fs : List ℤ) × (row ≡ Some fs) × (most < length fs)

too_many_at : (most : ℕ) (ks : List ℤ) (z : ℤ) (zs : List ℤ) → (most < length ks) ⊎ (length ks ≤ most) → in_range z ≡ true → most < length ks + suc (length zs) → ((ts : List ℤ) → most < length ts + length zs → TooMany most (keep_all most (Some ts) zs)) → TooMany most (keep_all most (keep most (Some ks) (in_cell z)) zs)
too_many_at most ks z zs (inl full) is many rest =
    subst (λ row. TooMany most (keep_all most row zs)) (sym (kept_full most ks z full is)) (rest ks (omega arith))
too_many_at most ks z zs (inr room) is many rest =
    let longer = one_longer ks z in
    subst (λ row. TooMany most (keep_all most row zs)) (sym (kept_room most ks z room is)) (rest (ks ++ z ∷ []) (omega arith))

too_many : (most : ℕ) (ks zs : List ℤ) → list_all in_range zs ≡ true → most < length ks + length zs → TooMany most (keep_all most (Some ks) zs)
too_many most ks [] inside many = (ks, refl, omega arith)
too_many most ks (z ∷ zs) inside many =
    let parts = and_true (in_range z) (list_all in_range zs) inside in
    too_many_at most ks z zs (cases_lt most (length ks)) parts.0 many (λ ts more. too_many most ts zs parts.1 more)

-- ---- the rows of a line

abbrev ExtentsRead : Type 0
ExtentsRead = Option (List ℕ × List Piece)

abbrev kept_extents : Option (List ℤ) → ExtentsRead → Option (Option (List ℤ) × List Piece)
kept_extents row read = option_map (λ x. (keep_all 8 row (map pos x.0), x.1)) read

one_extent : (row : Option (List ℤ)) (n : ℕ) (m : ExtentsRead) → kept_extents (keep 8 row (in_cell (pos n))) m ≡ kept_extents row (option_map (λ x. (n ∷ x.0, x.1)) m)
one_extent row n None = refl
one_extent row n (Some x) = refl

comma_extents : (row : Option (List ℤ)) (o : Option ℕ) (ps : List Piece) → ((r : Option (List ℤ)) → keep_extents r ps ≡ kept_extents r (more_extents ps)) → option_and_then (λ z. keep_extents (keep 8 row z) ps) (option_map (λ n. in_cell (pos n)) o) ≡ kept_extents row (option_and_then (λ n. option_map (λ x. (n ∷ x.0, x.1)) (more_extents ps)) o)
comma_extents row None ps rest = refl
comma_extents row (Some n) ps rest = rest (keep 8 row (in_cell (pos n))) ∙ one_extent row n (more_extents ps)

close_extents : (row : Option (List ℤ)) (o : Option ℕ) (ps : List Piece) → option_map (λ z. (keep 8 row z, ps)) (option_map (λ n. in_cell (pos n)) o) ≡ kept_extents row (option_map (λ n. (n ∷ [], ps)) o)
close_extents row None ps = refl
close_extents row (Some n) ps = refl

extents_kept : (row : Option (List ℤ)) (ps : List Piece) → keep_extents row ps ≡ kept_extents row (more_extents ps)
extents_kept row (Word w ∷ Comma ∷ ps) = comma_extents row (numeral w) ps (λ r. extents_kept r ps)
extents_kept row (Word w ∷ Close ∷ ps) = close_extents row (numeral w) ps
extents_kept row [] = refl
extents_kept row (Word w ∷ []) = refl
extents_kept row (Word w ∷ Word v ∷ ps) = refl
extents_kept row (Word w ∷ Open ∷ ps) = refl
extents_kept row (Word w ∷ Colon ∷ ps) = refl
extents_kept row (Open ∷ ps) = refl
extents_kept row (Comma ∷ ps) = refl
extents_kept row (Close ∷ ps) = refl
extents_kept row (Colon ∷ ps) = refl

shape_kept : (ps : List Piece) → keep_shape ps ≡ kept_extents (Some []) (extents_at ps)
shape_kept (Close ∷ ps) = refl
shape_kept [] = refl
shape_kept (Word w ∷ ps) = extents_kept (Some []) (Word w ∷ ps)
shape_kept (Open ∷ ps) = refl
shape_kept (Comma ∷ ps) = refl
shape_kept (Colon ∷ ps) = refl

one_element : (row : Option (List ℤ)) (z : ℤ) (m : Option (List ℤ)) → option_map (keep_all MOST (keep MOST row (in_cell z))) m ≡ option_map (keep_all MOST row) (option_map (λ zs. z ∷ zs) m)
one_element row z None = refl
one_element row z (Some zs) = refl

word_element : (base : Base) (row : Option (List ℤ)) (o : Option ℤ) (ps : List Piece) → ((r : Option (List ℤ)) → keep_elements base r ps ≡ option_map (keep_all MOST r) (elements_at base ps)) → option_and_then (λ z. keep_elements base (keep MOST row z) ps) (option_map in_cell o) ≡ option_map (keep_all MOST row) (option_and_then (λ z. option_map (λ zs. z ∷ zs) (elements_at base ps)) o)
word_element base row None ps rest = refl
word_element base row (Some z) ps rest = rest (keep MOST row (in_cell z)) ∙ one_element row z (elements_at base ps)

elements_kept : (base : Base) (row : Option (List ℤ)) (ps : List Piece) → keep_elements base row ps ≡ option_map (keep_all MOST row) (elements_at base ps)
elements_kept base row [] = refl
elements_kept base row (Word w ∷ ps) = word_element base row (element base w) ps (λ r. elements_kept base r ps)
elements_kept base row (Open ∷ ps) = refl
elements_kept base row (Comma ∷ ps) = refl
elements_kept base row (Close ∷ ps) = refl
elements_kept base row (Colon ∷ ps) = refl

colon_kept : (base : Base) (ps : List Piece) → keep_colon base ps ≡ option_map (keep_all MOST (Some [])) (colon_at base ps)
colon_kept base [] = refl
colon_kept base (Colon ∷ ps) = elements_kept base (Some []) ps
colon_kept base (Word w ∷ ps) = refl
colon_kept base (Open ∷ ps) = refl
colon_kept base (Comma ∷ ps) = refl
colon_kept base (Close ∷ ps) = refl

-- ---- what is said of the rows

no_cells : (base line_base : Base) (row : Option (List ℤ)) → judged_rows base line_base row None ≡ Err I3
no_cells base line_base None = refl
no_cells base line_base (Some ns) = refl

-- what is said of a line by four tests: extents and elements are in range, and they are too many
abbrev judged_by : Base → Base → List ℕ → List ℤ → Bool → Bool → Bool → Bool → Result ArrayValue DataCode
judged_by base line_base ns zs p q s t = if not (p && q) then Err I3 else (if s || t then Err I6 else judged_sized base line_base ns zs)

naturals_back : (ns : List ℕ) → naturals (map pos ns) ≡ Some ns
naturals_back [] = refl
naturals_back (n ∷ ns) = ap (option_map (λ others. n ∷ others)) (naturals_back ns)

short_shape : (ns : List ℕ) → length ns ≤ 8 → shape_of_numbers (Some (map pos ns)) ≡ Some ns
short_shape ns few = ap short (naturals_back ns) ∙ ap (λ t. if t then Some ns else None) (le-leb (length ns) 8 few)

or_true : (s : Bool) → (s || true) ≡ true
or_true true = refl
or_true false = refl

abbrev Rows : Base → Base → List ℕ → List ℤ → Result ArrayValue DataCode
Rows base line_base ns zs = judged_rows base line_base (keep_all 8 (Some []) (map pos ns)) (keep_all MOST (Some []) zs)

some_row : (most : ℕ) (zs : List ℤ) → list_all in_range zs ≡ true → (most < length zs) ⊎ (length zs ≤ most) → (fs : List ℤ) × (keep_all most (Some []) zs ≡ Some fs)
some_row most zs inside (inl many) = let t = too_many most [] zs inside (omega arith) in (t.0, t.1)
some_row most zs inside (inr few) = (zs, all_inside most [] zs inside (omega arith))

inside_both : (base line_base : Base) (ns : List ℕ) (zs : List ℤ) → list_all in_range (map pos ns) ≡ true → list_all in_range zs ≡ true → (8 < length ns) ⊎ (length ns ≤ 8) → (MOST < length zs) ⊎ (length zs ≤ MOST) → Rows base line_base ns zs ≡ judged_by base line_base ns zs true true (nat_lt 8 (length ns)) (nat_lt MOST (length zs))
inside_both base line_base ns zs p q ranks (inl many) =
    let t = too_many MOST [] zs q (omega arith) in
    let e = some_row 8 (map pos ns) p (cases_lt 8 (length (map pos ns))) in
    (λ i. judged_rows base line_base (e.1 i) (t.1 i))
    ∙ ap (λ b. if b then Err I6 else judged_short base line_base (shape_of_numbers (Some e.0)) t.0) (lt-ltb MOST (length t.0) t.2)
    ∙ ap (λ b. if b then Err I6 else judged_sized base line_base ns zs) (sym (or_true (nat_lt 8 (length ns))))
    ∙ ap (λ b. judged_by base line_base ns zs true true (nat_lt 8 (length ns)) b) (sym (lt-ltb MOST (length zs) many))
inside_both base line_base ns zs p q (inl many) (inr few) =
    let same = length-map ns pos in
    let t = too_many 8 [] (map pos ns) p (omega arith) in
    (λ i. judged_rows base line_base (t.1 i) (all_inside MOST [] zs q (omega arith) i))
    ∙ ap (λ b. if b then Err I6 else judged_short base line_base (shape_of_numbers (Some t.0)) zs) (le-ltb MOST (length zs) few)
    ∙ ap (λ o. judged_short base line_base o zs) (none_from_rank t.0 t.2)
    ∙ ap (λ b. judged_by base line_base ns zs true true b (nat_lt MOST (length zs))) (sym (lt-ltb 8 (length ns) many))
inside_both base line_base ns zs p q (inr low) (inr few) =
    let same = length-map ns pos in
    (λ i. judged_rows base line_base (all_inside 8 [] (map pos ns) p (omega arith) i) (all_inside MOST [] zs q (omega arith) i))
    ∙ ap (λ b. if b then Err I6 else judged_short base line_base (shape_of_numbers (Some (map pos ns))) zs) (le-ltb MOST (length zs) few)
    ∙ ap (λ o. judged_short base line_base o zs) (short_shape ns low)
    ∙ (λ i. judged_by base line_base ns zs true true (sym (le-ltb 8 (length ns) low) i) (sym (le-ltb MOST (length zs) few) i))

judged_tests : (p q : Bool) (base line_base : Base) (ns : List ℕ) (zs : List ℤ) → list_all in_range (map pos ns) ≡ p → list_all in_range zs ≡ q → Rows base line_base ns zs ≡ judged_by base line_base ns zs p q (nat_lt 8 (length ns)) (nat_lt MOST (length zs))
judged_tests false q base line_base ns zs p_is q_is = ap (λ row. judged_rows base line_base row (keep_all MOST (Some []) zs)) (some_outside 8 [] (map pos ns) p_is)
judged_tests true false base line_base ns zs p_is q_is =
    ap (λ row. judged_rows base line_base (keep_all 8 (Some []) (map pos ns)) row) (some_outside MOST [] zs q_is)
    ∙ no_cells base line_base (keep_all 8 (Some []) (map pos ns))
judged_tests true true base line_base ns zs p_is q_is = inside_both base line_base ns zs p_is q_is (cases_lt 8 (length ns)) (cases_lt MOST (length zs))

judged_is : (base line_base : Base) (ns : List ℕ) (zs : List ℤ) → Rows base line_base ns zs ≡ judged base (record { base = line_base; extents = ns; elements = zs })
judged_is base line_base ns zs = judged_tests (list_all in_range (map pos ns)) (list_all in_range zs) base line_base ns zs refl refl

elements_are : (base line_base : Base) (ns : List ℕ) (m : Option (List ℤ)) → judged_elements base line_base (keep_all 8 (Some []) (map pos ns)) (option_map (keep_all MOST (Some [])) m) ≡ judged_form base (option_map (λ zs. record { base = line_base; extents = ns; elements = zs }) m)
elements_are base line_base ns None = refl
elements_are base line_base ns (Some zs) = judged_is base line_base ns zs

shape_is : (base line_base : Base) (m : ExtentsRead) → judged_shape base line_base (kept_extents (Some []) m) ≡ judged_form base (option_and_then (λ x. option_map (λ zs. record { base = line_base; extents = x.0; elements = zs }) (colon_at line_base x.1)) m)
shape_is base line_base None = refl
shape_is base line_base (Some x) =
    ap (judged_elements base line_base (keep_all 8 (Some []) (map pos x.0))) (colon_kept line_base x.1)
    ∙ elements_are base line_base x.0 (colon_at line_base x.1)

base_is : (base : Base) (o : Option (Base × List Piece)) → judged_base base o ≡ judged_form base (option_and_then (λ x. rest_at x.0 x.1) o)
base_is base None = refl
base_is base (Some x) = ap (judged_shape base x.0) (shape_kept x.1) ∙ shape_is base x.0 (extents_at x.1)

-- the reader's parts of a line give what the line gives
pub rows_are : (base : Base) (ps : List Piece) → rows_value base ps ≡ judged_form base (line_at ps)
rows_are base ps = base_is base (base_at ps)
