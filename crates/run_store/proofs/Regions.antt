-- Parts of arrays by the place where their cells begin.
use Rattle.std.proofs.Common.{◌≡◌, ℕ, ◌+◌, ◌≤◌, List, ℤ, Option, Some, Ok, length, take, drop, ap, sym, ◌∙◌}
use Rattle.sac_base.specs.declared.base.Base.{Base}
use Rattle.sac_base.specs.declared.site.Site.{Site}
use Rattle.sac_base.specs.Arrays.{ArrayValue, size}
use Rattle.sac_base.specs.Outcomes.{Ends, at_site}
use Rattle.sac_base.specs.Parts.{Part, part_at, selected}
use Rattle.sac_base.specs.Places.{place_of}
use Rattle.sac_base.proofs.RowMajor.{part_from_place}
use Rattle.run_store.specs.Selects.{part_of}

-- the part at the place that was found, which lies within the array
pub part_found : (ns : List ℕ) (is : List ℤ) (found : Option ℕ) (s : ℕ) → found ≡ Some s → found ≡ place_of ns is
    → (part_at ns is ≡ Some (record { start = s; shape = drop (length is) ns })) × (length is ≤ length ns) × (s + size (drop (length is) ns) ≤ size ns)
part_found ns is found s e h = part_from_place ns is s (sym h ∙ e)

-- the array of its cells is what the selection gives
pub part_is : (base : Base) (ns : List ℕ) (cells is : List ℤ) (site : Site) (s : ℕ) (rest : List ℕ) (part : ArrayValue)
    → part_at ns is ≡ Some (record { start = s; shape = drop (length is) ns }) → rest ≡ drop (length is) ns
    → part ≡ record { base = base; shape = rest; cells = take (size rest) (drop s cells) } → part_of base ns cells is site ≡ Ok part
part_is base ns cells is site s rest part at same e =
    let a : ArrayValue = record { base = base; shape = ns; cells = cells } in
    let turned : (xs : List ℕ) → Ends ArrayValue = λ xs. Ok (record { base = base; shape = xs; cells = take (size xs) (drop s cells) }) in
    ap (λ (o : Option Part). at_site site (selected a o)) at ∙ ap turned (sym same) ∙ (λ i. Ok (sym e i))
