-- The test that a known shape is a shape.
use Rattle.std.proofs.Common.{◌≡◌, ℕ, ◌<◌, ◌^◌, Bool, true, false, ◌&&◌, List, length, refl, All}
use Rattle.std.specs.Prelude.{nat_lt, nat_le, Decides}
use Rattle.std.specs.List.{list_all}
use Rattle.std.proofs.lemmas.Bool.Decides.{Decides-ltb, Decides-by_and}
use Rattle.std.proofs.lemmas.Bool.{leb-true, le-leb}
use Rattle.sac_base.specs.Shapes.{IsShape}
use Rattle.core_facts.specs.Facts.{is_shape}

small_extents : (s : List ℕ) → Decides (list_all (λ n. nat_lt n 2147483648) s) (All (λ n. n < 2 ^ 31) s)
small_extents s = Decides-by_and (λ n. nat_lt n 2147483648) (λ n. n < 2 ^ 31) (λ ns. list_all (λ n. nat_lt n 2147483648) ns) (λ n. Decides-ltb n 2147483648) refl (λ n ns. refl) s

both_hold : (b c : Bool) → (b && c) ≡ true → (b ≡ true) × (c ≡ true)
both_hold true c h = (refl, h)
both_hold false c h = absurd (cc)

pub is_shape_decides : (s : List ℕ) → Decides (is_shape s) (IsShape s)
is_shape_decides s =
    let d = small_extents s in (
      λ p. let w = both_hold (nat_le (length s) 8) (list_all (λ n. nat_lt n 2147483648) s) p in record { rank = leb-true (length s) 8 w.0; each = d.0 w.1 },
      λ h. λ i. le-leb (length s) 8 h.rank i && d.1 h.each i,
    )
