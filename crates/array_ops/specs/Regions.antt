-- Where the cells of a part of an array lie.
use Rattle.std.specs.Prelude.{◌≡◌, ℕ, ◌+◌, ◌≤◌, Option, Some, None}
use Rattle.sac_base.specs.Arrays.{size}
use Rattle.sac_base.specs.Parts.{Part}
use Rattle.array_ops.specs.declared.parts.Region.{Region}

-- the region is that of the part, within so many cells
abbrev pub IsRegion : Option Region → Option Part → ℕ → Type 0
IsRegion None part cells = part ≡ None
IsRegion (Some region) part cells =
    (part ≡ Some (record { start = region.start; shape = region.shape })) × (region.end ≡ region.start + size region.shape) × (region.end ≤ cells)
