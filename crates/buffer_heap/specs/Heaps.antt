-- What a contract sees of a heap: at each place nothing or a live buffer, the number of the next one, and three counters.
use Rattle.std.specs.Prelude.{◌≡◌, ◌<◌, ℕ, zero, suc, ◌+◌, ◌%◌, ◌^◌, List, [], ℤ, Option, Some, None, IsSomeAnd, length, slice_index_or, slice_set}
use Rattle.sac_base.specs.declared.limits.TheConstants.{MOST_REFERENCES}

-- the cells of a buffer that is in, or the number of cells of one that is out
pub data Content : Type 0 where
  In : List ℤ → Content
  Out : ℕ → Content

-- a live buffer: its number, how many references lead to it, and what it has
pub record Held : Type 0 where
  pub born : ℕ
  pub count : ℕ
  pub content : Content

pub record HeapValue : Type 0 where
  pub places : List (Option Held)
  -- the number of the next buffer
  pub births : ℕ
  pub taken : ℕ
  pub given : ℕ
  pub reused : ℕ

-- what stands at a place
abbrev pub at : HeapValue → ℕ → Option Held
at h b = slice_index_or h.places b None

-- a live buffer stands there that meets this
abbrev pub IsLive : HeapValue → ℕ → (Held → Type 0) → Type 0
IsLive h b Meets = IsSomeAnd (at h b) Meets

-- the buffer is in
abbrev pub IsIn : Held → Type 0
IsIn x = elim x.content [ In cells ↦ Unit {0} | Out len ↦ ⊥ ]

-- the buffer is in, and has one reference
abbrev pub IsInAndSole : Held → Type 0
IsInAndSole x = IsIn x × (x.count ≡ 1)

-- the buffer of this number is in
abbrev pub IsNamed : ℕ → Held → Type 0
IsNamed born x = IsIn x × (x.born ≡ born)

-- the buffer of this number is in, and may have one reference more
abbrev pub HasRoom : ℕ → Held → Type 0
HasRoom born x = IsIn x × (x.born ≡ born) × (x.count < MOST_REFERENCES)

-- the buffer is in, and may have one reference more
abbrev pub MayBeKept : Held → Type 0
MayBeKept x = IsIn x × (x.count < MOST_REFERENCES)

-- the buffer of this number is out, with so many cells
abbrev pub IsLifted : ℕ → ℕ → Held → Type 0
IsLifted born len x = (x.content ≡ Out len) × (x.born ≡ born)

-- how many cells the buffer has
abbrev pub len_of : Content → ℕ
len_of (In cells) = length cells
len_of (Out len) = len

-- the heap with something else at one place
abbrev pub with_place : HeapValue → ℕ → Option Held → HeapValue
with_place h b x = record h { places = slice_set h.places b x }

abbrev pub with_count : Option Held → ℕ → Option Held
with_count None n = None
with_count (Some x) n = Some (record x { count = n })

abbrev pub with_content : Option Held → Content → Option Held
with_content None content = None
with_content (Some x) content = Some (record x { content = content })

abbrev pub count_of : Option Held → ℕ
count_of None = 0
count_of (Some x) = x.count

-- what the buffer has there, and no cells where there is none
abbrev pub content_of : Option Held → Content
content_of None = In []
content_of (Some x) = x.content

-- the heap whose buffer at a place is out
abbrev pub lifted : HeapValue → ℕ → HeapValue
lifted h b = with_place h b (with_content (at h b) (Out (len_of (content_of (at h b)))))

-- one reference less at a place that has so many: with the last one the buffer is gone, and one more was given back
abbrev pub released_at : ℕ → HeapValue → ℕ → HeapValue
released_at zero h b = h
released_at (suc zero) h b = record (with_place h b None) { given = (h.given + 1) % 2 ^ 64 }
released_at (suc (suc n)) h b = with_place h b (with_count (at h b) (suc n))

abbrev pub released : HeapValue → ℕ → HeapValue
released h b = released_at (count_of (at h b)) h b
