-- Tables that stand in one buffer, row after row.
use Rattle.std.specs.Prelude.{◌≡◌, ℕ, ◌+◌, ◌*◌, ℤ, List, Bool, false, cond, nat_lt, take, drop, slice_index, slice_index_or, Option, Some, None}
use Rattle.std.specs.Global.{Vec}
use Rattle.sac_base.specs.declared.op.Op.{Op}
use Rattle.wl_core.specs.Machine.{put, both, combine}

-- rows of one width
pub record RowsValue : Type 0 where
  pub width : ℕ
  pub count : ℕ
  pub cells : List ℤ

abbrev pub row_of : RowsValue → ℕ → List ℤ
row_of rows p = take rows.width (drop (p * rows.width) rows.cells)

-- one row has another value
pub record PutsRow (old new : RowsValue) (index : ℕ) (value : List ℤ) : Type 0 where
  pub width : new.width ≡ old.width
  pub count : new.count ≡ old.count
  pub rows : row_of new ≡ put (row_of old) index value

-- how often each worker holds each buffer
pub record HoldsValue : Type 0 where
  pub workers : ℕ
  pub buffers : ℕ
  pub numbers : List ℕ

abbrev pub times_of : HoldsValue → ℕ → ℕ → ℕ
times_of holds w b = cond (nat_lt b holds.buffers) (slice_index holds.numbers (w * holds.buffers + b)) 0

-- the worker holds the buffer so many times
pub record SetsTimes (old new : HoldsValue) (w b n : ℕ) : Type 0 where
  pub workers : new.workers ≡ old.workers
  pub buffers : new.buffers ≡ old.buffers
  pub times : times_of new ≡ put (times_of old) w (put (times_of old w) b n)

-- a partial value for each worker that has one
pub record PartialsValue : Type 0 where
  pub started : List Bool
  pub rows : RowsValue

abbrev pub partial_of : PartialsValue → ℕ → Option (List ℤ)
partial_of partials w = cond (slice_index_or partials.started w false) (Some (row_of partials.rows w)) None

-- a worker's partial value takes one value more
pub record AddsValue (old new : PartialsValue) (w : ℕ) (op : Op) (value : List ℤ) : Type 0 where
  pub width : new.rows.width ≡ old.rows.width
  pub count : new.rows.count ≡ old.rows.count
  pub partials : partial_of new ≡ put (partial_of old) w (both (combine op) (partial_of old w) (Some value))

abbrev pub items_of : Option (Vec ℤ) → Option (List ℤ)
items_of None = None
items_of (Some value) = Some value.items
