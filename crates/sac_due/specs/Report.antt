-- The report of a run.
use Rattle.std.specs.Prelude.{ℕ, Bool, true, false, List, [], ◌++◌, codes}
use Rattle.std.specs.Fmt.{decimal}

-- how many with-loops were folded and merged, how many buffers were taken, given back and reused, and how many phases there were
pub record Numbers : Type 0 where
  pub folded : ℕ
  pub scalarised : ℕ
  pub taken : ℕ
  pub given : ℕ
  pub reused : ℕ
  pub phases : ℕ

-- a word and its number
abbrev pub numbered : List ℕ → ℕ → List ℕ
numbered word number = word ++ decimal number ++ codes "\n"

abbrev pub report_lines : Numbers → List ℕ
report_lines n =
    numbered (codes "folded ") n.folded ++ numbered (codes "scalarised ") n.scalarised ++ numbered (codes "taken ") n.taken
    ++ numbered (codes "given ") n.given ++ numbered (codes "reused ") n.reused ++ numbered (codes "phases ") n.phases

-- the report, where it is asked for
abbrev pub report_text : Bool → Numbers → List ℕ
report_text false n = []
report_text true n = report_lines n
