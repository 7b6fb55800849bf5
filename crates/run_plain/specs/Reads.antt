-- What right sides without blocks and calls tell of the machine.
use Rattle.std.specs.Prelude.{◌≡◌, ℕ, List, [], ◌∷◌, Result, Ok, Err, map, ⊤}
use Rattle.core_ir.specs.declared.tree.Var.{Var}
use Rattle.sac_base.specs.declared.site.Site.{Site}
use Rattle.sac_base.specs.Arrays.{ArrayValue, scalar}
use Rattle.sac_base.specs.declared.op.Op.{Op}
use Rattle.sac_base.specs.Operators.{binary}
use Rattle.sac_base.specs.Outcomes.{Ends, at_site}
use Rattle.sac_base.specs.Parts.{literal, replace, reshape}
use Rattle.run_store.specs.declared.store.Store.{Store}
use Rattle.counted_code.specs.Terms.{CodeRightTerm, PlainCode}
use Rattle.counted_code.specs.Values.{Heap, Value, Small, Ended, Done, Failed, read}
use Rattle.counted_code.specs.Machine.{Values, DoesCalls, plain_does, right_does}
use Rattle.sac_base.specs.declared.stop.Stop.{Stop}
use Rattle.sac_base.specs.declared.stop.Stop.TheVariants.{Faulted, Memory}
use Rattle.run_store.specs.Stands.{Stands}
use Rattle.run_values.specs.declared.value.RunValue.{RunValue}
use Rattle.run_values.specs.declared.value.Word.{Word}
use Rattle.run_values.specs.Shown.{value_of}

-- the arrays of variables
abbrev pub arrays_of : Heap → Values → List Var → List ArrayValue
arrays_of m e xs = map (λ x. read m (e x)) xs

-- what operations on values mean: operators, literals, and the array under another shape or with another part
abbrev pub binary_in : Heap → Op → RunValue → RunValue → Site → Ends ArrayValue
binary_in m op a b site = at_site site (binary op (read m (value_of a)) (read m (value_of b)))

abbrev pub literal_in : Heap → Values → List Var → Site → Ends ArrayValue
literal_in m e xs site = at_site site (literal (arrays_of m e xs))

abbrev pub reshaped_in : Heap → RunValue → RunValue → Site → Ends ArrayValue
reshaped_in m shape array site = at_site site (reshape (read m (value_of shape)) (read m (value_of array)))

abbrev pub replaced_in : Heap → RunValue → RunValue → RunValue → Site → Ends ArrayValue
replaced_in m array index part site = at_site site (replace (read m (value_of array)) (read m (value_of index)) (read m (value_of part)))

-- the answer is the machine's end: its value, in whose heap the heap stands, or its fault, with the phases as they were; want of memory says nothing
abbrev pub TellsEnd : Result RunValue Stop → Store → List ℕ → Ended Value → Type 0
TellsEnd (Ok v) h phases (Done w k) = (value_of v ≡ w) × Stands h k × (k.phases ≡ phases)
TellsEnd (Err (Faulted f)) h phases (Failed g after) = (f ≡ g) × (after ≡ phases)
TellsEnd (Err Memory) h phases m = ⊤
TellsEnd _ _ _ _ = ⊥

-- this of a right side that has no block and no call; of any other nothing is said
abbrev pub TellsPlain : CodeRightTerm → Site → Values → Result RunValue Stop → Store → Heap → Type 0
TellsPlain (PlainCode p) s e result h m = TellsEnd result h m.phases (plain_does p s e m)
TellsPlain _ s e result h m = ⊤

-- the value itself, or the fault that is meant
abbrev pub TellsChecked : Result RunValue Stop → RunValue → Ends ArrayValue → Type 0
TellsChecked (Ok v) value (Ok a) = v ≡ value
TellsChecked (Err (Faulted f)) value (Err g) = f ≡ g
TellsChecked _ _ _ = ⊥

-- the right side is this scalar, in every heap, which it leaves as it is
abbrev pub IsScalarOf : CodeRightTerm → Values → Word → Type 0
IsScalarOf r e w =
    (calls : DoesCalls) (turns : ℕ) (s : Site) (m : Heap) → right_does calls turns r s e m ≡ Done (Small (scalar w.base w.number) ∷ []) m

-- a right side that has no block and no call
abbrev pub IsPlain : CodeRightTerm → Type 0
IsPlain (PlainCode p) = ⊤
IsPlain _ = ⊥
