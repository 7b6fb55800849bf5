-- When a run with a heap does what its core means.
use Rattle.std.specs.Prelude.{◌≡◌, ℕ, zero, suc, ◌+◌, ◌≤◌, cond, eqb, List, [], ◌∷◌, map, length, Ok, Err}
use Rattle.sac_base.specs.declared.site.Site.{Site}
use Rattle.sac_base.specs.Arrays.{ArrayValue}
use Rattle.sac_base.specs.Outcomes.{Ends}
use Rattle.core_ir.specs.declared.tree.Var.{Var}
use Rattle.core_ir.specs.Meaning.{Env, Answer, CallMeaning}
use Rattle.counted_code.specs.Values.{Buffer, Heap, Value, Small, Ref, Ended, Done, Failed, read, count_of, cells_of}
use Rattle.counted_code.specs.Machine.{Values, DoesCalls}

-- how many references to the buffer at a place a value is, and these values are together
abbrev pub refers : ℕ → Value → ℕ
refers b (Small a) = 0
refers b (Ref c base shape) = cond (eqb c b) 1 0

abbrev pub held : ℕ → List Value → ℕ
held b [] = 0
held b (v ∷ vs) = refers b v + held b vs

-- 1 where there is a reference at all
abbrev pub some : ℕ → ℕ
some zero = 0
some (suc n) = 1

-- how many buffers have references
abbrev pub live : List Buffer → ℕ
live [] = 0
live (x ∷ xs) = some x.count + live xs

-- each buffer that was taken was given back or has references
abbrev pub Balanced : Heap → Type 0
Balanced h = h.taken ≡ h.given + live h.buffers

-- each buffer's count is the number of references among these values, and of those that others hold; and no buffer was lost
abbrev pub Owns : Heap → List Value → (ℕ → ℕ) → Type 0
Owns h vs others = ((b : ℕ) → count_of h b ≡ held b vs + others b) × Balanced h

-- a value's buffer has a reference among those that are counted
abbrev pub Backed : (ℕ → ℕ) → Value → Type 0
Backed counts v = (b : ℕ) → refers b v ≤ counts b

abbrev pub AllBacked : (ℕ → ℕ) → Values → List Var → Type 0
AllBacked counts e [] = Unit {0}
AllBacked counts e (x ∷ xs) = Backed counts (e x) × AllBacked counts e xs

-- the variables stand for what the core's environment has
abbrev pub Shows : Heap → Values → Env → List Var → Type 0
Shows h e ρ [] = Unit {0}
Shows h e ρ (x ∷ xs) = (read h (e x) ≡ ρ x) × Shows h e ρ xs

-- buffers to which others hold references keep their cells
abbrev pub SameCells : (ℕ → ℕ) → Heap → Heap → Type 0
SameCells others h k = (b : ℕ) → 1 ≤ others b → cells_of k b ≡ cells_of h b

-- the run ends as the core does: with n values that stand for the core's and hold all references but the others', or with the same fault
abbrev pub Matches : ℕ → (ℕ → ℕ) → Heap → Ended (List Value) → Answer → Type 0
Matches n others h (Done vs k) (Ok ws) = (length vs ≡ n) × (map (read k) vs ≡ ws) × Owns k vs others × SameCells others h k
Matches n others h (Failed f phases) (Err g) = f ≡ g
Matches _ _ _ _ _ = ⊥

-- the same of one value
abbrev pub MatchesOne : (ℕ → ℕ) → Heap → Ended Value → Ends ArrayValue → Type 0
MatchesOne others h (Done v k) (Ok a) = (read k v ≡ a) × Owns k (v ∷ []) others × SameCells others h k
MatchesOne others h (Failed f phases) (Err g) = f ≡ g
MatchesOne _ _ _ _ = ⊥

-- the same of something that holds no references, where `holding` counts them all
abbrev pub MatchesPure : {A : Type 0} → (holding others : ℕ → ℕ) → Heap → Ended A → Ends A → Type 0
MatchesPure holding others h (Done a k) (Ok b) = (a ≡ b) × Owns k [] holding × SameCells others h k
MatchesPure holding others h (Failed f phases) (Err g) = f ≡ g
MatchesPure _ _ _ _ _ = ⊥

-- calls do what they mean, and take over their arguments' references
abbrev pub CallsMatch : (ℕ → ℕ) → DoesCalls → CallMeaning → Type 0
CallsMatch results_of does_calls calls =
    (g : ℕ) (vs : List Value) (s : Site) (h : Heap) (others : ℕ → ℕ) → Owns h vs others →
    Matches (results_of g) others h (does_calls g vs s h) (calls g (map (read h) vs) s)

-- no buffer is live at the end; after a fault there is no heap
abbrev pub LeavesNothing : Ended (List ArrayValue) → Type 0
LeavesNothing (Done ws h) = (b : ℕ) → count_of h b ≡ 0
LeavesNothing (Failed f phases) = Unit {0}

-- each buffer that was taken is given back at the end
abbrev pub GivesAllBack : Ended (List ArrayValue) → Type 0
GivesAllBack (Done ws h) = h.given ≡ h.taken
GivesAllBack (Failed f phases) = Unit {0}
