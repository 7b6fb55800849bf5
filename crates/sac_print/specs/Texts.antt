-- Texts of tokens, and how they are written one behind the other.
use Rattle.std.specs.Prelude.{ℕ, zero, suc, ◌≡◌, ◌||◌, List, [], ◌∷◌, ◌++◌, if◌then◌else◌, codes, OnOk, Result}
use Rattle.std.specs.Str.{bytes_eq}
use Rattle.sac_base.specs.declared.memory.Memory.{Memory}

abbrev pub Texts : Type 0
Texts = List (List ℕ)

-- one list of texts behind another
infixr 20 ◌⋅◌
abbrev pub ◌⋅◌ : Texts → Texts → Texts
a ⋅ b = a ++ b

abbrev pub one : List ℕ → Texts
one text = text ∷ []

abbrev pub comma : Texts
comma = one (codes ",")

-- texts with commas between them
abbrev pub commas : List Texts → Texts
commas [] = []
commas (a ∷ []) = a
commas (a ∷ b ∷ rest) = a ⋅ comma ⋅ commas (b ∷ rest)

-- what stands behind a token: a line feed or a space
abbrev pub separator : List ℕ → ℕ
separator text = if bytes_eq text (codes ";") || (bytes_eq text (codes "{") || bytes_eq text (codes "}")) then 10 else 32

-- the bytes of a text: each token and what stands behind it
abbrev pub written : Texts → List ℕ
written [] = []
written (text ∷ texts) = text ++ (separator text ∷ written texts)

-- these texts were written behind what was there
pub record Printed (old new : List ℕ) (texts : Texts) : Type 0 where
  pub is : new ≡ old ++ written texts

-- a writer that succeeds has written these texts behind what was there
pub record Prints (result : Result (Unit {0}) Memory) (old new : List ℕ) (texts : Texts) : Type 0 where
  pub on_ok : OnOk result (Printed old new texts)

-- the comma before an item that stands behind so many others
abbrev pub comma_before : ℕ → Texts
comma_before zero = []
comma_before (suc n) = comma
