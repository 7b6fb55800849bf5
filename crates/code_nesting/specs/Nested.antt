-- How many blocks may nest in a block of code.
use Rattle.std.specs.Prelude.{◌≡◌, ℕ, zero, suc, ◌≤◌, ◌⊎◌, true, false, [], Contains, Some, slice_get, slice_index_or}
use Rattle.counted_code.specs.Terms.{CodeTerm, CodeRightTerm, CodeGensTerm, CodePartsTerm, CodeFunTerm, CodeProgram, Giving, Binding, Keeping}
use Rattle.counted_code.specs.Terms.{Releasing, PlainCode, IfCode, LoopCode, CallCode, WithCode, PartedCode, NoCodeGens, GenCode, NoCodeParts, PartCode}

-- The second block stands directly in the first: it is a branch of a conditional there, the test or the body of a loop, or the cells of a with-loop.
abbrev mutual
  pub HasBlock : CodeTerm → CodeTerm → Type 0
  HasBlock (Giving xs) inner = ⊥
  HasBlock (Binding xs s r rest) inner = RightHasBlock r inner ⊎ HasBlock rest inner
  HasBlock (Keeping x rest) inner = HasBlock rest inner
  HasBlock (Releasing x rest) inner = HasBlock rest inner

  pub RightHasBlock : CodeRightTerm → CodeTerm → Type 0
  RightHasBlock (PlainCode p) inner = ⊥
  RightHasBlock (IfCode c a b) inner = (a ≡ inner) ⊎ (b ≡ inner)
  RightHasBlock (LoopCode first start params test body s) inner = (test ≡ inner) ⊎ (body ≡ inner)
  RightHasBlock (CallCode group xs) inner = ⊥
  RightHasBlock (WithCode op gens) inner = GensHaveBlock gens inner
  RightHasBlock (PartedCode f b c op parts reuse) inner = PartsHaveBlock parts inner

  pub GensHaveBlock : CodeGensTerm → CodeTerm → Type 0
  GensHaveBlock NoCodeGens inner = ⊥
  GensHaveBlock (GenCode h b rest) inner = (b ≡ inner) ⊎ GensHaveBlock rest inner

  pub PartsHaveBlock : CodePartsTerm → CodeTerm → Type 0
  PartsHaveBlock NoCodeParts inner = ⊥
  PartsHaveBlock (PartCode h b rest) inner = (b ≡ inner) ⊎ PartsHaveBlock rest inner

-- a right side of the block is a call of the group
abbrev pub HasCall : CodeTerm → ℕ → Type 0
HasCall (Giving xs) group = ⊥
HasCall (Binding xs s (CallCode called args) rest) group = (called ≡ group) ⊎ HasCall rest group
HasCall (Binding xs s r rest) group = HasCall rest group
HasCall (Keeping x rest) group = HasCall rest group
HasCall (Releasing x rest) group = HasCall rest group

-- the function stands at a place of the group
pub record IsInstance (code : CodeProgram) (group place : ℕ) (f : CodeFunTerm) : Type 0 where
  pub in_group : Contains (slice_index_or code.groups group []) place
  pub is_there : slice_get code.functions place ≡ Some f

-- So many blocks may nest in the block, where calls go at most so many levels deep. A call of an inline function takes no level.
pub data Nests (code : CodeProgram) : ℕ → CodeTerm → ℕ → Type 0 where
  alone : {level : ℕ} {b : CodeTerm} → Nests code level b zero
  within : {level n : ℕ} {b inner : CodeTerm} → HasBlock b inner → Nests code level inner n → Nests code level b (suc n)
  in_inline_call : {level n group place : ℕ} {b : CodeTerm} {f : CodeFunTerm} → HasCall b group → IsInstance code group place f → f.is_inline ≡ true
      → Nests code level f.body n → Nests code level b (suc n)
  in_call : {level n group place : ℕ} {b : CodeTerm} {f : CodeFunTerm} → HasCall b group → IsInstance code group place f → f.is_inline ≡ false
      → Nests code level f.body n → Nests code (suc level) b (suc n)

-- the most nested blocks of a cell that a worker computes
abbrev pub most_nested : ℕ
most_nested = 1000

-- no more blocks than that nest in the block
abbrev pub IsShallow : CodeProgram → ℕ → CodeTerm → Type 0
IsShallow code levels b = (n : ℕ) → Nests code levels b n → n ≤ most_nested
