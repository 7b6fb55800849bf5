-- The arrays that an input gives for the parameters of `main`.
use Rattle.std.specs.Prelude.{ℕ, ◌≡◌, ◌<◌, ◌≤◌, List, [], length, map, find, Option, Some, None, Result}
use Rattle.sac_base.specs.declared.base.Base.{Base}
use Rattle.sac_base.specs.declared.types.ArrayType.{ArrayType}
use Rattle.sac_base.specs.Arrays.{ArrayValue}
use Rattle.sac_ast.specs.Tree.{FunctionTree, ProgramTree}
use Rattle.source_meaning.specs.Calls.{is_main, param_types}
use Rattle.data_text.specs.Texts.{Refusal, text_value}
use Rattle.data_text.specs.Generated.{generated_all}
use Rattle.sac_words.specs.Meaning.{Origin, file, generated}

-- the longest input, in bytes
abbrev pub INPUT_LIMIT : ℕ
INPUT_LIMIT = 67108864

abbrev pub types_of : Option FunctionTree → List ArrayType
types_of None = []
types_of (Some f) = param_types f

-- the types of the parameters of `main`
abbrev pub main_types : ProgramTree → List ArrayType
main_types p = types_of (find is_main p.functions)

abbrev pub main_bases : ProgramTree → List Base
main_bases p = map (λ (ty : ArrayType). ty.base) (main_types p)

-- the input is no file, or the file that stands under its name is not there, is too long, or has these bytes
abbrev pub IsMissing : Origin → Option (List ℕ) → Type 0
IsMissing (file name) found = found ≡ None
IsMissing origin found = ⊥

abbrev pub IsTooLong : Origin → Option (List ℕ) → Type 0
IsTooLong (file name) found = (bytes : List ℕ) × (found ≡ Some bytes) × (INPUT_LIMIT < length bytes)
IsTooLong origin found = ⊥

abbrev pub IsText : Origin → Option (List ℕ) → List ℕ → Type 0
IsText (file name) found bytes = (found ≡ Some bytes) × (length bytes ≤ INPUT_LIMIT)
IsText origin found bytes = bytes ≡ []

-- the arrays, or the first refusal
abbrev pub arguments : ProgramTree → Origin → List ℕ → Result (List ArrayValue) Refusal
arguments p (generated n) bytes = generated_all (main_types p) 0 n
arguments p origin bytes = text_value bytes (main_bases p)
