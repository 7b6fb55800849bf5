-- Which counted code is well counted.
--
-- An example of two results that begins with the references of a and c. To the right are those that are there before each step:
--     x, y = if c                  a c      each branch ends `mine`, which is a, and `after`, which is c, stays
--       then  keep a               a
--             gives a, a           a a      each result takes one
--       else  d = dim a            a        only reads a: `mine` is empty
--             release a; keep d    d a      the first leaves d, the second d d
--             gives d, d           d d
--     release c                    x y c
--     gives x, y                   x y
use Rattle.std.specs.Prelude.{◌≡◌, ℕ, true, false, List, [], ◌∷◌, ◌++◌, length, Option, Some, None, option_to_list, slice_get}
use Rattle.core_ir.specs.declared.tree.Var.{Var}
use Rattle.core_ir.specs.Terms.{PlainTerm, FunTerm, CoreTerm}
use Rattle.core_ir.specs.Binders.{is_in, NoneIn}
use Rattle.core_ir.specs.Outcome.{group_at}
use Rattle.core_ir.specs.Scopes.{AllIn, plain_uses, op_uses, parted_uses, head_uses}
use Rattle.core_ir.specs.WellFormed.{Distinct, IsWellFormed}
use Rattle.counted_code.specs.Terms.{CodeTerm, CodeRightTerm, CodeGensTerm, CodePartsTerm, CodeFunTerm, CodeProgram, Giving, Binding, Keeping}
use Rattle.counted_code.specs.Terms.{Releasing, PlainCode, IfCode, LoopCode, CallCode, WithCode, PartedCode, NoCodeGens, GenCode, NoCodeParts}
use Rattle.counted_code.specs.Terms.{PartCode, core_of_code}
use Rattle.counted_code.specs.Outcome.{code_param_vars}

-- the same variables, each as often, in some order
pub data Reordered : List Var → List Var → Type 0 where
  none : Reordered [] []
  stays : {x : Var} {xs ys : List Var} → Reordered xs ys → Reordered (x ∷ xs) (x ∷ ys)
  swaps : {x y : Var} {xs : List Var} → Reordered (x ∷ (y ∷ xs)) (y ∷ (x ∷ xs))
  through : {xs ys zs : List Var} → Reordered xs ys → Reordered ys zs → Reordered xs zs

-- the variable stands in the list
abbrev pub Alive : Var → List Var → Type 0
Alive x live = is_in x live ≡ true

-- the references that a right side without blocks hands on
abbrev pub plain_hands : PlainTerm → List Var
plain_hands (PlainTerm.Copy x) = x ∷ []
plain_hands (PlainTerm.Check x t) = x ∷ []
plain_hands _ = []

-- how many values it gives; one that always faults gives any number
abbrev pub PlainGives : ℕ → PlainTerm → Type 0
PlainGives n (PlainTerm.Always k) = Unit {0}
PlainGives n _ = 1 ≡ n

-- A term has n results. It may read the variables of `outer`, and has the references of `refs`, a variable standing there once for each of them: it
-- hands on or releases each of them once.
-- Of the references that a right side finds it ends `mine`, and `after` are there when it is done.
module _ (results_of : ℕ → ℕ) where
  abbrev mutual
    pub Counted : (n : ℕ) (outer refs : List Var) → CodeTerm → Type 0
    Counted n outer refs (Giving xs) = (length xs ≡ n) × Reordered refs xs
    Counted n outer refs (Binding xs s r b) =
        (mine : List Var) × (after : List Var) × Reordered refs (mine ++ after) × CountedRight (length xs) outer mine after r
        × Distinct xs × NoneIn xs (after ++ outer) × Counted n outer (xs ++ after) b
    Counted n outer refs (Keeping x b) = Alive x (refs ++ outer) × Counted n outer (x ∷ refs) b
    Counted n outer refs (Releasing x b) = (after : List Var) × Reordered refs (x ∷ after) × Counted n outer after b

    pub CountedRight : (n : ℕ) (outer mine after : List Var) → CodeRightTerm → Type 0
    CountedRight n outer mine after (PlainCode p) = PlainGives n p × Reordered mine (plain_hands p) × AllIn (plain_uses p) (mine ++ (after ++ outer))
    -- a branch ends the same references as the other
    CountedRight n outer mine after (IfCode c a b) =
        Alive c (mine ++ (after ++ outer)) × Counted n (after ++ outer) mine a × Counted n (after ++ outer) mine b
    -- a turn gets the parameters' references and gives those of the next turn; the test only reads them
    CountedRight n outer mine after (LoopCode first start params test body s) =
        (length start ≡ n) × (length params ≡ n) × Distinct params × NoneIn params (after ++ outer) × Reordered mine start
        × Counted 1 (params ++ (after ++ outer)) [] test × Counted n (after ++ outer) params body
    CountedRight n outer mine after (CallCode g xs) = (results_of g ≡ n) × Reordered mine xs
    CountedRight n outer mine after (WithCode op gens) =
        (1 ≡ n) × Reordered mine [] × AllIn (op_uses op) (after ++ outer) × CountedGens (after ++ outer) gens
    -- the marked variable's reference ends after the loop
    CountedRight n outer mine after (PartedCode f b c op parts reuse) =
        (1 ≡ n) × Reordered mine (option_to_list reuse) × AllIn (parted_uses op) (mine ++ (after ++ outer)) × CountedParts (mine ++ (after ++ outer)) parts

    -- a cell has its index and the names, and reads all else
    pub CountedGens : (outer : List Var) → CodeGensTerm → Type 0
    CountedGens outer NoCodeGens = Unit {0}
    CountedGens outer (GenCode h b rest) =
        AllIn (head_uses h) outer × NoneIn (h.index ∷ h.names) outer × Counted 1 outer (h.index ∷ h.names) b × CountedGens outer rest

    pub CountedParts : (outer : List Var) → CodePartsTerm → Type 0
    CountedParts outer NoCodeParts = Unit {0}
    CountedParts outer (PartCode h b rest) = (is_in h.index outer ≡ false) × Counted 1 outer (h.index ∷ []) b × CountedParts outer rest

  -- a function has the references of its arguments
  abbrev pub CountedFunction : CodeFunTerm → Type 0
  CountedFunction f = Distinct (code_param_vars f) × Counted (length f.results) [] (code_param_vars f) f.body

  abbrev pub CountedFunctions : List CodeFunTerm → Type 0
  CountedFunctions [] = Unit {0}
  CountedFunctions (f ∷ fs) = CountedFunction f × CountedFunctions fs

-- ---- programs

abbrev pub results_or : Option FunTerm → ℕ → ℕ
results_or None n = n
results_or (Some f) n = length f.results

abbrev pub results_among : List FunTerm → List ℕ → ℕ
results_among fs [] = 0
results_among fs (place ∷ places) = results_or (slice_get fs place) (results_among fs places)

-- the number of results of a group's first instance, which each of its instances has
abbrev pub group_results : CoreTerm → ℕ → ℕ
group_results core group = results_among core.functions (group_at core group)

-- Without its steps that keep and release and its marks it is a well-formed core, and in each function each reference is handed on or released once.
pub record IsWellCounted (code : CodeProgram) : Type 0 where
  pub core : IsWellFormed (core_of_code code)
  pub functions : CountedFunctions (group_results (core_of_code code)) code.functions

-- ---- marks

abbrev mutual
  -- no loop is marked
  pub Unmarked : CodeTerm → Type 0
  Unmarked (Giving xs) = Unit {0}
  Unmarked (Binding xs s r b) = UnmarkedRight r × Unmarked b
  Unmarked (Keeping x b) = Unmarked b
  Unmarked (Releasing x b) = Unmarked b

  pub UnmarkedRight : CodeRightTerm → Type 0
  UnmarkedRight (PlainCode p) = Unit {0}
  UnmarkedRight (IfCode c a b) = Unmarked a × Unmarked b
  UnmarkedRight (LoopCode first start params test body s) = Unmarked test × Unmarked body
  UnmarkedRight (CallCode g xs) = Unit {0}
  UnmarkedRight (WithCode op gens) = UnmarkedGens gens
  UnmarkedRight (PartedCode f b c op parts reuse) = (reuse ≡ None) × UnmarkedParts parts

  pub UnmarkedGens : CodeGensTerm → Type 0
  UnmarkedGens NoCodeGens = Unit {0}
  UnmarkedGens (GenCode h b rest) = Unmarked b × UnmarkedGens rest

  pub UnmarkedParts : CodePartsTerm → Type 0
  UnmarkedParts NoCodeParts = Unit {0}
  UnmarkedParts (PartCode h b rest) = Unmarked b × UnmarkedParts rest

abbrev pub UnmarkedFunctions : List CodeFunTerm → Type 0
UnmarkedFunctions [] = Unit {0}
UnmarkedFunctions (f ∷ fs) = Unmarked f.body × UnmarkedFunctions fs

abbrev pub IsUnmarked : CodeProgram → Type 0
IsUnmarked code = UnmarkedFunctions code.functions
