-- The laws of the meaning, on which the passes over the core stand.
use Rattle.std.specs.Prelude.{◌≡◌, ℕ, [], ◌∷◌, Ok, eqb, false, List}
use Rattle.sac_base.specs.Arrays.{ArrayValue}
use Rattle.sac_base.specs.declared.site.Site.{Site}
use Rattle.sac_base.specs.Outcomes.{and_then}
use Rattle.core_ir.specs.declared.tree.Var.{Var}
use Rattle.core_ir.specs.Edits.{Edited}
use Rattle.core_ir.specs.Known.{Known, ways, Holds, SameWhere}
use Rattle.core_ir.specs.Meaning.{Env, CallMeaning, bind_all, run, right_value}
use Rattle.core_ir.specs.Outcome.{SameOutcome, SameOutside, SameBodies, SameFunctions}
use Rattle.core_ir.specs.Renaming.{Link, Agree, Renamed}
use Rattle.core_ir.specs.Scopes.{AgreeOn, Scoped}
use Rattle.core_ir.specs.Terms.{BlockTerm, RightTerm, LetTerm, CoreTerm, Gives, Bind, Plain, Copy, chain}
use Rattle.core_ir.specs.Uses.{Avoids, AvoidsEach, targets_of}

-- blocks that differ in the numbers of variables alone mean the same under environments that agree along the link
abbrev pub RenamedMeansTheSame : Type 0
RenamedMeansTheSame =
    (call : CallMeaning) (turns : ℕ) (link : Link) (e f : Env) (b c : BlockTerm) →
    Agree link e f → Renamed link b c → run call turns b e ≡ run call turns c f

-- only the variables in scope have a say
abbrev pub ScopeDecides : Type 0
ScopeDecides =
    (call : CallMeaning) (turns : ℕ) (scope : List Var) (b : BlockTerm) (e f : Env) →
    Scoped scope b → AgreeOn scope e f → run call turns b e ≡ run call turns b f

-- a variable that a block does not use has no say
abbrev pub UnusedHasNoSay : Type 0
UnusedHasNoSay =
    (call : CallMeaning) (turns : ℕ) (x : Var) (b : BlockTerm) (e f : Env) →
    Avoids x b → ((y : Var) → eqb x.0 y.0 ≡ false → e y ≡ f y) → run call turns b e ≡ run call turns b f

-- a binding of a variable that the rest does not use may go where it does not fault
abbrev pub UnusedMayGo : Type 0
UnusedMayGo =
    (call : CallMeaning) (turns : ℕ) (x : Var) (s : Site) (r : RightTerm) (b : BlockTerm) (e : Env) (v : ArrayValue) →
    Avoids x b → right_value call turns r s e ≡ Ok (v ∷ []) → run call turns (Bind (x ∷ []) s r b) e ≡ run call turns b e

-- the bindings of a block with the result z, then t = z, then the rest: this binds t to what the block gives
abbrev pub SplicedBindsTheResult : Type 0
SplicedBindsTheResult =
    (call : CallMeaning) (turns : ℕ) (ls : List LetTerm) (t z : Var) (s : Site) (rest : BlockTerm) (e : Env) →
    AvoidsEach (targets_of ls) rest →
    run call turns (chain ls (Bind (t ∷ []) s (Plain (Copy z)) rest)) e
    ≡ and_then (run call turns (chain ls (Gives (z ∷ []))) e) (λ vs. run call turns rest (bind_all e (t ∷ []) vs))

-- a change at one place keeps the meaning where it keeps it under all that is known at that place
abbrev pub EditedMeansTheSame : Type 0
EditedMeansTheSame =
    (call : CallMeaning) (turns : ℕ) (k : Known) (b c : BlockTerm) →
    Edited Known ways (SameWhere call turns) k b c → Scoped k.scope b →
    (e : Env) → Holds call turns k e → run call turns b e ≡ run call turns c e

-- a core whose bodies mean the same as those of the other, where calls are those of the first core, has the same outcome
abbrev pub BodiesDecide : Type 0
BodiesDecide = (a b : CoreTerm) → SameOutside a b → SameBodies a b → SameOutcome a b

-- the same of cores whose functions mean the same one by one
abbrev pub FunctionsDecide : Type 0
FunctionsDecide =
    (a b : CoreTerm) → a.groups ≡ b.groups → a.main ≡ b.main → SameFunctions a.functions b.functions → SameOutcome a b
