-- The machine values of a run. Assumes `Logic`.
use Rattle.std.proofs.Common.{◌≡◌, List, [], ◌∷◌, ◌++◌, refl, ap, ◌∙◌}
use seplogic.Ra.Ura.{Ura}
use mir.Val.{Val, vstruct, of_list}
use base.Logic.{ent, emp}
use types.Logic.{Logic, sem}
use denote.RattleType.{RattleType}
use denote.Laws.{Is}
use denote.RawPtr.{Ptr, ptr_val}
use denote.Shadow.{makes_shadow}
use denote.Struct.Struct.{Struct}
use denote.Struct.Owning.{shape}
use Rattle.atomic_table.proofs.Fields.{strip_of}
use Rattle.buffer_parts.specs.contracts.raw.RawPart as run

module _ (R : RattleType) where
  abbrev pub RawData : RattleType
  RawData = Struct (shape (run.the_type R))

  pub raw_told : (p : Ptr) (vs : List Val) → Is RawData (p, tt) vs → vs ≡ strip_of p ∷ []
  raw_told p vs is = is.1.0 ∙ ap (λ (ws : List Val). vstruct (of_list (ws ++ [])) ∷ []) is.1.1.0

  pub raw_made : {M : Type 1} {𝓤 : Ura M} (𝓛 : Logic 𝓤) (p : Ptr) → ent 𝓤 (emp 𝓤) (sem 𝓛 (RawData.own_val (p, tt) (strip_of p ∷ [])))
  raw_made 𝓛 p = makes_shadow 𝓛 (RawData.own_val (p, tt) (strip_of p ∷ [])) (λ vss. (tt, (tt, tt))) ((ptr_val p ∷ [], tt), (refl, (refl, tt)))
