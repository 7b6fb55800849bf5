-- What two types have in common, and the least type above both.
use Rattle.std.specs.Prelude.{◌↔◌, ℕ, IsTrue, ◌==◌, if◌then◌else◌, Option, Some, None, length}
use Rattle.sac_base.specs.declared.form.Form.{Form}
use Rattle.sac_base.specs.declared.types.ArrayType.{ArrayType}
use Rattle.sac_base.specs.declared.types.Part.{Part}
use Rattle.sac_base.specs.declared.types.Part.TheVariants.{Known, Rank, Plus, Star}
use Rattle.sac_base.specs.Types.{has_form, part_below, IsBelow}

-- the type contains exactly what both contain
abbrev pub IsMeet : ArrayType → ArrayType → ArrayType → Type 0
IsMeet a b t = (form : Form) → IsTrue (has_form t form) ↔ (IsTrue (has_form a form) × IsTrue (has_form b form))

-- both types are below the type, which is below every other such type
pub record IsJoin (a b t : ArrayType) : Type 0 where
  pub first : IsBelow a t
  pub second : IsBelow b t
  pub least : (u : ArrayType) → IsBelow a u → IsBelow b u → IsBelow t u

-- the number of extents, where it is known
abbrev pub rank_of : Part → Option ℕ
rank_of (Known shape) = Some (length shape)
rank_of (Rank rank) = Some rank
rank_of Plus = None
rank_of Star = None

-- the least part above two parts of these ranks, neither of which is below the other
abbrev pub wider_part : Option ℕ → Option ℕ → Part
wider_part (Some m) (Some n) = if m == n then Rank m else (if m == 0 then Star else (if n == 0 then Star else Plus))
wider_part (Some m) None = if m == 0 then Star else Plus
wider_part None (Some n) = if n == 0 then Star else Plus
wider_part None None = Plus

abbrev pub part_join : Part → Part → Part
part_join p q = if part_below p q then q else (if part_below q p then p else wider_part (rank_of p) (rank_of q))
