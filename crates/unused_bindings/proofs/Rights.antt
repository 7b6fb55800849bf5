-- Right sides without blocks that are known to have a value.
use Rattle.std.proofs.Common.{◌≡◌, refl}
use Rattle.core_ir.specs.Terms.{PlainTerm, RightTerm, Plain}
use Rattle.core_facts.specs.Facts.{Facts}
use Rattle.core_forms.specs.cleaning.Unused.{is_removable}
use Rattle.plain_facts.specs.Rights.{right_shape}
use Rattle.removal_rules.specs.Total.{removable_shaped}

plain_is : (p : PlainTerm) (k : Facts) → removable_shaped (right_shape (Plain p) k) (Plain p) k ≡ is_removable (Plain p) k
plain_is (PlainTerm.Const a) k = refl
plain_is (PlainTerm.Copy x) k = refl
plain_is (PlainTerm.Unary o x) k = refl
plain_is (PlainTerm.Binary o x y) k = refl
plain_is (PlainTerm.Literal xs) k = refl
plain_is (PlainTerm.Dim x) k = refl
plain_is (PlainTerm.ShapeOf x) k = refl
plain_is (PlainTerm.Reshape x y) k = refl
plain_is (PlainTerm.Select x y) k = refl
plain_is (PlainTerm.Replace x y z) k = refl
plain_is (PlainTerm.Always kind) k = refl
plain_is (PlainTerm.Check x ty) k = refl

pub shaped_is : (r : RightTerm) (k : Facts) → removable_shaped (right_shape r k) r k ≡ is_removable r k
shaped_is (Plain p) k = plain_is p k
shaped_is (RightTerm.If x a b) k = refl
shaped_is (RightTerm.Loop first start params test body s) k = refl
shaped_is (RightTerm.Call g xs) k = refl
shaped_is (RightTerm.With o gens) k = refl
shaped_is (RightTerm.Parted frame base cell o parts) k = refl
