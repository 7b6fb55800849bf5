-- Heights as far as 64 bits hold them.
use Rattle.std.proofs.Common.{ℕ, ◌≡◌, ◌+◌, max, ap, ◌∙◌, arith}
use Rattle.sac_ast.specs.Heights.{capped}

pub capped_max : (a b : ℕ) → max (capped a) (capped b) ≡ capped (max a b)
capped_max a b = omega arith

pub capped_above : (n : ℕ) → capped (1 + capped n) ≡ capped (1 + n)
capped_above n = omega arith

-- the height of a node with six children
pub above_six : (a b c d e f : ℕ) → capped (1 + max (capped a) (max (capped b) (max (capped c) (max (capped d) (max (capped e) (capped f)))))) ≡ capped (1 + max a (max b (max c (max d (max e f)))))
above_six a b c d e f =
    let five = capped_max e f in
    let four = ap (max (capped d)) five ∙ capped_max d (max e f) in
    let three = ap (max (capped c)) four ∙ capped_max c (max d (max e f)) in
    let two = ap (max (capped b)) three ∙ capped_max b (max c (max d (max e f))) in
    let one = ap (max (capped a)) two ∙ capped_max a (max b (max c (max d (max e f)))) in
    ap (λ n. capped (1 + n)) one ∙ capped_above (max a (max b (max c (max d (max e f)))))
