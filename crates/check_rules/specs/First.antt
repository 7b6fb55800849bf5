-- The earliest of some violations: the first site in the text, and at that site the least code.
use Rattle.std.specs.Prelude.{ℕ, List, [], ◌∷◌, Bool, true, false, Option, Some, None, nat_lt, nat_le, if◌then◌else◌}
use Rattle.sac_base.specs.declared.site.Site.{Site}
use Rattle.check_rules.specs.declared.code.CheckCode.{CheckCode}
use Rattle.check_rules.specs.Accepted.{code_number}
use Rattle.check_rules.specs.declared.violation.Violation.{Violation}

-- lexicographic order of three numbers
abbrev pub in_order : ℕ → ℕ → ℕ → ℕ → ℕ → ℕ → Bool
in_order a b c x y z =
    if nat_lt a x then true else if nat_lt x a then false else if nat_lt b y then true else if nat_lt y b then false else nat_le c z

abbrev pub is_no_later : Violation → Violation → Bool
is_no_later v w = in_order v.site.line v.site.col (code_number v.code) w.site.line w.site.col (code_number w.code)

abbrev pub earlier : Option Violation → Option Violation → Option Violation
earlier None w = w
earlier (Some v) None = Some v
earlier (Some v) (Some w) = if is_no_later v w then Some v else Some w

-- a violation, unless the rule holds
abbrev pub unless : Bool → CheckCode → Site → Option Violation
unless true code site = None
unless false code site = Some (record { code = code; site = site })

abbrev pub is_clean : Option Violation → Bool
is_clean None = true
is_clean (Some v) = false

abbrev pub first_of : List Violation → Option Violation
first_of [] = None
first_of (v ∷ vs) = earlier (Some v) (first_of vs)
