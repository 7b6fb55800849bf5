-- What follows from there being no violation.
use Rattle.std.proofs.Common.{◌≡◌, Bool, true, false, not, ◌||◌, ◌&&◌, List, [], ◌∷◌, ◌++◌, refl}
use Rattle.sac_base.specs.declared.name.Name.{Name}
use Rattle.sac_base.specs.declared.site.Site.{Site}
use Rattle.check_rules.specs.declared.code.CheckCode.{CheckCode}
use Rattle.check_rules.specs.declared.code.CheckCode.TheVariants.{C1, C5}
use Rattle.check_rules.specs.Accepted.{Names, Place, unless, use_rules}

-- ---- parts of an empty list

pub nil_left : {A : Type 0} (xs ys : List A) → xs ++ ys ≡ [] → xs ≡ []
nil_left [] ys h = refl
nil_left (x ∷ xs) ys h = absurd (cc)

pub nil_right : {A : Type 0} (xs ys : List A) → xs ++ ys ≡ [] → ys ≡ []
nil_right [] ys h = h
nil_right (x ∷ xs) ys h = absurd (cc)

module _ {A : Type 0} where
  pub nil2 : (a b : List A) → a ++ b ≡ [] → (a ≡ []) × (b ≡ [])
  nil2 a b h = (nil_left a b h, nil_right a b h)

  pub nil3 : (a b c : List A) → a ++ b ++ c ≡ [] → (a ≡ []) × (b ≡ []) × (c ≡ [])
  nil3 a b c h = let r = nil2 a b (nil_left (a ++ b) c h) in (r.0, r.1, nil_right (a ++ b) c h)

  pub nil4 : (a b c d : List A) → a ++ b ++ c ++ d ≡ [] → (a ≡ []) × (b ≡ []) × (c ≡ []) × (d ≡ [])
  nil4 a b c d h = let r = nil3 a b c (nil_left (a ++ b ++ c) d h) in (r.0, r.1, r.2, nil_right (a ++ b ++ c) d h)

  pub nil5 : (a b c d e : List A) → a ++ b ++ c ++ d ++ e ≡ [] → (a ≡ []) × (b ≡ []) × (c ≡ []) × (d ≡ []) × (e ≡ [])
  nil5 a b c d e h = let r = nil4 a b c d (nil_left (a ++ b ++ c ++ d) e h) in (r.0, r.1, r.2, r.3, nil_right (a ++ b ++ c ++ d) e h)

  pub nil8 : (a b c d e f g i : List A) → a ++ b ++ c ++ d ++ e ++ f ++ g ++ i ≡ [] → (a ≡ []) × (b ≡ []) × (c ≡ []) × (d ≡ []) × (e ≡ []) × (f ≡ []) × (g ≡ []) × (i ≡ [])
  nil8 a b c d e f g i h =
      let front = a ++ b ++ c ++ d ++ e in
      let p = nil_left (front ++ f ++ g) i h in
      let q = nil_left (front ++ f) g p in
      let r = nil5 a b c d e (nil_left front f q) in
      (r.0, r.1, r.2, r.3, r.4, nil_right front f q, nil_right (front ++ f) g p, nil_right (front ++ f ++ g) i h)

-- ---- rules

pub holds : (b : Bool) (code : CheckCode) (site : Site) → unless b code site ≡ [] → b ≡ true
holds true code site h = refl
holds false code site h = absurd (cc)

pub both : (a b : Bool) → (a && b) ≡ true → (a ≡ true) × (b ≡ true)
both true b h = (refl, h)
both false b h = absurd (cc)

pub implied : (a b : Bool) → a ≡ true → (not a || b) ≡ true → b ≡ true
implied true b e h = h
implied false b e h = absurd (cc)

-- a variable that may be used is bound
pub used_bound : (p : Place) (name : Name) (site : Site) (bound : Names) → use_rules p name site bound ≡ [] → bound name ≡ true
used_bound p name site bound h =
    let r = nil2 (unless (p.listed name) C1 site) (unless (not (p.listed name) || bound name) C5 site) h in
    implied (p.listed name) (bound name) (holds (p.listed name) C1 site r.0) (holds (not (p.listed name) || bound name) C5 site r.1)
