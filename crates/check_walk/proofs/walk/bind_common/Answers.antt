use Rattle.std.proofs.Common.{◌≡◌, ℕ, List, Bor, subst, length, take}
use Rattle.std.specs.Prelude.{OnOk}
use Rattle.check_rules.specs.Accepted.{Names}
use Rattle.check_rules.specs.Tables.{among, has, with_common}
use Rattle.check_walk.proofs.walk.bind_common.Goals as goal

pub returns : goal.returns
returns c =
    let told = c.in_ok-second.ensures in
    let common = c.push_common in
    let after = common.new.self.trail.items in
    record {
      names = subst (λ (names : Names). OnOk common.result (among after ≡ names)) (λ j. with_common (has c.args.first) (told.names j) (among (told.left j))) common.ensures.names;
      kept = subst (λ (ts : List (Bor (List ℕ))). OnOk common.result (take (length ts) after ≡ ts)) told.left common.ensures.kept;
    }
