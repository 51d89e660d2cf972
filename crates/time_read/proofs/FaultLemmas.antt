-- Positions of faults are equal exactly if their parts are.
use Rattle.std.proofs.Common.{◌≡◌, ◌&&◌, ◌==◌, Bool, IsTrue}
use Rattle.std.proofs.lemmas.Bool.Decides.{Decides-and, Decides-eqb}
use Rattle.std.specs.Bool.{Decides}
use Rattle.std.specs.Cmp.{booleans_Decides}
use Rattle.time_read.specs.contracts.fault.ExpectedPartialEq.TheImpl as of_expected
use Rattle.time_read.specs.contracts.fault.NotReadPartialEq.TheImpl as of_place
use Rattle.time_read.specs.declared.fault.NotRead.{NotRead}

three : {P R : Type 0} (x e s : Bool) → Decides x P → Decides s R → Decides (x && (e && s)) (P × IsTrue e × R)
three {P} {R} x e s p r =
    let same : Decides e (IsTrue e) = (λ h. h, λ h. h) in
    let nested : Decides (x && (e && s)) (P × (IsTrue e × R)) = Decides-and x (e && s) p (Decides-and e s same r) in (
      λ h. let d = nested.0 h in (d.0, d.1.0, d.1.1),
      λ k. nested.1 (k.0, (k.1, k.2)),
    )

pub places_decide : (a b : NotRead) → Decides (of_place.ghosts.eq a b)
    ((a.at ≡ b.at) × IsTrue (of_expected.ghosts.eq a.expected b.expected) × (a.is_second_60 ≡ b.is_second_60))
places_decide a b =
    three (a.at == b.at) (of_expected.ghosts.eq a.expected b.expected) _ (Decides-eqb a.at b.at)
    (booleans_Decides a.is_second_60 b.is_second_60)
