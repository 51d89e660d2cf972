use Rattle.std.proofs.Common.{◌≡◌, subst, sym, to_z, of_z, w64}
use Rattle.std.proofs.lemmas.Int.{to_z-of_z}
use Rattle.time_jiff.specs.Clock.{IsNearest}
use Rattle.time_jiff.proofs.clock.ZoneClock.at.Goals as goal

pub returns-clause-asked : goal.returns-clause-asked
returns-clause-asked c =
    let given = to_z-of_z w64 c.args.second c.ranges.second in
    let found : to_z w64 (of_z w64 c.nearest-asked.result) ≡ c.nearest-asked.result =
    to_z-of_z w64 c.nearest-asked.result (record { sfits = c.nearest-asked.type_inv }) in
    subst (λ a. IsNearest c.args.second a) (sym found)
    (subst (λ s. IsNearest s c.nearest-asked.result) given c.nearest-asked.ensures.nearest)
