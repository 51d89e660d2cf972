use Rattle.time_lines.specs.Shown.{description_for}
use Rattle.time_lines.proofs.ShownLemmas.{place_shows}
use Rattle.time_lines.proofs.shown.InPlaceShows.append.Goals as goal

pub returns-in-None-clause-same : goal.returns-in-None-clause-same
returns-in-None-clause-same g c =
    place_shows (λ d. g.F.Formattable.outcome_of (description_for c.args.self.now.descriptions d)) _ _ c.offset_at-offset.ensures.same

pub returns-in-Some-clause-same : goal.returns-in-Some-clause-same
returns-in-Some-clause-same g c =
    place_shows (λ d. g.F.Formattable.outcome_of (description_for c.args.self.now.descriptions d)) _ _ c.offset_at-offset.ensures.same
