use Rattle.log_time.proofs.TimesLemmas.{same_times}
use Rattle.log_time.proofs.zone.ZoneTimesTimes.time_text.Goals as goal

pub returns-clause-same : goal.returns-clause-same
returns-clause-same c = same_times _ _ _ c.offset_at.ensures.zone
