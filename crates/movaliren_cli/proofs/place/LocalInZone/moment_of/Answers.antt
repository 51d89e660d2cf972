use Rattle.std.proofs.Common.{◌≡◌, ◌∙◌, ap, false, inr, true}
use Rattle.jiff_core.specs.declared.Timestamp.{Timestamp}
use Rattle.movaliren_cli.proofs.LocalTimeLemmas.{made_same}
use Rattle.movaliren_cli.proofs.place.LocalInZone.moment_of.Goals as goal

pub returns-in-Ok-to_timestamp : goal.returns-in-Ok-to_timestamp
returns-in-Ok-to_timestamp c = (
  c.to_plain.result,
  made_same c.args.local c.in-Ok.shown c.to_plain.result c.to_plain.ensures c.in-Ok.ensures.time c.in-Ok.ensures.date,
  c.timestamp.ensures.value ∙ ap (λ (i : Timestamp). i.nanosecond) c.from_plain.ensures
      ∙ c.in-Ok-to_timestamp.ensures.value,
)

pub returns-in-Err : goal.returns-in-Err
returns-in-Err c = inr (
  c.to_plain.result,
  made_same c.args.local c.in-Ok.shown c.to_plain.result c.to_plain.ensures c.in-Ok.ensures.time c.in-Ok.ensures.date,
  λ h. let never : false ≡ true = c.in-Err.ensures.succeeds.1 h in cc,
)
