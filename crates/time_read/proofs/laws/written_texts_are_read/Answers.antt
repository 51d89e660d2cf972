use Rattle.std.proofs.Common.{refl}
use Rattle.time_known.proofs.LawLemmas.{completed_are_canonical}
use Rattle.time_known.proofs.Rfc2822Lemmas.{rfc2822_is_written}
use Rattle.time_known.proofs.Rfc3339Lemmas.{rfc3339_is_written}
use Rattle.time_read.proofs.IsoLemmas.{iso_is_rfc, stamp_is_rfc}
use Rattle.time_read.proofs.laws.written_texts_are_read.Goals as goal

pub returns : goal.returns
returns c = record {
  rfc3339 = λ v text fits e. ((completed_are_canonical rfc3339_is_written).completed text v fits e).0;
  iso8601 = iso_is_rfc;
  stamps = λ v h. stamp_is_rfc v _ h refl;
  rfc2822 = λ v text fits e. ((completed_are_canonical rfc2822_is_written).completed text v fits e).0;
}
