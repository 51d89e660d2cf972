-- A completed text of ISO 8601 spells the value whose groups were formatted.
use Rattle.std.proofs.Common.{◌≡◌, ℕ, true, refl, sym, ap, subst, ◌∙◌, Ok, Err, None, Result, Vec}
use Rattle.std.specs.Prelude.{IfOk, OnOk}
use Rattle.std.specs.Global.{Global}
use Rattle.time_fmt.specs.declared.error.Format.{Format}
use Rattle.time_fmt.specs.Outcome.{Outcome, Appends}
use Rattle.time_known.specs.Config.{Choices, groups_of}
use Rattle.time_known.specs.Values.{Facts}
use Rattle.time_known.specs.Groups.{has_groups, at_groups}
use Rattle.time_known.specs.Iso8601.{iso_of_groups, iso8601_outcome}
use Rattle.time_known.specs.Iso8601Parts.{IsRealWhole}
use Rattle.time_known.specs.Iso8601Grammar.{Iso8601Spells, IsCanonicalIso8601, iso8601_reads_as}
use Rattle.time_known.specs.ReadBack.{ReadsAs}
use Rattle.time_known.specs.declared.iso8601.config.FormattedComponents.TheVariants as components
use Rattle.time_known.proofs.iso8601.WholeLemmas.{joined_is_written}
use Rattle.time_known.proofs.LawLemmas.{completed_are_canonical}
use Rattle.time_known.proofs.ReadBackLemmas.{reads_as}

-- completed bytes spell the value of their groups
iso8601_reads : (c : Choices) (f : Facts) → has_groups (groups_of c.formatted_components) f ≡ true
    → IsRealWhole c f → (iso8601_outcome c f).refusal ≡ None
    → iso8601_reads_as c f (iso8601_outcome c f).bytes
iso8601_reads c f there real complete w =
    let all = ap (λ parts. has_groups (groups_of parts) f) (sym w.components) ∙ there in
    let same : iso8601_outcome c f ≡ at_groups (iso_of_groups components.DateTimeOffset c) f =
    rw (w.components, all) refl in
    let read = reads_as (iso_of_groups components.DateTimeOffset c) (completed_are_canonical (joined_is_written c w)) f all
    (real w.components) (sym (ap (λ (x : Outcome). x.refusal) same) ∙ complete) in
    subst (λ (x : Outcome). ReadsAs (λ v. v) (Iso8601Spells c) (IsCanonicalIso8601 c) f x.bytes) (sym same) read

-- a completed text spells the value
pub completed_reads : {old new : Vec ℕ Global} (answer : Result ℕ Format) (read c : Choices) (f : Facts)
    → read ≡ c → has_groups (groups_of read.formatted_components) f ≡ true
    → OnOk answer (IsRealWhole read f)
    → Appends old new answer (iso8601_outcome read f)
    → IfOk answer (λ _. iso8601_reads_as c f (iso8601_outcome c f).bytes)
completed_reads (Ok n) read c f e there real appends =
    subst (λ (choices : Choices). iso8601_reads_as choices f (iso8601_outcome choices f).bytes) e
    (iso8601_reads read f there real appends.counted.0)
completed_reads (Err r) read c f e there real appends = tt
