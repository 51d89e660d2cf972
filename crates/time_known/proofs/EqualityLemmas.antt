-- Configurations of ISO 8601 are equal exactly if all their fields are.
use Rattle.std.proofs.Common.{◌≡◌, true, subst, arith}
use Rattle.std.specs.Cmp.{booleans_Decides}
use Rattle.std.proofs.lemmas.Bool.{and_parts, eqb-true}
use denote.Enum.Bare.{same_true}
use Rattle.time_known.specs.Config.{Choices, TimePrecision}
use Rattle.time_known.specs.contracts.iso8601.config.ConfigEq.TheImpl.Laws.{laws-law}
use Rattle.time_known.specs.contracts.iso8601.config.ConfigPartialEq.TheImpl as of_config
use Rattle.time_known.specs.contracts.iso8601.config.DateKind as date_kind
use Rattle.time_known.specs.contracts.iso8601.config.DecimalSign as decimal_sign
use Rattle.time_known.specs.contracts.iso8601.config.FormattedComponents as formatted_components
use Rattle.time_known.specs.contracts.iso8601.config.OffsetPrecision as offset_precision
use Rattle.time_known.specs.contracts.iso8601.config.TimePrecisionPartialEq.TheImpl as of_time_precision
use Rattle.std.proofs.lemmas.Grind.{common_steps}

-- ---- precisions of a time

-- precisions that are found equal have the same unit and decimals
same_precision : (a b : TimePrecision) → of_time_precision.ghosts.eq a b ≡ true → a ≡ b
same_precision a b h = grind (arith, common_steps, eqb-true)

-- ---- configurations

-- configurations that are found equal have the same choices
pub same_choices : (a b : Choices) → of_config.ghosts.eq a b ≡ true → a ≡ b
same_choices a b h =
    let parts = and_parts _ _ h in
    let separators = and_parts _ _ parts.1 in
    let six_digits = and_parts _ _ separators.1 in
    let kind = and_parts _ _ six_digits.1 in
    let time = and_parts _ _ kind.1 in
    let offset = and_parts _ _ time.1 in
    λ i. record {
      formatted_components = same_true formatted_components.the_type tt a.formatted_components b.formatted_components parts.0 i;
      use_separators = (booleans_Decides a.use_separators b.use_separators).0 separators.0 i;
      year_is_six_digits = (booleans_Decides a.year_is_six_digits b.year_is_six_digits).0 six_digits.0 i;
      date_kind = same_true date_kind.the_type tt a.date_kind b.date_kind kind.0 i;
      time_precision = same_precision a.time_precision b.time_precision time.0 i;
      offset_precision = same_true offset_precision.the_type tt a.offset_precision b.offset_precision offset.0 i;
      decimal_sign = same_true decimal_sign.the_type tt a.decimal_sign b.decimal_sign offset.1 i;
    }

-- equal configurations compare as equal
pub equal_choices : (a b : Choices) → a ≡ b → of_config.ghosts.eq a b ≡ true
equal_choices a b e = subst (λ (c : Choices). of_config.ghosts.eq a c ≡ true) e (laws-law.refl a)
