-- What a text of ISO 8601 is made of.
use Rattle.std.specs.Prelude.{◌≡◌, Bool, IsTrue}
use Rattle.time_known.specs.Config.{Choices, groups_of}
use Rattle.time_known.specs.Groups.{are_supplied}
use Rattle.time_known.specs.Values.{Facts}
use Rattle.time_provide.specs.Real.{AreReal}
use Rattle.time_known.specs.declared.iso8601.config.FormattedComponents.TheVariants as components

-- the groups of the parts that are written are supplied
abbrev pub SuppliesParts : Choices → Bool → Bool → Bool → Type 0
SuppliesParts c date time offset = IsTrue (are_supplied (groups_of c.formatted_components) date time offset)

-- the facts are real, where all parts are written
abbrev pub IsRealWhole : Choices → Facts → Type 0
IsRealWhole c f = c.formatted_components ≡ components.DateTimeOffset → AreReal f
