-- The contents of an error of the requested variant.
use Rattle.std.specs.Prelude.{Result, Ok, Err}
use Rattle.time_below.specs.declared.component_range.ComponentRange.{ComponentRange}
use Rattle.time_below.specs.declared.different_variant.DifferentVariant.{DifferentVariant}
use Rattle.time_fmt.specs.declared.error.Error.{Error}
use Rattle.time_fmt.specs.declared.error.Error.TheVariants as outer
use Rattle.time_fmt.specs.declared.error.Format.{Format}
use Rattle.time_fmt.specs.declared.error.Format.TheVariants as error

abbrev pub range_in : Format → Result ComponentRange DifferentVariant
range_in (error.ComponentRange range) = Ok range
range_in _ = Err (record {})

abbrev pub format_in : Error → Result Format DifferentVariant
format_in (outer.Format format) = Ok format
format_in (outer.ComponentRange range) = Err (record {})
