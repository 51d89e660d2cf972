-- Descriptions of every type, as trees.
use Rattle.std.specs.Prelude.{ℕ, List, [], ◌∷◌, map, if◌then◌else◌, string_bytes}
use Rattle.time_below.specs.Conversion.{current_component}
use Rattle.time_below.specs.declared.format_description.component.Component.{Component}
use Rattle.time_below.specs.declared.format_description.component.Component.TheVariants as component
use Rattle.time_below.specs.declared.format_description.layer.Layer.{Layer}
use Rattle.time_below.specs.declared.format_description.layer.Layer.TheVariants as layer
use Rattle.time_below.specs.declared.format_description.borrowed_format_item.BorrowedFormatItem as borrowed
use Rattle.time_below.specs.declared.format_description.owned_format_item.OwnedFormatItem as owned
use Rattle.time_below.specs.declared.format_description.format_description_v3.FormatDescriptionV3Inner as v3

-- a literal, a component, all of a list of trees, the first of one, or nothing
mutual
  pub data Tree : Type 0 where
    byte_literal : List ℕ → Tree
    text_literal : List ℕ → Tree
    of_component : Component → Tree
    all_of : Trees → Tree
    first_of : Trees → Tree
    nothing : Tree

  pub data Trees : Type 0 where
    end : Trees
    more : Tree → Trees → Trees

abbrev pub trees : List Tree → Trees
trees [] = end
trees (t ∷ ts) = more t (trees ts)

-- the tree of a layer, whose items have trees
abbrev pub layer_tree : {A : Type 0} → (A → Tree) → Layer A → Tree
layer_tree tree (layer.Bytes bytes) = byte_literal bytes.now
layer_tree tree (layer.Text text) = text_literal text.now
layer_tree tree (layer.Component c) = of_component c
layer_tree tree (layer.All items) = all_of (trees (map tree items.now))
layer_tree tree (layer.First items) = first_of (trees (map tree items.now))
layer_tree tree (layer.Optional item) = tree item.now
layer_tree tree layer.Nothing = nothing

-- one layer of a borrowed item, whose children are translated: an optional item is always there
abbrev pub borrowed_layer : borrowed.BorrowedFormatItem-F Tree → Tree
borrowed_layer (borrowed.TheOpen.Literal bytes) = byte_literal bytes.now
borrowed_layer (borrowed.TheOpen.StringLiteral text) = text_literal text.now
borrowed_layer (borrowed.TheOpen.Component c) = of_component c
borrowed_layer (borrowed.TheOpen.Compound ts) = all_of (trees ts.now)
borrowed_layer (borrowed.TheOpen.Optional t) = t.now
borrowed_layer (borrowed.TheOpen.First ts) = first_of (trees ts.now)

abbrev pub borrowed_tree : borrowed.BorrowedFormatItem → Tree
borrowed_tree = borrowed.fold-BorrowedFormatItem Tree borrowed_layer

-- one layer of an owned item, whose children are translated
abbrev pub owned_layer : owned.OwnedFormatItem-F Tree → Tree
owned_layer (owned.TheOpen.Literal bytes) = byte_literal bytes.items
owned_layer (owned.TheOpen.StringLiteral text) = text_literal (string_bytes text)
owned_layer (owned.TheOpen.Component c) = of_component c
owned_layer (owned.TheOpen.Compound ts) = all_of (trees ts.items)
owned_layer (owned.TheOpen.Optional t) = t.value
owned_layer (owned.TheOpen.First ts) = first_of (trees ts.items)

abbrev pub owned_tree : owned.OwnedFormatItem → Tree
owned_tree = owned.fold-OwnedFormatItem Tree owned_layer

-- one layer of a description of the third version: an optional item is there where it says so
abbrev pub v3_layer : v3.FormatDescriptionV3Inner-F Tree → Tree
v3_layer (v3.TheOpen.BorrowedLiteral text) = text_literal text.now
v3_layer (v3.TheOpen.BorrowedCompound ts) = all_of (trees ts.now)
v3_layer (v3.TheOpen.BorrowedOptional format t) = if format then t.now else nothing
v3_layer (v3.TheOpen.BorrowedFirst ts) = first_of (trees ts.now)
v3_layer (v3.TheOpen.OwnedLiteral text) = text_literal (string_bytes text)
v3_layer (v3.TheOpen.OwnedCompound ts) = all_of (trees ts.items)
v3_layer (v3.TheOpen.OwnedOptional format t) = if format then t.value else nothing
v3_layer (v3.TheOpen.OwnedFirst ts) = first_of (trees ts.items)
v3_layer (v3.TheOpen.Day m) = of_component (component.Day m)
v3_layer (v3.TheOpen.MonthShort m) = of_component (component.MonthShort m)
v3_layer (v3.TheOpen.MonthLong m) = of_component (component.MonthLong m)
v3_layer (v3.TheOpen.MonthNumerical m) = of_component (component.MonthNumerical m)
v3_layer (v3.TheOpen.Ordinal m) = of_component (component.Ordinal m)
v3_layer (v3.TheOpen.WeekdayShort m) = of_component (component.WeekdayShort m)
v3_layer (v3.TheOpen.WeekdayLong m) = of_component (component.WeekdayLong m)
v3_layer (v3.TheOpen.WeekdaySunday m) = of_component (component.WeekdaySunday m)
v3_layer (v3.TheOpen.WeekdayMonday m) = of_component (component.WeekdayMonday m)
v3_layer (v3.TheOpen.WeekNumberIso m) = of_component (component.WeekNumberIso m)
v3_layer (v3.TheOpen.WeekNumberSunday m) = of_component (component.WeekNumberSunday m)
v3_layer (v3.TheOpen.WeekNumberMonday m) = of_component (component.WeekNumberMonday m)
v3_layer (v3.TheOpen.CalendarYearFullExtendedRange m) = of_component (component.CalendarYearFullExtendedRange m)
v3_layer (v3.TheOpen.CalendarYearFullStandardRange m) = of_component (component.CalendarYearFullStandardRange m)
v3_layer (v3.TheOpen.CalendarYearCenturyExtendedRange m) = of_component (component.CalendarYearCenturyExtendedRange m)
v3_layer (v3.TheOpen.CalendarYearCenturyStandardRange m) = of_component (component.CalendarYearCenturyStandardRange m)
v3_layer (v3.TheOpen.CalendarYearLastTwo m) = of_component (component.CalendarYearLastTwo m)
v3_layer (v3.TheOpen.IsoYearFullExtendedRange m) = of_component (component.IsoYearFullExtendedRange m)
v3_layer (v3.TheOpen.IsoYearFullStandardRange m) = of_component (component.IsoYearFullStandardRange m)
v3_layer (v3.TheOpen.IsoYearCenturyExtendedRange m) = of_component (component.IsoYearCenturyExtendedRange m)
v3_layer (v3.TheOpen.IsoYearCenturyStandardRange m) = of_component (component.IsoYearCenturyStandardRange m)
v3_layer (v3.TheOpen.IsoYearLastTwo m) = of_component (component.IsoYearLastTwo m)
v3_layer (v3.TheOpen.Hour12 m) = of_component (component.Hour12 m)
v3_layer (v3.TheOpen.Hour24 m) = of_component (component.Hour24 m)
v3_layer (v3.TheOpen.Minute m) = of_component (component.Minute m)
v3_layer (v3.TheOpen.Period m) = of_component (component.Period m)
v3_layer (v3.TheOpen.Second m) = of_component (component.Second m)
v3_layer (v3.TheOpen.Subsecond m) = of_component (component.Subsecond m)
v3_layer (v3.TheOpen.OffsetHour m) = of_component (component.OffsetHour m)
v3_layer (v3.TheOpen.OffsetMinute m) = of_component (component.OffsetMinute m)
v3_layer (v3.TheOpen.OffsetSecond m) = of_component (component.OffsetSecond m)
v3_layer (v3.TheOpen.UnixTimestampSecond m) = of_component (component.UnixTimestampSecond m)
v3_layer (v3.TheOpen.UnixTimestampMillisecond m) = of_component (component.UnixTimestampMillisecond m)
v3_layer (v3.TheOpen.Ignore m) = of_component (component.Ignore m)
v3_layer (v3.TheOpen.End m) = of_component (component.End m)

abbrev pub v3_tree : v3.FormatDescriptionV3Inner → Tree
v3_tree = v3.fold-FormatDescriptionV3Inner Tree v3_layer

-- byte literals read as texts, and current components in the place of deprecated ones
abbrev mutual
  pub unmarked : Tree → Tree
  unmarked (byte_literal bytes) = text_literal bytes
  unmarked (text_literal text) = text_literal text
  unmarked (of_component c) = of_component (current_component c)
  unmarked (all_of ts) = all_of (all_unmarked ts)
  unmarked (first_of ts) = first_of (all_unmarked ts)
  unmarked nothing = nothing

  pub all_unmarked : Trees → Trees
  all_unmarked end = end
  all_unmarked (more t ts) = more (unmarked t) (all_unmarked ts)
