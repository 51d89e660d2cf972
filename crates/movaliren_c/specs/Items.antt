-- What a description that crosses as data means: a tree for each item, or the reason why there is
-- none.
use Rattle.std.specs.Prelude.{ℕ, ◌≡◌, ◌≢◌, ◌<◌, ◌≤◌, ◌++◌, min, ◌+◌, ◌-◌, Bool, true, ◌==◌, ◌&&◌, nat_le, nat_lt, List, [], ◌∷◌, map, length, drop, None}
use Rattle.std.specs.Prelude.{slice_range, Result, Ok, Err, IfOk, IsOkAnd, if◌then◌else◌}
use Rattle.movaliren_c.specs.Answer.{IsRefusedFor, IsText, gives}
use Rattle.movaliren_c.specs.Value.{flag_at, numbered, with_value}
use Rattle.movaliren_c.specs.declared.described.item.Item.{Item}
use Rattle.movaliren_c.specs.declared.described.item.Part.{Part}
use Rattle.movaliren_c.specs.declared.described.item.Part.TheVariants as part
use Rattle.movaliren_c.specs.declared.answers.reason.Reason.{Reason}
use Rattle.movaliren_c.specs.declared.answers.reason.Reason.TheVariants as reason
use Rattle.time_below.specs.Facts.{Facts}
use Rattle.time_below.specs.Tree.{Tree, trees, all_of, byte_literal, nothing, of_component}
use Rattle.time_below.specs.UsualParts.{year_part, month_part, day_part, hour_part, minute_part, second_part}
use Rattle.time_below.specs.Width.{tree_width, trees_width}
use Rattle.time_below.specs.declared.format_description.component.Component.{Component}
use Rattle.time_below.specs.declared.format_description.component.Component.TheVariants as component
use Rattle.time_below.specs.declared.format_description.modifier.Padding.{Padding}
use Rattle.time_below.specs.declared.format_description.modifier.Padding.TheVariants as padding
use Rattle.time_below.specs.declared.format_description.modifier.SubsecondDigits.{SubsecondDigits}
use Rattle.time_below.specs.declared.format_description.modifier.SubsecondDigits.TheVariants as digits
use Rattle.time_fmt.specs.Description.{tree_outcome, trees_outcome}
use Rattle.time_fmt.specs.Ends.{Ends}
use Rattle.time_fmt.specs.Outcome.{Outcome}
use Rattle.time_fmt.specs.Runs.{run_tree, three_parts}
use Rattle.time_fmt.specs.Sink.{Buffer, Puts}
use Rattle.time_fmt.specs.declared.refused.Refused.{Refused}
use Rattle.time_fmt.specs.declared.separators.Separators.{Separators}

abbrev pub padding_at : ℕ → Result Padding Reason
padding_at n = numbered 0 (padding.Zero ∷ padding.Space ∷ padding.None ∷ []) reason.BadItem n

abbrev pub digits_at : ℕ → Result SubsecondDigits Reason
digits_at n =
    numbered 0 (digits.OneOrMore ∷ digits.One ∷ digits.Two ∷ digits.Three ∷ digits.Four ∷ digits.Five ∷ digits.Six ∷
    digits.Seven ∷ digits.Eight ∷ digits.Nine ∷ []) reason.BadItem n

-- the components of a date, but for its year, in the order of their numbers
unfoldable pub date_component : ℕ → Padding → Bool → Result Component Reason
date_component k p f = numbered 1 (
    component.Day (record { padding = p })
    ∷ component.MonthShort (record { case_sensitive = true })
    ∷ component.MonthLong (record { case_sensitive = true })
    ∷ component.MonthNumerical (record { padding = p })
    ∷ component.Ordinal (record { padding = p })
    ∷ component.WeekdayShort (record { case_sensitive = true })
    ∷ component.WeekdayLong (record { case_sensitive = true })
    ∷ component.WeekdaySunday (record { one_indexed = f })
    ∷ component.WeekdayMonday (record { one_indexed = f })
    ∷ component.WeekNumberIso (record { padding = p })
    ∷ component.WeekNumberSunday (record { padding = p })
    ∷ component.WeekNumberMonday (record { padding = p })
    ∷ []) reason.BadItem k

-- the components of a year
unfoldable pub year_component : ℕ → Padding → Bool → Result Component Reason
year_component k p f = numbered 13 (
    component.CalendarYearFullExtendedRange (record { padding = p; sign_is_mandatory = f })
    ∷ component.CalendarYearFullStandardRange (record { padding = p; sign_is_mandatory = f })
    ∷ component.CalendarYearCenturyExtendedRange (record { padding = p; sign_is_mandatory = f })
    ∷ component.CalendarYearCenturyStandardRange (record { padding = p; sign_is_mandatory = f })
    ∷ component.CalendarYearLastTwo (record { padding = p })
    ∷ component.IsoYearFullExtendedRange (record { padding = p; sign_is_mandatory = f })
    ∷ component.IsoYearFullStandardRange (record { padding = p; sign_is_mandatory = f })
    ∷ component.IsoYearCenturyExtendedRange (record { padding = p; sign_is_mandatory = f })
    ∷ component.IsoYearCenturyStandardRange (record { padding = p; sign_is_mandatory = f })
    ∷ component.IsoYearLastTwo (record { padding = p })
    ∷ []) reason.BadItem k

-- the components of a time, an offset and a moment
unfoldable pub time_component : ℕ → Padding → Bool → SubsecondDigits → Result Component Reason
time_component k p f d = numbered 23 (
    component.Hour12 (record { padding = p })
    ∷ component.Hour24 (record { padding = p })
    ∷ component.Minute (record { padding = p })
    ∷ component.Period (record { is_uppercase = f; case_sensitive = true })
    ∷ component.Second (record { padding = p })
    ∷ component.Subsecond (record { digits = d })
    ∷ component.OffsetHour (record { padding = p; sign_is_mandatory = f })
    ∷ component.OffsetMinute (record { padding = p })
    ∷ component.OffsetSecond (record { padding = p })
    ∷ component.UnixTimestampSecond (record { sign_is_mandatory = f })
    ∷ component.UnixTimestampMillisecond (record { sign_is_mandatory = f })
    ∷ []) reason.BadItem k

-- the component of a number, with its padding, flag and decimals
abbrev pub component_at : ℕ → Padding → Bool → SubsecondDigits → Result Component Reason
component_at k p f d =
    if nat_lt k 13 then date_component k p f
    else (if nat_lt k 23 then year_component k p f else time_component k p f d)

unfoldable pub component_of : Item → Result Component Reason
component_of i =
    with_value (padding_at i.padding) (λ p.
    with_value (flag_at i.flag reason.BadItem) (λ f.
    with_value (digits_at i.digits) (λ d.
    component_at i.kind p f d)))

-- three components and a byte of ASCII between each two, which an item has in the fields of a text
abbrev pub parted_tree : Component → Component → Component → Item → Result Tree Reason
parted_tree p q r i =
    if nat_lt i.start 128 && nat_lt i.len 128
    then Ok (three_parts p i.start q i.len r)
    else Err reason.BadItem

-- the same tree by the bytes, or the reason why they are none
abbrev pub parted_by : Component → Component → Component → Result Separators Reason → Result Tree Reason
parted_by p q r between = with_value between (λ b. Ok (three_parts p b.first q b.second r))

-- the bytes of the texts that an item of kind 255 names, the byte that stands in one of kind 254, the date of one of kind
-- 253, the time of day of one of kind 252, or a component; kind 0 is none of these
abbrev pub item_tree : List ℕ → Item → Result Tree Reason
item_tree texts i =
    if i.kind == 255
    then (if nat_le i.start (length texts) && nat_le i.len (length texts - i.start)
    then Ok (byte_literal (slice_range texts i.start (i.start + i.len)))
    else Err reason.BadItem)
    else (if i.kind == 254 then Ok (byte_literal (i.byte ∷ []))
    else (if i.kind == 253 then parted_tree year_part month_part day_part i
    else (if i.kind == 252 then parted_tree hour_part minute_part second_part i
    else with_value (component_of i) (λ c. Ok (of_component c)))))

-- all values in order, or the first reason
abbrev pub list_of : {A : Type 0} → List (Result A Reason) → Result (List A) Reason
list_of [] = Ok []
list_of (Err r ∷ rest) = Err r
list_of (Ok a ∷ rest) = with_value (list_of rest) (λ others. Ok (a ∷ others))

-- the trees of the items, in order, or the reason why the first invalid one is invalid
abbrev pub trees_of : List ℕ → List Item → Result (List Tree) Reason
trees_of texts items = list_of (map (item_tree texts) items)

-- the tree of a valid item, and nothing for any other
abbrev pub tree_or_nothing : Result Tree Reason → Tree
tree_or_nothing (Ok t) = t
tree_or_nothing (Err invalid) = nothing

-- the tree of a part
abbrev pub part_tree : Part → Tree
part_tree (part.Text bytes) = byte_literal bytes.now
part_tree (part.Byte b) = byte_literal (b ∷ [])
part_tree (part.Component c) = of_component c
part_tree (part.Run r) = run_tree r

abbrev pub tree_of : Result Part Reason → Result Tree Reason
tree_of part = with_value part (λ part. Ok (part_tree part))

-- what a description gives for a value, or the reason why there is no description, which comes
-- first, or no value
abbrev pub described : {V : Type 0} → Result (List Tree) Reason → Result V Reason → (V → Facts)
    → Result Outcome Reason
described description value facts = with_value description (λ ts. gives value (λ v. trees_outcome
    (trees ts) (facts v)))

-- the width of a description, up to the greatest `isize`, or the reason why there is no description
abbrev pub width_answer : Result (List Tree) Reason → Result ℕ Reason
width_answer description = with_value description (λ ts. Ok (min (trees_width (trees ts)) 0x7fff_ffff_ffff_ffff))

-- A text has no more bytes than the width, and a buffer of so many bytes is large enough.
pub record IsWithinWidth (width room : ℕ) (answer : Result ℕ Reason) : Type 0 where
  pub within : IfOk answer (λ count. count ≤ width)
  pub fits : width ≤ room → answer ≢ Err reason.BufferTooSmall

-- The text of a description is written, or the reason for no text is returned and the buffer is unchanged. Where there
-- is a value, its text is within the description's width.
pub record IsDescribed {V : Type 0} (texts : List ℕ) (items : List Item) (value : Result V Reason) (facts : V → Facts)
    (answer : Result ℕ Reason) (before after : List ℕ) : Type 0 where
  pub text : IsText (described (trees_of texts items) value facts) answer before after
  pub within : IfOk value (λ _. IfOk (trees_of texts items) (λ ts. IsWithinWidth (trees_width (trees ts)) (length before)
      answer))

-- ---- a text that may not fit

-- the reason why there is no description, or else this one
abbrev pub reason_before : Result (List Tree) Reason → Reason → Reason
reason_before (Ok ts) r = r
reason_before (Err invalid) r = invalid

-- an answer, whose reason is this one where there is a description
abbrev pub answer_before : Result (List Tree) Reason → Result ℕ Reason → Result ℕ Reason
answer_before description (Ok n) = Ok n
answer_before description (Err r) = Err (reason_before description r)

-- A text was put, or it is longer than the room, and has so many bytes more than were put. Both numbers are up to the
-- greatest `usize`.
pub record PutsOrLoses (old new : Buffer) (lost : ℕ) (text : List ℕ) : Type 0 where
  pub block : new.block ≡ old.block
  pub small : lost ≤ 0xffff_ffff_ffff_ffff
  pub counted : min (new.len + lost) 0xffff_ffff_ffff_ffff ≡ min (old.len + length text) 0xffff_ffff_ffff_ffff
  pub put : lost ≡ 0 → Puts old new (length text) text
  pub longer : 0 < lost → old.block.capacity < old.len + length text

-- an item that is there ended
abbrev pub EndsItem : Result Tree Reason → Facts → Buffer → Buffer → Result Unit Refused → Type 0
EndsItem item f old new answer = IsOkAnd item (λ t. Ends (tree_width t) old new answer (tree_outcome t f))

-- The outcome of a tree is completed, is within its width, and was put or is longer than the room. Or this is the reason
-- why it is refused, or why there is no tree.
abbrev pub IsPut : Result Tree Reason → Facts → Buffer → Buffer → Result ℕ Reason → Type 0
IsPut (Ok t) f old new (Ok lost) = ((tree_outcome t f).refusal ≡ None) × (length (tree_outcome t f).bytes ≤ tree_width t)
    × PutsOrLoses old new lost (tree_outcome t f).bytes
IsPut (Ok t) f old new (Err r) = IsRefusedFor r (tree_outcome t f)
IsPut (Err invalid) f old new answer = answer ≡ Err invalid

-- a description as one tree
abbrev pub as_one : Result (List Tree) Reason → Result Tree Reason
as_one description = with_value description (λ ts. Ok (all_of (trees ts)))

-- an outcome is completed, is within a width and has so many bytes, which are at the start of a buffer that holds them
pub record Shows (o : Outcome) (width count : ℕ) (before after : List ℕ) : Type 0 where
  pub completed : o.refusal ≡ None
  pub within : length o.bytes ≤ width
  pub counted : count ≡ min (length o.bytes) 0xffff_ffff_ffff_ffff
  pub written : length o.bytes ≤ length before → after ≡ o.bytes ++ drop (length o.bytes) before

-- a description shows these facts, or this is why not
abbrev pub IsShown : Result (List Tree) Reason → Facts → Result ℕ Reason → List ℕ → List ℕ → Type 0
IsShown (Ok ts) f (Ok count) before after =
    Shows (trees_outcome (trees ts) f) (trees_width (trees ts)) count before after
IsShown (Ok ts) f (Err r) before after = IsRefusedFor r (trees_outcome (trees ts) f)
IsShown (Err invalid) f answer before after = answer ≡ Err invalid
