-- What calls leave that read a text as a description.
use Rattle.std.specs.Prelude.{ℕ, ◌≡◌, ◌<◌, ◌≤◌, ◌+◌, ◌-◌, ◌++◌, min, Option, Bool, true, false, nat_le, List, [], ◌∷◌, length, take, Result, Ok, Err, IsOkAnd, if◌then◌else◌}
use Rattle.movaliren_c.specs.Flat.{first_shown, flat_items, hidden_at, shown_in}
use Rattle.movaliren_c.specs.Items.{component_of, item_tree, trees_of}
use Rattle.movaliren_c.specs.declared.described.item.Item.{Item}
use Rattle.movaliren_c.specs.declared.answers.reason.Reason.{Reason}
use Rattle.movaliren_c.specs.declared.answers.reason.Reason.TheVariants as reason
use Rattle.movaliren_c.specs.declared.described.syntax.ParseError.{ParseError}
use Rattle.time_below.specs.Conversion.{is_current}
use Rattle.time_below.specs.Facts.{Facts}
use Rattle.time_below.specs.Tree.{Tree, trees, all_of}
use Rattle.time_below.specs.declared.format_description.component.Component.{Component}
use Rattle.time_below.specs.declared.format_description.component.Component.TheVariants as component
use Rattle.time_describe.specs.Reading as reading
use Rattle.time_describe.specs.Reading.{Frame}
use Rattle.time_describe.specs.Strftime as strftime
use Rattle.time_describe.specs.declared.brackets.reason.BracketReason.{BracketReason}
use Rattle.time_describe.specs.declared.brackets.reason.BracketReason.TheVariants as bracket_reason
use Rattle.time_describe.specs.declared.fault.Fault.{Fault}
use Rattle.time_describe.specs.declared.strftime.reason.StrftimeReason.{StrftimeReason}
use Rattle.time_describe.specs.declared.strftime.reason.StrftimeReason.TheVariants as strftime_reason
use Rattle.time_fmt.specs.Description.{tree_outcome, trees_outcome}
use Rattle.time_fmt.specs.declared.runs.Run.{Run}
use Rattle.time_fmt.specs.declared.runs.Run.TheVariants as run
use Rattle.time_fmt.specs.declared.separators.Separators.{Separators}

-- ---- items of trees

-- the component with all that a text shows of it: what parsers alone read is as an item has it
abbrev pub shown : Component → Component
shown (component.MonthShort m) = component.MonthShort (record { case_sensitive = true })
shown (component.MonthLong m) = component.MonthLong (record { case_sensitive = true })
shown (component.WeekdayShort m) = component.WeekdayShort (record { case_sensitive = true })
shown (component.WeekdayLong m) = component.WeekdayLong (record { case_sensitive = true })
shown (component.Period m) = component.Period (record { is_uppercase = m.is_uppercase; case_sensitive = true })
shown c = c

-- whether a text shows something of the component, which is not deprecated
abbrev pub is_shown : Component → Bool
is_shown (component.Ignore m) = false
is_shown (component.End m) = false
is_shown c = is_current c

-- an item of this component
pub record IsItemOf (c : Component) (i : Item) : Type 0 where
  pub kind : i.kind < 252
  pub component : component_of i ≡ Ok (shown c)

-- the item shows what the tree does, of any value
pub record IsItem (text : List ℕ) (i : Item) (t : Tree) : Type 0 where
  pub tree : Tree
  pub there : item_tree text i ≡ Ok tree
  pub same : (f : Facts) → tree_outcome tree f ≡ tree_outcome t f

-- the items are a description that gives what the trees do, of any value
pub record Describes (text : List ℕ) (items : List Item) (all : List Tree) : Type 0 where
  pub description : List Tree
  pub there : trees_of text items ≡ Ok description
  pub same : (f : Facts) → trees_outcome (trees description) f ≡ trees_outcome (trees all) f

-- An array, how many items were made of those of a text, and how many more it has, up to the greatest `usize`. There is
-- one for each tree, or one for a date or a time of day. If the array has room for all that the text has, those that were
-- made are at its start.
pub record HoldsItems (text : List ℕ) (array : List Item) (made rest : ℕ) (ts : List Tree) : Type 0 where
  pub counted : min (made + rest) 0xffff_ffff_ffff_ffff ≡ min (length ts) 0xffff_ffff_ffff_ffff
  pub fewer : made ≤ length ts
  pub held : length ts ≤ length array → Describes text (take made array) ts

-- the same of what is shown of items in open lists, of which so many are around the outermost one that is left out
pub record HoldsIn (text : List ℕ) (fs : List Frame) (array : List Item) (made rest : ℕ) (outermost : Option ℕ) (items : List Tree) : Type 0 where
  pub hidden : outermost ≡ hidden_at fs
  pub held : HoldsItems text array made rest (shown_in fs (flat_items items))

-- and of lists in brackets, behind items
pub record HoldsListsIn (text : List ℕ) (fs : List Frame) (items : List Tree) (array : List Item) (made rest : ℕ) (outermost : Option ℕ) (lists : List Tree) : Type 0 where
  pub hidden : outermost ≡ hidden_at fs
  pub held : HoldsItems text array made rest (shown_in fs (flat_items items ++ first_shown lists []))

-- an array has what was made of the items of a text, if they fit
pub record IsHeld (text : List ℕ) (described : Result (List Tree) ParseError) (array : List Item) (made rest : ℕ) : Type 0 where
  pub all : List Tree
  pub is : described ≡ Ok all
  pub held : HoldsItems text array made rest all

-- ---- dates and times of day

-- the item of a date or of a time of day
abbrev pub run_of : ℕ → Separators → Item
run_of kind between = record { kind = kind; padding = 0; flag = 0; digits = 0; byte = 0; start = between.first; len = between.second }

abbrev pub item_of_run : Run → Item
item_of_run (run.Date between) = run_of 253 between
item_of_run (run.Time between) = run_of 252 between

-- one item shows what these do, of any value
pub record Joins (text : List ℕ) (items : List Item) (i : Item) : Type 0 where
  pub shown : List Tree
  pub there : trees_of text items ≡ Ok shown
  pub one : IsItem text i (all_of (trees shown))

-- ---- faults, as C sees them

-- the number of a reason, and the byte that it names
abbrev pub strftime_number : StrftimeReason → ℕ × ℕ
strftime_number strftime_reason.Unfinished = (12, 0)
strftime_number (strftime_reason.UnknownConversion b) = (13, b)
strftime_number strftime_reason.ZoneName = (14, 0)
strftime_number (strftime_reason.LocaleModifier b) = (15, b)
strftime_number (strftime_reason.FieldWidth b) = (16, b)
strftime_number (strftime_reason.CaseFlag b) = (17, b)
strftime_number strftime_reason.PlusFlag = (18, 0)
strftime_number (strftime_reason.SecondFlag b) = (19, b)
strftime_number (strftime_reason.FlagWithoutNumber b) = (20, b)
strftime_number strftime_reason.TooManyItems = (11, 0)

abbrev pub bracket_number : BracketReason → ℕ × ℕ
bracket_number bracket_reason.UnclosedBracket = (1, 0)
bracket_number bracket_reason.InvalidEscape = (2, 0)
bracket_number bracket_reason.MissingName = (3, 0)
bracket_number bracket_reason.UnknownName = (4, 0)
bracket_number bracket_reason.UnknownModifier = (5, 0)
bracket_number bracket_reason.InvalidValue = (6, 0)
bracket_number bracket_reason.MissingModifier = (7, 0)
bracket_number bracket_reason.MissingItems = (8, 0)
bracket_number bracket_reason.UnexpectedByte = (9, 0)
bracket_number bracket_reason.TooDeep = (10, 0)
bracket_number bracket_reason.TooManyItems = (11, 0)

-- a fault at a byte
abbrev pub fault_at : ℕ → ℕ × ℕ → ParseError
fault_at at reason = record { at = at; items = 0; kind = reason.0; byte = reason.1 }

-- the lack of room for so many items
abbrev pub many : ℕ → ParseError
many items = record { at = 0; items = items; kind = 0; byte = 0 }

-- a text of more bytes than there is room for
abbrev pub long : ℕ → ParseError
long most = record { at = most; items = 0; kind = 0; byte = 0 }

-- The items of a text as C has them, those of lists in their places, or the text's first fault, where the reasons have
-- these numbers.
unfoldable pub items_in : {R : Type 0} → (R → ℕ × ℕ) → List ℕ → Result (List Tree) (Fault R) → Result (List Tree) ParseError
items_in number text (Ok all) = Ok (flat_items all)
items_in number text (Err fault) = Err (fault_at (length text - fault.left) (number fault.reason))

-- what a text in the syntax of strftime describes, which has no lists
abbrev pub strftime_items : List ℕ → Result (List Tree) ParseError
strftime_items text = items_in strftime_number text (strftime.described text)

-- what a text in brackets describes
abbrev pub bracket_items : List ℕ → Result (List Tree) ParseError
bracket_items text = items_in bracket_number text (reading.described text)

-- ---- what is left

-- an item of zeros alone, which is none
abbrev pub no_item : Item
no_item = record { kind = 0; padding = 0; flag = 0; digits = 0; byte = 0; start = 0; len = 0 }

-- no items from the first on are a description
abbrev pub DescribeNothing : List Item → Type 0
DescribeNothing [] = Unit {0}
DescribeNothing (i ∷ is) = (text : List ℕ) → item_tree text i ≡ Err reason.BadItem

abbrev pub LeavesItems : Bool → List ℕ → List Tree → Result ℕ Reason → List Item → ParseError → ParseError → Type 0
LeavesItems true text all answer items old new =
    IsOkAnd answer (λ count. (count ≤ length all) × Describes text (take count items) all) × (new ≡ old)
LeavesItems false text all answer items old new = (answer ≡ Err reason.ManyItems) × DescribeNothing items
    × (new ≡ many (min (length all) 0xffff_ffff_ffff_ffff))

-- Items that give what those of the text do are at the start of an array that has room for each of them, and the fault
-- is unchanged. Or the array describes nothing, and the fault says why.
abbrev pub Leaves : List ℕ → Result (List Tree) ParseError → Result ℕ Reason → List Item → ParseError → ParseError → Type 0
Leaves text (Ok all) answer items old new = LeavesItems (nat_le (length all) (length items)) text all answer items old new
Leaves text (Err f) answer items old new = (answer ≡ Err reason.BadDescription) × DescribeNothing items × (new ≡ f)

-- the trees of a text, which are at most so many
abbrev pub few_in : ℕ → Result (List Tree) ParseError → Result (List Tree) Reason
few_in room (Ok all) = if nat_le (length all) room then Ok all else Err reason.ManyItems
few_in room (Err f) = Err reason.BadDescription

-- those of a text that is formatted in one call are at most 64
abbrev pub few : Result (List Tree) ParseError → Result (List Tree) Reason
few described = few_in 64 described
