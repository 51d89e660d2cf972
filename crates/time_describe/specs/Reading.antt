-- What a text describes, byte by byte, with the first fault that is met.
use Rattle.std.specs.Prelude.{◌≡◌, ℕ, ◌+◌, Bool, true, false, not, ◌||◌, ◌&&◌, ◌==◌, nat_lt, codes, bytes_eq, List, [], ◌∷◌, ◌++◌, length, Option, Some, None, Result, Ok, Err}
use Rattle.std.specs.Prelude.{if◌then◌else◌}
use Rattle.std.specs.Char.{is_ascii_whitespace}
use Rattle.std.specs.List.{before_first, after_first}
use Rattle.time_below.specs.Conversion.{current_component}
use Rattle.time_below.specs.declared.format_description.component.Component.{Component}
use Rattle.time_below.specs.declared.format_description.component.Component.TheVariants as component
use Rattle.time_below.specs.Tree.{Tree, trees, of_component, all_of, first_of}
use Rattle.time_describe.specs.declared.fault.Fault.{Fault}
use Rattle.time_describe.specs.declared.brackets.reason.BracketReason.{BracketReason}
use Rattle.time_describe.specs.declared.brackets.reason.BracketReason.TheVariants.{UnclosedBracket, InvalidEscape, MissingName, UnknownName, MissingModifier, MissingItems, UnexpectedByte, TooDeep, TooManyItems}
use Rattle.time_describe.specs.declared.items.ListKind.{ListKind}
use Rattle.time_describe.specs.declared.items.ListKind.TheVariants as kinds
use Rattle.time_describe.specs.Limit.{most_items}
use Rattle.time_describe.specs.Literal.{literal_of}
use Rattle.time_describe.specs.Marks.{past}
use Rattle.time_describe.specs.Names.{named, modified}

infixl 10 ◌>>=◌
abbrev pub ◌>>=◌ : {A B : Type 0} → Result A (Fault BracketReason) → (A → Result B (Fault BracketReason)) → Result B (Fault BracketReason)
(Ok x) >>= f = f x
(Err e) >>= f = Err e

-- the bytes that mean something
abbrev pub opening : ℕ
opening = 91

abbrev pub closing : ℕ
closing = 93

abbrev pub backslash : ℕ
backslash = 92

abbrev pub colon : ℕ
colon = 58

-- what ends a literal
abbrev pub is_special : ℕ → Bool
is_special b = b == opening || b == backslash

-- what may follow a backslash
abbrev pub is_escapable : ℕ → Bool
is_escapable b = b == opening || (b == backslash || b == closing)

-- what ends a word in brackets
abbrev pub ends_word : ℕ → Bool
ends_word b = is_special b || (b == closing || is_ascii_whitespace b)

-- a fault, and how many bytes are left from there to the end of the text
abbrev pub fails : {A : Type 0} → BracketReason → ℕ → Result A (Fault BracketReason)
fails reason left = Err (record { reason = reason; left = left })

abbrev pub at_fault : {A : Type 0} → Result A BracketReason → ℕ → Result A (Fault BracketReason)
at_fault (Ok x) left = Ok x
at_fault (Err reason) left = fails reason left

-- the component of a name
abbrev pub of_name : Option Component → Result Component BracketReason
of_name None = Err UnknownName
of_name (Some c) = Ok c

-- The first word in brackets is the component's name. Each other one is `key:value`.
abbrev pub with_word : Option Component → List ℕ → Result Component BracketReason
with_word None word = of_name (named word)
with_word (Some c) word = modified c (before_first (λ b. b == colon) word) (after_first (λ b. b == colon) word)

-- A first word that opens lists of items, each in brackets of its own.
abbrev pub keyword : List ℕ → Option ListKind
keyword word =
    if bytes_eq word (codes "optional") then Some kinds.Optional
    else (if bytes_eq word (codes "first") then Some kinds.First
    else None)

abbrev pub list_kind_of : Option Component → List ℕ → Option ListKind
list_kind_of None word = keyword word
list_kind_of (Some c) word = None

-- lists that are not closed yet may be so many, one in the other
abbrev pub depth_limit : ℕ
depth_limit = 32

-- A list of items that is not closed yet: what it is for, how many bytes are left from the brackets around it and from
-- its own opening one on, the items before those brackets, and the lists before it.
pub record Frame : Type 0 where
  pub kind : ListKind
  pub opened : ℕ
  pub opened_list : ℕ
  pub items : List Tree
  pub lists : List Tree

-- Where the next byte stands: outside of brackets; behind a backslash; in brackets, with how many bytes are left from
-- the opening one on, the component so far, and the word so far; between lists of items, with these before it.
pub data BytePlace : Type 0 where
  outside : BytePlace
  escape : BytePlace
  brackets : ℕ → Option Component → List ℕ → BytePlace
  between : ListKind → ℕ → List Tree → BytePlace

-- where a word ends, if it has bytes
abbrev pub word_place : ℕ → Option Component → List ℕ → Option ListKind → ℕ → Result BytePlace (Fault BracketReason)
word_place opened c word (Some n) left = Ok (between n opened [])
word_place opened c word None left = at_fault (with_word c word) left >>= λ c. Ok (brackets opened (Some c) [])

abbrev pub after_word : ℕ → Option Component → List ℕ → ℕ → Result BytePlace (Fault BracketReason)
after_word opened c [] left = Ok (brackets opened c [])
after_word opened c (b ∷ bs) left = word_place opened c (b ∷ bs) (list_kind_of c (b ∷ bs)) left

-- an optional item has one list, a first any number
abbrev pub takes_list : ListKind → List Tree → Bool
takes_list kinds.Optional [] = true
takes_list kinds.Optional (t ∷ ts) = false
takes_list kinds.First ts = true

abbrev pub nested : ListKind → List Tree → ℕ → Result Tree (Fault BracketReason)
nested kinds.Optional [] left = fails MissingItems left
nested kinds.Optional (t ∷ ts) left = Ok t
nested kinds.First ts left = Ok (first_of (trees ts))

-- an `ignore` says how many bytes a parser passes over
abbrev pub is_whole : Component → Bool
is_whole (component.Ignore m) = not (m.count == 0)
is_whole c = true

-- the component where brackets are closed
abbrev pub finished : Option Component → Result Component BracketReason
finished None = Err MissingName
finished (Some c) = if is_whole c then Ok (current_component c) else Err MissingModifier

-- the item that ends there
abbrev pub ended : BytePlace → ℕ → Result Tree (Fault BracketReason)
ended (brackets opened c word) left = at_fault (finished c) left >>= λ made. Ok (of_component made)
ended (between n opened lists) left = nested n lists left
ended outside left = fails MissingName left
ended escape left = fails MissingName left

-- the items, and a literal after them if it has bytes
abbrev pub with_literal : List Tree → List ℕ → List Tree
with_literal items [] = items
with_literal items (b ∷ bs) = items ++ literal_of (b ∷ bs) ∷ []

-- the place behind a list that is closed
abbrev pub after_list : Frame → List Tree → List ℕ → BytePlace
after_list f items literal = between f.kind f.opened (f.lists ++ all_of (trees (with_literal items literal)) ∷ [])

-- the items of a text whose next byte stands there, in these lists, after these items and a literal so far
unfoldable pub read : List Frame → BytePlace → List Tree → List ℕ → List ℕ → Result (List Tree) (Fault BracketReason)
read [] outside items literal [] = Ok (with_literal items literal)
read (f ∷ fs) outside items literal [] = fails UnclosedBracket f.opened_list
read fs escape items literal [] = fails InvalidEscape 1
read fs (brackets opened c word) items literal [] = fails UnclosedBracket opened
read fs (between n opened lists) items literal [] = fails UnclosedBracket opened
read [] outside items literal (b ∷ bs) =
    if b == opening then read [] (brackets (length bs + 1) None []) (with_literal items literal) [] bs
    else (if b == backslash then read [] escape (with_literal items literal) [] bs
    else read [] outside items (literal ++ b ∷ []) bs)
read (f ∷ fs) outside items literal (b ∷ bs) =
    if b == opening then read (f ∷ fs) (brackets (length bs + 1) None []) (with_literal items literal) [] bs
    else (if b == backslash then read (f ∷ fs) escape (with_literal items literal) [] bs
    else (if b == closing then read fs (after_list f items literal) f.items [] bs
    else read (f ∷ fs) outside items (literal ++ b ∷ []) bs))
read fs escape items literal (b ∷ bs) =
    if is_escapable b then read fs outside (items ++ literal_of (b ∷ []) ∷ []) [] bs
    else fails InvalidEscape (length bs + 2)
read fs (brackets opened c word) items literal (b ∷ bs) =
    if is_special b then fails UnclosedBracket opened
    else (if b == closing then (after_word opened c word (length word + (length bs + 1)) >>= λ place.
    ended place (length bs + 1) >>= λ item. read fs outside (items ++ item ∷ []) [] bs)
    else (if is_ascii_whitespace b then (after_word opened c word (length word + (length bs + 1)) >>= λ place.
    read fs place items [] bs)
    else read fs (brackets opened c (word ++ b ∷ [])) items [] bs))
read fs (between n opened lists) items literal (b ∷ bs) =
    if is_ascii_whitespace b then read fs (between n opened lists) items [] bs
    else (if b == closing then (nested n lists (length bs + 1) >>= λ item. read fs outside (items ++ item ∷ []) [] bs)
    else (if b == opening && takes_list n lists then (if nat_lt (length fs) depth_limit
    then read (record { kind = n; opened = opened; opened_list = length bs + 1; items = items; lists = lists } ∷ fs) outside [] [] bs
    else fails TooDeep (length bs + 1))
    else fails UnexpectedByte (length bs + 1)))

-- A text may have so many items: each but a literal begins with an opening bracket or a backslash.
abbrev pub IsWithinLimit : List ℕ → Type 0
IsWithinLimit text = past is_special most_items text ≡ None

-- the items of a text, unless it may have too many
abbrev pub within_limit : Option ℕ → List ℕ → Result (List Tree) (Fault BracketReason)
within_limit None text = read [] outside [] [] text
within_limit (Some left) text = fails TooManyItems left

abbrev pub described : List ℕ → Result (List Tree) (Fault BracketReason)
described text = within_limit (past is_special most_items text) text
