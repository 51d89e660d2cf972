-- What is kept of a text that was made a description.
use Rattle.std.proofs.Common.{◌≡◌, ◌≤◌, ◌-◌, ◌++◌, ℕ, Bool, true, false, List, [], ◌∷◌, length, take, drop, Result, Ok, Err, ap, subst, sym, ◌∙◌, arith}
use Rattle.std.specs.Prelude.{nat_le}
use Rattle.std.proofs.Math.Seq.{take-append_seam}
use Rattle.movaliren_c.specs.Described.{DescribeNothing, Leaves, LeavesItems}
use Rattle.movaliren_c.specs.declared.answers.reason.Reason.{Reason}
use Rattle.movaliren_c.specs.declared.described.item.Item.{Item}
use Rattle.movaliren_c.specs.declared.described.syntax.ParseError.{ParseError}
use Rattle.time_below.specs.Tree.{Tree}

-- the text at the start of an array
pub kept_text : (text array new : List ℕ) → new ≡ text ++ drop (length text) array → take (length text) new ≡ text
kept_text text array new is =
    ap (λ (it : List ℕ). take (length text) it) is ∙ take-append_seam text (drop (length text) array)

-- the items that are used
pub kept_items : {I : Type 0} (count : ℕ) (array : List I) → count ≤ 64 → take (64 - (64 - count)) array ≡ take count array
kept_items count array few = ap (λ (n : ℕ). take n array) (omega (arith, few))

-- nothing is described by the first items of those of which the first is none
nothing_taken : (items : List Item) → DescribeNothing items → DescribeNothing (take 64 items)
nothing_taken [] none = none
nothing_taken (i ∷ is) none = none

pub nothing_left : (unused : ℕ) (items : List Item) → unused ≡ 0 → DescribeNothing items
    → DescribeNothing (take (64 - unused) items)
nothing_left unused items zero none =
    subst (λ (n : ℕ). DescribeNothing (take (64 - n) items)) (sym zero) (nothing_taken items none)

-- so it is with what a text leaves that is no description
left_nothing : (fits : Bool) (text : List ℕ) (all : List Tree) (r : Reason) (items : List Item) (old new : ParseError)
    → LeavesItems fits text all (Err r) items old new → DescribeNothing items
left_nothing true text all r items old new leaves = absurd leaves.0
left_nothing false text all r items old new leaves = leaves.1

pub refused_nothing : (text : List ℕ) (described : Result (List Tree) ParseError) (r : Reason) (items : List Item)
    (old new : ParseError) → Leaves text described (Err r) items old new → DescribeNothing items
refused_nothing text (Ok all) r items old new leaves =
    left_nothing (nat_le (length all) (length items)) text all r items old new leaves
refused_nothing text (Err f) r items old new leaves = leaves.1
