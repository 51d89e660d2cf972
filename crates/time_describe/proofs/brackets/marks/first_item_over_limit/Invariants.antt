use Rattle.std.proofs.Common.{◌≡◌, drop, ◌||◌, ◌==◌}
use Rattle.time_describe.specs.Limit.{most_items}
use Rattle.time_describe.specs.Marks.{past}
use Rattle.time_describe.proofs.brackets.marks.first_item_over_limit.Given as goal

abbrev pub invariant-loop-index : goal.invariant-loop-index
invariant-loop-index l = past (λ b. b == l.one || b == l.other) l.room (drop l.index l.text) ≡ past (λ b. b == l.one || b == l.other) most_items l.text
