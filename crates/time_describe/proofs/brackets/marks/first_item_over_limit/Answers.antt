use Rattle.std.proofs.Common.{◌≡◌, ℕ, suc, sym, ap, ◌∙◌, arith, drop, ◌||◌, ◌==◌}
use Rattle.time_describe.specs.Marks.{past}
use Rattle.time_describe.proofs.ValueLemmas.{byte_passed, item_passed, item_refused, bytes_end}
use Rattle.time_describe.proofs.brackets.marks.first_item_over_limit.Goals as goal
use Rattle.time_describe.proofs.brackets.marks.first_item_over_limit.Goals.{then-is_either+else-room-eq0, else-is_either}

pub returns-then-room-eq0 : goal.returns-then-room-eq0
returns-then-room-eq0 c =
    sym (item_refused (λ b. b == c.args.one || b == c.args.other) c.loop-index.room c.loop-index.index c.args.text.now c.loop-index-test.true (sym c.if-is_either.ensures) c.if-room-eq0.true)
    ∙ c.loop-index.invariant

pub loop-index-preserved : goal.loop-index-preserved
loop-index-preserved c =
    elim c.if-is_either.branch [
      | then-is_either+else-room-eq0 w ↦
          (let room : c.loop-index.room ≡ suc c.if-is_either.room = omega arith in
          sym (item_passed (λ b. b == c.args.one || b == c.args.other) c.loop-index.room c.if-is_either.room c.loop-index.index c.args.text.now c.loop-index-test.true (sym w.if-is_either.ensures) room)
          ∙ c.loop-index.invariant)
      | else-is_either w ↦
          (let room : c.loop-index.room ≡ c.if-is_either.room = sym w.room-is in
          sym (byte_passed (λ b. b == c.args.one || b == c.args.other) c.if-is_either.room c.loop-index.index c.args.text.now c.loop-index-test.true (sym w.if-is_either.ensures))
          ∙ ap (λ (n : ℕ). past (λ b. b == c.args.one || b == c.args.other) n (drop c.loop-index.index c.args.text.now)) (sym room)
          ∙ c.loop-index.invariant)
    ]

pub returns : goal.returns
returns c = sym (bytes_end (λ b. b == c.args.one || b == c.args.other) c.loop-index.room c.loop-index.index c.args.text.now (omega arith)) ∙ c.loop-index.invariant
