use Rattle.std.proofs.Common.{arith}
use Rattle.time.proofs.LiteralLemmas.{step, skip}
use Rattle.time.proofs.literals.number_of.Goals.{then-byte-ne95, else-byte-ne95}
use Rattle.time.proofs.literals.number_of.Goals as goal

pub overflow_mul-number : goal.overflow_mul-number
overflow_mul-number c =
    let i = c.loop-byte.invariant in
    let next = step c.args.literal.now c.loop-byte.byte-index c.loop-byte.count c.loop-byte.number c.loop-byte-test.true c.if-byte-ne95.true i.count i.value c.requires.few c.requires.digits in
    omega (arith, next.small)

pub overflow_sub-number : goal.overflow_sub-number
overflow_sub-number c =
    let i = c.loop-byte.invariant in
    let next = step c.args.literal.now c.loop-byte.byte-index c.loop-byte.count c.loop-byte.number c.loop-byte-test.true c.if-byte-ne95.true i.count i.value c.requires.few c.requires.digits in
    next.digit.0

pub overflow_add-number : goal.overflow_add-number
overflow_add-number c =
    let i = c.loop-byte.invariant in
    let next = step c.args.literal.now c.loop-byte.byte-index c.loop-byte.count c.loop-byte.number c.loop-byte-test.true c.if-byte-ne95.true i.count i.value c.requires.few c.requires.digits in
    omega (arith, next.small, next.digit)

pub overflow_add-count : goal.overflow_add-count
overflow_add-count c =
    let i = c.loop-byte.invariant in
    let next = step c.args.literal.now c.loop-byte.byte-index c.loop-byte.count c.loop-byte.number c.loop-byte-test.true c.if-byte-ne95.true i.count i.value c.requires.few c.requires.digits in
    omega (arith, next.few)

pub loop-byte-preserved : goal.loop-byte-preserved
loop-byte-preserved c =
    let i = c.loop-byte.invariant in
    elim c.if-byte-ne95.branch [
      | then-byte-ne95 w ↦
          let next = step c.args.literal.now c.loop-byte.byte-index c.loop-byte.count c.loop-byte.number c.loop-byte-test.true w.if-byte-ne95.true i.count i.value c.requires.few c.requires.digits in
          rw (w.count-is, w.number-is) (record { count = next.count_after; value = omega (arith, next.number_after) })
      | else-byte-ne95 w ↦
          rw (w.count-is, w.number-is) (record { count = skip c.args.literal.now c.loop-byte.byte-index c.loop-byte.count c.loop-byte-test.true w.if-byte-ne95.false i.count; value = i.value })
    ]
