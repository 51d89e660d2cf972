use Rattle.std.proofs.Common.{arith, rules, tests}
use Rattle.std.proofs.lemmas.Bool.Decides.{nat_tests}
use Rattle.std.proofs.lemmas.Grind.{common_steps}
use Rattle.std.proofs.lemmas.Int.{ints}
use Rattle.time_below.proofs.calendar.is_leap_year.Goals as goal

pub returns-then-year-ne0 : goal.returns-then-year-ne0
returns-then-year-ne0 c = grind (arith, nat_tests, ints)

pub returns-then-year-ne0-2 : goal.returns-then-year-ne0-2
returns-then-year-ne0-2 c = grind (arith, common_steps, nat_tests)

pub returns-else-year-ne0-2 : goal.returns-else-year-ne0-2
returns-else-year-ne0-2 c = search (rules, tests)
