use Rattle.std.proofs.Common.{arith, ◌≡◌, refl, rules, SFits, w32}
use Rattle.std.specs.Prelude.{◌||◌, int_lt, pos}
use Rattle.std.proofs.lemmas.Int.{to_z-of_z, ints}
use Rattle.time_fmt.proofs.EndLemmas.{put_behind}
use Rattle.time_fmt.proofs.writers.year.write_signed_year.Goals as goal

pub returns : goal.returns
returns g c =
    let fits : SFits w32 c.get-number.result = search rules in
    let wanted : c.if-sign_is_mandatory.fmt_sign ≡ (c.args.sign_is_mandatory || int_lt (pos 9_999) c.args.year) = grind (arith, ints) in
    record {
      writes = put_behind (rw (c.get-number.ensures.value, wanted) at (simp to_z-of_z at c.fmt_sign-sign.ensures.writes))
          (rw c.abs.ensures at c.write_year_digits.ensures.writes) refl;
    }
