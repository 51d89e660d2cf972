use Rattle.std.proofs.Common.{◌≡◌, [], true, false}
use Rattle.time_digits.specs.Shown.{shown}
use Rattle.time_known.specs.Fields.{shown as shown_by}
use Rattle.log_time.proofs.TimesLemmas.{far_refused, is_ascii, text_is}
use Rattle.log_time.proofs.log_time.LogTime.text.Goals as goal

pub returns-in_default-clause-refused : goal.returns-in_default-clause-refused
returns-in_default-clause-refused c =
    far_refused c.args.self.now.decimals c.args.moment c.args.self.now.offset c.from.result
    (λ h. absurd (let never : false ≡ true = c.in_default.ensures.accepted.1 h in cc)) c.from.ensures

pub text_of-requires-clause-ascii : goal.text_of-requires-clause-ascii
text_of-requires-clause-ascii c =
    is_ascii c.args.self.now.decimals _ _ (shown_by c.in-Ok.fields) c.usual.ensures.digits c.usual.ensures.sign

pub returns-in-Ok-clause-text : goal.returns-in-Ok-clause-text
returns-in-Ok-clause-text c =
    text_is c.args.self.now.decimals c.in-Some.local _ (shown_by c.in-Ok.fields) c.usual.result.decimal_digits c.usual.result.decimal_sign
    (shown c.text_of.result) c.in-Some.ensures.value c.usual.ensures.digits c.usual.ensures.sign c.in-Ok.ensures.fields
    (c.in-Ok.ensures.accepted []) (c.in-Ok.ensures.accepted _) c.text_of.ensures
