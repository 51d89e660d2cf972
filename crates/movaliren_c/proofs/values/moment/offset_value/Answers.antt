use Rattle.std.proofs.Common.{Ok, sym, ap, ◌∙◌, rules}
use Rattle.movaliren_c.proofs.ReadLemmas.{offset_given}
use Rattle.movaliren_c.proofs.values.moment.offset_value.Goals as goal

pub returns-then-are_offset_parts : goal.returns-then-are_offset_parts
returns-then-are_offset_parts c =
    ap Ok c.from_valid_hms.ensures ∙ sym (offset_given c.args.moment.now _ (search rules) (c.are_offset_parts.ensures c.if-are_offset_parts.true))
