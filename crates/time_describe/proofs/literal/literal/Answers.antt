use Rattle.std.proofs.Common.{◌≡◌, sym, ap, ◌∙◌}
use Rattle.std.specs.Prelude.{string_bytes}
use Rattle.time_below.specs.Tree.{owned_tree, text_literal, byte_literal}
use Rattle.time_below.specs.declared.format_description.owned_format_item.OwnedFormatItem.TheVariants as item
use Rattle.time_below.specs.declared.format_description.owned_format_item.OwnedFormatItem.TheVariants.{rolls-StringLiteral, rolls-Literal}
use Rattle.time_below.specs.declared.format_description.owned_format_item.OwnedFormatItem.{fold-roll-OwnedFormatItem}
use Rattle.time_describe.proofs.LiteralLemmas.{of_text, of_bytes}
use Rattle.time_describe.proofs.literal.literal.Goals as goal

pub returns-in_ok-from_str-in-Ok : goal.returns-in_ok-from_str-in-Ok
returns-in_ok-from_str-in-Ok c =
    let text = c.in_ok-from_str-in-Ok.field-0 in
    let tree : owned_tree (item.StringLiteral text) ≡ text_literal (string_bytes text) = ap owned_tree (sym (rolls-StringLiteral text)) ∙ fold-roll-OwnedFormatItem _ _ _ in
    tree ∙ ap text_literal (c.in_ok-from_str-in-Ok.ensures.ok ∙ c.in-Ok.ensures.cases.0) ∙ sym (of_text c.args.bytes.now c.in-Ok.ensures.cases.1)

pub returns-in_ok-from_slice-in-Err : goal.returns-in_ok-from_slice-in-Err
returns-in_ok-from_slice-in-Err c =
    let bytes = c.in_ok-from_slice-in-Err.field-0 in
    let tree : owned_tree (item.Literal bytes) ≡ byte_literal bytes.items = ap owned_tree (sym (rolls-Literal bytes)) ∙ fold-roll-OwnedFormatItem _ _ _ in
    tree ∙ ap byte_literal c.in_ok-from_slice-in-Err.ensures.items ∙ sym (of_bytes c.args.bytes.now c.in-Err.ensures.cases.0)
