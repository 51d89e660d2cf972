-- Items that own their parts, in lists that are not closed yet.
use Rattle.std.proofs.Common.{◌≡◌, map, sym, ap, ◌∙◌}
use Rattle.std.specs.Global.{Vec}
use Rattle.time_below.specs.Tree.{Tree, trees, all_of, owned_tree, owned_layer}
use Rattle.time_below.specs.declared.format_description.owned_format_item.OwnedFormatItem as owned
use Rattle.time_below.specs.declared.format_description.owned_format_item.OwnedFormatItem.TheVariants as owned_item
use Rattle.time_below.specs.declared.format_description.owned_format_item.OwnedFormatItem.TheOpen as open_owned

pub owned_list : (v : Vec owned.OwnedFormatItem) → owned_tree (owned_item.Compound v) ≡ all_of (trees (map owned_tree v.items))
owned_list v =
    ap owned_tree (sym (owned_item.rolls-Compound v))
    ∙ owned.fold-roll-OwnedFormatItem Tree owned_layer (open_owned.Compound v)
