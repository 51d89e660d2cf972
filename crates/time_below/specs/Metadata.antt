-- What is known of a text, and of one text after another.
use Rattle.std.specs.Prelude.{ℕ, ◌+◌, min, true, ◌&&◌}
use Rattle.time_below.specs.Tree.{Tree, Trees}
use Rattle.time_below.specs.Width.{tree_width, trees_width, is_guaranteed_text, are_guaranteed_text}
use Rattle.time_below.specs.declared.format_description.metadata.Metadata.{Metadata}

-- the greatest `usize`, at which widths stop
abbrev pub greatest_usize : ℕ
greatest_usize = 18446744073709551615

-- no bytes, which are a text
abbrev pub of_nothing : Metadata
of_nothing = record { max_bytes_needed = 0; guaranteed_utf8 = true }

-- the sum of the widths, which stops at the greatest number; both are texts
abbrev pub of_both : Metadata → Metadata → Metadata
of_both a b = record {
  max_bytes_needed = min (a.max_bytes_needed + b.max_bytes_needed) greatest_usize;
  guaranteed_utf8 = a.guaranteed_utf8 && b.guaranteed_utf8;
}

-- the metadata of a tree, and of several one after another
abbrev pub tree_metadata : Tree → Metadata
tree_metadata t = record {
  max_bytes_needed = min (tree_width t) greatest_usize;
  guaranteed_utf8 =
      is_guaranteed_text t;
}

abbrev pub trees_metadata : Trees → Metadata
trees_metadata ts = record {
  max_bytes_needed = min (trees_width ts) greatest_usize;
  guaranteed_utf8 =
      are_guaranteed_text ts;
}
