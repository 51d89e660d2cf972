-- How large a description is: more than each description below it, so that a recursion over it ends.
use Rattle.std.specs.Prelude.{ℕ, ◌+◌, List, [], ◌∷◌, map}
use Rattle.time_below.specs.declared.format_description.layer.Layer.{Layer}
use Rattle.time_below.specs.declared.format_description.layer.Layer.TheVariants as layer
use Rattle.time_below.specs.declared.format_description.borrowed_format_item.BorrowedFormatItem as borrowed
use Rattle.time_below.specs.declared.format_description.owned_format_item.OwnedFormatItem as owned
use Rattle.time_below.specs.declared.format_description.format_description_v3.FormatDescriptionV3Inner as v3

-- the size of descriptions in a list: more than each of them, and than those after one of them
abbrev pub sizes : List ℕ → ℕ
sizes [] = 0
sizes (n ∷ ns) = n + sizes ns + 1

-- the size of the descriptions below a layer
abbrev pub size_below : {A : Type 0} → (A → ℕ) → Layer A → ℕ
size_below size (layer.All items) = sizes (map size items.now)
size_below size (layer.First items) = sizes (map size items.now)
size_below size (layer.Optional item) = size item.now
size_below size _ = 0

abbrev pub borrowed_layer_size : borrowed.BorrowedFormatItem-F ℕ → ℕ
borrowed_layer_size (borrowed.TheOpen.Compound ns) = sizes ns.now + 1
borrowed_layer_size (borrowed.TheOpen.Optional n) = n.now + 1
borrowed_layer_size (borrowed.TheOpen.First ns) = sizes ns.now + 1
borrowed_layer_size _ = 1

abbrev pub borrowed_size : borrowed.BorrowedFormatItem → ℕ
borrowed_size = borrowed.fold-BorrowedFormatItem ℕ borrowed_layer_size

abbrev pub owned_layer_size : owned.OwnedFormatItem-F ℕ → ℕ
owned_layer_size (owned.TheOpen.Compound ns) = sizes ns.items + 1
owned_layer_size (owned.TheOpen.Optional n) = n.value + 1
owned_layer_size (owned.TheOpen.First ns) = sizes ns.items + 1
owned_layer_size _ = 1

abbrev pub owned_size : owned.OwnedFormatItem → ℕ
owned_size = owned.fold-OwnedFormatItem ℕ owned_layer_size

abbrev pub v3_layer_size : v3.FormatDescriptionV3Inner-F ℕ → ℕ
v3_layer_size (v3.TheOpen.BorrowedCompound ns) = sizes ns.now + 1
v3_layer_size (v3.TheOpen.BorrowedOptional format n) = n.now + 1
v3_layer_size (v3.TheOpen.BorrowedFirst ns) = sizes ns.now + 1
v3_layer_size (v3.TheOpen.OwnedCompound ns) = sizes ns.items + 1
v3_layer_size (v3.TheOpen.OwnedOptional format n) = n.value + 1
v3_layer_size (v3.TheOpen.OwnedFirst ns) = sizes ns.items + 1
v3_layer_size _ = 1

abbrev pub v3_size : v3.FormatDescriptionV3Inner → ℕ
v3_size = v3.fold-FormatDescriptionV3Inner ℕ v3_layer_size
