-- What the syntax of strftime describes is literals and components alone.
use Rattle.std.proofs.Common.{◌≡◌, ℕ, Bool, true, false, List, [], ◌∷◌, ◌++◌, Option, Some, None, refl}
use Rattle.std.specs.Prelude.{IsTrue, ◌&&◌, ◌==◌, codes}
use Rattle.std.specs.Str.{is_utf8}
use Rattle.time_below.specs.Tree.{Tree}
use Rattle.time_below.specs.declared.format_description.component.Component.{Component}
use Rattle.time_describe.specs.Conversions.{component_of, composed, listed, offset, offset_minute}
use Rattle.time_describe.specs.Items.{are_leaves, is_leaf}
use Rattle.time_describe.specs.Literal.{literal_of}

leaf_by : (b : Bool) (bytes : List ℕ) → is_utf8 bytes ≡ b → is_leaf (literal_of bytes) ≡ true
unfolding literal_of
leaf_by true bytes is = rw is refl
leaf_by false bytes is = rw is refl

leaf_literal : (bytes : List ℕ) → is_leaf (literal_of bytes) ≡ true
leaf_literal bytes = leaf_by (is_utf8 bytes) bytes refl

one_more : (x y b : Bool) → x && y ≡ true → (y ≡ true → b ≡ true) → x && b ≡ true
one_more true y b h k = k h
one_more false y b h k = absurd cc

pub leaves_more : (a b : List Tree) → IsTrue (are_leaves a) → IsTrue (are_leaves b) → IsTrue (are_leaves (a ++ b))
leaves_more [] b h k = k
leaves_more (t ∷ ts) b h k = one_more (is_leaf t) (are_leaves ts) (are_leaves (ts ++ b)) h (λ e. leaves_more ts b e k)

pub literal_before : (bytes : List ℕ) (ts : List Tree) → IsTrue (are_leaves ts) → IsTrue (are_leaves (literal_of bytes ∷ ts))
literal_before bytes ts h = rw (leaf_literal bytes) h

listed_leaves : (o : Option Component) → IsTrue (are_leaves (listed o))
listed_leaves None = refl
listed_leaves (Some c) = refl

composed_step : (is : Bool) (b c : ℕ) (bs : List ℕ) → (b == 37) ≡ is → IsTrue (are_leaves (composed bs)) → IsTrue (are_leaves (composed (c ∷ bs))) → IsTrue (are_leaves (composed (b ∷ c ∷ bs)))
unfolding composed
composed_step true b c bs is h k = rw is (leaves_more (listed (component_of c)) (composed bs) (listed_leaves (component_of c)) h)
composed_step false b c bs is h k = rw is (literal_before (b ∷ []) (composed (c ∷ bs)) k)

pub composed_leaves : (bs : List ℕ) → IsTrue (are_leaves (composed bs))
unfolding composed
composed_leaves [] = refl
composed_leaves (b ∷ []) = literal_before (b ∷ []) [] refl
composed_leaves (b ∷ c ∷ bs) = composed_step (b == 37) b c bs refl (composed_leaves bs) (composed_leaves (c ∷ bs))

pub offset_leaves : (with_colon : Bool) → IsTrue (are_leaves (offset with_colon))
offset_leaves false = refl
offset_leaves true = literal_before (codes ":") (offset_minute ∷ []) refl
