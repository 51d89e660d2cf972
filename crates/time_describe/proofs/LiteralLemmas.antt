-- A run of bytes is a text where it is UTF-8.
use Rattle.std.proofs.Common.{◌≡◌, ℕ, Bool, true, false, List, refl, IsUtf8}
use Rattle.std.specs.Str.{is_utf8}
use Rattle.std.proofs.lemmas.Str.{IsUtf8-from_is_utf8, is_utf8-from_IsUtf8}
use Rattle.time_below.specs.Tree.{text_literal, byte_literal}
use Rattle.time_describe.specs.Literal.{literal_of}

pub of_text : (bytes : List ℕ) → IsUtf8 bytes → literal_of bytes ≡ text_literal bytes
unfolding literal_of
of_text bytes is = rw (is_utf8-from_IsUtf8 bytes is) refl

by_test : (test : Bool) (bytes : List ℕ) → is_utf8 bytes ≡ test → ¬ (IsUtf8 bytes) → literal_of bytes ≡ byte_literal bytes
unfolding literal_of
by_test true bytes is no_text = absurd (no_text (IsUtf8-from_is_utf8 bytes is))
by_test false bytes is no_text = rw is refl

pub of_bytes : (bytes : List ℕ) → ¬ (IsUtf8 bytes) → literal_of bytes ≡ byte_literal bytes
of_bytes bytes no_text = by_test (is_utf8 bytes) bytes refl no_text
