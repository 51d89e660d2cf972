-- Which words of the command line are descriptions, and which texts can stand in a string of JSON.
use Rattle.std.specs.Prelude.{ℕ, ◌==◌, Bool, ◌||◌, ◌&&◌, not, nat_le, bytes_eq, codes, List, Option, Some, None, is_some, if◌then◌else◌}
use Rattle.movaliren_cli.specs.Refusal.{has_bracket, has_percent}
use Rattle.movaliren_cli.specs.declared.description.NamedFormat.{NamedFormat}
use Rattle.movaliren_cli.specs.declared.description.NamedFormat.TheVariants.{Rfc3339, Rfc2822, ImfFixdate, Iso8601, Stamp, Unix}

-- the format of a name
unfoldable pub format_named : List ℕ → Option NamedFormat
format_named name =
    if bytes_eq name (codes "rfc3339") then Some Rfc3339
    else (if bytes_eq name (codes "rfc2822") then Some Rfc2822
    else (if bytes_eq name (codes "http") then Some ImfFixdate
    else (if bytes_eq name (codes "iso8601") then Some Iso8601
    else (if bytes_eq name (codes "stamp") then Some Stamp
    else (if bytes_eq name (codes "unix") then Some Unix else None)))))

-- a word is a description if it is such a name, or has a percent sign or a bracket
abbrev pub is_description : List ℕ → Bool
is_description word = is_some (format_named word) || (has_percent word || has_bracket word)

-- a byte that can stand in a string of JSON as it is: no control character, no quote (34), no backslash (92)
abbrev pub is_plain_in_json : ℕ → Bool
is_plain_in_json b = nat_le 32 b && (not (b == 34) && not (b == 92))
