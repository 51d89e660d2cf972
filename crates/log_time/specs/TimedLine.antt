-- The line of a record with its time.
use Rattle.std.specs.Borrow.{Bor}
use Rattle.std.specs.Prelude.{◌≡◌, ℕ, List, [], ◌++◌, Option, None, Some, codes, flat_map, option_map}
use Rattle.std.specs.Fmt.{◌++?◌, HasWritten, IsPlainFormatter}
use Rattle.log.specs.declared.level.Level.{Level}
use Rattle.log.specs.declared.record.Record.{Record}
use Rattle.log.specs.Kv.{Pair}
use Rattle.log.specs.Line.{padded_level, pair_text, pairs_text, scope_text}
use Rattle.log.specs.Record.{metadata_level, metadata_target, record_args, record_key_values, record_metadata, record_spans}
use Rattle.log.specs.Span.{Scope}
use Rattle.log_time.specs.declared.line.Pairs.{Pairs}
use Rattle.log_time.specs.declared.line.TimedLine.{TimedLine}

-- the time, or `-` where there is none: the NILVALUE of RFC 5424, section 6.2.3
abbrev pub time_or_dash : Option (Bor (List ℕ)) → List ℕ
time_or_dash None = codes "-"
time_or_dash (Some time) = time.now

-- `[time INFO  target] `, or `[time INFO ] ` where the target is empty
abbrev pub timed_header : List ℕ → Level → List ℕ → List ℕ
timed_header time level [] = codes "[" ++ time ++ codes " " ++ padded_level level ++ codes "] "
timed_header time level target =
    codes "[" ++ time ++ codes " " ++ padded_level level ++ codes " " ++ target ++ codes "] "

-- the header, and then what `log` writes: the spans from the outermost in, the message and the pairs
abbrev pub timed_text : List ℕ → Level → List ℕ
    → Option (List Scope) → Option (List ℕ) → Option (List Pair) → Option (List ℕ)
timed_text time level target scopes message pairs =
    Some (timed_header time level target)
    ++? option_map (flat_map scope_text) scopes ++? message ++? option_map pairs_text pairs

module _ {D K S : Type 0} where
  -- the line of a record with this time, where the first three arguments are the members of `D`, `K` and `S`
  abbrev pub timed_line : (D → Option (List ℕ)) → (K → Option (List Pair)) → (S → Option (List Scope))
      → List ℕ → Record D K S → Option (List ℕ)
  timed_line output pairs scopes time r =
      timed_text time (metadata_level (record_metadata r)) (metadata_target (record_metadata r))
      (scopes (record_spans r)) (output (record_args r)) (pairs (record_key_values r))

  -- what a `TimedLine` shows: the time and the record
  abbrev pub line_time : TimedLine D K S → List ℕ
  line_time line = line.time.now

  abbrev pub line_record : TimedLine D K S → Record D K S
  line_record line = line.record.now

-- the writer of pairs went from old to new by writing this one
pub record WritesPair {W : Type 0} (took : W → List ℕ → W → Type 0) (old : Pairs W) (pair : Pair) (new : Pairs W) : Type 0 where
  pub same_reference : new.f.ghost_name ≡ old.f.ghost_name
  pub wrote : IsPlainFormatter old.f.now → HasWritten took old.f.now (codes " " ++ pair_text pair) new.f.now
