-- A run that writes what each line becomes before it reads on.
use Rattle.std.proofs.Common.{ℕ, ◌≡◌, ◌<◌, ◌+◌, ◌++◌, List, [], ◌∷◌, length, map, take, drop, Bool, true, false, Option, Some, None, Result, Ok, Err, OnErr, inl, inr, refl, ap, sym, subst, ◌∙◌, append_assoc, append-nil, length-append, arith}
use Rattle.std.proofs.lemmas.List.{take-append-drop}
use Rattle.line_streams.specs.Lines.{line_feed, unended_of, last_line_of, with_line_feed, IsOneLine}
use Rattle.line_streams.specs.Filter.{all_lines_of, ended_lines_of, within, Adds, Become, Stays}
use Rattle.line_streams.specs.Prompt.{BreaksOff, Grows, GrowsInPart, HasBegun, HasFiltered, IsEarly, IsPassed, IsPrompt, Knows, PassesOn, Waits, Writes}
use Rattle.line_streams.proofs.LinesLemmas.{unended_of-append, unended_of-fed, unended_of-is_one, unended_of-more, whole_lines_of-more}
use Rattle.line_streams.proofs.FilterLemmas.{Become-append, Become-after, Become-before, Become-one, Stays-within, ended_lines_of-append, ended_lines_of-fed, last_is_one, long_stays}

-- what holds anyway holds where there is an error
pub on_error : {T E P : Type 0} (r : Result T E) → P → OnErr r P
on_error (Ok x) p = tt
on_error (Err e) p = p

-- what is known grows
Knows-then : (a b : Option (List ℕ)) (xs ys : List ℕ) → Knows a xs → Grows a b ys → Knows b (xs ++ ys)
Knows-then None b xs ys p q = rw q tt
Knows-then (Some a) b xs ys p q = rw q (ap (λ zs. zs ++ ys) p)

pub Grows-none : (a : Option (List ℕ)) → Grows a a []
Grows-none None = refl
Grows-none (Some a) = ap Some (sym (append-nil a))

-- nothing became of no lines
pub Writes-none : (R : List ℕ → List ℕ → Type 0) (put put' : Option (List ℕ)) (lines : List (List ℕ)) → put' ≡ put
    → lines ≡ [] → Writes R lines put put'
Writes-none R put put' lines same none =
    ([], subst (λ p. Grows put p []) (sym same) (Grows-none put), rw none refl)

-- nothing was written
pub BreaksOff-none : (R : List ℕ → List ℕ → Type 0) (all : List (List ℕ)) (put put' : Option (List ℕ)) → put' ≡ put
    → BreaksOff R all put put'
BreaksOff-none R all put put' same = record {
  lines = [];
  others = all;
  text = [];
  in_order = refl;
  became = refl;
  cut = record {
    sent = [];
    missing = [];
    in_order = refl;
    grown = subst (λ p. Grows put p []) (sym same) (Grows-none put);
  };
}

-- the text of all lines was written in part
pub BreaksOff-all : (R : List ℕ → List ℕ → Type 0) (all : List (List ℕ)) (put put' : Option (List ℕ)) (text : List ℕ)
    → Become R all text → GrowsInPart put put' text → BreaksOff R all put put'
BreaksOff-all R all put put' text became cut = record {
  lines = all;
  others = [];
  text = text;
  in_order = sym (append-nil all);
  became = became;
  cut = cut;
}

-- the texts that were made were written
pub Writes-texts : (longest : ℕ) (R Q : List ℕ → List ℕ → Type 0) (lines : List (List ℕ)) (put put' : Option (List ℕ)) (o0 o1 bytes : List ℕ)
    → o0 ≡ [] → bytes ≡ o1 → Stays R Q → Adds (Become (within longest Q) lines) o0 o1 → Grows put put' bytes
    → Writes (within longest R) lines put put'
Writes-texts longest R Q lines put put' o0 o1 bytes none same stays made grows = (
  made.0,
  subst (λ b. Grows put put' b) (same ∙ made.1 ∙ ap (λ o. o ++ made.0) none) grows,
  Become-before (within longest R) (within longest Q) lines made.0 (Stays-within longest R Q stays) made.2,
)

-- they were written in part
pub BreaksOff-texts : (longest : ℕ) (R Q : List ℕ → List ℕ → Type 0) (lines : List (List ℕ)) (put put' : Option (List ℕ)) (o0 o1 bytes : List ℕ)
    → o0 ≡ [] → bytes ≡ o1 → Stays R Q → Adds (Become (within longest Q) lines) o0 o1 → GrowsInPart put put' bytes
    → BreaksOff (within longest R) lines put put'
BreaksOff-texts longest R Q lines put put' o0 o1 bytes none same stays made cut =
    BreaksOff-all (within longest R) lines put put' made.0
    (Become-before (within longest R) (within longest Q) lines made.0 (Stays-within longest R Q stays) made.2)
    (subst (λ b. GrowsInPart put put' b) (same ∙ made.1 ∙ ap (λ o. o ++ made.0) none) cut)

-- a line alone
pub last_made : (Q : List ℕ → List ℕ → Type 0) (pending line : List ℕ) (o0 o1 : List ℕ) → (pending ≡ [] → ⊥) → line ≡ pending
    → Adds (Become Q (line ∷ [])) o0 o1 → Adds (Become Q (last_line_of pending)) o0 o1
last_made Q pending line o0 o1 some same made = (
  made.0,
  made.1,
  subst (λ lines. Become Q lines made.0) (sym (last_is_one pending some))
      (subst (λ l. Become Q (l ∷ []) made.0) same made.2),
)

-- ---- a run

-- these bytes were taken: what was written of them, and what waits
pub record Taken (longest : ℕ) (R : List ℕ → List ℕ → Type 0) (bytes : List ℕ) (put : Option (List ℕ)) (is_passing : Bool) (pending : List ℕ) : Type 0 where
  pub text : List ℕ
  pub early : List ℕ
  pub written : Knows put (text ++ early)
  pub became : Become (within longest R) (ended_lines_of bytes) text
  pub waits : Waits longest is_passing (unended_of bytes) early pending

-- all that was read was taken
pub record Going (longest : ℕ) (R : List ℕ → List ℕ → Type 0) (got put : Option (List ℕ)) (is_passing : Bool) (pending : List ℕ) : Type 0 where
  pub bytes : List ℕ
  pub read : Knows got bytes
  pub taken : Taken longest R bytes put is_passing pending

-- of a line that passes all is written, and of one that waits nothing
Waits-early : (longest : ℕ) (is_passing : Bool) (line early pending : List ℕ) → Waits longest is_passing line early pending
    → IsEarly longest line early
Waits-early longest false line early pending w = (λ long. absurd (omega (arith, w.0)), λ short. w.1)
Waits-early longest true line early pending w = (λ long. w.1, λ short. absurd (omega (arith, w.0)))

pub Going-prompt : (longest : ℕ) (R Q : List ℕ → List ℕ → Type 0) (got put : Option (List ℕ)) (is_passing : Bool) (pending : List ℕ)
    → Going longest R got put is_passing pending → Stays R Q → IsPrompt longest Q got put
Going-prompt longest R Q got put is_passing pending going stays =
    let t = going.taken in
    record {
      bytes = going.bytes;
      text = t.text;
      early = t.early;
      read = going.read;
      written = t.written;
      became = Become-after (within longest R) (within longest Q) (ended_lines_of going.bytes) t.text
          (Stays-within longest R Q stays) t.became;
      unended = Waits-early longest is_passing (unended_of going.bytes) t.early pending t.waits;
    }

-- what waits is one line
Waits-one : (longest : ℕ) (is_passing : Bool) (line early pending : List ℕ) → Waits longest is_passing line early pending
    → IsOneLine line → IsOneLine pending
Waits-one longest false line early pending w one = subst IsOneLine (sym w.2) one
Waits-one longest true line early pending w one = subst IsOneLine (sym w.2) tt

pub Going-waits : (longest : ℕ) (R : List ℕ → List ℕ → Type 0) (got put : Option (List ℕ)) (is_passing : Bool) (pending : List ℕ)
    → Going longest R got put is_passing pending → IsOneLine pending
Going-waits longest R got put is_passing pending going =
    Waits-one longest is_passing (unended_of going.bytes) going.taken.early pending going.taken.waits
    (unended_of-is_one going.bytes)

-- ---- a line that passes

-- it goes on
Taken-more : (longest : ℕ) (R : List ℕ → List ℕ → Type 0) (bytes block : List ℕ) (put put' : Option (List ℕ)) (pending : List ℕ)
    → Taken longest R bytes put true pending → IsOneLine block → Grows put put' block
    → Taken longest R (bytes ++ block) put' true pending
Taken-more longest R bytes block put put' pending t one grows =
    let unended : unended_of (bytes ++ block) ≡ unended_of bytes ++ block = unended_of-more bytes block one in
    record {
      text = t.text;
      early = t.early ++ block;
      written = subst (λ x. Knows put' x) (append_assoc t.text t.early block)
          (Knows-then put put' (t.text ++ t.early) block t.written grows);
      became = subst (λ lines. Become (within longest R) lines t.text)
          (sym (ap (λ lines. map with_line_feed lines) (whole_lines_of-more bytes block one))) t.became;
      waits = rw unended (
        omega (arith, t.waits.0, length-append (unended_of bytes) block),
        ap (λ e. e ++ block) t.waits.1,
        t.waits.2,
      );
    }

-- it ends
Taken-end : (longest : ℕ) (R : List ℕ → List ℕ → Type 0) (bytes line : List ℕ) (put put' : Option (List ℕ)) (pending : List ℕ)
    → Taken longest R bytes put true pending → IsOneLine line → Grows put put' (with_line_feed line)
    → Taken longest R (bytes ++ with_line_feed line) put' false pending
Taken-end longest R bytes line put put' pending t one grows =
    let all = with_line_feed (unended_of bytes ++ line) in
    let long : longest < length all =
    omega (arith, t.waits.0, length-append (unended_of bytes) line, length-append (unended_of bytes ++ line) (line_feed ∷ [])) in
    let unended : unended_of (bytes ++ with_line_feed line) ≡ [] = unended_of-fed bytes line one in
    record {
      text = t.text ++ all;
      early = [];
      written = subst (λ x. Knows put' x)
          (append_assoc t.text t.early (with_line_feed line)
          ∙ ap (λ e. t.text ++ (e ++ with_line_feed line)) t.waits.1
          ∙ ap (λ e. t.text ++ e) (sym (append_assoc (unended_of bytes) line (line_feed ∷ [])))
          ∙ sym (append-nil (t.text ++ all)))
          (Knows-then put put' (t.text ++ t.early) (with_line_feed line) t.written grows);
      became = subst (λ lines. Become (within longest R) lines (t.text ++ all)) (sym (ended_lines_of-fed bytes line one))
          (Become-append (within longest R) (ended_lines_of bytes) (all ∷ []) t.text all t.became
          (Become-one (within longest R) all all (long_stays longest R all long)));
      waits = rw unended (omega arith, refl, t.waits.2);
    }

-- where lines begin again
pub Taken-from : (longest : ℕ) (R : List ℕ → List ℕ → Type 0) (bytes block : List ℕ) (from : ℕ) (put put' : Option (List ℕ)) (is_passing : Bool) (pending : List ℕ)
    → Taken longest R bytes put is_passing pending → PassesOn is_passing block (Some from) put put'
    → Taken longest R (bytes ++ take from block) put' false pending
Taken-from longest R bytes block from put put' false pending t p =
    let none : from ≡ 0 = cc (p.0) in
    rw (none, append-nil bytes) (subst (λ q. Taken longest R bytes q false pending) (sym p.1) t)
Taken-from longest R bytes block from put put' true pending t p =
    let piece : take from block ≡ with_line_feed (take p.0 block) = ap (λ n. take n block) p.2 ∙ p.1.line in
    rw piece (Taken-end longest R bytes (take p.0 block) put put' pending t p.1.front (rw piece at p.3))

-- the line that passes goes on behind the block
pub Taken-on : (longest : ℕ) (R : List ℕ → List ℕ → Type 0) (bytes block : List ℕ) (put put' : Option (List ℕ)) (is_passing : Bool) (pending : List ℕ)
    → Taken longest R bytes put is_passing pending → PassesOn is_passing block None put put'
    → Taken longest R (bytes ++ block) put' is_passing pending
Taken-on longest R bytes block put put' false pending t p = absurd (cc (p.0))
Taken-on longest R bytes block put put' true pending t p = Taken-more longest R bytes block put put' pending t p.0 p.1

-- ---- a block of lines

-- its lines were written, and the one that waits behind them, if it is too long
pub Taken-lines : (longest : ℕ) (R Q : List ℕ → List ℕ → Type 0) (bytes block p0 p1 p2 early : List ℕ) (put put1 put2 : Option (List ℕ)) (is_passing : Bool)
    → Stays R Q → Taken longest R bytes put false p0 → Writes (within longest Q) (ended_lines_of (p0 ++ block)) put put1
    → p1 ≡ unended_of (p0 ++ block) → Grows put1 put2 early → Waits longest is_passing p1 early p2
    → Taken longest R (bytes ++ block) put2 is_passing p2
Taken-lines longest R Q bytes block p0 p1 p2 early put put1 put2 is_passing stays t lines left grows waits =
    let now : Become (within longest R) (ended_lines_of (p0 ++ block)) lines.0 =
    Become-before (within longest R) (within longest Q) (ended_lines_of (p0 ++ block)) lines.0
    (Stays-within longest R Q stays) lines.2 in
    let ended : ended_lines_of (bytes ++ block) ≡ ended_lines_of bytes ++ ended_lines_of (p0 ++ block) =
    ended_lines_of-append bytes block ∙ ap (λ p. ended_lines_of bytes ++ ended_lines_of (p ++ block)) (sym t.waits.2) in
    let unended : unended_of (bytes ++ block) ≡ p1 =
    unended_of-append bytes block ∙ ap (λ p. unended_of (p ++ block)) (sym t.waits.2) ∙ sym left in
    let before : Knows put t.text =
    subst (λ x. Knows put x) (ap (λ e. t.text ++ e) t.waits.1 ∙ append-nil t.text) t.written in
    record {
      text = t.text ++ lines.0;
      early = early;
      written = Knows-then put1 put2 (t.text ++ lines.0) early (Knows-then put put1 t.text lines.0 before lines.1) grows;
      became = subst (λ l. Become (within longest R) l (t.text ++ lines.0)) (sym ended)
          (Become-append (within longest R) (ended_lines_of bytes) (ended_lines_of (p0 ++ block)) t.text lines.0 t.became
          now);
      waits = subst (λ line. Waits longest is_passing line early p2) (sym unended) waits;
    }

-- ---- a read

-- a block was read, and what was read before it was taken
pub record Reading (longest : ℕ) (R : List ℕ → List ℕ → Type 0) (got put : Option (List ℕ)) (is_passing : Bool) (pending block : List ℕ) : Type 0 where
  pub bytes : List ℕ
  pub read : Knows got (bytes ++ block)
  pub taken : Taken longest R bytes put is_passing pending

pub Going-read : (longest : ℕ) (R : List ℕ → List ℕ → Type 0) (got got1 put put1 : Option (List ℕ)) (is_passing : Bool) (pending block : List ℕ)
    → Going longest R got put is_passing pending → Grows got got1 block → put1 ≡ put
    → Reading longest R got1 put1 is_passing pending block
Going-read longest R got got1 put put1 is_passing pending block going read kept = record {
  bytes = going.bytes;
  read = Knows-then got got1 going.bytes block going.read read;
  taken = subst (λ p. Taken longest R going.bytes p is_passing pending) (sym kept) going.taken;
}

-- the line that passes goes on behind the block
pub Reading-passes : (longest : ℕ) (R : List ℕ → List ℕ → Type 0) (got got1 put put1 : Option (List ℕ)) (is_passing : Bool) (pending block : List ℕ)
    → Reading longest R got put is_passing pending block → PassesOn is_passing block None put put1 → got1 ≡ got
    → Going longest R got1 put1 is_passing pending
Reading-passes longest R got got1 put put1 is_passing pending block r passed same = record {
  bytes = r.bytes ++ block;
  read = subst (λ g. Knows g (r.bytes ++ block)) (sym same) r.read;
  taken = Taken-on longest R r.bytes block put put1 is_passing pending r.taken passed;
}

-- lines begin again in the block
Reading-from : (longest : ℕ) (R : List ℕ → List ℕ → Type 0) (got got1 put put1 : Option (List ℕ)) (is_passing : Bool) (pending block rest : List ℕ) (from : ℕ)
    → Reading longest R got put is_passing pending block → PassesOn is_passing block (Some from) put put1 → got1 ≡ got
    → rest ≡ drop from block → Reading longest R got1 put1 false pending rest
Reading-from longest R got got1 put put1 is_passing pending block rest from r passed same left = record {
  bytes = r.bytes ++ take from block;
  read = subst (λ g. Knows g ((r.bytes ++ take from block) ++ rest)) (sym same)
      (subst (λ b. Knows got b)
      (ap (λ b. r.bytes ++ b) (sym (take-append-drop from block))
      ∙ sym (append_assoc r.bytes (take from block) (drop from block))
      ∙ ap (λ b. (r.bytes ++ take from block) ++ b) (sym left))
      r.read);
  taken = Taken-from longest R r.bytes block from put put1 is_passing pending r.taken passed;
}

pub Going-from : (longest : ℕ) (R : List ℕ → List ℕ → Type 0) (got got1 got2 put put1 put2 : Option (List ℕ)) (is_passing : Bool) (pending block rest : List ℕ) (from : ℕ)
    → Going longest R got put is_passing pending → Grows got got1 block → put1 ≡ put
    → PassesOn is_passing block (Some from) put1 put2 → got2 ≡ got1 → rest ≡ drop from block
    → Reading longest R got2 put2 false pending rest
Going-from longest R got got1 got2 put put1 put2 is_passing pending block rest from going read kept passed same left =
    Reading-from longest R got1 got2 put1 put2 is_passing pending block rest from
    (Going-read longest R got got1 put put1 is_passing pending block going read kept) passed same left

-- its lines were taken
pub Reading-lines : (longest : ℕ) (R Q : List ℕ → List ℕ → Type 0) (got got1 put put1 put2 : Option (List ℕ)) (is_passing : Bool) (p0 p1 p2 block early : List ℕ)
    → Reading longest R got put false p0 block → Stays R Q
    → Writes (within longest Q) (ended_lines_of (p0 ++ block)) put put1 → p1 ≡ unended_of (p0 ++ block)
    → Grows put1 put2 early → Waits longest is_passing p1 early p2 → got1 ≡ got
    → Going longest R got1 put2 is_passing p2
Reading-lines longest R Q got got1 put put1 put2 is_passing p0 p1 p2 block early r stays lines left grows waits same =
    record {
      bytes = r.bytes ++ block;
      read = subst (λ g. Knows g (r.bytes ++ block)) (sym same) r.read;
      taken = Taken-lines longest R Q r.bytes block p0 p1 p2 early put put1 put2 is_passing stays r.taken lines left
          grows waits;
    }

-- ---- the end of a run

-- what was written is what some first lines became, and behind them is the one that waits, if one does
record Told (longest : ℕ) (R : List ℕ → List ℕ → Type 0) (bytes : List ℕ) (put : Option (List ℕ)) (pending : List ℕ) : Type 0 where
  lines : List (List ℕ)
  text : List ℕ
  written : Knows put text
  became : Become (within longest R) lines text
  in_order : all_lines_of bytes ≡ lines ++ last_line_of pending

-- a line that is not empty is the last one
some_line : (longest : ℕ) (line : List ℕ) → longest < length line → line ≡ [] → ⊥
some_line longest [] long none = absurd (omega arith)
some_line longest (b ∷ line) long none = cc

told : (longest : ℕ) (R : List ℕ → List ℕ → Type 0) (bytes : List ℕ) (put : Option (List ℕ)) (is_passing : Bool) (pending : List ℕ)
    → Taken longest R bytes put is_passing pending → Told longest R bytes put pending
told longest R bytes put false pending t = record {
  lines = ended_lines_of bytes;
  text = t.text;
  written = subst (λ x. Knows put x) (ap (λ e. t.text ++ e) t.waits.1 ∙ append-nil t.text) t.written;
  became = t.became;
  in_order = ap (λ p. ended_lines_of bytes ++ last_line_of p) (sym t.waits.2);
}
told longest R bytes put true pending t =
    let line = unended_of bytes in
    let last : last_line_of line ≡ line ∷ [] = last_is_one line (some_line longest line t.waits.0) in
    let passed : Become (within longest R) (last_line_of line) t.early =
    subst (λ lines. Become (within longest R) lines t.early) (sym last)
    (subst (λ e. Become (within longest R) (line ∷ []) e) (sym t.waits.1)
    (Become-one (within longest R) line line (long_stays longest R line t.waits.0))) in
    record {
      lines = all_lines_of bytes;
      text = t.text ++ t.early;
      written = t.written;
      became = Become-append (within longest R) (ended_lines_of bytes) (last_line_of line) t.text t.early t.became passed;
      in_order = sym (ap (λ p. all_lines_of bytes ++ last_line_of p) t.waits.2 ∙ append-nil (all_lines_of bytes));
    }

-- the input has ended
pub Going-ended : (longest : ℕ) (R Q : List ℕ → List ℕ → Type 0) (got got1 got2 put put1 put2 : Option (List ℕ)) (is_passing : Bool) (pending : List ℕ)
    → Stays R Q → Going longest R got put is_passing pending → Grows got got1 [] → got2 ≡ got1 → put1 ≡ put
    → Writes (within longest Q) (last_line_of pending) put1 put2 → HasFiltered (within longest R) got2 put2
Going-ended longest R Q got got1 got2 put put1 put2 is_passing pending stays going read same kept written =
    let t = told longest R going.bytes put is_passing pending going.taken in
    let last : Become (within longest R) (last_line_of pending) written.0 =
    Become-before (within longest R) (within longest Q) (last_line_of pending) written.0 (Stays-within longest R Q stays)
    written.2 in
    record {
      bytes = going.bytes;
      text = t.text ++ written.0;
      read = subst (λ g. Knows g going.bytes) (sym same)
          (subst (λ b. Knows got1 b) (append-nil going.bytes) (Knows-then got got1 going.bytes [] going.read read));
      written = Knows-then put put2 t.text written.0 t.written (subst (λ p. Grows p put2 written.0) kept written.1);
      became = subst (λ lines. Become (within longest R) lines (t.text ++ written.0)) (sym t.in_order)
          (Become-append (within longest R) t.lines (last_line_of pending) t.text written.0 t.became last);
    }

-- ---- a call that fails

-- what was written is a beginning of what would have been
cut_text : (put whole : Option (List ℕ)) (missing text : List ℕ) → Grows put whole missing → Knows whole text
    → (sent : List ℕ) × (more : List ℕ) × Knows put sent × (text ≡ sent ++ more)
cut_text None whole missing text grows known = (text, [], tt, sym (append-nil text))
cut_text (Some k) whole missing text grows known = (k, missing, refl, sym (rw grows at known))

-- all bytes of a write that failed, written
all_sent : (put put' : Option (List ℕ)) (bytes : List ℕ) (cut : GrowsInPart put put' bytes)
    → (whole : Option (List ℕ)) × Grows put whole bytes × Grows put' whole cut.missing
all_sent None put' bytes cut = (None, refl, subst (λ p. Grows p None cut.missing) (sym cut.grown) refl)
all_sent (Some k) put' bytes cut = (
  Some (k ++ bytes),
  refl,
  subst (λ p. Grows p (Some (k ++ bytes)) cut.missing) (sym cut.grown)
      (ap Some (ap (λ b. k ++ b) cut.in_order ∙ sym (append_assoc k cut.sent cut.missing))),
)

-- some first lines would have become what would have been written
begun_at : (R : List ℕ → List ℕ → Type 0) (bytes text missing : List ℕ) (lines others : List (List ℕ)) (got put whole : Option (List ℕ))
    → Knows got bytes → all_lines_of bytes ≡ lines ++ others → Become R lines text → Knows whole text
    → Grows put whole missing → HasBegun R got put
begun_at R bytes text missing lines others got put whole read in_order became known grows =
    let c = cut_text put whole missing text grows known in
    record {
      bytes = bytes;
      lines = lines;
      others = others;
      sent = c.0;
      missing = c.1;
      read = read;
      written = c.2;
      in_order = in_order;
      became = subst (λ t. Become R lines t) c.3 became;
    }

-- these bytes would have been taken
Taken-cut : (longest : ℕ) (R : List ℕ → List ℕ → Type 0) (bytes missing : List ℕ) (got put whole : Option (List ℕ)) (is_passing : Bool) (pending : List ℕ)
    → Knows got bytes → Taken longest R bytes whole is_passing pending → Grows put whole missing
    → HasBegun (within longest R) got put
Taken-cut longest R bytes missing got put whole is_passing pending read taken grows =
    let t = told longest R bytes whole is_passing pending taken in
    begun_at (within longest R) bytes t.text missing t.lines (last_line_of pending) got put whole read t.in_order t.became
    t.written grows

-- they would have been taken, and more follow
Taken-cut_before : (longest : ℕ) (R : List ℕ → List ℕ → Type 0) (bytes more missing : List ℕ) (got put whole : Option (List ℕ)) (pending : List ℕ)
    → Knows got (bytes ++ more) → Taken longest R bytes whole false pending → Grows put whole missing
    → HasBegun (within longest R) got put
Taken-cut_before longest R bytes more missing got put whole pending read t grows =
    let last = last_line_of (unended_of (bytes ++ more)) in
    begun_at (within longest R) (bytes ++ more) t.text missing (ended_lines_of bytes)
    (ended_lines_of (unended_of bytes ++ more) ++ last) got put whole read
    (ap (λ lines. lines ++ last) (ended_lines_of-append bytes more)
    ∙ append_assoc (ended_lines_of bytes) (ended_lines_of (unended_of bytes ++ more)) last)
    t.became (subst (λ x. Knows whole x) (ap (λ e. t.text ++ e) t.waits.1 ∙ append-nil t.text) t.written) grows

-- a read has failed
pub Going-stopped : (longest : ℕ) (R : List ℕ → List ℕ → Type 0) (got got1 put put1 : Option (List ℕ)) (is_passing : Bool) (pending : List ℕ)
    → Going longest R got put is_passing pending → got1 ≡ got → put1 ≡ put → HasBegun (within longest R) got1 put1
Going-stopped longest R got got1 put put1 is_passing pending going same kept =
    Taken-cut longest R going.bytes [] got1 put1 put1 is_passing pending
    (subst (λ g. Knows g going.bytes) (sym same) going.read)
    (subst (λ p. Taken longest R going.bytes p is_passing pending) (sym kept) going.taken) (Grows-none put1)

-- a write of a line that passes has failed
passes_off : (longest : ℕ) (R : List ℕ → List ℕ → Type 0) (got put put1 : Option (List ℕ)) (pending block piece : List ℕ)
    → Reading longest R got put true pending block → IsPassed block piece → GrowsInPart put put1 piece
    → HasBegun (within longest R) got put1
passes_off longest R got put put1 pending block piece r passed cut =
    let w = all_sent put put1 piece cut in
    elim passed [
      | inl p ↦
          Taken-cut longest R (r.bytes ++ block) cut.missing got put1 w.0 true pending r.read
          (Taken-more longest R r.bytes block put w.0 pending r.taken p.0
          (subst (λ b. Grows put w.0 b) p.1 w.1)) w.2
      | inr p ↦
          let line = take p.0 block in
          Taken-cut_before longest R (r.bytes ++ with_line_feed line) (drop (p.0 + 1) block) cut.missing got put1 w.0
          pending
          (subst (λ b. Knows got b)
          (ap (λ b. r.bytes ++ b) p.1.whole ∙ sym (append_assoc r.bytes (with_line_feed line) (drop (p.0 + 1) block)))
          r.read)
          (Taken-end longest R r.bytes line put w.0 pending r.taken p.1.front
          (subst (λ b. Grows put w.0 b) (p.2 ∙ p.1.line) w.1))
          w.2
    ]

pub Reading-passes_off : (longest : ℕ) (R : List ℕ → List ℕ → Type 0) (got got1 put put1 : Option (List ℕ)) (is_passing : Bool) (pending block piece : List ℕ)
    → Reading longest R got put is_passing pending block → is_passing ≡ true → IsPassed block piece
    → GrowsInPart put put1 piece → got1 ≡ got → HasBegun (within longest R) got1 put1
Reading-passes_off longest R got got1 put put1 is_passing pending block piece r passes passed cut same =
    subst (λ g. HasBegun (within longest R) g put1) (sym same)
    (passes_off longest R got put put1 pending block piece
    (subst (λ b. Reading longest R got put b pending block) passes r) passed cut)

-- a write of a line that is too long has failed
pub Reading-early_off : (longest : ℕ) (R Q : List ℕ → List ℕ → Type 0) (got got1 put put1 put2 : Option (List ℕ)) (p0 p1 block : List ℕ)
    → Reading longest R got put false p0 block → Stays R Q
    → Writes (within longest Q) (ended_lines_of (p0 ++ block)) put put1 → p1 ≡ unended_of (p0 ++ block)
    → longest < length p1 → GrowsInPart put1 put2 p1 → got1 ≡ got → HasBegun (within longest R) got1 put2
Reading-early_off longest R Q got got1 put put1 put2 p0 p1 block r stays lines left long cut same =
    let w = all_sent put1 put2 p1 cut in
    Taken-cut longest R (r.bytes ++ block) cut.missing got1 put2 w.0 true []
    (subst (λ g. Knows g (r.bytes ++ block)) (sym same) r.read)
    (Taken-lines longest R Q r.bytes block p0 p1 [] p1 put put1 w.0 true stays r.taken lines left w.1 (long, refl, refl))
    w.2

-- lines break off after others
begun : (longest : ℕ) (R Q : List ℕ → List ℕ → Type 0) (bytes text : List ℕ) (old all after : List (List ℕ)) (got put put1 : Option (List ℕ))
    → Stays R Q → Knows got bytes → Knows put text → Become (within longest R) old text
    → all_lines_of bytes ≡ (old ++ all) ++ after → BreaksOff (within longest Q) all put put1
    → HasBegun (within longest R) got put1
begun longest R Q bytes text old all after got put put1 stays read written became in_order off =
    let w = all_sent put put1 off.text off.cut in
    let now : Become (within longest R) off.lines off.text =
    Become-before (within longest R) (within longest Q) off.lines off.text (Stays-within longest R Q stays) off.became in
    begun_at (within longest R) bytes (text ++ off.text) off.cut.missing (old ++ off.lines) (off.others ++ after) got put1
    w.0 read
    (in_order ∙ ap (λ l. (old ++ l) ++ after) off.in_order
    ∙ ap (λ l. l ++ after) (sym (append_assoc old off.lines off.others))
    ∙ append_assoc (old ++ off.lines) off.others after)
    (Become-append (within longest R) old off.lines text off.text became now)
    (Knows-then put w.0 text off.text written w.1) w.2

-- a write of lines has failed
pub Reading-off : (longest : ℕ) (R Q : List ℕ → List ℕ → Type 0) (got got1 put put1 : Option (List ℕ)) (p0 block : List ℕ)
    → Reading longest R got put false p0 block → Stays R Q
    → BreaksOff (within longest Q) (ended_lines_of (p0 ++ block)) put put1 → got1 ≡ got
    → HasBegun (within longest R) got1 put1
Reading-off longest R Q got got1 put put1 p0 block r stays off same =
    let t = r.taken in
    let last = last_line_of (unended_of (r.bytes ++ block)) in
    begun longest R Q (r.bytes ++ block) t.text (ended_lines_of r.bytes) (ended_lines_of (p0 ++ block)) last got1 put put1
    stays (subst (λ g. Knows g (r.bytes ++ block)) (sym same) r.read)
    (subst (λ x. Knows put x) (ap (λ e. t.text ++ e) t.waits.1 ∙ append-nil t.text) t.written) t.became
    (ap (λ lines. lines ++ last)
    (ended_lines_of-append r.bytes block
    ∙ ap (λ p. ended_lines_of r.bytes ++ ended_lines_of (p ++ block)) (sym t.waits.2)))
    off

-- the write of the last line has failed
pub Going-end_off : (longest : ℕ) (R Q : List ℕ → List ℕ → Type 0) (got got1 got2 put put1 put2 : Option (List ℕ)) (is_passing : Bool) (pending : List ℕ)
    → Stays R Q → Going longest R got put is_passing pending → Grows got got1 [] → got2 ≡ got1 → put1 ≡ put
    → BreaksOff (within longest Q) (last_line_of pending) put1 put2 → HasBegun (within longest R) got2 put2
Going-end_off longest R Q got got1 got2 put put1 put2 is_passing pending stays going read same kept off =
    let t = told longest R going.bytes put is_passing pending going.taken in
    begun longest R Q going.bytes t.text t.lines (last_line_of pending) [] got2 put1 put2 stays
    (subst (λ g. Knows g going.bytes) (sym same)
    (subst (λ b. Knows got1 b) (append-nil going.bytes) (Knows-then got got1 going.bytes [] going.read read)))
    (subst (λ p. Knows p t.text) (sym kept) t.written) t.became
    (t.in_order ∙ sym (append-nil (t.lines ++ last_line_of pending))) off
