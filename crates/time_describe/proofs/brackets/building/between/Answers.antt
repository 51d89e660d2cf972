use Rattle.std.proofs.Common.{◌≡◌, ℕ, ◌+◌, List, [], ◌∷◌, ◌++◌, ◌&&◌, length, drop, reverse, sym, ap, ◌∙◌, refl, arith, eqb, ltb, false, true, eq-eqb, ne_eqb}
use Rattle.std.proofs.lemmas.Bool.{eqb-false, eqb-true, le-ltb, lt-ltb}
use Rattle.std.proofs.lemmas.Result.{err_from_is_err_and}
use Rattle.std.specs.List.{prefix_len}
use Rattle.std.specs.Char.{is_ascii_whitespace}
use Rattle.time_below.specs.Tree.{Tree}
use Rattle.time_describe.specs.declared.brackets.reason.BracketReason.TheVariants.{UnexpectedByte, TooDeep}
use Rattle.time_describe.specs.declared.items.ListKind.{ListKind}
use Rattle.time_describe.specs.Reading.{Frame, read, between, outside, nested, takes_list, fails}
use Rattle.time_describe.proofs.EndLemmas.{end_cut, end_more}
use Rattle.time_describe.proofs.FrameLemmas.{kept_length, kept_pushed}
use Rattle.time_describe.proofs.ReadLemmas.{gap_read, gap_ended, nothing_between, lists_closed, lists_refused, list_unexpected, list_too_deep, list_opened}
use Rattle.time_describe.proofs.brackets.building.between.Goals as goal
use Rattle.time_describe.proofs.brackets.building.between.Goals.{then-first-ne91-via-then-first-ne91, then-first-ne91-via-else-first-ne91+then-not-takes_list}

-- behind the whitespace
behind : (fs : List Frame) (k : ListKind) (o : ℕ) (lists items : List Tree) (bytes rest s : List ℕ) → rest ≡ drop (prefix_len is_ascii_whitespace bytes) bytes → rest ≡ s
    → read fs (between k o lists) items [] bytes ≡ read fs (between k o lists) items [] s
behind fs k o lists items bytes rest s is begins = gap_read bytes fs k o lists items ∙ ap (read fs (between k o lists) items []) (sym is ∙ begins)

pub returns-in_default-clause-goes_on : goal.returns-in_default-clause-goes_on
returns-in_default-clause-goes_on g c = λ text fs before lists first are held.
    behind fs c.args.kind c.args.opened lists before c.args.bytes.now c.after_gap-rest.result.now [] c.after_gap-rest.ensures c.in_default.ensures
    ∙ nothing_between fs c.args.kind c.args.opened lists before

pub returns-in_err-end_lists-clause-goes_on : goal.returns-in_err-end_lists-clause-goes_on
returns-in_err-end_lists-clause-goes_on g c =
    let p = err_from_is_err_and c.from_residual.result c.from_residual.ensures.1 in
    let white : is_ascii_whitespace c.in-Some.first ≡ false = gap_ended c.args.bytes.now c.in-Some.first c.in-Some.after.now (sym c.after_gap-rest.ensures ∙ c.in-Some.ensures) in
    let len : length c.in-Some.after.now + 1 ≡ length c.after_gap-rest.result.now = omega (arith, ap length c.in-Some.ensures) in
    rw (p.1, p.2) (λ text fs before lists first are held.
    behind fs c.args.kind c.args.opened lists before c.args.bytes.now c.after_gap-rest.result.now (c.in-Some.first ∷ c.in-Some.after.now) c.after_gap-rest.ensures c.in-Some.ensures
    ∙ lists_refused fs c.args.kind c.args.opened lists before c.in-Some.first c.in-Some.after.now c.in_err-end_lists.field-0.0 white (eq-eqb _ _ c.if-first-eq93.true)
    (ap (nested c.args.kind lists) len ∙ c.in_err-end_lists.ensures.ended text fs before lists first held))

pub returns-then-first-eq93-clause-goes_on : goal.returns-then-first-eq93-clause-goes_on
returns-then-first-eq93-clause-goes_on g c = λ text fs before lists first are held.
    let white : is_ascii_whitespace c.in-Some.first ≡ false = gap_ended c.args.bytes.now c.in-Some.first c.in-Some.after.now (sym c.after_gap-rest.ensures ∙ c.in-Some.ensures) in
    let len : length c.in-Some.after.now + 1 ≡ length c.after_gap-rest.result.now = omega (arith, ap length c.in-Some.ensures) in
    let w = c.in_ok-end_lists.ensures.ended text fs before lists first held in (
      fs,
      before ++ w.0 ∷ [],
      (are, w.2),
      behind fs c.args.kind c.args.opened lists before c.args.bytes.now c.after_gap-rest.result.now (c.in-Some.first ∷ c.in-Some.after.now) c.after_gap-rest.ensures c.in-Some.ensures
          ∙ lists_closed fs c.args.kind c.args.opened lists before c.in-Some.first c.in-Some.after.now w.0 white (eq-eqb _ _ c.if-first-eq93.true) (ap (nested c.args.kind lists) len ∙ w.1),
    )

pub returns-then-first-ne91-clause-goes_on : goal.returns-then-first-ne91-clause-goes_on
returns-then-first-ne91-clause-goes_on g c = λ text fs before lists first are held.
    let white : is_ascii_whitespace c.in-Some.first ≡ false = gap_ended c.args.bytes.now c.in-Some.first c.in-Some.after.now (sym c.after_gap-rest.ensures ∙ c.in-Some.ensures) in
    let len : length c.in-Some.after.now + 1 ≡ length c.after_gap-rest.result.now = omega (arith, ap length c.in-Some.ensures) in
    let refused : (eqb c.in-Some.first 91 && takes_list c.args.kind lists) ≡ false =
    elim c.then-first-ne91.branch [
      | then-first-ne91-via-then-first-ne91 w ↦ rw (ne_eqb _ _ w.if-first-ne91.true) refl
      | then-first-ne91-via-else-first-ne91+then-not-takes_list w ↦ rw (eq-eqb _ _ w.if-first-ne91.false, sym (w.if-not-takes_list.ensures lists first)) refl
    ] in
    behind fs c.args.kind c.args.opened lists before c.args.bytes.now c.after_gap-rest.result.now (c.in-Some.first ∷ c.in-Some.after.now) c.after_gap-rest.ensures c.in-Some.ensures
    ∙ list_unexpected fs c.args.kind c.args.opened lists before c.in-Some.first c.in-Some.after.now white (ne_eqb _ _ c.if-first-eq93.false) refused
    ∙ ap (λ (n : ℕ). fails UnexpectedByte n) len

pub returns-then-is_full-clause-goes_on : goal.returns-then-is_full-clause-goes_on
returns-then-is_full-clause-goes_on g c = λ text fs before lists first are held.
    let white : is_ascii_whitespace c.in-Some.first ≡ false = gap_ended c.args.bytes.now c.in-Some.first c.in-Some.after.now (sym c.after_gap-rest.ensures ∙ c.in-Some.ensures) in
    let len : length c.in-Some.after.now + 1 ≡ length c.after_gap-rest.result.now = omega (arith, ap length c.in-Some.ensures) in
    let taken : (eqb c.in-Some.first 91 && takes_list c.args.kind lists) ≡ true = rw (eq-eqb _ _ c.if-first-ne91.false, sym (c.if-not-takes_list.ensures lists first)) refl in
    let full : length c.args.frames.now.items ≡ 32 = eqb-true _ _ (sym c.if-is_full.ensures.value) in
    let deep : ltb (length fs) 32 ≡ false = le-ltb _ _ (omega (arith, kept_length c.args.frames.now.items fs are, full)) in
    behind fs c.args.kind c.args.opened lists before c.args.bytes.now c.after_gap-rest.result.now (c.in-Some.first ∷ c.in-Some.after.now) c.after_gap-rest.ensures c.in-Some.ensures
    ∙ list_too_deep fs c.args.kind c.args.opened lists before c.in-Some.first c.in-Some.after.now white (ne_eqb _ _ c.if-first-eq93.false) taken deep
    ∙ ap (λ (n : ℕ). fails TooDeep n) len

pub returns-clause-goes_on : goal.returns-clause-goes_on
returns-clause-goes_on g c = λ text fs before lists first are held.
    let white : is_ascii_whitespace c.in-Some.first ≡ false = gap_ended c.args.bytes.now c.in-Some.first c.in-Some.after.now (sym c.after_gap-rest.ensures ∙ c.in-Some.ensures) in
    let len : length c.in-Some.after.now + 1 ≡ length c.after_gap-rest.result.now = omega (arith, ap length c.in-Some.ensures) in
    let taken : (eqb c.in-Some.first 91 && takes_list c.args.kind lists) ≡ true = rw (eq-eqb _ _ c.if-first-ne91.false, sym (c.if-not-takes_list.ensures lists first)) refl in
    let some : (length c.args.frames.now.items ≡ 32 → ⊥) = eqb-false _ _ (sym c.if-is_full.ensures.value) in
    let shallow : ltb (length fs) 32 ≡ true = lt-ltb _ _ (omega (arith, kept_length c.args.frames.now.items fs are, some, c.if-is_full.ensures.fits)) in
    let f : Frame = record { kind = c.args.kind; opened = c.args.opened; opened_list = length c.after_gap-rest.result.now; items = before; lists = lists } in (
      f ∷ fs,
      [],
      (
        kept_pushed c.args.frames.now.items fs f are ∙ ap reverse (sym c.push.ensures.items),
        c.open_list.ensures.opened text f fs (c.len.ensures.value ∙ sym (kept_length c.args.frames.now.items fs are)) first held,
      ),
      behind fs c.args.kind c.args.opened lists before c.args.bytes.now c.after_gap-rest.result.now (c.in-Some.first ∷ c.in-Some.after.now) c.after_gap-rest.ensures c.in-Some.ensures
          ∙ list_opened fs c.args.kind c.args.opened lists before c.in-Some.first c.in-Some.after.now white (ne_eqb _ _ c.if-first-eq93.false) taken shallow
          ∙ ap (λ (n : ℕ). read (record { kind = c.args.kind; opened = c.args.opened; opened_list = n; items = before; lists = lists } ∷ fs) outside [] [] c.in-Some.after.now) len,
    )

pub returns-then-first-eq93-clause-end : goal.returns-then-first-eq93-clause-end
returns-then-first-eq93-clause-end g c =
    end_more _ _ _ (prefix_len is_ascii_whitespace c.args.bytes.now, c.after_gap-rest.ensures) (end_cut c.after_gap-rest.result.now c.in-Some.first c.in-Some.after.now c.in-Some.ensures)

pub returns-clause-end : goal.returns-clause-end
returns-clause-end g c =
    end_more _ _ _ (prefix_len is_ascii_whitespace c.args.bytes.now, c.after_gap-rest.ensures) (end_cut c.after_gap-rest.result.now c.in-Some.first c.in-Some.after.now c.in-Some.ensures)
