use Rattle.std.proofs.Common.{◌≡◌, ◌+◌, ◌<◌, ◌≤◌, ◌++◌, ℕ, List, [], length, drop, refl, sym, ap, ◌∙◌, subst, arith}
use Rattle.std.specs.Prelude.{◌-◌, slice_range, take}
use Rattle.std.proofs.lemmas.List.{drop-drop, length-append, length-drop, nil_from_length}
use Rattle.std.proofs.lemmas.Result.{err_from_is_err_and}
use Rattle.time_below.specs.Tree.{Tree}
use Rattle.time_describe.specs.Items.{Adds, items_of_parted}
use Rattle.time_describe.specs.Limit.{most_items}
use Rattle.time_describe.specs.Strftime.{Front, fails, first_part, read}
use Rattle.time_describe.specs.StrftimeOutcome.{BeginsParted, items_of_part}
use Rattle.time_describe.specs.declared.strftime.part.StrftimePart.{StrftimePart}
use Rattle.time_describe.specs.declared.strftime.reason.StrftimeReason.TheVariants.{TooManyItems}
use Rattle.time_describe.proofs.PartedLemmas.{parted_read}
use Rattle.time_describe.proofs.StrftimeLaws.{fault_within}
use Rattle.time_describe.proofs.StrftimeLemmas.{from_place, own_bytes, part_exceeds, part_read, part_refused, read_end}
use Rattle.time_describe.proofs.strftime.StrftimeSyntax.put_all.Goals as goal
use Rattle.time_describe.proofs.strftime.StrftimeSyntax.put_all.Goals.{in_default-via-in-None-1, in_default-via-in-Some+else-count, in_default-via-in-Some+then-count+else-put_parted}

some : (text : List ℕ) (at : ℕ) → at < length text → 0 < length (drop at text)
some text at h = omega (arith, length-drop at text)

-- the first part from a place on
abbrev front_at : List ℕ → ℕ → ℕ → StrftimePart → Front
front_at text at behind part = record { items = items_of_part (take (behind + 1) (take (length text - at) (drop at text))) part; behind = behind }

-- how many items there are with those of this part
more : (text : List ℕ) (at count added behind : ℕ) (before : List Tree) (part : StrftimePart) → count ≡ length before
    → added ≡ length (items_of_part (slice_range text at (at + (behind + 1))) part)
    → length (before ++ (front_at text at behind part).items) ≡ count + added
more text at count added behind before part is adds =
    let own = ap (λ (v : List ℕ). length (items_of_part v part)) (own_bytes text at (behind + 1)) in
    omega (arith, is, adds, own, length-append before (front_at text at behind part).items)

pub returns-in_err-part-clause-fault : goal.returns-in_err-part-clause-fault
returns-in_err-part-clause-fault g c =
    let p = err_from_is_err_and c.from_residual.result c.from_residual.ensures.1 in
    let text = c.args.text.now in
    let at = c.parts.at in
    let w = c.parts.invariant.held in
    rw (p.1, p.2) (w.3 ∙ part_refused w.0 (drop at text) c.in_err-part.field-0.0 (some text at c.parts-test.true)
    (ap first_part (sym (from_place text at)) ∙ sym c.in_err-part.ensures.part))

pub returns-in_err-part-clause-within : goal.returns-in_err-part-clause-within
returns-in_err-part-clause-within g c =
    let p = err_from_is_err_and c.from_residual.result c.from_residual.ensures.1 in
    let text = c.args.text.now in
    let at = c.parts.at in
    let w = c.parts.invariant.held in
    rw (p.1, p.2) (fault_within text c.in_err-part.field-0.0 (w.3 ∙ part_refused w.0 (drop at text) c.in_err-part.field-0.0 (some text at c.parts-test.true)
    (ap first_part (sym (from_place text at)) ∙ sym c.in_err-part.ensures.part)))

pub returns-then-count-gt-MOST_ITEMS-clause-fault : goal.returns-then-count-gt-MOST_ITEMS-clause-fault
returns-then-count-gt-MOST_ITEMS-clause-fault g c =
    let text = c.args.text.now in
    let at = c.parts.at in
    let w = c.parts.invariant.held in
    let front = front_at text at c.in_ok-part.behind c.in_ok-part.part in
    let now = w.0 ++ front.items in
    let sum : length now ≡ c.parts.count + c.put_part.result = more text at c.parts.count c.put_part.result c.in_ok-part.behind w.0 c.in_ok-part.part w.1 c.put_part.ensures.count in
    let many : most_items < length now = omega (arith, sum, c.saturating_add-count.ensures, c.if-count-gt-MOST_ITEMS.true) in
    w.3 ∙ part_exceeds w.0 now (drop at text) front (some text at c.parts-test.true)
    (ap first_part (sym (from_place text at)) ∙ sym c.in_ok-part.ensures.part) refl many
    ∙ ap (λ (k : ℕ). fails TooManyItems k) (length-drop at text)

pub returns-then-count-gt-MOST_ITEMS-clause-within : goal.returns-then-count-gt-MOST_ITEMS-clause-within
returns-then-count-gt-MOST_ITEMS-clause-within g c = (omega (arith, c.parts-test.true), omega arith)

pub parts-preserved-in-parts : goal.parts-preserved-in-parts
parts-preserved-in-parts g c =
    let text = c.args.text.now in
    let at = c.parts.at in
    let w = c.parts.invariant.held in
    let parted = c.in-Some.parted in
    let now = w.0 ++ items_of_parted parted in
    let begins = subst (λ (rest : List ℕ). BeginsParted rest parted) (from_place text at) c.in-Some.ensures.begins in
    let few : length w.0 + 5 ≤ most_items = omega (arith, w.1, c.if-count.true) in record {
      within = omega (arith, c.in-Some.ensures.within, ap length (from_place text at), length-drop at text);
      few = omega (arith, c.if-count.true);
      held = (
        now,
        omega (arith, w.1, length-append w.0 (items_of_parted parted)),
        c.put_parted.ensures.put c.if-put_parted.true text w.0 w.2,
        w.3 ∙ parted_read w.0 (drop at text) parted begins few ∙ ap (read now 0) (drop-drop 8 at text),
      );
      lender = c.put_parted.ensures.lender ∙ c.parts.invariant.lender;
    }

pub parts-preserved : goal.parts-preserved
parts-preserved g c =
    let text = c.args.text.now in
    let at = c.parts.at in
    let n = c.in_ok-part.behind + 1 in
    let w = c.parts.invariant.held in
    let part = c.in_ok-part.part in
    let front = front_at text at c.in_ok-part.behind part in
    let now = w.0 ++ front.items in
    let sum : length now ≡ c.parts.count + c.put_part.result = more text at c.parts.count c.put_part.result c.in_ok-part.behind w.0 part w.1 c.put_part.ensures.count in
    let few : length now ≤ most_items = omega (arith, sum, c.saturating_add-count.ensures, c.if-count-gt-MOST_ITEMS.false) in
    let kept : c.in_default.items ≡ c.parts.items = elim c.in_default.branch [
      | in_default-via-in-None-1 v ↦ v.items-is
      | in_default-via-in-Some+else-count v ↦ v.items-is
      | in_default-via-in-Some+then-count+else-put_parted v ↦ v.items-is ∙ v.put_parted.ensures.same v.if-put_parted.false
    ] in
    let held = subst (λ (v : List ℕ). Adds (g.I.Items.Holds text []) c.in_default.items c.put_part.new.items (items_of_part v part)) (own_bytes text at n) c.put_part.ensures.put in record {
      within = omega (arith, c.in_ok-part.ensures.within, ap length (from_place text at), length-drop at text);
      few = omega (arith, c.if-count-gt-MOST_ITEMS.false);
      held = (
        now,
        omega (arith, sum, few, c.saturating_add-count.ensures),
        held w.0 (subst (λ it. g.I.Items.Holds text [] it w.0) (sym kept) w.2),
        w.3 ∙ part_read w.0 now (drop at text) front (some text at c.parts-test.true)
            (ap first_part (sym (from_place text at)) ∙ sym c.in_ok-part.ensures.part) refl few
            ∙ ap (read now 0) (drop-drop n at text),
      );
      lender = c.put_part.ensures.lender ∙ ap g.I.Items.lender kept ∙ c.parts.invariant.lender;
    }

pub returns-clause-found : goal.returns-clause-found
returns-clause-found g c =
    let w = c.parts.invariant.held in
    let none : length (drop c.parts.at c.args.text.now) ≡ 0 = omega (arith, length-drop c.parts.at c.args.text.now) in
    (w.0, w.3 ∙ ap (read w.0 0) (nil_from_length (drop c.parts.at c.args.text.now) none) ∙ read_end w.0 0, w.2)
