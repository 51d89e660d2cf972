use Rattle.std.proofs.Common.{◌≡◌, ℕ, ◌+◌, [], ◌∷◌, length, List, sym, ap, ◌∙◌, arith, eq-eqb, ne_eqb}
use Rattle.std.proofs.lemmas.Result.{err_from_is_err_and}
use Rattle.time_describe.specs.Reading.{read, brackets, at_fault, finished}
use Rattle.time_describe.proofs.ReadLemmas.{Word, no_byte, special_byte, closes, closes_wrongly, white_byte, word_read, word_made, word_refused, keyword_read, plain_word}
use Rattle.time_describe.proofs.EndLemmas.{end_cut, end_more}
use Rattle.time_describe.proofs.brackets.pieces.in_brackets.Goals as goal

pub returns-in_default-clause-goes_on : goal.returns-in_default-clause-goes_on
returns-in_default-clause-goes_on c = λ fs items. sym (c.words.invariant.along fs items)
    ∙ ap (read fs (brackets c.args.opened c.words.component []) items []) c.in_default.ensures
    ∙ no_byte fs c.args.opened c.words.component [] items

pub returns-then-is_special-clause-goes_on : goal.returns-then-is_special-clause-goes_on
returns-then-is_special-clause-goes_on c = λ fs items. sym (c.words.invariant.along fs items)
    ∙ ap (read fs (brackets c.args.opened c.words.component []) items []) c.in-Some.ensures
    ∙ special_byte fs c.in-Some.first c.args.opened c.words.component [] items c.in-Some.after.now (sym c.if-is_special.ensures)

-- the length of what is left, a byte and those behind it
left : (s : List ℕ) (b : ℕ) (bs : List ℕ) → s ≡ b ∷ bs → length bs + 1 ≡ length s
left s b bs is = omega (arith, ap length is)

pub returns-in_err-component-clause-goes_on : goal.returns-in_err-component-clause-goes_on
returns-in_err-component-clause-goes_on c =
    let p = err_from_is_err_and c.from_residual.result c.from_residual.ensures.1 in
    rw (p.1, p.2) (λ fs items. sym (c.words.invariant.along fs items)
    ∙ ap (read fs (brackets c.args.opened c.words.component []) items []) c.in-Some.ensures
    ∙ closes_wrongly fs c.in-Some.first c.args.opened c.words.component c.in_err-component.field-0.0 items c.in-Some.after.now (sym c.if-is_special.ensures) (eq-eqb _ _ c.if-first-eq93.true)
    (ap (at_fault (finished c.words.component)) (left c.words.rest.now c.in-Some.first c.in-Some.after.now c.in-Some.ensures) ∙ sym c.finished.ensures ∙ c.in_err-component.was))

pub returns-then-first-eq93-clause-goes_on : goal.returns-then-first-eq93-clause-goes_on
returns-then-first-eq93-clause-goes_on c = λ fs items. sym (c.words.invariant.along fs items)
    ∙ ap (read fs (brackets c.args.opened c.words.component []) items []) c.in-Some.ensures
    ∙ closes fs c.in-Some.first c.args.opened c.words.component c.in_ok-component.component items c.in-Some.after.now (sym c.if-is_special.ensures) (eq-eqb _ _ c.if-first-eq93.true)
    (ap (at_fault (finished c.words.component)) (left c.words.rest.now c.in-Some.first c.in-Some.after.now c.in-Some.ensures) ∙ sym c.finished.ensures ∙ c.in_ok-component.was)

pub returns-in_err-with_word-clause-goes_on : goal.returns-in_err-with_word-clause-goes_on
returns-in_err-with_word-clause-goes_on c =
    let p = err_from_is_err_and c.from_residual-in_err-with_word.result c.from_residual-in_err-with_word.ensures.1 in
    let w : Word c.words.rest.now c.split_at.result.0.now c.split_at.result.1.now c.word_len.result = record { len = c.word_len.ensures.place; front = c.split_at.ensures.front; back = c.split_at.ensures.back } in
    rw (p.1, p.2) (λ fs items. sym (c.words.invariant.along fs items)
    ∙ word_refused fs _ _ _ _ c.args.opened c.words.component items c.in-Some.first c.in-Some.after.now c.in-Some-first_and_rest.end c.in-Some-first_and_rest.field-0-1.now c.in_err-with_word.field-0.0 w c.in-Some.ensures
    (plain_word c.in-Some.first (sym c.if-is_special.ensures) (ne_eqb _ _ c.if-first-eq93.false) (sym c.if-is_ascii_whitespace.ensures.value))
    c.in-Some-first_and_rest.ensures (sym c.if-is_special-2.ensures) (sym c.in_default-list_kind_of.ensures) (sym c.with_word.ensures ∙ c.in_err-with_word.was)
    (omega (arith, c.split_at.ensures.front_len, c.split_at.ensures.back_len, c.word_len.ensures.inside)))

pub words-preserved-then-is_ascii_whitespace : goal.words-preserved-then-is_ascii_whitespace
words-preserved-then-is_ascii_whitespace c = record {
  along = λ fs items. sym (white_byte fs c.in-Some.first c.args.opened c.words.component items c.in-Some.after.now (sym c.if-is_special.ensures) (ne_eqb _ _ c.if-first-eq93.false) (sym c.if-is_ascii_whitespace.ensures.value))
      ∙ ap (read fs (brackets c.args.opened c.words.component []) items []) (sym c.in-Some.ensures)
      ∙ c.words.invariant.along fs items;
  shorter = omega (arith, c.words.invariant.shorter, ap length c.in-Some.ensures);
  end = end_more _ _ _ c.words.invariant.end (end_cut c.words.rest.now c.in-Some.first c.in-Some.after.now c.in-Some.ensures);
}

pub returns-in_default-first_and_rest-clause-goes_on : goal.returns-in_default-first_and_rest-clause-goes_on
returns-in_default-first_and_rest-clause-goes_on c = λ fs items.
    let w : Word c.words.rest.now c.split_at.result.0.now c.split_at.result.1.now c.word_len.result = record { len = c.word_len.ensures.place; front = c.split_at.ensures.front; back = c.split_at.ensures.back } in
    sym (c.words.invariant.along fs items)
    ∙ word_read fs _ _ _ _ c.args.opened c.words.component items w
    ∙ ap (read fs (brackets c.args.opened c.words.component c.split_at.result.0.now) items []) c.in_default-first_and_rest.ensures
    ∙ no_byte fs c.args.opened c.words.component c.split_at.result.0.now items

pub returns-then-is_special-2-clause-goes_on : goal.returns-then-is_special-2-clause-goes_on
returns-then-is_special-2-clause-goes_on c = λ fs items.
    let w : Word c.words.rest.now c.split_at.result.0.now c.split_at.result.1.now c.word_len.result = record { len = c.word_len.ensures.place; front = c.split_at.ensures.front; back = c.split_at.ensures.back } in
    sym (c.words.invariant.along fs items)
    ∙ word_read fs _ _ _ _ c.args.opened c.words.component items w
    ∙ ap (read fs (brackets c.args.opened c.words.component c.split_at.result.0.now) items []) c.in-Some-first_and_rest.ensures
    ∙ special_byte fs c.in-Some-first_and_rest.end c.args.opened c.words.component c.split_at.result.0.now items c.in-Some-first_and_rest.field-0-1.now (sym c.if-is_special-2.ensures)

pub words-preserved : goal.words-preserved
words-preserved c =
    let w : Word c.words.rest.now c.split_at.result.0.now c.split_at.result.1.now c.word_len.result = record { len = c.word_len.ensures.place; front = c.split_at.ensures.front; back = c.split_at.ensures.back } in
    record {
      along = λ fs items.
          sym (word_made fs _ _ _ _ c.args.opened c.words.component items c.in-Some.first c.in-Some.after.now c.in-Some-first_and_rest.end c.in-Some-first_and_rest.field-0-1.now c.in_ok-with_word.field-0 w c.in-Some.ensures
          (plain_word c.in-Some.first (sym c.if-is_special.ensures) (ne_eqb _ _ c.if-first-eq93.false) (sym c.if-is_ascii_whitespace.ensures.value))
          c.in-Some-first_and_rest.ensures (sym c.if-is_special-2.ensures) (sym c.in_default-list_kind_of.ensures) (sym c.with_word.ensures ∙ c.in_ok-with_word.was)
          (omega (arith, c.split_at.ensures.front_len, c.split_at.ensures.back_len, c.word_len.ensures.inside)))
          ∙ c.words.invariant.along fs items;
      shorter = omega (arith, c.words.invariant.shorter, c.split_at.ensures.back_len);
      end = end_more _ _ _ c.words.invariant.end (c.word_len.result, c.split_at.ensures.back);
    }

pub returns-in-Some-list_kind_of-clause-goes_on : goal.returns-in-Some-list_kind_of-clause-goes_on
returns-in-Some-list_kind_of-clause-goes_on c = λ fs items.
    let w : Word c.words.rest.now c.split_at.result.0.now c.split_at.result.1.now c.word_len.result = record { len = c.word_len.ensures.place; front = c.split_at.ensures.front; back = c.split_at.ensures.back } in
    sym (c.words.invariant.along fs items)
    ∙ keyword_read fs _ _ _ _ c.args.opened c.words.component items c.in-Some.first c.in-Some.after.now c.in-Some-first_and_rest.end c.in-Some-first_and_rest.field-0-1.now c.in-Some-list_kind_of.kind w c.in-Some.ensures
    (plain_word c.in-Some.first (sym c.if-is_special.ensures) (ne_eqb _ _ c.if-first-eq93.false) (sym c.if-is_ascii_whitespace.ensures.value))
    c.in-Some-first_and_rest.ensures (sym c.if-is_special-2.ensures) (sym c.in-Some-list_kind_of.ensures)

pub returns-then-first-eq93-clause-end : goal.returns-then-first-eq93-clause-end
returns-then-first-eq93-clause-end c = end_more _ _ _ c.words.invariant.end (end_cut c.words.rest.now c.in-Some.first c.in-Some.after.now c.in-Some.ensures)

pub returns-in-Some-list_kind_of-clause-end : goal.returns-in-Some-list_kind_of-clause-end
returns-in-Some-list_kind_of-clause-end c = end_more _ _ _ c.words.invariant.end (c.word_len.result, c.split_at.ensures.back)
