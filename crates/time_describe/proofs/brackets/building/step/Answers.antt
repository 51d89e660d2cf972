use Rattle.std.proofs.Common.{◌≡◌, ℕ, ◌+◌, ◌-◌, List, [], ◌∷◌, ◌++◌, ◌&&◌, Bool, true, false, not, eqb, length, None, sym, ap, ◌∙◌, arith, eq-eqb, ne_eqb}
use Rattle.std.specs.Prelude.{slice_range}
use Rattle.std.specs.List.{position_or_len}
use Rattle.time_below.specs.Tree.{Tree}
use Rattle.time_describe.specs.Literal.{literal_of}
use Rattle.time_describe.specs.Pieces.{ends_literal, is_nested}
use Rattle.time_describe.specs.Reading.{Frame, read, outside, brackets}
use Rattle.time_describe.proofs.EndLemmas.{end_bytes, end_slice}
use Rattle.time_describe.proofs.FrameLemmas.{ends_behind, goes_along, goes_open, nested_frames, and_false}
use Rattle.time_describe.proofs.ReadLemmas.{opens, to_escape, literal_read}
use Rattle.time_describe.proofs.brackets.building.step.Goals as goal
use Rattle.time_describe.proofs.brackets.building.step.Goals.{else-first-eq93-via-then-first-eq93+else-not-is_empty, else-first-eq93-via-else-first-eq93}

-- reading in brackets
opened : (fs : List Frame) (items : List Tree) (text : List ℕ) (first : ℕ) (rest : List ℕ) → text ≡ first ∷ rest → first ≡ 91
    → read fs outside items [] text ≡ read fs (brackets (length text) None []) items [] rest
opened fs items text first rest is e =
    let len : length rest + 1 ≡ length text = omega (arith, ap length is) in
    ap (read fs outside items []) is ∙ opens fs first items rest (eq-eqb first 91 e) ∙ ap (λ (n : ℕ). read fs (brackets n None []) items [] rest) len

pub returns-then-first-eq91-clause-goes_on : goal.returns-then-first-eq91-clause-goes_on
returns-then-first-eq91-clause-goes_on g c = λ fs before are.
    goes_along _ c.bracketed.result _ _
    (opened fs before c.args.rest.now c.in-Some.first c.in-Some.after.now c.in-Some.ensures c.if-first-eq91.true)
    (c.bracketed.ensures.goes_on c.args.text.now fs before are)

pub returns-then-first-eq91-clause-end : goal.returns-then-first-eq91-clause-end
returns-then-first-eq91-clause-end g c =
    ends_behind c.args.rest.now c.in-Some.first c.in-Some.after.now c.bracketed.result c.in-Some.ensures c.bracketed.ensures.end

pub returns-then-first-eq92-clause-end : goal.returns-then-first-eq92-clause-end
returns-then-first-eq92-clause-end g c =
    ends_behind c.args.rest.now c.in-Some.first c.in-Some.after.now c.escaped.result c.in-Some.ensures c.escaped.ensures.end

pub returns-then-not-is_empty-clause-end : goal.returns-then-not-is_empty-clause-end
returns-then-not-is_empty-clause-end g c =
    ends_behind c.args.rest.now c.in-Some.first c.in-Some.after.now c.close_list.result c.in-Some.ensures c.close_list.ensures.end

pub returns-then-first-eq92-clause-goes_on : goal.returns-then-first-eq92-clause-goes_on
returns-then-first-eq92-clause-goes_on g c = λ fs before are.
    goes_open _ c.args.frames.now.items fs c.escaped.result _ are.0
    (goes_along _ c.escaped.result _ _
    (ap (read fs outside before []) c.in-Some.ensures
    ∙ to_escape fs c.in-Some.first before c.in-Some.after.now (ne_eqb _ _ c.if-first-eq91.false) (eq-eqb _ _ c.if-first-eq92.true))
    (c.escaped.ensures.goes_on c.args.text.now fs before are.1))

plain : (nested : Bool) (b : ℕ) → eqb b 91 ≡ false → eqb b 92 ≡ false → (nested && eqb b 93) ≡ false → ends_literal nested b ≡ false
plain nested b e f g = rw (e, f) g

pub returns-clause-goes_on : goal.returns-clause-goes_on
returns-clause-goes_on g c = λ fs before are.
    let text = c.args.text.now in
    let rest = c.args.rest.now in
    let len = c.literal_len-len.result in
    let flag : is_nested fs ≡ not c.is_empty-2.result = nested_frames c.args.frames.now.items fs c.is_empty-2.result are.0 c.is_empty-2.ensures in
    let no_closing : (is_nested fs && eqb c.in-Some.first 93) ≡ false =
    elim c.else-first-eq93.branch [
      | else-first-eq93-via-then-first-eq93+else-not-is_empty w ↦
          ap (λ (b : Bool). b && eqb c.in-Some.first 93) (nested_frames c.args.frames.now.items fs true are.0 w.if-not-is_empty.ensures)
      | else-first-eq93-via-else-first-eq93 w ↦
          ap (λ (b : Bool). is_nested fs && b) (ne_eqb _ _ w.if-first-eq93.false) ∙ and_false (is_nested fs)
    ] in
    let place : len ≡ position_or_len (ends_literal (is_nested fs)) rest =
    c.literal_len-len.ensures.place ∙ ap (λ (b : Bool). position_or_len (ends_literal b) rest) (sym flag) in
    let word = slice_range text (length text - length rest) (length text - length rest + len) in (
      fs,
      before ++ literal_of word ∷ [],
      (are.0, c.put_literal.ensures.put fs before are.1),
      literal_read fs rest word _ len c.in-Some.first c.in-Some.after.now before
          place (end_bytes text rest len c.requires.end) (end_slice rest len) c.in-Some.ensures
          (plain (is_nested fs) c.in-Some.first (ne_eqb _ _ c.if-first-eq91.false) (ne_eqb _ _ c.if-first-eq92.false) no_closing),
    )

pub returns-clause-end : goal.returns-clause-end
returns-clause-end g c = (c.literal_len-len.result, end_slice c.args.rest.now c.literal_len-len.result)
