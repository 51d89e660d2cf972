use Rattle.std.proofs.Common.{◌≡◌, ℕ, zero, suc, ◌<◌, false, true, refl, [], List, length, ap, ◌∙◌, subst, arith}
use Rattle.std.proofs.lemmas.Bool.Decides.{nat_tests}
use Rattle.std.proofs.lemmas.List.{nil_from_length}
use Rattle.time_describe.specs.declared.brackets.frame.Frame as code
use Rattle.time_describe.specs.Outcome.{AreKept}
use Rattle.time_describe.specs.Reading.{Frame, read, outside, fails}
use Rattle.time_describe.specs.declared.brackets.reason.BracketReason.TheVariants.{UnclosedBracket}
use Rattle.time_describe.proofs.FrameLemmas.{kept_none, kept_popped}
use Rattle.time_describe.proofs.ReadLemmas.{at_end, at_end_of_list}
use Rattle.time_describe.proofs.brackets.put_items.Goals as goal

none_left : (n : ℕ) → (0 < n → false ≡ true) → n ≡ 0
none_left zero h = refl
none_left (suc n) h = let e = h (omega arith) in absurd cc

pub returns-in-None-clause-found : goal.returns-in-None-clause-found
returns-in-None-clause-found g c =
    let w = c.steps.invariant.held in
    let rest : length c.steps.rest.now ≡ 0 = grind (arith, nat_tests) in
    let none : length c.steps.frames.items ≡ 0 = none_left (length c.steps.frames.items) c.in-None.ensures.variant.1 in
    let fs = kept_none w.0 (subst (λ (v : List code.Frame). AreKept v w.0) (nil_from_length c.steps.frames.items none) w.2.0) in (
      w.1,
      w.3 ∙ ap (read w.0 outside w.1 []) (nil_from_length c.steps.rest.now rest) ∙ ap (λ (v : List Frame). read v outside w.1 [] []) fs ∙ at_end w.1,
      subst (λ (v : List Frame). g.I.Items.Holds c.args.text.now v c.steps.items w.1) fs w.2.1,
    )

pub returns-in-Some-clause-fault : goal.returns-in-Some-clause-fault
returns-in-Some-clause-fault g c =
    let w = c.steps.invariant.held in
    let rest : length c.steps.rest.now ≡ 0 = grind (arith, nat_tests) in
    let p = kept_popped c.pop.new.self.items c.in-Some.frame w.0 (subst (λ (v : List code.Frame). AreKept v w.0) c.in-Some.ensures.items w.2.0) in
    w.3 ∙ ap (read w.0 outside w.1 []) (nil_from_length c.steps.rest.now rest)
    ∙ ap (λ (v : List Frame). read v outside w.1 [] []) p.is
    ∙ at_end_of_list p.first p.others w.1
    ∙ ap (λ (k : code.Frame). fails UnclosedBracket k.opened_list) p.same
