use Rattle.std.proofs.Common.{List, [], ◌∷◌, ◌++◌, refl, sym, ap, ◌∙◌, subst}
use Rattle.time_below.specs.Tree.{trees, all_of}
use Rattle.time_describe.specs.declared.brackets.frame.Frame as code
use Rattle.time_describe.specs.Outcome.{AreKept}
use Rattle.time_describe.specs.Reading.{Frame, read, outside, between}
use Rattle.time_describe.proofs.FrameLemmas.{goes_along, kept_length, kept_popped, some_list}
use Rattle.time_describe.proofs.ReadLemmas.{closes_list}
use Rattle.time_describe.proofs.brackets.building.close_list.Goals as goal

pub returns-clause-goes_on : goal.returns-clause-goes_on
returns-clause-goes_on g c = λ text fs before are.
    let rest = c.args.rest.now in
    let popped = kept_popped c.pop.new.self.items c.in-Some.frame fs (subst (λ (v : List code.Frame). AreKept v fs) c.in-Some.ensures.items are.0) in
    let f = popped.first in
    let gs = popped.others in
    let lists = f.lists ++ all_of (trees before) ∷ [] in
    let held = subst (λ (v : List Frame). g.I.Items.Holds text v c.args.items.now before) popped.is are.1 in
    let closed = c.close_list.ensures.closed text f gs before (c.len.ensures.value ∙ sym (kept_length c.pop.new.self.items gs popped.rest)) held in
    let in_lists = subst (λ (k : code.Frame). g.I.Items.HoldsLists text gs k.kind f.items c.close_list.new.self lists) popped.same closed in
    goes_along _ c.between.result _ _
    (ap (λ (v : List Frame). read v outside before [] (93 ∷ rest)) popped.is
    ∙ closes_list f gs 93 before rest refl
    ∙ ap (λ (k : code.Frame). read gs (between k.kind k.opened lists) f.items [] rest) popped.same)
    (c.between.ensures.goes_on text gs f.items lists (some_list f.lists (all_of (trees before))) popped.rest in_lists)
