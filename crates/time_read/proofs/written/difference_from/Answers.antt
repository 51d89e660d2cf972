use Rattle.std.proofs.Common.{◌≡◌, ◌≢◌, ◌∙◌, ℕ, List, IfNone, ap₂, subst, take}
use Rattle.std.proofs.Math.Seq.{take-append_seam}
use Rattle.std.specs.Prelude.{IfSome}
use Rattle.time_read.proofs.written.difference_from.Goals as goal

-- the front of the array is the text
pub returns-clause-same : goal.returns-clause-same
returns-clause-same g c =
    let front = ap₂ take c.put_at_start-count.ensures.count c.put_at_start-count.ensures.text ∙ take-append_seam _ _ in
    subst (λ (t : List ℕ). IfNone c.first_difference.result (t ≡ c.args.text.now)) front c.first_difference.ensures.same

pub returns-clause-other : goal.returns-clause-other
returns-clause-other g c =
    let front = ap₂ take c.put_at_start-count.ensures.count c.put_at_start-count.ensures.text ∙ take-append_seam _ _ in
    subst (λ (t : List ℕ). IfSome c.first_difference.result (λ _. t ≢ c.args.text.now)) front c.first_difference.ensures.other
