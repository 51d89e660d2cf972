use Rattle.std.proofs.Common.{◌≡◌, ◌∙◌, ℕ, Option, Result, Ok, Err, IfErr, List, length, sym, ap}
use Rattle.time_below.specs.Tree.{Tree}
use Rattle.time_describe.specs.Description.{LiesWithin}
use Rattle.time_describe.specs.Reading.{described, within_limit}
use Rattle.time_describe.specs.declared.brackets.reason.BracketReason.{BracketReason}
use Rattle.time_describe.specs.declared.brackets.reason.BracketReason.TheVariants.{TooManyItems}
use Rattle.time_describe.specs.declared.fault.Fault.{Fault}
use Rattle.time_describe.proofs.InsideLemmas.{fault_within}
use Rattle.time_describe.proofs.brackets.BracketsSyntax.put_all.Goals as goal

within : (text : List ℕ) (read : Result (List Tree) (Fault BracketReason)) (r : Result Unit (Fault BracketReason)) → described text ≡ read
    → IfErr r (λ fault. read ≡ Err fault) → IfErr r (λ fault. LiesWithin (length text) fault)
within text read (Ok u) is fails = tt
within text read (Err fault) is fails = fault_within text fault (is ∙ fails)

pub returns-in-None-clause-within : goal.returns-in-None-clause-within
returns-in-None-clause-within g c =
    let text = c.args.text.now in
    within text _ c.put_items.result (ap (λ (left : Option ℕ). within_limit left text) (sym c.in-None.ensures)) c.put_items.ensures.fault

pub returns-in-Some-clause-within : goal.returns-in-Some-clause-within
returns-in-Some-clause-within g c =
    let text = c.args.text.now in
    fault_within text (record { reason = TooManyItems; left = c.in-Some.left }) (ap (λ (left : Option ℕ). within_limit left text) (sym c.in-Some.ensures))
