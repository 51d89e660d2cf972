use Rattle.std.proofs.Common.{ℕ, ◌≡◌, ◌+◌, List, Bool, true, Option, Some, None, Result, OnErr, take, inl, inr, refl, sym, subst}
use Rattle.line_streams.specs.Lines.{EndsAt, IsOneLine}
use Rattle.line_streams.specs.Prompt.{Grows, GrowsInPart, IsPassed, PassesOn}
use Rattle.line_streams.proofs.LinesLemmas.{line-found}
use Rattle.line_streams.proofs.PromptLemmas.{on_error}
use Rattle.line_streams.proofs.filter.pass_on.Goals as goal

-- a write of these bytes has failed
passed_in_part : {T E : Type 0} (r : Result T E) (is_passing : Bool) (block piece : List ℕ) (put put' : Option (List ℕ))
    → is_passing ≡ true → IsPassed block piece → GrowsInPart put put' piece
    → OnErr r ((is_passing ≡ true) × (piece : List ℕ) × IsPassed block piece × GrowsInPart put put' piece)
passed_in_part r is_passing block piece put put' passes passed cut =
    let it : (is_passing ≡ true) × (piece : List ℕ) × IsPassed block piece × GrowsInPart put put' piece =
    (passes, piece, passed, cut) in on_error r it

-- the line goes on
goes_on : (is_passing : Bool) (block : List ℕ) (put put' : Option (List ℕ)) → is_passing ≡ true → IsOneLine block
    → Grows put put' block → PassesOn is_passing block None put put'
goes_on is_passing block put put' passes one grows =
    subst (λ b. PassesOn b block None put put') (sym passes) (one, grows)

-- the line ends
ends : (is_passing : Bool) (block : List ℕ) (end : ℕ) (put put' : Option (List ℕ)) → is_passing ≡ true
    → EndsAt block end → Grows put put' (take (end + 1) block) → PassesOn is_passing block (Some (end + 1)) put put'
ends is_passing block end put put' passes found grows =
    subst (λ b. PassesOn b block (Some (end + 1)) put put') (sym passes) (end, found, refl, grows)

pub returns-in_err-write_all-clause-cut : goal.returns-in_err-write_all-clause-cut
returns-in_err-write_all-clause-cut g c =
    passed_in_part _ _ c.args.block.now c.args.block.now _ _ c.if-not-is_passing.false
    (inl (line-found c.args.block.now None c.in_default.ensures, refl)) c.in_err-write_all.ensures.cut

pub returns-in_default-clause-passed : goal.returns-in_default-clause-passed
returns-in_default-clause-passed g c =
    goes_on _ _ _ _ c.if-not-is_passing.false (line-found c.args.block.now None c.in_default.ensures)
    c.in_ok-write_all.ensures.put

pub returns-in_err-write_all-2-clause-cut : goal.returns-in_err-write_all-2-clause-cut
returns-in_err-write_all-2-clause-cut g c =
    passed_in_part _ _ c.args.block.now _ _ _ c.if-not-is_passing.false
    (inr (c.in-Some.end, line-found c.args.block.now (Some c.in-Some.end) c.in-Some.ensures, refl))
    c.in_err-write_all-2.ensures.cut

pub returns-clause-passed : goal.returns-clause-passed
returns-clause-passed g c =
    ends _ _ c.in-Some.end _ _ c.if-not-is_passing.false
    (line-found c.args.block.now (Some c.in-Some.end) c.in-Some.ensures) c.in_ok-write_all-2.ensures.put
