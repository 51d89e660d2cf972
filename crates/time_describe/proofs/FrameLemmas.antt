-- What is kept of lists that are not closed yet.
use Rattle.std.proofs.Common.{◌≡◌, ℕ, Bool, true, false, not, eqb, ne_eqb, ◌&&◌, List, [], ◌∷◌, ◌++◌, length, map, reverse, Result, Ok, Err, refl, sym, ap, ◌∙◌, subst, arith}
use Rattle.std.specs.Prelude.{IfOk}
use Rattle.std.proofs.lemmas.List.{reverse-append, length-map, length-reverse}
use Rattle.time_below.specs.Tree.{Tree}
use Rattle.std.proofs.Common.{Bor}
use Rattle.time_describe.specs.declared.fault.Fault.{Fault}
use Rattle.time_describe.specs.declared.brackets.reason.BracketReason.{BracketReason}
use Rattle.time_describe.specs.declared.brackets.reason.BracketReason.TheVariants.{MissingItems}
use Rattle.time_describe.specs.declared.brackets.frame.Frame as code
use Rattle.time_describe.specs.declared.items.ListKind.{ListKind}
use Rattle.time_describe.specs.declared.items.ListKind.TheVariants as kinds
use Rattle.time_describe.specs.Items.{is_nil}
use Rattle.time_describe.specs.Pieces.{is_nested}
use Rattle.time_describe.specs.Reading.{Frame, fails, nested}
use Rattle.time_describe.specs.Outcome.{AreKept, AreOpen, GoesOn, IsEnd, kept, lacks_list}
use Rattle.time_describe.proofs.EndLemmas.{end_cut, end_more}

pub kept_length : (frames : List code.Frame) (fs : List Frame) → AreKept frames fs → length fs ≡ length frames
kept_length frames fs is = sym (length-map fs kept) ∙ ap length is ∙ length-reverse frames

pub kept_pushed : (frames : List code.Frame) (fs : List Frame) (f : Frame) → AreKept frames fs → AreKept (frames ++ kept f ∷ []) (f ∷ fs)
kept_pushed frames fs f is = ap (λ (v : List code.Frame). kept f ∷ v) is ∙ sym (reverse-append frames (kept f ∷ []))

-- what is left where the innermost one is taken off
pub record Popped (frames : List code.Frame) (frame : code.Frame) (fs : List Frame) : Type 0 where
  pub first : Frame
  pub others : List Frame
  pub is : fs ≡ first ∷ others
  pub same : kept first ≡ frame
  pub rest : AreKept frames others

pub kept_popped : (frames : List code.Frame) (frame : code.Frame) (fs : List Frame) → AreKept (frames ++ frame ∷ []) fs → Popped frames frame fs
kept_popped frames frame [] is =
    let e : [] ≡ frame ∷ reverse frames = is ∙ reverse-append frames (frame ∷ []) in absurd cc
kept_popped frames frame (f ∷ fs) is =
    let e : kept f ∷ map kept fs ≡ frame ∷ reverse frames = is ∙ reverse-append frames (frame ∷ []) in
    let same : kept f ≡ frame = cc in
    let rest : map kept fs ≡ reverse frames = cc in record { first = f; others = fs; is = refl; same = same; rest = rest }

pub kept_none : (fs : List Frame) → AreKept [] fs → fs ≡ []
kept_none [] is = refl
kept_none (f ∷ fs) is = absurd cc

nested_is : (gs : List Frame) → is_nested gs ≡ not (eqb (length gs) 0)
nested_is [] = refl
nested_is (g ∷ gs) = let e : eqb (length (g ∷ gs)) 0 ≡ false = ne_eqb (length (g ∷ gs)) 0 (λ h. omega arith) in sym (ap not e)

-- a list is open where there are any
pub nested_frames : (frames : List code.Frame) (fs : List Frame) (is_empty : Bool) → AreKept frames fs → is_empty ≡ eqb (length frames) 0 → is_nested fs ≡ not is_empty
nested_frames frames fs is_empty kept e =
    nested_is fs ∙ ap (λ (n : ℕ). not (eqb n 0)) (kept_length frames fs kept) ∙ ap not (sym e)

pub and_false : (b : Bool) → (b && false) ≡ false
and_false true = refl
and_false false = refl

-- ---- brackets with lists

pub nested_there : (kind : ListKind) (lists : List Tree) (left : ℕ) → lacks_list kind (is_nil lists) ≡ false → (t : Tree) × (nested kind lists left ≡ Ok t)
nested_there kinds.First lists left some = (_, refl)
nested_there kinds.Optional [] left some = absurd cc
nested_there kinds.Optional (t ∷ ts) left some = (t, refl)

pub nested_lacks : (kind : ListKind) (lists : List Tree) (left : ℕ) → lacks_list kind (is_nil lists) ≡ true → nested kind lists left ≡ fails MissingItems left
nested_lacks kinds.First lists left none = absurd cc
nested_lacks kinds.Optional [] left none = refl
nested_lacks kinds.Optional (t ∷ ts) left none = absurd cc

-- ---- what calls return

pub goes_along : (Holds : List Frame → List Tree → Type 0) (r : Result (Bor (List ℕ)) (Fault BracketReason)) (x y : Result (List Tree) (Fault BracketReason)) → y ≡ x
    → GoesOn Holds r x → GoesOn Holds r y
goes_along Holds r x y e h = subst (λ (v : Result (List Tree) (Fault BracketReason)). GoesOn Holds r v) (sym e) h

-- the lists stay open
pub goes_open : (Holds : List Frame → List Tree → Type 0) (frames : List code.Frame) (fs : List Frame) (r : Result (Bor (List ℕ)) (Fault BracketReason))
    (x : Result (List Tree) (Fault BracketReason)) → AreKept frames fs → GoesOn (λ gs items. (gs ≡ fs) × Holds gs items) r x
    → GoesOn (AreOpen Holds frames) r x
goes_open Holds frames fs (Ok rest) x are h =
    (h.0, h.1, (subst (λ (gs : List Frame). AreKept frames gs) (sym h.2.0) are, h.2.1), h.3)
goes_open Holds frames fs (Err e) x are h = h

-- what is behind the rest of a text is at the end of the whole
pub ends_behind : (s : List ℕ) (b : ℕ) (bs : List ℕ) (r : Result (Bor (List ℕ)) (Fault BracketReason)) → s ≡ b ∷ bs → IfOk r (λ x. IsEnd bs x.now)
    → IfOk r (λ x. IsEnd s x.now)
ends_behind s b bs (Ok x) is h = end_more s bs x.now (end_cut s b bs is) h
ends_behind s b bs (Err e) is h = tt

pub some_list : (lists : List Tree) (t : Tree) → false ≡ is_nil (lists ++ t ∷ [])
some_list [] t = refl
some_list (x ∷ xs) t = refl
