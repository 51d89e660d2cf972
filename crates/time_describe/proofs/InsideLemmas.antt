-- The place of a fault lies within the text.
use Rattle.std.proofs.lemmas.List.{length-append}
use Rattle.std.proofs.Common.{◌≡◌, subst, ℕ, zero, suc, ◌+◌, ◌<◌, ◌≤◌, Bool, true, false, eqb, ltb, ◌&&◌, List, [], ◌∷◌, ◌++◌, length, Option, Some, None, Result, Ok, Err, refl, sym, ap, ◌∙◌, arith}
use Rattle.std.specs.Char.{is_ascii_whitespace}
use Rattle.time_below.specs.Tree.{Tree, of_component}
use Rattle.time_below.specs.declared.format_description.component.Component.{Component}
use Rattle.time_describe.specs.Description.{LiesWithin}
use Rattle.time_describe.specs.declared.fault.Fault.{Fault}
use Rattle.time_describe.specs.declared.brackets.reason.BracketReason.{BracketReason}
use Rattle.time_describe.specs.declared.items.ListKind.{ListKind}
use Rattle.time_describe.specs.declared.items.ListKind.TheVariants as kinds
use Rattle.time_describe.specs.Literal.{literal_of}
use Rattle.time_describe.specs.Marks.{past}
use Rattle.time_describe.specs.Reading.{◌>>=◌, Frame, BytePlace, outside, escape, brackets, between, read, fails, at_fault, with_word, list_kind_of, word_place, after_word, ended, finished, nested, takes_list, after_list, with_literal, is_special, is_escapable, within_limit, described}
use Rattle.time_describe.proofs.CaseLemmas.{by_test, by_result}

-- a fault, if there is one, is within so many bytes
pub record In (n : ℕ) (r : Result (List Tree) (Fault BracketReason)) : Type 0 where
  pub at : (f : Fault BracketReason) → r ≡ Err f → LiesWithin n f

same_fault : {A : Type 0} (r : Result A (Fault BracketReason)) (x f : Fault BracketReason) → r ≡ Err x → r ≡ Err f → x ≡ f
same_fault r x f is e = let g = sym is ∙ e in cc

fault_in : (x : Fault BracketReason) (n : ℕ) → 0 < x.left → x.left ≤ n → In n (Err x)
fault_in x n some fits = record {
  at = λ f e.
      let left : x.left ≡ f.left = ap (λ (y : Fault BracketReason). y.left) (same_fault (Err x) x f refl e) in
      (omega arith, omega arith);
}

ok_in : (items : List Tree) (n : ℕ) → In n (Ok items)
ok_in items n = record { at = λ f e. absurd cc }

-- ---- the brackets that are open lie within the text

abbrev FramesIn : ℕ → List Frame → Type 0
FramesIn n [] = Unit {0}
FramesIn n (f ∷ fs) = (0 < f.opened) × (f.opened ≤ n) × (0 < f.opened_list) × (f.opened_list ≤ n) × FramesIn n fs

abbrev PlaceIn : ℕ → BytePlace → ℕ → Type 0
PlaceIn n outside left = left ≤ n
PlaceIn n escape left = left < n
PlaceIn n (brackets o c word) left = (0 < o) × (o ≤ n) × (length word + left ≤ n)
PlaceIn n (between k o lists) left = (0 < o) × (o ≤ n) × (left ≤ n)

-- ---- what fails, fails where it says

nested_at : (k : ListKind) (lists : List Tree) (left : ℕ) (f : Fault BracketReason) → nested k lists left ≡ Err f → left ≡ f.left
nested_at kinds.Optional [] left f e = ap (λ (y : Fault BracketReason). y.left) (same_fault (fails _ left) (record { reason = _; left = left }) f refl e)
nested_at kinds.Optional (t ∷ ts) left f e = absurd cc
nested_at kinds.First lists left f e = absurd cc

reason_at : {A : Type 0} (r : Result A BracketReason) (left : ℕ) (f : Fault BracketReason) → at_fault r left ≡ Err f → left ≡ f.left
reason_at (Ok x) left f e = absurd cc
reason_at (Err reason) left f e = ap (λ (y : Fault BracketReason). y.left) (same_fault (fails reason left) (record { reason = reason; left = left }) f refl e)

made_at : (r : Result Component (Fault BracketReason)) (f : Fault BracketReason) → (r >>= λ made. Ok (of_component made)) ≡ Err f → r ≡ Err f
made_at (Ok x) f e = absurd cc
made_at (Err x) f e = let g : x ≡ f = same_fault (Err x) x f refl e in ap (λ (y : Fault BracketReason). Err y) g

ended_at : (place : BytePlace) (left : ℕ) (f : Fault BracketReason) → ended place left ≡ Err f → left ≡ f.left
ended_at outside left f e = ap (λ (y : Fault BracketReason). y.left) (same_fault (fails _ left) (record { reason = _; left = left }) f refl e)
ended_at escape left f e = ap (λ (y : Fault BracketReason). y.left) (same_fault (fails _ left) (record { reason = _; left = left }) f refl e)
ended_at (brackets o c word) left f e = reason_at (finished c) left f (made_at (at_fault (finished c) left) f e)
ended_at (between k o lists) left f e = nested_at k lists left f e

worded_at : (o : ℕ) (r : Result Component (Fault BracketReason)) (f : Fault BracketReason) → (r >>= λ c. Ok (brackets o (Some c) [])) ≡ Err f → r ≡ Err f
worded_at o (Ok x) f e = absurd cc
worded_at o (Err x) f e = let g : x ≡ f = same_fault (Err x) x f refl e in ap (λ (y : Fault BracketReason). Err y) g

place_at : (o : ℕ) (c : Option Component) (word : List ℕ) (k : Option ListKind) (left : ℕ) (f : Fault BracketReason) → word_place o c word k left ≡ Err f → left ≡ f.left
place_at o c word (Some k) left f e = absurd cc
place_at o c word None left f e = reason_at (with_word c word) left f (worded_at o (at_fault (with_word c word) left) f e)

word_at : (o : ℕ) (c : Option Component) (word : List ℕ) (left : ℕ) (f : Fault BracketReason) → after_word o c word left ≡ Err f → left ≡ f.left
word_at o c [] left f e = absurd cc
word_at o c (b ∷ bs) left f e = place_at o c (b ∷ bs) (list_kind_of c (b ∷ bs)) left f e

worded_in : (n m o : ℕ) (r : Result Component (Fault BracketReason)) (place : BytePlace) → 0 < o → o ≤ n → m ≤ n → (r >>= λ c. Ok (brackets o (Some c) [])) ≡ Ok place → PlaceIn n place m
worded_in n m o (Ok x) place some fits left e = let g : brackets o (Some x) [] ≡ place = cc in subst (λ (p : BytePlace). PlaceIn n p m) g (some, fits, omega arith)
worded_in n m o (Err x) place some fits left e = absurd cc

place_in : (n m o : ℕ) (c : Option Component) (word : List ℕ) (k : Option ListKind) (left : ℕ) (place : BytePlace) → 0 < o → o ≤ n → m ≤ n → word_place o c word k left ≡ Ok place → PlaceIn n place m
place_in n m o c word (Some k) left place some fits after e = let g : between k o [] ≡ place = cc in subst (λ (p : BytePlace). PlaceIn n p m) g (some, fits, after)
place_in n m o c word None left place some fits after e = worded_in n m o (at_fault (with_word c word) left) place some fits after e

word_in : (n m o : ℕ) (c : Option Component) (word : List ℕ) (left : ℕ) (place : BytePlace) → 0 < o → o ≤ n → m ≤ n → after_word o c word left ≡ Ok place → PlaceIn n place m
word_in n m o c [] left place some fits after e = let g : brackets o c [] ≡ place = cc in subst (λ (p : BytePlace). PlaceIn n p m) g (some, fits, omega arith)
word_in n m o c (b ∷ bs) left place some fits after e = place_in n m o c (b ∷ bs) (list_kind_of c (b ∷ bs)) left place some fits after e

-- ---- so each fault lies within the text

pub read_in : (bs : List ℕ) (n : ℕ) (fs : List Frame) (place : BytePlace) (items : List Tree) (literal : List ℕ) → FramesIn n fs → PlaceIn n place (length bs) → In n (read fs place items literal bs)
unfolding read
read_in [] n [] outside items literal hf hp = ok_in _ n
read_in [] n (f ∷ fs) outside items literal hf hp = fault_in _ n hf.2 hf.3
read_in [] n fs escape items literal hf hp = fault_in _ n (omega arith) (omega arith)
read_in [] n fs (brackets o c word) items literal hf hp = fault_in _ n hp.0 hp.1
read_in [] n fs (between k o lists) items literal hf hp = fault_in _ n hp.0 hp.1
read_in (b ∷ bs) n [] outside items literal hf hp =
    by_test (In n) (eqb b 91) _ _
    (λ e. read_in bs n [] (brackets (length bs + 1) None []) (with_literal items literal) [] hf (omega arith, omega arith, omega arith))
    (λ e. by_test (In n) (eqb b 92) _ _
    (λ e. read_in bs n [] escape (with_literal items literal) [] hf (omega arith))
    (λ e. read_in bs n [] outside items (literal ++ b ∷ []) hf (omega arith)))
read_in (b ∷ bs) n (f ∷ fs) outside items literal hf hp =
    by_test (In n) (eqb b 91) _ _
    (λ e. read_in bs n (f ∷ fs) (brackets (length bs + 1) None []) (with_literal items literal) [] hf (omega arith, omega arith, omega arith))
    (λ e. by_test (In n) (eqb b 92) _ _
    (λ e. read_in bs n (f ∷ fs) escape (with_literal items literal) [] hf (omega arith))
    (λ e. by_test (In n) (eqb b 93) _ _
    (λ e. read_in bs n fs (after_list f items literal) f.items [] hf.4 (hf.0, hf.1, omega arith))
    (λ e. read_in bs n (f ∷ fs) outside items (literal ++ b ∷ []) hf (omega arith))))
read_in (b ∷ bs) n fs escape items literal hf hp =
    by_test (In n) (is_escapable b) _ _
    (λ e. read_in bs n fs outside (items ++ literal_of (b ∷ []) ∷ []) [] hf (omega arith))
    (λ e. fault_in _ n (omega arith) (omega arith))
read_in (b ∷ bs) n fs (brackets o c word) items literal hf hp =
    by_test (In n) (is_special b) _ _
    (λ e. fault_in _ n hp.0 hp.1)
    (λ e. by_test (In n) (eqb b 93) _ _
    (λ e. by_result (In n) (after_word o c word (length word + (length bs + 1))) _
    (λ place is. by_result (In n) (ended place (length bs + 1)) _
    (λ item is. read_in bs n fs outside (items ++ item ∷ []) [] hf (omega arith))
    (λ x is. let at : length bs + 1 ≡ x.left = ended_at place (length bs + 1) x is in fault_in x n (omega arith) (omega arith)))
    (λ x is. let at : length word + (length bs + 1) ≡ x.left = word_at o c word (length word + (length bs + 1)) x is in fault_in x n (omega arith) (omega arith)))
    (λ e. by_test (In n) (is_ascii_whitespace b) _ _
    (λ e. by_result (In n) (after_word o c word (length word + (length bs + 1))) _
    (λ place is. read_in bs n fs place items [] hf (word_in n (length bs) o c word (length word + (length bs + 1)) place hp.0 hp.1 (omega arith) is))
    (λ x is. let at : length word + (length bs + 1) ≡ x.left = word_at o c word (length word + (length bs + 1)) x is in fault_in x n (omega arith) (omega arith)))
    (λ e. read_in bs n fs (brackets o c (word ++ b ∷ [])) items [] hf (hp.0, hp.1, omega (arith, length-append word (b ∷ []))))))
read_in (b ∷ bs) n fs (between k o lists) items literal hf hp =
    by_test (In n) (is_ascii_whitespace b) _ _
    (λ e. read_in bs n fs (between k o lists) items [] hf (hp.0, hp.1, omega arith))
    (λ e. by_test (In n) (eqb b 93) _ _
    (λ e. by_result (In n) (nested k lists (length bs + 1)) _
    (λ item is. read_in bs n fs outside (items ++ item ∷ []) [] hf (omega arith))
    (λ x is. let at : length bs + 1 ≡ x.left = nested_at k lists (length bs + 1) x is in fault_in x n (omega arith) (omega arith)))
    (λ e. by_test (In n) (eqb b 91 && takes_list k lists) _ _
    (λ e. by_test (In n) (ltb (length fs) 32) _ _
    (λ e. read_in bs n (record { kind = k; opened = o; opened_list = length bs + 1; items = items; lists = lists } ∷ fs) outside [] [] (hp.0, hp.1, omega arith, omega arith, hf) (omega arith))
    (λ e. fault_in _ n (omega arith) (omega arith)))
    (λ e. fault_in _ n (omega arith) (omega arith))))

-- ---- and so does the place of the item that is one too many

past_step : (is : Bool) (p : ℕ → Bool) (n b : ℕ) (bs : List ℕ) (left : ℕ) → p b ≡ is → ((m : ℕ) → past p m bs ≡ Some left → (0 < left) × (left ≤ length bs))
    → past p n (b ∷ bs) ≡ Some left → (0 < left) × (left ≤ length (b ∷ bs))
unfolding past
past_step true p zero b bs left is later e =
    let g : Some (length bs + 1) ≡ Some left = rw is at e in
    let same : length bs + 1 ≡ left = cc in
    (omega arith, omega arith)
past_step false p zero b bs left is later e =
    let w = later 0 (rw is at e) in
    let fits : left ≤ length bs = w.1 in
    (w.0, omega arith)
past_step true p (suc n) b bs left is later e =
    let w = later n (rw is at e) in
    let fits : left ≤ length bs = w.1 in
    (w.0, omega arith)
past_step false p (suc n) b bs left is later e =
    let w = later (suc n) (rw is at e) in
    let fits : left ≤ length bs = w.1 in
    (w.0, omega arith)

past_in : (bs : List ℕ) (p : ℕ → Bool) (n left : ℕ) → past p n bs ≡ Some left → (0 < left) × (left ≤ length bs)
unfolding past
past_in [] p zero left e = absurd cc
past_in [] p (suc n) left e = absurd cc
past_in (b ∷ bs) p n left e = past_step (p b) p n b bs left refl (λ m h. past_in bs p m left h) e

limit_in : (o : Option ℕ) (text : List ℕ) → ((left : ℕ) → o ≡ Some left → (0 < left) × (left ≤ length text)) → In (length text) (within_limit o text)
limit_in None text h = read_in text (length text) [] outside [] [] tt (omega arith)
limit_in (Some left) text h = let w = h left refl in fault_in _ (length text) w.0 w.1

pub fault_within : (text : List ℕ) (fault : Fault BracketReason) → described text ≡ Err fault → LiesWithin (length text) fault
fault_within text fault e =
    let h : In (length text) (described text) = limit_in (past is_special 65536 text) text (λ left g. past_in text is_special 65536 left g) in
    h.at fault e
