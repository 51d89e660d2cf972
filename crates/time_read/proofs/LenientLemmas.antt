-- A text of another writer means one value.
use Rattle.std.proofs.Common.{◌≡◌, ℕ, ◌≤◌, List, [], ◌++◌, length, get_or, take}
use Rattle.std.proofs.Common.{refl, sym, ap, subst, ◌∙◌, arith, ◌⊎◌, inl, inr}
use Rattle.std.specs.Prelude.{codes}
use Rattle.std.proofs.lemmas.List.{append-nil, take_all, take_at}
use Rattle.time_known.specs.Laws.{OneValue}
use Rattle.time_known.specs.Rfc3339Grammar.{OptionalSecfrac, Rfc3339Spells, TimeNumoffset, TimeOffset}
use Rattle.time_known.specs.Rules.{◌▹◌}
use Rattle.time_known.specs.Values.{Offset, OffsetDateAndTime}
use Rattle.time_known.proofs.Rules.Fractions.{same_fraction}
use Rattle.time_known.proofs.Rules.Offsets.{not_zed, one_utc_or}
use Rattle.time_known.proofs.Rules.Parts.{same_clock, same_value, width_clock}
use Rattle.time_known.proofs.Rules.Texts.{HasWidth, cut_at, cut_by_width}
use Rattle.time_read.specs.Lenient.{EitherT, IsOffsetFor, MeansOffset, MeansSecfrac, Rfc3339Means}
use Rattle.time_read.specs.declared.fault.Profile.TheVariants as profile
use Rattle.time_read.proofs.IsoLemmas.{one_offset}
use Rattle.time_read.proofs.OffsetEnds.{itself, no_small_z}
use Rattle.time_read.proofs.PartLemmas.{reads_full_date}
use Rattle.time_read.proofs.Regroup.{both_as, rest_as}
use Rattle.time_read.proofs.Tails.{after_lead, after_offset_alone, same_front}

-- ---- fractions

-- a fraction has ten bytes at most
secfrac_short : {n : ℕ} {text : List ℕ} → OptionalSecfrac n text → length text ≤ 10
secfrac_short (inl none) = omega (arith, ap length none.0)
secfrac_short (inr f) = omega (arith, ap length f.whole, f.count.1)

-- what a fraction means is its first ten bytes
plain_is : (n : ℕ) (text : List ℕ) (f : MeansSecfrac n text) → f.plain ≡ take 10 text
plain_is n text f = at f.cut.full where
  at : (f.cut.more ≡ []) ⊎ (length f.plain ≡ 10) → f.plain ≡ take 10 text
  at (inl none) =
      let same : text ≡ f.plain = f.cut.whole ∙ ap (λ t. f.plain ++ t) none ∙ append-nil f.plain in
      let short = secfrac_short f.spelled in
      sym same ∙ sym (take_all 10 text (omega (arith, ap length same)))
  at (inr full) = sym (ap (take 10) f.cut.whole ∙ take_at f.plain f.cut.more 10 full)

one_secfrac : OneValue MeansSecfrac
one_secfrac text m n f g =
    let same : f.plain ≡ g.plain = plain_is m text f ∙ sym (plain_is n text g) in
    let zed = after_lead profile.Strict 90 [] (inl refl) in
    (same_fraction f.spelled g.spelled zed zed (ap (λ t. t ++ codes "Z") same)).1

-- ---- offsets

one_time_offset : OneValue TimeOffset
one_time_offset =
    one_utc_or TimeNumoffset (λ text o p f g. one_offset text f.0 g.0) (λ o text f e. not_zed f.0 e)

no_minus_zero : (o : Offset) (text : List ℕ) → text ≡ codes "-00:00" → TimeOffset o text → ⊥
no_minus_zero o text e (inl z) = let h : ◌≡◌ {A = ℕ} 45 90 = ap (λ t. get_or t 0 0) (sym e ∙ z.0) in omega arith
no_minus_zero o text e (inr n) = n.1 e

no_zed : (o : Offset) (text : List ℕ) → text ≡ codes "z" → TimeOffset o text → ⊥
no_zed o text e s = no_small_z o 122 [] refl (subst (TimeOffset o) e s)

z_not_minus : (text : List ℕ) → text ≡ codes "z" → text ≡ codes "-00:00" → ⊥
z_not_minus text e f = let h : ◌≡◌ {A = ℕ} 122 45 = ap (λ t. get_or t 0 0) (sym e ∙ f) in omega arith

-- an offset means one offset
same_plain : (text p q : List ℕ) (o u : Offset) → IsOffsetFor p text → IsOffsetFor q text → TimeOffset o p → TimeOffset u q → p ≡ q
same_plain text p q o u (inl a) (inl b) s t = sym a ∙ b
same_plain text p q o u (inl a) (inr (inl b)) s t = absurd (no_zed o p (sym a ∙ b.0) s)
same_plain text p q o u (inl a) (inr (inr b)) s t = absurd (no_minus_zero o p (sym a ∙ b.0) s)
same_plain text p q o u (inr (inl a)) (inl b) s t = absurd (no_zed u q (sym b ∙ a.0) t)
same_plain text p q o u (inr (inl a)) (inr (inl b)) s t = a.1 ∙ sym b.1
same_plain text p q o u (inr (inl a)) (inr (inr b)) s t = absurd (z_not_minus text a.0 b.0)
same_plain text p q o u (inr (inr a)) (inl b) s t = absurd (no_minus_zero u q (sym b ∙ a.0) t)
same_plain text p q o u (inr (inr a)) (inr (inl b)) s t = absurd (z_not_minus text b.0 a.0)
same_plain text p q o u (inr (inr a)) (inr (inr b)) s t = a.1 ∙ sym b.1

one_meant_offset : OneValue MeansOffset
one_meant_offset text o u f g =
    one_time_offset f.plain o u f.spelled
    (subst (TimeOffset u) (sym (same_plain text f.plain g.plain o u f.stands g.stands f.spelled g.spelled)) g.spelled)

-- ---- whole texts

-- what follows the second
one_tail : (text : List ℕ) (m n : ℕ) (o u : Offset) → (MeansSecfrac m ▹ MeansOffset o) text → (MeansSecfrac n ▹ MeansOffset u) text
    → (m ≡ n) × (o ≡ u)
one_tail text m n o u s t =
    let front = same_front profile.Lenient m n s.front t.front s.rest t.rest s.first t.first
    (after_offset_alone profile.Lenient o s.rest s.second) (after_offset_alone profile.Lenient u t.rest t.second)
    (sym s.whole ∙ t.whole) in
    let both = cut_at s t front in
    (one_secfrac both.front m n both.first both.first', one_meant_offset both.rest o u both.second both.second')

one_letter : HasWidth 1 EitherT
one_letter = record { width = at } where
  at : (text : List ℕ) → EitherT text → length text ≡ 1
  at text (inl e) = ap length e
  at text (inr e) = ap length e

-- no text means two values
pub means_one_value : OneValue Rfc3339Means
means_one_value text v w s t =
    let date = cut_by_width (reads_full_date.width v.date) (reads_full_date.width w.date) s t in
    let tee = cut_by_width one_letter one_letter date.second date.second' in
    let time = cut_by_width (width_clock (codes ":") v.time) (width_clock (codes ":") w.time) tee.second tee.second' in
    let tail = one_tail time.rest v.time.nanosecond w.time.nanosecond v.offset w.offset time.second time.second' in
    same_value (reads_full_date.same date.front v.date w.date date.first date.first')
    (same_clock time.first time.first' tail.0) tail.1

-- ---- what the grammar spells is meant

means_secfrac : {n : ℕ} {text : List ℕ} → OptionalSecfrac n text → MeansSecfrac n text
means_secfrac {text = text} f = record {
  plain = text;
  cut = record { more = []; whole = sym (append-nil text); digits = tt; full = inl refl };
  spelled = f;
}

pub means_itself : (v : OffsetDateAndTime) (text : List ℕ) → Rfc3339Spells v text → Rfc3339Means v text
means_itself v text s =
    rest_as s (λ t a. both_as a (λ u e. inl e) (λ u b. rest_as b (λ w c. both_as c (λ x f. means_secfrac f) (λ x o. itself o))))
