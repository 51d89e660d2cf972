use Rattle.std.proofs.Common.{◌≡◌, ◌≤◌, List, ℕ, [], ◌∷◌, ◌++◌, length, length-append, refl, sym, ap, ◌∙◌, subst, ne_eqb, arith}
use Rattle.time_below.specs.Tree.{Tree, of_component}
use Rattle.time_describe.specs.Conversions.{composed}
use Rattle.time_describe.specs.Literal.{literal_of}
use Rattle.time_describe.proofs.StrftimeLemmas.{adds_more, composed_short, none_composed, component_composed, nothing_composed, byte_composed, last_composed}
use Rattle.time_describe.proofs.strftime.put_composed.Goals as goal
use Rattle.time_describe.proofs.strftime.put_composed.Goals.{in_default-first_and_rest-via-in-Some-first_and_rest+else-first-eq37, in_default-first_and_rest-via-in_default-first_and_rest}

-- so many items are added at most
few : (text rest : List ℕ) (added : List Tree) → added ++ composed rest ≡ composed text → length added ≤ length text
few text rest added is = omega (arith, composed_short text, ap length is, length-append added (composed rest))

pub overflow_add-count : goal.overflow_add-count
overflow_add-count g c =
    let w = c.parts.invariant.so_far in
    omega (arith, w.1, few c.args.text.now c.parts.rest.now w.0 w.2, c.well_formed.1.0.1)

pub overflow_add-count-in_default-first_and_rest : goal.overflow_add-count-in_default-first_and_rest
overflow_add-count-in_default-first_and_rest g c =
    let w = c.parts.invariant.so_far in
    omega (arith, w.1, few c.args.text.now c.parts.rest.now w.0 w.2, c.well_formed.1.0.1)

pub parts-preserved-in-Some-component_of : goal.parts-preserved-in-Some-component_of
parts-preserved-in-Some-component_of g c =
    let w = c.parts.invariant.so_far in
    let item = of_component c.in-Some-component_of.component ∷ [] in
    let now = w.0 ++ item in record {
      so_far = (
        now,
        omega (arith, w.1, length-append w.0 item),
        component_composed w.0 now c.in-Some.first c.in-Some-first_and_rest.letter c.in-Some-first_and_rest.behind.now c.in-Some-component_of.component
            c.if-first-eq37.true (sym c.in-Some-component_of.ensures) refl
            ∙ ap (λ (v : List ℕ). w.0 ++ composed v) (sym (c.in-Some.ensures ∙ ap (λ (v : List ℕ). c.in-Some.first ∷ v) c.in-Some-first_and_rest.ensures))
            ∙ w.2,
        λ of. adds_more (g.I.Items.Holds of []) c.args.items.now c.parts.items c.put_component.new.self w.0 item (w.3 of) (c.put_component.ensures.put of []),
      );
      lender = c.put_component.ensures.lender ∙ c.parts.invariant.lender;
    }

pub parts-preserved-in_default-component_of : goal.parts-preserved-in_default-component_of
parts-preserved-in_default-component_of g c =
    let w = c.parts.invariant.so_far in record {
      so_far = (
        w.0,
        w.1,
        nothing_composed w.0 c.in-Some.first c.in-Some-first_and_rest.letter c.in-Some-first_and_rest.behind.now
            c.if-first-eq37.true (sym c.in_default-component_of.ensures)
            ∙ ap (λ (v : List ℕ). w.0 ++ composed v) (sym (c.in-Some.ensures ∙ ap (λ (v : List ℕ). c.in-Some.first ∷ v) c.in-Some-first_and_rest.ensures))
            ∙ w.2,
        w.3,
      );
      lender = c.parts.invariant.lender;
    }

pub parts-preserved : goal.parts-preserved
parts-preserved g c =
    let w = c.parts.invariant.so_far in
    let item = literal_of (c.in-Some.first ∷ []) ∷ [] in
    let now = w.0 ++ item in record {
      so_far = (
        now,
        omega (arith, w.1, length-append w.0 item),
        elim c.in_default-first_and_rest.branch [
          | in_default-first_and_rest-via-in-Some-first_and_rest+else-first-eq37 v ↦
              ap (λ (u : List ℕ). now ++ composed u) v.in-Some-first_and_rest.ensures
              ∙ byte_composed w.0 now c.in-Some.first v.in-Some-first_and_rest.letter v.in-Some-first_and_rest.behind.now
              (ne_eqb _ _ v.if-first-eq37.false) refl
              ∙ ap (λ (u : List ℕ). w.0 ++ composed u) (sym (c.in-Some.ensures ∙ ap (λ (u : List ℕ). c.in-Some.first ∷ u) v.in-Some-first_and_rest.ensures))
              ∙ w.2
          | in_default-first_and_rest-via-in_default-first_and_rest v ↦
              ap (λ (u : List ℕ). now ++ composed u) v.in_default-first_and_rest.ensures
              ∙ last_composed w.0 now c.in-Some.first refl
              ∙ ap (λ (u : List ℕ). w.0 ++ composed u) (sym (c.in-Some.ensures ∙ ap (λ (u : List ℕ). c.in-Some.first ∷ u) v.in_default-first_and_rest.ensures))
              ∙ w.2
        ],
        λ of. adds_more (g.I.Items.Holds of []) c.args.items.now c.parts.items c.put_byte.new.self w.0 item (w.3 of) (c.put_byte.ensures.put of []),
      );
      lender = c.put_byte.ensures.lender ∙ c.parts.invariant.lender;
    }

pub returns-clause-put : goal.returns-clause-put
returns-clause-put g c = λ of.
    let w = c.parts.invariant.so_far in
    let all = sym (none_composed w.0) ∙ ap (λ (v : List ℕ). w.0 ++ composed v) (sym c.in_default.ensures) ∙ w.2 in
    subst (λ (v : List Tree). (before : List Tree) → g.I.Items.Holds of [] c.args.items.now before → g.I.Items.Holds of [] c.parts.items (before ++ v)) all (w.3 of)

pub returns-clause-count : goal.returns-clause-count
returns-clause-count g c =
    let w = c.parts.invariant.so_far in
    let all = sym (none_composed w.0) ∙ ap (λ (v : List ℕ). w.0 ++ composed v) (sym c.in_default.ensures) ∙ w.2 in
    w.1 ∙ ap length all
