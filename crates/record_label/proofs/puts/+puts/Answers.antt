use Rattle.std.proofs.Common.{◌≡◌, ◌++◌, ◌∷◌, [], map, ap, ◌∙◌}
use Rattle.std.proofs.Math.IntN.{ℤ}
use Rattle.std.proofs.lemmas.Result.{err_from_is_err_and}
use Rattle.label_core.specs.Formula.{plain_formula}
use Rattle.model_tree.specs.Formula.{negation}
use Rattle.record_label.specs.Guards.{joined_of}
use Rattle.record_label.specs.Maps.{put_formula, IsOutsideOf, SomeOutside}
use Rattle.record_label.specs.PlainMaps.{plain_entry}
use Rattle.record_label.proofs.Follows.{follows, stops_after, taken}
use Rattle.record_label.proofs.PutFacts.{put_all, put_some, done_more, done_all, outside_here}
use Rattle.record_label.proofs.puts.+puts.Goals as goal

pub put_formula-returns-in-And : goal.put_formula-returns-in-And
put_formula-returns-in-And t c =
    put_all (map plain_entry c.args.entries.now) c.args.formula.now c.in-And.parts c.deref-in-And.result.now c.deref-in-And.ensures.value c.put_each.result c.in-And.is c.put_each.ensures

pub put_formula-returns-in-Or : goal.put_formula-returns-in-Or
put_formula-returns-in-Or t c =
    put_some (map plain_entry c.args.entries.now) c.args.formula.now c.in-Or.parts c.deref-in-Or.result.now c.deref-in-Or.ensures.value c.put_each-in-Or.result c.in-Or.is c.put_each-in-Or.ensures

pub put_each-returns-in_err-added : goal.put_each-returns-in_err-added
put_each-returns-in_err-added t c =
    let entries = map plain_entry c.args.entries.now in
    let it = c.part-item.result in
    let items = c.args.parts.now in
    let p = err_from_is_err_and c.from_residual.result c.from_residual.ensures.1 in
    let out = outside_here plain_formula (put_formula entries) (IsOutsideOf entries) items c.loop-part.part-index it c.loop-part-test.true c.part-item.is in
    rw (p.1, p.2) (stops_after c.put_formula.result c.in_err-added.field-0.0 (λ f _. c.added.new.list.items ≡ c.loop-part.made.items ++ f ∷ []) (λ _ _. ⊥) (λ f. (plain_formula f ≡ put_formula entries (plain_formula it)) × ((n : ℤ) → IsOutsideOf entries (plain_formula it) n → ⊥)) (IsOutsideOf entries (plain_formula it)) (SomeOutside (IsOutsideOf entries) (map plain_formula items)) out (λ f is n o. absurd o) c.put_formula.ensures c.in_err-added.ensures)

pub put_each-loop-part-preserved : goal.put_each-loop-part-preserved
put_each-loop-part-preserved t c =
    let entries = map plain_entry c.args.entries.now in
    let it = c.part-item.result in
    let own = taken c.put_formula.result tt (λ f _. c.added.new.list.items ≡ c.loop-part.made.items ++ f ∷ []) (λ _ _. ⊥) (λ f. (plain_formula f ≡ put_formula entries (plain_formula it)) × ((n : ℤ) → IsOutsideOf entries (plain_formula it) n → ⊥)) (IsOutsideOf entries (plain_formula it)) c.put_formula.ensures c.in_ok-added.ensures in
    done_more plain_formula (put_formula entries) (IsOutsideOf entries) c.args.parts.now c.loop-part.part-index it c.loop-part.made.items c.added.new.list.items own.0 c.loop-part-test.true c.part-item.is own.2 own.1 c.loop-part.invariant

pub put_each-returns : goal.put_each-returns
put_each-returns t c =
    let entries = map plain_entry c.args.entries.now in
    let done = done_all plain_formula (put_formula entries) (IsOutsideOf entries) c.args.parts.now c.loop-part.part-index c.loop-part.made.items c.loop-part-test.false c.loop-part.invariant in
    (c.joined.ensures ∙ ap (joined_of c.args.every) done.0, done.1)

pub put_formula-returns-in-Not : goal.put_formula-returns-in-Not
put_formula-returns-in-Not t c =
    let entries = map plain_entry c.args.entries.now in
    let f = plain_formula c.in-Not.inner.value in
    rw c.in-Not.is (follows c.put_formula.result c.denied.result (λ g made. plain_formula made ≡ negation (plain_formula g)) (λ _ _. ⊥) (λ g. (plain_formula g ≡ put_formula entries f) × ((n : ℤ) → IsOutsideOf entries f n → ⊥)) (λ made. (plain_formula made ≡ negation (put_formula entries f)) × ((n : ℤ) → IsOutsideOf entries f n → ⊥)) (IsOutsideOf entries f) (IsOutsideOf entries f)
    (λ g is made so. (so ∙ ap negation is.0, is.1)) (λ n o. o) (λ g is n o. absurd o) (rw c.deref.ensures at c.put_formula.ensures) c.denied.ensures)
