use Rattle.std.proofs.Common.{◌≡◌, ◌∙◌, ◌<◌, ℕ, None, IsSome, All, refl, sym, ap, subst, arith}
use Rattle.std.specs.Prelude.{is_some}
use Rattle.std.proofs.lemmas.List.Elements.{All-nil}
use Rattle.label_split.specs.Known.{settled, known_at, IsWithin}
use Rattle.label_split.proofs.Truths.{all_further, all_taken, some_as}
use Rattle.label_split.proofs.Opens.{and_within, or_within, not_within, and_settled, or_settled, not_settled}
use Rattle.label_split.proofs.known.+open.Goals.{open_among-then-is_open+in_default, open_among-else-is_open}
use Rattle.label_split.proofs.known.+open.Goals as goal

pub open_among-returns-clause-none : goal.open_among-returns-clause-none
open_among-returns-clause-none t c = all_taken (λ f. IsSome (settled c.args.known.now.signs.items f)) c.args.formulas.now c.loop-formula.formula-index c.loop-formula-test.false c.loop-formula.invariant

pub open_among-returns-in-Some-clause-some : goal.open_among-returns-in-Some-clause-some
open_among-returns-in-Some-clause-some t c = (c.in-Some.ensures.some.0, λ n all. c.in-Some.ensures.some.1 n (subst (IsWithin n) (sym c.formula-item.is) (all c.loop-formula.formula-index c.formula-item.result c.loop-formula-test.true)))

pub open_among-loop-formula-preserved : goal.open_among-loop-formula-preserved
open_among-loop-formula-preserved t c = all_further (λ f. IsSome (settled c.args.known.now.signs.items f)) c.args.formulas.now c.loop-formula.formula-index c.formula-item.result c.loop-formula-test.true c.formula-item.is c.loop-formula.invariant
    (elim c.if-is_open.branch [ open_among-then-is_open+in_default w ↦ w.in_default.ensures.none | open_among-else-is_open w ↦ c.is_open.ensures w.if-is_open.false ])

pub open_atom-returns-in-Not-clause-some : goal.open_atom-returns-in-Not-clause-some
open_atom-returns-in-Not-clause-some t c = some_as (λ i. (known_at c.args.known.now.signs.items i ≡ None) × ((n : ℕ) → IsWithin n c.deref.result.now → i < n)) (λ i. (known_at c.args.known.now.signs.items i ≡ None) × ((n : ℕ) → IsWithin n c.args.formula.now → i < n)) (λ i h. (h.0, λ n w. h.1 n (not_within n c.args.formula.now c.in-Not.inner c.deref.result.now c.in-Not.is c.deref.ensures w))) c.open_atom.result c.open_atom.ensures.some

pub open_atom-returns-in-And-clause-some : goal.open_atom-returns-in-And-clause-some
open_atom-returns-in-And-clause-some t c = some_as (λ i. (known_at c.args.known.now.signs.items i ≡ None) × ((n : ℕ) → All (IsWithin n) c.deref-in-And.result.now → i < n)) (λ i. (known_at c.args.known.now.signs.items i ≡ None) × ((n : ℕ) → IsWithin n c.args.formula.now → i < n)) (λ i h. (h.0, λ n w. h.1 n (and_within n c.args.formula.now c.in-And.parts c.deref-in-And.result.now c.in-And.is c.deref-in-And.ensures.value w))) c.open_among.result c.open_among.ensures.some

pub open_atom-returns-in-Or-clause-some : goal.open_atom-returns-in-Or-clause-some
open_atom-returns-in-Or-clause-some t c = some_as (λ i. (known_at c.args.known.now.signs.items i ≡ None) × ((n : ℕ) → All (IsWithin n) c.deref-in-Or.result.now → i < n)) (λ i. (known_at c.args.known.now.signs.items i ≡ None) × ((n : ℕ) → IsWithin n c.args.formula.now → i < n)) (λ i h. (h.0, λ n w. h.1 n (or_within n c.args.formula.now c.in-Or.parts c.deref-in-Or.result.now c.in-Or.is c.deref-in-Or.ensures.value w))) c.open_among-in-Or.result c.open_among-in-Or.ensures.some

pub open_among-loop-formula-init : goal.open_among-loop-formula-init
open_among-loop-formula-init t c = All-nil (λ f. IsSome (settled c.args.known.now.signs.items f))

pub open_among-offset_bounds-formulas-formula-index : goal.open_among-offset_bounds-formulas-formula-index
open_among-offset_bounds-formulas-formula-index t c = omega arith

pub open_atom-returns-in-Yes-clause-none : goal.open_atom-returns-in-Yes-clause-none
open_atom-returns-in-Yes-clause-none t c = subst (λ f. IsSome (settled c.args.known.now.signs.items f)) (sym c.in-Yes.is) refl

pub open_atom-returns-in-No-clause-none : goal.open_atom-returns-in-No-clause-none
open_atom-returns-in-No-clause-none t c = subst (λ f. IsSome (settled c.args.known.now.signs.items f)) (sym c.in-No.is) refl

pub open_atom-returns-in-Some-clause-none : goal.open_atom-returns-in-Some-clause-none
open_atom-returns-in-Some-clause-none t c = subst (λ f. IsSome (settled c.args.known.now.signs.items f)) (sym c.in-Atom.is) (ap is_some (sym c.of.ensures ∙ c.in-Some.is))

pub open_atom-returns-in-None-clause-some : goal.open_atom-returns-in-None-clause-some
open_atom-returns-in-None-clause-some t c = (sym c.of.ensures ∙ c.in-None.is, λ n within. subst (IsWithin n) c.in-Atom.is within)

pub open_atom-returns-in-Not-clause-none : goal.open_atom-returns-in-Not-clause-none
open_atom-returns-in-Not-clause-none t c = not_settled c.args.known.now.signs.items c.args.formula.now c.in-Not.inner c.deref.result.now c.in-Not.is c.deref.ensures c.open_atom.result c.open_atom.ensures.none

pub open_atom-returns-in-And-clause-none : goal.open_atom-returns-in-And-clause-none
open_atom-returns-in-And-clause-none t c = and_settled c.args.known.now.signs.items c.args.formula.now c.in-And.parts c.deref-in-And.result.now c.in-And.is c.deref-in-And.ensures.value c.open_among.result c.open_among.ensures.none

pub open_atom-returns-in-Or-clause-none : goal.open_atom-returns-in-Or-clause-none
open_atom-returns-in-Or-clause-none t c = or_settled c.args.known.now.signs.items c.args.formula.now c.in-Or.parts c.deref-in-Or.result.now c.in-Or.is c.deref-in-Or.ensures.value c.open_among-in-Or.result c.open_among-in-Or.ensures.none
