use Rattle.std.proofs.Common.{◌≡◌, map, IfOk, ap, sym, subst, ◌∙◌}
use Rattle.std.proofs.lemmas.Result.{IfOk-from_err, IfOk-weaker}
use Rattle.model_tree.specs.Label.{row}
use Rattle.fast_tree.specs.Entries.{label_meaning}
use Rattle.fast_tree.specs.Signatures.{plain_sort}
use Rattle.label_core.specs.Verdict.{DecidesAll}
use Rattle.record_label.specs.Meaning.{row_meaning}
use Rattle.record_label.specs.Rows.{merged, AreAsMany, IsFound}
use Rattle.record_label.proofs.RowFacts.{as_many, merged_satisfies, none_satisfies, kept_none, some_satisfies, of_numbers}
use Rattle.record_label.proofs.rows.RowLabelsTheory.decide.Goals as goal

pub found-requires : goal.found-requires
found-requires c =
    let v = c.in-Sat.value in
    let both = rw (c.in-Sat.is, c.parts.ensures.wholes, c.parts.ensures.truths, c.parts.ensures.texts) at c.in_ok-value.ensures in
    let same : map plain_sort c.deref.result.now ≡ c.args.self.now = ap (map plain_sort) c.deref.ensures.value ∙ c.self.view_is in
    subst (λ sorts. AreAsMany sorts v.left.items v.right.left.items v.right.right.items) (sym same) (as_many c.args.self.now c.args.literals.now v.left.items v.right.left.items v.right.right.items both.0)

pub returns-in-Sat : goal.returns-in-Sat
returns-in-Sat c =
    let v = c.in-Sat.value in
    let sorts = c.args.self.now in
    let both = rw (c.in-Sat.is, c.parts.ensures.wholes, c.parts.ensures.truths, c.parts.ensures.texts) at c.in_ok-value.ensures in
    let same : map plain_sort c.deref.result.now ≡ sorts = ap (map plain_sort) c.deref.ensures.value ∙ c.self.view_is in
    IfOk-weaker c.found.result _ (DecidesAll (row_meaning sorts) c.args.literals.now) (merged_satisfies sorts c.args.literals.now v.left.items v.right.left.items v.right.right.items both.0 both.1)
    (subst (λ ss. IfOk c.found.result (IsFound (λ l. label_meaning l ≡ row (merged ss v.left.items v.right.left.items v.right.right.items)))) same c.found.ensures)

pub returns-in-Unsat : goal.returns-in-Unsat
returns-in-Unsat c = none_satisfies c.args.self.now c.args.literals.now (rw (c.in-Unsat.is, c.parts.ensures.wholes, c.parts.ensures.truths, c.parts.ensures.texts) at c.in_ok-value.ensures)

pub chain_of_numbers-requires : goal.chain_of_numbers-requires
chain_of_numbers-requires c = let h = rw c.in-Wide.is at c.in_ok-value.ensures in of_numbers _ c.in-Wide.chain h.0.0

pub returns-in-Wide : goal.returns-in-Wide
returns-in-Wide c =
    let h = rw (c.in-Wide.is, c.chain_of_numbers.ensures) at c.in_ok-value.ensures in (
      h.0,
      λ far. let told = rw (c.parts.ensures.wholes, c.parts.ensures.truths, c.parts.ensures.texts) at (h.1 far) in
          (some_satisfies c.args.self.now c.args.literals.now told.0, kept_none c.args.self.now c.args.literals.now told.1),
    )

pub decide-requires : goal.decide-requires
decide-requires c = rw (c.parts.ensures.wholes, c.parts.ensures.truths, c.parts.ensures.texts) c.requires

pub returns-in_err-value : goal.returns-in_err-value
returns-in_err-value c = IfOk-from_err c.from_residual.result _ c.from_residual.ensures.0
