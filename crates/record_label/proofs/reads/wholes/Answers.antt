use Rattle.std.proofs.Common.{◌≡◌, ◌∙◌, ◌++◌, ◌+◌, [], ◌∷◌, List, ℕ, map, take, set, ap, sym, subst, rules}
use Rattle.std.specs.Prelude.{FitsSigned}
use Rattle.std.specs.Int.{w64}
use Rattle.std.proofs.Math.IntN.{ℤ}
use Rattle.std.proofs.lemmas.Int.{to_z-of_z}
use Rattle.fast_tree.specs.Entries.{field_of}
use Rattle.model_guard.specs.Forms.{wholes_in}
use Rattle.record_label.proofs.Filling.{AreFirst, one_further, no_more, wholes_more, no_whole}
use Rattle.record_label.proofs.reads.wholes.Goals.{in-Int+then-count-lt8, in-Int+else-count-lt8, in_default}
use Rattle.record_label.proofs.reads.wholes.Goals as goal

pub loop-value-preserved : goal.loop-value-preserved
loop-value-preserved c = elim c.match-value.branch [
  | in-Int+then-count-lt8 w ↦
      let z = w.in-Int.whole in
      let fits : FitsSigned w64 z = search rules in
      let filled = one_further c.loop-value.wholes before c.loop-value.count z w.if-count-lt8.true c.loop-value.invariant in
      let same = w.wholes-is ∙ ap (λ n. set c.loop-value.wholes c.loop-value.count n) (to_z-of_z w64 z fits) in
      made c.match-value.wholes c.match-value.count (before ++ z ∷ []) same w.count-is (sym (more ∙ ap (λ v. before ++ wholes_in (field_of v ∷ [])) w.in-Int.is)) filled
  | in-Int+else-count-lt8 w ↦
      made c.match-value.wholes c.match-value.count (before ++ w.in-Int.whole ∷ []) w.wholes-is w.count-is (sym (more ∙ ap (λ v. before ++ wholes_in (field_of v ∷ [])) w.in-Int.is)) (no_more c.loop-value.wholes before c.loop-value.count w.in-Int.whole w.if-count-lt8.false c.loop-value.invariant)
  | in_default w ↦
      made c.match-value.wholes c.match-value.count before w.wholes-is w.count-is (sym (more ∙ no_whole before c.value-item.result w.in_default.not-Int)) c.loop-value.invariant
]
  where
    before : List ℤ
    before = wholes_in (map field_of (take c.loop-value.value-index c.args.values.now))

    more : wholes_in (map field_of (take (c.loop-value.value-index + 1) c.args.values.now)) ≡ before ++ wholes_in (field_of c.value-item.result ∷ [])
    more = wholes_more c.args.values.now c.loop-value.value-index c.value-item.result c.loop-value-test.true c.value-item.is

    made : (ws : List ℤ) (n : ℕ) (ns : List ℤ) {vs : List ℤ} {m : ℕ} {ms : List ℤ} → ws ≡ vs → n ≡ m → ns ≡ ms → AreFirst vs m ns → AreFirst ws n ms
    made ws n ns {vs} {m} {ms} a b e h = subst (λ us. AreFirst us n ms) (sym a) (subst (λ k. AreFirst vs k ms) (sym b) (subst (λ us. AreFirst vs m us) e h))
