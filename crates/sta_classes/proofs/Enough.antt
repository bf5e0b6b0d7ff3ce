-- What counts of the children of a node.
use Rattle.std.proofs.Common.{◌≡◌, ◌<◌, Bool, [], get_or, length, sym, ap, ◌∙◌, arith}
use Rattle.std.proofs.lemmas.List.{length-map}
use Rattle.model_tree.specs.Label.{Label}
use Rattle.model_sta.specs.Sets.{has, step}
use Rattle.model_sta.specs.Least.{rows_of, rows_at}
use Rattle.sta_core.specs.Sta.{automaton_of}
use Rattle.sta_theory.specs.Kinds.{OneKinds}
use Rattle.sta_classes.specs.Plain.{KindsAreEnough}
use Rattle.sta_theory.proofs.Fires.{step_same_kinds}
use Rattle.sta_classes.proofs.Listed.{map_at}

-- children of the same kinds have the same labels for a class
pub enough : (A V : Type 0) (holds : A → Label → Bool) → KindsAreEnough A V holds
enough A V holds t kinds c low ks js wide ks_low js_low same class l =
    let n : length ks ≡ length js = same.0 in
    let rows_k : length (rows_at t.found ks) ≡ length ks = length-map ks (λ k. get_or (rows_of t.found) k []) in
    let rows_j : length (rows_at t.found js) ≡ length js = length-map js (λ k. get_or (rows_of t.found) k []) in
    let one : OneKinds (automaton_of holds t.machine) c (rows_at t.found ks) (rows_at t.found js) = (
      rows_k ∙ n ∙ sym rows_j,
      λ j within s q d.
          let at_k : j < length ks = omega (arith, within, rows_k) in
          let at_j : j < length js = omega (arith, at_k, n) in
          ap (λ r. has r q) (map_at (λ k. get_or (rows_of t.found) k []) ks j 0 [] at_k)
          ∙ (kinds.same c j (get_or ks j 0) (get_or js j 0) low (omega (arith, at_k, wide)) (ks_low j 0 at_k) (js_low j 0 at_j)).0 (same.1 j at_k) s q d
          ∙ sym (ap (λ r. has r q) (map_at (λ k. get_or (rows_of t.found) k []) js j 0 [] at_j)),
    ) in
    let e : step (automaton_of holds t.machine) c l (rows_at t.found ks) ≡ step (automaton_of holds t.machine) c l (rows_at t.found js) = step_same_kinds (automaton_of holds t.machine) c l (rows_at t.found ks) (rows_at t.found js) one in
    ((λ h. sym e ∙ h), (λ h. e ∙ h))
