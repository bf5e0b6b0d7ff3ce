-- What stops an equality, told by the states and guards of both languages.
use Rattle.std.proofs.Common.{ℕ, ◌≡◌, ◌<◌, Bool, List, [], ◌∷◌, ◌++◌, map, length, refl, sym, ap, ap₂, subst, ◌∙◌, append_assoc}
use Rattle.std.proofs.lemmas.Simd.{map-map}
use Rattle.model_tree.specs.Label.{Label}
use Rattle.model_tree.specs.Formula.{Formula}
use Rattle.model_sta.specs.Sets.{Fits}
use Rattle.model_sta.specs.Told.{HasMoreApart, AreTold, AreToldByEither}
use Rattle.model_sta.proofs.Told.{more_told}
use Rattle.model_sta.proofs.Beside.{told_by_either}
use Rattle.label_core.specs.Meaning.{Meaning}
use Rattle.sta_core.specs.Machine.{PlainRule}
use Rattle.sta_core.specs.Sta.{automaton_of}
use Rattle.sta_core.specs.declared.Lang.{Lang}
use Rattle.sta_classes.specs.declared.stop.ClassStop.{ClassStop}
use Rattle.sta_classes.specs.declared.stop.ClassStop.TheVariants.{Classes, Wide, Memory}
use Rattle.sta_classes.specs.Guards.{all_guards}
use Rattle.sta_classes.specs.Meant.{HasMoreClasses, StopsClasses}
use Rattle.sta_classes.specs.Stop.{ClassStopsFor}
use Rattle.model_sta.proofs.Counts.{each_two_weaker}
use Rattle.sta_ops.specs.Empty.{side_by_side, StopsEither}
use Rattle.sta_ops.specs.Rules.{moved, beside}
use Rattle.sta_ops.proofs.Answered.{is_beside}
use Rattle.sta_ops.proofs.EachRule.{EachRule}
use Rattle.sta_ops.proofs.Fitting.{PlainFits, own_of}

module _ {A : Type 0} where
  guards_append : (xs ys : List (List (PlainRule A))) → all_guards (xs ++ ys) ≡ all_guards xs ++ all_guards ys
  guards_append [] ys = refl
  guards_append (x ∷ xs) ys = ap (λ l. map (λ r. r.guard) x ++ l) (guards_append xs ys) ∙ sym (append_assoc (map (λ r. r.guard) x) (all_guards xs) (all_guards ys))

  guards_moved : (n : ℕ) (xs : List (List (PlainRule A))) → all_guards (map (map (moved n)) xs) ≡ all_guards xs
  guards_moved n [] = refl
  guards_moved n (x ∷ xs) = ap₂ (λ a b. a ++ b) (map-map (λ r. r.guard) (moved n) x) (guards_moved n xs)

  -- the guards of both
  guards_beside : (xs ys : List (List (PlainRule A))) → all_guards (beside xs ys) ≡ all_guards xs ++ all_guards ys
  guards_beside xs ys = guards_append xs (map (map (moved (length xs))) ys) ∙ ap (λ l. all_guards xs ++ l) (guards_moved (length xs) ys)

module _ {A V W : Type 0} {label_of : V → Label} {holds : A → Label → Bool} (M : Meaning label_of holds W) (a b : Lang A) (fit_a : EachRule (PlainFits a.sta.ranks (length a.sta.rules)) a.sta.rules) (fit_b : EachRule (PlainFits b.sta.ranks (length b.sta.rules)) b.sta.rules)
    (low_a : a.state < length a.sta.rules) (low_b : b.state < length b.sta.rules) (most : ℕ) where
  abbrev Many : Type 0
  Many = HasMoreApart (Fits a.sta.ranks M.keeps) (AreToldByEither (automaton_of holds a.sta) (automaton_of holds b.sta)) most

  many : HasMoreClasses M (side_by_side a b) most → Many
  many h =
      let told = more_told a.sta.ranks M.keeps (automaton_of holds (side_by_side a b)) most h in
      record {
        trees = told.trees;
        typed = told.typed;
        apart = each_two_weaker (AreTold (automaton_of holds (side_by_side a b))) (AreToldByEither (automaton_of holds a.sta) (automaton_of holds b.sta))
            (told_by_either (automaton_of holds a.sta) (automaton_of holds b.sta) (automaton_of holds (side_by_side a b)) (own_of holds a.sta fit_a) (own_of holds b.sta fit_b) (is_beside M a b fit_a fit_b low_a low_b)) told.trees told.apart;
        more = told.more;
      }

  of_many : (guards : List (Formula A)) (e : ClassStop W) → ClassStopsFor M (HasMoreClasses M (side_by_side a b) most) guards e → ClassStopsFor M Many guards e
  of_many guards Classes h = many h
  of_many guards (Wide w) h = h
  of_many guards Memory h = h

  pub stops_either : (e : ClassStop W) → StopsClasses M (side_by_side a b) most e → StopsEither M a b most e
  stops_either e h = subst (λ guards. ClassStopsFor M Many guards e) (guards_beside a.sta.rules b.sta.rules) (of_many (all_guards (beside a.sta.rules b.sta.rules)) e h)
