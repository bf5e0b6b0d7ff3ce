-- Texts for fields by what they stand for.
use Rattle.std.proofs.Common.{◌≡◌, ◌≢◌, ◌<◌, ℕ, List, [], map, length, get_or, All, Contains, refl, ap, sym, ◌∙◌, subst, arith, ⊎_elim}
use Rattle.std.proofs.lemmas.List.{get_or-map, length-map}
use Rattle.std.proofs.lemmas.Bool.{cases_lt}
use Rattle.flat_label.specs.declared.texts.TextSide.{TextSide}
use Rattle.flat_label.specs.declared.texts.TextSide.TheVariants.{Field, Constant}
use Rattle.flat_label.specs.Texts.{texts_label, text_at_label, side_text}
use Rattle.flat_label.specs.Sides.{StandsForItself, IsAmong, AreValues}
use Rattle.flat_label.specs.Fresh.{AreFresh}

module _ (sides : List TextSide) (constants fresh : List (List ℕ)) (are : AreFresh (length sides) constants fresh) (rooted : All (StandsForItself sides) sides) where
  value_at : (k : ℕ) (d : TextSide) → k < length sides → get_or (map (λ s. side_text s (texts_label fresh)) sides) k [] ≡ side_text (get_or sides k d) (texts_label fresh)
  value_at k d low = get_or-map (λ s. side_text s (texts_label fresh)) sides k d [] low

  -- what stands for itself has a fresh text, or is its constant
  root_text : (x : TextSide) → StandsForItself sides x → side_text x (texts_label (map (λ s. side_text s (texts_label fresh)) sides)) ≡ side_text x (texts_label fresh)
  root_text (Field q) own =
      text_at_label q (map (λ s. side_text s (texts_label fresh)) sides) ∙ value_at q (Field q) own.0 ∙ ap (λ s. side_text s (texts_label fresh)) (own.1 (Field q))
  root_text (Constant t) own = refl

  two_fresh : (q r : ℕ) → q < length sides → r < length sides → q ≢ r → get_or fresh q [] ≢ get_or fresh r []
  two_fresh q r low low' apart same = ⊎_elim
      (λ below. are.apart q r [] below (omega (arith, are.many)) same)
      (λ above. are.apart r q [] (let other : q ≢ r = apart in omega arith) (omega (arith, are.many)) (sym same))
      (cases_lt q r)

  fresh_apart : (x y : TextSide) → StandsForItself sides x → StandsForItself sides y → IsAmong constants x → IsAmong constants y → x ≢ y → side_text x (texts_label fresh) ≢ side_text y (texts_label fresh)
  fresh_apart (Field q) (Field r) own own' among among' apart same =
      two_fresh q r own.0 own'.0 (λ e. apart (ap Field e)) (sym (text_at_label q fresh) ∙ same ∙ text_at_label r fresh)
  fresh_apart (Field q) (Constant t) own own' among among' apart same =
      are.new q [] (omega (arith, are.many, own.0)) (subst (Contains constants) (sym same ∙ text_at_label q fresh) among')
  fresh_apart (Constant s) (Field r) own own' among among' apart same =
      are.new r [] (omega (arith, are.many, own'.0)) (subst (Contains constants) (same ∙ text_at_label r fresh) among)
  fresh_apart (Constant s) (Constant t) own own' among among' apart same = apart (ap Constant same)

  pub values_are : AreValues sides constants (map (λ s. side_text s (texts_label fresh)) sides)
  values_are = record {
    many = length-map sides (λ s. side_text s (texts_label fresh));
    follow = λ k d low. text_at_label k (map (λ s. side_text s (texts_label fresh)) sides) ∙ value_at k d low ∙ sym (root_text (get_or sides k d) (rooted k d low));
    apart = λ x y own own' among among' apart same. fresh_apart x y own own' among among' apart (sym (root_text x own) ∙ same ∙ root_text y own');
  }
