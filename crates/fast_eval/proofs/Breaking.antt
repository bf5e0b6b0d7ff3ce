-- What is decided by automata, and what stops the parts of a type check.
use Rattle.std.proofs.Common.{◌≡◌, ◌⊎◌, inl, inr, ℕ, Bool, true, false, List, refl, sym, ◌∙◌}
use Rattle.model_grammar.specs.declared.Op1.TheVariants.{Complement}
use Rattle.model_grammar.specs.declared.Op2.TheVariants.{Intersect, PreImage}
use Rattle.model_grammar.specs.Places.{nowhere}
use Rattle.model_grammar.specs.Syntax.{X, Item}
use Rattle.model_meaning.specs.Meaning.{IsInLanguage}
use Rattle.sta_core.specs.declared.Lang.{Lang}
use Rattle.sttr_core.specs.declared.sttr.Trans.{Trans}
use Rattle.record_label.specs.Rows.{RowAtom}
use Rattle.record_label.specs.declared.maps.RowMap.{RowMap}
use Rattle.fast_eval.specs.Broken.{outside_x, escaping_x, broken_x}
use Rattle.fast_eval.specs.Built.{trans_of, IsBuiltOf, IsTransBuiltOf}
use Rattle.fast_eval.specs.Scopes.{IsDecided, AreDecided}
use Rattle.fast_eval.specs.Stops.{StopsExpression}
use Rattle.fast_eval.specs.declared.stops.EvalStop.{EvalStop}
use Rattle.fast_eval.proofs.Answered.{accepts}
use Rattle.fast_eval.proofs.Claims.{only_stops, first_stops, second_stops}

-- an automaton decides what is in its language
pub decided_by : (items : List Item) (type : List ℕ) (y : X) (b : Lang RowAtom) → IsBuiltOf items y type b → IsDecided items type y
decided_by items type y b built u typed = by (accepts items type y b built u) refl
  where
    by : (t : Bool) → accepts items type y b built u ≡ t → IsInLanguage items y u ⊎ ¬ (IsInLanguage items y u)
    by true is = inl ((built.carries.means u typed).0 is)
    by false is = inr (λ own. let no : true ≡ false = sym ((built.carries.means u typed).1 own) ∙ is in cc)

-- of outputs of a transformation
pub outputs_decided : (items : List Item) (from into : List ℕ) (f y : X) (a : Trans RowAtom RowMap) → IsTransBuiltOf items f from into a → IsDecided items into y → AreDecided items from f y
outputs_decided items from into f y a built decided t u typed gives =
    decided u (built.carries.typed (trans_of a).start t u built.carries.in_range typed ((built.carries.means t u typed).1 gives))

module _ (items : List Item) (most : ℕ) (x f y : X) (s : EvalStop) where
  pub outside_stops : StopsExpression items y most s → StopsExpression items (outside_x y) most s
  outside_stops = only_stops items most Complement nowhere y refl s

  pub outputs_stop : StopsExpression items (outside_x y) most s → StopsExpression items (escaping_x f y) most s
  outputs_stop = second_stops items most PreImage nowhere f (outside_x y) refl s

  pub inside_stops : StopsExpression items f most s → StopsExpression items (escaping_x f y) most s
  inside_stops = first_stops items most PreImage nowhere f (outside_x y) refl s

  pub language_stops : StopsExpression items x most s → StopsExpression items (broken_x x f y) most s
  language_stops = first_stops items most Intersect nowhere x (escaping_x f y) refl s

  pub escaping_stops : StopsExpression items (escaping_x f y) most s → StopsExpression items (broken_x x f y) most s
  escaping_stops = second_stops items most Intersect nowhere x (escaping_x f y) refl s
