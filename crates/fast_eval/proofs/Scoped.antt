-- What is so in the scope of an expression is so of the program and of what was built for its names.
use Rattle.std.proofs.Common.{◌≡◌, ◌↔◌, inl, inr, ℕ, Bool, true, List, [], ◌∷◌, Option, sym, ap, subst}
use Rattle.model_tree.specs.Tree.{LabelTree}
use Rattle.model_tree.specs.Signature.{HasType}
use Rattle.fast_tree.specs.declared.label.Label.{Label}
use Rattle.model_grammar.specs.Syntax.{X, Claim, Item}
use Rattle.model_meaning.specs.Meaning.{IsInLanguage, input_type}
use Rattle.model_run.specs.Items.{judged_claim}
use Rattle.program_check.specs.declared.programs.Checked.{Checked}
use Rattle.fast_eval.specs.declared.stops.EvalStop.{EvalStop}
use Rattle.sta_ops.specs.declared.emptiness.Found.{Found}
use Rattle.fast_build.specs.Items.{items_of}
use Rattle.fast_eval.specs.declared.built.Built.{Built}
use Rattle.fast_eval.specs.declared.evaluation.Scope.{Scope}
use Rattle.fast_eval.specs.declared.evaluation.Operand.{Operand}
use Rattle.fast_eval.specs.declared.evaluation.TransOperand.{TransOperand}
use Rattle.model_names.specs.Kinds.{Kind}
use Rattle.fast_eval.specs.Counted.{IsCounted}
use Rattle.fast_eval.specs.Forms.{AreNamed, IsMadeOn, IsMadeFrom, IsMadeAt}
use Rattle.fast_eval.specs.Found.{IsFoundOf}
use Rattle.fast_eval.specs.Scopes.{items_in, type_in, IsScopeOf, IsOperandOf, IsTransOperandOf, IsTransOperandFrom, IsDecided}
use Rattle.fast_eval.specs.Outputs.{AreOutputsOf, StopsOutputs}
use Rattle.fast_eval.specs.declared.stops.OutputStop.{OutputStop}
use Rattle.fast_eval.specs.Stops.{IsStopOf, StopsExpression}
use Rattle.fast_eval.specs.Witnesses.{IsWitnessOf}

module _ (checked : Checked) (b : Built) (limit : ℕ) (x : X) (s : Scope) (is : IsScopeOf checked b limit x s) where
  abbrev items : List Item
  items = items_of checked

  items_are : items_in s ≡ items
  items_are = ap items_of is.program

  -- into the scope
  pub made_there : (type : List ℕ) → IsMadeAt items type x → (y : X) → IsMadeOn items type y → IsMadeOn (items_in s) (type_in s) y
  made_there type made y also = subst (λ its. IsMadeOn its (type_in s) y) (sym items_are) (subst (λ t. IsMadeOn items t y) (sym (is.on type made)) also)

  pub made_from_there : (type into : List ℕ) → IsMadeAt items type x → (y : X) → IsMadeFrom items type into y → IsMadeFrom (items_in s) (type_in s) into y
  made_from_there type into made y also = subst (λ its. IsMadeFrom its (type_in s) into y) (sym items_are) (subst (λ t. IsMadeFrom items t into y) (sym (is.on type made)) also)

  -- on the type of outputs
  pub made_into_there : (into : List ℕ) (y : X) → IsMadeOn items into y → IsMadeOn (items_in s) into y
  made_into_there into y also = subst (λ its. IsMadeOn its into y) (sym items_are) also

  pub named_there : (kind : Kind) (y : X) → AreNamed kind b y → AreNamed kind s.built.now y
  named_there kind y named = subst (λ k. AreNamed kind k y) (sym is.table) named

  -- and back
  pub trans_back : (from into : List ℕ) → IsMadeFrom items from into x → (o : TransOperand) → IsTransOperandFrom (items_in s) x (type_in s) s.built.now o → IsTransOperandOf items x from into b o
  trans_back from into made o h =
      let at : IsMadeAt items from x = inr (into, made) in
      let own = h into (made_from_there from into at x made) in
      subst (λ t. IsTransOperandOf items x t into b o) (is.on from at) (subst (λ k. IsTransOperandOf items x (type_in s) into k o) is.table (subst (λ its. IsTransOperandOf its x (type_in s) into s.built.now o) items_are own))

  pub operand_there : (type : List ℕ) → IsMadeAt items type x → (y : X) (o : Operand) → IsOperandOf (items_in s) y (type_in s) s.built.now o → IsOperandOf items y type b o
  operand_there type made y o h = subst (λ t. IsOperandOf items y t b o) (is.on type made) (subst (λ k. IsOperandOf items y (type_in s) k o) is.table (subst (λ its. IsOperandOf its y (type_in s) s.built.now o) items_are h))

  pub operand_back : (type : List ℕ) → IsMadeOn items type x → (o : Operand) → IsOperandOf (items_in s) x (type_in s) s.built.now o → IsOperandOf items x type b o
  operand_back type made = operand_there type (inl made) x

  pub counted_back : (count : Option ℕ) → IsCounted (items_in s) x count → IsCounted items x count
  counted_back count h = subst (λ its. IsCounted its x count) items_are h

  pub stop_there : (y : X) (st : EvalStop) → StopsExpression (items_in s) y s.limit st → StopsExpression items y limit st
  stop_there y st h = subst (λ n. StopsExpression items y n st) is.most (subst (λ its. StopsExpression its y s.limit st) items_are h)

  pub stop_back : (st : EvalStop) → StopsExpression (items_in s) x s.limit st → StopsExpression items x limit st
  stop_back = stop_there x

  pub found_back : (claim : Claim) (f : Found Label) → IsFoundOf (items_in s) claim f → IsFoundOf items claim f
  found_back claim f h = subst (λ its. IsFoundOf its claim f) items_are h

  pub claim_back : (claim : Claim) (st : EvalStop) → IsStopOf (items_in s) (judged_claim (items_in s) claim) s.limit st → IsStopOf items (judged_claim items claim) limit st
  claim_back claim st h = subst (λ n. IsStopOf items (judged_claim items claim) n st) is.most (subst (λ its. IsStopOf its (judged_claim its claim) s.limit st) items_are h)

  pub witness_back : (y : X) (f : Found Label) → IsWitnessOf (items_in s) y f → IsWitnessOf items y f
  witness_back y f h = subst (λ its. IsWitnessOf its y f) items_are h

  pub one_back : (y : X) (st : EvalStop) → IsStopOf (items_in s) (y ∷ []) s.limit st → IsStopOf items (y ∷ []) limit st
  one_back y st h = subst (λ n. IsStopOf items (y ∷ []) n st) is.most (subst (λ its. IsStopOf its (y ∷ []) s.limit st) items_are h)

  pub typed_in : (y : X) (t : LabelTree) → HasType (input_type items y) t → HasType (input_type (items_in s) y) t
  typed_in y t h = subst (λ its. HasType (input_type its y) t) (sym items_are) h

  pub inside_back : (y : X) (t : LabelTree) (b : Bool) → (b ≡ true) ↔ IsInLanguage (items_in s) y t → (b ≡ true) ↔ IsInLanguage items y t
  inside_back y t b h = subst (λ its. (b ≡ true) ↔ IsInLanguage its y t) items_are h

  pub outputs_back : (y : X) (t : LabelTree) (us : List LabelTree) → AreOutputsOf (items_in s) y t us → AreOutputsOf items y t us
  outputs_back y t us h = subst (λ its. AreOutputsOf its y t us) items_are h

  pub output_stop_back : (y : X) (t : LabelTree) (st : OutputStop) → StopsOutputs (items_in s) y s.limit t st → StopsOutputs items y limit t st
  output_stop_back y t st h = subst (λ n. StopsOutputs items y n t st) is.most (subst (λ its. StopsOutputs its y s.limit t st) items_are h)

  pub decided_back : (type : List ℕ) → IsMadeAt items type x → (y : X) → IsDecided (items_in s) (type_in s) y → IsDecided items type y
  decided_back type made y h = subst (λ t. IsDecided items t y) (is.on type made) (subst (λ its. IsDecided its (type_in s) y) items_are h)
