-- Labels that are far for what was built for an expression are far for the expression.
use Rattle.std.proofs.Common.{ℕ, List, [], ◌∷◌, Contains, sym, subst}
use Rattle.model_tree.specs.Label.{Label}
use Rattle.model_grammar.specs.Syntax.{X, Item}
use Rattle.model_run.specs.Seen.{IsGuard, Agree}
use Rattle.model_layers.specs.Causes.{FarLabelsGoUp}
use Rattle.model_layers.proofs.Chosen.{first_of, second_of}
use Rattle.model_layers.proofs.Sight.{the_only}

module _ (items : List Item) (type : List ℕ) where
  -- labels that agree on some expressions agree on each of them
  pub of_several : (es : List X) (x : X) → Contains es x → (l m : Label) → Agree items es type l m → Agree items (x ∷ []) type l m
  of_several es x at l m agree y other g is = agree x at g (subst (λ z. IsGuard items z type g) (sym (the_only x y other)) is)

pub far_labels_go_up : (items : List Item) (type : List ℕ) → FarLabelsGoUp items type
far_labels_go_up items type = record {
  of_one = λ e rules seen (l, is, far). (l, is, λ m own kept agree. far m own kept (seen l m is own agree));
  of_two = λ x y first second seen also (l, is, far). (
    l,
    is,
    λ m own kept agree. far m own kept (
      seen l m is own (of_several items type (x ∷ y ∷ []) x (first_of x (y ∷ [])) l m agree),
      also l m is own (of_several items type (x ∷ y ∷ []) y (second_of x y) l m agree),
    ),
  );
  of_transducer = λ e into f seen (l, is, far). (l, is, λ m own kept agree. far m own kept (seen.guards l m is own agree));
}
