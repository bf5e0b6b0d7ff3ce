-- Compositions in parts of expressions.
use Rattle.std.proofs.Common.{◌≡◌, ◌⊎◌, inl, inr, ℕ, zero, suc, ◌<◌, ◌≤◌, ◌+◌, List, [], ◌∷◌, ◌++◌, All, Contains, map, take, length, get_or, refl, sym, ap, subst, ◌∙◌, add-one, arith, Vec, Global}
use Rattle.std.proofs.Math.Seq.{take-suc}
use Rattle.std.proofs.lemmas.List.Elements.{All-nil, All-cons, All-append, All-head, All-tail}
use Rattle.fast_fault.specs.declared.place.Pos.{Pos}
use Rattle.model_program.specs.Syntax.{Name}
use Rattle.model_grammar.specs.declared.Op2.{Op2}
use Rattle.model_grammar.specs.declared.Op2.TheVariants.{Intersect, Union, Difference, PreImage, Compose, Restrict, RestrictOut, Apply}
use Rattle.model_grammar.specs.Syntax.{Expr, X, named, one, two, literal, Xs, no_x, and_x, Item}
use Rattle.model_meaning.specs.Reached.{IsNamedIn, IsNamedInOne}
use Rattle.model_run.specs.Plain.{IsPlain, IsLinear}
use Rattle.model_run.specs.Items.{IsComposedIn, IsComposedInOne, AreComposable}
use Rattle.fast_syntax.specs.declared.Name as code_name
use Rattle.fast_syntax.specs.declared.expressions.Expr as code_label
use Rattle.fast_syntax.specs.declared.items.X as code
use Rattle.fast_syntax.specs.declared.items.X.{Literal}
use Rattle.fast_syntax.specs.View.{plain_name}
use Rattle.fast_syntax.specs.Plain.{plain_expr, plain_x}
use Rattle.fast_syntax.specs.Slices.{plain_children}
use Rattle.fast_syntax.proofs.Rows.{plain_literal}
use Rattle.fast_compose.specs.declared.stops.ComposeStop.{ComposeStop}
use Rattle.fast_compose.specs.Composed.{AreNamesDeclared, StopsIn}

-- ---- how large an expression is

abbrev mutual
  pub weight : X → ℕ
  weight (named n) = 1
  weight (one op place x) = suc (weight x)
  weight (two op place x y) = suc (weight x + weight y)
  weight (literal name labels xs) = suc (weights xs)

  pub weights : Xs → ℕ
  weights no_x = 0
  weights (and_x x xs) = weight x + weights xs

-- each child is no larger than all
pub weight_at : (xs : List code.X) (i : ℕ) (x : code.X) → i < length xs → x ≡ get_or xs i x → weight (plain_x x) ≤ weights (plain_children xs)
weight_at [] i x low is = absurd (omega (arith, low))
weight_at (y ∷ xs) zero x low is = let same = ap (λ z. weight (plain_x z)) is in omega (arith, same)
weight_at (y ∷ xs) (suc i) x low is = omega (arith, weight_at xs i x (omega (arith, low)) is)

-- ---- compositions

module _ (x y : X) where
  -- the two parts themselves, or a composition in one of them
  either_part : (op : Op2) (place : Pos) (e f : X) → IsComposedIn x y (two op place e f) → ((op ≡ Compose) × (x ≡ e) × (y ≡ f)) ⊎ IsComposedIn x y e ⊎ IsComposedIn x y f
  either_part Intersect place e f c = inr c
  either_part Union place e f c = inr c
  either_part Difference place e f c = inr c
  either_part PreImage place e f c = inr c
  either_part Compose place e f (inl own) = inl (refl, own.0, own.1)
  either_part Compose place e f (inr c) = inr c
  either_part Restrict place e f c = inr c
  either_part RestrictOut place e f c = inr c
  either_part Apply place e f c = inr c

  lift_child : (xs : List code.X) (i : ℕ) (d : code.X) → i < length xs → IsComposedIn x y (plain_x (get_or xs i d)) → IsComposedInOne x y (plain_children xs)
  lift_child [] i d low c = absurd (omega (arith, low))
  lift_child (e ∷ xs) zero d low c = inl c
  lift_child (e ∷ xs) (suc i) d low c = inr (lift_child xs i d (omega (arith, low)) c)

module _ (items : List Item) where
  -- ---- names

  named_child : (xs : List code.X) (i : ℕ) (d : code.X) (n : List ℕ) → i < length xs → IsNamedIn (plain_x (get_or xs i d)) n → IsNamedInOne (plain_children xs) n
  named_child [] i d n low at = absurd (omega (arith, low))
  named_child (e ∷ xs) zero d n low at = inl at
  named_child (e ∷ xs) (suc i) d n low at = inr (named_child xs i d n (omega (arith, low)) at)

  children_declared : (name : Name) (labels : List Expr) (xs : List code.X) → AreNamesDeclared items (literal name labels (plain_children xs)) → All (λ x. AreNamesDeclared items (plain_x x)) xs
  children_declared name labels xs known i d low n at = known n (named_child xs i d n low at)

  -- ---- all can be made

  pub two_composable : (op : Op2) (place : Pos) (e f : X) → (op ≡ Compose → IsPlain items e ⊎ IsLinear items f) → AreComposable items e → AreComposable items f → AreComposable items (two op place e f)
  two_composable op place e f own first second x y c = elim (either_part x y op place e f c) [
    | inl is ↦ subst (λ z. IsPlain items z ⊎ IsLinear items y) (sym is.1) (subst (λ z. IsPlain items e ⊎ IsLinear items z) (sym is.2) (own is.0))
    | inr inside ↦ elim inside [ inl c ↦ first x y c | inr c ↦ second x y c ]
  ]

  children_composable : (name : Name) (labels : List Expr) (xs : List code.X) → All (λ x. AreComposable items (plain_x x)) xs → AreComposable items (literal name labels (plain_children xs))
  children_composable name labels [] all x y c = absurd c
  children_composable name labels (e ∷ xs) all x y (inl c) = All-head (λ z. AreComposable items (plain_x z)) e xs all x y c
  children_composable name labels (e ∷ xs) all x y (inr c) = children_composable name labels xs (All-tail (λ z. AreComposable items (plain_x z)) e xs all) x y c

  -- ---- one can't

  module _ (limit : ℕ) (stop : ComposeStop) where
    children_stop : (name : Name) (labels : List Expr) (xs : List code.X) → (x : code.X) × Contains xs x × StopsIn items limit (plain_x x) stop → StopsIn items limit (literal name labels (plain_children xs)) stop
    children_stop name labels xs (e, at, (x, y, c, stops)) = (x, y, lift_child x y xs at.0 e at.1 (subst (λ z. IsComposedIn x y (plain_x z)) (sym at.2) c), stops)

  -- of one more child
  pub one_more_child : (xs : List code.X) (i : ℕ) (x : code.X) → i < length xs → x ≡ get_or xs i x → All (λ z. AreComposable items (plain_x z)) (take i xs) → AreComposable items (plain_x x) → All (λ z. AreComposable items (plain_x z)) (take (i + 1) xs)
  one_more_child xs i x low is all own =
      subst (All (λ z. AreComposable items (plain_x z))) (sym (ap (λ n. take n xs) (add-one i) ∙ take-suc xs i x low ∙ ap (λ z. take i xs ++ z ∷ []) (sym is)))
      (All-append (λ z. AreComposable items (plain_x z)) (take i xs) (x ∷ []) all (All-cons (λ z. AreComposable items (plain_x z)) x [] own (All-nil (λ z. AreComposable items (plain_x z)))))

-- ---- a literal of the code, by its children

module _ (items : List Item) (e : code.X) (name : code_name.Name) (labels : Vec code_label.Expr Global) (children : Vec code.X Global) (is : e ≡ Literal name labels children) (xs : List code.X) (same : xs ≡ children.items) where
  literal_is : plain_x e ≡ literal (plain_name name) (map plain_expr labels.items) (plain_children xs)
  literal_is = ap plain_x is ∙ plain_literal name labels children ∙ ap (λ os. literal (plain_name name) (map plain_expr labels.items) (plain_children os)) (sym same)

  pub literal_weighs : weight (plain_x e) ≡ suc (weights (plain_children xs))
  literal_weighs = ap weight literal_is

  pub literal_declared : AreNamesDeclared items (plain_x e) → All (λ x. AreNamesDeclared items (plain_x x)) xs
  literal_declared known = children_declared items (plain_name name) (map plain_expr labels.items) xs (subst (AreNamesDeclared items) literal_is known)

  pub literal_composable : All (λ x. AreComposable items (plain_x x)) xs → AreComposable items (plain_x e)
  literal_composable all = subst (AreComposable items) (sym literal_is) (children_composable items (plain_name name) (map plain_expr labels.items) xs all)

  pub literal_stops : (limit : ℕ) (stop : ComposeStop) → (x : code.X) × Contains xs x × StopsIn items limit (plain_x x) stop → StopsIn items limit (plain_x e) stop
  literal_stops limit stop found = subst (λ z. StopsIn items limit z stop) (sym literal_is) (children_stop items limit stop (plain_name name) (map plain_expr labels.items) xs found)
