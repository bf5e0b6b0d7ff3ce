-- Literals within one another, from which the value of the outermost comes.
use Rattle.std.proofs.Common.{Bor, ◌≡◌, ◌≤◌, inl, inr, ℕ, suc, true, List, [], ◌∷◌, ◌++◌, length, reverse, Option, Some, None, refl, sym, ap, subst, ◌∙◌, arith}
use Rattle.std.proofs.lemmas.List.{reverse-append, nil_from_length}
use Rattle.std.specs.Prelude.{IfSome, is_some, map}
use Rattle.model_tree.specs.Limits.{most_nodes, greatest_depth}
use Rattle.model_program.specs.Syntax.{Name}
use Rattle.model_grammar.specs.Syntax.{Expr, X, literal, Xs, no_x, and_x}
use Rattle.model_names.specs.Declared.{find_type}
use Rattle.model_checks.specs.Expressions.{count_xs}
use Rattle.model_meaning.specs.Values.{Printed}
use Rattle.fast_syntax.specs.declared.items.X as code
use Rattle.fast_syntax.specs.Plain.{plain_expr, plain_x}
use Rattle.fast_syntax.specs.Slices.{plain_children}
use Rattle.fast_syntax.specs.View.{plain_name}
use Rattle.fast_eval.specs.declared.built.Built.{Built}
use Rattle.tree_values.specs.declared.nodes.Begun.{Begun}
use Rattle.tree_values.specs.declared.nodes.Begun.TheVariants.{Whole, Part}
use Rattle.tree_values.specs.declared.nodes.OpenNode.{OpenNode}
use Rattle.tree_values.specs.declared.sizes.Below.{Below}
use Rattle.tree_values.specs.declared.sizes.Measured.{Measured}
use Rattle.tree_values.specs.declared.stops.ValueStop.{ValueStop}
use Rattle.tree_values.specs.declared.stops.ValueStop.TheVariants.{Stopped, NoTree, TooLarge, LabelRange, Outputs, NoOutput, SeveralOutputs}
use Rattle.tree_values.specs.declared.values.Given.{Given}
use Rattle.tree_values.specs.Forms.{IsTreeOn, AreTreesOn, IsTreeKnown, AreTreesKnown, IsLabelled}
use Rattle.tree_values.specs.Nodes.{literal_of, HasOneMore, IsNode, IsClosed, IsUnclosed, IsEndOf, SoFar, IsBegun, AreAround, IsReached}
use Rattle.tree_values.specs.Stops.{IsValueStop, IsStopIn}
use Rattle.tree_values.specs.Trees.{Tells}
use Rattle.tree_values.specs.Values.{items_in, type_in, IsGiven, AreHeld, left_of, HasValue, HaveValues}
use Rattle.tree_values.proofs.Evaluated.{labelled, no_literal, made_literal, deep_literal}
use Rattle.tree_values.proofs.Folding.{so_far_none, so_far_more, so_far_all, below_bounds, below_room, left_low, value_bounds}
use Rattle.tree_values.proofs.Stopped.{stop_first, stop_later, stop_literal, stop_memory}
use Rattle.tree_values.proofs.Weights.{weight, weights}

-- ---- ends of lists of expressions

end_itself : (xs : Xs) → IsEndOf xs xs
end_itself no_x = refl
end_itself (and_x x xs) = inl refl

end_shorter : (x : X) (rest all : Xs) → IsEndOf (and_x x rest) all → IsEndOf rest all
end_shorter x rest no_x end = absurd (cc)
end_shorter x rest (and_x y ys) (inl same) = let is : rest ≡ ys = cc in inr (subst (λ zs. IsEndOf zs ys) (sym is) (end_itself ys))
end_shorter x rest (and_x y ys) (inr end) = inr (end_shorter x rest ys end)

-- what holds of a list, and of what is behind the first wherever it holds, holds of each end
at_end : (P : Xs → Type 0) → ((x : X) (xs : Xs) → P (and_x x xs) → P xs) → (rest all : Xs) → IsEndOf rest all → P all → P rest
at_end P later rest no_x end holds = subst P (sym end) holds
at_end P later rest (and_x x xs) (inl same) holds = subst P (sym same) holds
at_end P later rest (and_x x xs) (inr end) holds = at_end P later rest xs end (later x xs holds)

-- ---- lists

pub turned : (old new : List OpenNode) (n : OpenNode) → new ≡ old ++ n ∷ [] → reverse new ≡ n ∷ reverse old
turned old new n is = ap reverse is ∙ reverse-append old (n ∷ [])

-- a literal whose next child is evaluated, behind which these stand
abbrev pub after_next : OpenNode → Bor (List code.X) → OpenNode
after_next n later = record n { rest = later }

module _ (g : Given) (of : List ℕ) (x : X) (room : ℕ) where
  -- ---- what holds of the whole and goes from literals to children holds of the child that is waited for

  inside : (P : X → Type 0) → ((name : Name) (labels : List Expr) (y : X) (rest all : Xs) → IsEndOf (and_x y rest) all → P (literal name labels all) → P y) → (ns : List OpenNode) (y : X) (left : ℕ) → AreAround g of x room ns y left → P x → P y
  inside P down [] y left around holds = subst P (sym around.0) holds
  inside P down (n ∷ ns) y left around holds = down _ _ y (plain_children n.rest.now) around.0 around.2.end (inside P down ns (literal_of n around.0) n.room around.3 holds)

  pub inside_on : (ns : List OpenNode) (y : X) (left : ℕ) → AreAround g of x room ns y left → IsTreeOn (items_in g) of x → IsTreeOn (items_in g) of y
  inside_on = inside (IsTreeOn (items_in g) of) (λ name labels y rest all end on. (at_end (AreTreesOn (items_in g) of) (λ z zs both. both.1) (and_x y rest) all end on.2).0)

  pub inside_known : (b : Built) (ns : List OpenNode) (y : X) (left : ℕ) → AreAround g of x room ns y left → IsTreeKnown (items_in g) g.trees.now b x → IsTreeKnown (items_in g) g.trees.now b y
  inside_known b = inside (IsTreeKnown (items_in g) g.trees.now b) (λ name labels y rest all end known. (at_end (AreTreesKnown (items_in g) g.trees.now b) (λ z zs both. both.1) (and_x y rest) all end known).0)

  pub inside_lighter : (ns : List OpenNode) (y : X) (left : ℕ) → AreAround g of x room ns y left → weight y ≤ weight x
  inside_lighter ns y left around = inside (λ z. weight z ≤ weight x) step ns y left around (omega arith)
    where
      step : (name : Name) (labels : List Expr) (y : X) (rest all : Xs) → IsEndOf (and_x y rest) all → weight (literal name labels all) ≤ weight x → weight y ≤ weight x
      step name labels y rest all end low = let light = at_end (λ zs. weights zs ≤ weights all) (λ z zs less. omega (arith, less)) (and_x y rest) all end (omega arith) in omega (arith, light, low)

  pub inside_room : (most : ℕ) → room ≤ most → (ns : List OpenNode) (y : X) (left : ℕ) → AreAround g of x room ns y left → left ≤ most
  inside_room most low [] y left around = omega (arith, around.1)
  inside_room most low (n ∷ ns) y left around = let own = left_low n.room most (inside_room most low ns (literal_of n around.0) n.room around.3) n.below in omega (arith, around.1, own)

  -- what stops its evaluation stops that of the whole
  pub stop_outside : (printed : List Printed) (s : ValueStop) (ns : List OpenNode) (y : X) (left : ℕ) → AreAround g of x room ns y left → IsValueStop (items_in g) printed g.limit (type_in g of) y s → IsValueStop (items_in g) printed g.limit (type_in g of) x s
  stop_outside printed s ns y left around = inside (λ z. IsValueStop (items_in g) printed g.limit (type_in g of) z s → IsValueStop (items_in g) printed g.limit (type_in g of) x s) step ns y left around (λ h. h)
    where
      step : (name : Name) (labels : List Expr) (y : X) (rest all : Xs) → IsEndOf (and_x y rest) all
          → (IsValueStop (items_in g) printed g.limit (type_in g of) (literal name labels all) s → IsValueStop (items_in g) printed g.limit (type_in g of) x s)
          → IsValueStop (items_in g) printed g.limit (type_in g of) y s → IsValueStop (items_in g) printed g.limit (type_in g of) x s
      step name labels y rest all end up stop =
          let items = items_in g in
          let signature = type_in g of in
          let higher = at_end (λ zs. IsStopIn items printed g.limit signature zs s → IsStopIn items printed g.limit signature all s) (λ z zs to h. to (stop_later items printed g.limit signature z zs s h)) (and_x y rest) all end (λ h. h) in
          up (stop_literal items printed g.limit signature name labels all s (higher (stop_first items printed g.limit signature y rest s stop)))

  -- ---- what is reached, step by step

  pub around_none : AreAround g of x room [] x room
  around_none = (refl, refl)

  -- the child that is waited for is begun
  pub reached_begun : (ns : List OpenNode) (y : X) (left : ℕ) → AreAround g of x room ns y left → (b : Begun) → IsBegun g of y left b → IsReached g of x room ns b
  reached_begun ns y left around (Whole v) begun = (y, left, around, begun)
  reached_begun ns y left around (Part n) begun =
      let all = plain_children n.rest.now in
      let held = subst (λ r. AreHeld r [] n.below) (sym begun.room) begun.held in (
        all,
        record { end = end_itself all; values = λ printed told. so_far_none (items_in g) printed (type_in g of) all n.room n.below held },
        subst (λ z. AreAround g of x room ns z n.room) (sym begun.is) (subst (AreAround g of x room ns y) (sym begun.room) around),
      )

  -- the room for the next child
  pub next_room : (ns : List OpenNode) (n : OpenNode) (here : Begun) → IsReached g of x room ns here → here ≡ Part n → IsGiven g → IfSome n.below (λ b. b.nodes ≤ n.room)
  next_room ns n here so_far part given =
      let reached = subst (IsReached g of x room ns) part so_far in
      let values = reached.1.values given.printed given.told in
      below_room n.room values.trees n.below values.held

  -- a literal waits for its next child
  pub around_next : (ns : List OpenNode) (n : OpenNode) (y : code.X) (later : Bor (List code.X)) (here : Begun) → IsReached g of x room ns here → here ≡ Part n → n.rest.now ≡ y ∷ later.now → AreAround g of x room (after_next n later ∷ ns) (plain_x y) (left_of n.room n.below)
  around_next ns n y later here so_far part is =
      let reached = subst (IsReached g of x room ns) part so_far in
      let next = ap plain_children is in (
        reached.0,
        refl,
        record {
          end = subst (λ zs. IsEndOf zs reached.0) next reached.1.end;
          values = λ printed told. subst (λ zs. SoFar (items_in g) printed (type_in g of) zs reached.0 n.room n.below) next (reached.1.values printed told);
        },
        reached.2,
      )

  -- ---- a literal whose children all have values

  module _ (ns : List OpenNode) (n : OpenNode) (here : Begun) (so_far : IsReached g of x room ns here) (part : here ≡ Part n) (none : length n.rest.now ≡ 0) (on : IsTreeOn (items_in g) of x) where
    abbrev reached : IsReached g of x room ns (Part n)
    reached = subst (IsReached g of x room ns) part so_far

    literal_on : IsTreeOn (items_in g) of (literal_of n reached.0)
    literal_on = inside_on ns (literal_of n reached.0) n.room reached.2 on

    have_all : (printed : List Printed) → Tells g.trees.now printed → HaveValues (items_in g) printed (type_in g of) reached.0 n.room n.below
    have_all printed told = so_far_all (items_in g) printed (type_in g of) reached.0 n.room n.below (subst (λ xs. SoFar (items_in g) printed (type_in g of) (plain_children xs) reached.0 n.room n.below) (nil_from_length n.rest.now none) (reached.1.values printed told))

    pub closed_declared : is_some (find_type (items_in g) of) ≡ true
    closed_declared = literal_on.0

    pub closed_labelled : IsLabelled (type_in g of) n.name.now.text (map plain_expr n.labels.now)
    closed_labelled = labelled (items_in g) of n.name.now.text (map plain_expr n.labels.now) (count_xs reached.0) literal_on.1

    closed_value : (printed : List Printed) (b : Option Below) → HaveValues (items_in g) printed (type_in g of) reached.0 n.room b → (v : Option Measured) → IsNode (type_in g of) n b v → HasValue (items_in g) printed (type_in g of) (literal_of n reached.0) n.room v
    closed_value printed None have v is = subst (HasValue (items_in g) printed (type_in g of) (literal_of n reached.0) n.room) (sym is) (no_literal (items_in g) of printed (plain_name n.name.now) (map plain_expr n.labels.now) reached.0 n.room literal_on.1 have)
    closed_value printed (Some b) have None is = absurd is
    closed_value printed (Some b) have (Some v) is = made_literal (items_in g) of printed (plain_name n.name.now) (map plain_expr n.labels.now) reached.0 n.room literal_on.1 b v have is.0 is.1

    pub reached_closed : (v : Option Measured) → IsClosed (type_in g of) n v → IsReached g of x room ns (Whole v)
    reached_closed v is = (literal_of n reached.0, n.room, reached.2, λ printed told. closed_value printed n.below (have_all printed told) v is)

    -- or are too deep
    unclosed : (printed : List Printed) → Tells g.trees.now printed → (s : ValueStop) → IsUnclosed n.below s → IsValueStop (items_in g) printed g.limit (type_in g of) (literal_of n reached.0) s
    unclosed printed told (Stopped s) is = subst (λ e. IsValueStop (items_in g) printed g.limit (type_in g of) (literal_of n reached.0) (Stopped e)) (sym is) (stop_memory (items_in g) printed g.limit (type_in g of) (literal_of n reached.0))
    unclosed printed told NoTree is = absurd is
    unclosed printed told TooLarge is = deep_literal (items_in g) of printed (plain_name n.name.now) (map plain_expr n.labels.now) reached.0 n.room literal_on.1 g.limit is.0 (subst (HaveValues (items_in g) printed (type_in g of) reached.0 n.room) is.1 (have_all printed told)) is.2
    unclosed printed told (LabelRange n) is = absurd is
    unclosed printed told (Outputs load) is = absurd is
    unclosed printed told (NoOutput t) is = absurd is
    unclosed printed told (SeveralOutputs w) is = absurd is

    pub stop_unclosed : (s : ValueStop) → IsUnclosed n.below s → (printed : List Printed) → Tells g.trees.now printed → IsValueStop (items_in g) printed g.limit (type_in g of) x s
    stop_unclosed s is printed told = stop_outside printed s ns (literal_of n reached.0) n.room reached.2 (unclosed printed told s is)

  -- ---- a value that goes into the literal that waits for it

  pub popped : (old new : List OpenNode) (n : OpenNode) (v : Option Measured) (here : Begun) → IsReached g of x room (reverse old) here → here ≡ Whole v → old ≡ new ++ n ∷ [] → IsReached g of x room (n ∷ reverse new) (Whole v)
  popped old new n v here so_far whole is = subst (λ ls. IsReached g of x room ls (Whole v)) (turned new old n is) (subst (IsReached g of x room (reverse old)) whole so_far)

  module _ (ns : List OpenNode) (n : OpenNode) (v : Option Measured) (reached : IsReached g of x room (n ∷ ns) (Whole v)) where
    pub reached_joined : (m : OpenNode) → HasOneMore n v m → IsReached g of x room ns (Part m)
    reached_joined m more =
        let (all, left, opened, around) = reached.2 in
        let part : IsReached g of x room ns (Part (record n { below = m.below })) = (
          all,
          record {
            end = end_shorter reached.0 (plain_children n.rest.now) all opened.end;
            values = λ printed told. so_far_more (items_in g) printed (type_in g of) reached.0 (plain_children n.rest.now) all n.room n.below v m.below (opened.values printed told) (subst (λ r. HasValue (items_in g) printed (type_in g of) reached.0 r v) left (reached.3 printed told)) more.joined;
          },
          around,
        ) in
        subst (λ k. IsReached g of x room ns (Part k)) (sym more.same) part

    module _ (given : IsGiven g) (small : room ≤ most_nodes) where
      room_small : n.room ≤ most_nodes
      room_small = inside_room most_nodes small ns (literal_of n reached.2.0) n.room reached.2.3

      pub joined_below : IfSome n.below (λ b. (b.nodes ≤ most_nodes) × (b.depth ≤ suc greatest_depth))
      joined_below = let so_far = reached.2.2.values given.printed given.told in below_bounds n.room room_small so_far.trees n.below so_far.held

      pub joined_value : IfSome v (λ m. (m.nodes ≤ most_nodes) × (m.depth ≤ greatest_depth))
      joined_value = let has = reached.3 given.printed given.told in value_bounds reached.1 (inside_room most_nodes small (n ∷ ns) reached.0 reached.1 reached.2) has.tree v has.held
