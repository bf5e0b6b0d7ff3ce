-- The values of names, of trees that are found, and of literals.
use Rattle.std.proofs.Common.{◌≡◌, ◌≤◌, ◌<◌, inl, inr, ℕ, suc, true, ◌&&◌, List, [], Option, Some, None, length, refl, sym, ap, ap₂, subst, ◌∙◌, arith}
use Rattle.std.specs.Prelude.{is_some}
use Rattle.fast_fault.specs.declared.place.Pos.{Pos}
use Rattle.model_tree.specs.Limits.{most_nodes, greatest_depth}
use Rattle.model_tree.specs.Label.{row}
use Rattle.model_tree.specs.Label as model
use Rattle.model_tree.specs.Tree.{node, Trees, no_trees, tree, list_of, trees_of, LabelTree}
use Rattle.model_tree.specs.Signature.{PlainSignature, HasType, sorts_of}
use Rattle.model_program.specs.Syntax.{Name}
use Rattle.model_grammar.specs.declared.Op1.{Op1}
use Rattle.model_grammar.specs.declared.Op1.TheVariants.{Complement, Minimize, Domain, GetWitness}
use Rattle.model_grammar.specs.Syntax.{Expr, X, named, one, literal, Xs, no_x, and_x, Item}
use Rattle.model_meaning.specs.Meaning.{signature_named}
use Rattle.model_meaning.specs.Outputs.{made_label}
use Rattle.model_meaning.specs.Values.{Printed, IsValue, AreValues}
use Rattle.model_checks.specs.Expressions.{count_xs}
use Rattle.model_checks.proofs.Soundness.{is_there}
use Rattle.fast_eval.specs.Forms.{IsMadeOn}
use Rattle.fast_eval.specs.Found.{IsInLimits}
use Rattle.fast_eval.proofs.Claims.{made_on}
use Rattle.tree_values.specs.declared.sizes.Measured.{Measured}
use Rattle.tree_values.specs.declared.sizes.Below.{Below}
use Rattle.tree_values.specs.declared.stops.ValueStop.TheVariants.{TooLarge}
use Rattle.tree_values.specs.declared.trees.Trees as table
use Rattle.tree_values.specs.Forms.{IsTreeOn, IsLabelled, IsNodeOf}
use Rattle.tree_values.specs.Stops.{IsValueStop}
use Rattle.tree_values.specs.Trees.{meant, tree_at, Tells, AreTypedTrees}
use Rattle.tree_values.specs.Values.{IsHeld, IsAbove, HasValue, HaveValues, HasLeast}
use Rattle.tree_values.proofs.Closed.{label_sorted}
use Rattle.tree_values.proofs.Owed.{name_owes, find_owes, literal_owes}

module _ (items : List Item) (type : List ℕ) where
  abbrev signature : PlainSignature
  signature = signature_named items (Some type)

  -- ---- names

  pub named_value : (trees : table.Trees) (typed : AreTypedTrees items trees) (n : Name) → IsTreeOn items type (named n) → is_some (tree_at trees n.text) ≡ true
      → (room : ℕ) (v : Option Measured) → ((t : LabelTree) → tree_at trees n.text ≡ Some t → IsHeld room t v) → (printed : List Printed) → Tells trees printed → HasValue items printed signature (named n) room v
  named_value trees typed n on known room v held printed told =
      let found = is_there (tree_at trees n.text) known in
      let own = typed n.text found.0 found.1 in
      record {
        tree = found.0;
        is = sym (told n.text) ∙ found.1;
        unowed = name_owes items printed signature n;
        typed = subst (λ s. HasType s found.0) on own.0;
        kept = own.1.kept;
        held = held found.0 found.1;
      }

  -- ---- trees that are found

  -- the only operation on one operand that gives a tree
  pub only_find : (op : Op1) (place : Pos) (x : X) → IsTreeOn items type (one op place x) → (op ≡ GetWitness) × IsMadeOn items type x
  only_find Complement place x on = absurd on
  only_find Minimize place x on = absurd on
  only_find Domain place x on = absurd on
  only_find GetWitness place x on = (refl, on)

  pub found_value : (place : Pos) (x : X) → IsMadeOn items type x → (room : ℕ) (v : Option Measured) → HasLeast items x room v → (printed : List Printed) → HasValue items printed signature (one GetWitness place x) room v
  found_value place x made room v least printed = record {
    tree = least.tree;
    is = least.is;
    unowed = find_owes items printed signature place x least.tree least.is least.limits;
    typed = subst (λ o. HasType (signature_named items o) least.tree) (made_on items type x made).1 least.is.is.typed;
    kept = least.limits.kept;
    held = least.held;
  }

  -- ---- literals

  count_is : (printed : List Printed) (xs : Xs) (ts : Trees model.Label) → AreValues items printed signature xs ts → length (list_of ts) ≡ count_xs xs
  count_is printed no_x no_trees are = refl
  count_is printed no_x (tree t ts) are = absurd are
  count_is printed (and_x x xs) no_trees are = absurd are
  count_is printed (and_x x xs) (tree t ts) are = ap suc (count_is printed xs ts are.1)

  pub labelled : (name : List ℕ) (labels : List Expr) (count : ℕ) → IsNodeOf signature name labels count → IsLabelled signature name labels
  labelled name labels count is = record { named = ap is_some is.found; closed = is.closed }

  module _ (printed : List Printed) (name : Name) (labels : List Expr) (xs : Xs) (room : ℕ) (is : IsNodeOf signature name.text labels (count_xs xs)) where
    -- the tree above values
    abbrev above : (b : Option Below) → HaveValues items printed signature xs room b → LabelTree
    above b have = node is.number (made_label [] [] labels (row [])) (trees_of have.trees)

    above_is : (b : Option Below) (have : HaveValues items printed signature xs room b) → IsValue items printed signature (literal name labels xs) (above b have)
    above_is b have = (is.found, refl, have.are)

    literal_value : (b : Option Below) (have : HaveValues items printed signature xs room b) (v : Option Measured) → IsHeld room (above b have) v → HasValue items printed signature (literal name labels xs) room v
    literal_value b have v held = record {
      tree = above b have;
      is = above_is b have;
      unowed = literal_owes items printed signature name labels xs have.unowed;
      typed = (is.low, count_is printed xs (trees_of have.trees) have.are ∙ is.rank, label_sorted (sorts_of signature) labels is.closed.sorted, have.typed);
      kept = ap₂ (λ p q. p && q) is.closed.kept have.kept;
      held = held;
    }

    -- there is no room for it
    pub no_literal : HaveValues items printed signature xs room None → HasValue items printed signature (literal name labels xs) room None
    no_literal have = literal_value None have None have.held

    -- it is made
    pub made_literal : (b : Below) (v : Measured) → HaveValues items printed signature xs room (Some b) → b.depth ≤ greatest_depth → IsAbove signature name.text labels b v → HasValue items printed signature (literal name labels xs) room (Some v)
    made_literal b v have shallow made = literal_value (Some b) have (Some v) (record {
      same = made.tree is.number is.found ∙ ap (λ ts. node is.number (made_label [] [] labels (row [])) (trees_of ts)) have.held.same;
      nodes = made.nodes ∙ have.held.nodes;
      levels = made.levels ∙ have.held.levels;
      fits = omega (arith, made.nodes, have.held.fits);
      shallow = omega (arith, made.levels, shallow);
    })

    -- it is too deep
    pub deep_literal : (most : ℕ) (b : Below) → HaveValues items printed signature xs room (Some b) → greatest_depth < b.depth → IsValueStop items printed most signature (literal name labels xs) TooLarge
    deep_literal most b have deep = inr (inl (above (Some b) have, above_is (Some b) have, inr (omega (arith, have.held.levels, deep))))

-- a value that is held is in limits
module _ (items : List Item) (printed : List Printed) (signature : PlainSignature) (x : X) (v : Measured) (has : HasValue items printed signature x most_nodes (Some v)) where
  pub value_is : IsValue items printed signature x (meant v.tree)
  value_is = subst (IsValue items printed signature x) (sym has.held.same) has.is

  pub value_typed : HasType signature (meant v.tree)
  value_typed = subst (HasType signature) (sym has.held.same) has.typed

  pub value_in_limits : IsInLimits (meant v.tree)
  value_in_limits = subst IsInLimits (sym has.held.same) (record {
    kept = has.kept;
    small = omega (arith, has.held.nodes, has.held.fits);
    shallow = omega (arith, has.held.levels, has.held.shallow);
  })
