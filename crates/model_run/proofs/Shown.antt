-- The examples of causes, and the example of a report.
use Rattle.std.proofs.Common.{◌≡◌, ℕ, pos, inl, inr, true, false, List, [], ◌∷◌, ◌++◌, codes, refl, sym, arith, Contains}
use Rattle.std.specs.Fmt.{digits}
use Rattle.model_tree.specs.Label.{whole, row}
use Rattle.model_tree.specs.Tree.{LabelTree}
use Rattle.model_tree.specs.Tree as trees
use Rattle.model_program.specs.Syntax.{Name}
use Rattle.model_grammar.specs.Syntax.{X, named, empty, Item}
use Rattle.model_meaning.specs.Programs.{here, name, x, t, to, rule, make, assert_item}
use Rattle.model_meaning.specs.Related.{looking, demanding}
use Rattle.model_meaning.specs.Meaning.{meaning, IsRelated}
use Rattle.model_meaning.specs.Reached.{itself}
use Rattle.model_meaning.proofs.Related.{no_tree, two_rules}
use Rattle.model_meaning.proofs.Members.{one_of, none_of}
use Rattle.model_meaning.specs.Values.{Printed}
use Rattle.model_meaning.specs.Truth.{Shows}
use Rattle.model_run.specs.Items.{expressions_in, OfItem, OfClaim, IsComposable}
use Rattle.model_run.specs.Causes.{AreAllLarge}
use Rattle.model_run.specs.Owed.{IsUnowed}
use Rattle.model_run.proofs.Composed.{only_names}
use Rattle.model_run.proofs.Unowed.{treeless_unowed}
use Rattle.model_run.specs.Outcomes.{Outcome, silent, true_verdict, IsOutcomeOf, IsOutcome, trees_in, line_of}
use Rattle.model_run.specs.Scripts.{Script, Comes, begun, more}
use Rattle.model_run.specs.Report.{items_script}
use Rattle.model_tree.specs.Signature.{PlainField, PlainSignature}
use Rattle.model_form.specs.Form.{Form, form, no_remainders}
use Rattle.model_run.specs.Seen.{LabelList, listed, chained, fields_at, IsLabelList, list_of_rule, list_of_both, form_of_list}
use Rattle.model_run.specs.Printable.{IsPrintable}
use Rattle.model_run.proofs.Told.{more_lists, not_both}
use Rattle.model_run.specs.Examples.{HaveCauses, IsReported, multiplying, big_square, number_rule, product, sum, z}

-- ---- the report

abbrev script : Script
script = items_script demanding 1000 (codes "A")

-- an item that has no expressions and no line
silent_step : (item : Item) (left : List Item) (done : List Outcome) (written : List ℕ) → ((e : X) → Contains (expressions_in item.body) e → ⊥) → IsOutcomeOf demanding (trees_in done) item.place.line item.body silent
    → ((P : PlainSignature → X → Type 0) → ¬ (OfItem demanding P item.body)) → ¬ (OfClaim (λ claim. AreAllLarge (Shows demanding claim)) item.body)
    → Comes script (record { left = item ∷ left; done = done }) written → Comes script (record { left = left; done = silent ∷ done }) (written ++ [])
silent_step item left done written none is treeless claimless come =
    let composable = only_names demanding item.body (λ e at. absurd (none e at)) in
    let may : IsOutcome demanding (trees_in done) item silent = record { composable = composable; is = is } in
    let unowed = treeless_unowed demanding item.body composable (trees_in done) treeless claimless in
    more _ _ written [] come (record { item = item; left = refl; outcome = silent; done = refl; may = may; unowed = unowed; is = refl })

-- the last item
last_step : (item : Item) (done : List Outcome) (written : List ℕ) (o : Outcome) → IsOutcome demanding (trees_in done) item o → IsUnowed demanding (trees_in done) item.body
    → Comes script (record { left = item ∷ []; done = done }) written → Comes script (record { left = []; done = o ∷ done }) (written ++ line_of o)
last_step item done written o may unowed come =
    more _ _ written (line_of o) come (record { item = item; left = refl; outcome = o; done = refl; may = may; unowed = unowed; is = refl })

abbrev the_last : Item
the_last = assert_item 5 (empty (x (codes "w")))

first_four : Comes script (record { left = the_last ∷ []; done = silent ∷ silent ∷ silent ∷ silent ∷ [] }) []
first_four =
    silent_step _ _ _ _ (λ e at. none_of e at) refl (λ P of. of) (λ large. large) (
    silent_step _ _ _ _ (λ e at. none_of e at) refl (λ P of. of) (λ large. large) (
    silent_step _ _ _ _ (λ e at. none_of e at) refl (λ P of. of) (λ large. large) (
    silent_step _ _ _ _ (λ e at. none_of e at) refl (λ P of. of) (λ large. large) begun)))

-- its one expression is a name
last_names : (e : X) → Contains (expressions_in the_last.body) e → (n : Name) × (e ≡ named n)
last_names e at = elim (one_of (x (codes "w")) e [] at) [ inl same ↦ (name (codes "w"), sym same) | inr other ↦ absurd (none_of e other) ]

last_composable : IsComposable demanding the_last.body
last_composable = only_names demanding the_last.body last_names

last_unowed : (trees : List Printed) → IsUnowed demanding trees the_last.body
last_unowed trees = treeless_unowed demanding the_last.body last_composable trees (λ P of. of) (λ large. no_tree large.tree large.right.0 large.right.1)

pub is_reported : IsReported
unfolding digits
is_reported = (
  record { left = []; done = true_verdict 5 true ∷ silent ∷ silent ∷ silent ∷ silent ∷ [] },
  codes "assert 5 pass\n",
  [],
  last_step the_last (silent ∷ silent ∷ silent ∷ silent ∷ []) [] (true_verdict 5 true) (record { composable = last_composable; is = (refl, refl, no_tree) }) (last_unowed []) first_four,
  (refl, refl, refl),
  refl,
)

-- ---- the causes

-- no rule of p applies to `(b [])`
pub no_output_of_b : (u : LabelTree) → ¬ (IsRelated looking (x (codes "p")) (t 1 []) u)
no_output_of_b u (r, at, applies, made) =
    elim (two_rules looking (meaning looking) (codes "p") 1 (row []) trees.no_trees u r (to (rule (codes "a") [] []) (make (codes "a") [])) (to (rule (codes "a") [] []) (make (codes "b") [])) at (applies, made)) [
      | inl makes ↦ (let off : false ≡ true = makes.0.0 in absurd (cc))
      | inr makes ↦ (let off : false ≡ true = makes.0.0 in absurd (cc))
    ]

-- the one field of the type
abbrev x_field : List PlainField
x_field = fields_at multiplying (codes "N")

-- `2000000000 * x`, and with itself put in for the field
abbrev product_form_of_x : Form
product_form_of_x = form (pos 0) (record { field = 0; coefficient = pos 2000000000 } ∷ []) no_remainders

abbrev square_form : Form
square_form = form (pos 0) (record { field = 0; coefficient = pos 4000000000000000000 } ∷ []) no_remainders

-- the label list of the one rule
abbrev the_list : LabelList
the_list = listed x_field x_field (product ∷ [])

pub product_list : IsLabelList multiplying (x (codes "big")) (codes "N") (codes "N") the_list
product_list =
    list_of_rule (name (codes "big")) (codes "N") (codes "N") (product ∷ []) (record { transformation = name (codes "big"); reached = itself; goes = (refl, refl, refl); rule = number_rule product; there = (0, omega arith, refl); stand = inl refl })

-- of the composition with itself
square_list : IsLabelList multiplying big_square (codes "N") (codes "N") (chained the_list the_list)
square_list = list_of_both here (x (codes "big")) (x (codes "big")) (codes "N") (codes "N") (codes "N") the_list the_list refl product_list product_list

-- a leaf can be shown
leaf_printable : (c : ℕ) → IsPrintable (t c [])
leaf_printable c = record { kept = refl; scalars = refl; small = omega arith; shallow = omega arith }

pub have_causes : HaveCauses
have_causes = record {
  classes = more_lists;
  uncomposable = not_both;
  language = λ t tree. no_tree t tree.typed tree.inside;
  two_found = inl (
    t 0 [],
    (refl, refl, tt),
    (
      refl,
      refl,
      refl,
      (
        (to (rule (codes "a") [] []) (make (codes "a") []), (0, omega arith, refl), (refl, tt), (refl, refl, tt)),
        (to (rule (codes "a") [] []) (make (codes "b") []), (1, omega arith, refl), (refl, tt), (refl, refl, tt)),
        refl,
      ),
      leaf_printable 0,
      leaf_printable 0,
      leaf_printable 1,
    ),
  );
  none_found = inl (t 1 [], (refl, refl, tt), (refl, refl, no_output_of_b, leaf_printable 1));
  form_range = (
    big_square,
    (0, omega arith, refl),
    square_form,
    form_of_list big_square (codes "N") (codes "N") (chained the_list the_list) square_form square_list (square_form, (0, omega arith, refl), inl refl),
    inr (inl (inl refl), λ low. omega (arith, low)),
  );
  label_range = (
    z 9223372036854775808,
    (number_rule sum, (0, omega arith, refl), (refl, tt), (refl, refl, tt)),
    (refl, (0, row (whole (pos 9223372036854775808) ∷ []), trees.no_trees, inl refl, (0, omega arith, refl))),
  );
}
