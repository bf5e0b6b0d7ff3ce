-- An item that is ready brings to its evaluation what that requires.
use Rattle.std.proofs.Common.{◌≡◌, ℕ, true, false, ◌&&◌, List, [], ◌∷◌, ◌++◌, Option, Some, None, Contains, sym, ap, subst, ◌∙◌}
use Rattle.std.specs.Option.{option_and_then}
use Rattle.model_grammar.specs.Syntax.{X, Claim, equal, member, empty, type_check, DefItem, def, AssertItem, assertion, Item}
use Rattle.model_names.specs.Declared.{own_name}
use Rattle.model_names.specs.Kinds.{language}
use Rattle.model_checks.specs.Failures.{is_empty}
use Rattle.model_checks.specs.Expressions.{type_as, needs_be, x_failures}
use Rattle.model_checks.specs.Programs.{body_failures, claim_failures}
use Rattle.model_checks.specs.Sound.{IsSound}
use Rattle.model_checks.proofs.Soundness.{empty_first, empty_second}
use Rattle.model_checks.proofs.SoundWhole.{sound}
use Rattle.model_meaning.specs.Reached.{own_value, definition_of}
use Rattle.meaning_laws.proofs.Shaped.{item_shape}
use Rattle.meaning_laws.specs.Shapes.{has_automaton_shape, has_claim_shape, has_body_shape}
use Rattle.model_run.specs.Items.{claimed, expressions_in, AreAllComposable, IsComposable}
use Rattle.model_layers.proofs.Chosen.{first_of, second_of}
use Rattle.sta_theory.proofs.Lists.{first_in, later_in}
use Rattle.fast_build.proofs.Elements.{first_true, second_true}
use Rattle.fast_eval.specs.Forms.{IsMadeOn, AreKnown, IsClaimOn, IsClaimKnown}
use Rattle.fast_eval.specs.Defined.{IsMadeInto, AreKnownInto}
use Rattle.fast_eval.proofs.Outcomes.{each_composable}
use Rattle.fast_eval.proofs.Stepping.{def_made_into, def_known_into, empty_made, equal_made, check_made, known_of, known_at, trans_known_of}
use Rattle.fast_session.specs.declared.items.Around.{Around}
use Rattle.fast_session.specs.declared.items.Kept.{Kept}
use Rattle.fast_session.specs.Kept.{items_in, IsReady}
use Rattle.fast_session.specs.Items.{is_member}

module _ (a : Around) (item : Item) (k : Kept) (ready : IsReady a item k) (composable : IsComposable (items_in a) item.body) where
  pub whole : IsSound (items_in a)
  whole = sound (items_in a) a.checked.now.well_formed

  abbrev before : List Item
  before = ready.at.before

  -- the names in an expression of the item that has no failures
  known : (around : ℕ) (expected : Option (List ℕ)) (type : List ℕ) (x : X) → is_empty (x_failures (items_in a) before around expected x) ≡ true → IsMadeOn (items_in a) type x → AreKnown (items_in a) k.built x
  known around expected type x fine made = known_of (items_in a) whole k.built before (item ∷ ready.at.behind) ready.at.is ready.kept.defined around expected type x fine made

  -- what its expressions compose can be composed
  can : AreAllComposable (items_in a) (expressions_in item.body)
  can = each_composable (items_in a) item.body composable

  -- ---- definitions

  module _ (d : DefItem) (is : item.body ≡ def d) where
    pub def_form : has_automaton_shape d.value ≡ true
    def_form = subst (λ b. has_body_shape b ≡ true) is (item_shape (items_in a) whole item ready.at)

    pub def_is : definition_of (items_in a) d.name.text ≡ Some d.value
    def_is = ap (option_and_then (λ (i : Item). own_value i.body)) (whole.found_item item d.name ready.at (ap own_name is)) ∙ ap own_value is

    pub def_made : IsMadeInto (items_in a) d.into d.value
    def_made = def_made_into (items_in a) whole item ready.at d is def_form (can d.value (subst (λ b. Contains (expressions_in b) d.value) (sym is) (first_in d.value [])))

    pub def_known : AreKnownInto (items_in a) k.built d.into d.value
    def_known = def_known_into (items_in a) whole item ready.at d is k.built (λ m. Unit {0}) (λ other e at body wanted. ready.kept.defined other e at body) (λ m at. tt) def_made

  -- ---- statements

  module _ (s : AssertItem) (is : item.body ≡ assertion s) where
    pub claim_fine : is_empty (claim_failures (items_in a) before s.claim) ≡ true
    claim_fine = subst (λ b. is_empty (body_failures (items_in a) before b) ≡ true) is (whole.each item ready.at)

    pub claim_built : has_claim_shape s.claim ≡ true
    claim_built = subst (λ b. has_body_shape b ≡ true) is (item_shape (items_in a) whole item ready.at)

    pub claim_can : AreAllComposable (items_in a) (claimed s.claim)
    claim_can = subst (λ b. AreAllComposable (items_in a) (expressions_in b)) is can

  -- its expressions are of languages on one type, and their names are known
  pub record IsClaimReady (claim : Claim) : Type 0 where
    pub type : List ℕ
    pub on : IsClaimOn (items_in a) type claim
    pub known : IsClaimKnown (items_in a) k.built claim

  claim_ready : (claim : Claim) → is_member claim ≡ false → is_empty (claim_failures (items_in a) before claim) ≡ true → has_claim_shape claim ≡ true → AreAllComposable (items_in a) (claimed claim) → IsClaimReady claim
  claim_ready (equal x y) of fine built each =
      let form_x = first_true (has_automaton_shape x) (has_automaton_shape y) built in
      let form_y = second_true (has_automaton_shape x) (has_automaton_shape y) built in
      let wanted = type_as (items_in a) before language x in
      let fx = x_failures (items_in a) before 0 None x in
      let bx = needs_be (items_in a) before None language x in
      let fy = x_failures (items_in a) before 0 None y in
      let by = needs_be (items_in a) before wanted language y in
      let m = equal_made (items_in a) whole before x y fine form_x form_y (each x (first_of x (y ∷ []))) (each y (second_of x y)) in
      record {
        type = m.type;
        on = (m.first, m.second);
        known = (known 0 None m.type x (empty_first fx bx (empty_first (fx ++ bx) (fy ++ by) fine)) m.first, known 0 None m.type y (empty_first fy by (empty_second (fx ++ bx) (fy ++ by) fine)) m.second);
      }
  claim_ready (member x y) of fine built each = absurd (cc)
  claim_ready (empty x) of fine built each =
      let m = empty_made (items_in a) whole before x fine built (each x (first_of x [])) in
      record {
        type = m.0;
        on = m.1;
        known = known_at (items_in a) whole k.built before (item ∷ ready.at.behind) ready.at.is ready.kept.defined m.0 x (empty_first (x_failures (items_in a) before 0 None x) _ fine) m.1;
      }
  claim_ready (type_check x f y) of fine built each =
      let rest = second_true (has_automaton_shape x) (has_automaton_shape f && has_automaton_shape y) built in
      let m = check_made (items_in a) whole before x f y fine (first_true (has_automaton_shape x) (has_automaton_shape f && has_automaton_shape y) built) (first_true (has_automaton_shape f) (has_automaton_shape y) rest) (second_true (has_automaton_shape f) (has_automaton_shape y) rest)
      (each x (first_of x (f ∷ y ∷ []))) (each f (later_in x f (f ∷ y ∷ []) (first_of f (y ∷ [])))) (each y (later_in x y (f ∷ y ∷ []) (second_of f y))) in
      record {
        type = m.type;
        on = (m.into, m.first, m.goes, m.second);
        known = (
          known 0 None m.type x m.first_fine m.first,
          trans_known_of (items_in a) whole k.built before (item ∷ ready.at.behind) ready.at.is ready.kept.defined 0 None m.type m.into f m.fine m.goes,
          known 0 None m.into y m.second_fine m.second,
        );
      }

  pub assertion_ready : (s : AssertItem) → item.body ≡ assertion s → is_member s.claim ≡ false → IsClaimReady s.claim
  assertion_ready s is of = claim_ready s.claim of (claim_fine s is) (claim_built s is) (claim_can s is)
