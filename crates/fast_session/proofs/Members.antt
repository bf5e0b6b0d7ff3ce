-- Verdicts on statements that a tree is in a language.
use Rattle.std.proofs.Common.{◌≡◌, inl, ℕ, Bool, true, false, not, ◌&&◌, List, [], ◌∷◌, Some, refl, sym, ap, subst}
use Rattle.std.specs.Bool.{beq}
use Rattle.model_tree.specs.Signature.{HasType}
use Rattle.model_grammar.specs.Syntax.{X, Claim, equal, member, empty, type_check, AssertItem, assertion, Item}
use Rattle.model_meaning.specs.Meaning.{input_type}
use Rattle.meaning_laws.specs.Shapes.{has_automaton_shape, has_tree_shape, has_claim_shape}
use Rattle.model_run.specs.Items.{used_in, claimed, AreComposable, AreAllComposable, IsComposable}
use Rattle.model_run.specs.Outcomes.{Outcome, tree_verdict, claim_type, trees_in, IsShownWith, IsVerdict}
use Rattle.sta_theory.proofs.Lists.{first_in, in_left, in_right}
use Rattle.fast_build.proofs.Elements.{first_true, second_true}
use Rattle.fast_eval.specs.Found.{IsInLimits}
use Rattle.fast_eval.specs.Forms.{AreKnown, IsMadeOn, IsMadeAt}
use Rattle.tree_values.specs.declared.members.Membership.{Membership}
use Rattle.tree_values.specs.declared.stops.ValueStop.{ValueStop}
use Rattle.tree_values.specs.Forms.{IsTreeOn, IsTreeKnown}
use Rattle.tree_values.specs.Members.{IsMember, IsMemberStop}
use Rattle.tree_values.specs.Owed.{OwesNothing}
use Rattle.tree_values.specs.Stops.{IsStopTyped, IsCauseOf}
use Rattle.tree_values.specs.Trees.{meant, Tells}
use Rattle.tree_values.proofs.Outcomes.{member_cause, member_shown}
use Rattle.tree_values.proofs.Programs.{AreSides, member_made, member_known}
use Rattle.fast_session.specs.declared.items.Around.{Around}
use Rattle.fast_session.specs.declared.items.Kept.{Kept}
use Rattle.fast_session.specs.declared.verdicts.Verdict.{Verdict}
use Rattle.fast_session.specs.Answers.{stopped_value, verdict_on}
use Rattle.fast_session.specs.Kept.{items_in, IsReady}
use Rattle.fast_session.specs.Items.{HaveScalars, IsTyped, IsClaimUnowed, IsStoppedAt, is_member, spoken_of, verdict_outcome, IsVerdictOn}
use Rattle.tree_values.proofs.Stopped.{printable}
use Rattle.fast_session.proofs.Printing.{stopped_value_cause}
use Rattle.fast_session.proofs.Ready.{whole, claim_built, claim_can, IsClaimReady, assertion_ready}

module _ (a : Around) (item : Item) (old : Kept) (ready : IsReady a item old) (composable : IsComposable (items_in a) item.body) (s : AssertItem) (is : item.body ≡ assertion s) (x y : X) (same : s.claim ≡ member x y) where
  built_member : (has_tree_shape x && has_automaton_shape y) ≡ true
  built_member = subst (λ c. has_claim_shape c ≡ true) same (claim_built a item old ready composable s is)

  form_x : has_tree_shape x ≡ true
  form_x = first_true (has_tree_shape x) (has_automaton_shape y) built_member

  form_y : has_automaton_shape y ≡ true
  form_y = second_true (has_tree_shape x) (has_automaton_shape y) built_member

  -- what its expressions compose can be composed
  all_can : AreAllComposable (items_in a) (claimed (member x y))
  all_can = subst (λ c. AreAllComposable (items_in a) (claimed c)) same (claim_can a item old ready composable s is)

  can_x : AreAllComposable (items_in a) (used_in x)
  can_x e at = all_can e (in_left (used_in x) (y ∷ []) e at)

  can_y : AreComposable (items_in a) y
  can_y = all_can y (in_right (used_in x) (y ∷ []) y (first_in y []))

  sides : AreSides (items_in a) (whole a item old ready composable) x y
  sides = member_made (items_in a) (whole a item old ready composable) item ready.at s x y is same form_x form_y can_x can_y

  pub member_on : (type : List ℕ) × IsMadeOn (items_in a) type y × IsTreeOn (items_in a) type x
  member_on = (sides.type, sides.right, sides.left)

  pub member_names : IsTreeKnown (items_in a) old.trees old.built x × AreKnown (items_in a) old.built y
  member_names = member_known (items_in a) (whole a item old ready composable) item ready.at s x y is same form_x form_y can_x can_y old.built old.trees ready.kept.defined ready.kept.printed

  pub member_stops : (stop : ValueStop) → ((done : List Outcome) → Tells old.trees (trees_in done) → IsMemberStop (items_in a) (trees_in done) a.limit x y stop) → IsStopTyped (items_in a) stop → IsStoppedAt (items_in a) a.limit item old (stopped_value a.limit stop)
  member_stops stop cause typed = stopped_value_cause (items_in a) a.limit item old stop (λ done told. subst (λ b. IsCauseOf (items_in a) a.limit (trees_in done) b stop) (sym is) (member_cause (items_in a) a.limit (trees_in done) s x y same stop (cause done told))) typed

  pub member_verdict : (line : ℕ) (v : Verdict) (m : Membership) → (m.inside ≡ true → v.passes ≡ s.wanted) → (m.inside ≡ false → v.passes ≡ not s.wanted) → v.shown ≡ Some m.tree
      → ((done : List Outcome) → Tells old.trees (trees_in done) → IsMember (items_in a) (trees_in done) x y m)
      → ((done : List Outcome) → Tells old.trees (trees_in done) → OwesNothing (items_in a) (trees_in done) (input_type (items_in a) y) x) → HasType (input_type (items_in a) y) (meant m.tree) → IsInLimits (meant m.tree) → IsVerdictOn (items_in a) line s old v
  member_verdict line v m where_inside where_outside some told_of owes typed limits =
      let o : verdict_outcome (items_in a) line s v ≡ tree_verdict line v.passes (claim_type (items_in a) s.claim) (meant m.tree) = ap (verdict_on line v.passes (claim_type (items_in a) s.claim)) some in
      let type_is : claim_type (items_in a) s.claim ≡ input_type (items_in a) y = ap (claim_type (items_in a)) same in
      record {
        may = λ done told scalars. subst (IsVerdict (items_in a) (trees_in done) line s) (sym o) (
          refl,
          refl,
          subst (λ c. IsShownWith (items_in a) (trees_in done) c s.wanted v.passes (meant m.tree)) (sym same) (member_shown (items_in a) (trees_in done) x y m s.wanted v.passes (told_of done told) where_inside where_outside),
          printable (meant m.tree) limits (subst HaveScalars o scalars),
        );
        unowed = λ done told. subst (IsClaimUnowed (items_in a) (trees_in done)) (sym same) (record { inside = (owes done told).none; shown = λ large. large.right });
        typed = subst IsTyped (sym o) (subst (λ t. HasType t (meant m.tree)) (sym type_is) typed);
      }

-- the assertion passes where what is told is what is wanted
pub passes_inside : (inside wanted : Bool) → inside ≡ true → beq inside wanted ≡ wanted
passes_inside true true e = refl
passes_inside true false e = refl
passes_inside false wanted e = absurd (cc)

pub passes_outside : (inside wanted : Bool) → inside ≡ false → beq inside wanted ≡ not wanted
passes_outside false true e = refl
passes_outside false false e = refl
passes_outside true wanted e = absurd (cc)

-- ---- statements of both kinds

module _ (a : Around) (item : Item) (old : Kept) (ready : IsReady a item old) (composable : IsComposable (items_in a) item.body) (s : AssertItem) (is : item.body ≡ assertion s) where
  spoken_by : (claim : Claim) → s.claim ≡ claim → (is_member claim ≡ false → IsClaimReady a item old ready composable claim) → (type : List ℕ) × IsMadeAt (items_in a) type (spoken_of claim)
  spoken_by (equal x y) same ready_of = let r = ready_of refl in (r.type, inl r.on.0)
  spoken_by (member x y) same ready_of = let m = member_on a item old ready composable s is x y same in (m.0, inl m.1)
  spoken_by (empty x) same ready_of = let r = ready_of refl in (r.type, r.on)
  spoken_by (type_check x f y) same ready_of = let r = ready_of refl in (r.type, inl r.on.1)

  -- the expression with the type of whose trees the statement speaks
  pub spoken_made : (type : List ℕ) × IsMadeAt (items_in a) type (spoken_of s.claim)
  spoken_made = spoken_by s.claim refl (assertion_ready a item old ready composable s is)
