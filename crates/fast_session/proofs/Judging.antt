-- Verdicts on statements, and why there is none.
use Rattle.std.proofs.Common.{◌≡◌, inl, inr, ℕ, Bool, true, false, not, List, ◌∷◌, Some, None, refl, sym, ap, subst, ◌∙◌, arith}
use Rattle.model_tree.specs.Tree.{Tree, LabelTree, relabel}
use Rattle.model_tree.specs.Signature.{HasType}
use Rattle.fast_tree.specs.Entries.{label_meaning}
use Rattle.fast_tree.specs.declared.label.Label.{Label}
use Rattle.model_grammar.specs.Syntax.{X, Claim, equal, member, empty, type_check, AssertItem, assertion, def, tree, DefItem, Item}
use Rattle.model_meaning.specs.Meaning.{input_type, signature_named}
use Rattle.model_names.specs.Kinds.{type_of}
use Rattle.model_meaning.specs.Values.{Printed}
use Rattle.model_meaning.specs.Truth.{IsTrue, Shows}
use Rattle.model_meaning.proofs.Laws.{shown_is_false}
use Rattle.model_run.specs.Causes.{AreAllLarge, HasCause, too_large}
use Rattle.model_run.specs.Items.{judged_claim, claim_has_classes, IsComposable}
use Rattle.model_run.specs.Outcomes.{Outcome, true_verdict, tree_verdict, claim_type, trees_in, IsShownWith, IsVerdict, IsOutcomeOf}
use Rattle.model_run.specs.Owed.{IsUnowed}
use Rattle.fast_eval.specs.declared.stops.EvalStop.{EvalStop}
use Rattle.fast_eval.specs.declared.stops.EvalStop.TheVariants.{Classes, Wide, Range, Memory}
use Rattle.fast_eval.specs.Found.{IsInLimits}
use Rattle.fast_eval.specs.Forms.{IsMadeAt}
use Rattle.fast_eval.proofs.Claims.{made_on, made_from}
use Rattle.fast_eval.specs.Stops.{IsStopOf, IsCauseFor}
use Rattle.fast_eval.specs.Stops.{StopsExpression}
use Rattle.fast_eval.proofs.Outcomes.{def_cause, claim_cause, large_cause}
use Rattle.tree_values.specs.Trees.{Tells}
use Rattle.tree_values.specs.declared.trees.Trees.{Trees}
use Rattle.tree_values.proofs.Stopped.{printable}
use Rattle.fast_session.specs.declared.answers.Cause.TheVariants.{TreeSize}
use Rattle.fast_session.specs.declared.answers.Stopped.TheVariants.{By}
use Rattle.fast_session.specs.declared.items.Around.{Around}
use Rattle.fast_session.specs.declared.items.Kept.{Kept}
use Rattle.fast_session.specs.declared.verdicts.Verdict.{Verdict}
use Rattle.fast_session.specs.Answers.{stopped_by, verdict_on}
use Rattle.fast_session.specs.Kept.{items_in}
use Rattle.fast_session.specs.Items.{HaveScalars, IsTyped, IsClaimUnowed, IsBuiltMore, IsDone, IsStoppedAt, is_member, spoken_of, verdict_outcome, IsVerdictOn}
use Rattle.fast_session.proofs.Keeping.{kept_built}
use Rattle.fast_session.proofs.Silent.{no_tree}
use Rattle.fast_session.proofs.Unowed.{item_unowed}

-- what stops the search for classes is a cause
pub stopped_cause : (items : List Item) (limit : ℕ) (item : Item) (old : Kept) (s : EvalStop)
    → ((done : List Outcome) → Tells old.trees (trees_in done) → IsCauseFor items limit (trees_in done) item.body s) → IsStoppedAt items limit item old (stopped_by limit s)
stopped_cause items limit item old Classes cause = (λ done told shown. cause done told, tt)
stopped_cause items limit item old (Wide c) cause = (λ done told shown. cause done told, tt)
stopped_cause items limit item old (Range n) cause = (λ done told shown. cause done told, tt)
stopped_cause items limit item old Memory cause = tt

-- a definition whose language isn't built has the cause
pub def_stops : (items : List Item) (limit : ℕ) (item : Item) (old : Kept) (d : DefItem) → item.body ≡ def d → (stop : EvalStop) → StopsExpression items d.value limit stop → IsStoppedAt items limit item old (stopped_by limit stop)
def_stops items limit item old d is stop cause = stopped_cause items limit item old stop (λ done told. subst (λ b. IsCauseFor items limit (trees_in done) b stop) (sym is) (def_cause items limit (trees_in done) d stop cause))

-- the type of whose trees a statement speaks is that of its expression
claim_type_is : (items : List Item) (claim : Claim) → claim_type items claim ≡ input_type items (spoken_of claim)
claim_type_is items (equal x y) = refl
claim_type_is items (member x y) = refl
claim_type_is items (empty x) = refl
claim_type_is items (type_check x f y) = refl

-- the type of a language, or of the inputs of a transformation
type_made : (items : List Item) (type : List ℕ) (x : X) → IsMadeAt items type x → type_of items x ≡ Some type
type_made items type x (inl made) = (made_on items type x made).1
type_made items type x (inr (into, made)) = (made_from items type into x made).1

-- the verdict with the type of this name
pub named_verdict : (items : List Item) (s : AssertItem) (type of : List ℕ) → IsMadeAt items type (spoken_of s.claim) → Some of ≡ Some type → (n : ℕ) (v : Verdict) → verdict_on n v.passes (signature_named items (Some of)) v.shown ≡ verdict_outcome items n s v
named_verdict items s type of made is n v =
    ap (λ t. verdict_on n v.passes t v.shown) (ap (signature_named items) (is ∙ sym (type_made items type (spoken_of s.claim) made)) ∙ sym (claim_type_is items s.claim))

module _ (items : List Item) (limit : ℕ) where
  -- ---- statements of languages

  -- a tree that shows that such a statement is false has the type of which that speaks, and goes with the verdict
  shows_with : (trees : List Printed) (claim : Claim) (wanted : Bool) (t : LabelTree) → Shows items claim t → IsShownWith items trees claim wanted (not wanted) t
  shows_with trees (equal x y) wanted t shows = (refl, shows)
  shows_with trees (member x y) wanted t shows = absurd shows
  shows_with trees (empty x) wanted t shows = (refl, shows)
  shows_with trees (type_check x f y) wanted t shows = (refl, shows)

  shows_typed : (claim : Claim) (t : LabelTree) → Shows items claim t → HasType (claim_type items claim) t
  shows_typed (equal x y) t shows = shows.0
  shows_typed (member x y) t shows = absurd shows
  shows_typed (empty x) t shows = shows.0
  shows_typed (type_check x f y) t shows = shows.0

  -- no tree expression stands in it
  claim_unowed : (trees : List Printed) (claim : Claim) → is_member claim ≡ false → ¬ (AreAllLarge (Shows items claim)) → IsClaimUnowed items trees claim
  claim_unowed trees (equal x y) of small = record { inside = λ code owed. owed; shown = small }
  claim_unowed trees (member x y) of small = absurd (cc)
  claim_unowed trees (empty x) of small = record { inside = λ code owed. owed; shown = small }
  claim_unowed trees (type_check x f y) of small = record { inside = λ code owed. owed; shown = small }

  pub true_of : (line : ℕ) (s : AssertItem) (old : Kept) (v : Verdict) → is_member s.claim ≡ false → v.passes ≡ s.wanted → v.shown ≡ None → IsTrue items s.claim → IsVerdictOn items line s old v
  true_of line s old v of passes none is =
      let o : verdict_outcome items line s v ≡ true_verdict line v.passes = ap (verdict_on line v.passes (claim_type items s.claim)) none in
      record {
        may = λ done told scalars. subst (IsVerdict items (trees_in done) line s) (sym o) (refl, passes, is);
        unowed = λ done told. claim_unowed (trees_in done) s.claim of (λ large. shown_is_false items s.claim large.tree large.right is);
        typed = subst IsTyped (sym o) tt;
      }

  pub shown_of : (line : ℕ) (s : AssertItem) (old : Kept) (v : Verdict) (t : Tree Label) → is_member s.claim ≡ false → v.passes ≡ not s.wanted → v.shown ≡ Some t → Shows items s.claim (relabel label_meaning t) → IsInLimits (relabel label_meaning t) → IsVerdictOn items line s old v
  shown_of line s old v t of passes some shows limits =
      let o : verdict_outcome items line s v ≡ tree_verdict line v.passes (claim_type items s.claim) (relabel label_meaning t) = ap (verdict_on line v.passes (claim_type items s.claim)) some in
      record {
        may = λ done told scalars. subst (IsVerdict items (trees_in done) line s) (sym o) (
          refl,
          refl,
          subst (λ p. IsShownWith items (trees_in done) s.claim s.wanted p (relabel label_meaning t)) (sym passes) (shows_with (trees_in done) s.claim s.wanted (relabel label_meaning t) shows),
          printable (relabel label_meaning t) limits (subst HaveScalars o scalars),
        );
        unowed = λ done told. claim_unowed (trees_in done) s.claim of (λ large. let more = large.large (relabel label_meaning t) shows in omega (arith, more, limits.small));
        typed = subst IsTyped (sym o) (shows_typed s.claim (relabel label_meaning t) shows);
      }

  has_if : (claim : Claim) → is_member claim ≡ false → claim_has_classes claim ≡ true
  has_if (equal x y) of = refl
  has_if (member x y) of = absurd (cc)
  has_if (empty x) of = refl
  has_if (type_check x f y) of = refl

  module _ (item : Item) (old : Kept) (s : AssertItem) (is : item.body ≡ assertion s) where
    pub judged_stops : is_member s.claim ≡ false → (stop : EvalStop) → IsStopOf items (judged_claim items s.claim) limit stop → IsStoppedAt items limit item old (stopped_by limit stop)
    judged_stops of stop cause = stopped_cause items limit item old stop (λ done told. subst (λ b. IsCauseFor items limit (trees_in done) b stop) (sym is) (claim_cause items limit (trees_in done) s stop (has_if s.claim of) cause))

    pub judged_large : AreAllLarge (Shows items s.claim) → IsStoppedAt items limit item old (By TreeSize)
    judged_large large = (λ done told shown. subst (λ b. HasCause items limit (trees_in done) b too_large) (sym is) (large_cause items limit (trees_in done) s large), tt)

-- ---- assertions that have their verdict

module _ (a : Around) (item : Item) (old new : Kept) (s : AssertItem) (is : item.body ≡ assertion s) where
  pub done_verdict : (o : Outcome) (v : Verdict) → o ≡ verdict_outcome (items_in a) item.place.line s v → IsComposable (items_in a) item.body → IsBuiltMore (items_in a) old new → IsVerdictOn (items_in a) item.place.line s old v → IsDone (items_in a) item old new o
  done_verdict o v same composable more verdict =
      let untold : (done : List Outcome) → trees_in (o ∷ done) ≡ trees_in done = λ done. ap (λ p. trees_in (p ∷ done)) same ∙ no_tree done item.place.line v.passes (claim_type (items_in a) s.claim) v.shown in
      record {
        may = λ done told scalars. record {
          composable = composable;
          is = subst (λ b. IsOutcomeOf (items_in a) (trees_in done) item.place.line b o) (sym is) (subst (IsVerdict (items_in a) (trees_in done) item.place.line s) (sym same) (verdict.may done told (subst HaveScalars same scalars)));
        };
        unowed = λ done told.
            (let none = verdict.unowed done told in
            subst (IsUnowed (items_in a) (trees_in done)) (sym is) (item_unowed (items_in a) (trees_in done) (assertion s) (subst (IsComposable (items_in a)) is composable) none.inside none.shown));
        typed = subst IsTyped (sym same) verdict.typed;
        told = λ done told. subst (Tells new.trees) (sym (untold done)) (subst (λ (ts : Trees). Tells ts (trees_in done)) (sym more.trees) told);
        kept = λ before was. kept_built before item (items_in a) old new more was
            (λ d other. let no : assertion s ≡ def d = sym is ∙ other in absurd (cc))
            (λ t other. let no : assertion s ≡ tree t = sym is ∙ other in cc);
      }
