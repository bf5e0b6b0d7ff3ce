-- What the trees of the joints' state say of rules that meet.
use Rattle.std.proofs.Common.{ℕ, ◌≡◌, ◌≤◌, ◌<◌, inl, inr, Bool, true, List, [], ◌∷◌, map, All, length, get_or, Contains, sym, ap, subst, ◌∙◌, arith}
use Rattle.std.proofs.lemmas.Bool.{and_parts, and_from}
use Rattle.std.specs.Prelude.{⊤}
use Rattle.std.specs.List.{list_any}
use Rattle.model_tree.specs.Limits.{most_nodes}
use Rattle.model_tree.specs.Label.{Label}
use Rattle.model_tree.specs.Tree.{Tree, node, Trees, no_trees, tree, LabelTree, relabel, relabel_all, node_count, depth, EveryLabel, EveryLabelOfAll}
use Rattle.model_tree.specs.Formula.{EveryAtom}
use Rattle.model_sta.specs.Automaton.{is_accepted}
use Rattle.model_sta.specs.Sets.{Fits, FitsAll}
use Rattle.label_core.specs.Meaning.{Meaning, KeepsValue}
use Rattle.sta_core.specs.Fits.{RuleFits}
use Rattle.sta_core.specs.Machine.{Machine, plain_rule}
use Rattle.sta_core.specs.Sta.{automaton_of, AtomsFit}
use Rattle.sttr_core.specs.Fits.{LabelsFit}
use Rattle.sttr_core.specs.Machine.{OutMachine}
use Rattle.sta_ops.specs.Asked.{IsAskedTree}
use Rattle.sta_ops.specs.Empty.{IsEmptyAnswer}
use Rattle.sta_ops.specs.declared.emptiness.Found.TheVariants.{Absent, Shown, TooBig}
use Rattle.sta_ops.proofs.Atoms.{Guarded, from_fit, to_fit}
use Rattle.sta_ops.proofs.EachRule.{in_all, only}
use Rattle.sta_ops.proofs.Fitting.{plain_fits}
use Rattle.sta_theory.proofs.Lists.{any_member, any_true, append_member, map_member}
use Rattle.sttr_single.specs.declared.joints.Joint.{Joint}
use Rattle.sttr_single.specs.declared.meetings.Meeting.{Meeting}
use Rattle.sttr_single.specs.declared.meetings.OverlapFound.TheVariants as found
use Rattle.sttr_single.specs.Overlap.{applies, Meet, MeetSome, IsOverlap}
use Rattle.sttr_single.specs.Joints.{rules_in, DemandsOwn, with_one, with_each, joint_applies, AreJoints}
use Rattle.sttr_single.specs.Shown.{IsShownBy}
use Rattle.sttr_single.proofs.Applying.{joint_applies_as}
use Rattle.sttr_single.proofs.Joining.{rule_atoms}
use Rattle.sttr_single.proofs.More.{accepts_one}

-- the labels of a tree that fits are kept
module _ {A V W : Type 0} {label_of : V → Label} {holds : A → Label → Bool} (N : Meaning label_of holds W) (ranks : List ℕ) where
  mutual
    pub labels_kept : (t : Tree V) → Fits ranks N.keeps (relabel label_of t) → EveryLabel (KeepsValue N) t
    labels_kept (node c l ts) h = (h.1, all_kept ts h.3)

    all_kept : (ts : Trees V) → FitsAll ranks N.keeps (relabel_all label_of ts) → EveryLabelOfAll (KeepsValue N) ts
    all_kept no_trees h = tt
    all_kept (tree t ts) h = (labels_kept t h.0, all_kept ts h.1)

module _ {A M : Type 0} (holds : A → Label → Bool) (map_eq : M → M → Bool) (D : Label → Type 0) (f : OutMachine A M) (xs : List (Joint A)) (are : AreJoints holds map_eq D f (λ q i j. ⊤) xs) where
  -- the rules of joints fit
  pub joints_fit : All (λ x. RuleFits f.looks.ranks (length f.looks.rules) x.rule) xs
  joints_fit = in_all (λ x. RuleFits f.looks.ranks (length f.looks.rules) x.rule) xs (λ x at.
      let own = are.sound x at in
      let is = own.joint.demands_are in
      plain_fits f.looks.ranks (length f.looks.rules) x.rule (record {
        low = subst (λ c. c < length f.looks.ranks) (sym own.joint.constructor_is) is.low;
        wide = is.joined.long ∙ ap (λ c. get_or f.looks.ranks c 0) (sym own.joint.constructor_is);
        own = is.own;
      }))

  -- so do their atoms
  module _ (atom_fits : A → Type 0) (map_fits : M → Type 0) (fit : LabelsFit atom_fits map_fits f) where
    pub joint_atoms : (x : Joint A) → Contains xs x → EveryAtom atom_fits (plain_rule x.rule).guard
    joint_atoms x at =
        let own = are.sound x at in
        subst (EveryAtom atom_fits) (sym own.joint.guard_is) (rule_atoms atom_fits map_fits f fit x.place.state x.place.first own.first own.unlike.first, (rule_atoms atom_fits map_fits f fit x.place.state x.place.second own.second own.unlike.second, tt))

    pub one_atoms : AtomsFit atom_fits (with_one f.looks xs)
    one_atoms = to_fit atom_fits (with_one f.looks xs) (λ rs at p here. elim (append_member f.looks.rules (rules_in xs ∷ []) rs at) [
      | inl own ↦ from_fit atom_fits f.looks fit.looks rs own p here
      | inr last ↦ (let (x, at_x, is) = map_member (λ x. plain_rule x.rule) xs p (subst (λ l. Contains l p) (sym (only (rules_in xs) rs last)) here) in subst (Guarded atom_fits) is (joint_atoms x at_x))
    ])

    pub each_atoms : AtomsFit atom_fits (with_each f.looks xs)
    each_atoms = to_fit atom_fits (with_each f.looks xs) (λ rs at p here. elim (append_member f.looks.rules (map (λ x. plain_rule x.rule ∷ []) xs) rs at) [
      | inl own ↦ from_fit atom_fits f.looks fit.looks rs own p here
      | inr later ↦ (
          let (x, at_x, is) = map_member (λ x. plain_rule x.rule ∷ []) xs rs later in
          subst (Guarded atom_fits) (only (plain_rule x.rule) p (subst (λ l. Contains l p) (sym is) here)) (joint_atoms x at_x))
    ])

  -- where rules meet, a joint applies
  pub some_joint : (t : LabelTree) → Fits f.looks.ranks D t → MeetSome holds map_eq f t → list_any (joint_applies holds f.looks t) xs ≡ true
  some_joint t fits (q, i, j, (r, s, unlike, first, second)) = elim (are.complete q i j r s tt unlike) [
    | inl has ↦ any_true (joint_applies holds f.looks t) xs has.it has.there (joint_applies_as holds f.looks r.rule s.rule D (plain_rule has.it.rule) has.joint t fits ∙ and_from (applies holds map_eq f r t) (applies holds map_eq f s t) first second)
    | inr never ↦ absurd (never t fits (and_from (applies holds map_eq f r t) (applies holds map_eq f s t) first second))
  ]

  -- where a joint applies, its rules meet
  pub meets_at : (E : Label → Type 0) (x : Joint A) → Contains xs x → (t : LabelTree) → Fits f.looks.ranks E t → joint_applies holds f.looks t x ≡ true → Meet holds map_eq f x.place.state x.place.first x.place.second t
  meets_at E x at t fits e =
      let own = are.sound x at in
      let (first, second) = and_parts (applies holds map_eq f own.first t) (applies holds map_eq f own.second t) (sym (joint_applies_as holds f.looks own.first.rule own.second.rule E (plain_rule x.rule) own.joint t fits) ∙ e) in
      (own.first, own.second, own.unlike, first, second)

  pub meets_some : (E : Label → Type 0) (t : LabelTree) → Fits f.looks.ranks E t → list_any (joint_applies holds f.looks t) xs ≡ true → MeetSome holds map_eq f t
  meets_some E t fits e =
      let (x, at, is) = any_member (joint_applies holds f.looks t) xs e in
      (x.place.state, x.place.first, x.place.second, meets_at E x at t fits is)

-- without joints no rules meet
pub plain_of_none : {A M V W : Type 0} {label_of : V → Label} {holds : A → Label → Bool} (N : Meaning label_of holds W) (map_eq : M → M → Bool) (f : OutMachine A M) (most : ℕ) (xs : List (Joint A)) → AreJoints holds map_eq N.has f (λ q i j. ⊤) xs → length xs ≡ 0 → IsOverlap map_eq N f most found.Plain
plain_of_none {holds = holds} N map_eq f most xs are none t fits meet =
    let (x, at, is) = any_member (joint_applies holds f.looks t) xs (some_joint holds map_eq N.has f xs are t fits meet) in
    absurd (omega (arith, at.1, none))

module _ {A M V W : Type 0} {label_of : V → Label} {holds : A → Label → Bool} (N : Meaning label_of holds W) (map_eq : M → M → Bool) (f : OutMachine A M) (own : DemandsOwn f.looks) (xs : List (Joint A)) (are : AreJoints holds map_eq N.has f (λ q i j. ⊤) xs)
    (sta : Machine A) (state : ℕ) (sta_is : sta ≡ with_one f.looks xs) (state_is : state ≡ length f.looks.rules) (most : ℕ) where
  -- what the state accepts
  pub accepted : (t : LabelTree) → is_accepted (automaton_of holds sta) t state ≡ list_any (joint_applies holds f.looks t) xs
  accepted t = ap (λ m. is_accepted (automaton_of holds m) t state) sta_is ∙ accepts_one holds f.looks own xs (joints_fit holds map_eq N.has f xs are) t state state_is

  ranks_are : sta.ranks ≡ f.looks.ranks
  ranks_are = ap (λ m. m.ranks) sta_is

  asked : (t : LabelTree) → Fits f.looks.ranks N.has t → MeetSome holds map_eq f t → IsAskedTree sta.ranks N.has N.keeps (λ t. is_accepted (automaton_of holds sta) t state) t
  asked t fits meet = record { fits = subst (λ ranks. Fits ranks N.has t) (sym ranks_are) fits; accepted = accepted t ∙ some_joint holds map_eq N.has f xs are t fits meet }

  pub plain_of_absent : IsEmptyAnswer N sta state most Absent → IsOverlap map_eq N f most found.Plain
  plain_of_absent none t fits meet = none t (asked t fits meet)

  pub big_of_big : IsEmptyAnswer N sta state most TooBig → IsOverlap map_eq N f most found.TooBig
  big_of_big h =
      let fits : Fits f.looks.ranks N.has h.tree = subst (λ ranks. Fits ranks N.has h.tree) ranks_are h.right.fits in
      record {
        tree = h.tree;
        fits = fits;
        meet = meets_some holds map_eq N.has f xs are N.has h.tree fits (sym (accepted h.tree) ∙ h.right.accepted);
        big = λ t fits meet. h.big t (asked t fits meet);
      }

  module _ (tree : Tree V) (answer : IsEmptyAnswer N sta state most (Shown tree)) where
    pub shown_fits : Fits f.looks.ranks N.keeps (relabel label_of tree)
    shown_fits = subst (λ ranks. Fits ranks N.keeps (relabel label_of tree)) ranks_are answer.fits

    pub shown_kept : EveryLabel (KeepsValue N) tree
    shown_kept = labels_kept N f.looks.ranks tree shown_fits

    pub shown_some : list_any (joint_applies holds f.looks (relabel label_of tree)) xs ≡ true
    shown_some = sym (accepted (relabel label_of tree)) ∙ answer.accepted

    pub meets_of_shown : (m : Meeting V) → IsShownBy holds label_of f.looks xs tree m → IsOverlap map_eq N f most (found.Meets m)
    meets_of_shown m is =
        let x = is.joint in
        let here : Meet holds map_eq f x.place.state x.place.first x.place.second (relabel label_of tree) = meets_at holds map_eq N.has f xs are N.keeps x is.there (relabel label_of tree) shown_fits is.applies in
        let named : Meet holds map_eq f m.state m.first m.second (relabel label_of tree) =
        subst (λ q. Meet holds map_eq f q m.first m.second (relabel label_of tree)) (sym is.state_is)
        (subst (λ i. Meet holds map_eq f x.place.state i m.second (relabel label_of tree)) (sym is.first_is) (subst (λ j. Meet holds map_eq f x.place.state x.place.first j (relabel label_of tree)) (sym is.second_is) here)) in
        record {
          fits = subst (λ u. Fits f.looks.ranks N.keeps (relabel label_of u)) (sym is.tree_is) shown_fits;
          meet = subst (λ u. Meet holds map_eq f m.state m.first m.second (relabel label_of u)) (sym is.tree_is) named;
          small = subst (λ u. node_count (relabel label_of u) ≤ most_nodes) (sym is.tree_is) answer.small;
          shallow = subst (λ u. depth (relabel label_of u) ≤ most) (sym is.tree_is) answer.shallow;
        }
