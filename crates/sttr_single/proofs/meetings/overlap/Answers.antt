use Rattle.std.proofs.Common.{◌≡◌, true, IfErr, length, All, ap, ap₂, sym, subst, subst₂, ◌∙◌, eqb-true, arith}
use Rattle.std.specs.List.{list_any}
use Rattle.std.proofs.lemmas.Result.{err_from_is_err_and}
use Rattle.model_tree.specs.Tree.{relabel}
use Rattle.sta_core.specs.Fits.{RuleFits}
use Rattle.sta_core.specs.Sta.{AtomsFit}
use Rattle.sta_ops.specs.Empty.{IsEmptyAnswer}
use Rattle.sttr_single.specs.Joints.{DemandsOwn, with_one, with_each, joint_applies}
use Rattle.sttr_single.specs.Overlap.{StopsOverlap}
use Rattle.sttr_single.specs.Shown.{IsShownBy}
use Rattle.sttr_single.proofs.Answered.{joints_fit, one_atoms, each_atoms, plain_of_none, plain_of_absent, big_of_big, shown_kept, shown_some, meets_of_shown}
use Rattle.sttr_single.proofs.Stopping.{stops_overlap}
use Rattle.sttr_single.proofs.meetings.overlap.Goals as goal

pub returns-then-is_empty-clause-overlap : goal.returns-then-is_empty-clause-overlap
returns-then-is_empty-clause-overlap g c =
    let holds = g.T.Theory.atom_holds in
    let N = g.T.Theory.meaning c.args.theory.now in
    let eq = g.T.Map.PartialEq.eq in
    let f = c.args.sttr.now in
    let xs = c.in_ok-joints.joints.items in
    let long = eqb-true c.in_ok-joints.joints.len 0 (sym c.is_empty.ensures ∙ c.if-is_empty.true) in
    let none : length xs ≡ 0 = omega (arith, c.in_ok-joints.joints.ok.0, long) in
    plain_of_none N eq f c.args.most xs c.in_ok-joints.ensures none

pub where_one_applies-requires : goal.where_one_applies-requires
where_one_applies-requires g c =
    let holds = g.T.Theory.atom_holds in
    let N = g.T.Theory.meaning c.args.theory.now in
    let eq = g.T.Map.PartialEq.eq in
    let f = c.args.sttr.now in
    let xs = c.in_ok-joints.joints.items in
    subst₂ (λ l ys. All (λ x. RuleFits l.ranks (length l.rules) x.rule) ys) (sym c.looks_of-looks.ensures.looks) (sym c.deref.ensures.value) (joints_fit holds eq N.has f xs c.in_ok-joints.ensures)

pub empty-requires : goal.empty-requires
empty-requires g c =
    let holds = g.T.Theory.atom_holds in
    let N = g.T.Theory.meaning c.args.theory.now in
    let eq = g.T.Map.PartialEq.eq in
    let f = c.args.sttr.now in
    let xs = c.in_ok-joints.joints.items in
    let sta_is : c.in_ok-lang.lang.sta ≡ with_one f.looks xs = c.in_ok-lang.ensures.sta ∙ ap₂ with_one c.looks_of-looks.ensures.looks c.deref.ensures.value in
    let state_is : c.in_ok-lang.lang.state ≡ length f.looks.rules = c.in_ok-lang.ensures.state ∙ ap (λ m. length m.rules) c.looks_of-looks.ensures.looks in
    record { fit = subst (AtomsFit (g.T.Theory.atom_fits c.args.theory.now)) (sym sta_is) (one_atoms holds eq N.has f xs c.in_ok-joints.ensures (g.T.Theory.atom_fits c.args.theory.now) (g.T.Labels.map_fits c.args.theory.now) c.requires.labels) }

pub returns-in_err-empty-clause-stop : goal.returns-in_err-empty-clause-stop
returns-in_err-empty-clause-stop g c =
    let holds = g.T.Theory.atom_holds in
    let N = g.T.Theory.meaning c.args.theory.now in
    let eq = g.T.Map.PartialEq.eq in
    let f = c.args.sttr.now in
    let xs = c.in_ok-joints.joints.items in
    let sta_is : c.in_ok-lang.lang.sta ≡ with_one f.looks xs = c.in_ok-lang.ensures.sta ∙ ap₂ with_one c.looks_of-looks.ensures.looks c.deref.ensures.value in
    let state_is : c.in_ok-lang.lang.state ≡ length f.looks.rules = c.in_ok-lang.ensures.state ∙ ap (λ m. length m.rules) c.looks_of-looks.ensures.looks in
    let p = err_from_is_err_and c.from_residual-in_err-empty.result c.from_residual-in_err-empty.ensures.1 in
    subst (λ r. IfErr r (StopsOverlap eq N f c.args.most)) (sym p.1)
    (subst (StopsOverlap eq N f c.args.most) (sym p.2)
    (stops_overlap N g.T.Atom.PartialEq.eq (g.met.T.Theory.equal_is_own c.args.theory.now) g.met.T.Atom.Eq.laws eq f c.looks_of-looks.ensures.own xs c.in_ok-joints.ensures c.in_ok-lang.lang.sta c.in_ok-lang.lang.state sta_is state_is c.args.most c.in_err-empty.field-0.0 c.in_err-empty.ensures.stop))

pub returns-in-Absent-clause-overlap : goal.returns-in-Absent-clause-overlap
returns-in-Absent-clause-overlap g c =
    let holds = g.T.Theory.atom_holds in
    let N = g.T.Theory.meaning c.args.theory.now in
    let eq = g.T.Map.PartialEq.eq in
    let f = c.args.sttr.now in
    let xs = c.in_ok-joints.joints.items in
    let sta_is : c.in_ok-lang.lang.sta ≡ with_one f.looks xs = c.in_ok-lang.ensures.sta ∙ ap₂ with_one c.looks_of-looks.ensures.looks c.deref.ensures.value in
    let state_is : c.in_ok-lang.lang.state ≡ length f.looks.rules = c.in_ok-lang.ensures.state ∙ ap (λ m. length m.rules) c.looks_of-looks.ensures.looks in
    plain_of_absent N eq f c.looks_of-looks.ensures.own xs c.in_ok-joints.ensures c.in_ok-lang.lang.sta c.in_ok-lang.lang.state sta_is state_is c.args.most (subst (IsEmptyAnswer N c.in_ok-lang.lang.sta c.in_ok-lang.lang.state c.args.most) c.in-Absent.is c.in_ok-empty.ensures.found)

pub shown-requires-clause-own : goal.shown-requires-clause-own
shown-requires-clause-own g c = subst DemandsOwn (sym c.looks_of-looks.ensures.looks) c.looks_of-looks.ensures.own

pub shown-requires-clause-rules : goal.shown-requires-clause-rules
shown-requires-clause-rules g c =
    let holds = g.T.Theory.atom_holds in
    let N = g.T.Theory.meaning c.args.theory.now in
    let eq = g.T.Map.PartialEq.eq in
    let f = c.args.sttr.now in
    let xs = c.in_ok-joints.joints.items in
    subst₂ (λ l ys. All (λ x. RuleFits l.ranks (length l.rules) x.rule) ys) (sym c.looks_of-looks.ensures.looks) (sym c.deref-in-Shown.ensures.value) (joints_fit holds eq N.has f xs c.in_ok-joints.ensures)

pub shown-requires-clause-atoms : goal.shown-requires-clause-atoms
shown-requires-clause-atoms g c =
    let holds = g.T.Theory.atom_holds in
    let N = g.T.Theory.meaning c.args.theory.now in
    let eq = g.T.Map.PartialEq.eq in
    let f = c.args.sttr.now in
    let xs = c.in_ok-joints.joints.items in
    subst₂ (λ l ys. AtomsFit (g.T.Theory.atom_fits c.args.theory.now) (with_each l ys)) (sym c.looks_of-looks.ensures.looks) (sym c.deref-in-Shown.ensures.value)
    (each_atoms holds eq N.has f xs c.in_ok-joints.ensures (g.T.Theory.atom_fits c.args.theory.now) (g.T.Labels.map_fits c.args.theory.now) c.requires.labels)

pub shown-requires-clause-labels : goal.shown-requires-clause-labels
shown-requires-clause-labels g c =
    let holds = g.T.Theory.atom_holds in
    let N = g.T.Theory.meaning c.args.theory.now in
    let eq = g.T.Map.PartialEq.eq in
    let f = c.args.sttr.now in
    let xs = c.in_ok-joints.joints.items in
    let sta_is : c.in_ok-lang.lang.sta ≡ with_one f.looks xs = c.in_ok-lang.ensures.sta ∙ ap₂ with_one c.looks_of-looks.ensures.looks c.deref.ensures.value in
    let state_is : c.in_ok-lang.lang.state ≡ length f.looks.rules = c.in_ok-lang.ensures.state ∙ ap (λ m. length m.rules) c.looks_of-looks.ensures.looks in
    shown_kept N eq f c.looks_of-looks.ensures.own xs c.in_ok-joints.ensures c.in_ok-lang.lang.sta c.in_ok-lang.lang.state sta_is state_is c.args.most c.in-Shown.tree (subst (IsEmptyAnswer N c.in_ok-lang.lang.sta c.in_ok-lang.lang.state c.args.most) c.in-Shown.is c.in_ok-empty.ensures.found)

pub shown-requires-clause-applies : goal.shown-requires-clause-applies
shown-requires-clause-applies g c =
    let holds = g.T.Theory.atom_holds in
    let N = g.T.Theory.meaning c.args.theory.now in
    let eq = g.T.Map.PartialEq.eq in
    let f = c.args.sttr.now in
    let xs = c.in_ok-joints.joints.items in
    let sta_is : c.in_ok-lang.lang.sta ≡ with_one f.looks xs = c.in_ok-lang.ensures.sta ∙ ap₂ with_one c.looks_of-looks.ensures.looks c.deref.ensures.value in
    let state_is : c.in_ok-lang.lang.state ≡ length f.looks.rules = c.in_ok-lang.ensures.state ∙ ap (λ m. length m.rules) c.looks_of-looks.ensures.looks in
    subst₂ (λ l ys. list_any (joint_applies holds l (relabel g.T.Theory.label_of c.in-Shown.tree)) ys ≡ true) (sym c.looks_of-looks.ensures.looks) (sym c.deref-in-Shown.ensures.value)
    (shown_some N eq f c.looks_of-looks.ensures.own xs c.in_ok-joints.ensures c.in_ok-lang.lang.sta c.in_ok-lang.lang.state sta_is state_is c.args.most c.in-Shown.tree (subst (IsEmptyAnswer N c.in_ok-lang.lang.sta c.in_ok-lang.lang.state c.args.most) c.in-Shown.is c.in_ok-empty.ensures.found))

pub returns-in-Shown-clause-overlap : goal.returns-in-Shown-clause-overlap
returns-in-Shown-clause-overlap g c =
    let holds = g.T.Theory.atom_holds in
    let N = g.T.Theory.meaning c.args.theory.now in
    let eq = g.T.Map.PartialEq.eq in
    let f = c.args.sttr.now in
    let xs = c.in_ok-joints.joints.items in
    let sta_is : c.in_ok-lang.lang.sta ≡ with_one f.looks xs = c.in_ok-lang.ensures.sta ∙ ap₂ with_one c.looks_of-looks.ensures.looks c.deref.ensures.value in
    let state_is : c.in_ok-lang.lang.state ≡ length f.looks.rules = c.in_ok-lang.ensures.state ∙ ap (λ m. length m.rules) c.looks_of-looks.ensures.looks in
    meets_of_shown N eq f c.looks_of-looks.ensures.own xs c.in_ok-joints.ensures c.in_ok-lang.lang.sta c.in_ok-lang.lang.state sta_is state_is c.args.most c.in-Shown.tree (subst (IsEmptyAnswer N c.in_ok-lang.lang.sta c.in_ok-lang.lang.state c.args.most) c.in-Shown.is c.in_ok-empty.ensures.found) c.in_ok-meeting-in-Shown.meeting
    (subst₂ (λ l ys. IsShownBy holds g.T.Theory.label_of l ys c.in-Shown.tree c.in_ok-meeting-in-Shown.meeting) c.looks_of-looks.ensures.looks c.deref-in-Shown.ensures.value c.in_ok-meeting-in-Shown.ensures)

pub returns-clause-overlap : goal.returns-clause-overlap
returns-clause-overlap g c =
    let holds = g.T.Theory.atom_holds in
    let N = g.T.Theory.meaning c.args.theory.now in
    let eq = g.T.Map.PartialEq.eq in
    let f = c.args.sttr.now in
    let xs = c.in_ok-joints.joints.items in
    let sta_is : c.in_ok-lang.lang.sta ≡ with_one f.looks xs = c.in_ok-lang.ensures.sta ∙ ap₂ with_one c.looks_of-looks.ensures.looks c.deref.ensures.value in
    let state_is : c.in_ok-lang.lang.state ≡ length f.looks.rules = c.in_ok-lang.ensures.state ∙ ap (λ m. length m.rules) c.looks_of-looks.ensures.looks in
    big_of_big N eq f c.looks_of-looks.ensures.own xs c.in_ok-joints.ensures c.in_ok-lang.lang.sta c.in_ok-lang.lang.state sta_is state_is c.args.most (subst (IsEmptyAnswer N c.in_ok-lang.lang.sta c.in_ok-lang.lang.state c.args.most) c.in-TooBig.is c.in_ok-empty.ensures.found)
