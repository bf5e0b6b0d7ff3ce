use Rattle.std.proofs.Common.{◌≡◌, ◌+◌, map, take, take_all, subst, arith}
use Rattle.model_tree.specs.Tree.{label_of, children_of}
use Rattle.model_sttr.specs.Terms.{with_maps}
use Rattle.sttr_core.specs.Machine.{transducer_of}
use Rattle.sttr_core.specs.Terms.{plain_term}
use Rattle.apply_laws.specs.Found.{listed}
use Rattle.apply_laws.specs.Terms.{IsTermFound, AreTermsFound}
use Rattle.sttr_apply.specs.Calls.{calls}
use Rattle.sttr_apply.specs.Labels.{keeps, Outside}
use Rattle.sttr_apply.specs.Merge.{IsJoin}
use Rattle.sttr_apply.specs.Plain.{out_cut, found_of, load_of, cut_order}
use Rattle.sttr_apply.proofs.Used.{sum_mapped_more}
use Rattle.sttr_apply.proofs.Gathered.{parted, one_taken, sum_dropped, sum_in_two, terms_more, term_too_much, join_too_much}
use Rattle.sttr_apply.proofs.scene.Scene.terms_found.Goals as goal

pub returns-in-TooMuch-clause-found : goal.returns-in-TooMuch-clause-found
returns-in-TooMuch-clause-found g c =
    term_too_much g.T.Theory.label_of g.T.Value.Ord.cmp g.met.T.Value.Ord.total g.met.T.Theory.equal_values (transducer_of g.T.Theory.atom_holds g.T.Labels.make c.args.self.now.sttr.now) (children_of c.args.place.now.tree.now) (g.T.Theory.label_of (label_of c.args.place.now.tree.now))
    (map (λ t. with_maps g.T.Labels.make (plain_term t.now)) (take c.terms.term-index c.args.terms.now)) (with_maps g.T.Labels.make (plain_term c.term-item.result.now)) _ _ (load_of c.in-TooMuch.load) (parted (λ t. with_maps g.T.Labels.make (plain_term t.now)) c.args.terms.now c.terms.term-index c.term-item.result c.terms-test.true c.term-item.is)
    (subst (λ r. IsTermFound g.T.Theory.label_of g.T.Value.Ord.cmp keeps Outside (transducer_of g.T.Theory.atom_holds g.T.Labels.make c.args.self.now.sttr.now) (children_of c.args.place.now.tree.now) (g.T.Theory.label_of (label_of c.args.place.now.tree.now)) (with_maps g.T.Labels.make (plain_term c.term-item.result.now)) (found_of r)) c.in-TooMuch.is c.in_ok-load.ensures.found)

pub returns-in-TooMuch-clause-uses : goal.returns-in-TooMuch-clause-uses
returns-in-TooMuch-clause-uses g c = λ q k l.
    omega (arith, c.terms.invariant.keeps q k l, c.in_ok-load.ensures.uses q k (omega (arith, l, c.requires.table.width, c.terms.invariant.table.width)), sum_mapped_more (λ t. plain_term t.now) (calls q k) c.args.terms.now c.terms.term-index c.term-item.result c.terms-test.true c.term-item.is, sum_in_two (λ t. plain_term t.now) (calls q k) c.args.terms.now (c.terms.term-index + 1))

pub returns-in-TooMuch-2-clause-found : goal.returns-in-TooMuch-2-clause-found
returns-in-TooMuch-2-clause-found g c =
    join_too_much g.T.Theory.label_of g.T.Value.Ord.cmp g.met.T.Value.Ord.total g.met.T.Theory.equal_values (transducer_of g.T.Theory.atom_holds g.T.Labels.make c.args.self.now.sttr.now) (children_of c.args.place.now.tree.now) (g.T.Theory.label_of (label_of c.args.place.now.tree.now))
    (map (λ t. with_maps g.T.Labels.make (plain_term t.now)) (take c.terms.term-index c.args.terms.now)) (with_maps g.T.Labels.make (plain_term c.term-item.result.now)) _ _ (map out_cut c.terms.listing.outs.items) (map out_cut c.in-Listed.more.outs.items) c.terms.listing.far c.in-Listed.more.far (load_of c.in-TooMuch-2.load) (parted (λ t. with_maps g.T.Labels.make (plain_term t.now)) c.args.terms.now c.terms.term-index c.term-item.result c.terms-test.true c.term-item.is)
    c.terms.invariant.found (subst (λ r. IsTermFound g.T.Theory.label_of g.T.Value.Ord.cmp keeps Outside (transducer_of g.T.Theory.atom_holds g.T.Labels.make c.args.self.now.sttr.now) (children_of c.args.place.now.tree.now) (g.T.Theory.label_of (label_of c.args.place.now.tree.now)) (with_maps g.T.Labels.make (plain_term c.term-item.result.now)) (found_of r)) c.in-Listed.is c.in_ok-load.ensures.found)
    (subst (λ r. IsJoin (cut_order g.T.Value.Ord.cmp) (map out_cut c.terms.listing.outs.items) c.terms.listing.far (map out_cut c.in-Listed.more.outs.items) c.in-Listed.more.far (found_of r)) c.in-TooMuch-2.is c.in_ok-load-in-Listed.ensures)

pub returns-in-TooMuch-2-clause-uses : goal.returns-in-TooMuch-2-clause-uses
returns-in-TooMuch-2-clause-uses g c = λ q k l.
    omega (arith, c.terms.invariant.keeps q k l, c.in_ok-load.ensures.uses q k (omega (arith, l, c.requires.table.width, c.terms.invariant.table.width)), sum_mapped_more (λ t. plain_term t.now) (calls q k) c.args.terms.now c.terms.term-index c.term-item.result c.terms-test.true c.term-item.is, sum_in_two (λ t. plain_term t.now) (calls q k) c.args.terms.now (c.terms.term-index + 1))

pub terms-preserved : goal.terms-preserved
terms-preserved g c = record {
  found = terms_more g.T.Theory.label_of g.T.Value.Ord.cmp g.met.T.Value.Ord.total g.met.T.Theory.equal_values (transducer_of g.T.Theory.atom_holds g.T.Labels.make c.args.self.now.sttr.now) (children_of c.args.place.now.tree.now) (g.T.Theory.label_of (label_of c.args.place.now.tree.now))
      (map (λ t. with_maps g.T.Labels.make (plain_term t.now)) (take c.terms.term-index c.args.terms.now)) (with_maps g.T.Labels.make (plain_term c.term-item.result.now)) _ (map out_cut c.terms.listing.outs.items) (map out_cut c.in-Listed.more.outs.items) (map out_cut c.in-Listed-2.both.outs.items) c.terms.listing.far c.in-Listed.more.far c.in-Listed-2.both.far (one_taken (λ t. with_maps g.T.Labels.make (plain_term t.now)) c.args.terms.now c.terms.term-index c.term-item.result c.terms-test.true c.term-item.is)
      c.terms.invariant.found (subst (λ r. IsTermFound g.T.Theory.label_of g.T.Value.Ord.cmp keeps Outside (transducer_of g.T.Theory.atom_holds g.T.Labels.make c.args.self.now.sttr.now) (children_of c.args.place.now.tree.now) (g.T.Theory.label_of (label_of c.args.place.now.tree.now)) (with_maps g.T.Labels.make (plain_term c.term-item.result.now)) (found_of r)) c.in-Listed.is c.in_ok-load.ensures.found)
      (subst (λ r. IsJoin (cut_order g.T.Value.Ord.cmp) (map out_cut c.terms.listing.outs.items) c.terms.listing.far (map out_cut c.in-Listed.more.outs.items) c.in-Listed.more.far (found_of r)) c.in-Listed-2.is c.in_ok-load-in-Listed.ensures);
  table = c.in_ok-load.ensures.table;
  uses = λ q k l.
      let old = c.terms.invariant.uses q k (omega (arith, l, c.in_ok-load.ensures.table.width, c.terms.invariant.table.width)) in
      let made = c.in_ok-load.ensures.uses q k (omega (arith, l, c.in_ok-load.ensures.table.width, c.terms.invariant.table.width)) in
      let next : c.terms.term-index + 1 ≡ c.terms.term-index + 1 = omega arith in
      omega (arith, old, made, sum_dropped (λ t. plain_term t.now) (calls q k) c.args.terms.now c.terms.term-index (c.terms.term-index + 1) c.term-item.result next c.terms-test.true c.term-item.is);
  keeps = λ q k l.
      omega (arith, c.terms.invariant.keeps q k l, c.in_ok-load.ensures.uses q k (omega (arith, l, c.requires.table.width, c.terms.invariant.table.width)), sum_mapped_more (λ t. plain_term t.now) (calls q k) c.args.terms.now c.terms.term-index c.term-item.result c.terms-test.true c.term-item.is);
}

pub returns-clause-found : goal.returns-clause-found
returns-clause-found g c =
    subst (λ ts. AreTermsFound g.T.Theory.label_of g.T.Value.Ord.cmp keeps Outside (transducer_of g.T.Theory.atom_holds g.T.Labels.make c.args.self.now.sttr.now) (children_of c.args.place.now.tree.now) (g.T.Theory.label_of (label_of c.args.place.now.tree.now)) (map (λ t. with_maps g.T.Labels.make (plain_term t.now)) ts) (listed (map out_cut c.terms.listing.outs.items) c.terms.listing.far)) (take_all c.terms.term-index c.args.terms.now c.terms-test.false) c.terms.invariant.found

pub returns-clause-uses : goal.returns-clause-uses
returns-clause-uses g c = λ q k l.
    omega (arith, c.terms.invariant.keeps q k l, sum_in_two (λ t. plain_term t.now) (calls q k) c.args.terms.now c.terms.term-index)
