use Rattle.std.proofs.Common.{◌≡◌, ◌∙◌, [], length, get_or, Contains, sym, ap, subst, arith}
use Rattle.std.proofs.lemmas.List.{length-map}
use Rattle.sta_theory.proofs.Lists.{in_map}
use Rattle.sta_classes.specs.Rows.{class_rows, lists_of}
use Rattle.sta_classes.specs.Searched.{IsOver}
use Rattle.sta_classes.proofs.Rows.{list_at}
use Rattle.sta_classes.proofs.NewLists.{lists_same}
use Rattle.sta_classes.proofs.Opens.{new_over}
use Rattle.sta_classes.proofs.Keeping.{stopped}
use Rattle.sta_classes.proofs.Runs.{begun, offers_first, offers_more, offers_last}
use Rattle.sta_classes.proofs.search.Search.open_new.Goals as goal

pub constructors-init : goal.constructors-init
constructors-init g c = begun (g.T.Theory.meaning c.args.self.now.theory.now) c.args.self.now.ranks.now c.args.self.now.rules.now c.args.self.now.own.now c.args.self.now.most c.args.known.now c.requires.under _ (λ n low. absurd (omega (arith, low)))

pub lists-init : goal.lists-init
lists-init g c = offers_first (g.T.Theory.meaning c.args.self.now.theory.now) c.args.self.now.ranks.now c.args.self.now.rules.now c.args.self.now.own.now c.args.self.now.most c.args.known.now c.args.offers.now c.constructors.constructor _ _ c.constructors.invariant

pub returns : goal.returns
returns g c = record {
  under = c.constructors.invariant.under;
  better = c.constructors.invariant.better;
  offered = λ d low. c.constructors.invariant.offered d (omega (arith, low, c.constructors-test.false));
}

pub returns-in_err-lists : goal.returns-in_err-lists
returns-in_err-lists g c = stopped c.from_residual.result _ _ _ c.from_residual.ensures.1 tt

pub returns-in_err-open : goal.returns-in_err-open
returns-in_err-open g c = stopped c.from_residual-in_err-open.result _ _ c.in_err-open.field-0.0 c.from_residual-in_err-open.ensures.1 c.in_err-open.ensures

pub new_lists-requires : goal.new_lists-requires
new_lists-requires g c =
    let of = c.requires.under.kinds.each c.constructors.constructor c.constructors-test.true in
    let is : c.deref.result.now ≡ get_or (lists_of c.args.known.now.places.items) c.constructors.constructor [] = list_at c.args.known.now.places.items c.constructors.constructor c.index-places.result.now c.deref.result.now (omega (arith, c.constructors-test.true, c.requires.under.kinds.many)) c.index-places.ensures c.deref.ensures.value in
    (class_rows c.args.known.now.classes.items, length-map c.args.known.now.classes.items (λ z. z.row) ∙ sym (omega (arith, c.len.ensures, c.args.known.now.classes.ok.0)), λ j p low at. (of.each j p (omega (arith, low, ap length is)) (subst (λ l. get_or l j p ≡ p) is at)).1)

pub open-requires-clause-over : goal.open-requires-clause-over
open-requires-clause-over g c =
    let is : c.deref.result.now ≡ get_or (lists_of c.args.known.now.places.items) c.constructors.constructor [] = list_at c.args.known.now.places.items c.constructors.constructor c.index-places.result.now c.deref.result.now (omega (arith, c.constructors-test.true, c.requires.under.kinds.many)) c.index-places.ensures c.deref.ensures.value in
    let new = (lists_same (Contains (lists_of c.in_ok-lists.lists.items)) c.deref.result.now (get_or (lists_of c.args.known.now.places.items) c.constructors.constructor []) c.len.result (length c.args.known.now.classes.items) is (omega (arith, c.len.ensures, c.args.known.now.classes.ok.0)) c.in_ok-lists.ensures c.children-item.result.items).0
    (in_map (λ v. v.items) c.in_ok-lists.lists.items c.children-item.result (subst (λ l. Contains l c.children-item.result) c.deref-children-items.ensures.value (c.lists.children-index, c.lists-test.true, sym c.children-item.is))) in
    subst (IsOver g.T.Theory.label_of c.args.self.now.ranks.now c.args.known.now.classes.items c.constructors.constructor) (sym c.deref-in-lists.ensures.value)
    (new_over (g.T.Theory.meaning c.args.self.now.theory.now) c.args.self.now.ranks.now c.args.self.now.rules.now c.args.known.now.classes.items c.args.known.now.places.items c.lists.offers.pending c.lists.invariant.under.sound c.requires.under.kinds c.constructors.constructor c.children-item.result.items c.constructors-test.true new)

pub lists-preserved : goal.lists-preserved
lists-preserved g c =
    offers_more (g.T.Theory.meaning c.args.self.now.theory.now) c.args.self.now.ranks.now c.args.self.now.rules.now c.args.self.now.own.now c.args.self.now.most c.args.known.now c.args.offers.now c.constructors.constructor (lists_of c.deref-children-items.result.now) c.lists.offers c.open.new.offers c.lists.children-index c.deref-in-lists.result.now
    (list_at c.deref-children-items.result.now c.lists.children-index c.children-item.result c.deref-in-lists.result.now c.lists-test.true c.children-item.is c.deref-in-lists.ensures.value) c.lists.invariant c.in_ok-open.ensures

pub constructors-preserved : goal.constructors-preserved
constructors-preserved g c =
    let is : c.deref.result.now ≡ get_or (lists_of c.args.known.now.places.items) c.constructors.constructor [] = list_at c.args.known.now.places.items c.constructors.constructor c.index-places.result.now c.deref.result.now (omega (arith, c.constructors-test.true, c.requires.under.kinds.many)) c.index-places.ensures c.deref.ensures.value in
    offers_last (g.T.Theory.meaning c.args.self.now.theory.now) c.args.self.now.ranks.now c.args.self.now.rules.now c.args.self.now.own.now c.args.self.now.most c.args.known.now c.args.offers.now c.constructors.constructor (lists_of c.deref-children-items.result.now) c.lists.offers c.lists.children-index
    (omega (arith, length-map c.deref-children-items.result.now (λ v. v.items), c.lists-test.false))
    (λ ks new. subst (λ l. Contains (lists_of l) ks) (sym c.deref-children-items.ensures.value) ((lists_same (Contains (lists_of c.in_ok-lists.lists.items)) c.deref.result.now (get_or (lists_of c.args.known.now.places.items) c.constructors.constructor []) c.len.result (length c.args.known.now.classes.items) is (omega (arith, c.len.ensures, c.args.known.now.classes.ok.0)) c.in_ok-lists.ensures ks).1 new))
    c.lists.invariant
