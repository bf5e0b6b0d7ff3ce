use Rattle.std.proofs.Common.{◌-◌, ◌∙◌, true≢false, map, length, sym, ap, subst, arith}
use Rattle.std.proofs.lemmas.List.{length-map, map-append}
use Rattle.std.proofs.lemmas.Result.{IfOk-at_ok}
use Rattle.sta_classes.specs.Rows.{lists_of}
use Rattle.sta_classes.proofs.Keeping.{with_value}
use Rattle.sta_classes.proofs.NewLists.{HaveBefore, have_none, have_more, have_same, new_by_places, new_first, none_at}
use Rattle.sta_classes.proofs.lists.new_lists.Goals as goal
use Rattle.sta_classes.proofs.lists.new_lists.Goals.{then-begins+in_ok-lists_with+in_ok-append, else-begins}

pub returns-then-classes-eq0 : goal.returns-then-classes-eq0
returns-then-classes-eq0 c = with_value c.lists_with.result _ (λ lists is. new_first c.args.places.now c.args.classes _ (lists_of lists.items) c.if-classes-eq0.true c.requires (IfOk-at_ok _ is c.lists_with.ensures))

pub places-init : goal.places-init
places-init c = have_none (map (λ p. p.firsts.items) c.args.places.now) (c.args.classes - 1) (length c.args.places.now) (lists_of c.new-lists.result.items) (ap lists_of c.new-lists.ensures.items)

pub places-preserved : goal.places-preserved
places-preserved c =
    elim c.if-begins.branch [
      | then-begins+in_ok-lists_with+in_ok-append w ↦
          have_more (map (λ p. p.firsts.items) c.args.places.now) (c.args.classes - 1) (length c.args.places.now) c.places.place (lists_of c.places.lists.items) (lists_of w.in_ok-lists_with.field-0.items) (lists_of c.if-begins.lists.items) c.places.invariant w.in_ok-lists_with.ensures
          (ap (λ v. lists_of v.items) w.lists-is ∙ ap lists_of w.in_ok-append.ensures.items ∙ map-append (λ v. v.items) c.places.lists.items w.in_ok-lists_with.field-0.items)
      | else-begins w ↦
          have_same (map (λ p. p.firsts.items) c.args.places.now) (c.args.classes - 1) (length c.args.places.now) c.places.place (lists_of c.if-begins.lists.items) (subst (λ v. HaveBefore (map (λ p. p.firsts.items) c.args.places.now) (c.args.classes - 1) (length c.args.places.now) c.places.place (lists_of v.items)) (sym w.lists-is) c.places.invariant)
          (λ ks listed. none_at c.args.places.now c.requires.0 c.places.place (c.args.classes - 1) (length c.args.places.now) c.index-places-place.result c.places-test.true c.places-test.true (sym c.index-places-place.is) (c.requires.2 c.places.place c.index-places-place.result c.places-test.true (sym c.index-places-place.is)) (λ e. true≢false (sym (c.begins.ensures.1 e) ∙ w.if-begins.false)) ks listed)
    ]

pub begins-requires : goal.begins-requires
begins-requires c =
    let numbered = c.requires.2 c.places.place c.index-places-place.result c.places-test.true (sym c.index-places-place.is) in
    record {
      known = omega (arith, numbered.many, c.requires.1, c.if-classes-eq0.false);
      low = omega (arith, numbered.low (c.args.classes - 1) (omega (arith, c.requires.1, c.if-classes-eq0.false)), numbered.one_each);
    }

pub returns : goal.returns
returns c = new_by_places (map (λ p. p.firsts.items) c.args.places.now) c.args.classes c.places.place (length c.args.places.now) (lists_of c.places.lists.items) (omega (arith, c.if-classes-eq0.false)) (omega (arith, c.places-test.false, c.places.auto.place-end)) (sym (length-map c.args.places.now (λ p. p.firsts.items))) c.places.invariant
