use Rattle.std.proofs.Common.{◌≡◌, [], None, get_or, sym, ap, refl, ◌∙◌, arith}
use Rattle.std.proofs.lemmas.Option.{slice_get_within}
use Rattle.std.proofs.lemmas.Result.{IfOk-from_err, IfOk-at_ok}
use Rattle.model_sta.proofs.Reached.{same_default}
use Rattle.sta_classes.specs.Rows.{found_of}
use Rattle.sta_classes.specs.Pending.{is_dearer}
use Rattle.sta_classes.proofs.Keeping.{with_value}
use Rattle.sta_classes.proofs.Offered.{row_at, number_there, number_new, offer_passed, keys_passed, offer_first, offer_cheaper}
use Rattle.sta_classes.proofs.pending.Pending.offer.Goals as goal
use Rattle.sta_classes.proofs.pending.Pending.offer.Goals.{else-not-new-via-then-not-new+else-not-is_dearer, else-not-new-via-else-not-new}

pub returns-then-not-is_dearer : goal.returns-then-not-is_dearer
returns-then-not-is_dearer g c = (
  keys_passed g.T.Theory.label_of c.args.self.now (record { sets = c.insert_full.new.self; best = c.args.self.now.best; order = c.args.self.now.order }) c.requires.kept (record { row = c.args.row; nodes = c.args.over.now.nodes; constructor = c.args.over.now.constructor; label = g.T.Theory.label_of c.args.value.now; children = c.args.over.now.children.now }) c.in_ok-number.number c.in_ok-number.new c.in_ok-number.ensures.added c.in_ok-number.ensures.keys c.in_ok-number.ensures.stored c.if-not-new.true refl refl,
  offer_passed g.T.Theory.label_of c.args.self.now (record { sets = c.insert_full.new.self; best = c.args.self.now.best; order = c.args.self.now.order }) c.requires.kept (record { row = c.args.row; nodes = c.args.over.now.nodes; constructor = c.args.over.now.constructor; label = g.T.Theory.label_of c.args.value.now; children = c.args.over.now.children.now }) c.in_ok-number.number c.in_ok-number.new c.in_ok-number.ensures.added c.in_ok-number.ensures.keys c.in_ok-number.ensures.stored c.if-not-new.true refl
      (ap (λ o. is_dearer o c.args.over.now.nodes) (sym (c.index.ensures ∙ same_default c.args.self.now.best.items c.in_ok-number.number c.index.result.now None (omega (arith, number_there c.args.self.now.sets.keys c.insert_full.new.self.keys c.args.row c.in_ok-number.number c.in_ok-number.new c.in_ok-number.ensures.added c.in_ok-number.ensures.keys c.in_ok-number.ensures.stored c.if-not-new.true, c.requires.kept.many)))) ∙ sym c.is_dearer.ensures ∙ c.if-not-is_dearer.true),
)

pub returns : goal.returns
returns g c = with_value c.keep.result _ (λ x e.
    let (class, made, kept) = IfOk-at_ok _ e c.keep.ensures in
    let row : c.index-as_slice-number.result ≡ c.args.row = c.index-as_slice-number.is ∙ ap (λ k. get_or k c.in_ok-number.number c.index-as_slice-number.result) c.as_slice.ensures.keys
    ∙ same_default c.insert_full.new.self.keys c.in_ok-number.number c.index-as_slice-number.result [] (slice_get_within c.insert_full.new.self.keys c.in_ok-number.number c.in_ok-number.ensures.stored.0 c.in_ok-number.ensures.stored.1)
    ∙ row_at c.args.self.now.sets.keys c.insert_full.new.self.keys c.args.row c.in_ok-number.number c.in_ok-number.new c.in_ok-number.ensures.added c.in_ok-number.ensures.keys c.in_ok-number.ensures.stored in
    let is : found_of g.T.Theory.label_of class ≡ (record { row = c.args.row; nodes = c.args.over.now.nodes; constructor = c.args.over.now.constructor; label = g.T.Theory.label_of c.args.value.now; children = c.args.over.now.children.now }) =
    IfOk-at_ok _ made c.class-made.ensures ∙ (λ j. record { row = row j; nodes = c.args.over.now.nodes; constructor = c.args.over.now.constructor; label = g.T.Theory.label_of c.args.value.now; children = c.args.over.now.children.now }) in
    elim c.else-not-new.branch [
      | else-not-new-via-then-not-new+else-not-is_dearer w ↦
          (offer_cheaper g.T.Theory.label_of c.args.self.now (record { sets = c.insert_full.new.self; best = c.keep.new.best; order = c.push.new.self }) c.requires.kept (record { row = c.args.row; nodes = c.args.over.now.nodes; constructor = c.args.over.now.constructor; label = g.T.Theory.label_of c.args.value.now; children = c.args.over.now.children.now }) c.in_ok-number.number c.in_ok-number.new c.in_ok-number.ensures.added c.in_ok-number.ensures.keys c.in_ok-number.ensures.stored class is c.requires.capped c.in_ok-push.ensures.permutation c.in_ok-push.ensures.heap_order kept w.if-not-new.true
          (ap (λ o. is_dearer o c.args.over.now.nodes) (sym (w.index.ensures ∙ same_default c.args.self.now.best.items c.in_ok-number.number w.index.result.now None (omega (arith, number_there c.args.self.now.sets.keys c.insert_full.new.self.keys c.args.row c.in_ok-number.number c.in_ok-number.new c.in_ok-number.ensures.added c.in_ok-number.ensures.keys c.in_ok-number.ensures.stored w.if-not-new.true, c.requires.kept.many)))) ∙ sym w.is_dearer.ensures ∙ w.if-not-is_dearer.false))
      | else-not-new-via-else-not-new w ↦
          (offer_first g.T.Theory.label_of c.args.self.now (record { sets = c.insert_full.new.self; best = c.keep.new.best; order = c.push.new.self }) c.requires.kept (record { row = c.args.row; nodes = c.args.over.now.nodes; constructor = c.args.over.now.constructor; label = g.T.Theory.label_of c.args.value.now; children = c.args.over.now.children.now }) c.in_ok-number.number c.in_ok-number.new c.in_ok-number.ensures.added c.in_ok-number.ensures.keys c.in_ok-number.ensures.stored class is c.requires.capped c.in_ok-push.ensures.permutation c.in_ok-push.ensures.heap_order kept w.if-not-new.false)
    ])

pub index-requires : goal.index-requires
index-requires g c = omega (arith, number_there c.args.self.now.sets.keys c.insert_full.new.self.keys c.args.row c.in_ok-number.number c.in_ok-number.new c.in_ok-number.ensures.added c.in_ok-number.ensures.keys c.in_ok-number.ensures.stored c.if-not-new.true, c.requires.kept.many, c.args.self.now.best.ok.0)

pub keep-requires : goal.keep-requires
keep-requires g c = elim c.else-not-new.branch [
  | else-not-new-via-then-not-new+else-not-is_dearer w ↦ omega (arith, number_there c.args.self.now.sets.keys c.insert_full.new.self.keys c.args.row c.in_ok-number.number c.in_ok-number.new c.in_ok-number.ensures.added c.in_ok-number.ensures.keys c.in_ok-number.ensures.stored w.if-not-new.true, c.requires.kept.many)
  | else-not-new-via-else-not-new w ↦ omega (arith, number_new c.args.self.now.sets.keys c.insert_full.new.self.keys c.args.row c.in_ok-number.number c.in_ok-number.new c.in_ok-number.ensures.added c.in_ok-number.ensures.keys c.in_ok-number.ensures.stored w.if-not-new.false, c.requires.kept.many)
]

pub returns-in_err-number : goal.returns-in_err-number
returns-in_err-number g c = IfOk-from_err c.from_residual.result _ c.from_residual.ensures.0

pub returns-in_err-push : goal.returns-in_err-push
returns-in_err-push g c = IfOk-from_err c.from_residual-in_err-push.result _ c.from_residual-in_err-push.ensures.0
