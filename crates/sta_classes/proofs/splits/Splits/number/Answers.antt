use Rattle.sta_classes.specs.Stop.{ClassStopsFor}
use Rattle.sta_classes.specs.Applying.{guards_in, AreAt}
use Rattle.sta_core.specs.Machine.{plain_rule}
use Rattle.model_tree.specs.Formula.{EveryAtom}
use Rattle.std.proofs.Common.{◌≡◌, ◌<◌, ◌∙◌, [], length, get_or, ap, sym, subst, subst₂, refl, All, arith}
use Rattle.std.proofs.lemmas.Option.{slice_get_within}
use Rattle.model_sta.proofs.Reached.{same_default}
use Rattle.sta_classes.specs.Bits.{both}
use Rattle.sta_classes.specs.Rows.{lists_of}
use Rattle.sta_classes.specs.Splits.{AreTold, AreAllTold}
use Rattle.sta_classes.proofs.Keys.{all_told_more, all_told_same, told_numbered}
use Rattle.sta_classes.proofs.Meet.{both_length}
use Rattle.sta_classes.proofs.Offered.{row_at, is_new, was_there}
use Rattle.sta_classes.proofs.SameGuards.{told_likes, likes_low}
use Rattle.sta_classes.proofs.Keeping.{stopped}
use Rattle.sta_classes.proofs.splits.Splits.number.Goals as goal
use Rattle.sta_classes.proofs.splits.Splits.number.Goals.{then-new+in_ok-tell, else-new}

pub returns : goal.returns
returns g c =
    let told : AreAllTold (g.T.Theory.meaning c.args.theory.now) c.args.own.now.list.items c.if-new.self =
    elim c.if-new.branch [
      | then-new+in_ok-tell w ↦
          let at : w.index-as_slice-number.result ≡ c.in_ok-open.open =
          w.index-as_slice-number.is ∙ ap (λ k. get_or k c.in_ok-number.number w.index-as_slice-number.result) w.as_slice.ensures.keys
          ∙ same_default c.insert_full.new.self.keys c.in_ok-number.number w.index-as_slice-number.result [] (slice_get_within c.insert_full.new.self.keys c.in_ok-number.number c.in_ok-number.ensures.stored.0 c.in_ok-number.ensures.stored.1)
          ∙ row_at c.args.self.now.sets.keys c.insert_full.new.self.keys c.in_ok-open.open c.in_ok-number.number c.in_ok-number.new c.in_ok-number.ensures.added c.in_ok-number.ensures.keys c.in_ok-number.ensures.stored in
          let (labels, are, items) = w.in_ok-tell.ensures in
          let told : AreTold (g.T.Theory.meaning c.args.theory.now) c.args.own.now.list.items c.in_ok-open.open labels.items =
          subst (λ z. AreTold (g.T.Theory.meaning c.args.theory.now) z c.in_ok-open.open labels.items) w.deref-then-new.ensures.value (subst (λ z. AreTold (g.T.Theory.meaning c.args.theory.now) w.deref-then-new.result.now z labels.items) at are) in
          subst (AreAllTold (g.T.Theory.meaning c.args.theory.now) c.args.own.now.list.items) (sym w.self-is)
          (all_told_more (g.T.Theory.meaning c.args.theory.now) c.args.own.now.list.items c.args.self.now _ c.in_ok-open.open labels
          (is_new c.args.self.now.sets.keys c.insert_full.new.self.keys c.in_ok-open.open c.in_ok-number.number c.in_ok-number.new c.in_ok-number.ensures.added c.in_ok-number.ensures.keys c.in_ok-number.ensures.stored w.if-new.true) items told c.requires.told)
      | else-new w ↦
          subst (AreAllTold (g.T.Theory.meaning c.args.theory.now) c.args.own.now.list.items) (sym w.self-is)
          (all_told_same (g.T.Theory.meaning c.args.theory.now) c.args.own.now.list.items c.args.self.now _
          (was_there c.args.self.now.sets.keys c.insert_full.new.self.keys c.in_ok-open.open c.in_ok-number.number c.in_ok-number.new c.in_ok-number.ensures.added c.in_ok-number.ensures.keys c.in_ok-number.ensures.stored w.if-new.false) refl c.requires.told)
    ] in
    let keys : c.if-new.self.sets ≡ c.insert_full.new.self = elim c.if-new.branch [ then-new+in_ok-tell w ↦ ap (λ s. s.sets) w.self-is | else-new w ↦ ap (λ s. s.sets) w.self-is ] in
    let numbered =
    told_numbered (g.T.Theory.meaning c.args.theory.now) c.args.own.now.list.items c.if-new.self told c.in_ok-number.number c.in_ok-open.open
    (subst (λ z. c.in_ok-number.number < length z.keys) (sym keys) (slice_get_within c.insert_full.new.self.keys c.in_ok-number.number c.in_ok-number.ensures.stored.0 c.in_ok-number.ensures.stored.1))
    (ap (λ z. get_or z.keys c.in_ok-number.number []) keys ∙ row_at c.args.self.now.sets.keys c.insert_full.new.self.keys c.in_ok-open.open c.in_ok-number.number c.in_ok-number.new c.in_ok-number.ensures.added c.in_ok-number.ensures.keys c.in_ok-number.ensures.stored) in
    let are_open : AreAt c.args.own.now.likes.items (length c.args.own.now.likes.items) (both c.args.own.now.guarded c.args.key.now) c.in_ok-open.open = subst₂ (λ n likes. AreAt likes n (both c.args.own.now.guarded c.args.key.now) c.in_ok-open.open) (omega (arith, c.len.ensures, c.args.own.now.likes.ok.0)) c.deref.ensures.value c.in_ok-open.ensures in
    record {
      met = elim c.if-new.branch [ then-new+in_ok-tell w ↦ ap (λ s. s.met) w.self-is | else-new w ↦ ap (λ s. s.met) w.self-is ];
      all = told;
      low = numbered.0;
      told = told_likes (g.T.Theory.meaning c.args.theory.now) g.T.Atom.PartialEq.eq g.met.T.Theory.equal_atoms c.args.own.now.list.items c.args.own.now.likes.items c.requires.fit.likes (both c.args.own.now.guarded c.args.key.now) c.in_ok-open.open (both_length c.args.own.now.guarded c.args.key.now c.requires.many ∙ c.requires.fit.guarded) are_open (get_or (lists_of c.if-new.self.told.items) c.in_ok-number.number []) numbered.1;
    }

pub numbers_at-requires : goal.numbers_at-requires
numbers_at-requires g c =
    let many : length c.args.own.now.likes.items ≡ c.len.result = omega (arith, c.len.ensures, c.args.own.now.likes.ok.0) in
    let long : length c.args.own.now.guarded ≡ length c.deref.result.now = c.requires.fit.guarded ∙ sym c.requires.fit.likes.many ∙ ap length (sym c.deref.ensures.value) in
    record {
      low = subst₂ (λ n likes. All (λ like. like < n) likes) many (sym c.deref.ensures.value) (likes_low c.args.own.now.list.items g.T.Atom.PartialEq.eq c.args.own.now.likes.items c.requires.fit.likes);
      first = long;
      second = c.requires.many ∙ long;
    }

pub returns-in_err-open : goal.returns-in_err-open
returns-in_err-open g c = stopped c.from_residual.result _ _ _ c.from_residual.ensures.1 tt

pub returns-in_err-number : goal.returns-in_err-number
returns-in_err-number g c = stopped c.from_residual-in_err-number.result _ _ _ c.from_residual-in_err-number.ensures.1 tt

pub returns-in_err-tell : goal.returns-in_err-tell
returns-in_err-tell g c = stopped c.from_residual-in_err-tell.result _ _ c.in_err-tell.field-0.0 c.from_residual-in_err-tell.ensures.1 (subst (λ l. ClassStopsFor (g.T.Theory.meaning c.args.theory.now) ⊥ (guards_in l) c.in_err-tell.field-0.0) c.deref-then-new.ensures.value c.in_err-tell.ensures)

pub tell-requires : goal.tell-requires
tell-requires g c = record { fit = subst (λ l. All (λ x. EveryAtom (g.T.Theory.atom_fits c.args.theory.now) (plain_rule x.rule.now).guard) l) (sym c.deref-then-new.ensures.value) c.requires.fit.fit }
