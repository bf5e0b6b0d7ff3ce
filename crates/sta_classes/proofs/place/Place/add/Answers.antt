use Rattle.std.proofs.Common.{ℕ, List, ◌≡◌, ◌++◌, ◌∷◌, [], cond, length, refl, ap, ◌∙◌, arith}
use Rattle.std.proofs.lemmas.Result.{IfOk-at_ok, IfOk-from_err, on_ok_weaker}
use Rattle.model_sta.specs.Sets.{has}
use Rattle.sta_classes.proofs.Loops.{filled_length, filled_more, filled_all}
use Rattle.sta_classes.proofs.Keeping.{kept_added}
use Rattle.sta_classes.proofs.Places.{next_numbered, next_longer}
use Rattle.sta_classes.proofs.place.Place.add.Goals as goal

pub put-requires : goal.put-requires
put-requires c = omega (arith, ap length c.loop-i.invariant, filled_length (has c.args.row.now) c.loop-i.i c.args.self.now.states.items, c.loop-i-test.true, c.len-i-end.ensures, c.args.self.now.states.ok.0)

pub loop-i-preserved : goal.loop-i-preserved
loop-i-preserved c =
    filled_more (has c.args.row.now) c.has.result c.loop-i.i c.args.self.now.states.items c.index.result.now c.loop-i.key c.put.new.self (omega (arith, c.loop-i-test.true, c.len-i-end.ensures, c.args.self.now.states.ok.0)) c.index.ensures c.has.ensures c.put.ensures c.loop-i.invariant

pub returns : goal.returns
returns c = on_ok_weaker c.added.result (λ h.
    let (done, items) = kept_added c.in_ok-kind.kind c.note-noted.result c.kept.result c.args.self.now.kind_of.items c.added.new.list.items c.kept.ensures h in
    let noted : c.note-noted.new.firsts.items ≡ cond c.in_ok-kind.new (c.args.self.now.firsts.items ++ length c.args.self.now.kind_of.items ∷ []) c.args.self.now.firsts.items =
    IfOk-at_ok _ done c.note-noted.ensures ∙ ap (λ n. cond c.in_ok-kind.new (c.args.self.now.firsts.items ++ n ∷ []) c.args.self.now.firsts.items) (c.len-2.ensures ∙ c.args.self.now.kind_of.ok.0) in
    record {
      states_are = refl {A = List ℕ} {a = c.args.self.now.states.items};
      numbered = λ rows h.
          next_numbered c.args.self.now.states.items c.args.self.now.kind_of.items c.args.self.now.firsts.items c.args.self.now.kinds.keys rows c.args.row.now h c.added.new.list.items c.note-noted.new.firsts.items c.insert_full.new.self.keys c.in_ok-kind.kind c.in_ok-kind.new c.loop-i.key
          (filled_all (has c.args.row.now) c.loop-i.i c.args.self.now.states.items c.loop-i.key (omega (arith, c.loop-i-test.false, c.len-i-end.ensures, c.args.self.now.states.ok.0)) c.loop-i.invariant) c.in_ok-kind.ensures.added c.in_ok-kind.ensures.keys c.in_ok-kind.ensures.stored items noted;
      longer = next_longer c.args.self.now.kind_of.items c.args.self.now.firsts.items c.note-noted.new.firsts.items c.in_ok-kind.new noted;
    }) c.added.ensures

pub returns-in_err-key : goal.returns-in_err-key
returns-in_err-key c = IfOk-from_err c.from_residual.result _ c.from_residual.ensures.0

pub returns-in_err-kind : goal.returns-in_err-kind
returns-in_err-kind c = IfOk-from_err c.from_residual-in_err-kind.result _ c.from_residual-in_err-kind.ensures.0
