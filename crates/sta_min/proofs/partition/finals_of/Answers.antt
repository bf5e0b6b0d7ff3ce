use Rattle.std.proofs.Common.{◌≡◌, ◌+◌, get_or, length, sym, ap, subst, ◌∙◌, arith}
use Rattle.model_sta.specs.Sets.{has}
use Rattle.sta_classes.specs.Plain.{class_row}
use Rattle.sta_min.proofs.Finals.{AreFinals, no_finals, not_final, new_final, finals_low, finals_are}
use Rattle.sta_min.proofs.partition.finals_of.Goals as goal
use Rattle.sta_min.proofs.partition.finals_of.Goals.{then-has+in_ok-push, else-has}

pub firsts-init : goal.firsts-init
firsts-init g c = no_finals (λ i. has (class_row c.args.table.now (get_or c.args.firsts.now i 0)) c.args.state) c.new-finals.result.items c.new-finals.ensures.items

pub firsts-preserved : goal.firsts-preserved
firsts-preserved g c = elim c.if-has.branch [
  | then-has+in_ok-push w ↦ new_final (λ i. has (class_row c.args.table.now (get_or c.args.firsts.now i 0)) c.args.state) c.firsts.i c.firsts.finals.items c.firsts.invariant (sym c.has.ensures ∙ w.if-has.true) c.if-has.finals.items (ap (λ v. v.items) w.finals-is ∙ w.in_ok-push.ensures.items)
  | else-has w ↦
      subst (AreFinals (λ i. has (class_row c.args.table.now (get_or c.args.firsts.now i 0)) c.args.state) (c.firsts.i + 1)) (sym (ap (λ v. v.items) w.finals-is))
      (not_final (λ i. has (class_row c.args.table.now (get_or c.args.firsts.now i 0)) c.args.state) c.firsts.i c.firsts.finals.items c.firsts.invariant (sym c.has.ensures ∙ w.if-has.false))
]

pub returns-clause-low : goal.returns-clause-low
returns-clause-low g c =
    finals_low (λ i. has (class_row c.args.table.now (get_or c.args.firsts.now i 0)) c.args.state) (length c.args.firsts.now) c.firsts.finals.items
    (subst (λ n. AreFinals (λ i. has (class_row c.args.table.now (get_or c.args.firsts.now i 0)) c.args.state) n c.firsts.finals.items) (let e : c.firsts.i ≡ length c.args.firsts.now = omega (arith, c.firsts-test.false, c.firsts.auto.i-end) in e) c.firsts.invariant)

pub returns-clause-ascending : goal.returns-clause-ascending
returns-clause-ascending g c = c.firsts.invariant.ascending

pub returns-clause-finals : goal.returns-clause-finals
returns-clause-finals g c =
    finals_are (λ i. has (class_row c.args.table.now (get_or c.args.firsts.now i 0)) c.args.state) (length c.args.firsts.now) c.firsts.finals.items
    (subst (λ n. AreFinals (λ i. has (class_row c.args.table.now (get_or c.args.firsts.now i 0)) c.args.state) n c.firsts.finals.items) (let e : c.firsts.i ≡ length c.args.firsts.now = omega (arith, c.firsts-test.false, c.firsts.auto.i-end) in e) c.firsts.invariant)
