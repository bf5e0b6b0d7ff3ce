use Rattle.std.proofs.Common.{◌≡◌, true, false, ◌∙◌, sym}
use Rattle.label_core.proofs.Joins.{none_left, none_right, far_left, far_right}
use Rattle.label_core.proofs.Pairs.{whole}
use Rattle.label_core.proofs.pair.Pair.joined.Goals as goal

pub returns-in-Unsat : goal.returns-in-Unsat
returns-in-Unsat g c = none_left g.A.Theory.atom_holds g.B.Theory.atom_holds c.args._literals.now (g.A.Theory.meaning c.args.self.now.left).has (g.B.Theory.meaning c.args.self.now.right).has (rw c.in-Unsat.is at c.requires.left)

pub returns-in-Unsat-right : goal.returns-in-Unsat-right
returns-in-Unsat-right g c = none_right g.A.Theory.atom_holds g.B.Theory.atom_holds c.args._literals.now (g.A.Theory.meaning c.args.self.now.left).has (g.B.Theory.meaning c.args.self.now.right).has (rw c.in-Unsat-right.is at c.requires.right)

pub returns-in-Unsat-right-2 : goal.returns-in-Unsat-right-2
returns-in-Unsat-right-2 g c = none_right g.A.Theory.atom_holds g.B.Theory.atom_holds c.args._literals.now (g.A.Theory.meaning c.args.self.now.left).has (g.B.Theory.meaning c.args.self.now.right).has (rw c.in-Unsat-right-2.is at c.requires.right)

pub returns-in-Sat-right : goal.returns-in-Sat-right
returns-in-Sat-right g c =
    let left = rw c.in-Sat.is at c.requires.left in
    let right = rw c.in-Sat-right.is at c.requires.right in
    ((left.0, right.0), whole g.A.Theory.atom_holds g.B.Theory.atom_holds (g.A.Theory.label_of c.in-Sat.left) (g.B.Theory.label_of c.in-Sat-right.right) c.args._literals.now left.1 right.1)

pub returns-in-Sat : goal.returns-in-Sat
returns-in-Sat g c =
    let left = rw c.in-Sat.is at c.requires.left in
    let right = rw c.in-Wide-right.is at c.requires.right in
    (right.0, λ far. far_right g.A.Theory.atom_holds g.B.Theory.atom_holds c.args._literals.now (g.A.Theory.meaning c.args.self.now.left).has (g.B.Theory.meaning c.args.self.now.right).has (g.A.Theory.meaning c.args.self.now.left).keeps (g.B.Theory.meaning c.args.self.now.right).keeps (right.1 far) (g.A.Theory.label_of c.in-Sat.left) (g.met.A.Theory.keeps_labels c.args.self.now.left _ left.0) left.1)

pub returns-in-Sat-right-2 : goal.returns-in-Sat-right-2
returns-in-Sat-right-2 g c =
    let left = rw c.in-Wide.is at c.requires.left in
    let right = rw c.in-Sat-right-2.is at c.requires.right in
    (left.0, λ far. far_left g.A.Theory.atom_holds g.B.Theory.atom_holds c.args._literals.now (g.A.Theory.meaning c.args.self.now.left).has (g.B.Theory.meaning c.args.self.now.right).has (g.A.Theory.meaning c.args.self.now.left).keeps (g.B.Theory.meaning c.args.self.now.right).keeps (left.1 far) (g.B.Theory.label_of c.in-Sat-right-2.field-0) (g.met.B.Theory.keeps_labels c.args.self.now.right _ right.0) right.1)

pub returns-then-far : goal.returns-then-far
returns-then-far g c =
    let left = rw c.in-Wide.is at c.requires.left in
    let right = rw c.in-Wide-right-2.is at c.requires.right in
    let some = (left.1 ((c.far.ensures left.0.1).0 c.if-far.true)).0 in
    (right.0, λ far. far_right g.A.Theory.atom_holds g.B.Theory.atom_holds c.args._literals.now (g.A.Theory.meaning c.args.self.now.left).has (g.B.Theory.meaning c.args.self.now.right).has (g.A.Theory.meaning c.args.self.now.left).keeps (g.B.Theory.meaning c.args.self.now.right).keeps (right.1 far) some.0 (some.1) some.2)

pub returns : goal.returns
returns g c =
    let left = rw c.in-Wide.is at c.requires.left in
    (left.0, λ far. let no : false ≡ true = sym c.if-far.false ∙ (c.far.ensures left.0.1).1 far in absurd cc)
