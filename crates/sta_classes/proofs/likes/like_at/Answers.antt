use Rattle.std.proofs.Common.{sym, ap₂, ◌∙◌, arith}
use Rattle.label_core.specs.Formula.{plain_formula}
use Rattle.label_core.specs.SameFormula.{same_formula}
use Rattle.sta_classes.specs.declared.rules.Owned.{Owned}
use Rattle.sta_classes.proofs.SameGuards.{like_itself, like_other}
use Rattle.sta_classes.proofs.likes.like_at.Goals as goal

pub returns-in_default : goal.returns-in_default
returns-in_default g c = like_itself c.args.list.now g.A.PartialEq.eq g.met.A.Eq.laws c.args.number c.requires

pub returns-then-like-list : goal.returns-then-like-list
returns-then-like-list g c = like_itself c.args.list.now g.A.PartialEq.eq g.met.A.Eq.laws c.args.number c.requires

pub returns-else-eq : goal.returns-else-eq
returns-else-eq g c = like_itself c.args.list.now g.A.PartialEq.eq g.met.A.Eq.laws c.args.number c.requires

pub returns-then-eq : goal.returns-then-eq
returns-then-eq g c = like_other c.args.list.now g.A.PartialEq.eq c.args.number c.in-Some.first.now c.index-list-number.result c.index-list-like.result c.requires (omega (arith, c.if-like-list.false)) c.index-list-number.is c.index-list-like.is
    (ap₂ (λ (y x : Owned g.row.A.Denot). same_formula g.A.PartialEq.eq (plain_formula y.rule.now.guard) (plain_formula x.rule.now.guard)) c.index-list-like.is c.index-list-number.is ∙ sym c.eq.ensures ∙ c.if-eq.true)
