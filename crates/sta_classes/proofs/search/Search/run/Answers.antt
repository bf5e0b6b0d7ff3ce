use Rattle.std.proofs.Common.{length, sym, ap, subst, arith}
use Rattle.sta_classes.specs.Rules.{plain_rules, meaning_of}
use Rattle.sta_classes.specs.Rows.{class_rows}
use Rattle.sta_classes.specs.Searched.{AreSplit, IsSound}
use Rattle.sta_classes.proofs.Keys.{split_none}
use Rattle.std.proofs.lemmas.Result.{IfOk-at_ok}
use Rattle.sta_classes.proofs.Turns.{sound_first}
use Rattle.sta_classes.proofs.Keeping.{kept_both, stopped}
use Rattle.sta_classes.proofs.search.Search.run.Goals as goal

pub returns : goal.returns
returns g c = kept_both c.go_on-ended.new.course.known _ _ c.go_on-ended.result c.kept.result c.kept.ensures c.go_on-ended.ensures

pub go_on-ended-requires : goal.go_on-ended-requires
go_on-ended-requires g c =
    let (known_is, splits_are) = c.in_ok-known.ensures in
    let none = IfOk-at_ok _ known_is c.new-begun.ensures.none in
    record {
      ready = c.requires.ready;
      begun = record {
        none = none;
        under = record {
          kinds = IfOk-at_ok _ known_is c.new-begun.ensures.kinds;
          sound = subst (λ z. IsSound c.args.self.now.ranks.now (g.T.Theory.meaning c.args.self.now.theory.now).has (g.T.Theory.meaning c.args.self.now.theory.now).keeps (meaning_of g.T.Theory.atom_holds (plain_rules c.args.self.now.rules.now)) g.T.Theory.label_of z c.new-pending.result) (sym none) (sound_first c.args.self.now.ranks.now (g.T.Theory.meaning c.args.self.now.theory.now).has (g.T.Theory.meaning c.args.self.now.theory.now).keeps (meaning_of g.T.Theory.atom_holds (plain_rules c.args.self.now.rules.now)) g.T.Theory.label_of c.new-pending.result c.new-pending.ensures.kept c.new-pending.ensures.none);
          splits = subst (λ z. AreSplit (g.T.Theory.meaning c.args.self.now.theory.now) c.args.self.now.ranks.now c.args.self.now.own.now (class_rows z) c.in_ok-known.splits.items) (sym none) (split_none (g.T.Theory.meaning c.args.self.now.theory.now) c.args.self.now.ranks.now c.args.self.now.own.now c.in_ok-known.splits.items (IfOk-at_ok _ splits_are c.no_splits.ensures));
          few = omega (arith, c.new-pending.ensures.kept.many, ap length c.new-pending.ensures.none);
        };
      };
    }

pub returns-in_err-known : goal.returns-in_err-known
returns-in_err-known g c = stopped c.from_residual.result _ _ _ c.from_residual.ensures.1 tt
