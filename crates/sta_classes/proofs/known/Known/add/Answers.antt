use Rattle.std.proofs.lemmas.Result.{IfOk-at_ok, on_ok_weaker}
use Rattle.sta_classes.proofs.Keeping.{kept_added}
use Rattle.sta_classes.proofs.known.Known.add.Goals as goal

pub returns : goal.returns
returns g c = record {
  classes = on_ok_weaker c.added.result (λ h. (kept_added c.args.class c.add_to_all-told.result c.kept.result c.args.self.now.classes.items c.added.new.list.items c.kept.ensures h).1) c.added.ensures;
  many = on_ok_weaker c.added.result (λ h. IfOk-at_ok _ (kept_added c.args.class c.add_to_all-told.result c.kept.result c.args.self.now.classes.items c.added.new.list.items c.kept.ensures h).0 c.add_to_all-told.ensures.many) c.added.ensures;
  each = on_ok_weaker c.added.result (λ h. IfOk-at_ok _ (kept_added c.args.class c.add_to_all-told.result c.kept.result c.args.self.now.classes.items c.added.new.list.items c.kept.ensures h).0 c.add_to_all-told.ensures.each) c.added.ensures;
}
