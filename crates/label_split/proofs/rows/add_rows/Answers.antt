use Rattle.label_split.specs.Noted.{AreAdded}
use Rattle.label_split.proofs.RowLists.{match_ok, ok_shown}
use Rattle.label_split.proofs.rows.add_rows.Goals as goal

pub returns-in_ok-both-in-Ok-Ok : goal.returns-in_ok-both-in-Ok-Ok
returns-in_ok-both-in-Ok-Ok g c =
    let longer = ok_shown c.lengthen.result _ c.in-Ok-Ok.is-1 _ c.lengthen.ensures in
    match_ok (λ found. AreAdded c.args.row.row c.args.sign found c.args.rows.now.items c.add_found-in-Ok-Ok.new.rows.items) c.args.other c.in-Ok-Ok.other c.in-Ok-Ok.is-0 (record {
      longer = c.lengthen.new.row;
      value = longer.0;
      signs = longer.1;
      between = c.add_found.new.rows.items;
      found = ok_shown c.add_found.result _ c.in_ok-both-in-Ok-Ok.ensures.0 _ c.add_found.ensures;
      pushed = ok_shown c.add_found-in-Ok-Ok.result _ c.in_ok-both-in-Ok-Ok.ensures.1 _ c.add_found-in-Ok-Ok.ensures;
    })
