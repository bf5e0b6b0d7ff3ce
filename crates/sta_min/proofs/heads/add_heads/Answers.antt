use Rattle.std.proofs.Common.{map}
use Rattle.sta_min.specs.Heads.{plain_head}
use Rattle.sta_min.proofs.Heading.{long_given, heads_given}
use Rattle.sta_min.proofs.heads.add_heads.Goals as goal

pub add_lists-requires : goal.add_lists-requires
add_lists-requires g c =
    long_given c.args.table.now c.args.constructor c.args.count c.args.rank c.requires.rank c.in_ok-free.free.items c.in_ok-free.ensures c.deref.result.now c.deref.ensures.value c.in_ok-choices.choices.items c.in_ok-choices.ensures
    c.deref-2.result.now c.deref-2.ensures.value c.in_ok-lists.lists.items c.in_ok-lists.ensures c.deref-3.result.now c.deref-4.result.now c.deref-3.ensures.value c.deref-4.ensures.value

pub returns : goal.returns
returns g c =
    heads_given c.args.table.now c.args.constructor c.args.count c.args.rank c.requires.rank c.in_ok-free.free.items c.in_ok-free.ensures c.deref.result.now c.deref.ensures.value c.in_ok-choices.choices.items c.in_ok-choices.ensures
    c.deref-2.result.now c.deref-2.ensures.value c.in_ok-lists.lists.items c.in_ok-lists.ensures c.deref-3.result.now c.deref-4.result.now c.deref-3.ensures.value c.deref-4.ensures.value
    (map plain_head c.args.heads.now.items) (map plain_head c.add_lists.new.heads.items) c.in_ok-add_lists.ensures
