use Rattle.std.proofs.Common.{◌≡◌, ◌<◌, [], All, map, get_or, length, sym, ap, subst, ◌∙◌, arith}
use Rattle.std.specs.List.{flat_map}
use Rattle.std.proofs.lemmas.List.{length-map}
use Rattle.sta_core.specs.Machine.{plain_rule}
use Rattle.sta_classes.specs.Rows.{lists_of}
use Rattle.sta_classes.specs.Rules.{plain_rules}
use Rattle.sta_min.specs.Heads.{plain_head, AreHeads, IsGoodHead}
use Rattle.sta_min.specs.Parents.{plain_parents, AreAllParents}
use Rattle.sta_min.specs.Written.{AreRulesOfBlocks}
use Rattle.sta_min.proofs.Building.{good_heads, known_heads, known_parents, good_parents, all_rules, rules_push}
use Rattle.sta_min.proofs.least.block_rules.Goals as goal

pub all_parents-requires-clause-heads : goal.all_parents-requires-clause-heads
all_parents-requires-clause-heads g c =
    let t = c.args.steps.now.table.now in
    let blocks = c.args.blocks.now in
    let heads = c.in_ok-heads.heads.items in
    let are_heads : AreHeads t (length blocks.firsts.items) (length t.machine.ranks) (map plain_head heads) = known_heads t c.len.result (length blocks.firsts.items) c.args.ranks.now heads (omega (arith, c.len.ensures, blocks.firsts.ok.0)) c.requires.ranks c.in_ok-heads.ensures in
    subst (λ l. All (λ h. IsGoodHead t (length l) (plain_head h)) c.deref-2.result.now) (sym c.deref.ensures.value) (good_heads t blocks.firsts.items blocks.dense.items c.requires.blocks heads c.deref-2.result.now c.deref-2.ensures.value are_heads)

pub rules_of_blocks-requires-clause-parents : goal.rules_of_blocks-requires-clause-parents
rules_of_blocks-requires-clause-parents g c =
    let t = c.args.steps.now.table.now in
    let blocks = c.args.blocks.now in
    let values = lists_of c.args.steps.now.values.items in
    let heads = c.in_ok-heads.heads.items in
    let parents = c.in_ok-parents.parents.items in
    let are_heads : AreHeads t (length blocks.firsts.items) (length t.machine.ranks) (map plain_head heads) = known_heads t c.len.result (length blocks.firsts.items) c.args.ranks.now heads (omega (arith, c.len.ensures, blocks.firsts.ok.0)) c.requires.ranks c.in_ok-heads.ensures in
    let are_parents : AreAllParents g.T.Theory.label_of g.T.Theory.atom_holds t values blocks.firsts.items (map plain_head heads) (length (map plain_head heads)) (map plain_parents parents) =
    known_parents g.T.Theory.label_of g.T.Theory.atom_holds t values c.deref.result.now blocks.firsts.items c.deref.ensures.value heads c.deref-2.result.now c.deref-2.ensures.value parents c.in_ok-parents.ensures in
    good_parents t blocks.firsts.items blocks.dense.items c.requires.blocks g.T.Theory.label_of g.T.Theory.atom_holds values (map plain_head heads) are_heads parents c.deref-3.result.now c.deref-3.ensures.value are_parents

pub joined-requires : goal.joined-requires
joined-requires g c =
    let many : length c.args.blocks.now.firsts.items ≡ length c.deref-4.result.now = sym c.in_ok-rules.ensures.many ∙ length-map c.in_ok-rules.rules.items (λ those. map plain_rule those.items) ∙ ap length (sym c.deref-4.ensures.value) in
    subst (λ n. All (λ i. i < n) c.args.finals.now) many c.requires.finals

pub returns : goal.returns
returns g c =
    let t = c.args.steps.now.table.now in
    let blocks = c.args.blocks.now in
    let values = lists_of c.args.steps.now.values.items in
    let heads = c.in_ok-heads.heads.items in
    let parents = c.in_ok-parents.parents.items in
    let rules = c.in_ok-rules.rules.items in
    let are_heads : AreHeads t (length blocks.firsts.items) (length t.machine.ranks) (map plain_head heads) = known_heads t c.len.result (length blocks.firsts.items) c.args.ranks.now heads (omega (arith, c.len.ensures, blocks.firsts.ok.0)) c.requires.ranks c.in_ok-heads.ensures in
    let are_parents : AreAllParents g.T.Theory.label_of g.T.Theory.atom_holds t values blocks.firsts.items (map plain_head heads) (length (map plain_head heads)) (map plain_parents parents) =
    known_parents g.T.Theory.label_of g.T.Theory.atom_holds t values c.deref.result.now blocks.firsts.items c.deref.ensures.value heads c.deref-2.result.now c.deref-2.ensures.value parents c.in_ok-parents.ensures in
    all_rules t blocks.firsts.items blocks.dense.items c.requires.blocks g.T.Theory.label_of g.T.Theory.atom_holds values g.T.Atom.PartialEq.eq (map plain_head heads) are_heads (map plain_parents parents) are_parents c.args.finals.now c.requires.finals
    (plain_rules rules) (plain_rules c.push.new.self.items) (map plain_rule c.in_ok-last.last.items)
    (subst (λ l. AreRulesOfBlocks g.T.Atom.PartialEq.eq g.T.Theory.atom_holds t blocks.dense.items (map plain_parents l) (length blocks.firsts.items) (plain_rules rules)) c.deref-3.ensures.value c.in_ok-rules.ensures)
    (c.in_ok-last.ensures ∙ ap (λ l. flat_map (λ i. get_or (plain_rules l) i []) c.args.finals.now) c.deref-4.ensures.value)
    (rules_push rules c.push.new.self.items c.in_ok-last.last c.in_ok-push.ensures.items)
