use Rattle.std.proofs.Common.{ℕ, ◌≡◌, ◌<◌, All, get_or, length, refl, sym, subst, ◌∙◌, arith}
use Rattle.model_sta.specs.Sets.{has}
use Rattle.sta_classes.specs.Plain.{class_row}
use Rattle.sta_classes.specs.Rows.{lists_of}
use Rattle.sta_classes.specs.Rules.{plain_rules}
use Rattle.sta_theory.specs.Minimal.{is_among}
use Rattle.sta_min.specs.Kinds.{nested}
use Rattle.sta_min.specs.Tables.{IsSpace}
use Rattle.sta_min.specs.Written.{AreAllRules}
use Rattle.sta_min.proofs.Spaces.{space_from}
use Rattle.sta_min.proofs.Writing.{are_blocks}
use Rattle.sta_min.proofs.Owing.{all_fit, is_minimal}
use Rattle.sta_min.proofs.least.least_of.Goals as goal

pub partition-requires-clause-space : goal.partition-requires-clause-space
partition-requires-clause-space g c =
    let t = c.args.steps.now.table.now in
    space_from (g.T.Theory.meaning c.args.theory.now) t.machine t t refl refl (lists_of c.args.steps.now.values.items) c.requires.read.values c.requires.read.table c.requires.kinds c.args.ranks.now c.requires.ranks
    c.in_ok-kinds.kinds.items c.deref.result.now c.in_ok-kinds.ensures c.deref.ensures.value

pub finals_of-requires-clause-known : goal.finals_of-requires-clause-known
finals_of-requires-clause-known g c =
    let M = g.T.Theory.meaning c.args.theory.now in
    let keeps = g.met.T.Theory.keeps_labels c.args.theory.now in
    let t = c.args.steps.now.table.now in
    let values = lists_of c.args.steps.now.values.items in
    let blocks = c.in_ok-blocks.blocks in
    let space : IsSpace g.T.Theory.label_of g.T.Theory.atom_holds t values (nested c.deref.result.now) M =
    space_from M t.machine t t refl refl values c.requires.read.values c.requires.read.table c.requires.kinds c.args.ranks.now c.requires.ranks c.in_ok-kinds.kinds.items c.deref.result.now c.in_ok-kinds.ensures c.deref.ensures.value in
    subst (All (λ k. k < length t.found)) (sym c.deref-2.ensures.value)
    (are_blocks M keeps g.T.Atom.PartialEq.eq t values (nested c.deref.result.now) space c.args.state blocks.firsts.items blocks.dense.items c.in_ok-blocks.ensures.partition c.in_ok-blocks.ensures.few).known

pub block_rules-requires-clause-blocks : goal.block_rules-requires-clause-blocks
block_rules-requires-clause-blocks g c =
    let M = g.T.Theory.meaning c.args.theory.now in
    let keeps = g.met.T.Theory.keeps_labels c.args.theory.now in
    let t = c.args.steps.now.table.now in
    let values = lists_of c.args.steps.now.values.items in
    let blocks = c.in_ok-blocks.blocks in
    let space : IsSpace g.T.Theory.label_of g.T.Theory.atom_holds t values (nested c.deref.result.now) M =
    space_from M t.machine t t refl refl values c.requires.read.values c.requires.read.table c.requires.kinds c.args.ranks.now c.requires.ranks c.in_ok-kinds.kinds.items c.deref.result.now c.in_ok-kinds.ensures c.deref.ensures.value in
    are_blocks M keeps g.T.Atom.PartialEq.eq t values (nested c.deref.result.now) space c.args.state blocks.firsts.items blocks.dense.items c.in_ok-blocks.ensures.partition c.in_ok-blocks.ensures.few

pub block_rules-requires-clause-finals : goal.block_rules-requires-clause-finals
block_rules-requires-clause-finals g c =
    let blocks = c.in_ok-blocks.blocks in
    subst (All (λ i. i < length blocks.firsts.items)) (sym c.deref-3.ensures.value) (subst (λ l. All (λ i. i < length l) c.in_ok-finals.finals.items) c.deref-2.ensures.value c.in_ok-finals.ensures.low)

pub lang_of-requires : goal.lang_of-requires
lang_of-requires g c =
    let M = g.T.Theory.meaning c.args.theory.now in
    let keeps = g.met.T.Theory.keeps_labels c.args.theory.now in
    let t = c.args.steps.now.table.now in
    let values = lists_of c.args.steps.now.values.items in
    let blocks = c.in_ok-blocks.blocks in
    let finals = c.in_ok-finals.finals.items in
    let space : IsSpace g.T.Theory.label_of g.T.Theory.atom_holds t values (nested c.deref.result.now) M =
    space_from M t.machine t t refl refl values c.requires.read.values c.requires.read.table c.requires.kinds c.args.ranks.now c.requires.ranks c.in_ok-kinds.kinds.items c.deref.result.now c.in_ok-kinds.ensures c.deref.ensures.value in
    let low : All (λ i. i < length blocks.firsts.items) finals = subst (λ l. All (λ i. i < length l) finals) c.deref-2.ensures.value c.in_ok-finals.ensures.low in
    let all : AreAllRules g.T.Atom.PartialEq.eq g.T.Theory.label_of g.T.Theory.atom_holds t values blocks.firsts.items blocks.dense.items finals (plain_rules c.in_ok-rules.rules.items) =
    subst (λ l. AreAllRules g.T.Atom.PartialEq.eq g.T.Theory.label_of g.T.Theory.atom_holds t values blocks.firsts.items blocks.dense.items l (plain_rules c.in_ok-rules.rules.items)) c.deref-3.ensures.value c.in_ok-rules.ensures in
    all_fit M keeps g.T.Atom.PartialEq.eq t values (nested c.deref.result.now) space c.args.state blocks.firsts.items blocks.dense.items c.in_ok-blocks.ensures.partition finals low (plain_rules c.in_ok-rules.rules.items) all c.args.ranks.now c.requires.ranks c.in_ok-rules.rules.items refl

pub returns : goal.returns
returns g c =
    let M = g.T.Theory.meaning c.args.theory.now in
    let keeps = g.met.T.Theory.keeps_labels c.args.theory.now in
    let t = c.args.steps.now.table.now in
    let values = lists_of c.args.steps.now.values.items in
    let blocks = c.in_ok-blocks.blocks in
    let finals = c.in_ok-finals.finals.items in
    let space : IsSpace g.T.Theory.label_of g.T.Theory.atom_holds t values (nested c.deref.result.now) M =
    space_from M t.machine t t refl refl values c.requires.read.values c.requires.read.table c.requires.kinds c.args.ranks.now c.requires.ranks c.in_ok-kinds.kinds.items c.deref.result.now c.in_ok-kinds.ensures c.deref.ensures.value in
    let low : All (λ i. i < length blocks.firsts.items) finals = subst (λ l. All (λ i. i < length l) finals) c.deref-2.ensures.value c.in_ok-finals.ensures.low in
    let all : AreAllRules g.T.Atom.PartialEq.eq g.T.Theory.label_of g.T.Theory.atom_holds t values blocks.firsts.items blocks.dense.items finals (plain_rules c.in_ok-rules.rules.items) =
    subst (λ l. AreAllRules g.T.Atom.PartialEq.eq g.T.Theory.label_of g.T.Theory.atom_holds t values blocks.firsts.items blocks.dense.items l (plain_rules c.in_ok-rules.rules.items)) c.deref-3.ensures.value c.in_ok-rules.ensures in
    let are_final : (i : ℕ) → i < length blocks.firsts.items → is_among finals i ≡ has (class_row t (get_or blocks.firsts.items i 0)) c.args.state =
    subst (λ l. (i : ℕ) → i < length l → is_among finals i ≡ has (class_row t (get_or l i 0)) c.args.state) c.deref-2.ensures.value c.in_ok-finals.ensures.finals in
    let count : c.len-count.result ≡ length blocks.firsts.items = omega (arith, c.len-count.ensures, blocks.firsts.ok.0) in
    is_minimal M keeps g.T.Atom.PartialEq.eq t values (nested c.deref.result.now) space c.args.state blocks.firsts.items blocks.dense.items c.in_ok-blocks.ensures.partition finals low (plain_rules c.in_ok-rules.rules.items) all
    (g.met.T.Theory.equal_is_own c.args.theory.now) g.met.T.Atom.Eq.laws (g.T.Theory.atom_fits c.args.theory.now) (g.met.T.Theory.equal_atoms_fit c.args.theory.now) c.requires.atoms are_final
    (record { lang = c.in_ok-lang.lang; finals = c.in_ok-finals.finals; count = c.len-count.result }) (c.in_ok-lang.ensures.ranks ∙ c.requires.ranks) c.in_ok-lang.ensures.rules (c.in_ok-lang.ensures.state ∙ count) count refl c.in_ok-finals.ensures.ascending
