use Rattle.std.proofs.Common.{◌≡◌, map, length, get_or, sym, ap, subst, ◌∙◌, arith}
use Rattle.std.proofs.lemmas.Simd.{map-map}
use Rattle.std.proofs.lemmas.List.{length-map}
use Rattle.model_sta.specs.Sets.{has}
use Rattle.model_sta.proofs.Reached.{same_default}
use Rattle.sta_classes.specs.Plain.{class_row}
use Rattle.sta_classes.specs.Rows.{lists_of}
use Rattle.sta_theory.proofs.Lists.{in_map}
use Rattle.sta_theory.specs.Rounds.{IsDense}
use Rattle.sta_min.specs.Firsts.{AreNumbers}
use Rattle.sta_min.specs.Kinds.{nested}
use Rattle.sta_min.specs.Nodes.{AreAllNodes}
use Rattle.sta_min.specs.Probes.{plain_probe, ArePlainProbes}
use Rattle.sta_min.specs.Rounds.{AreBelow, AreRefined}
use Rattle.sta_min.proofs.FirstOnes.{are_numbers}
use Rattle.sta_min.proofs.Ending.{good, are_below, is_partition}
use Rattle.sta_min.proofs.partition.partition.Goals as goal

pub all_nodes-requires-clause-probes : goal.all_nodes-requires-clause-probes
all_nodes-requires-clause-probes g c =
    let values = c.args.steps.now.values.items in
    let probes = map plain_probe c.in_ok-probes.probes.items in
    let counts : map (λ v. length v.items) c.deref.result.now ≡ map length (lists_of values) = ap (map (λ v. length v.items)) c.deref.ensures.value ∙ sym (map-map length (λ v. v.items) values) in
    let are : ArePlainProbes (nested c.args.kinds.now) (map length (lists_of values)) probes = subst (λ l. ArePlainProbes (nested c.args.kinds.now) l probes) counts c.in_ok-probes.ensures in
    λ k d low.
    good (g.T.Theory.meaning c.args.theory.now) c.args.steps.now.table.now (g.met.T.Theory.keeps_labels c.args.theory.now) (lists_of values) (nested c.args.kinds.now) c.requires.space probes are (plain_probe (get_or c.deref-2.result.now k d))
    (in_map plain_probe c.in_ok-probes.probes.items (get_or c.deref-2.result.now k d) (k, omega (arith, low, ap length c.deref-2.ensures.value), same_default c.in_ok-probes.probes.items k (get_or c.deref-2.result.now k d) d (omega (arith, low, ap length c.deref-2.ensures.value)) ∙ ap (λ l. get_or l k d) (sym c.deref-2.ensures.value)))

pub refined-requires-clause-numbers : goal.refined-requires-clause-numbers
refined-requires-clause-numbers g c =
    let many : length c.args.steps.now.table.now.found ≡ length c.deref-3.result.now = omega (arith, c.in_ok-nodes.ensures.nodes.many, length-map c.in_ok-nodes.nodes.items (λ v. v.items), ap length c.deref-3.ensures.value) in
    subst (λ n. AreNumbers n c.in_ok-start.start.items) many (are_numbers (λ k. has (class_row c.args.steps.now.table.now k) c.args.state) (length c.args.steps.now.table.now.found) c.in_ok-start.start.items c.in_ok-start.ensures)

pub refined-requires-clause-below : goal.refined-requires-clause-below
refined-requires-clause-below g c =
    let t = c.args.steps.now.table.now in
    let values = c.args.steps.now.values.items in
    let probes = map plain_probe c.in_ok-probes.probes.items in
    let counts : map (λ v. length v.items) c.deref.result.now ≡ map length (lists_of values) = ap (map (λ v. length v.items)) c.deref.ensures.value ∙ sym (map-map length (λ v. v.items) values) in
    let are : ArePlainProbes (nested c.args.kinds.now) (map length (lists_of values)) probes = subst (λ l. ArePlainProbes (nested c.args.kinds.now) l probes) counts c.in_ok-probes.ensures in
    let nodes : AreAllNodes g.T.Theory.label_of g.T.Theory.atom_holds t (lists_of values) probes (length t.found) (lists_of c.in_ok-nodes.nodes.items) = subst (λ l. AreAllNodes g.T.Theory.label_of g.T.Theory.atom_holds t (lists_of values) (map plain_probe l) (length t.found) (lists_of c.in_ok-nodes.nodes.items)) c.deref-2.ensures.value c.in_ok-nodes.ensures.nodes in
    let many : length t.found ≡ length c.deref-3.result.now = omega (arith, nodes.many, length-map c.in_ok-nodes.nodes.items (λ v. v.items), ap length c.deref-3.ensures.value) in
    subst (λ n. AreBelow n c.deref-3.result.now) many
    (are_below (g.T.Theory.meaning c.args.theory.now) t (g.met.T.Theory.keeps_labels c.args.theory.now) (lists_of values) (nested c.args.kinds.now) c.requires.space probes are (lists_of c.in_ok-nodes.nodes.items) nodes c.deref-3.result.now (ap lists_of c.deref-3.ensures.value))

pub returns-clause-few : goal.returns-clause-few
returns-clause-few g c =
    let same : length c.in_ok-numbers.numbers.items ≡ length (lists_of c.deref-3.result.now) = c.in_ok-numbers.ensures.numbers.many in
    omega (arith, c.in_ok-blocks.ensures.few, ap length c.deref-4.ensures.value, same, length-map c.deref-3.result.now (λ v. v.items), ap length c.deref-3.ensures.value, c.in_ok-nodes.ensures.few)

pub returns-clause-partition : goal.returns-clause-partition
returns-clause-partition g c =
    let t = c.args.steps.now.table.now in
    let values = c.args.steps.now.values.items in
    let probes = map plain_probe c.in_ok-probes.probes.items in
    let counts : map (λ v. length v.items) c.deref.result.now ≡ map length (lists_of values) = ap (map (λ v. length v.items)) c.deref.ensures.value ∙ sym (map-map length (λ v. v.items) values) in
    let are : ArePlainProbes (nested c.args.kinds.now) (map length (lists_of values)) probes = subst (λ l. ArePlainProbes (nested c.args.kinds.now) l probes) counts c.in_ok-probes.ensures in
    let nodes : AreAllNodes g.T.Theory.label_of g.T.Theory.atom_holds t (lists_of values) probes (length t.found) (lists_of c.in_ok-nodes.nodes.items) = subst (λ l. AreAllNodes g.T.Theory.label_of g.T.Theory.atom_holds t (lists_of values) (map plain_probe l) (length t.found) (lists_of c.in_ok-nodes.nodes.items)) c.deref-2.ensures.value c.in_ok-nodes.ensures.nodes in
    let refined : AreRefined (lists_of c.in_ok-nodes.nodes.items) c.in_ok-start.start.items c.in_ok-numbers.numbers.items = subst (λ l. AreRefined (lists_of l) c.in_ok-start.start.items c.in_ok-numbers.numbers.items) c.deref-3.ensures.value c.in_ok-numbers.ensures in
    is_partition (g.T.Theory.meaning c.args.theory.now) t (g.met.T.Theory.keeps_labels c.args.theory.now) (lists_of values) (nested c.args.kinds.now) c.requires.space probes are (lists_of c.in_ok-nodes.nodes.items) nodes c.args.state c.in_ok-start.start.items c.in_ok-start.ensures
    c.in_ok-numbers.numbers.items refined c.in_ok-blocks.blocks.firsts.items c.in_ok-blocks.blocks.dense.items (subst (λ l. IsDense (length l) l c.in_ok-blocks.blocks.firsts.items c.in_ok-blocks.blocks.dense.items) c.deref-4.ensures.value c.in_ok-blocks.ensures.dense)
