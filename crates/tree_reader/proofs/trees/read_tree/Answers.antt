use Rattle.std.proofs.Common.{sym, ap, ◌∙◌, ◌∷◌, [], map}
use Rattle.std.proofs.lemmas.List.{map-append}
use Rattle.label_reader.proofs.Exits.{exit, sign_next}
use Rattle.tree_reader.specs.Plain.{plain_tree}
use Rattle.tree_reader.proofs.Growing.{trees_start, trees_deeper, trees_deeper_fails, trees_higher, trees_end}
use Rattle.tree_reader.proofs.trees.read_tree.Goals as goal

pub nodes-init : goal.nodes-init
nodes-init c = trees_start _ c.new-around.ensures.items c.in_ok-here.ensures.opens

pub returns-in_default : goal.returns-in_default
returns-in_default c = let next = c.is_next.ensures.yes c.if-not-is_next.false in trees_end c.nodes.here c.close_tree-tree.result c.nodes.around.items (sym c.nodes.around.ok.0 ∙ c.in_default.ensures.cases.0) c.close_tree-tree.ensures next (sign_next c.nodes.reader next c.advance.ensures) c.nodes.invariant

pub nodes-preserved : goal.nodes-preserved
nodes-preserved c = let next = c.is_next.ensures.yes c.if-not-is_next.false in trees_higher c.nodes.here c.in-Some.outer c.close_tree-tree.result c.nodes.around.items c.pop.new.self.items (map plain_tree c.push-in-nodes.new.self.items) c.in-Some.ensures.items c.close_tree-tree.ensures (ap (λ l. map plain_tree l) c.in_ok-push-2.ensures.items ∙ map-append plain_tree c.in-Some.outer.children.items (c.close_tree-tree.result ∷ [])) next (sign_next c.nodes.reader next c.advance.ensures) c.nodes.invariant

pub returns-in_err-here-2 : goal.returns-in_err-here-2
returns-in_err-here-2 c = exit _ _ _ _ c.from_residual-in_err-here-2.result c.from_residual-in_err-here-2.ensures.1 (trees_deeper_fails _ c.nodes.here c.nodes.around.items (c.is_next.ensures.no c.if-not-is_next.true) c.nodes.invariant c.in_err-here-2.ensures.opens)

pub nodes-preserved-then-not-is_next : goal.nodes-preserved-then-not-is_next
nodes-preserved-then-not-is_next c = trees_deeper c.nodes.here c.nodes.around.items c.push.new.self.items c.in_ok-push.ensures.items (c.is_next.ensures.no c.if-not-is_next.true) c.nodes.invariant c.in_ok-here-2.ensures.opens
