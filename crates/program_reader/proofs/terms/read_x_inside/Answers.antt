use Rattle.std.proofs.Common.{sym, ◌∙◌, arith}
use Rattle.label_reader.proofs.Exits.{exit}
use Rattle.program_reader.proofs.Growing.{leaves_fewer, one_fewer, nodes_start, nodes_deeper, nodes_deeper_fails, nodes_higher, nodes_higher_fails, nodes_end}
use Rattle.program_reader.proofs.terms.read_x_inside.Goals as goal

pub nodes-init : goal.nodes-init
nodes-init c = nodes_start _ c.new-around.ensures.items c.in_ok-here.ensures

pub returns-in_err-here-in-Part : goal.returns-in_err-here-in-Part
returns-in_err-here-in-Part c = exit _ _ _ _ c.from_residual-in_err-here-in-Part.result c.from_residual-in_err-here-in-Part.ensures.1 (nodes_deeper_fails _ c.in-Part.node c.nodes.around.items c.in-Part.is c.nodes.invariant c.in_err-here-in-Part.ensures.begins)

pub nodes-preserved-in-Part : goal.nodes-preserved-in-Part
nodes-preserved-in-Part c = nodes_deeper c.in-Part.node c.nodes.around.items c.push.new.self.items c.in-Part.is c.in_ok-push-in-Part.ensures.items c.nodes.invariant c.in_ok-here-in-Part.ensures.begins

pub returns-in_default : goal.returns-in_default
returns-in_default c = nodes_end c.in-Whole.x c.nodes.around.items c.in-Whole.is (sym c.nodes.around.ok.0 ∙ c.in_default.ensures.cases.0) c.nodes.invariant

pub returns-in_err-here-in-Whole : goal.returns-in_err-here-in-Whole
returns-in_err-here-in-Whole c = exit _ _ _ _ c.from_residual-in_err-here-in-Whole.result c.from_residual-in_err-here-in-Whole.ensures.1 (nodes_higher_fails _ c.in-Whole.x c.in-Some.node c.nodes.around.items c.pop.new.self.items c.in-Whole.is c.in-Some.ensures.items c.nodes.invariant c.in_err-here-in-Whole.ensures)

pub nodes-smaller : goal.nodes-smaller
nodes-smaller c = let a = leaves_fewer _ _ c.in_ok-here-in-Whole.ensures in let b = one_fewer c.nodes.around.items c.pop.new.self.items c.in-Some.node c.in-Some.ensures.items in omega (arith, a, b)

pub nodes-preserved : goal.nodes-preserved
nodes-preserved c = nodes_higher c.in-Whole.x c.in-Some.node c.nodes.around.items c.pop.new.self.items c.in-Whole.is c.in-Some.ensures.items c.nodes.invariant c.in_ok-here-in-Whole.ensures
