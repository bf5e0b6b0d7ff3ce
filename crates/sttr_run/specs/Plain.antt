-- Ways as contracts see them.
use Rattle.std.specs.Prelude.{Bool, map}
use Rattle.std.specs.Option.{option_map}
use Rattle.model_tree.specs.Label.{Label}
use Rattle.model_tree.specs.Formula.{formula_holds}
use Rattle.label_core.specs.Formula.{plain_formula}
use Rattle.model_sttr.specs.Terms.{on, build, Parts, no_parts, part, with_maps}
use Rattle.model_sttr.specs.Terms as plain
use Rattle.model_sttr.specs.Transducer.{identity, run}
use Rattle.model_sttr.specs.Transducer as meant
use Rattle.sttr_core.specs.Machine.{OutMachine, plain_out}
use Rattle.sttr_theory.specs.Triples as theory
use Rattle.sttr_run.specs.declared.triples.Head.{Head}
use Rattle.sttr_run.specs.declared.triples.Head.TheVariants.{Same, Run}
use Rattle.sttr_run.specs.declared.triples.Triple.{Triple}
use Rattle.sttr_run.specs.declared.triples.Way.{Way}
use Rattle.sttr_run.specs.declared.triples.WayTerm.{WayTerm, Call, Node', Row_of-WayTerm, end_of-WayTerm, more_of-WayTerm}
use Rattle.sttr_run.specs.declared.running.Second.{Second}

abbrev pub plain_head : Head → meant.Head
plain_head Same = identity
plain_head (Run q) = run q

abbrev pub plain_triple : Triple → theory.Triple
plain_triple t = record { first = plain_head t.first; all = t.all.items; second = option_map plain_head t.second }

-- the second as a transducer
abbrev pub plain_second : {A M : Type 0} → Second A M → OutMachine A M
plain_second s = record { looks = s.looks.now; rules = map (λ those. map plain_out those.items) s.rules.now }

module _ {M : Type 0} where
  abbrev mutual
    pub plain_way_term : WayTerm M → plain.Term theory.Triple M
    plain_way_term (Call t j) = on (plain_triple t) j
    plain_way_term (Node' c m shape ps) = build c m (plain_way_parts ps)

    pub plain_way_parts : {n : _} → Row_of-WayTerm M n → Parts theory.Triple M
    plain_way_parts end_of-WayTerm = no_parts
    plain_way_parts (more_of-WayTerm p ps) = part (plain_way_term p) (plain_way_parts ps)

module _ {A M : Type 0} (holds : A → Label → Bool) (make : M → Label → Label) where
  -- the way over labels
  abbrev pub way_at : Way A M → theory.Way Label
  way_at y = record {
    guard = λ l. formula_holds (λ a. holds a l) (plain_formula y.guard);
    demands = map (λ d. map plain_triple d.items) y.demands.items;
    term = option_map (λ z. with_maps make (plain_way_term z)) y.term;
  }
