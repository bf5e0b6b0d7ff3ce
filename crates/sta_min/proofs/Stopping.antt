-- What stops the search for values.
use Rattle.std.proofs.Common.{Bool, List}
use Rattle.model_tree.specs.Formula.{Formula}
use Rattle.model_tree.specs.Label.{Label}
use Rattle.label_core.specs.Meaning.{Meaning}
use Rattle.sta_classes.specs.Stop.{ClassStopsFor}
use Rattle.sta_classes.specs.declared.stop.ClassStop.{ClassStop}
use Rattle.sta_classes.specs.declared.stop.ClassStop.TheVariants.{Classes, Wide, Memory}

-- what is stopped without too many classes is stopped whatever they are
pub any_stop : {A V W : Type 0} {label_of : V → Label} {holds : A → Label → Bool} (M : Meaning label_of holds W) (many : Type 0) (guards : List (Formula A)) (stop : ClassStop W) → ClassStopsFor M ⊥ guards stop → ClassStopsFor M many guards stop
any_stop M many guards Classes h = absurd h
any_stop M many guards (Wide w) h = h
any_stop M many guards Memory h = h
