-- What is so of an item whose compositions can't be made.
use Rattle.std.proofs.Common.{ℕ, List}
use Rattle.model_grammar.specs.Syntax.{Item}
use Rattle.model_run.specs.Outcomes.{trees_in}
use Rattle.fast_compose.specs.Stops.{IsComposeCause}
use Rattle.fast_compose.specs.declared.stops.ComposeStop.{ComposeStop}
use Rattle.fast_compose.specs.declared.stops.ComposeStop.TheVariants.{Classes, Wide, NotComposable, TooLarge}
use Rattle.fast_compose.specs.declared.stops.ComposeStop.TheVariants as composing
use Rattle.fast_session.specs.declared.answers.Stopped.{Stopped}
use Rattle.fast_session.specs.declared.answers.Stopped.TheVariants.{By, Memory}
use Rattle.fast_session.specs.declared.items.Kept.{Kept}
use Rattle.fast_session.specs.Answers.{stopped_composing}
use Rattle.fast_session.specs.Items.{IsStoppedAt, IsAlwaysStopped}

-- it has the cause, whatever was printed before
pub composing_stops : (items : List Item) (limit : ℕ) (item : Item) (s : ComposeStop) → IsComposeCause items limit item.body s → IsAlwaysStopped items limit item (stopped_composing limit s)
composing_stops items limit item Classes cause = (λ trees shown. cause trees, tt)
composing_stops items limit item (Wide c) cause = (λ trees shown. cause trees, tt)
composing_stops items limit item (NotComposable u) cause = (cause.0, cause.1)
composing_stops items limit item TooLarge cause = (λ trees shown. cause trees, tt)
composing_stops items limit item composing.Memory cause = tt

-- so it has it here
pub stopped_here : (items : List Item) (limit : ℕ) (item : Item) (old : Kept) (s : Stopped) → IsAlwaysStopped items limit item s → IsStoppedAt items limit item old s
stopped_here items limit item old (By cause) stop = (λ done told shown. stop.0 (trees_in done) shown, stop.1)
stopped_here items limit item old Memory stop = tt
