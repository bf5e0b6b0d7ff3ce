-- The words by which the parts of a rule go on.
use Rattle.std.specs.Prelude.{◌≡◌, ◌⊎◌}
use Rattle.model_program.specs.declared.Word.{Word}
use Rattle.model_program.specs.declared.Word.TheVariants.{Where, Given, RoundOpen, Arrow}
use Rattle.model_grammar.specs.declared.Level.TheVariants.{E}
use Rattle.label_reader.specs.Levels.{GoesOn}

-- a guard that may be left out
abbrev pub guard_words : Word → Type 0
guard_words w = (w ≡ Where) ⊎ GoesOn E w

-- demands, and what stands before them
abbrev pub given_words : Word → Type 0
given_words w = ((w ≡ Given) ⊎ (w ≡ RoundOpen)) ⊎ guard_words w

abbrev pub rule_words : Word → Type 0
rule_words w = given_words w

-- an output type that may be left out
abbrev pub arrow_word : Word → Type 0
arrow_word w = w ≡ Arrow
