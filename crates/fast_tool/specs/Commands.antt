-- The form of words that a command is, and what is asked of trees.
use Rattle.std.specs.Prelude.{◌≡◌, ◌≤◌, ℕ, List, codes, decimal}
use Rattle.model_names.specs.Kinds.{Kind, language, transformation}
use Rattle.model_run.specs.Words.{CommandForm, check_form, run_form, apply_form, accepts_form, self_form}
use Rattle.fast_tool.specs.declared.words.Command.{Command}
use Rattle.fast_tool.specs.declared.words.Command.TheVariants.{Check, Run, Answer, Generated}
use Rattle.fast_tool.specs.declared.words.Question.{Question}
use Rattle.fast_tool.specs.declared.words.Question.TheVariants.{Inside, Outputs}

-- the kind of the name by which trees are answered
abbrev pub kind_asked : Question → Kind
kind_asked Inside = language
kind_asked Outputs = transformation

abbrev pub verb_asked : Question → List ℕ
verb_asked Inside = codes "accepts"
verb_asked Outputs = codes "apply"

abbrev pub asked_form : Question → List ℕ → List ℕ → List ℕ → CommandForm
asked_form Inside = accepts_form
asked_form Outputs = apply_form

abbrev pub command_form : Command → CommandForm
command_form (Check file) = check_form file.now
command_form (Run file limit) = run_form file.now limit
command_form (Answer asked) = asked_form asked.question asked.file.now asked.name.now asked.trees.now
command_form (Generated number) = self_form number

-- the word is a number from 1 to the given one, and this is the number
abbrev pub IsNumber : ℕ → List ℕ → ℕ → Type 0
IsNumber most word n = (1 ≤ n) × (n ≤ most) × (word ≡ decimal n)
