-- What reading a text answers.
use Rattle.std.specs.Prelude.{Result, Err}
use Rattle.fast_fault.specs.declared.refusal.Refusal.{Refusal}
use Rattle.text_reader.specs.declared.texts.ReadStop.{ReadStop}
use Rattle.text_reader.specs.declared.texts.ReadStop.TheVariants.{Refused}

-- a fact of a refusal
abbrev pub IfRefused : {T : Type 0} → Result T ReadStop → (Refusal → Type 0) → Type 0
IfRefused (Err (Refused refusal)) fact = fact refusal
IfRefused _ fact = Unit {0}
