-- Parts of what fails at a node.
use Rattle.std.specs.Prelude.{ℕ, ◌==◌, not, List, length}
use Rattle.fast_fault.specs.declared.code.Code.TheVariants.{WrongRank}
use Rattle.fast_fault.specs.declared.refusal.Refusal.{Refusal}
use Rattle.model_tree.specs.Signature.{PlainSignature, names_of}
use Rattle.model_program.specs.Syntax.{Name}
use Rattle.model_checks.specs.Failures.{fails_if}
use Rattle.model_meaning.specs.Outputs.{number_named}
use Rattle.model_run.specs.Texts.{head_failures}

-- the name of the constructor, over so many children
abbrev pub name_failures : PlainSignature → Name → ℕ → List Refusal
name_failures signature name children = head_failures signature (number_named (names_of signature) name.text) children name.place

-- the number of labels
abbrev pub count_failures : PlainSignature → Name → ℕ → List Refusal
count_failures signature name labels = fails_if (not (length signature.fields == labels)) WrongRank name.place
