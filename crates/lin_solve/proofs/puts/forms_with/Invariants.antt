use Rattle.std.proofs.Common.{◌≡◌, List, length, take}
use Rattle.std.proofs.Math.IntN.{ℤ}
use Rattle.std.proofs.Math.ListN.{set}
use Rattle.model_form.specs.Form.{value}
use Rattle.model_form.specs.Meaning.{values_of, AreFormsLow}
use Rattle.lin_solve.proofs.puts.forms_with.Given as goal

abbrev pub invariant-loop-field : goal.invariant-loop-field
invariant-loop-field l = record {
  forms : (vs : List ℤ) → length vs ≡ 8 → values_of l.forms.items vs ≡ take l.field (set vs l.own (value l.form vs));
  low : AreFormsLow l.forms.items;
}
